-- The candidates of a set stand for its reductions and shift items.
use Rattle.std.proofs.Common.{◌≡◌, ◌∙◌, sym, ap, refl, subst, ℕ, ◌<◌, List, length, slice_get, Some, arith, ◌↔◌}
use Rattle.std.specs.List.{Contains}
use Rattle.ts_core.specs.declared.flat.FlatGrammar.{FlatGrammar}
use Rattle.spec_tables.specs.Items.{Line, Item, line_steps, CanBeginWith}
use Rattle.spec_tables.specs.Actions.{Reduces, ShiftItem}
use Rattle.ts_bits.specs.declared.set.BitSet.{BitSet}
use Rattle.ts_bits.specs.Members.{Has}
use Rattle.ts_items.specs.declared.part.Part.{Part}
use Rattle.ts_items.specs.declared.part.State.{State}
use Rattle.ts_items.specs.declared.part.Items.{Items}
use Rattle.ts_items.specs.Productions.{right_of}
use Rattle.ts_items.specs.Parts.{line_of, In}
use Rattle.ts_items.specs.Sets.{HasAt}
use Rattle.ts_items.specs.Collection.{IsReachedBy, StandsFor}
use Rattle.ts_table.specs.declared.candidates.Candidate.{Candidate}
use Rattle.ts_table.specs.Marks.{weight_of}
use Rattle.ts_table.specs.Candidates.{candidate_of, IsCompletePart, IsShiftPart, PicksFrom, StandsForItem, AreReductions}
use Rattle.ts_table.proofs.ItemLemmas.{line_some, line_number, dot_of, step_at, right_length, valid_of}

pub item_in : (pool : List BitSet) (parts : List Part) (q : Part) (u : ℕ) → Contains parts q → HasAt pool q.tokens u → In pool parts (record { line = line_of q.line; dot = q.dot; token = u })
item_in pool parts q u h has = record { part = q; there = h; is = record { line = refl; dot = refl; set = has.set; at = has.at; has = has.has } }

-- the candidate of a part stands for each item with its production and dot
pub stands_for_part : (g : FlatGrammar) (q : Part) (c : Candidate) (i : Item) → c ≡ candidate_of g q → i.line ≡ line_of q.line → i.dot ≡ q.dot → StandsForItem g c i
stands_for_part g q c i is line dot = record {
  line = line ∙ ap (λ (d : Candidate). line_of d.line) (sym is);
  weight = ap (λ (d : Candidate). d.weight) is ∙ ap (λ (l : Line). weight_of g l q.dot) (sym line) ∙ ap (weight_of g i.line) (sym dot);
}

module _ (g : FlatGrammar) (items : Items) (stands : StandsFor g items) (n : ℕ) (s : State) (at : slice_get items.states.items n ≡ Some s) (read : List ℕ) (reach : IsReachedBy items read n) where
  pub reductions_are : (token : ℕ) (complete : List Part) (cs : List Candidate) → ((q : Part) → Contains complete q ↔ (Contains s.parts.items q × IsCompletePart g q))
      → ((c : Candidate) → Contains cs c ↔ PicksFrom g complete (λ q. HasAt items.tokens.keys q.tokens token) c) → AreReductions g read token cs
  reductions_are token complete cs are members = record { only = only; all = all }
    where
      only : (c : Candidate) → Contains cs c → (i : Item) × Reduces g read token i × StandsForItem g c i
      only c h =
          let w = (members c).0 h in
          let q = w.0 in
          let p = (are q).0 w.1 in
          let i : Item = record { line = line_of q.line; dot = q.dot; token = token } in
          let k = line_number q.line p.1.0 in (
            i,
            record {
              number = k.0;
              valid = (valid_of g items stands n s read at reach i).0 (item_in items.tokens.keys s.parts.items q token p.0 w.2);
              line = k.1;
              complete = p.1.1 ∙ right_length g (line_of q.line);
              on = refl;
            },
            stands_for_part g q c i w.3 refl refl,
          )

      all : (i : Item) → Reduces g read token i → (c : Candidate) × Contains cs c × StandsForItem g c i
      all i r =
          let h = (valid_of g items stands n s read at reach i).1 r.valid in
          let q = h.part in
          let positive : 0 < q.line = let e = line_some q.line r.number (sym h.is.line ∙ r.line) in omega (arith, e) in
          let complete_is : q.dot ≡ length (right_of g (line_of q.line)) = sym h.is.dot ∙ r.complete ∙ ap (λ (l : Line). length (line_steps g l)) h.is.line ∙ sym (right_length g (line_of q.line)) in
          let has : HasAt items.tokens.keys q.tokens token = record { set = h.is.set; at = h.is.at; has = subst (Has h.is.set) r.on h.is.has } in (
            candidate_of g q,
            (members (candidate_of g q)).1 (q, (are q).1 (h.there, (positive, complete_is)), has, refl),
            stands_for_part g q (candidate_of g q) i refl h.is.line h.is.dot,
          )

  pub shift_item_of : (token : ℕ) (c : Candidate) → PicksFrom g s.parts.items (IsShiftPart g items.firsts.items token) c → (i : Item) × ShiftItem g read token i × StandsForItem g c i
  shift_item_of token c w =
      let q = w.0 in
      let some = ((stands.laid_out n s at).parts q w.1).some in
      let i : Item = record { line = line_of q.line; dot = q.dot; token = some.0 } in
      let x = w.2.1 in
      let st = step_at (line_steps g (line_of q.line)) q.dot x.0 x.1 in (
        i,
        record {
          valid = (valid_of g items stands n s read at reach i).0 (item_in items.tokens.keys s.parts.items q some.0 w.1 some.1);
          past = w.2.0;
          step = st.0;
          before = st.1;
          begins = subst (λ (y : ℕ). CanBeginWith g y token) (sym st.2) ((stands.firsts.members x.0 token).0 x.2);
        },
        stands_for_part g q c i w.3 refl refl,
      )

  pub of_shift_item : (token : ℕ) (i : Item) → ShiftItem g read token i → (c : Candidate) × PicksFrom g s.parts.items (IsShiftPart g items.firsts.items token) c × StandsForItem g c i
  of_shift_item token i r =
      let h = (valid_of g items stands n s read at reach i).1 r.valid in
      let q = h.part in
      let past : 0 < q.dot = let lt = r.past in let e = h.is.dot in omega (arith, lt, e) in
      let dot : slice_get (right_of g (line_of q.line)) q.dot ≡ Some r.step.symbol.0 = subst (λ (d : ℕ). slice_get (right_of g (line_of q.line)) d ≡ Some r.step.symbol.0) h.is.dot
      (subst (λ (l : Line). slice_get (right_of g l) i.dot ≡ Some r.step.symbol.0) h.is.line (dot_of g i.line i.dot r.step r.before)) in (
        candidate_of g q,
        (q, h.there, (past, (r.step.symbol.0, dot, (stands.firsts.members r.step.symbol.0 token).1 r.begins)), refl),
        stands_for_part g q (candidate_of g q) i refl h.is.line h.is.dot,
      )
