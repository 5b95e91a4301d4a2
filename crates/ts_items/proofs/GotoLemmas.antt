-- Where sets lead, symbol by symbol.
use Rattle.std.proofs.Common.{◌≡◌, ◌∙◌, sym, ap, refl, subst, ℕ, ◌+◌, ◌<◌, ◌≤◌, ◌⊎◌, inl, inr, ⊎_elim, List, [], ◌∷◌, ◌++◌, length, slice_get, Some, None, arith, ◌↔◌}
use Rattle.std.specs.Global.{Vec}
use Rattle.std.specs.List.{Contains}
use Rattle.std.specs.List.Sorted.{IsStrictlySortedBy}
use Rattle.std.proofs.lemmas.List.Elements.{Contains-append_left, Contains-push, Contains-push_cases}
use Rattle.std.proofs.lemmas.Bool.{cases_lt}
use Rattle.std.proofs.lemmas.Option.{slice_get_within}
use Rattle.ts_core.specs.declared.flat.FlatGrammar.{FlatGrammar}
use Rattle.spec_tables.specs.Items.{Line, Item, Valid, start_item}
use Rattle.ts_bits.specs.declared.set.BitSet.{BitSet}
use Rattle.ts_bits.specs.Members.{Has}
use Rattle.ts_items.specs.declared.part.Part.{Part}
use Rattle.ts_items.specs.declared.part.Goto.{Goto}
use Rattle.ts_items.specs.Productions.{right_of}
use Rattle.ts_items.specs.Parts.{line_of, In}
use Rattle.ts_items.specs.Sets.{HasAt}
use Rattle.ts_items.specs.Closing.{AtDot, Closed, SameItems, MovesPast, IsLinePart, Closes, AddsSets}
use Rattle.ts_items.specs.Numbers.{part_cmp, AreMoved, IsOrdered, IsKernelOf, AreStates, HasRows, AreGotos, AreOnce, Enters, EntersGoto, Collecting}
use Rattle.ts_items.proofs.ListLemmas.{cases_lt_or_eq, one_at, at_grown, snoc_at, none_in_nil, none_at_nil, there, some_at}
use Rattle.ts_items.proofs.StateLemmas.{row_moves, row_state, state_grown, same_both}
use Rattle.ts_items.proofs.ClosureLemmas.{first_valid}

pub enters_some : (parts : List Part) (kernel : Vec Part) (old new : List (Vec Part)) → ((parts ≡ []) → ⊥) → IsOrdered parts kernel.items → AddsSets old new
    → ((n : ℕ) (k : Vec Part) → slice_get new n ≡ Some k → (slice_get old n ≡ Some k) ⊎ (k.items ≡ kernel.items)) → (AreOnce old → AreOnce new) → Enters parts old new
enters_some parts kernel old new some order grows of once = record {
  grows = grows;
  of = λ n k at. ⊎_elim (λ w. inl w) (λ e. inr (subst (λ (l : List Part). IsOrdered parts l) (sym e) order, some)) (of n k at);
  once = once;
}

pub goto_some : (kernels : List (Vec Part)) (symbol n : ℕ) (parts : List Part) (kernel : Vec Part) (old new : List Goto) → ((parts ≡ []) → ⊥) → IsOrdered parts kernel.items → (k : Vec Part) × (slice_get kernels n ≡ Some k) × (k.items ≡ kernel.items)
    → new ≡ old ++ record { symbol = symbol; state = n } ∷ [] → EntersGoto kernels symbol parts old new
goto_some kernels symbol n parts kernel old new some order w is = record {
  none = λ e. absurd (some e);
  some = λ f. (n, w.0, w.1, subst (λ (l : List Part). IsOrdered parts l) (sym w.2) order, is);
}

-- the states after one more row
pub states_step : (g : FlatGrammar) (lines x : ℕ) (pool : List BitSet) (parts : List Part) (rows old new : List (Vec Part)) (row : Vec Part) (items : List Part) → HasRows g lines pool parts rows → slice_get rows x ≡ Some row → items ≡ row.items → Enters items old new
    → AreStates g lines pool old → AreStates g lines pool new
states_step g lines x pool parts rows old new row items over at same enters are n k here = ⊎_elim (λ w. are n k w)
    (λ w. row_state g lines pool parts rows over x row k.items at (subst (λ (l : List Part). IsOrdered l k.items) same w.0) (λ e. w.1 (same ∙ e))) (enters.of n k here)

pub gotos_none : (g : FlatGrammar) (pool : List BitSet) (kernels : List (Vec Part)) (parts : List Part) (gotos : List Goto) → gotos ≡ [] → AreGotos g pool kernels parts 0 gotos
gotos_none g pool kernels parts gotos empty = record {
  leads = λ e h. absurd (none_in_nil e (subst (λ (l : List Goto). Contains l e) empty h));
  under = λ e h. absurd (none_in_nil e (subst (λ (l : List Goto). Contains l e) empty h));
  all = λ x i lt h at. absurd (omega (arith, lt));
  rise = λ j k a b lt ha hb. absurd (none_at_nil j a (subst (λ (l : List Goto). slice_get l j ≡ Some a) empty ha));
}

module _ (g : FlatGrammar) (lines x : ℕ) (pool : List BitSet) (parts : List Part) (rows old new : List (Vec Part)) (row : Vec Part) (items : List Part) (over : HasRows g lines pool parts rows) (at : slice_get rows x ≡ Some row) (same : items ≡ row.items) (enters : Enters items old new)
    (gs hs : List Goto) (enters_goto : EntersGoto new x items gs hs) (before : AreGotos g pool old parts x gs) where
  kept : (e : Goto) → Contains gs e → (k : Vec Part) × (slice_get new e.state ≡ Some k) × SameItems (In pool k.items) (MovesPast g (In pool parts) e.symbol)
  kept e h = let w = before.leads e h in (w.0, at_grown old new enters.grows.more e.state w.0 enters.grows.is w.1, w.2)

  -- a part with its dot before the symbol is in the row
  in_row : (i : Item) → In pool parts i → AtDot g i x → (p : Part) × Contains items p
  in_row i h dot =
      let q = h.part in
      let p : Part = record q { dot = q.dot + 1 } in
      let here : slice_get (right_of g (line_of q.line)) q.dot ≡ Some x = subst (λ (d : ℕ). slice_get (right_of g (line_of q.line)) d ≡ Some x) h.is.dot (subst (λ (l : Line). slice_get (right_of g l) i.dot ≡ Some x) h.is.line dot) in
      let w = (over.moved x p).1 (record { by = q; there = h.there; gives = (here, refl) }) in
      (p, subst (λ (l : List Part). Contains l p) (sym same) (subst (λ (v : Vec Part). Contains v.items p) (one_at rows x w.row row w.at at) w.has))

  empty : items ≡ [] → AreGotos g pool new parts (x + 1) hs
  empty e = subst (AreGotos g pool new parts (x + 1)) (sym (enters_goto.none e)) (record {
    leads = kept;
    under = λ d h. let lt = before.under d h in omega (arith, lt);
    all = λ y i lt h dot. ⊎_elim (λ w. before.all y i w h dot)
        (λ w. let p = in_row i h (subst (AtDot g i) w dot) in absurd (none_in_nil p.0 (subst (λ (l : List Part). Contains l p.0) e p.1))) (cases_lt_or_eq y x lt);
    rise = before.rise;
  })

  filled : ((items ≡ []) → ⊥) → AreGotos g pool new parts (x + 1) hs
  filled f =
      let w = enters_goto.some f in
      let one : Goto = record { symbol = x; state = w.0 } in
      let is : hs ≡ gs ++ one ∷ [] = w.4 in
      subst (AreGotos g pool new parts (x + 1)) (sym is) (record {
        leads = λ e h. ⊎_elim (λ v. kept e v)
            (λ v. subst (λ (d : Goto). (k : Vec Part) × (slice_get new d.state ≡ Some k) × SameItems (In pool k.items) (MovesPast g (In pool parts) d.symbol)) v
            (w.1, w.2, row_moves g lines pool parts rows over x row w.1.items at (subst (λ (l : List Part). IsOrdered l w.1.items) same w.3)))
            (Contains-push_cases gs one e h);
        under = λ e h. ⊎_elim (λ v. let lt = before.under e v in omega (arith, lt)) (λ v. let s = ap (λ (d : Goto). d.symbol) v in omega (arith, s)) (Contains-push_cases gs one e h);
        all = λ y i lt h dot. ⊎_elim (λ v. let r = before.all y i v h dot in (r.0, Contains-append_left gs (one ∷ []) r.0 r.1, r.2)) (λ v. (one, Contains-push gs one, sym v)) (cases_lt_or_eq y x lt);
        rise = λ j k a b lt ha hb. ⊎_elim
            (λ v. ⊎_elim (λ u. before.rise j k a b lt u v) (λ u. absurd (let s = slice_get_within gs k b v in let z = u.0 in omega (arith, s, z, lt))) (snoc_at gs one a j ha))
            (λ v. ⊎_elim (λ u. let s = before.under a (there gs j a u) in let z = ap (λ (d : Goto). d.symbol) v.1 in omega (arith, s, z)) (λ u. absurd (let z = u.0 in let y = v.0 in omega (arith, z, y, lt))) (snoc_at gs one a j ha))
            (snoc_at gs one b k hb);
      })

  pub gotos_step : AreGotos g pool new parts (x + 1) hs
  gotos_step = by items refl
    where
      by : (l : List Part) → items ≡ l → AreGotos g pool new parts (x + 1) hs
      by [] e = empty e
      by (p ∷ ps) e = filled (λ z. let u : ◌≡◌ {A = List Part} (p ∷ ps) [] = sym e ∙ z in cc)

pub gotos_end : (g : FlatGrammar) (pool : List BitSet) (kernels : List (Vec Part)) (parts : List Part) (n m : ℕ) (gs : List Goto) → n ≡ m → AreGotos g pool kernels parts n gs → AreGotos g pool kernels parts m gs
gotos_end g pool kernels parts n m gs e h = subst (λ (k : ℕ). AreGotos g pool kernels parts k gs) e h

-- ---- the start

module _ (g : FlatGrammar) (lines count tokens : ℕ) (pool : List BitSet) (start : Vec Part) (old new : List (Vec Part)) (inside : tokens < length pool) (set : (t : ℕ) → HasAt pool tokens t ↔ (t ≡ 0)) (is : start.items ≡ record { line = 0; dot = 0; tokens = tokens } ∷ []) (none : old ≡ [])
    (of : (n : ℕ) (k : Vec Part) → slice_get new n ≡ Some k → (slice_get old n ≡ Some k) ⊎ (k.items ≡ start.items)) (once_is : AreOnce old → AreOnce new) (m : ℕ) (place : (k : Vec Part) × (slice_get new m ≡ Some k) × (k.items ≡ start.items)) where
  abbrev one : Part
  one = record { line = 0; dot = 0; tokens = tokens }

  all : (n : ℕ) (k : Vec Part) → slice_get new n ≡ Some k → k.items ≡ one ∷ []
  all n k at = ⊎_elim (λ w. absurd (none_at_nil n k (subst (λ (l : List (Vec Part)). slice_get l n ≡ Some k) none w))) (λ e. e ∙ is) (of n k at)

  once : AreOnce new
  once = once_is (λ i j a b ai bj same. absurd (none_at_nil i a (subst (λ (l : List (Vec Part)). slice_get l i ≡ Some a) none ai)))

  only : (q : Part) → Contains (one ∷ []) q → one ≡ q
  only q h = ⊎_elim (λ w. absurd (none_in_nil q w)) (λ w. w) (Contains-push_cases [] one q h)

  starts : (k : Vec Part) → k.items ≡ one ∷ [] → SameItems (In pool k.items) (λ i. i ≡ start_item)
  starts k e i = (to, from)
    where
      to : In pool k.items i → i ≡ start_item
      to h =
          let q : one ≡ h.part = only h.part (subst (λ (l : List Part). Contains l h.part) e h.there) in
          let line : i.line ≡ None = h.is.line ∙ ap (λ (p : Part). line_of p.line) (sym q) in
          let dot : i.dot ≡ 0 = h.is.dot ∙ ap (λ (p : Part). p.dot) (sym q) in
          let token : i.token ≡ 0 = (set i.token).0 (record { set = h.is.set; at = subst (λ (p : Part). slice_get pool p.tokens ≡ Some h.is.set) (sym q) h.is.at; has = h.is.has }) in
          λ z. record { line = line z; dot = dot z; token = token z }

      from : i ≡ start_item → In pool k.items i
      from s =
          let has = (set 0).1 refl in
          subst (In pool k.items) (sym s) (record { part = one; there = subst (λ (l : List Part). Contains l one) (sym e) (Contains-push [] one); is = record { line = refl; dot = refl; set = has.set; at = has.at; has = has.has } })

  state : (sorted : IsStrictlySortedBy part_cmp (one ∷ [])) (k : Vec Part) → k.items ≡ one ∷ [] → IsKernelOf g lines pool k.items
  state sorted k e = record {
    read = [];
    valid = first_valid g (In pool k.items) (starts k e);
    one = one;
    has = subst (λ (l : List Part). Contains l one) (sym e) (Contains-push [] one);
    parts = λ q h. subst (IsLinePart lines pool) (only q (subst (λ (l : List Part). Contains l q) e h)) (record { line = omega arith; tokens = inside; some = (0, (set 0).1 refl) });
    kernel_is = record {
      dot = λ q h. inr (ap (λ (p : Part). p.line) (sym (only q (subst (λ (l : List Part). Contains l q) e h))));
      apart = λ p q hp hq line dot. sym (only p (subst (λ (l : List Part). Contains l p) e hp)) ∙ only q (subst (λ (l : List Part). Contains l q) e hq);
    };
    order = subst (λ (l : List Part). IsStrictlySortedBy part_cmp l) (sym e) sorted;
  }

  pub begin_collecting : (sorted : IsStrictlySortedBy part_cmp (one ∷ [])) → Collecting g lines count pool new [] 0
  begin_collecting sorted =
      let f = some_at new 0 (let lt = slice_get_within new m place.0 place.1 in omega (arith, lt)) in
      record {
        first = f.0;
        first_at = f.1;
        start = starts f.0 (all 0 f.0 f.1);
        are = λ n k at. state sorted k (all n k at);
        once = once;
        size = refl;
        done = λ n s k at here. absurd (none_at_nil n s at);
      }

  pub begin_few : length new ≤ 65535
  begin_few = ⊎_elim (λ lt. absurd (let a = some_at new 0 (omega (arith, lt)) in let b = some_at new 1 (omega (arith, lt)) in let e = once 0 1 a.0 b.0 a.1 b.1 (all 0 a.0 a.1 ∙ sym (all 1 b.0 b.1)) in omega (arith, e)))
      (λ le. omega (arith, le)) (cases_lt 1 (length new))

-- the set of the end alone
pub end_set : (pool : List BitSet) (place n : ℕ) (s e : BitSet) → ((t : ℕ) → HasAt pool place t ↔ Has s t) → ((t : ℕ) → Has s t ↔ (Has e t ⊎ (t ≡ n))) → n ≡ 0 → ((t : ℕ) → Has e t → ⊥) → (t : ℕ) → HasAt pool place t ↔ (t ≡ 0)
end_set pool place n s e same members first none t = (
  (λ h. ⊎_elim (λ w. absurd (none t w)) (λ w. w ∙ first) ((members t).0 ((same t).0 h))),
  (λ h. (same t).1 ((members t).1 (inr (h ∙ sym first)))),
)

pub some_parts : (parts : List Part) → 0 < length parts → (parts ≡ []) → ⊥
some_parts parts some e = let z = ap (λ (l : List Part). length l) e in omega (arith, some, z)

pub single_sorted : (p : Part) → IsStrictlySortedBy part_cmp (p ∷ [])
unfolding IsStrictlySortedBy
single_sorted p = (tt, tt)

-- the parts of a set, and those past each symbol
pub over_of : (g : FlatGrammar) (lines : ℕ) (old new : List BitSet) (kernel parts : List Part) (rows : List (Vec Part)) → IsKernelOf g lines old kernel → AddsSets old new → Closes g lines new kernel parts → AreMoved g parts rows → HasRows g lines new parts rows
over_of g lines old new kernel parts rows state grows closes moved =
    let s = state_grown g lines old new kernel grows state in
    record { read = s.read; valid = same_both (In new parts) (Closed g (In new kernel)) (Valid g s.read) closes.items s.valid; are = closes.parts_are; apart = closes.apart s.kernel_is; moved = moved }

pub states_grown : (g : FlatGrammar) (lines : ℕ) (old new : List BitSet) (kernels : List (Vec Part)) → AddsSets old new → AreStates g lines old kernels → AreStates g lines new kernels
states_grown g lines old new kernels grows are n k at = state_grown g lines old new k.items grows (are n k at)

-- the same, as it was read
pub over_at : (g : FlatGrammar) (lines place : ℕ) (old new : List BitSet) (kernels : List (Vec Part)) (kernel parts slice : List Part) (items rows : List (Vec Part)) → (k : Vec Part) × (slice_get kernels place ≡ Some k) × (kernel ≡ k.items) → AreStates g lines old kernels → AddsSets old new
    → Closes g lines new kernel parts → slice ≡ parts → rows ≡ items → AreMoved g slice items → HasRows g lines new parts rows
over_at g lines place old new kernels kernel parts slice items rows k are grows closes same read moved =
    over_of g lines old new k.0.items parts rows (are place k.0 k.1) grows (subst (λ (l : List Part). Closes g lines new l parts) k.2 closes)
    (subst (AreMoved g parts) (sym read) (subst (λ (l : List Part). AreMoved g l items) same moved))
