-- Rows of gotos, and what is known of a set of items.
use Rattle.std.proofs.Common.{◌≡◌, ◌∙◌, sym, ap, refl, subst, ℕ, zero, suc, ◌+◌, ◌<◌, ◌≤◌, ◌⊎◌, inl, inr, ⊎_elim, List, [], ◌∷◌, length, take, set, get_or, slice_get, ◌++◌, Option, Some, None, arith, ◌↔◌, Bool, true, false, nat_eq, if◌then◌else◌}
use Rattle.std.specs.Bool.{IsTrue}
use Rattle.std.specs.List.{Contains}
use Rattle.std.proofs.lemmas.Bool.Decides.{nat_tests}
use Rattle.std.proofs.lemmas.List.{take_more, length-map}
use Rattle.std.proofs.lemmas.List.Elements.{Contains-push_cases}
use Rattle.std.proofs.lemmas.Option.{get_or_from_slice_get}
use Rattle.ts_core.specs.declared.flat.FlatGrammar.{FlatGrammar}
use Rattle.spec_grammar.specs.Symbols.{all_productions, symbol_count, start_symbol}
use Rattle.spec_tables.specs.Items.{Line, Valid, advanced, start_item}
use Rattle.ts_bits.specs.declared.set.BitSet.{BitSet}
use Rattle.ts_bits.specs.Members.{Has}
use Rattle.ts_items.specs.declared.part.Part.{Part}
use Rattle.ts_items.specs.declared.part.Goto.{Goto}
use Rattle.ts_items.specs.declared.part.State.{State}
use Rattle.ts_items.specs.declared.part.Items.{Items}
use Rattle.ts_items.specs.Parts.{line_of}
use Rattle.ts_items.specs.Sets.{HasAt}
use Rattle.ts_items.specs.Collection.{IsReachedBy, IsGoto, StandsFor}
use Rattle.ts_table.specs.declared.marks.Mark.{Mark}
use Rattle.ts_table.specs.declared.marks.Marked.{Marked}
use Rattle.ts_table.specs.declared.marks.Marks.{Marks}
use Rattle.ts_table.specs.declared.candidates.Candidate.{Candidate}
use Rattle.ts_table.specs.declared.cells.Cell.{Cell}
use Rattle.ts_table.specs.declared.rows.Ready.{Ready}
use Rattle.ts_table.specs.Marks.{marked, AreMarksOf}
use Rattle.ts_table.specs.Arrays.{no_state, state_in}
use Rattle.ts_table.specs.Candidates.{IsShiftPart, PicksFrom, IsCompletePart, ComesAfter}
use Rattle.ts_table.specs.Deciding.{StaysOf}
use Rattle.ts_table.specs.Cells.{IsCellOf}
use Rattle.ts_table.specs.Rows.{AreGotoNumbers, HasAccept, IsReadySet, IsTokenCell, IsSource, AreRivalItems}
use Rattle.ts_table.proofs.ListLemmas.{one_at, at_of, in_of, read_at, in_left, in_right}
use Rattle.ts_table.proofs.ItemLemmas.{line_none, valid_of, goto_within}
use Rattle.ts_table.proofs.CandidateLemmas.{item_in, reductions_are, shift_item_of, of_shift_item}
use Rattle.ts_table.proofs.CellLemmas.{token_cell}

-- ---- the lines of parts

pub lines_are : (g : FlatGrammar) (m : Marks) → AreMarksOf g m → length m.productions.items ≡ length (all_productions g)
lines_are g m are =
    let a = length-map {B = ℕ × List Mark} m.productions.items (λ (p : Marked). (p.left, p.steps.items)) in
    let b = ap (λ (l : List (ℕ × List Mark)). length l) are.productions in
    let d = length-map (all_productions g) marked in
    omega (arith, a, b, d)

pub part_lines : (g : FlatGrammar) (m : Marks) (items : Items) (n : ℕ) (s : State) → IsSource g m items → slice_get items.states.items n ≡ Some s → (q : Part) → Contains s.parts.items q → q.line ≤ length m.productions.items
part_lines g m items n s source at q h = let le = ((source.sets.laid_out n s at).parts q h).line in let e = lines_are g m source.marks in omega (arith, le, e)

-- ---- rows of gotos

same_nat : (x y : ℕ) → nat_eq x y ≡ true → x ≡ y
same_nat x y h = grind (arith, nat_tests)

other_nat : (x y : ℕ) → (x ≡ y → ⊥) → nat_eq x y ≡ false
other_nat x y h = grind (arith, nat_tests)

nat_itself : (x : ℕ) → nat_eq x x ≡ true
nat_itself x = grind (arith, nat_tests)

pub state_is : (k m : ℕ) → state_in k ≡ Some m → (k ≡ m) × ((m ≡ no_state) → ⊥)
state_is k m e = by (nat_eq k no_state) refl e
  where
    by : (b : Bool) → nat_eq k no_state ≡ b → (if b then None else Some k) ≡ Some m → (k ≡ m) × ((m ≡ no_state) → ⊥)
    by true t f = absurd (let z : ◌≡◌ {A = Option ℕ} None (Some m) = f in cc)
    by false t f =
        let same : k ≡ m = (let z : Some k ≡ Some m = f in cc) in
        (same, (λ h. let y : false ≡ true = sym t ∙ ap (λ (j : ℕ). nat_eq j no_state) (same ∙ h) ∙ nat_itself no_state in cc))

pub is_state : (m : ℕ) → (m ≡ no_state → ⊥) → state_in m ≡ Some m
is_state m apart = ap (λ (b : Bool). if b then None else Some m) (other_nat m no_state apart)

-- the state at a place of a row is that of the goto
pub target_is : (items : Items) (n x k : ℕ) (s : State) (row : List ℕ) (count : ℕ) → slice_get items.states.items n ≡ Some s → length items.states.items ≤ no_state
    → ((m : ℕ) → IsGoto items n x m → m < length items.states.items) → AreGotoNumbers count s.gotos.items row → slice_get row x ≡ Some k → (m : ℕ) → (state_in k ≡ Some m) ↔ IsGoto items n x m
target_is items n x k s row count at few within are here m = (
  (λ e.
      let w = state_is k m e in
      ⊎_elim (λ z. absurd (w.1 (sym w.0 ∙ z))) (λ h. (s, at, subst (λ (j : ℕ). Contains s.gotos.items (record { symbol = x; state = j })) w.0 h)) (are.only x k here)),
  (λ w.
      let same = one_at items.states.items n w.0 s w.1 at in
      let h = subst (λ (r : State). Contains r.gotos.items (record { symbol = x; state = m })) same w.2 in
      let e = one_at row x k m here (are.all (record { symbol = x; state = m }) h) in
      ap state_in e ∙ is_state m (λ z. let lt = within m w in omega (arith, lt, few, z))),
)

set_here : (xs : List ℕ) (k v : ℕ) → k < length xs → slice_get (set xs k v) k ≡ Some v
set_here [] k v h = absurd (omega (arith, h))
set_here (x ∷ xs) zero v h = refl
set_here (x ∷ xs) (suc k) v h = set_here xs k v (omega (arith, h))

set_other : (xs : List ℕ) (k j v : ℕ) → (k ≡ j → ⊥) → slice_get (set xs k v) j ≡ slice_get xs j
set_other [] k j v h = refl
set_other (x ∷ xs) zero zero v h = absurd (h refl)
set_other (x ∷ xs) zero (suc j) v h = refl
set_other (x ∷ xs) (suc k) zero v h = refl
set_other (x ∷ xs) (suc k) (suc j) v h = set_other xs k j v (λ e. h (ap suc e))

set_size : (xs : List ℕ) (k v : ℕ) → length (set xs k v) ≡ length xs
set_size [] k v = refl
set_size (x ∷ xs) zero v = refl
set_size (x ∷ xs) (suc k) v = ap suc (set_size xs k v)

module _ (count k x : ℕ) (gotos : List Goto) (e : Goto) (row new : List ℕ) (below : k < length gotos) (is : slice_get gotos k ≡ Some e) (ex : x ≡ e.symbol) (inside : e.symbol < count)
    (rise : (i j : ℕ) (a b : Goto) → i < j → slice_get gotos i ≡ Some a → slice_get gotos j ≡ Some b → a.symbol < b.symbol) (newly : new ≡ set row x e.state) where
  grown : take (k + 1) gotos ≡ take k gotos ++ e ∷ []
  grown = take_more gotos k e below ∙ ap (λ (y : Goto). take k gotos ++ y ∷ []) (get_or_from_slice_get gotos k e e is)

  in_grown : (f : Goto) → Contains (take k gotos) f → Contains (take (k + 1) gotos) f
  in_grown f h = subst (λ (l : List Goto). Contains l f) (sym grown) (in_left (take k gotos) (e ∷ []) f h)

  e_grown : Contains (take (k + 1) gotos) e
  e_grown = subst (λ (l : List Goto). Contains l e) (sym grown) (in_right (take k gotos) (e ∷ []) e (in_of (e ∷ []) 0 e refl))

  at_take : (zs : List Goto) (n j : ℕ) (f : Goto) → slice_get (take n zs) j ≡ Some f → (j < n) × (slice_get zs j ≡ Some f)
  at_take [] zero j f h = absurd (let z : None ≡ Some f = h in cc)
  at_take [] (suc n) j f h = absurd (let z : None ≡ Some f = h in cc)
  at_take (z ∷ zs) zero j f h = absurd (let w : None ≡ Some f = h in cc)
  at_take (z ∷ zs) (suc n) zero f h = (omega arith, h)
  at_take (z ∷ zs) (suc n) (suc j) f h = let w = at_take zs n j f h in (let lt = w.0 in omega (arith, lt), w.1)

  apart : (f : Goto) → Contains (take k gotos) f → x ≡ f.symbol → ⊥
  apart f h same =
      let w = at_take gotos k h.0 f (at_of (take k gotos) f h) in
      let lt = rise h.0 k f e w.0 w.1 is in
      omega (arith, lt, same, ex)

  pub gotos_more : AreGotoNumbers count (take k gotos) row → AreGotoNumbers count (take (k + 1) gotos) new
  gotos_more are = record {
    size = ap (λ (l : List ℕ). length l) newly ∙ set_size row x e.state ∙ are.size;
    only = only;
    all = λ f h. ⊎_elim
        (λ w. subst (λ (l : List ℕ). slice_get l f.symbol ≡ Some f.state) (sym newly) (set_other row x f.symbol e.state (apart f w) ∙ are.all f w))
        (λ s. subst (λ (z : Goto). slice_get new z.symbol ≡ Some z.state) s (subst (λ (j : ℕ). slice_get new j ≡ Some e.state) ex (subst (λ (l : List ℕ). slice_get l x ≡ Some e.state) (sym newly) (set_here row x e.state within))))
        (Contains-push_cases (take k gotos) e f (subst (λ (l : List Goto). Contains l f) grown h));
  }
    where
      within : x < length row
      within = let size = are.size in omega (arith, size, inside, ex)

      only : (y m : ℕ) → slice_get new y ≡ Some m → (m ≡ no_state) ⊎ Contains (take (k + 1) gotos) (record { symbol = y; state = m })
      only y m h = by (nat_eq x y) refl
        where
          here : x ≡ y → (m ≡ no_state) ⊎ Contains (take (k + 1) gotos) (record { symbol = y; state = m })
          here same =
              let v : e.state ≡ m = one_at new y e.state m (subst (λ (j : ℕ). slice_get new j ≡ Some e.state) same (subst (λ (l : List ℕ). slice_get l x ≡ Some e.state) (sym newly) (set_here row x e.state within))) h in
              let whole : e ≡ record { symbol = y; state = m } = λ i. record { symbol = (sym ex ∙ same) i; state = v i } in
              inr (subst (Contains (take (k + 1) gotos)) whole e_grown)

          by : (b : Bool) → nat_eq x y ≡ b → (m ≡ no_state) ⊎ Contains (take (k + 1) gotos) (record { symbol = y; state = m })
          by true t = here (same_nat x y t)
          by false t =
              let old = sym (set_other row x y e.state (λ s. let z : false ≡ true = sym t ∙ ap (nat_eq x) (sym s) ∙ nat_itself x in cc)) ∙ subst (λ (l : List ℕ). slice_get l y ≡ Some m) newly h in
              ⊎_elim (λ z. inl z) (λ w. inr (in_grown (record { symbol = y; state = m }) w)) (are.only y m old)

-- ---- acceptance

pub accepts_is : (g : FlatGrammar) (items : Items) → StandsFor g items → (n : ℕ) (s : State) (read : List ℕ) → slice_get items.states.items n ≡ Some s → IsReachedBy items read n → HasAccept items.tokens.keys s.parts.items ↔ Valid g read (advanced start_item)
accepts_is g items stands n s read at reach = (
  (λ w.
      let q = w.0 in
      let i = (valid_of g items stands n s read at reach (record { line = line_of q.line; dot = q.dot; token = 0 })).0 (item_in items.tokens.keys s.parts.items q 0 w.1 w.2.2) in
      subst (λ (l : Line). Valid g read (record { line = l; dot = 1; token = 0 })) (ap line_of w.2.0) (subst (λ (d : ℕ). Valid g read (record { line = line_of q.line; dot = d; token = 0 })) w.2.1 i)),
  (λ v.
      let h = (valid_of g items stands n s read at reach (advanced start_item)).1 v in
      (h.part, h.there, (line_none h.part.line (sym h.is.line), sym h.is.dot, record { set = h.is.set; at = h.is.at; has = h.is.has }))),
)

-- ---- the cell of a token

pub cell_is : (g : FlatGrammar) (m : Marks) (items : Items) (set : Ready) (read : List ℕ) (token k : ℕ) (reduced shifts : List Candidate) (cell : Cell) → IsSource g m items → (ready : IsReadySet g items set) → token < start_symbol g → IsReachedBy items read set.at
    → slice_get set.gotos.items token ≡ Some k
    → ((c : Candidate) → Contains reduced c ↔ PicksFrom g set.complete.items (λ q. HasAt items.tokens.keys q.tokens token) c)
    → AreRivalItems g items ready.state token (state_in k) reduced shifts
    → IsCellOf g (state_in k) (Contains shifts) (StaysOf g reduced) cell → IsTokenCell g items set.at read token cell
cell_is g m items set read token k reduced shifts cell source ready few reach here picks rivals is =
    let st = source.sets in
    let at = ready.at in
    token_cell g items st source.fit set.at read reach token (omega (arith, few)) (state_in k)
    (target_is items set.at token k ready.state set.gotos.items (symbol_count g) at st.few (λ j w. goto_within g items st set.at token j w) ready.gotos here)
    reduced shifts
    (reductions_are g items st set.at ready.state at read reach token set.complete.items reduced ready.complete picks)
    (record {
      only = λ c h. shift_item_of g items st set.at ready.state at read reach token c (rivals.only c h);
      all = λ j r i e hr si. let w = of_shift_item g items st set.at ready.state at read reach token i si in (w.0, rivals.all j r w.0 e hr w.1, w.2);
    })
    cell is

-- ---- shift items, where they are asked for

pub rival_all : (g : FlatGrammar) (items : Items) (s : State) (token : ℕ) (target : Option ℕ) (reductions found : List Candidate) (parts : List Part) (firsts : List BitSet) → parts ≡ s.parts.items → firsts ≡ items.firsts.items
    → ((c : Candidate) → Contains found c ↔ PicksFrom g parts (IsShiftPart g firsts token) c) → AreRivalItems g items s token target reductions found
rival_all g items s token target reductions found parts firsts ep ef members =
    let m = subst (λ (l : List Part). (c : Candidate) → Contains found c ↔ PicksFrom g l (IsShiftPart g items.firsts.items token) c) ep
    (subst (λ (f : List BitSet). (c : Candidate) → Contains found c ↔ PicksFrom g parts (IsShiftPart g f token) c) ef members) in
    record { only = λ c h. (m c).0 h; all = λ k r c e h p. (m c).1 p }

-- ---- over equal lists

pub cell_from : (g : FlatGrammar) (m : Marks) (items : Items) (set : Ready) (read : List ℕ) (token from k : ℕ) (target : Option ℕ) (complete : List Part) (found reduced shifts : List Candidate) (cell : Cell) → IsSource g m items → (ready : IsReadySet g items set) → token < start_symbol g → IsReachedBy items read set.at
    → from ≡ token → k ≡ get_or set.gotos.items from k → from < length set.gotos.items → target ≡ state_in k → complete ≡ set.complete.items → reduced ≡ found
    → ((c : Candidate) → Contains found c ↔ PicksFrom g complete (λ q. HasAt items.tokens.keys q.tokens token) c)
    → AreRivalItems g items ready.state token target reduced shifts
    → IsCellOf g target (Contains shifts) (StaysOf g reduced) cell → IsTokenCell g items set.at read token cell
cell_from g m items set read token from k target complete found reduced shifts cell source ready few reach ef ek lt et ec er picks rivals is =
    let here = subst (λ (j : ℕ). slice_get set.gotos.items j ≡ Some k) ef (read_at set.gotos.items from k lt ek) in
    let p = subst (λ (l : List Part). (c : Candidate) → Contains found c ↔ PicksFrom g l (λ q. HasAt items.tokens.keys q.tokens token) c) ec picks in
    let p' = subst (λ (l : List Candidate). (c : Candidate) → Contains l c ↔ PicksFrom g set.complete.items (λ q. HasAt items.tokens.keys q.tokens token) c) (sym er) p in
    cell_is g m items set read token k reduced shifts cell source ready few reach here p'
    (subst (λ (t : Option ℕ). AreRivalItems g items ready.state token t reduced shifts) et rivals)
    (subst (λ (t : Option ℕ). IsCellOf g t (Contains shifts) (StaysOf g reduced) cell) et is)

pub ends_is : (g : FlatGrammar) (m : Marks) (items : Items) (set : Ready) (read : List ℕ) (token : ℕ) (b : Bool) → IsSource g m items → IsReadySet g items set → IsReachedBy items read set.at → IsTrue b ↔ (IsTrue set.accepts × (token ≡ 0)) → IsTrue b ↔ (Valid g read (advanced start_item) × (token ≡ 0))
ends_is g m items set read token b source ready reach test =
    let a = accepts_is g items source.sets set.at ready.state read ready.at reach in (
      (λ h. let w = test.0 h in (a.0 (ready.accepts.0 w.0), w.1)),
      (λ w. test.1 (ready.accepts.1 (a.1 w.0), w.1)),
    )

pub within_gotos : (g : FlatGrammar) (m : Marks) (items : Items) (set : Ready) (token from : ℕ) → IsSource g m items → IsReadySet g items set → token < start_symbol g → from ≡ token → from < length set.gotos.items
within_gotos g m items set token from source ready few e = let size = ready.gotos.size in omega (arith, size, few, e)

pub ready_is : (g : FlatGrammar) (items : Items) (at : ℕ) (s : State) (set : Ready) → slice_get items.states.items at ≡ Some s → set.at ≡ at → ((q : Part) → Contains set.complete.items q ↔ (Contains s.parts.items q × IsCompletePart g q))
    → ((t : ℕ) → Has set.ends t ↔ ComesAfter items.tokens.keys set.complete.items t) → AreGotoNumbers (symbol_count g) s.gotos.items set.gotos.items
    → IsTrue set.accepts ↔ HasAccept items.tokens.keys s.parts.items → IsReadySet g items set
ready_is g items at s set here e complete ends gotos accepts = record {
  state = s;
  at = subst (λ (n : ℕ). slice_get items.states.items n ≡ Some s) (sym e) here;
  complete = complete;
  ends = ends;
  gotos = gotos;
  accepts = accepts;
}

pub some_symbol : (g : FlatGrammar) (sets seen : List BitSet) → seen ≡ sets → length sets ≡ symbol_count g → 0 < length seen
some_symbol g sets seen same count = let e = ap (λ (l : List BitSet). length l) same in omega (arith, e, count)
