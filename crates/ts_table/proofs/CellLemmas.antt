-- What stays of candidates is what stays of the items for which they stand.
use Rattle.std.proofs.Common.{◌≡◌, ◌∙◌, sym, ap, ℕ, ◌≤◌, inl, inr, ⊎_elim, List, length, Option, Some, arith, ◌↔◌}
use Rattle.std.specs.List.{Contains}
use Rattle.ts_core.specs.declared.flat.FlatGrammar.{FlatGrammar}
use Rattle.ts_core.specs.declared.flat.Assoc.{Assoc}
use Rattle.ts_core.specs.declared.flat.Assoc.TheVariants.{Left, Right}
use Rattle.spec_tables.specs.Fit.{Fit}
use Rattle.spec_tables.specs.Items.{Item}
use Rattle.spec_tables.specs.Actions.{Higher, Reduces, ShiftItem, Shifts, Remains, SomeHigher, SomeLower, AllAre, AreBoth, ShiftAlone, ReduceAlone, shift, reduce, Act, may_shift, may_reduce}
use Rattle.ts_items.specs.declared.part.Items.{Items}
use Rattle.ts_items.specs.Collection.{IsReachedBy, IsGoto, StandsFor}
use Rattle.ts_table.specs.declared.candidates.Candidate.{Candidate}
use Rattle.ts_table.specs.declared.cells.Cell.{Cell}
use Rattle.ts_table.specs.Marks.{HigherBy}
use Rattle.ts_table.specs.Candidates.{StandsForItem, AreReductions}
use Rattle.ts_table.specs.Deciding.{StaysOf, OneHigher, AreAllOf}
use Rattle.ts_table.specs.Cells.{AreRivals, ShiftOnly, ReduceOnly, IsCellOf}
use Rattle.ts_table.specs.Rows.{IsReductionBy, IsTokenCell}
use Rattle.ts_table.proofs.ItemLemmas.{line_some, goto_shifts, shifts_goto}

-- ---- a cell depends on which reductions there are alone

module _ (g : FlatGrammar) (target : Option ℕ) (S R Q : Candidate → Type 0) (same : (c : Candidate) → R c ↔ Q c) where
  all_same : (side : Assoc) → AreAllOf side R ↔ AreAllOf side Q
  all_same side = ((λ f c q. f c ((same c).1 q)), (λ f c r. f c ((same c).0 r)))

  over_same : OneHigher g S R ↔ OneHigher g S Q
  over_same = ((λ w. (w.0, w.1, w.2, (same w.1).0 w.3, w.4)), (λ w. (w.0, w.1, w.2, (same w.1).1 w.3, w.4)))

  under_same : OneHigher g R S ↔ OneHigher g Q S
  under_same = ((λ w. (w.0, w.1, (same w.0).0 w.2, w.3, w.4)), (λ w. (w.0, w.1, (same w.0).1 w.2, w.3, w.4)))

  rivals_same : AreRivals target R ↔ AreRivals target Q
  rivals_same = ((λ w. (w.0, (w.1.0, (same w.1.0).0 w.1.1))), (λ w. (w.0, (w.1.0, (same w.1.0).1 w.1.1))))

  shift_same : ShiftOnly g target S R ↔ ShiftOnly g target S Q
  shift_same = (
    (λ w. (rivals_same.0 w.0, ((λ h. w.1.0 (under_same.1 h)), ⊎_elim (λ h. inl (over_same.0 h)) (λ h. inr ((all_same Right).0 h)) w.1.1))),
    (λ w. (rivals_same.1 w.0, ((λ h. w.1.0 (under_same.0 h)), ⊎_elim (λ h. inl (over_same.1 h)) (λ h. inr ((all_same Right).1 h)) w.1.1))),
  )

  reduce_same : ReduceOnly g target S R ↔ ReduceOnly g target S Q
  reduce_same = (
    (λ w. (rivals_same.0 w.0, ((λ h. w.1.0 (over_same.1 h)), ⊎_elim (λ h. inl (under_same.0 h)) (λ h. inr ((all_same Left).0 h)) w.1.1))),
    (λ w. (rivals_same.1 w.0, ((λ h. w.1.0 (over_same.0 h)), ⊎_elim (λ h. inl (under_same.1 h)) (λ h. inr ((all_same Left).1 h)) w.1.1))),
  )

  pub cell_same : (cell : Cell) → IsCellOf g target S R cell → IsCellOf g target S Q cell
  cell_same cell is = record {
    shift = λ m. ((λ e. let w = (is.shift m).0 e in (w.0, (λ h. w.1 (reduce_same.1 h)))), (λ w. (is.shift m).1 (w.0, (λ h. w.1 (reduce_same.0 h)))));
    reductions = λ c. (
      (λ h. let w = (is.reductions c).0 h in ((same c).0 w.0, (λ x. w.1 (shift_same.1 x)))),
      (λ w. (is.reductions c).1 ((same c).1 w.0, (λ x. w.1 (shift_same.0 x)))),
    );
    shifts = is.shifts;
  }

-- ---- the items

higher_by : (g : FlatGrammar) (c d : Candidate) (i j : Item) → StandsForItem g c i → StandsForItem g d j → HigherBy g c.weight d.weight ↔ Higher g i j
higher_by g c d i j a b = rw (a.weight, b.weight) ((λ h. h), (λ h. h))

-- the shift items, where there are a shift and a reduction
pub record AreShiftsBy (g : FlatGrammar) (read : List ℕ) (token : ℕ) (target : Option ℕ) (rs ss : List Candidate) : Type 0 where
  pub only : (c : Candidate) → Contains ss c → (i : Item) × ShiftItem g read token i × StandsForItem g c i
  pub all : (m : ℕ) (r : Candidate) (i : Item) → target ≡ Some m → Contains rs r → ShiftItem g read token i → (c : Candidate) × Contains ss c × StandsForItem g c i

module _ (g : FlatGrammar) (items : Items) (stands : StandsFor g items) (fit : Fit g) (n : ℕ) (read : List ℕ) (reach : IsReachedBy items read n) (token : ℕ) (few : token ≤ length g.tokens)
    (target : Option ℕ) (goes : (m : ℕ) → (target ≡ Some m) ↔ IsGoto items n token m) (rs ss : List Candidate) (red : AreReductions g read token rs) (shs : AreShiftsBy g read token target rs ss) where
  remains_to : (i : Item) (c : Candidate) → Remains g read token i → Contains rs c → StandsForItem g c i → StaysOf g rs c
  remains_to i c r h s = record {
    there = h;
    top = ⊎_elim
        (λ top. inl (λ q hq up. let w = red.only q hq in top w.0 w.1 ((higher_by g q c w.0 i w.2 s).0 up)))
        (λ none. inr (λ q hq tq. let w = red.only q hq in none w.0 w.1 (λ k rk up. let u = red.all k rk in tq u.0 u.1 ((higher_by g u.0 q k w.0 u.2 w.2).1 up))))
        r.top;
  }

  remains_from : (i : Item) (c : Candidate) → StaysOf g rs c → Reduces g read token i → StandsForItem g c i → Remains g read token i
  remains_from i c st r s = record {
    reduces = r;
    top = ⊎_elim
        (λ top. inl (λ k rk up. let u = red.all k rk in top u.0 u.1 ((higher_by g u.0 c k i u.2 s).1 up)))
        (λ none. inr (λ k rk tk. let u = red.all k rk in none u.0 u.1 (λ q hq up. let w = red.only q hq in tk w.0 w.1 ((higher_by g q u.0 w.0 k w.2 u.2).0 up))))
        st.top;
  }

  stays_item : (c : Candidate) → StaysOf g rs c → (i : Item) × Remains g read token i × StandsForItem g c i
  stays_item c st = let w = red.only c st.there in (w.0, remains_from w.0 c st w.1 w.2, w.2)

  item_stays : (i : Item) → Remains g read token i → (c : Candidate) × StaysOf g rs c × StandsForItem g c i
  item_stays i r = let u = red.all i r.reduces in (u.0, remains_to i u.0 r u.1 u.2, u.2)

  shift_of : (m : ℕ) → target ≡ Some m → Shifts g read token
  shift_of m e = goto_shifts g items stands read n token m fit few reach ((goes m).0 e)

  of_shift : Shifts g read token → (m : ℕ) × (target ≡ Some m)
  of_shift s = let w = shifts_goto g items stands read n token reach s in (w.0, (goes w.0).1 w.1)

  both_from : AreRivals target (StaysOf g rs) → AreBoth g read token
  both_from w = let v = stays_item w.1.0 w.1.1 in record { shift = shift_of w.0.0 w.0.1; reduction = v.0; stays = v.1 }

  both_to : AreBoth g read token → AreRivals target (StaysOf g rs)
  both_to b = let v = item_stays b.reduction b.stays in (of_shift b.shift, (v.0, v.1))

  all_are : (side : Assoc) → AllAre g read token side ↔ AreAllOf side (StaysOf g rs)
  all_are side = (
    (λ f c st. let v = stays_item c st in ap (λ (w : _). w.assoc) v.2.weight ∙ f v.0 v.1),
    (λ f i r. let v = item_stays i r in sym (ap (λ (w : _). w.assoc) v.2.weight) ∙ f v.0 v.1),
  )

  some_over : AreRivals target (StaysOf g rs) → SomeHigher g read token ↔ OneHigher g (Contains ss) (StaysOf g rs)
  some_over rivals = (
    (λ w. let a = shs.all rivals.0.0 rivals.1.0 w.0 rivals.0.1 rivals.1.1.there w.2 in let b = item_stays w.1 w.3 in (a.0, b.0, a.1, b.1, (higher_by g a.0 b.0 w.0 w.1 a.2 b.2).1 w.4)),
    (λ w. let a = shs.only w.0 w.2 in let b = stays_item w.1 w.3 in (a.0, b.0, a.1, b.1, (higher_by g w.0 w.1 a.0 b.0 a.2 b.2).0 w.4)),
  )

  some_under : AreRivals target (StaysOf g rs) → SomeLower g read token ↔ OneHigher g (StaysOf g rs) (Contains ss)
  some_under rivals = (
    (λ w. let a = shs.all rivals.0.0 rivals.1.0 w.0 rivals.0.1 rivals.1.1.there w.2 in let b = item_stays w.1 w.3 in (b.0, a.0, b.1, a.1, (higher_by g b.0 a.0 w.1 w.0 b.2 a.2).1 w.4)),
    (λ w. let a = shs.only w.1 w.3 in let b = stays_item w.0 w.2 in (a.0, b.0, a.1, b.1, (higher_by g w.0 w.1 b.0 a.0 b.2 a.2).0 w.4)),
  )

  shift_alone : ShiftAlone g read token ↔ ShiftOnly g target (Contains ss) (StaysOf g rs)
  shift_alone = (
    (λ a. let r = both_to a.both in (r, ((λ h. a.not_lower ((some_under r).1 h)), ⊎_elim (λ h. inl ((some_over r).0 h)) (λ h. inr ((all_are Right).0 h)) a.cause))),
    (λ w. let r = w.0 in record { both = both_from r; not_lower = λ h. w.1.0 ((some_under r).0 h); cause = ⊎_elim (λ h. inl ((some_over r).1 h)) (λ h. inr ((all_are Right).1 h)) w.1.1 }),
  )

  reduce_alone : ReduceAlone g read token ↔ ReduceOnly g target (Contains ss) (StaysOf g rs)
  reduce_alone = (
    (λ a. let r = both_to a.both in (r, ((λ h. a.not_higher ((some_over r).1 h)), ⊎_elim (λ h. inl ((some_under r).0 h)) (λ h. inr ((all_are Left).0 h)) a.cause))),
    (λ w. let r = w.0 in record { both = both_from r; not_higher = λ h. w.1.0 ((some_over r).0 h); cause = ⊎_elim (λ h. inl ((some_under r).1 h)) (λ h. inr ((all_are Left).1 h)) w.1.1 }),
  )

  shift_act : Act g read token shift → Shifts g read token × (ReduceAlone g read token → ⊥)
  shift_act (may_shift s none) = (s, none)

  reduce_act : (number : ℕ) → Act g read token (reduce number) → ShiftAlone g read token → ⊥
  reduce_act _ (may_reduce i number r line none) = none

  pub token_cell : (cell : Cell) → IsCellOf g target (Contains ss) (StaysOf g rs) cell → IsTokenCell g items n read token cell
  token_cell cell is = record {
    leads = shift_is;
    reduction = reduction;
    reductions = λ i number r line act.
        let v = item_stays i r in
        (v.0, (is.reductions v.0).1 (v.1, (λ x. reduce_act number act (shift_alone.1 x))), made i v.0 number r v.2 line act);
    shift_item = λ c h.
        let w = (is.shifts c).0 h in
        let a = shs.only c w.0 in
        (a.0, a.1, ((shift_is w.1.0).0 w.1.1).1, ap (λ (x : _). x.rule) a.2.weight);
    shift_items = λ r i hr si act.
        let m = of_shift (shift_act act).0 in
        let e = (shift_is m.0).1 ((goes m.0).0 m.1, act) in
        let a = shs.all m.0 r i m.1 ((is.reductions r).0 hr).0.there si in
        (a.0, (is.shifts a.0).1 (a.1, (m.0, e)), ap (λ (x : _). x.rule) a.2.weight);
  }
    where
      shift_is : (m : ℕ) → (cell.shift ≡ Some m) ↔ (IsGoto items n token m × Act g read token shift)
      shift_is m = (
        (λ e. let w = (is.shift m).0 e in ((goes m).0 w.0, may_shift (shift_of m w.0) (λ x. w.1 (reduce_alone.0 x)))),
        (λ w. (is.shift m).1 ((goes m).1 w.0, (λ x. (shift_act w.1).1 (reduce_alone.1 x)))),
      )

      made : (i : Item) (c : Candidate) (number : ℕ) → Remains g read token i → StandsForItem g c i → i.line ≡ Some number → Act g read token (reduce number) → IsReductionBy g read token c i number
      made i c number r s line act = record {
        remains = r;
        line = line;
        stays = act;
        number_is = (let e = line_some c.line number (sym s.line ∙ line) in omega (arith, e));
        rule = ap (λ (x : _). x.rule) s.weight;
      }

      reduction : (c : Candidate) → Contains cell.reductions.items c → (i : Item) × (number : ℕ) × IsReductionBy g read token c i number
      reduction c h =
          let w = (is.reductions c).0 h in
          let v = stays_item c w.0 in
          let act = may_reduce v.0 v.1.reduces.number v.1 v.1.reduces.line (λ x. w.1 (shift_alone.0 x)) in
          (v.0, v.1.reduces.number, made v.0 c v.1.reduces.number v.1 v.2 v.1.reduces.line act)
