-- What stays of reductions and of a shift.
use Rattle.std.proofs.Common.{◌≡◌, ◌∙◌, sym, ◌<◌, ◌⊎◌, inl, inr, ⊎_elim, List, [], ◌∷◌, length, arith, ◌↔◌, Bool, true, false}
use Rattle.std.specs.Bool.{IsTrue}
use Rattle.std.specs.List.{Contains}
use Rattle.std.proofs.lemmas.List.Elements.{Contains-get_or}
use Rattle.ts_core.specs.declared.flat.FlatGrammar.{FlatGrammar}
use Rattle.ts_core.specs.declared.flat.Assoc.TheVariants.{Left, Right}
use Rattle.ts_table.specs.declared.candidates.Candidate.{Candidate}
use Rattle.ts_table.specs.declared.deciding.Verdict.{Verdict}
use Rattle.ts_table.specs.declared.deciding.Verdict.TheVariants.{Shift, Reduce}
use Rattle.ts_table.specs.Marks.{HigherBy}
use Rattle.ts_table.specs.Deciding.{IsTopOf, StaysOf, OneHigher, AreAll, ShiftWins, ReduceWins}
use Rattle.ts_table.proofs.ListLemmas.{kept_all, false_not_true}

pub stays_iff : (g : FlatGrammar) (xs tops v : List Candidate) → ((r : Candidate) → Contains tops r ↔ (Contains xs r × IsTopOf g xs r)) → (length tops ≡ 0 → v ≡ xs) → (0 < length tops → v ≡ tops) → (r : Candidate) → Contains v r ↔ StaysOf g xs r
stays_iff g xs tops v members empty full r =
    let k = kept_all (IsTopOf g xs) xs tops v members empty full r in
    ((λ h. let p = k.0 h in record { there = p.0; top = p.1 }), (λ s. k.1 (s.there, s.top)))

pub never_both : (rs : List Candidate) (a b : Bool) → 0 < length rs → IsTrue a ↔ AreAll Left rs → IsTrue b ↔ AreAll Right rs → IsTrue a → IsTrue b → ⊥
never_both [] a b some l r x y = omega arith
never_both (r ∷ rs) a b some left right x y = let p = left.0 x r (Contains-get_or (r ∷ rs) 0 r some) in let q = right.0 y r (Contains-get_or (r ∷ rs) 0 r some) in let e : Left ≡ Right = sym p ∙ q in cc

-- how a test tells that one is higher
abbrev pub TellsHigher : FlatGrammar → List Candidate → List Candidate → Bool → Type 0
TellsHigher g above below b = IsTrue b ↔ ((r : Candidate) × Contains below r × ((q : Candidate) × Contains above q × HigherBy g q.weight r.weight))

higher_to : (g : FlatGrammar) (above below : List Candidate) (b : Bool) → TellsHigher g above below b → IsTrue b ↔ OneHigher g (Contains above) (Contains below)
higher_to g above below b t = ((λ x. let w = t.0 x in (w.2.0, w.0, w.2.1, w.1, w.2.2)), (λ w. t.1 (w.1, w.3, (w.0, w.2, w.4))))

pub shift_iff : (g : FlatGrammar) (ss rs : List Candidate) (h l r : Bool) (v : Verdict) → TellsHigher g ss rs h → TellsHigher g rs ss l → IsTrue r ↔ AreAll Right rs
    → (v ≡ Shift) ↔ ((IsTrue l → ⊥) × (IsTrue h ⊎ IsTrue r)) → (v ≡ Shift) ↔ ShiftWins g (Contains ss) (Contains rs)
shift_iff g ss rs h l r v higher lower right is =
    let up = higher_to g ss rs h higher in
    let down = higher_to g rs ss l lower in (
      (λ e. let w = is.0 e in ((λ s. w.0 (down.1 s)), ⊎_elim (λ x. inl (up.0 x)) (λ x. inr (right.0 x)) w.1)),
      (λ a. is.1 ((λ x. a.0 (down.0 x)), ⊎_elim (λ s. inl (up.1 s)) (λ x. inr (right.1 x)) a.1)),
    )

pub reduce_iff : (g : FlatGrammar) (ss rs : List Candidate) (h l r : Bool) (v : Verdict) → TellsHigher g ss rs h → TellsHigher g rs ss l → IsTrue r ↔ AreAll Left rs
    → (v ≡ Reduce) ↔ ((IsTrue h → ⊥) × (IsTrue l ⊎ IsTrue r)) → (v ≡ Reduce) ↔ ReduceWins g (Contains ss) (Contains rs)
reduce_iff g ss rs h l r v higher lower left is =
    let up = higher_to g ss rs h higher in
    let down = higher_to g rs ss l lower in (
      (λ e. let w = is.0 e in ((λ s. w.0 (up.1 s)), ⊎_elim (λ x. inl (down.0 x)) (λ x. inr (left.0 x)) w.1)),
      (λ a. is.1 ((λ x. a.0 (up.0 x)), ⊎_elim (λ s. inl (down.1 s)) (λ x. inr (left.1 x)) a.1)),
    )

pub top_from : (g : FlatGrammar) (xs : List Candidate) (r : Candidate) (b : Bool) → b ≡ false → IsTrue b ↔ ((q : Candidate) × Contains xs q × HigherBy g q.weight r.weight) → IsTopOf g xs r
top_from g xs r b fails test q h up = false_not_true (sym fails ∙ test.1 (q, h, up))

pub top_not : (g : FlatGrammar) (xs : List Candidate) (r : Candidate) (b : Bool) → b ≡ true → IsTrue b ↔ ((q : Candidate) × Contains xs q × HigherBy g q.weight r.weight) → IsTopOf g xs r → ⊥
top_not g xs r b holds test none = let w = test.0 holds in none w.0 w.1 w.2
