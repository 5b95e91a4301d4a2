use Rattle.std.proofs.Common.{◌≡◌, ◌∙◌, sym, ap, subst, ⊎_elim, inl, inr, ℕ, Option, Some, None}
use Rattle.ts_places.specs.Choosing.{IsPastStuck}
use Rattle.ts_places.proofs.ends.see_stop.Goals as goal

pub returns-in-Some-clause-mine : goal.returns-in-Some-clause-mine
returns-in-Some-clause-mine c q is =
    let e : Some c.in-Some.place ≡ Some q = sym c.in-Some.is ∙ is in
    let one : c.in-Some.place ≡ q = cc in
    subst (λ (n : ℕ). IsPastStuck c.stick.new.stuck n) one c.stick.ensures.mine

pub returns-in-Some-clause-others : goal.returns-in-Some-clause-others
returns-in-Some-clause-others c q p = c.stick.ensures.others q p

pub returns-in-Some-clause-from : goal.returns-in-Some-clause-from
returns-in-Some-clause-from c q is = ⊎_elim (λ o. inl o) (λ e. inr (c.in-Some.is ∙ ap {B = Option ℕ} (λ (n : ℕ). Some n) (sym e))) (c.stick.ensures.from q is)

pub returns-in-None-clause-mine : goal.returns-in-None-clause-mine
returns-in-None-clause-mine c q is = absurd (let e : None ≡ Some q = sym c.in-None.is ∙ is in cc)

pub returns-in-None-clause-others : goal.returns-in-None-clause-others
returns-in-None-clause-others c q p = p

pub returns-in-None-clause-from : goal.returns-in-None-clause-from
returns-in-None-clause-from c q is = inl is
