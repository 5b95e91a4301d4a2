-- Which limit is told, and when the positions are few.
use Rattle.std.proofs.Common.{◌≡◌, sym, subst, ◌<◌, ◌≤◌, ◌⊎◌, inl, inr, ⊎_elim, List, [], ◌∷◌, Result, Err, All, arith}
use Rattle.std.specs.List.{Contains}
use Rattle.std.specs.Result.{IsErrOf}
use Rattle.std.proofs.lemmas.Bool.{cases_lt}
use Rattle.std.proofs.lemmas.List.Elements.{All-nil, All-cons, All-contains}
use Rattle.spec_tables.specs.Fit as fit
use Rattle.ts_core.specs.declared.flat.FlatGrammar.{FlatGrammar}
use Rattle.ts_core.specs.declared.flat.TokenDef.{TokenDef}
use Rattle.ts_core.specs.declared.limits.Limited.{Limited}
use Rattle.ts_core.specs.declared.rule.Grammar.{Grammar}
use Rattle.ts_fit.specs.Misfits.{HasFewPositions}
use Rattle.ts_numbering.specs.declared.limits.NumberFault.{NumberFault}
use Rattle.ts_numbering.specs.Limits.{HasManySymbols, HasManyNames}
use Rattle.ts_pattern.specs.Reads.{Reads}
use Rattle.ts_productions.specs.declared.fault.ProductionFault.{ProductionFault}
use Rattle.ts_productions.specs.Grammars.{CountsMany, CountsLong}
use Rattle.ts_rules.specs.FirstSights.{Not}
use Rattle.ts_rules.specs.Normal.{IsNormal}
use Rattle.ts_rules.specs.Numbers.{Numbers, Lists, AreLists, AreNumbers}
use Rattle.ts_form.specs.declared.fault.FormFault.{FormFault}
use Rattle.ts_form.specs.declared.fault.FormFault.TheVariants as fault
use Rattle.ts_form.specs.Forms.{of_numbers, of_productions}
use Rattle.ts_form.specs.Limits.{HasManyProductions, HasManySteps, HasManyPositions, IsFormFault}
use Rattle.ts_form.proofs.ListLemmas.{head_in, tail_in}

-- ---- numbers

pub number_refused : {T : Type 0} (g : Grammar) (r : Result T NumberFault) (e : NumberFault) → r ≡ Err e
    → (IsErrOf r NumberFault.Symbols → HasManySymbols g) → (IsErrOf r NumberFault.Names → Not (HasManySymbols g) × HasManyNames g)
    → IsFormFault g (of_numbers e)
number_refused g r NumberFault.Symbols is symbols names = symbols is
number_refused g r NumberFault.Names is symbols names = names is
number_refused g r NumberFault.Memory is symbols names = tt

-- ---- productions

module _ (g : Grammar) (n : Numbers) (x : Lists) (lists : AreLists g x) (numbers : AreNumbers g n x) where
  pub many_productions : CountsMany n x → HasManyProductions g
  many_productions h = (h.0, record { numbers = n; lists = x; are_lists = lists; are_numbers = numbers; is_counted = h.1 }, h.2)

  pub many_steps : CountsLong n x → HasManySteps g
  many_steps h = (h.0, record { numbers = n; lists = x; are_lists = lists; are_numbers = numbers; is_counted = h.1 }, h.2, h.3, h.4)

  pub production_refused : {T : Type 0} (r : Result T ProductionFault) (e : ProductionFault) → r ≡ Err e
      → Not (HasManySymbols g) × Not (HasManyNames g) → (HasManyProductions g → CountsMany n x)
      → (IsErrOf r ProductionFault.Productions → CountsMany n x) → (IsErrOf r ProductionFault.Steps → Not (CountsMany n x) × CountsLong n x)
      → IsFormFault g (of_productions e)
  production_refused r ProductionFault.Productions is fits agree many long = (fits.0, fits.1, many_productions (many is))
  production_refused r ProductionFault.Steps is fits agree many long =
      let w = long is in (fits.0, fits.1, λ h. w.0 (agree h), many_steps w.1)
  production_refused r ProductionFault.Memory is fits agree many long = tt

-- ---- positions

abbrev IsLarge : TokenDef → Type 0
IsLarge d = fit.most_positions < fit.positions d.re

abbrev IsSmall : TokenDef → Type 0
IsSmall d = fit.positions d.re ≤ fit.most_positions

-- each is small, or one is large
small_or_large : (ds : List TokenDef) → All IsSmall ds ⊎ ((d : TokenDef) × Contains ds d × IsLarge d)
small_or_large [] = inl (All-nil IsSmall)
small_or_large (d ∷ ds) = ⊎_elim
    (λ lt. inr (d, head_in d ds, lt))
    (λ ge. ⊎_elim
    (λ small. inl (All-cons IsSmall d ds ge small))
    (λ w. inr (w.0, tail_in d w.0 ds w.1, w.2))
    (small_or_large ds))
    (cases_lt fit.most_positions (fit.positions d.re))

pub too_many : (g : Grammar) (f : FlatGrammar) → IsNormal Reads g f → Not (HasFewPositions f) → HasManyPositions g
too_many g f normal not_few = (
  f,
  normal,
  ⊎_elim
      (λ small. ⊎_elim (λ lt. inr lt) (λ ge. absurd (not_few (record { each = small; in_all = ge }))) (cases_lt fit.most_positions_in_all (fit.all_positions f)))
      (λ w. inl w)
      (small_or_large f.tokens),
)

pub few_enough : (g : Grammar) (f : FlatGrammar) → ((h : FlatGrammar) → IsNormal Reads g h → h ≡ f) → HasFewPositions f → Not (HasManyPositions g)
few_enough g f one few many =
    let is : many.0 ≡ f = one many.0 many.1 in
    let too : HasFewPositions many.0 = subst HasFewPositions (sym is) few in
    ⊎_elim
    (λ w. let le = All-contains IsSmall many.0.tokens w.0 too.each w.1 in let lt = w.2 in omega (arith, le, lt))
    (λ lt. let le = too.in_all in omega (arith, le, lt))
    many.2

pub positions_refused : (g : Grammar) (e : FormFault) → Not (HasManySymbols g) × Not (HasManyNames g) → Not (HasManyProductions g) × Not (HasManySteps g)
    → (e ≡ fault.Limit Limited.Positions) × HasManyPositions g → IsFormFault g e
positions_refused g e numbers rules w = subst (λ (f : FormFault). IsFormFault g f) (sym w.0) (numbers.0, numbers.1, rules.0, rules.1, w.1)
