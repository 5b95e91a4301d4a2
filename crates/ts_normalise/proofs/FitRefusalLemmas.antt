-- What is known of a grammar that is not refused.
use Rattle.std.proofs.Common.{◌≡◌, ap, refl, ℕ, zero, suc, ◌<◌, ◌≤◌, inl, inr, ⊎_elim, List, [], ◌∷◌, Some, arith}
use Rattle.std.proofs.lemmas.Bool.{cases_lt}
use Rattle.std.proofs.lemmas.List.Elements.{All-nil, All-cons}
use Rattle.ts_base.specs.Bytes.{Bytes}
use Rattle.ts_core.specs.declared.rule.Grammar.{Grammar}
use Rattle.ts_fit.specs.Misfits.{IsFirstPlace}
use Rattle.ts_rules.specs.Causes.{IsUndefined, IsBadInline, IsBadWord, IsBadExtra, names_used, rule_names, extra_symbols}
use Rattle.ts_rules.specs.FirstSights.{Not, First, Clear}
use Rattle.ts_normalise.specs.declared.fault.NFault.TheVariants as fault
use Rattle.ts_core.specs.declared.limits.Limited.TheVariants as limited
use Rattle.ts_form.specs.Limits.{HasManyProductions, HasManySteps, HasManyPositions}
use Rattle.ts_numbering.specs.Limits.{HasManySymbols, HasManyNames}
use Rattle.ts_normalise.specs.Refusals.{Cause, Nothing, Before, FindsUndefined, FindsSymbolInToken, FindsBadInline, FindsBadWord, FindsBadExtra, FindsBadPattern, FindsManySymbols, FindsManyNames, FindsManyProductions, FindsManySteps, FindsManyPositions, FindsEmptyToken, FindsEmptyRule, FindsCyclic, FindsInTrees, FindsMany, FindsInForm, IsRefused}

first_nothing : (A B : Cause) → Nothing (Before A B) → Nothing A
first_nothing A B none found a = none found (inl a)

second_nothing : (A B : Cause) → Nothing (Before A B) → Nothing B
second_nothing A B none found b = none found (inr (first_nothing A B none, b))

-- where no value is the first with the property, none has it
none_first : {X : Type 0} (P : X → Type 0) (xs : List X) → ((x : X) → First P xs x → ⊥) → Clear P xs
none_first P [] none = All-nil (λ x. Not (P x))
none_first P (x ∷ xs) none =
    let here : Not (P x) = λ p. none x (record { before = []; after = xs; is = refl; holds = p; clear = All-nil (λ z. Not (P z)) }) in
    All-cons (λ z. Not (P z)) x xs here (none_first P xs (λ y f. none y (record {
      before = x ∷ f.before;
      after = f.after;
      is = ap (λ zs. x ∷ zs) f.is;
      holds = f.holds;
      clear = All-cons (λ z. Not (P z)) x f.before here f.clear;
    })))

-- where no place is the first with the property, none has it
pub nowhere : (P : ℕ → Type 0) → ((place : ℕ) → Not (IsFirstPlace P place)) → (place : ℕ) → Not (P place)
nowhere P none place = below (suc place) place (omega arith)
  where
    below : (n : ℕ) (k : ℕ) → k < n → Not (P k)
    below zero k lt h = omega arith
    below (suc n) k lt h = ⊎_elim
        (λ less. below n k less h)
        (λ ge. none k (record {
          holds = h;
          least = λ j p. ⊎_elim (λ less. absurd (below n j (omega (arith, less, lt)) p)) (λ le. le) (cases_lt j k);
        }))
        (cases_lt k n)

-- a bound that is not passed
pub not_past : (most count : ℕ) → Not (most < count) → count ≤ most
not_past most count none = ⊎_elim (λ lt. absurd (none lt)) (λ le. le) (cases_lt most count)

-- none of the causes stands
pub record IsUnrefused (g : Grammar) : Type 0 where
  pub defined : Clear (IsUndefined g) (names_used g)
  pub inlines : Clear (IsBadInline g) (rule_names g)
  pub word : (name : Bytes) → g.word ≡ Some name → Not (IsBadWord g name)
  pub extras : Clear (IsBadExtra g) (extra_symbols g)
  pub few_symbols : Not (HasManySymbols g)
  pub few_names : Not (HasManyNames g)
  pub few_productions : Not (HasManyProductions g)
  pub few_steps : Not (HasManySteps g)
  pub few_positions : Not (HasManyPositions g)
  pub tokens : Nothing (FindsEmptyToken g)
  pub rules : Nothing (FindsEmptyRule g)
  pub straight : Nothing (FindsCyclic g)

module _ (g : Grammar) (none : Nothing (IsRefused g)) where
  in_trees : Nothing (FindsInTrees g)
  in_trees = first_nothing (FindsInTrees g) (Before (FindsBadPattern g) (Before (FindsMany g) (FindsInForm g))) none

  later : Nothing (Before (FindsMany g) (FindsInForm g))
  later = second_nothing (FindsBadPattern g) (Before (FindsMany g) (FindsInForm g))
      (second_nothing (FindsInTrees g) (Before (FindsBadPattern g) (Before (FindsMany g) (FindsInForm g))) none)

  many : Nothing (FindsMany g)
  many = first_nothing (FindsMany g) (FindsInForm g) later

  in_form : Nothing (FindsInForm g)
  in_form = second_nothing (FindsMany g) (FindsInForm g) later

  after_undefined : Nothing (Before (FindsSymbolInToken g) (Before (FindsBadInline g) (Before (FindsBadWord g) (FindsBadExtra g))))
  after_undefined = second_nothing (FindsUndefined g) (Before (FindsSymbolInToken g) (Before (FindsBadInline g) (Before (FindsBadWord g) (FindsBadExtra g)))) in_trees

  after_inside : Nothing (Before (FindsBadInline g) (Before (FindsBadWord g) (FindsBadExtra g)))
  after_inside = second_nothing (FindsSymbolInToken g) (Before (FindsBadInline g) (Before (FindsBadWord g) (FindsBadExtra g))) after_undefined

  after_inline : Nothing (Before (FindsBadWord g) (FindsBadExtra g))
  after_inline = second_nothing (FindsBadInline g) (Before (FindsBadWord g) (FindsBadExtra g)) after_inside

  after_symbols : Nothing (Before (FindsManyNames g) (Before (FindsManyProductions g) (Before (FindsManySteps g) (FindsManyPositions g))))
  after_symbols = second_nothing (FindsManySymbols g) (Before (FindsManyNames g) (Before (FindsManyProductions g) (Before (FindsManySteps g) (FindsManyPositions g)))) many

  after_names : Nothing (Before (FindsManyProductions g) (Before (FindsManySteps g) (FindsManyPositions g)))
  after_names = second_nothing (FindsManyNames g) (Before (FindsManyProductions g) (Before (FindsManySteps g) (FindsManyPositions g))) after_symbols

  after_productions : Nothing (Before (FindsManySteps g) (FindsManyPositions g))
  after_productions = second_nothing (FindsManyProductions g) (Before (FindsManySteps g) (FindsManyPositions g)) after_names

  pub unrefused : IsUnrefused g
  unrefused = record {
    defined = none_first (IsUndefined g) (names_used g) (λ name first. first_nothing (FindsUndefined g) (Before (FindsSymbolInToken g) (Before (FindsBadInline g) (Before (FindsBadWord g) (FindsBadExtra g)))) in_trees (fault.Undefined name) (name, first, refl));
    inlines = none_first (IsBadInline g) (rule_names g) (λ name first. first_nothing (FindsBadInline g) (Before (FindsBadWord g) (FindsBadExtra g)) after_inside (fault.BadInline name) (name, first, refl));
    word = λ name is bad. first_nothing (FindsBadWord g) (FindsBadExtra g) after_inline (fault.BadWord name) (name, is, bad, refl);
    extras = none_first (IsBadExtra g) (extra_symbols g) (λ symbol first. second_nothing (FindsBadWord g) (FindsBadExtra g) after_inline (fault.NonTerminalExtra symbol.0) (symbol, first, refl));
    few_symbols = λ has. first_nothing (FindsManySymbols g) (Before (FindsManyNames g) (Before (FindsManyProductions g) (Before (FindsManySteps g) (FindsManyPositions g)))) many (fault.Limit limited.Symbols) (has, refl);
    few_names = λ has. first_nothing (FindsManyNames g) (Before (FindsManyProductions g) (Before (FindsManySteps g) (FindsManyPositions g))) after_symbols (fault.Limit limited.Fields) (has, refl);
    few_productions = λ has. first_nothing (FindsManyProductions g) (Before (FindsManySteps g) (FindsManyPositions g)) after_names (fault.Limit limited.Productions) (has, refl);
    few_steps = λ has. first_nothing (FindsManySteps g) (FindsManyPositions g) after_productions (fault.Limit limited.Steps) (has, refl);
    few_positions = λ has. second_nothing (FindsManySteps g) (FindsManyPositions g) after_productions (fault.Limit limited.Positions) (has, refl);
    tokens = first_nothing (FindsEmptyToken g) (Before (FindsEmptyRule g) (FindsCyclic g)) in_form;
    rules = first_nothing (FindsEmptyRule g) (FindsCyclic g) (second_nothing (FindsEmptyToken g) (Before (FindsEmptyRule g) (FindsCyclic g)) in_form);
    straight = second_nothing (FindsEmptyRule g) (FindsCyclic g) (second_nothing (FindsEmptyToken g) (Before (FindsEmptyRule g) (FindsCyclic g)) in_form);
  }
