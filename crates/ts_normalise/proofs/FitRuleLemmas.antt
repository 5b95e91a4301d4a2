-- The rules of a normal form are fit: none is empty that must not be, and none derives itself alone.
use Rattle.std.proofs.Common.{◌≡◌, ◌∙◌, sym, ap, subst, refl, ℕ, suc, ◌+◌, ◌<◌, ⊎_elim, length, slice_get, Some, arith}
use Rattle.std.proofs.lemmas.Option.{slice_get_within}
use Rattle.ts_core.specs.declared.flat.FlatGrammar.{FlatGrammar}
use Rattle.ts_core.specs.declared.flat.FlatRule.{FlatRule}
use Rattle.ts_core.specs.declared.rule.Grammar.{Grammar}
use Rattle.ts_core.specs.declared.symbol.Symbol.{Symbol}
use Rattle.spec_tables.specs.Fit.{Never, HasRule, IsSymbol, IsEmptyRule, IsCyclic, Derives, at_once, through, IsFitRule, IsFitProduction, rule_symbol, symbols_of}
use Rattle.ts_fit.specs.Misfits.{IsEmptyToken}
use Rattle.ts_pattern.specs.Reads.{Reads}
use Rattle.ts_rules.specs.FileGrammar.{IsFileGrammar}
use Rattle.ts_rules.specs.Normal.{IsNormal}
use Rattle.ts_normalise.specs.declared.fault.NFault.TheVariants as fault
use Rattle.ts_normalise.proofs.ListLemmas.{there}
use Rattle.ts_normalise.proofs.FitNameLemmas.{rule_name_short}
use Rattle.ts_normalise.proofs.FitPlaceLemmas.{rule_cases, own_symbol}
use Rattle.ts_normalise.proofs.FitRefusalLemmas.{IsUnrefused, nowhere}
use Rattle.ts_normalise.proofs.FitRepetitionLemmas.{owner_there, fit_repetition}
use Rattle.ts_normalise.proofs.FitStepLemmas.{all_of, fit_production}

-- what derives something is a rule
derives_rule : (f : FlatGrammar) (from to : Symbol) → Derives f from to → (r : FlatRule) × HasRule f from r
derives_rule f _ _ (at_once a b alone) = (alone.rule, alone.has_rule)
derives_rule f _ _ (through a b c alone rest) = (alone.rule, alone.has_rule)

rule_in_range : (f : FlatGrammar) (s : Symbol) (r : FlatRule) → HasRule f s r → IsSymbol f s
rule_in_range f s r h =
    let lt = slice_get_within f.rules h.0 r h.1 in
    subst (IsSymbol f) (sym h.2) (let z : suc (length f.tokens + h.0) < symbols_of f = omega (arith, lt) in z)

module _ (g : Grammar) (f : FlatGrammar) (normal : IsNormal Reads g f) (file : IsFileGrammar g) (sane : IsUnrefused g) where
  -- the owner of a rule is a rule
  owner_rule : (k : ℕ) (r : FlatRule) → slice_get f.rules k ≡ Some r → (o : FlatRule) × HasRule f r.owner o
  owner_rule k r at = ⊎_elim
      (λ h. (r, (k, at, h.2.owner ∙ own_symbol g f normal k h.0 h.1)))
      (λ h.
      let rep = h.4 in
      let owner = rep.owner in
      let o = owner_there g f normal file sane h.1 owner.0 owner.1 in
      (o.0, subst (λ (s : Symbol). HasRule f s o.0) (sym owner.2) o.1))
      (rule_cases g f normal k r at)

  pub no_empty_token : (place : ℕ) → Never (IsEmptyToken f place)
  no_empty_token place = nowhere (IsEmptyToken f) (λ first_place first.
      let h = first.holds in
      sane.tokens (fault.EmptyToken h.0.name) (
        h.0.name,
        record {
          form = f;
          normal = normal;
          place = first_place;
          first = first;
          token = h.0;
          there = h.1;
          name_is = refl;
        },
        refl,
      )) place

  no_empty_rule : (place : ℕ) → Never (IsEmptyRule f place)
  no_empty_rule place = nowhere (IsEmptyRule f) (λ first_place first.
      let h = first.holds in
      sane.rules (fault.EmptyRule h.0.name) (
        h.0.name,
        record {
          form = f;
          normal = normal;
          place = first_place;
          first = first;
          rule = h.0;
          there = h.1;
          name_is = refl;
        },
        refl,
      )) place

  no_cycle : (place : ℕ) → Never (IsCyclic f place)
  no_cycle place = nowhere (IsCyclic f) (λ first_place first.
      let d = derives_rule f (rule_symbol f first_place) (rule_symbol f first_place) first.holds in
      let number : (rule_symbol f first_place).0 ≡ (rule_symbol f d.1.0).0 = ap (λ (s : Symbol). s.0) d.1.2 in
      let same : d.1.0 ≡ first_place = omega (arith, number) in
      let at : slice_get f.rules first_place ≡ Some d.0 = ap (slice_get f.rules) (sym same) ∙ d.1.1 in
      let o = owner_rule first_place d.0 at in
      sane.straight (fault.Cyclic o.0.name) (
        o.0.name,
        record {
          form = f;
          normal = normal;
          place = first_place;
          first = first;
          rule = d.0;
          there = at;
          owner = o.0;
          owner_there = o.1;
          name_is = refl;
        },
        refl,
      )) place

  pub fit_rule : (k : ℕ) (r : FlatRule) → slice_get f.rules k ≡ Some r → IsFitRule f k r
  fit_rule k r at =
      let o = owner_rule k r at in
      record {
        name = rule_name_short g f normal file k r at;
        owner = rule_in_range f r.owner o.0 o.1;
        productions = all_of (IsFitProduction f) r.productions (λ p w. fit_production g f normal file sane r p (there f.rules k r at) w);
        repetition = fit_repetition g f normal file sane k r at;
        filled = no_empty_rule k;
        straight = no_cycle k;
      }
