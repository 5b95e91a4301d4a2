-- A grammar is fit exactly where it is in form and no cause stands.
use Rattle.std.proofs.Common.{◌≡◌, refl, subst, ℕ, zero, suc, ◌≤◌, inl, inr, ◌↔◌, List, [], get_or, slice_get, Option, Some, None, All, arith}
use Rattle.std.specs.List.{Contains}
use Rattle.std.proofs.lemmas.List.Elements.{All-weaker}
use Rattle.std.proofs.lemmas.Option.{slice_get_within, slice_get-get_or, get_or_from_slice_get}
use Rattle.ts_core.specs.declared.flat.FlatGrammar.{FlatGrammar}
use Rattle.ts_core.specs.declared.flat.FlatRule.{FlatRule}
use Rattle.ts_core.specs.declared.flat.Production.{Production}
use Rattle.ts_core.specs.declared.flat.TokenDef.{TokenDef}
use Rattle.ts_core.specs.declared.limits.Unfit.{Unfit}
use Rattle.spec_tables.specs.Fit.{Fit, IsFitRule, IsFitToken, most_positions, positions}
use Rattle.ts_fit.specs.Misfits.{HasNoMisfit, IsFormedGrammar, IsFormedRule, IsFormedToken, IsUnusedStart, Misfits, repetition, empty_token, empty_rule, cyclic, too_many}
use Rattle.ts_fit.proofs.CyclicLemmas.{cyclic_within}
use Rattle.ts_fit.proofs.ListLemmas.{some_at}

-- what is true of all elements is true of the one at a place
at_place : {X : Type 0} (P : X → Type 0) (xs : List X) (k : ℕ) (x : X) → All P xs → slice_get xs k ≡ Some x → P x
at_place P xs k x all at = subst P (get_or_from_slice_get xs k x x at) (all k x (slice_get_within xs k x at))

unfit : (f : FlatGrammar) (why : Unfit) → Misfits f why → Fit f → ⊥
unfit f why (repetition place h) fit = let bad = h.holds in bad.3 ((fit.rules place bad.0 bad.1).repetition bad.2)
unfit f why (empty_token place _ h) fit = let empty = h.holds in (at_place (IsFitToken f) f.tokens place empty.0 fit.tokens empty.1).filled empty.2
unfit f why (empty_rule place _ _ h) fit = let empty = h.holds in (fit.rules place empty.0 empty.1).filled empty
unfit f why (cyclic place _ _ _ h) fit = let at = some_at f.rules place (cyclic_within f place h.holds) in (fit.rules place at.0 at.1).straight h.holds
unfit f why (too_many _ _ _ _ none) fit =
    none (record { each = All-weaker (IsFitToken f) (λ (d : TokenDef). positions d.re ≤ most_positions) (λ d h. h.few) f.tokens fit.tokens; in_all = fit.few_positions })

pub not_fit : (f : FlatGrammar) (why : Unfit) → Misfits f why → (Some why ≡ None) ↔ Fit f
not_fit f why h = (λ e. cc, λ fit. absurd (unfit f why h fit))

fits : (f : FlatGrammar) → HasNoMisfit f → IsFormedGrammar f → Fit f
fits f none formed = record {
  name = formed.name;
  some_rule = formed.some_rule;
  few_symbols = formed.few_symbols;
  few_fields = formed.few_fields;
  few_precs = formed.few_precs;
  few_productions = formed.few_productions;
  few_positions = none.few_positions.in_all;
  tokens = λ k d below. token k (get_or f.tokens k d) (slice_get-get_or f.tokens k d below);
  rules = λ k r at. rule k r at;
  separators = formed.separators;
  extras = formed.extras;
  word = formed.word;
  fields = formed.fields;
  precs = formed.precs;
  conflicts = formed.conflicts;
  precedences = formed.precedences;
  supertypes = formed.supertypes;
}
  where
    token : (k : ℕ) (d : TokenDef) → slice_get f.tokens k ≡ Some d → IsFitToken f d
    token k d at =
        let own = at_place (IsFormedToken f) f.tokens k d formed.tokens at in
        record {
          name = own.name;
          re = own.re;
          few = at_place (λ (e : TokenDef). positions e.re ≤ most_positions) f.tokens k d none.few_positions.each at;
          filled = λ w. none.tokens k (d, at, w);
          literal = own.literal;
          word = own.word;
        }

    rule : (k : ℕ) (r : FlatRule) → slice_get f.rules k ≡ Some r → IsFitRule f k r
    rule k r at =
        let own = at_place (IsFormedRule f) f.rules k r formed.rules at in
        record {
          name = own.name;
          owner = own.owner;
          productions = own.productions;
          repetition = λ is. none.repetitions k r at is;
          filled = none.rules k;
          straight = none.straight k;
        }

pub is_fit : (f : FlatGrammar) (found : Option Unfit) → found ≡ None → HasNoMisfit f → IsFormedGrammar f → (found ≡ None) ↔ Fit f
is_fit f found none' none formed = (λ e. fits f none formed, λ fit. none')

pub unused_start : (f : FlatGrammar) (place : ℕ) (r : FlatRule) (p : Production) → Fit f → slice_get f.rules place ≡ Some r → Contains r.productions p → p.steps ≡ [] → IsUnusedStart f place
unused_start f zero r p fit at has none = (refl, λ used. (fit.rules 0 r at).filled (r, at, (p, has, none), inr used))
unused_start f (suc k) r p fit at has none = absurd ((fit.rules (suc k) r at).filled (r, at, (p, has, none), inl (omega arith)))
