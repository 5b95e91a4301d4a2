-- A list of the valid tokens of a state.
use Rattle.std.proofs.Common.{◌≡◌, sym, refl, subst, ℕ, zero, suc, ◌+◌, inl, inr, ⊎_elim, List, [], ◌∷◌, ◌++◌, length, arith}
use Rattle.std.specs.List.{Contains}
use Rattle.std.proofs.lemmas.List.Elements.{Contains-append_left, Contains-append_right, Contains-append_cases}
use Rattle.ts_core.specs.declared.action.Action.{Action}
use Rattle.ts_core.specs.declared.symbol.Symbol.{Symbol}
use Rattle.ts_table.specs.declared.view.ParseTable.{ParseTable}
use Rattle.ts_table.specs.Tables.{actions_of}
use Rattle.ts_lexer.specs.States.{AreValid, AreActing, GainsActing}
use Rattle.ts_lexer.proofs.StateLemmas.{acting_none, acting_more, gains_none, gains_push, WithExtras, are_valid}

-- the symbol of a number
abbrev symbol_at : ℕ → Symbol
symbol_at k = record { 0 = k }

-- the list, and the symbol where there are actions
with_acting : ℕ → List Action → List Symbol → List Symbol
with_acting k [] l = l
with_acting k (a ∷ more) l = l ++ symbol_at k ∷ []

-- the tokens below a number on which the state acts
acting_below : ParseTable → ℕ → ℕ → List Symbol
acting_below t n zero = []
acting_below t n (suc k) = with_acting k (actions_of t n k) (acting_below t n k)

none_in : (a : Action) → Contains [] a → ⊥
none_in a (k, below, _) = omega arith

gains_acting : (t : ParseTable) (n k : ℕ) (old : List Symbol) (actions : List Action) → actions_of t n k ≡ actions → GainsActing t n (symbol_at k) old (with_acting k actions old)
unfolding with_acting
gains_acting t n k old [] e = gains_none t n (symbol_at k) old (λ has. none_in has.0 (subst (λ (l : List Action). Contains l has.0) e has.1))
gains_acting t n k old (a ∷ more) e = gains_push t n (symbol_at k) old (a, subst (λ (l : List Action). Contains l a) (sym e) (0, (omega arith), refl))

are_acting : (t : ParseTable) (n k : ℕ) → AreActing t n (acting_below t n k) k
unfolding acting_below
are_acting t n zero = acting_none t n
are_acting t n (suc k) =
    let e : k + 1 ≡ suc k = omega arith in
    subst (λ (m : ℕ). AreActing t n (with_acting k (actions_of t n k) (acting_below t n k)) m) e
    (acting_more t n (symbol_at k) (acting_below t n k) (with_acting k (actions_of t n k) (acting_below t n k)) (are_acting t n k) (gains_acting t n k (acting_below t n k) (actions_of t n k) refl))

with_extras : (t : ParseTable) (n : ℕ) (tokens : List Symbol) → AreActing t n tokens (length t.grammar.tokens + 1) → WithExtras t n (tokens ++ t.grammar.extras) t.grammar.extras
with_extras t n tokens acting s = (
  (λ h. ⊎_elim (λ w. inl ((acting s).0 w)) (λ w. inr w) (Contains-append_cases tokens t.grammar.extras s h)),
  (λ h. ⊎_elim (λ w. Contains-append_left tokens t.grammar.extras s ((acting s).1 w)) (λ w. Contains-append_right tokens t.grammar.extras s w) h),
)

pub valid_list : (t : ParseTable) (n : ℕ) → (valid : List Symbol) × AreValid t n valid
valid_list t n = (
  acting_below t n (length t.grammar.tokens + 1) ++ t.grammar.extras,
  are_valid t n (acting_below t n (length t.grammar.tokens + 1) ++ t.grammar.extras)
      (with_extras t n (acting_below t n (length t.grammar.tokens + 1)) (are_acting t n (length t.grammar.tokens + 1))),
)
