-- What replaces a symbol, by the symbol's place.
use Rattle.std.proofs.Common.{◌≡◌, ◌∙◌, ap, sym, arith, ℕ, ◌+◌, ◌-◌, ◌<◌, ◌≤◌, Bool, if◌then◌else◌, ◌⊎◌, inl, inr, ⊎_elim, List, length, slice_get, Option, Some, None}
use Rattle.std.proofs.lemmas.Bool.{cases_lt, lt-ltb, le-ltb}
use Rattle.std.proofs.lemmas.Option.{slice_get_past}
use Rattle.ts_productions.specs.Expansions.{entry_at}

abbrev pick : {X : Type 0} → Option X → Bool → Option X
pick other b = if b then None else other

pub entry_hit : {X : Type 0} (first : ℕ) (xs : List X) (s k : ℕ) → s ≡ first + k → entry_at first xs s ≡ slice_get xs k
entry_hit first xs s k e =
    ap (pick (slice_get xs (s - first))) (le-ltb s first (omega arith))
    ∙ ap (slice_get xs) (let f : s - first ≡ k = omega arith in f)

pub entry_miss : {X : Type 0} (first : ℕ) (xs : List X) (s : ℕ) → (s < first) ⊎ (first + length xs ≤ s) → entry_at first xs s ≡ None
entry_miss first xs s (inl h) = ap (pick (slice_get xs (s - first))) (lt-ltb s first h)
entry_miss {X = X} first xs s (inr h) =
    entry_hit first xs s (s - first) (omega arith) ∙ slice_get_past xs (s - first) (omega arith)

-- the symbol is that of a place, or of none
pub entry_cases : {X : Type 0} (first : ℕ) (xs : List X) (s : ℕ) → ((k : ℕ) × (s ≡ first + k) × (k < length xs)) ⊎ ((s < first) ⊎ (first + length xs ≤ s))
entry_cases first xs s = ⊎_elim
    (λ h. inr (inl h))
    (λ h. ⊎_elim (λ w. inl (s - first, omega arith, w)) (λ w. inr (inr (omega arith))) (cases_lt (s - first) (length xs)))
    (cases_lt s first)

pub entry_there : {X : Type 0} (first : ℕ) (xs : List X) (s k : ℕ) (x : X) → s ≡ first + k → slice_get xs k ≡ Some x → entry_at first xs s ≡ Some x
entry_there first xs s k x e is = entry_hit first xs s k e ∙ is

-- an entry stands at a place
pub entry_place : {X : Type 0} (first : ℕ) (xs : List X) (s : ℕ) (x : X) → entry_at first xs s ≡ Some x → (k : ℕ) × (s ≡ first + k) × (slice_get xs k ≡ Some x)
entry_place first xs s x is = ⊎_elim
    (λ w. (w.0, w.1, sym (entry_hit first xs s w.0 w.1) ∙ is))
    (λ w. absurd (never (sym is ∙ entry_miss first xs s w)))
    (entry_cases first xs s)
  where
    never : Some x ≡ None → ⊥
    never e = cc
