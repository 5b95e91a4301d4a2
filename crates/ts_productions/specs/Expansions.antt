-- Alternatives whose inlined steps are replaced through and through. Serves private clauses and
-- proofs alone: what inlining gives is said by `Becomes`.
use Rattle.std.specs.Prelude.{◌≡◌, ℕ, ◌-◌, nat_lt, if◌then◌else◌, List, [], ◌∷◌, ◌++◌, map, slice_get, Option, Some, None, option_map}
use Rattle.std.specs.List.{flat_map}
use lib.IntN.{ℤ}
use Rattle.ts_rules.specs.declared.tree.Alternative.{Alternative}
use Rattle.ts_rules.specs.declared.tree.NumberedStep.{NumberedStep}
use Rattle.ts_rules.specs.Alternatives.{Alternatives, alternative, stronger}
use Rattle.ts_rules.specs.Productions.{marked_by, ended_by}
use Rattle.ts_productions.specs.declared.expansion.Expansion.{Expansion}

-- a list of expansions, in order
abbrev pub Expansions : Type 0
Expansions = List Expansion

-- the expansion of a dynamic value, steps, and a last step or none
abbrev pub expansion : ℤ → List NumberedStep → Option NumberedStep → Expansion
expansion dynamic steps last = record { dynamic = dynamic; steps = steps; last = last }

-- the step at the end, where there is one
abbrev pub close : List NumberedStep → Option NumberedStep → List NumberedStep
close steps None = steps
close steps (Some step) = steps ++ step ∷ []

-- the expansion as an alternative, with its last step among its steps
abbrev pub plain : Expansion → Alternative
plain e = alternative e.dynamic (close e.steps e.last)

-- an inserted step that takes the replaced step's precedence and associativity where it has none
abbrev pub last_by : NumberedStep → NumberedStep → NumberedStep
last_by step inner = ended_by step (marked_by step inner)

-- what comes in place of each symbol that is replaced
abbrev pub Table : Type 0
Table = ℕ → Option Expansions

-- what a function gives of a value, where there is one, and else another value
abbrev pub by_option : {A B : Type 0} → Option A → B → (A → B) → B
by_option None other f = other
by_option (Some x) other f = f x

-- The expansions that begin with the steps, and go on with those that are left, each of which stays
-- or is replaced by each expansion of its symbol. The last step is told apart as long as it comes
-- of the last step of what is expanded.
abbrev pub spread : Table → ℤ → List NumberedStep → Option NumberedStep → List NumberedStep
    → Expansions
spread F dynamic steps last [] = expansion dynamic steps last ∷ []
spread F dynamic steps last (step ∷ rest) =
    by_option (F step.symbol) (spread F dynamic (close steps last) (Some step) rest)
    (λ (inner : Expansions).
    flat_map (λ (x : Expansion).
    spread F (stronger dynamic x.dynamic) (close steps last ++ map (marked_by step) x.steps)
    (option_map (last_by step) x.last) rest) inner)

-- one expansion in place of a step, and then the steps that are left
abbrev pub onward : Table → ℤ → List NumberedStep → NumberedStep → List NumberedStep → Expansion
    → Expansions
onward F dynamic steps step rest x =
    spread F (stronger dynamic x.dynamic) (steps ++ map (marked_by step) x.steps)
    (option_map (last_by step) x.last) rest

-- the expansions of an alternative
abbrev pub spread_of : Table → Alternative → Expansions
spread_of F p = spread F p.dynamic [] None p.steps

-- the expansions of alternatives, one after another
abbrev pub spread_all : Table → Alternatives → Expansions
spread_all F = flat_map (spread_of F)

-- each symbol that is replaced has the expansions of its alternatives
abbrev pub IsFull : (ℕ → Option Alternatives) → Table → Type 0
IsFull At F = (s : ℕ) → F s ≡ option_map (spread_all F) (At s)

-- what replaces a symbol: the symbols from `first` on are replaced, each by its own alternatives
abbrev pub entry_at : {X : Type 0} → ℕ → List X → ℕ → Option X
entry_at first entries symbol =
    if nat_lt symbol first then None else slice_get entries (symbol - first)
