-- What judges by the predicates of a query. It serves private clauses and proofs alone.
use Rattle.std.specs.Prelude.{◌≡◌, ℕ, List, [], Option, Some, None, slice_get}
use Rattle.ts_query_syntax.specs.declared.read_query.Pattern.{Pattern}
use Rattle.ts_query_syntax.specs.declared.read_query.Predicate.{Predicate}
use Rattle.ts_query_syntax.specs.declared.read_query.ReadQuery.{ReadQuery}
use Rattle.ts_predicate.specs.declared.judge.Judges.{Judges}

-- the predicates by which they judge
abbrev pub predicates_of : Option Judges → List Predicate
predicates_of None = []
predicates_of (Some judges) = judges.all.items

-- they are those for the pattern of this number
abbrev pub AreFor : Option Judges → ℕ → Type 0
AreFor None number = ⊥
AreFor (Some judges) number = judges.number ≡ number

-- they judge by the predicates of a pattern of the query
abbrev pub AreOf : Option Judges → ReadQuery → Type 0
AreOf judges query =
    (number : ℕ) (pattern : Pattern) → AreFor judges number
    → slice_get query.patterns number ≡ Some pattern → predicates_of judges ≡ pattern.predicates
