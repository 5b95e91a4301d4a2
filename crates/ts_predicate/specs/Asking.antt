-- What is known while a predicate is judged. It serves private clauses and proofs alone.
use Rattle.std.specs.Prelude.{◌≡◌, ℕ, ◌<◌, Bool, true, false, List, Option, Some, None}
use Rattle.std.specs.List.{Contains}
use Rattle.ts_base.specs.Bytes.{Bytes}
use Rattle.regex.specs.Strings.{regex_pattern, matcher_pattern}
use Rattle.regex.specs.declared.string.matcher.Matcher.{Matcher}
use Rattle.ts_query_syntax.specs.declared.read_query.Asked.{Asked}
use Rattle.ts_query_syntax.specs.declared.read_query.Asked.TheVariants as asked
use Rattle.ts_predicate.specs.Predicates.{IsPair}

-- one text is asked to be something, and not pairs
abbrev pub IsOfOne : Asked → Type 0
IsOfOne (asked.Capture other) = ⊥
IsOfOne (asked.Text wanted) = Unit {0}
IsOfOne (asked.OneOf all) = Unit {0}
IsOfOne (asked.Found search) = Unit {0}
IsOfOne (asked.Host number) = Unit {0}

-- there is a matcher where a search is asked for, and it searches for that
abbrev pub HasMatcher : Option Matcher → Asked → Type 0
HasMatcher (Some m) (asked.Found search) = matcher_pattern m ≡ regex_pattern search
HasMatcher None (asked.Found search) = ⊥
HasMatcher matcher (asked.Capture other) = Unit {0}
HasMatcher matcher (asked.Text wanted) = Unit {0}
HasMatcher matcher (asked.OneOf all) = Unit {0}
HasMatcher matcher (asked.Host number) = Unit {0}

-- ---- one text after another

-- Whether it is so leaves the answer open: of all texts where it is as asked, of some text where
-- it is not.
abbrev pub LeavesOpen : Bool → Bool → Type 0 → Type 0
LeavesOpen false false Is = Is
LeavesOpen false true Is = Is → ⊥
LeavesOpen true false Is = Is → ⊥
LeavesOpen true true Is = Is

-- each of the texts leaves the answer open
abbrev pub AllLeaveOpen : Bool → Bool → (Bytes → Type 0) → List Bytes → Type 0
AllLeaveOpen some negated Is texts =
    (text : Bytes) → Contains texts text → LeavesOpen some negated (Is text)

-- each pair at a place below the number leaves the answer open
abbrev pub PairsLeaveOpen : Bool → Bool → ℕ → List Bytes → List Bytes → Type 0
PairsLeaveOpen some negated n texts others =
    (k : ℕ) (text other : Bytes) → k < n → IsPair texts others k text other
    → LeavesOpen some negated (text ≡ other)
