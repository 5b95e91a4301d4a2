-- Verdicts that were made ahead, for lists of valid tokens.
use Rattle.std.specs.Prelude.{◌≡◌, ℕ, ◌++◌, Bool, true, false, List, length, map, slice_get, Option, Some, None}
use Rattle.std.specs.Global.{Vec}
use Rattle.ts_core.specs.declared.flat.FlatGrammar.{FlatGrammar}
use Rattle.ts_core.specs.declared.symbol.Symbol.{Symbol}
use Rattle.ts_automata.specs.declared.tables.SetTables.{SetTables}
use Rattle.ts_automata.specs.Sets.{EachAt, sets_of}
use Rattle.ts_automata.specs.Machine.{state_count}
use Rattle.ts_lexer.specs.declared.ahead.LexTables.{LexTables}
use Rattle.ts_lexer.specs.declared.ahead.RowPair.{RowPair}
use Rattle.ts_lexer.specs.declared.verdict.Verdict.{Verdict}
use Rattle.ts_lexer.specs.declared.view.View.{View}
use Rattle.ts_lexer.specs.Judged.{JudgesNodes}
use Rattle.ts_lexer.specs.Views.{IsView}

-- the elements of each
abbrev pub contents_of : {X : Type 0} → List (Vec X) → List (List X)
contents_of vs = map (λ v. v.items) vs

-- the list has this number, and was added at the end if it was new
pub record IsNumbered {X : Type 0} (old new : List (List X)) (xs : List X) (n : ℕ) : Type 0 where
  pub more : List (List X)
  pub is : new ≡ old ++ more
  pub at : slice_get new n ≡ Some xs

-- the tables are the same, but for more rows at the end
pub record HasMoreRows (old new : LexTables) : Type 0 where
  pub machine : new.machine ≡ old.machine
  pub rules : new.rules ≡ old.rules
  pub more : List (List Verdict)
  pub rows : contents_of new.rows.keys ≡ contents_of old.rows.keys ++ more

-- the row has what the valid tokens make of each set of the machine
pub record AreVerdicts (g : FlatGrammar) (valid : List Symbol) (first : Bool) (m : SetTables)
    (row : List Verdict) : Type 0 where
  pub count : length row ≡ state_count m
  pub each : EachAt
      (λ n v. (s : List ℕ) → slice_get (sets_of m.sets.keys) n ≡ Some s
      → JudgesNodes g valid first m.automaton s v) row

-- the rows of these two numbers are the valid tokens': for the first place that is tried, and for
-- later ones
pub record HasPair (g : FlatGrammar) (valid : List Symbol) (t : LexTables) (p : RowPair)
    : Type 0 where
  pub early : List Verdict
  pub early_at : slice_get (contents_of t.rows.keys) p.first ≡ Some early
  pub early_is : AreVerdicts g valid true t.machine early
  pub late : List Verdict
  pub late_at : slice_get (contents_of t.rows.keys) p.later ≡ Some late
  pub late_is : AreVerdicts g valid false t.machine late

-- the rows have what the valid tokens make of each set, or else the marks are those of the tokens
abbrev pub IsReady : FlatGrammar → List Symbol → LexTables → View → Option RowPair → Type 0
IsReady g valid t v None = IsView g valid v
IsReady g valid t v (Some p) = HasPair g valid t p

-- where a list of tokens has rows, they are the list's
abbrev pub HavePairs : FlatGrammar → LexTables → List (List Symbol) → List (Option RowPair) → Type 0
HavePairs g t lists pairs =
    (k : ℕ) (valid : List Symbol) (p : RowPair) → slice_get lists k ≡ Some valid
    → slice_get pairs k ≡ Some (Some p) → HasPair g valid t p
