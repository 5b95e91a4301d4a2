-- Runs of a parser whose steps are the only ones, above a stack that they leave as it is.
use Rattle.std.specs.Prelude.{◌≡◌, ℕ, ◌+◌, ◌<◌, ◌≤◌, ◌↔◌, true, List, [], ◌∷◌, ◌++◌, length, reverse, drop, Some}
use Rattle.ts_base.specs.Bytes.{Bytes}
use Rattle.ts_core.specs.declared.flat.FlatGrammar.{FlatGrammar}
use Rattle.ts_core.specs.declared.flat.Production.{Production}
use Rattle.ts_core.specs.declared.symbol.Symbol.{Symbol}
use Rattle.spec_grammar.specs.Symbols.{production_at, is_extra}
use Rattle.spec_lexing.specs.Lexing.{Found, token, Lex}
use Rattle.spec_lexing.specs.Seen.{Agree}
use Rattle.spec_tables.specs.Items.{Item, Valid}
use Rattle.spec_tables.specs.Actions.{Move, Act, shift, reduce}
use Rattle.spec_trees.specs.declared.tree.Tree.{Tree}
use Rattle.spec_trees.specs.Trees.{tree_depth, node_extent, span_of, all_spans, bare}
use Rattle.spec_trees.specs.Made.{as_extra, most_depth, EndBy, BeginsFilled}
use Rattle.spec_runs.specs.Configurations.{stack_symbols, token_tree, HasMove, AreValidTokens, AreExtras, IsReduction}

-- the same items are valid after both lists of symbols
abbrev pub HaveSameItems : FlatGrammar → List ℕ → List ℕ → Type 0
HaveSameItems g read other = (i : Item) → Valid g read i ↔ Valid g other i

-- after these symbols the move stays on the token, and no other does
pub record IsOnlyMove (g : FlatGrammar) (read : List ℕ) (t : ℕ) (move : Move) : Type 0 where
  pub stays : Act g read t move
  pub only : (other : Move) → Act g read t other → other ≡ move

-- This is what lexing comes to after these symbols, and so many bytes of what is left of the text
-- decide it: it comes to the same wherever they stand. The end counts as one byte.
abbrev pub IsDecided : FlatGrammar → List ℕ → Bytes → Found → ℕ → Type 0
IsDecided g read rest found extent =
    (valid : List Symbol) × AreValidTokens g read valid
    × ((other : Bytes) → Agree extent rest other → Lex g valid other found)

-- the production of this number has steps
abbrev pub HasSteps : FlatGrammar → ℕ → Type 0
HasSteps g number =
    (left : ℕ) × (p : Production) × (production_at g number ≡ Some (left, p))
    × (0 < length p.steps)

-- A run above a stack with these symbols, on what is left of a text: what it has put on the stack,
-- and how many bytes it has read. Each configuration has one move alone, or an extra that is
-- passed. No step takes a tree of the stack below, and each lexing is decided by bytes among the
-- first so many.
pub data ForcedRun (g : FlatGrammar) (read : List ℕ) (rest : Bytes) (extent : ℕ)
    : List Tree → ℕ → Type 0 where
  run_begins : ForcedRun g read rest extent [] 0
  run_shifts : (stack : List Tree) (bytes : ℕ) (s : Symbol) (pad size e : ℕ)
      → ForcedRun g read rest extent stack bytes
      → IsDecided g (stack_symbols stack ++ read) (drop bytes rest) (token s pad size) e
      → bytes + e ≤ extent
      → IsOnlyMove g (stack_symbols stack ++ read) s.0 shift
      → ForcedRun g read rest extent (token_tree s pad size ∷ stack) (bytes + (pad + size))
  run_passes : (stack : List Tree) (bytes : ℕ) (s : Symbol) (pad size e : ℕ)
      → ForcedRun g read rest extent stack bytes
      → IsDecided g (stack_symbols stack ++ read) (drop bytes rest) (token s pad size) e
      → bytes + e ≤ extent
      → is_extra g s.0 ≡ true → (HasMove g (stack_symbols stack ++ read) s.0 → ⊥)
      → ForcedRun g read rest extent (as_extra (token_tree s pad size) ∷ stack)
      (bytes + (pad + size))
  run_reduces : (stack : List Tree) (bytes : ℕ) (s : Symbol) (pad size e number : ℕ) (node : Tree)
      (after : List Tree)
      → ForcedRun g read rest extent stack bytes
      → IsDecided g (stack_symbols stack ++ read) (drop bytes rest) (token s pad size) e
      → bytes + e ≤ extent
      → IsOnlyMove g (stack_symbols stack ++ read) s.0 (reduce number)
      → HasSteps g number → IsReduction g number stack node after → tree_depth node ≤ most_depth
      → ForcedRun g read rest extent after bytes

-- such a run makes the node: it leaves it, with some extras above it
pub record IsForced (g : FlatGrammar) (read : List ℕ) (rest : Bytes) (t : Tree)
    (extent : ℕ) : Type 0 where
  pub extras : List Tree
  pub all_extras : AreExtras extras
  pub bytes : ℕ
  pub run : ForcedRun g read rest extent (extras ++ bare t ∷ []) bytes

-- The node stands after these symbols, on what is left of a text, by so many bytes: it is forced
-- after all symbols with the same valid items, wherever the same bytes stand.
abbrev pub Stands : FlatGrammar → List ℕ → Bytes → Tree → ℕ → Type 0
Stands g read rest t extent =
    (other : List ℕ) (text : Bytes) → HaveSameItems g read other → Agree extent rest text
    → IsForced g other text t extent

-- ---- a node over children that stand

-- nodes one after another, each of which stands after those before it, by what was examined for it
abbrev pub StandInTurn : FlatGrammar → List ℕ → Bytes → List Tree → Type 0
StandInTurn g read rest [] = Unit {0}
StandInTurn g read rest (t ∷ ts) =
    Stands g read rest t (node_extent t)
    × StandInTurn g (stack_symbols (t ∷ []) ++ read) (drop (span_of t) rest) ts

-- A reduction by the production of this number that is no choice. Its children stand, and so do the
-- extras above them that are lifted, the last one first. On the token behind them all it is the
-- only move. So many bytes cover what was examined for all of them, the token among them.
pub record MakesNode (g : FlatGrammar) (read : List ℕ) (rest : Bytes) (number : ℕ)
    (children lifted : List Tree) (extent : ℕ) : Type 0 where
  pub left : ℕ
  pub production : Production
  pub at : production_at g number ≡ Some (left, production)
  pub some : 0 < length production.steps
  pub stand : StandInTurn g read rest (children ++ reverse lifted)
  pub covers : EndBy extent 0 (children ++ reverse lifted)
  pub all_extras : AreExtras lifted
  pub begins : BeginsFilled children
  pub ends : BeginsFilled (reverse children)
  pub count : length (stack_symbols children) ≡ length production.steps
  pub symbol : Symbol
  pub pad : ℕ
  pub size : ℕ
  pub ahead : ℕ
  pub seen : IsDecided g (stack_symbols (reverse children) ++ read)
      (drop (all_spans children + all_spans lifted) rest) (token symbol pad size) ahead
  pub only : IsOnlyMove g (stack_symbols (reverse children) ++ read) symbol.0 (reduce number)
  pub reach : all_spans children + all_spans lifted + ahead ≤ extent
