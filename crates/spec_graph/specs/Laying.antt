-- What runs lay on a stack, one entry after another. The stack below is not named: its symbols and
-- its place say all that counts.
use Rattle.std.specs.Prelude.{◌≡◌, ℕ, ◌+◌, ◌<◌, ◌≤◌, ◌⊎◌, true, List, [], ◌∷◌, ◌++◌, length, reverse, drop, Some, None}
use Rattle.ts_base.specs.Bytes.{Bytes}
use Rattle.ts_core.specs.declared.flat.FlatGrammar.{FlatGrammar}
use Rattle.ts_core.specs.declared.flat.Production.{Production}
use Rattle.ts_core.specs.declared.symbol.Symbol.{Symbol}
use Rattle.spec_grammar.specs.Symbols.{production_at, is_extra}
use Rattle.spec_lexing.specs.Lexing.{Found, token, Lex}
use Rattle.spec_tables.specs.Actions.{Act, shift, reduce}
use Rattle.spec_trees.specs.declared.tree.Tree.{Tree}
use Rattle.spec_trees.specs.Trees.{span_of, all_spans, tree_depth, bare}
use Rattle.spec_trees.specs.Made.{as_extra, reduced, filling, step_symbols, BeginsFilled, most_depth}
use Rattle.spec_runs.specs.Configurations.{Configuration, token_tree, HasMove, AreValidTokens, AreExtras}
use Rattle.spec_runs.specs.Runs.{Run, IsReached}
use Rattle.spec_packing.specs.Replacing.{AllReplace}
use Rattle.spec_packing.specs.Packing.{PackedTree, PackedStack, packed_trees, AllCover, WasMet}
use Rattle.spec_graph.specs.States.{Goto, ShareState}

-- What is parsed: a grammar, a text, where states lead, and the layers of the stack from which runs
-- go on, with the place where it ends. Nothing is laid anew before that place.
pub record Parsing : Type 0 where
  pub grammar : FlatGrammar
  pub text : Bytes
  pub goto : Goto
  pub layers : List PackedTree
  pub place : ℕ

-- the same from the start of the text
abbrev pub from_start : Parsing → Parsing
from_start P = record {
  grammar = P.grammar;
  text = P.text;
  goto = P.goto;
  layers = [];
  place = 0;
}

-- ---- readings

-- The layers of the stack are those from which runs go on, with extras on top. They are none, or
-- have bytes.
pub record IsBegun (P : Parsing) (k : PackedStack) : Type 0 where
  pub extras : List PackedTree
  pub stack_is : k.stack ≡ extras ++ P.layers
  pub all_extras : AreExtras (packed_trees extras)
  pub begins : BeginsFilled (packed_trees P.layers)
  pub bytes : (P.layers ≡ []) ⊎ (0 < P.place)
  pub place_is : P.place ≡ all_spans (packed_trees P.layers)

-- Some stack that was met has the layers from which runs go on, with extras on top.
pub record IsMet (P : Parsing) : Type 0 where
  pub stack : PackedStack
  pub begun : IsBegun P stack
  pub met : WasMet P.grammar P.text stack

-- a run comes to these trees, with extras on top
pub record HasRun (P : Parsing) (stack : List Tree) : Type 0 where
  pub config : Configuration
  pub reached : IsReached P.grammar P.text config
  pub extras : List Tree
  pub stack_is : config.stack ≡ extras ++ stack
  pub all_extras : AreExtras extras

-- A reading of the stack from which runs go on: trees for which its layers may stand. They are the
-- layers' own, or the layers were met, and a run comes to these trees.
pub record IsReading (P : Parsing) (stack : List Tree) : Type 0 where
  pub cover : AllCover P.layers stack
  pub replace : AllReplace (packed_trees P.layers) stack
  pub from : (stack ≡ packed_trees P.layers) ⊎ (IsMet P × HasRun P stack)

-- ---- what is seen

-- what lexing comes to at a place, for the tokens that are valid after these symbols
abbrev pub SeesAt : Parsing → List ℕ → ℕ → Found → Type 0
SeesAt P read place found =
    (valid : List Symbol) × AreValidTokens P.grammar read valid
    × Lex P.grammar valid (drop place P.text) found

-- a token is seen on which some move stays
pub record GoesOn (P : Parsing) (read : List ℕ) (place : ℕ) : Type 0 where
  pub symbol : Symbol
  pub pad : ℕ
  pub size : ℕ
  pub sees : SeesAt P read place (token symbol pad size)
  pub moves : HasMove P.grammar read symbol.0

-- an extra is seen on which no move stays
pub record PassesAt (P : Parsing) (read : List ℕ) (place : ℕ) (symbol : Symbol) (pad size : ℕ)
    : Type 0 where
  pub sees : SeesAt P read place (token symbol pad size)
  pub extra : is_extra P.grammar symbol.0 ≡ true
  pub none : HasMove P.grammar read symbol.0 → ⊥

-- A token is seen on which a reduction stays: by the production of a number, whose rule is `left`,
-- after the earlier symbols.
pub record ReducesAt (P : Parsing) (read : List ℕ) (place number left : ℕ) (p : Production)
    (earlier : List ℕ) : Type 0 where
  pub symbol : Symbol
  pub pad : ℕ
  pub size : ℕ
  pub sees : SeesAt P read place (token symbol pad size)
  pub stays : Act P.grammar read symbol.0 (reduce number)
  pub at : production_at P.grammar number ≡ Some (left, p)
  pub read_is : read ≡ reverse (step_symbols p) ++ earlier

-- ---- entries

-- the tree over a token that stands as an extra
abbrev pub extra_tree : Symbol → ℕ → ℕ → Tree
extra_tree symbol pad size = as_extra (token_tree symbol pad size)

-- The tree is an extra that is passed after these symbols, from one place up to another.
pub record PassesTree (P : Parsing) (read : List ℕ) (from : ℕ) (t : Tree) (place : ℕ)
    : Type 0 where
  pub symbol : Symbol
  pub pad : ℕ
  pub size : ℕ
  pub passes : PassesAt P read from symbol pad size
  pub tree_is : t ≡ extra_tree symbol pad size
  pub ends : place ≡ from + (pad + size)

-- the node of a reduction over its children
abbrev pub node_made : Parsing → ℕ → List Tree → Tree
node_made P number children = bare (reduced P.grammar number 0 None children)

-- What a reduction takes: trees, the first and the last of which fill steps. Or it takes nothing,
-- and then nothing stands below.
pub data Taken (children below : List Tree) (read : List ℕ) (place : ℕ) : Type 0 where
  some : 0 < length children → BeginsFilled children → BeginsFilled (reverse children)
      → Taken children below read place
  nothing : children ≡ [] → below ≡ [] → read ≡ [] → place ≡ 0 → Taken children below read place

-- After these symbols, at this place, trees and extras can be laid one after another, the topmost
-- first. They end at a place, with the symbols then read. Each stood on some reading of the stack
-- from which runs go on; or is a token that is shifted, an extra that is passed, or a node: over
-- trees that are laid, after which the extras up to its lookahead are passed.
pub data Lays (P : Parsing) : List ℕ → ℕ → List Tree → ℕ → List ℕ → Type 0 where
  flat : (read : List ℕ) (from : ℕ) → Lays P read from [] from read
  stood : (read : List ℕ) (from : ℕ) (w : List Tree) (place : ℕ) (now : List ℕ) (t : Tree)
      (above below : List Tree) → Lays P read from w place now → IsReading P (above ++ t ∷ below)
      → place ≡ all_spans below → ShareState P.goto (filling below) now
      → Lays P read from (t ∷ w) (place + span_of t) (filling (t ∷ []) ++ now)
  shifted : (read : List ℕ) (from : ℕ) (w : List Tree) (place : ℕ) (now : List ℕ)
      (symbol : Symbol) (pad size : ℕ) → Lays P read from w place now → P.place ≤ place
      → SeesAt P now place (token symbol pad size) → Act P.grammar now symbol.0 shift
      → Lays P read from (token_tree symbol pad size ∷ w) (place + (pad + size)) (symbol.0 ∷ now)
  passed : (read : List ℕ) (from : ℕ) (w : List Tree) (place : ℕ) (now : List ℕ)
      (symbol : Symbol) (pad size : ℕ) → Lays P read from w place now → P.place ≤ place
      → PassesAt P now place symbol pad size
      → Lays P read from (extra_tree symbol pad size ∷ w) (place + (pad + size)) now
  made : (read : List ℕ) (from : ℕ) (w : List Tree) (place : ℕ) (now : List ℕ)
      (children : List Tree) (end : ℕ) (over : List ℕ) (extras : List Tree)
      (look number left : ℕ) (p : Production) → Lays P read from w place now
      → Lays P now place (reverse children) end over → Lays P over end extras look over
      → AreExtras extras → P.place ≤ look → Taken children w read from
      → ReducesAt P over look number left p now → length (filling children) ≡ length p.steps
      → tree_depth (node_made P number children) ≤ most_depth
      → Lays P read from (node_made P number children ∷ w) end (left ∷ now)

-- What a node is made of, at its lookahead, whatever its depth. It can be laid where it is no
-- deeper than a node may be.
pub record CanMakeNode (P : Parsing) (now : List ℕ) (place : ℕ) (children : List Tree) (end : ℕ)
    (over : List ℕ) (extras : List Tree) (look number left : ℕ) (p : Production) : Type 0 where
  pub inner : Lays P now place (reverse children) end over
  pub outer : Lays P over end extras look over
  pub all_extras : AreExtras extras
  pub late : P.place ≤ look
  pub taken : Taken children [] now place
  pub reduces : ReducesAt P over look number left p now
  pub count : length (filling children) ≡ length p.steps

-- What is laid on a stack is reached by a run, once the extras that come after it are passed.
pub record ComesOver (P : Parsing) (stack w : List Tree) (from place : ℕ) (now : List ℕ)
    : Type 0 where
  pub extras : List Tree
  pub look : ℕ
  pub lays : Lays P now place extras look now
  pub all_extras : AreExtras extras
  pub run : Run P.grammar P.text (record { stack = stack; place = from })
      (record { stack = extras ++ (w ++ stack); place = look })
