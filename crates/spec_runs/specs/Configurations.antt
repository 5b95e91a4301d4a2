-- Where a parser stands: a stack of trees and extras, and a place in the text. What it sees there,
-- and what a reduction makes of its stack.
use Rattle.std.specs.Prelude.{◌≡◌, ℕ, ◌+◌, ◌⊎◌, ◌↔◌, true, List, [], ◌∷◌, ◌++◌, length, reverse, drop, Some, None}
use Rattle.std.specs.List.{Contains}
use Rattle.ts_base.specs.Bytes.{Bytes}
use Rattle.ts_core.specs.declared.flat.FlatGrammar.{FlatGrammar}
use Rattle.ts_core.specs.declared.flat.Production.{Production}
use Rattle.ts_core.specs.declared.symbol.Symbol.{Symbol}
use Rattle.spec_grammar.specs.Symbols.{production_at, is_extra}
use Rattle.spec_lexing.specs.Lexing.{Found, Lex}
use Rattle.spec_tables.specs.Actions.{Move, Act}
use Rattle.spec_trees.specs.declared.tree.Tree.{Tree}
use Rattle.spec_trees.specs.Trees.{is_extra_node, span_of, bare}
use Rattle.spec_trees.specs.Made.{leaf_of, reduced, filling, BeginsFilled}

-- ---- stacks

-- A stack of trees and extras, the last one first, and the place up to which the text is read. Its
-- trees are bare: extents, states and marks of edits are no part of a run.
pub record Configuration : Type 0 where
  pub stack : List Tree
  pub place : ℕ

-- the empty stack, at the start of the text
abbrev pub starting : Configuration
starting = record { stack = []; place = 0 }

-- the symbols of a stack's trees, the last one first; extras are left out
abbrev pub stack_symbols : List Tree → List ℕ
stack_symbols = filling

-- the tree over a token
abbrev pub token_tree : Symbol → ℕ → ℕ → Tree
token_tree token pad size = bare (leaf_of token.0 pad size 0 None)

-- the tree on top of the stack, and the place behind it
abbrev pub pushed : Configuration → Tree → Configuration
pushed c t = record { stack = t ∷ c.stack; place = c.place + span_of t }

-- ---- the next token

-- some move stays on the token after these symbols
abbrev pub HasMove : FlatGrammar → List ℕ → ℕ → Type 0
HasMove g read token = (move : Move) × Act g read token move

-- the valid tokens after these symbols: those on which some move stays, and all extras
abbrev pub AreValidTokens : FlatGrammar → List ℕ → List Symbol → Type 0
AreValidTokens g read valid =
    (s : Symbol) → Contains valid s ↔ (HasMove g read s.0 ⊎ (is_extra g s.0 ≡ true))

-- what lexing comes to at the place of a configuration, for the tokens that are valid there
abbrev pub NextIs : FlatGrammar → Bytes → Configuration → Found → Type 0
NextIs g text c found =
    (valid : List Symbol) × AreValidTokens g (stack_symbols c.stack) valid
    × Lex g valid (drop c.place text) found

-- ---- reductions

-- all of these stand as extras
abbrev pub AreExtras : List Tree → Type 0
AreExtras [] = Unit {0}
AreExtras (t ∷ ts) = (is_extra_node t ≡ true) × AreExtras ts

-- A reduction by the production of a number. The extras on top are lifted. Then as many trees are
-- taken as the production has steps, with the extras between them. In their place stands the node
-- over them, and above it the lifted extras.
pub record IsReduction (g : FlatGrammar) (number : ℕ) (stack : List Tree) (node : Tree)
    (after : List Tree) : Type 0 where
  pub left : ℕ
  pub production : Production
  pub at : production_at g number ≡ Some (left, production)
  pub lifted : List Tree
  pub children : List Tree
  pub below : List Tree
  pub stack_is : stack ≡ lifted ++ (reverse children ++ below)
  pub extras : AreExtras lifted
  pub all_lifted : BeginsFilled (reverse children ++ below)
  pub count : length (filling children) ≡ length production.steps
  pub first_fills : BeginsFilled children
  pub node_is : node ≡ bare (reduced g number 0 None children)
  pub after_is : after ≡ lifted ++ node ∷ below
