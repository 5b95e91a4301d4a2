-- Stacks whose trees stand: what is known of a stack of a parser, and what is seen from it.
use Rattle.std.specs.Prelude.{◌≡◌, ℕ, ◌+◌, ◌<◌, ◌≤◌, suc, Bool, true, if◌then◌else◌, List, [], ◌∷◌, length, drop, slice_get, Option, Some, None, IsTrue}
use Rattle.std.proofs.Common.{is_some}
use Rattle.ts_base.specs.Bytes.{Bytes}
use Rattle.ts_core.specs.declared.flat.FlatGrammar.{FlatGrammar}
use Rattle.spec_grammar.specs.Symbols.{start_symbol, is_extra}
use Rattle.spec_lexing.specs.Lexing.{token}
use Rattle.spec_tables.specs.Actions.{Move}
use Rattle.spec_trees.specs.declared.tree.Tree.{Tree}
use Rattle.spec_trees.specs.Trees.{symbol_of, production_of, pad_of, elements_of, children_of, is_settled, is_extra_node, node_extent, span_of, all_spans, first_pad, bare}
use Rattle.spec_trees.specs.Inside.{IsNodeIn}
use Rattle.spec_trees.specs.Made.{IsLeaf, filling}
use Rattle.spec_runs.specs.Configurations.{HasMove, pushed}
use Rattle.spec_forced.specs.Forced.{IsDecided, IsOnlyMove}
use Rattle.spec_forced.specs.Sound.{States, StandOnStack}
use Rattle.ts_table.specs.declared.view.ParseTable.{ParseTable}
use Rattle.ts_table.specs.Tables.{IsStateOf}
use Rattle.ts_gss.specs.declared.layer.Layer.{Layer}
use Rattle.ts_gss.specs.Stacks.{layer_with, stack_at, trees_on}
use Rattle.ts_steps.specs.declared.head.StackHead.{StackHead}
use Rattle.ts_steps.specs.declared.found.FoundToken.{FoundToken}
use Rattle.ts_steps.specs.Good.{IsGoodTree, EachTree}
use Rattle.ts_steps.specs.LiveHeads.{config_of, IsLiveHead, read_on}
use Rattle.ts_steps.specs.declared.ahead.TokenAhead.{TokenAhead}

-- ---- states

-- for each state of a table a list of symbols that leads to it
pub record AreStatesOf (t : ParseTable) (states : States) : Type 0 where
  pub count : length states ≡ length t.rows
  pub each : (state : ℕ) (way : List ℕ) → slice_get states state ≡ Some way → IsStateOf t way state

-- the state below a node, where it was made without a choice
abbrev pub state_where : Bool → ℕ → Option ℕ
state_where only state = if only then Some state else None

-- ---- trees that a parser made

-- a tree as the moves of a parser of the grammar leave it: where it is that of a production, its
-- children take all its bytes
pub record IsOwnTree (g : FlatGrammar) (t : Tree) : Type 0 where
  pub good : IsGoodTree g t
  pub filled : IsTrue (is_some (production_of t)) → span_of t ≡ all_spans (children_of t)

-- so is each settled node in it
abbrev pub IsOwnWithin : FlatGrammar → Tree → Type 0
IsOwnWithin g t = (u : Tree) → IsNodeIn t u → is_settled u ≡ true → IsOwnTree g u

-- The tree's own node is such as a move makes. It has no number where it has elements. If it is not
-- that of a token, it begins where its first child begins, and has just its children's bytes. An
-- extra is over a token.
pub record IsMadeNode (g : FlatGrammar) (t : Tree) : Type 0 where
  pub numberless : 0 < length (elements_of t) → production_of t ≡ None
  pub pad : start_symbol g ≤ symbol_of t → pad_of t ≡ first_pad (children_of t)
  pub span : start_symbol g ≤ symbol_of t → span_of t ≡ all_spans (children_of t)
  pub extra : is_extra_node t ≡ true → IsLeaf t × (children_of t ≡ [])

-- ---- the stack of a head

-- The head is that of a live stack, whose trees a parser of the grammar made.
pub record IsOwnHead (t : ParseTable) (size : ℕ) (stacks : List (List Layer)) (h : StackHead)
    : Type 0 where
  pub live : IsLiveHead t size stacks h
  pub own : EachTree (IsOwnWithin t.grammar) (trees_on (stack_at stacks h.top))
  pub made : EachTree (IsMadeNode t.grammar) (trees_on (stack_at stacks h.top))

-- the trees on the stack of the head stand where they lie in the text, and so do the settled nodes
-- in them
abbrev pub StandOnHead : ParseTable → States → Bytes → List (List Layer) → StackHead → Type 0
StandOnHead t states text stacks h =
    StandOnStack t.grammar states text (trees_on (stack_at stacks h.top))

-- the stack of the new head is that of the old one with this tree on top, and this state above it
abbrev pub IsPutOn : List (List Layer) → List (List Layer) → StackHead → StackHead → Tree → ℕ
    → Type 0
IsPutOn old new h k tree state =
    stack_at new k.top ≡ layer_with tree state ∷ stack_at old h.top

-- ---- what is seen

-- this token is seen from the stack, and the bytes that were examined for it decide so
abbrev pub IsDecidedAhead : ParseTable → Bytes → List (List Layer) → StackHead → FoundToken
    → Type 0
IsDecidedAhead t text stacks h f =
    IsDecided t.grammar (read_on stacks h) (drop h.place text) (token f.token f.pad f.size) f.extent

-- and where it is said to be so, this is the only move on the token
pub record IsMoveAhead (t : ParseTable) (text : Bytes) (stacks : List (List Layer)) (h : StackHead)
    (a : TokenAhead) (move : Move) : Type 0 where
  pub decided : IsDecidedAhead t text stacks h a.found
  pub only : a.only ≡ true → IsOnlyMove t.grammar (read_on stacks h) a.found.token.0 move

-- the token is an extra on which no move stays
pub record IsExtraAhead (t : ParseTable) (text : Bytes) (stacks : List (List Layer)) (h : StackHead)
    (f : FoundToken) : Type 0 where
  pub decided : IsDecidedAhead t text stacks h f
  pub extra : is_extra t.grammar f.token.0 ≡ true
  pub idle : HasMove t.grammar (read_on stacks h) f.token.0 → ⊥

-- ---- nodes that are taken over

-- a node begins where its first child begins; without children, it has no bytes
abbrev pub BeginsBy : ℕ → ℕ → List Tree → Type 0
BeginsBy pad span [] = span ≡ 0
BeginsBy pad span (t ∷ ts) = pad ≡ pad_of t

-- the same of a tree's own node
abbrev pub BeginsWithChild : Tree → Type 0
BeginsWithChild t = BeginsBy (pad_of t) (span_of t) (children_of t)

-- The node can be laid on the stack: it is such as a move makes, its examined bytes lie in the text
-- and its end, and the table leads over its symbol.
pub record CanTake (t : ParseTable) (size : ℕ) (stacks : List (List Layer)) (h : StackHead)
    (node : Tree) (state : ℕ) : Type 0 where
  pub made : IsMadeNode t.grammar node
  pub reach : h.place + node_extent node ≤ suc size
  pub leads : IsStateOf t (filling (node ∷ trees_on (stack_at stacks h.top))) state

-- the node was put on the stack whole, with the state to which the table leads
pub record IsTaken (t : ParseTable) (size : ℕ) (old new : List (List Layer)) (h : StackHead)
    (node : Tree) (k : StackHead) : Type 0 where
  pub state : ℕ
  pub can : CanTake t size old h node state
  pub put : IsPutOn old new h k node state
  pub config : config_of new k ≡ pushed (config_of old h) (bare node)
  pub live : IsOwnHead t size new k
