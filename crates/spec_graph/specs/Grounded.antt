-- What a stack from which runs go on is by itself, whatever run came to it.
use Rattle.std.specs.Prelude.{◌≡◌, ℕ, ◌<◌, ◌≤◌, ◌⊎◌, suc, Bool, true, false, List, [], ◌∷◌, ◌++◌, length, None, IsTrue}
use Rattle.std.proofs.Common.{is_some}
use Rattle.ts_core.specs.declared.flat.FlatGrammar.{FlatGrammar}
use Rattle.spec_grammar.specs.Symbols.{start_symbol, is_repetition}
use Rattle.spec_trees.specs.declared.tree.Tree.{Tree}
use Rattle.spec_trees.specs.Trees.{symbol_of, production_of, pad_of, is_extra_node, elements_of, children_of, span_of, all_spans, first_pad}
use Rattle.spec_trees.specs.Made.{filling, BeginsFilled, AreCounted}
use Rattle.spec_trees.specs.Choice.{code_of, has_form}
use Rattle.spec_runs.specs.Moves.{IsUnused}
use Rattle.spec_packing.specs.Packing.{PackedTree, packed_trees, AllCover}
use Rattle.spec_graph.specs.States.{LeadsTo}
use Rattle.spec_graph.specs.Laying.{Parsing}

-- ---- trees that moves make

-- So many codes of trees, or so many elements of a repetition, one after another: each says how
-- many lie in it, and that of a repetition's node says how many elements it has.
pub data Spells (g : FlatGrammar) : Bool → ℕ → List ℕ → Type 0 where
  nothing_more : (elements : Bool) → Spells g elements 0 []
  a_tree : (n symbol number pad size count : ℕ) (inner after : List ℕ)
      → Spells g (is_repetition g symbol) count inner → Spells g false n after
      → Spells g false (suc n) (symbol ∷ number ∷ pad ∷ size ∷ count ∷ (inner ++ after))
  one_part : (n alternative count : ℕ) (inner after : List ℕ) → Spells g false count inner
      → Spells g true n after → Spells g true (suc n) (alternative ∷ count ∷ (inner ++ after))

-- a node over its children: it begins where the first of them begins, and has just their bytes
pub record LiesOver (t : Tree) : Type 0 where
  pub pad : pad_of t ≡ first_pad (children_of t)
  pub span : span_of t ≡ all_spans (children_of t)

-- a node over a token
pub record IsTokenNode (t : Tree) : Type 0 where
  pub production : production_of t ≡ None
  pub elements : elements_of t ≡ []
  pub children : children_of t ≡ []

-- The tree is such as shifts, extras and reductions make: in the form of its grammar, with elements
-- that have just its children, and without a number where it has elements. A node of a rule lies
-- over its children, that of the start rule has a number, and an extra is a token. The tree has
-- bytes, or is the node of a rule over nothing.
pub record IsMadeTree (g : FlatGrammar) (t : Tree) : Type 0 where
  pub spelled : Spells g false 1 (code_of t)
  pub form : has_form (is_repetition g (symbol_of t)) (elements_of t) ≡ true
  pub counted : AreCounted (elements_of t) (children_of t)
  pub numberless : 0 < length (elements_of t) → production_of t ≡ None
  pub whole : start_symbol g ≤ symbol_of t → LiesOver t
  pub rule : is_extra_node t ≡ false → symbol_of t ≡ start_symbol g
      → IsTrue (is_some (production_of t))
  pub some : (0 < span_of t) ⊎ (IsUnused g (symbol_of t) × (children_of t ≡ []))
  pub extra : is_extra_node t ≡ true → IsTokenNode t

-- each tree of the list is
abbrev pub AreMadeTrees : FlatGrammar → List Tree → Type 0
AreMadeTrees g [] = Unit {0}
AreMadeTrees g (t ∷ ts) = IsMadeTree g t × AreMadeTrees g ts

-- ---- the stack

-- each extra on the stack has bytes
abbrev pub HaveExtrasBytes : List Tree → Type 0
HaveExtrasBytes [] = Unit {0}
HaveExtrasBytes (t ∷ ts) = (is_extra_node t ≡ true → 0 < span_of t) × HaveExtrasBytes ts

-- a list is empty, or begins with a tree that has bytes
abbrev pub BeginsWithBytes : List Tree → Type 0
BeginsWithBytes [] = Unit {0}
BeginsWithBytes (t ∷ ts) = 0 < span_of t

-- The stack from which runs go on ends at the place. It is empty, or its topmost tree fills a step
-- and has bytes. Its extras have bytes, its trees are such as moves make, none is deeper than its
-- layer says, and the symbols up to each of them lead to a state.
pub record IsGrounded (P : Parsing) : Type 0 where
  pub spans : all_spans (packed_trees P.layers) ≡ P.place
  pub begins : BeginsFilled (packed_trees P.layers)
  pub some : BeginsWithBytes (packed_trees P.layers)
  pub some_extras : HaveExtrasBytes (packed_trees P.layers)
  pub made : AreMadeTrees P.grammar (packed_trees P.layers)
  pub own : AllCover P.layers (packed_trees P.layers)
  pub states : (above below : List PackedTree) → P.layers ≡ above ++ below
      → (n : ℕ) × LeadsTo P.goto (filling (packed_trees below)) n
