-- A stack that was met in several readings: of each of its trees the best, and the greatest depth.
use Rattle.std.specs.Prelude.{◌≡◌, ℕ, ◌+◌, ◌<◌, ◌≤◌, max, true, List, [], ◌∷◌, ◌++◌, length, map, reverse, slice_get, Some, None}
use Rattle.ts_base.specs.Bytes.{Bytes}
use Rattle.ts_core.specs.declared.flat.FlatGrammar.{FlatGrammar}
use Rattle.ts_core.specs.declared.flat.Production.{Production}
use Rattle.ts_core.specs.declared.symbol.Symbol.{Symbol}
use Rattle.spec_grammar.specs.Symbols.{production_at, is_extra}
use Rattle.spec_lexing.specs.Lexing.{token}
use Rattle.spec_tables.specs.Actions.{Act, shift, reduce}
use Rattle.spec_trees.specs.declared.tree.Tree.{Tree}
use Rattle.spec_trees.specs.Trees.{symbol_of, pad_of, size_of, is_extra_node, span_of, tree_depth, bare}
use Rattle.spec_trees.specs.Made.{as_extra, reduced, form_of, filling, BeginsFilled, most_depth}
use Rattle.spec_runs.specs.Configurations.{Configuration, stack_symbols, token_tree, HasMove, NextIs, AreExtras}
use Rattle.spec_runs.specs.Runs.{CanMove, Run, IsReached}
use Rattle.spec_packing.specs.Replacing.{AllReplace, depth_over}

-- ---- layers

-- one layer of a stack: the best of the trees for which it stands, and the greatest of their depths
pub record PackedTree : Type 0 where
  pub tree : Tree
  pub depth : ℕ

-- a stack of layers, the last one first, and the place up to which the text is read
pub record PackedStack : Type 0 where
  pub stack : List PackedTree
  pub place : ℕ

-- the trees of layers
abbrev pub packed_trees : List PackedTree → List Tree
packed_trees layers = map (λ l. l.tree) layers

-- the depths of layers
abbrev pub packed_depths : List PackedTree → List ℕ
packed_depths layers = map (λ l. l.depth) layers

-- the configuration of the layers' own trees
abbrev pub own_config : PackedStack → Configuration
own_config k = record { stack = packed_trees k.stack; place = k.place }

-- the layer of a tree that stands for itself alone
abbrev pub packed_alone : Tree → PackedTree
packed_alone t = record { tree = t; depth = tree_depth t }

-- the layers of a configuration that stands for itself alone
abbrev pub stack_alone : Configuration → PackedStack
stack_alone c = record { stack = map packed_alone c.stack; place = c.place }

-- ---- what layers stand for

-- The layer covers the tree: it is of one kind with its own tree, with one symbol and the same
-- bytes, and no deeper than the layer says.
pub record CoversTree (l : PackedTree) (t : Tree) : Type 0 where
  pub symbol : symbol_of l.tree ≡ symbol_of t
  pub extra : is_extra_node l.tree ≡ is_extra_node t
  pub pad : pad_of l.tree ≡ pad_of t
  pub size : size_of l.tree ≡ size_of t
  pub depth : tree_depth t ≤ l.depth

-- layer by layer, for as many trees
abbrev pub AllCover : List PackedTree → List Tree → Type 0
AllCover [] [] = Unit {0}
AllCover [] (t ∷ ts) = ⊥
AllCover (l ∷ ls) [] = ⊥
AllCover (l ∷ ls) (t ∷ ts) = CoversTree l t × AllCover ls ts

-- the stack is at the same place as the configuration, and each layer covers the tree in its place
pub record Covers (k : PackedStack) (c : Configuration) : Type 0 where
  pub place : k.place ≡ c.place
  pub stack : AllCover k.stack c.stack

-- The stack may stand for the configuration: it covers it, and its own trees may take the place of
-- those of the configuration.
pub record Packs (k : PackedStack) (c : Configuration) : Type 0 where
  pub covers : Covers k c
  pub trees : AllReplace (packed_trees k.stack) c.stack

-- The stack was met: a run comes to its own trees, none of which is deeper than its layer says; and
-- for each depth a run comes to a configuration that it covers, with a tree of this depth in that
-- place.
pub record WasMet (g : FlatGrammar) (text : Bytes) (k : PackedStack) : Type 0 where
  pub reached : IsReached g text (own_config k)
  pub own : Covers k (own_config k)
  pub deepest : (n d : ℕ) → slice_get (packed_depths k.stack) n ≡ Some d
      → (c : Configuration) × IsReached g text c × Covers k c
      × (slice_get (map tree_depth c.stack) n ≡ Some d)

-- some run that comes to the configuration goes through one for which the layers stand
pub record GoesThrough (g : FlatGrammar) (text : Bytes) (k : PackedStack) (d : Configuration)
    : Type 0 where
  pub from : Configuration
  pub reached : IsReached g text from
  pub stands : Packs k from
  pub run : Run g text from d

-- ---- steps

-- the layers with a tree on top that stands for itself alone, and the place behind it
abbrev pub packed_with : PackedStack → Tree → PackedStack
packed_with k t = record { stack = packed_alone t ∷ k.stack; place = k.place + span_of t }

-- A reduction by the production of a number, as of trees. The depth of the node is the greatest
-- that it has over trees of the depths of its children's layers.
pub record IsPackedReduction (g : FlatGrammar) (number : ℕ) (stack : List PackedTree)
    (node : PackedTree) (after : List PackedTree) : Type 0 where
  pub left : ℕ
  pub production : Production
  pub at : production_at g number ≡ Some (left, production)
  pub lifted : List PackedTree
  pub children : List PackedTree
  pub below : List PackedTree
  pub stack_is : stack ≡ lifted ++ (reverse children ++ below)
  pub extras : AreExtras (packed_trees lifted)
  pub all_lifted : BeginsFilled (packed_trees (reverse children ++ below))
  pub count : length (filling (packed_trees children)) ≡ length production.steps
  pub first_fills : BeginsFilled (packed_trees children)
  pub tree_is : node.tree ≡ bare (reduced g number 0 None (packed_trees children))
  pub depth_is : node.depth ≡ depth_over (form_of g left number) (packed_depths children)
  pub after_is : after ≡ lifted ++ node ∷ below

-- One step of layers, as of a configuration. A reduction makes no layer that is too deep.
pub data PackedStepsOn (g : FlatGrammar) (text : Bytes) (k : PackedStack)
    : PackedStack → Type 0 where
  shift_packed : (symbol : Symbol) (pad size : ℕ)
      → NextIs g text (own_config k) (token symbol pad size)
      → Act g (stack_symbols (packed_trees k.stack)) symbol.0 shift
      → PackedStepsOn g text k (packed_with k (token_tree symbol pad size))
  pass_packed : (symbol : Symbol) (pad size : ℕ)
      → NextIs g text (own_config k) (token symbol pad size) → is_extra g symbol.0 ≡ true
      → (HasMove g (stack_symbols (packed_trees k.stack)) symbol.0 → ⊥)
      → PackedStepsOn g text k (packed_with k (as_extra (token_tree symbol pad size)))
  reduce_packed : (number : ℕ) (node : PackedTree) (after : List PackedTree)
      → CanMove g text (own_config k) (reduce number)
      → IsPackedReduction g number k.stack node after → node.depth ≤ most_depth
      → PackedStepsOn g text k (record { stack = after; place = k.place })

-- a reduction would make a layer that is too deep
pub record PackedIsTooDeep (g : FlatGrammar) (text : Bytes) (k : PackedStack) : Type 0 where
  pub number : ℕ
  pub move : CanMove g text (own_config k) (reduce number)
  pub node : PackedTree
  pub after : List PackedTree
  pub reduction : IsPackedReduction g number k.stack node after
  pub deep : most_depth < node.depth

-- ---- two stacks of layers as one

-- the trees of the first, and of each two depths the greater one
abbrev pub joined : List PackedTree → List PackedTree → List PackedTree
joined [] ms = []
joined (l ∷ ls) [] = []
joined (l ∷ ls) (m ∷ ms) = record { tree = l.tree; depth = max l.depth m.depth } ∷ joined ls ms

-- the layers of both at the place of the first
abbrev pub joined_stacks : PackedStack → PackedStack → PackedStack
joined_stacks k j = record { stack = joined k.stack j.stack; place = k.place }

-- the first are at the place of the second, and their trees may take the place of those
pub record MayJoin (k j : PackedStack) : Type 0 where
  pub place : k.place ≡ j.place
  pub trees : AllReplace (packed_trees k.stack) (packed_trees j.stack)
