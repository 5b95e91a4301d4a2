-- Live stacks, and the configurations that they stand for.
use Rattle.std.specs.Prelude.{◌≡◌, ℕ, ◌+◌, suc, ◌<◌, ◌≤◌, true, false, List, [], ◌∷◌, ◌++◌, length, map, reverse, Option, MatchOption}
use Rattle.spec_trees.specs.declared.tree.Tree.{Tree}
use Rattle.spec_trees.specs.Trees.{symbol_of, is_extra_node, node_extent, span_of, all_spans, bare, tree_depth}
use Rattle.spec_trees.specs.Made.{EndBy, accepted, filling, BeginsFilled, most_depth}
use Rattle.spec_runs.specs.Configurations.{Configuration, AreExtras, IsReduction}
use Rattle.spec_packing.specs.Packing.{PackedTree, PackedStack, packed_trees, packed_depths, IsPackedReduction}
use Rattle.ts_table.specs.declared.view.ParseTable.{ParseTable}
use Rattle.ts_table.specs.Tables.{IsStateOf}
use Rattle.ts_gss.specs.declared.layer.Layer.{Layer}
use Rattle.ts_gss.specs.Stacks.{stack_at, trees_on}
use Rattle.ts_gss.specs.Paths.{AreDepthsOf}
use Rattle.ts_steps.specs.declared.head.StackHead.{StackHead}
use Rattle.ts_steps.specs.declared.found.FoundToken.{FoundToken}
use Rattle.ts_steps.specs.Good.{IsGoodTree, AreGoodTrees}

-- the configuration that a head stands for
abbrev pub config_of : List (List Layer) → StackHead → Configuration
config_of stacks h = record { stack = map bare (trees_on (stack_at stacks h.top)); place = h.place }

-- the layer of a tree, as one of readings
abbrev pub packed_tree : Tree → ℕ → PackedTree
packed_tree t depth = record { tree = bare t; depth = depth }

-- that of a tree that stands for itself alone
abbrev pub packed_own : Tree → PackedTree
packed_own t = packed_tree t (tree_depth t)

-- the layers of a stack, as those of readings
abbrev pub packed_layers : List Layer → List PackedTree
packed_layers layers = map (λ l. packed_tree l.tree l.depth) layers

-- the stack of layers that a head stands for
abbrev pub packed_of : List (List Layer) → StackHead → PackedStack
packed_of stacks h = record {
  stack = packed_layers (stack_at stacks h.top);
  place = h.place;
}

-- each layer has the state of the symbols up to it
abbrev pub HaveStates : ParseTable → List Layer → Type 0
HaveStates t [] = Unit {0}
HaveStates t (l ∷ layers) =
    IsStateOf t (filling (trees_on (l ∷ layers))) l.state × HaveStates t layers

-- The tree is no deeper than its layer, which is no deeper than a node may be; and the layer of an
-- extra stands for it alone.
pub record HasDepth (t : Tree) (depth : ℕ) : Type 0 where
  pub own : tree_depth t ≤ depth
  pub shallow : depth ≤ most_depth
  pub flat : is_extra_node t ≡ true → depth ≡ tree_depth t

-- so it is for each layer
abbrev pub HaveDepths : List Layer → Type 0
HaveDepths [] = Unit {0}
HaveDepths (l ∷ layers) = HasDepth l.tree l.depth × HaveDepths layers

-- The layers have the states of their symbols, and good trees, which are the text up to the place.
pub record IsGoodStack (t : ParseTable) (size : ℕ) (layers : List Layer) (place : ℕ)
    : Type 0 where
  pub states : HaveStates t layers
  pub depths : HaveDepths layers
  pub good : AreGoodTrees t.grammar (trees_on layers)
  pub spans : all_spans (trees_on layers) ≡ place
  pub reach : EndBy (suc size) 0 (reverse (trees_on layers))
  pub within : place ≤ size

-- the head is that of a good stack
pub record IsLiveHead (t : ParseTable) (size : ℕ) (stacks : List (List Layer)) (h : StackHead)
    : Type 0 where
  pub there : h.top < length stacks
  pub stack : IsGoodStack t size (stack_at stacks h.top) h.place

-- the symbols on the stack of a head
abbrev pub read_on : List (List Layer) → StackHead → List ℕ
read_on stacks h = filling (trees_on (stack_at stacks h.top))

-- the token lies in the text behind the place, has bytes, and more than it was examined
pub record LiesAhead (size place : ℕ) (f : FoundToken) : Type 0 where
  pub past : f.pad + f.size < f.extent
  pub reach : place + f.extent ≤ suc size
  pub some : 0 < f.size

-- extras can be laid on a stack, which ends at the place
pub record CanLay (t : ParseTable) (size place : ℕ) (stack : List Layer) (state : ℕ)
    (extras : List Tree) : Type 0 where
  pub base : IsGoodStack t size stack place
  pub state_is : IsStateOf t (filling (trees_on stack)) state
  pub all_extras : AreExtras extras
  pub good : AreGoodTrees t.grammar extras
  pub reach : EndBy (suc size) place extras
  pub within : place + all_spans extras ≤ size

-- what a reduction takes off a stack that ends at the place
pub record IsGathered (t : ParseTable) (size : ℕ) (stack : List Layer) (place count : ℕ)
    (extras children : List Tree) (extent : ℕ) (below : List Layer) : Type 0 where
  pub trees : trees_on stack ≡ reverse extras ++ (reverse children ++ trees_on below)
  pub all_extras : AreExtras extras
  pub no_more : BeginsFilled (reverse children ++ trees_on below)
  pub begins : BeginsFilled children
  pub filled : length (filling children) ≡ count
  pub good_extras : AreGoodTrees t.grammar extras
  pub good_children : AreGoodTrees t.grammar children
  pub base : IsGoodStack t size below (all_spans (trees_on below))
  pub place_is : all_spans (trees_on below) + (all_spans children + all_spans extras) ≡ place
  pub within : place ≤ size
  pub covers : EndBy extent 0 children
  pub past : all_spans children < extent
  pub most : all_spans (trees_on below) + extent ≤ suc size
  pub reach : EndBy (suc size) (all_spans (trees_on below) + all_spans children) extras

-- no tree is deeper than the depth in its place
abbrev pub NoneIsDeeper : List Tree → List ℕ → Type 0
NoneIsDeeper [] [] = Unit {0}
NoneIsDeeper [] (d ∷ ds) = ⊥
NoneIsDeeper (t ∷ ts) [] = ⊥
NoneIsDeeper (t ∷ ts) (d ∷ ds) = (tree_depth t ≤ d) × NoneIsDeeper ts ds

-- The layers of what a reduction takes off a stack: those of its extras, and of its children, with
-- the depth of the first of these, and the greatest of the others.
pub record AreLayersTaken (stack : List Layer) (extras children : List Tree) (first others : ℕ)
    (below : List Layer) : Type 0 where
  pub taken : List PackedTree
  pub layers : packed_layers stack
      ≡ map packed_own (reverse extras) ++ (reverse taken ++ packed_layers below)
  pub trees : packed_trees taken ≡ map bare children
  pub depths : AreDepthsOf (packed_depths taken) first others
  pub covers : NoneIsDeeper children (packed_depths taken)

-- a node and the extras behind it can be put on a stack that ends at the place
pub record CanPut (t : ParseTable) (size place left : ℕ) (node : Tree) (depth : ℕ)
    (extras : List Tree) : Type 0 where
  pub deep : HasDepth node depth
  pub symbol : symbol_of node ≡ left
  pub fills : is_extra_node node ≡ false
  pub good : IsGoodTree t.grammar node
  pub reach : place + node_extent node ≤ suc size
  pub all_extras : AreExtras extras
  pub good_extras : AreGoodTrees t.grammar extras
  pub reach_extras : EndBy (suc size) (place + span_of node) extras
  pub within : place + (span_of node + all_spans extras) ≤ size

-- each layer is as deep as its tree
abbrev pub AreAlone : List PackedTree → Type 0
AreAlone [] = Unit {0}
AreAlone (l ∷ layers) = (l.depth ≡ tree_depth l.tree) × AreAlone layers

-- What a reduction of a live stack comes to, of its trees and of its layers: none where the layer
-- is too deep. It is as deep as its tree where all are on the stack.
pub record IsReducedTo (t : ParseTable) (size number : ℕ) (old new : List (List Layer))
    (h : StackHead) (o : Option StackHead) : Type 0 where
  pub node : Tree
  pub after : List Tree
  pub reduction : IsReduction t.grammar number (config_of old h).stack node after
  pub layer : PackedTree
  pub layers : List PackedTree
  pub packed : IsPackedReduction t.grammar number (packed_of old h).stack layer layers
  pub same : layer.tree ≡ node
  pub exact : AreAlone (packed_of old h).stack → layer.depth ≡ tree_depth node
  pub done : MatchOption o (most_depth < layer.depth)
      (λ k. (tree_depth node ≤ most_depth) × IsLiveHead t size new k
      × (config_of new k ≡ record { stack = after; place = h.place })
      × (layer.depth ≤ most_depth)
      × (packed_of new k ≡ record { stack = layers; place = h.place }))

-- stacks were added at the end
abbrev pub GainsStacks : List (List Layer) → List (List Layer) → Type 0
GainsStacks old new = (more : List (List Layer)) × (new ≡ old ++ more)

-- the bare tree is the root of the stack with all extras that stand before and after it
pub record IsRootOf (stack : List Tree) (u : Tree) : Type 0 where
  pub before : List Tree
  pub root : Tree
  pub after : List Tree
  pub stack_is : stack ≡ reverse after ++ root ∷ reverse before
  pub before_extras : AreExtras before
  pub root_fills : is_extra_node root ≡ false
  pub after_extras : AreExtras after
  pub tree_is : u ≡ bare (accepted root before after 0)
