-- What a leaf says, and that it is a good tree.
use Rattle.std.proofs.Common.{◌≡◌, ◌∙◌, sym, ap, refl, subst, ℕ, ◌+◌, ◌*◌, ◌<◌, Bool, true, false, nat_le, one-mul, [], Option, None, arith}
use lib.IntN.{pos}
use Rattle.ts_core.specs.declared.flat.FlatGrammar.{FlatGrammar}
use Rattle.ts_core.specs.declared.symbol.Symbol.{Symbol}
use Rattle.spec_grammar.specs.Symbols.{start_symbol, is_repetition}
use Rattle.spec_tables.specs.Items.{IsToken}
use Rattle.spec_trees.specs.declared.tree.Tree.{Tree}
use Rattle.spec_trees.specs.declared.tree.Tree.TheOpen.{Tree-F}
use Rattle.spec_trees.specs.declared.tree.Tree.TheViews.{out-Tree, out-roll-Tree, roll-Tree}
use Rattle.spec_trees.specs.declared.tree.Tree.TheFolds.{fold-roll-Tree}
use Rattle.spec_trees.specs.Trees.{is_settled, node_extent, pad_of, size_of, span_of, node_count, nodes_step, tree_depth, depth_step, bare, bare_node}
use Rattle.spec_trees.specs.Made.{IsNode, leaf_of, as_extra}
use Rattle.spec_trees.specs.Choice.{IsInForm, form_step}
use Rattle.spec_runs.specs.Configurations.{token_tree}
use Rattle.spec_graph.specs.Laying.{extra_tree}
use Rattle.ts_reductions.specs.Good.{IsGoodTree}
use Rattle.ts_places.specs.ShiftLaws.{LeafLaws}

abbrev leaf_layer : ℕ → ℕ → ℕ → ℕ → Option ℕ → Tree-F Tree
leaf_layer token pad size extent state = record {
  symbol = record { 0 = token };
  production = None;
  pad = pad;
  size = size;
  dynamic = pos 0;
  extent = extent;
  state = state;
  settled = true;
  extra = false;
  elements = [];
  children = [];
}

token_plain : (g : FlatGrammar) (token : ℕ) → IsToken g token → is_repetition g token ≡ false
token_plain g token is =
    let e : nat_le (start_symbol g) token ≡ false = let h = is.1 in grind arith in
    rw e refl

-- what a leaf says
pub record SaysLeaf (g : FlatGrammar) (pad size extent : ℕ) (u : Tree) : Type 0 where
  pub span : span_of u ≡ pad + size
  pub extent_is : node_extent u ≡ extent
  pub depth : tree_depth u ≡ 1
  pub form : IsInForm g u
  pub count : node_count u ≡ 1
  pub settled : is_settled u ≡ true

module _ (g : FlatGrammar) (token pad size extent : ℕ) (state : Option ℕ) (is_token : IsToken g token) where
  leaf_says : (extra : Bool) (u : Tree) (o : Tree-F Tree) → o ≡ record (leaf_layer token pad size extent state) { extra = extra } → u ≡ roll-Tree o → SaysLeaf g pad size extent u
  leaf_says extra u o o_is is =
      let out : out-Tree u ≡ record (leaf_layer token pad size extent state) { extra = extra } = ap out-Tree is ∙ out-roll-Tree o ∙ o_is in
      let whole : u ≡ roll-Tree (record (leaf_layer token pad size extent state) { extra = extra }) = is ∙ ap roll-Tree o_is in
      let pd : pad_of u ≡ pad = ap (λ (x : Tree-F Tree). x.pad) out in
      let z : size_of u ≡ size = ap (λ (x : Tree-F Tree). x.size) out in
      record {
        span = omega (arith, pd, z);
        extent_is = ap (λ (x : Tree-F Tree). x.extent) out;
        depth = ap tree_depth whole ∙ fold-roll-Tree ℕ depth_step (record (leaf_layer token pad size extent state) { extra = extra });
        form = subst (λ (x : Tree). IsInForm g x) (sym whole) (fold-roll-Tree Bool (form_step g) (record (leaf_layer token pad size extent state) { extra = extra }) ∙ rw (token_plain g token is_token) refl);
        count = ap node_count whole ∙ fold-roll-Tree ℕ nodes_step (record (leaf_layer token pad size extent state) { extra = extra });
        settled = ap (λ (x : Tree-F Tree). x.settled) out;
      }

  -- the layer of an extra leaf
  extra_layer : record (out-Tree (leaf_of token pad size extent state)) { extra = true } ≡ record (leaf_layer token pad size extent state) { extra = true }
  extra_layer = ap {B = Tree-F Tree} (λ (x : Tree-F Tree). record x { extra = true }) (out-roll-Tree (leaf_layer token pad size extent state))

  pub says_leaf : (u : Tree) → u ≡ leaf_of token pad size extent state → SaysLeaf g pad size extent u
  says_leaf u is = leaf_says false u (leaf_layer token pad size extent state) refl is

  pub says_extra : (u : Tree) → u ≡ as_extra (leaf_of token pad size extent state) → SaysLeaf g pad size extent u
  says_extra u is = leaf_says true u (record (out-Tree (leaf_of token pad size extent state)) { extra = true }) extra_layer is

-- a leaf with bytes is a good tree
pub leaf_good : (g : FlatGrammar) (pad size extent : ℕ) (u : Tree) → SaysLeaf g pad size extent u → IsNode u → 0 < size → IsGoodTree g u
leaf_good g pad size extent u says node some =
    let span = says.span in
    let count = says.count in
    let once : tree_depth u * span_of u ≡ span_of u = ap (λ (n : ℕ). n * span_of u) says.depth ∙ one-mul (span_of u) in
    record {
      node = node;
      settled = says.settled;
      form = says.form;
      some = omega (arith, span, some);
      few = omega (arith, span, some, count, once);
      flat = λ h. says.depth;
    }

-- ---- bare leaves

leaf_bare : (token pad size extent : ℕ) (state : Option ℕ) → bare (leaf_of token pad size extent state) ≡ bare (leaf_of token pad size 0 None)
leaf_bare token pad size extent state = fold-roll-Tree Tree bare_node (leaf_layer token pad size extent state) ∙ sym (fold-roll-Tree Tree bare_node (leaf_layer token pad size 0 None))

pub bare_leaf : (s : Symbol) (pad size extent : ℕ) (state : Option ℕ) (u : Tree) → u ≡ leaf_of s.0 pad size extent state → bare u ≡ token_tree s pad size
bare_leaf s pad size extent state u is = ap bare is ∙ leaf_bare s.0 pad size extent state

pub bare_extra : LeafLaws → (s : Symbol) (pad size extent : ℕ) (state : Option ℕ) (u : Tree) → u ≡ as_extra (leaf_of s.0 pad size extent state) → bare u ≡ extra_tree s pad size
bare_extra laws s pad size extent state u is =
    ap bare is ∙ laws.extra (leaf_of s.0 pad size extent state) ∙ ap as_extra (leaf_bare s.0 pad size extent state)
