-- Good stacks: what is pushed on them, and what is taken off.
use Rattle.std.proofs.Common.{◌≡◌, ◌∙◌, sym, ap, refl, subst, ℕ, zero, suc, ◌+◌, ◌<◌, ◌≤◌, inl, Bool, true, false, List, [], ◌∷◌, ◌++◌, append_assoc, append-nil, length, length-append, map, reverse, drop, Option, None, unwrap_or, arith}
use Rattle.std.proofs.lemmas.List.{map-append, reverse-append}
use Rattle.ts_base.proofs.PlaceLemmas.{at_end}
use lib.IntN.{pos}
use Rattle.std.proofs.Common.{◌*◌, nat_le, one-mul}
use Rattle.ts_core.specs.declared.flat.FlatGrammar.{FlatGrammar}
use Rattle.spec_grammar.specs.Symbols.{start_symbol, is_repetition}
use Rattle.spec_tables.specs.Items.{IsToken}
use Rattle.spec_trees.specs.declared.tree.Tree.{Tree}
use Rattle.spec_trees.specs.declared.tree.Tree.TheOpen.{Tree-F}
use Rattle.spec_trees.specs.declared.tree.Tree.TheViews.{out-Tree, out-roll-Tree, roll-Tree}
use Rattle.spec_trees.specs.declared.tree.Tree.TheFolds.{fold-roll-Tree}
use Rattle.spec_trees.specs.Trees.{symbol_of, production_of, state_of, elements_of, children_of, is_extra_node, is_settled, node_extent, pad_of, size_of, span_of, all_spans, all_nodes, tree_depth, depth_step, bare, bare_node}
use Rattle.spec_trees.specs.Made.{IsNode, leaf_of, as_extra, filling, BeginsFilled, EndBy}
use Rattle.spec_trees.specs.Choice.{IsInForm, form_step}
use Rattle.spec_runs.specs.Configurations.{AreExtras, Configuration}
use Rattle.ts_table.specs.declared.view.ParseTable.{ParseTable}
use Rattle.ts_table.specs.Tables.{IsStateOf, at_first}
use Rattle.ts_gss.specs.declared.layer.Layer.{Layer}
use Rattle.ts_gss.specs.Stacks.{packed_layer, layer_with, stack_at, trees_on, state_on, AreExact}
use Rattle.ts_steps.specs.MoveLaws.{Laws}
use Rattle.ts_steps.specs.Good.{IsGoodTree}
use Rattle.ts_steps.specs.LiveHeads.{HaveStates, HasDepth, HaveDepths, IsGoodStack, GainsStacks, CanLay}
use Rattle.ts_steps.proofs.NodeLemmas.{filling_extra, all_spans-append, end_by_wider, end_by_both}

-- ---- stacks by their heads

pub stack_new : (ss : List (List Layer)) (x : List Layer) → stack_at (ss ++ x ∷ []) (length ss) ≡ x
stack_new ss x = ap (λ (o : Option (List Layer)). unwrap_or o []) (at_end ss x)

pub grows_none : (old : List (List Layer)) → GainsStacks old old
grows_none old = ([], sym (append-nil old))

pub grows_more : (old now new : List (List Layer)) → GainsStacks old now → GainsStacks now new → GainsStacks old new
grows_more old now new a b = (a.0 ++ b.0, b.1 ∙ ap (λ (l : List (List Layer)). l ++ b.0) a.1 ∙ append_assoc old a.0 b.0)

-- ---- lists of trees

pub end_by_split : (end place : ℕ) (xs ys : List Tree) → EndBy end place (xs ++ ys) → EndBy end place xs × EndBy end (place + all_spans xs) ys
end_by_split end place [] ys e = (tt, end_by_wider end end place (place + 0) ys (omega arith) (omega arith) e)
end_by_split end place (x ∷ xs) ys e =
    let r = end_by_split end (place + span_of x) xs ys e.1 in
    ((e.0, r.0), end_by_wider end end (place + span_of x + all_spans xs) (place + (span_of x + all_spans xs)) ys (omega arith) (omega arith) r.1)

pub turned : (x : Tree) (xs : List Tree) → reverse (x ∷ xs) ≡ reverse xs ++ x ∷ []
turned x xs = reverse-append (x ∷ []) xs

pub spans_turned : (xs : List Tree) → all_spans (reverse xs) ≡ all_spans xs
spans_turned [] = refl
spans_turned (x ∷ xs) = omega (arith, ap all_spans (turned x xs), all_spans-append (reverse xs) (x ∷ []), spans_turned xs)

pub extras_append : (xs ys : List Tree) → AreExtras xs → AreExtras ys → AreExtras (xs ++ ys)
extras_append [] ys a b = b
extras_append (x ∷ xs) ys a b = (a.0, extras_append xs ys a.1 b)

pub extras_turned : (xs : List Tree) → AreExtras xs → AreExtras (reverse xs)
extras_turned [] a = tt
extras_turned (x ∷ xs) a = subst AreExtras (sym (turned x xs)) (extras_append (reverse xs) (x ∷ []) (extras_turned xs a.1) (a.0, tt))

-- extras fill no step
pub filling_extras : (xs ts : List Tree) → AreExtras xs → filling (xs ++ ts) ≡ filling ts
filling_extras [] ts a = refl
filling_extras (x ∷ xs) ts a = rw a.0 (filling_extras xs ts a.1)

pub filling_append : (xs ys : List Tree) → filling (xs ++ ys) ≡ filling xs ++ filling ys
filling_append [] ys = refl
filling_append (x ∷ xs) ys = by (is_extra_node x) refl (filling_append xs ys)
  where
    by : (b : Bool) → is_extra_node x ≡ b → filling (xs ++ ys) ≡ filling xs ++ filling ys → filling (x ∷ xs ++ ys) ≡ filling (x ∷ xs) ++ filling ys
    by true e h = rw e h
    by false e h = rw e (ap (λ (l : List ℕ). symbol_of x ∷ l) h)

pub filling_turned : (xs : List Tree) → filling (reverse xs) ≡ reverse (filling xs)
filling_turned [] = refl
filling_turned (x ∷ xs) = by (is_extra_node x) refl (filling_turned xs)
  where
    by : (b : Bool) → is_extra_node x ≡ b → filling (reverse xs) ≡ reverse (filling xs) → filling (reverse (x ∷ xs)) ≡ reverse (filling (x ∷ xs))
    by true e h = ap filling (turned x xs) ∙ filling_append (reverse xs) (x ∷ []) ∙ ap (λ (l : List ℕ). l ++ filling (x ∷ [])) h ∙ rw e (append-nil (reverse (filling xs)))
    by false e h = ap filling (turned x xs) ∙ filling_append (reverse xs) (x ∷ []) ∙ ap (λ (l : List ℕ). l ++ filling (x ∷ [])) h ∙ rw e (sym (reverse-append (symbol_of x ∷ []) (filling xs)))

-- ---- bare trees

pub turned_bare : (ts : List Tree) → map bare (reverse ts) ≡ reverse (map bare ts)
turned_bare [] = refl
turned_bare (x ∷ xs) =
    ap (λ (l : List Tree). map bare l) (reverse-append (x ∷ []) xs) ∙ map-append bare (reverse xs) (x ∷ []) ∙ ap (λ (l : List Tree). l ++ bare x ∷ []) (turned_bare xs) ∙ sym (reverse-append (bare x ∷ []) (map bare xs))

module _ (laws : Laws) where
  pub filling_bare : (ts : List Tree) → filling (map bare ts) ≡ filling ts
  filling_bare [] = refl
  filling_bare (t ∷ ts) = by (is_extra_node t) refl (filling_bare ts)
    where
      by : (b : Bool) → is_extra_node t ≡ b → filling (map bare ts) ≡ filling ts → filling (map bare (t ∷ ts)) ≡ filling (t ∷ ts)
      by true e h = let f : is_extra_node (bare t) ≡ true = (laws.keeps t).extra ∙ e in rw (e, f) h
      by false e h = let f : is_extra_node (bare t) ≡ false = (laws.keeps t).extra ∙ e in rw (e, f, (laws.keeps t).symbol, h) refl

  pub extras_bare : (ts : List Tree) → AreExtras ts → AreExtras (map bare ts)
  extras_bare [] a = tt
  extras_bare (t ∷ ts) a = ((laws.keeps t).extra ∙ a.0, extras_bare ts a.1)

  pub begins_bare : (ts : List Tree) → BeginsFilled ts → BeginsFilled (map bare ts)
  begins_bare [] a = tt
  begins_bare (t ∷ ts) a = (laws.keeps t).extra ∙ a

  pub span_bare : (t : Tree) → span_of (bare t) ≡ span_of t
  span_bare t = omega (arith, (laws.keeps t).pad, (laws.keeps t).size)

-- ---- states

pub states_drop : (t : ParseTable) (n : ℕ) (layers : List Layer) → HaveStates t layers → HaveStates t (drop n layers)
states_drop t zero layers s = s
states_drop t (suc n) [] s = s
states_drop t (suc n) (l ∷ layers) s = states_drop t n layers s.1

pub exact_drop : (n : ℕ) (layers : List Layer) → AreExact layers → AreExact (drop n layers)
exact_drop zero layers e = e
exact_drop (suc n) [] e = tt
exact_drop (suc n) (l ∷ layers) e = exact_drop n layers e.1

pub depths_drop : (n : ℕ) (layers : List Layer) → HaveDepths layers → HaveDepths (drop n layers)
depths_drop zero layers d = d
depths_drop (suc n) [] d = d
depths_drop (suc n) (l ∷ layers) d = depths_drop n layers d.1

-- the state on top is that of the symbols
pub state_top : (t : ParseTable) (layers : List Layer) → HaveStates t layers → IsStateOf t (filling (trees_on layers)) (state_on layers)
state_top t [] s = at_first
state_top t (l ∷ layers) s = s.0

-- ---- one more tree

pub packed_push : (t : ParseTable) (size : ℕ) (layers : List Layer) (place : ℕ) (tree : Tree) (state depth : ℕ) → IsGoodStack t size layers place → IsStateOf t (filling (tree ∷ trees_on layers)) state → IsGoodTree t.grammar tree → HasDepth tree depth
    → place + span_of tree ≤ size → place + node_extent tree ≤ suc size → IsGoodStack t size (packed_layer tree state depth ∷ layers) (place + span_of tree)
packed_push t size layers place tree state depth b st good deep within reach = record {
  states = (st, b.states);
  depths = (deep, b.depths);
  good = (good, b.good);
  spans = omega (arith, b.spans);
  reach = subst (λ (l : List Tree). EndBy (suc size) 0 l) (sym (turned tree (trees_on layers)))
      (end_by_both (suc size) 0 (reverse (trees_on layers)) (tree ∷ []) b.reach ((omega (arith, reach, b.spans, spans_turned (trees_on layers))), tt));
  within = within;
}

-- a tree that stands for itself alone
pub own_depth : (g : FlatGrammar) (tree : Tree) → IsGoodTree g tree → HasDepth tree (tree_depth tree)
own_depth g tree good = record { own = omega arith; shallow = good.node.sized.shallow; flat = λ extra. refl }

pub good_push : (t : ParseTable) (size : ℕ) (layers : List Layer) (place : ℕ) (tree : Tree) (state : ℕ) → IsGoodStack t size layers place → IsStateOf t (filling (tree ∷ trees_on layers)) state → IsGoodTree t.grammar tree
    → place + span_of tree ≤ size → place + node_extent tree ≤ suc size → IsGoodStack t size (layer_with tree state ∷ layers) (place + span_of tree)
good_push t size layers place tree state b st good within reach = packed_push t size layers place tree state (tree_depth tree) b st good (own_depth t.grammar tree good) within reach

-- ---- leaves

abbrev leaf_layer : ℕ → ℕ → ℕ → ℕ → Option ℕ → Tree-F Tree
leaf_layer token pad size extent state = record {
  symbol = record { 0 = token };
  production = None;
  pad = pad;
  size = size;
  dynamic = pos 0;
  extent = extent;
  state = state;
  settled = true;
  extra = false;
  elements = [];
  children = [];
}

token_plain : (g : FlatGrammar) (token : ℕ) → IsToken g token → is_repetition g token ≡ false
token_plain g token is =
    let e : nat_le (start_symbol g) token ≡ false = let h = is.1 in grind arith in
    rw e refl

token_low : (g : FlatGrammar) (token : ℕ) → IsToken g token → token ≡ start_symbol g → ⊥
token_low g token is e = omega (arith, is.1, e)

-- what a leaf says
pub record SaysLeaf (token pad size extent : ℕ) (state : Option ℕ) (extra : Bool) (u : Tree) : Type 0 where
  pub symbol : symbol_of u ≡ token
  pub production : production_of u ≡ None
  pub span : span_of u ≡ pad + size
  pub extent_is : node_extent u ≡ extent
  pub state_is : state_of u ≡ state
  pub extra_is : is_extra_node u ≡ extra
  pub elements : elements_of u ≡ []
  pub children : children_of u ≡ []

module _ (token pad size extent : ℕ) (state : Option ℕ) where
  leaf_says : (extra : Bool) (u : Tree) (o : Tree-F Tree) → o ≡ record (leaf_layer token pad size extent state) { extra = extra } → u ≡ roll-Tree o → SaysLeaf token pad size extent state extra u
  leaf_says extra u o o_is is =
      let out : out-Tree u ≡ record (leaf_layer token pad size extent state) { extra = extra } = ap out-Tree is ∙ out-roll-Tree o ∙ o_is in
      let pd : pad_of u ≡ pad = ap (λ (x : Tree-F Tree). x.pad) out in
      let z : size_of u ≡ size = ap (λ (x : Tree-F Tree). x.size) out in
      record {
        symbol = ap (λ (x : Tree-F Tree). x.symbol.0) out;
        production = ap (λ (x : Tree-F Tree). x.production) out;
        span = omega (arith, pd, z);
        extent_is = ap (λ (x : Tree-F Tree). x.extent) out;
        state_is = ap (λ (x : Tree-F Tree). x.state) out;
        extra_is = ap (λ (x : Tree-F Tree). x.extra) out;
        elements = ap (λ (x : Tree-F Tree). x.elements) out;
        children = ap (λ (x : Tree-F Tree). x.children) out;
      }

  -- the layer of an extra leaf
  extra_layer : record (out-Tree (leaf_of token pad size extent state)) { extra = true } ≡ record (leaf_layer token pad size extent state) { extra = true }
  extra_layer = ap {B = Tree-F Tree} (λ (x : Tree-F Tree). record x { extra = true }) (out-roll-Tree (leaf_layer token pad size extent state))

  pub says_leaf : (u : Tree) → u ≡ leaf_of token pad size extent state → SaysLeaf token pad size extent state false u
  says_leaf u is = leaf_says false u (leaf_layer token pad size extent state) refl is

  pub says_extra : (u : Tree) → u ≡ as_extra (leaf_of token pad size extent state) → SaysLeaf token pad size extent state true u
  says_extra u is = leaf_says true u (record (out-Tree (leaf_of token pad size extent state)) { extra = true }) extra_layer is

  leaf_good_by : (g : FlatGrammar) (extra : Bool) (u : Tree) (o : Tree-F Tree) → o ≡ record (leaf_layer token pad size extent state) { extra = extra } → u ≡ roll-Tree o → IsNode u → IsToken g token → 0 < size → IsGoodTree g u
  leaf_good_by g extra u o o_is is node low some =
      let out : out-Tree u ≡ record (leaf_layer token pad size extent state) { extra = extra } = ap out-Tree is ∙ out-roll-Tree o ∙ o_is in
      let says = leaf_says extra u o o_is is in
      let st : is_settled u ≡ true = ap (λ (x : Tree-F Tree). x.settled) out in
      let es : elements_of u ≡ [] = ap (λ (x : Tree-F Tree). x.elements) out in
      let whole : u ≡ roll-Tree (record (leaf_layer token pad size extent state) { extra = extra }) = is ∙ ap roll-Tree o_is in
      let d : tree_depth u ≡ 1 = ap tree_depth whole ∙ fold-roll-Tree ℕ depth_step (record (leaf_layer token pad size extent state) { extra = extra }) in
      let f : IsInForm g u = subst (λ (x : Tree). IsInForm g x) (sym whole) (fold-roll-Tree Bool (form_step g) (record (leaf_layer token pad size extent state) { extra = extra }) ∙ rw (token_plain g token low) refl) in
      let span : span_of u ≡ pad + size = says.span in
      let many : length (elements_of u) ≡ 0 = ap (λ (l : _). length l) es in
      let count : all_nodes (children_of u) ≡ 0 = ap all_nodes says.children in
      let once : tree_depth u * span_of u ≡ span_of u = ap (λ (n : ℕ). n * span_of u) d ∙ one-mul (span_of u) in
      record {
        node = node;
        settled = st;
        form = f;
        light = record { parts = omega arith; nodes = omega arith };
        some = inl (omega arith);
        some_extra = λ h. omega arith;
        flat_extra = λ h. d;
        whole = λ h. absurd (omega arith);
        rule = λ h. absurd (token_low g token low (sym says.symbol ∙ h));
      }

  pub leaf_good : (g : FlatGrammar) (u : Tree) → u ≡ leaf_of token pad size extent state → IsNode u → IsToken g token → 0 < size → IsGoodTree g u
  leaf_good g u is node low some = leaf_good_by g false u (leaf_layer token pad size extent state) refl is node low some

  pub extra_good : (g : FlatGrammar) (u : Tree) → u ≡ as_extra (leaf_of token pad size extent state) → IsNode u → IsToken g token → 0 < size → IsGoodTree g u
  extra_good g u is node low some = leaf_good_by g true u (record (out-Tree (leaf_of token pad size extent state)) { extra = true }) extra_layer is node low some

  -- a leaf, bare
  pub leaf_bare : bare (leaf_of token pad size extent state) ≡ bare (leaf_of token pad size 0 None)
  leaf_bare = fold-roll-Tree Tree bare_node (leaf_layer token pad size extent state) ∙ sym (fold-roll-Tree Tree bare_node (leaf_layer token pad size 0 None))

-- ---- a token on a live stack

pub record PushesPacked (old new : List (List Layer)) (below top : ℕ) (tree : Tree) (state depth : ℕ) : Type 0 where
  pub top_is : top ≡ length old
  pub new_is : new ≡ old ++ (packed_layer tree state depth ∷ stack_at old below) ∷ []

abbrev pub Pushes : (old new : List (List Layer)) (below top : ℕ) (tree : Tree) (state : ℕ) → Type 0
Pushes old new below top tree state = PushesPacked old new below top tree state (tree_depth tree)

module _ (old new : List (List Layer)) (below top : ℕ) (tree : Tree) (state depth : ℕ) (p : PushesPacked old new below top tree state depth) where
  abbrev one : List Layer
  one = packed_layer tree state depth ∷ stack_at old below

  pub packed_grow : GainsStacks old new
  packed_grow = (one ∷ [], p.new_is)

  pub packed_stack : stack_at new top ≡ packed_layer tree state depth ∷ stack_at old below
  packed_stack = ap (λ (n : ℕ). stack_at new n) p.top_is ∙ ap (λ (ss : List (List Layer)). stack_at ss (length old)) p.new_is ∙ stack_new old one

  pub packed_there : top < length new
  packed_there = omega (arith, p.top_is, ap (λ (l : List (List Layer)). length l) p.new_is, length-append old (one ∷ []))

  pub packed_good : (t : ParseTable) (size place : ℕ) → IsGoodStack t size (stack_at old below) place → IsStateOf t (filling (tree ∷ trees_on (stack_at old below))) state → IsGoodTree t.grammar tree → HasDepth tree depth
      → place + span_of tree ≤ size → place + node_extent tree ≤ suc size → IsGoodStack t size (stack_at new top) (place + span_of tree)
  packed_good t size place b st good deep within reach =
      subst (λ (s : List Layer). IsGoodStack t size s (place + span_of tree)) (sym packed_stack)
      (packed_push t size (stack_at old below) place tree state depth b st good deep within reach)

pub pushes_grow : (old new : List (List Layer)) (below top : ℕ) (tree : Tree) (state : ℕ) → Pushes old new below top tree state → GainsStacks old new
pushes_grow old new below top tree state p = packed_grow old new below top tree state (tree_depth tree) p

pub pushed_stack : (old new : List (List Layer)) (below top : ℕ) (tree : Tree) (state : ℕ) → Pushes old new below top tree state → stack_at new top ≡ layer_with tree state ∷ stack_at old below
pushed_stack old new below top tree state p = packed_stack old new below top tree state (tree_depth tree) p

pub pushed_there : (old new : List (List Layer)) (below top : ℕ) (tree : Tree) (state : ℕ) → Pushes old new below top tree state → top < length new
pushed_there old new below top tree state p = packed_there old new below top tree state (tree_depth tree) p

pub pushed_good : (t : ParseTable) (size place : ℕ) (old new : List (List Layer)) (below top : ℕ) (tree : Tree) (state : ℕ) → Pushes old new below top tree state → IsGoodStack t size (stack_at old below) place
    → IsStateOf t (filling (tree ∷ trees_on (stack_at old below))) state → IsGoodTree t.grammar tree → place + span_of tree ≤ size → place + node_extent tree ≤ suc size → IsGoodStack t size (stack_at new top) (place + span_of tree)
pushed_good t size place old new below top tree state p b st good within reach =
    packed_good old new below top tree state (tree_depth tree) p t size place b st good (own_depth t.grammar tree good) within reach

pub same_config : (s s' : List Tree) (p p' : ℕ) → s ≡ s' → p ≡ p' → ◌≡◌ {A = Configuration} (record { stack = s; place = p }) (record { stack = s'; place = p' })
same_config s s' p p' a b = ap {B = Configuration} (λ (x : List Tree). record { stack = x; place = p }) a ∙ ap {B = Configuration} (λ (n : ℕ). record { stack = s'; place = n }) b

-- ---- extras on a stack

pub lay_more : (t : ParseTable) (size place : ℕ) (old new : List (List Layer)) (below top : ℕ) (x : Tree) (xs : List Tree) (state : ℕ) → Pushes old new below top x state → CanLay t size place (stack_at old below) state (x ∷ xs)
    → CanLay t size (place + span_of x) (stack_at new top) state xs
lay_more t size place old new below top x xs state p c =
    let names : filling (x ∷ trees_on (stack_at old below)) ≡ filling (trees_on (stack_at old below)) = filling_extra x (trees_on (stack_at old below)) c.all_extras.0 in
    let here : IsStateOf t (filling (x ∷ trees_on (stack_at old below))) state = subst (λ (l : List ℕ). IsStateOf t l state) (sym names) c.state_is in
    record {
      base = pushed_good t size place old new below top x state p c.base here c.good.0 (omega (arith, c.within)) c.reach.0;
      state_is = subst (λ (s : List Layer). IsStateOf t (filling (trees_on s)) state) (sym (pushed_stack old new below top x state p)) here;
      all_extras = c.all_extras.1;
      good = c.good.1;
      reach = c.reach.1;
      within = omega (arith, c.within);
    }

-- what is still to be laid, and the stack so far
pub record Laid (t : ParseTable) (size all : ℕ) (stack : List Layer) (state : ℕ) (left : List Tree) : Type 0 where
  pub place : ℕ
  pub can : CanLay t size place stack state left
  pub sum : place + all_spans left ≡ all

pub laid_begins : (t : ParseTable) (size place : ℕ) (stack : List Layer) (state : ℕ) (xs : List Tree) → CanLay t size place stack state xs → Laid t size (place + all_spans xs) stack state xs
laid_begins t size place stack state xs c = record { place = place; can = c; sum = refl }

pub laid_more : (t : ParseTable) (size all : ℕ) (old new : List (List Layer)) (below top : ℕ) (x : Tree) (xs ys : List Tree) (state : ℕ) → Pushes old new below top x state → xs ≡ x ∷ ys → Laid t size all (stack_at old below) state xs → Laid t size all (stack_at new top) state ys
laid_more t size all old new below top x xs ys state p is l =
    let c : CanLay t size l.place (stack_at old below) state (x ∷ ys) = subst (λ (zs : List Tree). CanLay t size l.place (stack_at old below) state zs) is l.can in
    record {
      place = l.place + span_of x;
      can = lay_more t size l.place old new below top x ys state p c;
      sum = omega (arith, l.sum, ap all_spans is);
    }

pub laid_ends : (t : ParseTable) (size all : ℕ) (stack : List Layer) (state : ℕ) (xs : List Tree) → xs ≡ [] → Laid t size all stack state xs → IsGoodStack t size stack all
laid_ends t size all stack state xs none l = subst (λ (n : ℕ). IsGoodStack t size stack n) (omega (arith, l.sum, ap all_spans none)) l.can.base

-- what is read of the layers
module _ {X : Type 0} (f : Layer → X) (h : Tree → X) (alike : (x : Tree) (state : ℕ) → f (layer_with x state) ≡ h x) where
  pub mapped_more : (old new : List (List Layer)) (below top : ℕ) (x : Tree) (xs ys : List Tree) (whole : List X) (state : ℕ) → Pushes old new below top x state → xs ≡ x ∷ ys → whole ≡ map h (reverse xs) ++ map f (stack_at old below)
      → whole ≡ map h (reverse ys) ++ map f (stack_at new top)
  mapped_more old new below top x xs ys whole state p is before =
      before
      ∙ ap (λ (l : List Tree). map h (reverse l) ++ map f (stack_at old below)) is
      ∙ ap (λ (l : List Tree). map h l ++ map f (stack_at old below)) (turned x ys)
      ∙ ap (λ (l : List X). l ++ map f (stack_at old below)) (map-append h (reverse ys) (x ∷ []))
      ∙ append_assoc (map h (reverse ys)) (h x ∷ []) (map f (stack_at old below))
      ∙ ap (λ (y : X). map h (reverse ys) ++ y ∷ map f (stack_at old below)) (sym (alike x state))
      ∙ ap (λ (s : List Layer). map h (reverse ys) ++ map f s) (sym (pushed_stack old new below top x state p))

pub trees_more : (old new : List (List Layer)) (below top : ℕ) (x : Tree) (xs ys whole : List Tree) (state : ℕ) → Pushes old new below top x state → xs ≡ x ∷ ys → whole ≡ reverse xs ++ trees_on (stack_at old below) → whole ≡ reverse ys ++ trees_on (stack_at new top)
trees_more old new below top x xs ys whole state p is before =
    before
    ∙ ap (λ (l : List Tree). reverse l ++ trees_on (stack_at old below)) is
    ∙ ap (λ (l : List Tree). l ++ trees_on (stack_at old below)) (turned x ys)
    ∙ append_assoc (reverse ys) (x ∷ []) (trees_on (stack_at old below))
    ∙ ap (λ (s : List Layer). reverse ys ++ trees_on s) (sym (pushed_stack old new below top x state p))
