-- The layers of what a reduction takes off a good stack.
use Rattle.std.proofs.Common.{◌≡◌, ◌∙◌, sym, ap, refl, subst, ℕ, zero, suc, ◌+◌, ◌<◌, ◌≤◌, max, Bool, true, false, List, [], ◌∷◌, ◌++◌, length, map, take, drop, reverse, arith}
use Rattle.std.proofs.lemmas.List.{map-append, reverse-append, reverse-reverse, length-reverse, take-append-drop}
use Rattle.spec_trees.specs.declared.tree.Tree.{Tree}
use Rattle.spec_trees.specs.Trees.{is_extra_node, tree_depth, maximum, greatest_depth, bare}
use Rattle.spec_trees.specs.Made.{Form, of_rule, of_first, of_next, most_depth}
use Rattle.spec_runs.specs.BareTrees.{KeepsAll}
use Rattle.spec_runs.specs.Configurations.{AreExtras}
use Rattle.spec_packing.specs.Replacing.{depth_over}
use Rattle.spec_packing.specs.Packing.{PackedTree, packed_trees, packed_depths, packed_alone}
use Rattle.ts_gss.specs.declared.layer.Layer.{Layer}
use Rattle.ts_gss.specs.Stacks.{trees_on, depths_on, AreExact}
use Rattle.ts_gss.specs.Paths.{IsLifted, IsTakenOff, depths_of, AreDepthsOf}
use Rattle.ts_steps.specs.Lines.{lengthens_by}
use Rattle.ts_steps.specs.Making.{depth_by, depth_when}
use Rattle.ts_steps.specs.LiveHeads.{HaveDepths, packed_tree, packed_own, packed_layers, NoneIsDeeper, AreLayersTaken, AreAlone}
use Rattle.ts_steps.proofs.StackLemmas.{depths_drop}

-- ---- lists

pub map_turned : {X Y : Type 0} (f : X → Y) (xs : List X) → map f (reverse xs) ≡ reverse (map f xs)
map_turned f [] = refl
map_turned {X} {Y} f (x ∷ xs) =
    ap (λ (l : List X). map f l) (reverse-append (x ∷ []) xs)
    ∙ map-append f (reverse xs) (x ∷ [])
    ∙ ap (λ (l : List Y). l ++ f x ∷ []) (map_turned f xs)
    ∙ sym (reverse-append (f x ∷ []) (map f xs))

-- the trees and the depths of layers
pub layers_trees : (layers : List Layer) → packed_trees (packed_layers layers) ≡ map bare (trees_on layers)
layers_trees [] = refl
layers_trees (l ∷ layers) = ap (λ (ts : List Tree). bare l.tree ∷ ts) (layers_trees layers)

pub layers_depths : (layers : List Layer) → packed_depths (packed_layers layers) ≡ depths_on layers
layers_depths [] = refl
layers_depths (l ∷ layers) = ap (λ (ds : List ℕ). l.depth ∷ ds) (layers_depths layers)

pub own_trees : (ts : List Tree) → packed_trees (map packed_own ts) ≡ map bare ts
own_trees [] = refl
own_trees (t ∷ ts) = ap (λ (us : List Tree). bare t ∷ us) (own_trees ts)

layers_append : (xs ys : List Layer) → packed_layers (xs ++ ys) ≡ packed_layers xs ++ packed_layers ys
layers_append xs ys = map-append (λ (l : Layer). packed_tree l.tree l.depth) xs ys

-- a stack is its first layers and those below
parted : (n : ℕ) (stack below : List Layer) → below ≡ drop n stack → packed_layers stack ≡ packed_layers (take n stack) ++ packed_layers below
parted n stack below is =
    ap (λ (l : List Layer). packed_layers l) (sym (take-append-drop n stack))
    ∙ layers_append (take n stack) (drop n stack)
    ∙ ap (λ (l : List Layer). packed_layers (take n stack) ++ packed_layers l) (sym is)

front : (ts : List Tree) (stack : List Layer) (rest : List Tree) → trees_on stack ≡ ts ++ rest → trees_on (take (length ts) stack) ≡ ts
front [] stack rest e = refl
front (t ∷ ts) [] rest e = absurd (let h : [] ≡ t ∷ (ts ++ rest) = e in cc)
front (t ∷ ts) (l ∷ stack) rest e =
    let h : l.tree ∷ trees_on stack ≡ t ∷ (ts ++ rest) = e in
    let same : l.tree ≡ t = cc in
    let more : trees_on stack ≡ ts ++ rest = cc in
    ap (λ (x : Tree). x ∷ trees_on (take (length ts) stack)) same ∙ ap (λ (us : List Tree). t ∷ us) (front ts stack rest more)

depths_take : (n : ℕ) (layers : List Layer) → HaveDepths layers → HaveDepths (take n layers)
depths_take zero layers d = tt
depths_take (suc n) [] d = tt
depths_take (suc n) (l ∷ layers) d = (d.0, depths_take n layers d.1)

-- ---- extras stand for themselves alone

same_layer : (t u : Tree) (d e : ℕ) → t ≡ u → d ≡ e → packed_tree t d ≡ packed_tree u e
same_layer t u d e a b = ap (λ (x : Tree). packed_tree x d) a ∙ ap (λ (n : ℕ). packed_tree u n) b

extras_own : (es : List Tree) (stack : List Layer) (rest : List Tree) → trees_on stack ≡ es ++ rest → AreExtras es → HaveDepths stack → packed_layers (take (length es) stack) ≡ map packed_own es
extras_own [] stack rest e all deep = refl
extras_own (x ∷ es) [] rest e all deep = absurd (let h : [] ≡ x ∷ (es ++ rest) = e in cc)
extras_own (x ∷ es) (l ∷ stack) rest e all deep =
    let h : l.tree ∷ trees_on stack ≡ x ∷ (es ++ rest) = e in
    let same : l.tree ≡ x = cc in
    let more : trees_on stack ≡ es ++ rest = cc in
    let flat : l.depth ≡ tree_depth l.tree = deep.0.flat (ap is_extra_node same ∙ all.0) in
    ap (λ (y : PackedTree). y ∷ packed_layers (take (length es) stack)) (same_layer l.tree x l.depth (tree_depth x) same (flat ∙ ap tree_depth same))
    ∙ ap (λ (ys : List PackedTree). packed_own x ∷ ys) (extras_own es stack rest more all.1 deep.1)

-- ---- no tree is deeper than its layer

none_deeper : (layers : List Layer) → HaveDepths layers → NoneIsDeeper (trees_on layers) (depths_on layers)
none_deeper [] d = tt
none_deeper (l ∷ layers) d = (d.0.own, none_deeper layers d.1)

deeper_append : (ts us : List Tree) (ds es : List ℕ) → NoneIsDeeper ts ds → NoneIsDeeper us es → NoneIsDeeper (ts ++ us) (ds ++ es)
deeper_append [] us [] es a b = b
deeper_append [] us (d ∷ ds) es a b = absurd a
deeper_append (t ∷ ts) us [] es a b = absurd a
deeper_append (t ∷ ts) us (d ∷ ds) es a b = (a.0, deeper_append ts us ds es a.1 b)

deeper_turned : (ts : List Tree) (ds : List ℕ) → NoneIsDeeper ts ds → NoneIsDeeper (reverse ts) (reverse ds)
deeper_turned [] [] a = tt
deeper_turned [] (d ∷ ds) a = absurd a
deeper_turned (t ∷ ts) [] a = absurd a
deeper_turned (t ∷ ts) (d ∷ ds) a =
    subst (λ (us : List Tree). NoneIsDeeper us (reverse (d ∷ ds))) (sym (reverse-append (t ∷ []) ts))
    (subst (λ (es : List ℕ). NoneIsDeeper (reverse ts ++ t ∷ []) es) (sym (reverse-append (d ∷ []) ds))
    (deeper_append (reverse ts) (t ∷ []) (reverse ds) (d ∷ []) (deeper_turned ts ds a.1) (a.0, tt)))

-- ---- what is taken

pub layers_taken : (stack under below : List Layer) (lifted extras children : List Tree) (count first others : ℕ) → HaveDepths stack → IsLifted stack lifted under → IsTakenOff under count children below → extras ≡ reverse lifted
    → AreDepthsOf (depths_of (length children) under) first others → AreLayersTaken stack extras children first others below
layers_taken stack under below lifted extras children count first others deep l k extras_is depths =
    let m : ℕ = length children in
    let own : List Layer = take m under in
    let back : reverse extras ≡ lifted = ap (λ (ts : List Tree). reverse ts) extras_is ∙ reverse-reverse lifted in
    let low : HaveDepths under = subst (λ (ls : List Layer). HaveDepths ls) (sym l.rest) (depths_drop (length lifted) stack deep) in
    let trees : trees_on own ≡ reverse children =
    ap (λ (n : ℕ). trees_on (take n under)) (sym (length-reverse children)) ∙ front (reverse children) under (trees_on below) k.trees_are in
    let names : reverse (trees_on own) ≡ children = ap (λ (ts : List Tree). reverse ts) trees ∙ reverse-reverse children in
    let ds : packed_depths (reverse (packed_layers own)) ≡ depths_of m under =
    map_turned (λ (x : PackedTree). x.depth) (packed_layers own) ∙ ap (λ (es : List ℕ). reverse es) (layers_depths own) in
    record {
      taken = reverse (packed_layers own);
      layers = parted (length lifted) stack under l.rest
          ∙ ap (λ (xs : List PackedTree). xs ++ packed_layers under) (extras_own lifted stack (trees_on under) l.trees l.all_extras deep)
          ∙ ap (λ (ts : List Tree). map packed_own ts ++ packed_layers under) (sym back)
          ∙ ap (λ (xs : List PackedTree). map packed_own (reverse extras) ++ xs) (parted m under below k.rest)
          ∙ ap (λ (xs : List PackedTree). map packed_own (reverse extras) ++ (xs ++ packed_layers below)) (sym (reverse-reverse (packed_layers own)));
      trees = map_turned (λ (x : PackedTree). x.tree) (packed_layers own)
          ∙ ap (λ (ts : List Tree). reverse ts) (layers_trees own)
          ∙ sym (map_turned bare (trees_on own))
          ∙ ap (λ (ts : List Tree). map bare ts) names;
      depths = subst (λ (es : List ℕ). AreDepthsOf es first others) (sym ds) depths;
      covers = subst (λ (es : List ℕ). NoneIsDeeper children es) (sym ds)
          (subst (λ (ts : List Tree). NoneIsDeeper ts (depths_of m under)) names (deeper_turned (trees_on own) (depths_on own) (none_deeper own (depths_take m under low))));
    }

-- ---- how deep the node is

whole_maximum : (ds : List ℕ) → maximum ds ≡ max (maximum (take 1 ds)) (maximum (drop 1 ds))
whole_maximum [] = refl
whole_maximum (d ∷ ds) = omega arith

pub over_depths : (f : Form) (ds : List ℕ) (first others : ℕ) → AreDepthsOf ds first others → depth_over f ds ≡ depth_by (lengthens_by f) first others
over_depths of_rule ds first others are = omega (arith, whole_maximum ds, are.0, are.1)
over_depths (of_first a) ds first others are = omega (arith, whole_maximum ds, are.0, are.1)
over_depths (of_next a) [] first others are = omega (arith, are.0, are.1)
over_depths (of_next a) (d ∷ ds) first others are = omega (arith, are.0, are.1)

greatest_less : (ts : List Tree) (ds : List ℕ) → NoneIsDeeper ts ds → greatest_depth ts ≤ maximum ds
greatest_less [] [] a = omega arith
greatest_less [] (d ∷ ds) a = absurd a
greatest_less (t ∷ ts) [] a = absurd a
greatest_less (t ∷ ts) (d ∷ ds) a = omega (arith, a.0, greatest_less ts ds a.1)

-- the node over the children's own trees is no deeper
pub own_less : (lengthens : Bool) (ts : List Tree) (ds : List ℕ) (first others : ℕ) → NoneIsDeeper ts ds → AreDepthsOf ds first others → depth_when lengthens ts ≤ depth_by lengthens first others
own_less true [] [] first others a are = omega (arith, are.0, are.1)
own_less true [] (d ∷ ds) first others a are = absurd a
own_less true (t ∷ ts) [] first others a are = absurd a
own_less true (t ∷ ts) (d ∷ ds) first others a are = omega (arith, are.0, are.1, a.0, greatest_less ts ds a.1)
own_less false ts ds first others a are = omega (arith, whole_maximum ds, are.0, are.1, greatest_less ts ds a)

-- a node is too deep over layers of which some is nearly so
pub deep_some : (lengthens : Bool) (first others : ℕ) → most_depth < depth_by lengthens first others → most_depth ≤ max first others
deep_some true first others h = omega (arith, h)
deep_some false first others h = omega (arith, h)

maximum_append : (xs ys : List ℕ) → maximum (xs ++ ys) ≡ max (maximum xs) (maximum ys)
maximum_append [] ys = omega arith
maximum_append (x ∷ xs) ys = omega (arith, maximum_append xs ys)

maximum_turned : (xs : List ℕ) → maximum (reverse xs) ≡ maximum xs
maximum_turned [] = refl
maximum_turned (x ∷ xs) = omega (arith, ap maximum (reverse-append (x ∷ []) xs), maximum_append (reverse xs) (x ∷ []), maximum_turned xs)

-- they are no deeper than all that was on the stack
pub no_deeper : (stack : List Layer) (extras children : List Tree) (first others bound : ℕ) (below : List Layer) → AreLayersTaken stack extras children first others below → maximum (depths_on stack) ≤ bound → max first others ≤ bound
no_deeper stack extras children first others bound below k low =
    let front : List PackedTree = map packed_own (reverse extras) in
    let rest : List PackedTree = reverse k.taken ++ packed_layers below in
    let depth : PackedTree → ℕ = λ x. x.depth in
    let all : depths_on stack ≡ map depth front ++ (map depth (reverse k.taken) ++ packed_depths (packed_layers below)) =
    sym (layers_depths stack)
    ∙ ap (λ (xs : List PackedTree). packed_depths xs) k.layers
    ∙ map-append depth front rest
    ∙ ap (λ (ds : List ℕ). map depth front ++ ds) (map-append depth (reverse k.taken) (packed_layers below)) in
    let sum : maximum (depths_on stack) ≡ maximum (map depth front ++ (map depth (reverse k.taken) ++ packed_depths (packed_layers below))) = ap maximum all in
    let own : maximum (map depth (reverse k.taken)) ≡ maximum (packed_depths k.taken) = ap maximum (map_turned depth k.taken) ∙ maximum_turned (packed_depths k.taken) in
    omega (arith, low, sum, maximum_append (map depth front) (map depth (reverse k.taken) ++ packed_depths (packed_layers below)), maximum_append (map depth (reverse k.taken)) (packed_depths (packed_layers below)), own, whole_maximum (packed_depths k.taken), k.depths.0, k.depths.1)

-- ---- layers that are as deep as their trees

pub alone_append : (xs ys : List PackedTree) → AreAlone xs → AreAlone ys → AreAlone (xs ++ ys)
alone_append [] ys a b = b
alone_append (x ∷ xs) ys a b = (a.0, alone_append xs ys a.1 b)

pub alone_left : (xs ys : List PackedTree) → AreAlone (xs ++ ys) → AreAlone xs
alone_left [] ys a = tt
alone_left (x ∷ xs) ys a = (a.0, alone_left xs ys a.1)

pub alone_right : (xs ys : List PackedTree) → AreAlone (xs ++ ys) → AreAlone ys
alone_right [] ys a = a
alone_right (x ∷ xs) ys a = alone_right xs ys a.1

alone_turned : (xs : List PackedTree) → AreAlone xs → AreAlone (reverse xs)
alone_turned [] a = tt
alone_turned (x ∷ xs) a = subst AreAlone (sym (reverse-append (x ∷ []) xs)) (alone_append (reverse xs) (x ∷ []) (alone_turned xs a.1) (a.0, tt))

pub alone_back : (xs : List PackedTree) → AreAlone (reverse xs) → AreAlone xs
alone_back xs a = subst AreAlone (reverse-reverse xs) (alone_turned (reverse xs) a)

pub depths_alone : (xs : List PackedTree) → AreAlone xs → packed_depths xs ≡ map tree_depth (packed_trees xs)
depths_alone [] a = refl
depths_alone (x ∷ xs) a = ap (λ (n : ℕ). n ∷ packed_depths xs) a.0 ∙ ap (λ (ns : List ℕ). tree_depth x.tree ∷ ns) (depths_alone xs a.1)

-- they are the layers of their trees
pub alone_is : (xs : List PackedTree) → AreAlone xs → xs ≡ map packed_alone (packed_trees xs)
alone_is [] a = refl
alone_is (x ∷ xs) a =
    let first : x ≡ packed_alone x.tree = ap (λ (n : ℕ). record { tree = x.tree; depth = n }) a.0 in
    ap (λ (y : PackedTree). y ∷ xs) first ∙ ap (λ (ys : List PackedTree). packed_alone x.tree ∷ ys) (alone_is xs a.1)

module _ (keeps : (t : Tree) → KeepsAll t) where
  pub bare_depths : (ts : List Tree) → map tree_depth (map bare ts) ≡ map tree_depth ts
  bare_depths [] = refl
  bare_depths (t ∷ ts) = ap (λ (n : ℕ). n ∷ map tree_depth (map bare ts)) (keeps t).depth ∙ ap (λ (ns : List ℕ). tree_depth t ∷ ns) (bare_depths ts)

  pub exact_alone : (layers : List Layer) → AreExact layers → AreAlone (packed_layers layers)
  exact_alone [] e = tt
  exact_alone (l ∷ layers) e = (e.0 ∙ sym (keeps l.tree).depth, exact_alone layers e.1)

-- the depth of a node over what is as deep as its trees
pub own_exact : (lengthens : Bool) (ts : List Tree) (first others : ℕ) → AreDepthsOf (map tree_depth ts) first others → depth_by lengthens first others ≡ depth_when lengthens ts
own_exact true [] first others are = omega (arith, are.0, are.1)
own_exact true (t ∷ ts) first others are = omega (arith, are.0, are.1)
own_exact false ts first others are = omega (arith, whole_maximum (map tree_depth ts), are.0, are.1)
