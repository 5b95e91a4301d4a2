-- What a tree comes to, by its parts and by parts of its list of children.
use Rattle.std.proofs.Common.{◌≡◌, ℕ, zero, suc, ◌+◌, ◌-◌, ◌<◌, ◌≤◌, sym, ap, ◌∙◌, refl, subst, arith, Bool, true, false, List, [], ◌∷◌, ◌++◌, length, map, take, drop, slice_get, Option, Some, None, length-append, append_assoc}
use Rattle.std.specs.Prelude.{if◌then◌else◌, option_map}
use Rattle.std.proofs.lemmas.List.{length-map, take-append-drop, drop-drop}
use Rattle.std.proofs.lemmas.Option.{slice_get_within}
use Rattle.ts_core.specs.declared.flat.Alias.{Alias}
use Rattle.ts_core.specs.declared.flat.Step.{Step}
use Rattle.ts_core.specs.declared.flat.FlatGrammar.{FlatGrammar}
use Rattle.spec_trees.specs.declared.tree.Tree.{Tree}
use Rattle.spec_trees.specs.declared.tree.Element.{Element}
use Rattle.spec_trees.specs.declared.tree.Tree.TheViews.{out-Tree, roll-out-Tree}
use Rattle.spec_trees.specs.declared.tree.Tree.TheFolds.{para-roll-Tree, fold_out-Tree}
use Rattle.spec_trees.specs.declared.visible.VisibleNode.{VisibleNode}
use Rattle.spec_grammar.specs.Symbols.{first_production, node_name}
use Rattle.spec_trees.specs.Trees.{symbol_of, production_of, pad_of, size_of, elements_of, children_of, is_extra_node, span_of, all_spans, tree_depth, depth_step, greatest_depth, node_count, nodes_step, all_nodes}
use Rattle.spec_trees.specs.Made.{fills_from, children_count}
use Rattle.spec_trees.specs.VisibleNodes.{Marks, no_marks, marks_at, steps_at, element_marks, elements_marks, children_marks, first_marks, showing, showing_step, Showing, is_shown, shown_name, shown_named, with_field, visible_node, visible_nodes, root_marks}
use Rattle.ts_base.specs.Bytes.{Bytes}
use Rattle.ts_core.specs.declared.shown.Shown.{Shown}
use Rattle.spec_trees.specs.Shown.{shown}
use Rattle.spec_trees.specs.Family.{LieWithin}
use Rattle.ts_cursor.specs.declared.seen.Face.{Face}
use Rattle.ts_cursor.specs.Pooled.{seen_with}
use Rattle.ts_cursor.specs.Marked.{start_of, fills, filled_after, window, among, part_nodes, inner_nodes, AppendsNodes}

-- ---- a tree by its parts

all_trees : (g : FlatGrammar) (ts : List Tree) → map (λ (c : Tree × Showing). c.0) (map (λ (t : Tree). (t, showing g t)) ts) ≡ ts
all_trees g [] = refl
all_trees g (t ∷ ts) = ap (λ (us : List Tree). t ∷ us) (all_trees g ts)

pub showing_is : (g : FlatGrammar) (t : Tree) (depth place : ℕ) (fields : List ℕ) (m : Marks) → showing g t depth place fields m
    ≡ (if is_shown g (symbol_of t) m.alias
    then visible_node depth (shown_name g (symbol_of t) m.alias) (shown_named g (symbol_of t) m.alias) (with_field fields m.field) (place + pad_of t) (size_of t) ∷ inner_nodes g t (suc depth) place []
    else inner_nodes g t depth place (with_field fields m.field))
showing_is g t depth place fields m =
    ap (λ (f : Showing). f depth place fields m) (ap (showing g) (sym (roll-out-Tree t)) ∙ para-roll-Tree Showing (showing_step g) (out-Tree t))
    ∙ rw (all_trees g (children_of t)) refl

-- the nodes of a tree that shows
pub showing_shown : (g : FlatGrammar) (t : Tree) (depth place : ℕ) (fields : List ℕ) (m : Marks) → is_shown g (symbol_of t) m.alias ≡ true → showing g t depth place fields m
    ≡ visible_node depth (shown_name g (symbol_of t) m.alias) (shown_named g (symbol_of t) m.alias) (with_field fields m.field) (place + pad_of t) (size_of t) ∷ inner_nodes g t (suc depth) place []
showing_shown g t depth place fields m e = showing_is g t depth place fields m ∙ rw e refl

-- the nodes of a tree that is hidden
pub showing_hidden : (g : FlatGrammar) (t : Tree) (depth place : ℕ) (fields : List ℕ) (m : Marks) → is_shown g (symbol_of t) m.alias ≡ false → showing g t depth place fields m ≡ inner_nodes g t depth place (with_field fields m.field)
showing_hidden g t depth place fields m e = showing_is g t depth place fields m ∙ rw e refl

pub depth_is : (t : Tree) → tree_depth t ≡ 1 + greatest_depth (children_of t)
depth_is t = fold_out-Tree ℕ depth_step t

-- ---- a child among the children

no_item : {X : Type 0} {P : Type 0} (i : ℕ) (t : X) → slice_get [] i ≡ Some t → P
no_item {X = X} i t e = let f : ⊥ = omega (arith, slice_get_within {A = X} [] i t e) in elim f [ ]

greatest_in : (ts : List Tree) (k : ℕ) (c : Tree) → slice_get ts k ≡ Some c → tree_depth c ≤ greatest_depth ts
greatest_in [] k c e = no_item k c e
greatest_in (t ∷ ts) zero c e =
    let s : Some t ≡ Some c = e in
    let d : tree_depth t ≡ tree_depth c = cc in
    omega (arith, d)
greatest_in (t ∷ ts) (suc k) c e = omega (arith, greatest_in ts k c e)

pub child_depth : (t : Tree) (k : ℕ) (c : Tree) → slice_get (children_of t) k ≡ Some c → (tree_depth c ≤ greatest_depth (children_of t)) × (tree_depth c < tree_depth t)
child_depth t k c e =
    let h : tree_depth c ≤ greatest_depth (children_of t) = greatest_in (children_of t) k c e in
    (h, omega (arith, h, depth_is t))

pub drop_at : {X : Type 0} (xs : List X) (k : ℕ) (x : X) → slice_get xs k ≡ Some x → drop k xs ≡ x ∷ drop (suc k) xs
drop_at [] k x e = no_item k x e
drop_at (y ∷ ys) zero x e =
    let s : Some y ≡ Some x = e in
    let d : y ≡ x = cc in
    ap (λ z. z ∷ ys) d
drop_at (y ∷ ys) (suc k) x e = drop_at ys k x e

window_at : (ts : List Tree) (k to : ℕ) (t : Tree) → slice_get ts k ≡ Some t → k < to → window ts k to ≡ t ∷ window ts (suc k) to
window_at ts k to t e h =
    let n : to - k ≡ suc (to - suc k) = omega (arith, h) in
    ap (λ (us : List Tree). take (to - k) us) (drop_at ts k t e) ∙ ap (λ (m : ℕ). take m (t ∷ drop (suc k) ts)) n

-- ---- the children of one production

part_cons : (g : FlatGrammar) (steps : List Step) (n : ℕ) (t : Tree) (ts : List Tree) (depth place : ℕ) (fields : List ℕ) → part_nodes g steps n (t ∷ ts) depth place fields
    ≡ showing g t depth place fields (marks_at steps (fills n (is_extra_node t))) ++ part_nodes g steps (filled_after n (is_extra_node t)) ts depth (place + span_of t) fields
part_cons g steps n t ts depth place fields = by (is_extra_node t) refl
  where
    by : (b : Bool) → is_extra_node t ≡ b → part_nodes g steps n (t ∷ ts) depth place fields ≡ showing g t depth place fields (marks_at steps (fills n (is_extra_node t))) ++ part_nodes g steps (filled_after n (is_extra_node t)) ts depth (place + span_of t) fields
    by true e = rw e refl
    by false e = rw e refl

pub part_at : (g : FlatGrammar) (steps : List Step) (n : ℕ) (ts : List Tree) (k to : ℕ) (t : Tree) (depth place : ℕ) (fields : List ℕ) → slice_get ts k ≡ Some t → k < to
    → part_nodes g steps n (window ts k to) depth place fields
    ≡ showing g t depth place fields (marks_at steps (fills n (is_extra_node t))) ++ part_nodes g steps (filled_after n (is_extra_node t)) (window ts (suc k) to) depth (place + span_of t) fields
part_at g steps n ts k to t depth place fields e h =
    ap (λ (us : List Tree). part_nodes g steps n us depth place fields) (window_at ts k to t e h) ∙ part_cons g steps n t (window ts (suc k) to) depth place fields

pub spans_at : (ts : List Tree) (k to : ℕ) (t : Tree) → slice_get ts k ≡ Some t → k < to → all_spans (window ts k to) ≡ span_of t + all_spans (window ts (suc k) to)
spans_at ts k to t e h = ap all_spans (window_at ts k to t e h)

-- ---- the elements of a repetition

among_append : (g : FlatGrammar) (xs ys : List Tree) (ms ns : List Marks) (depth place : ℕ) (fields : List ℕ) → length ms ≡ length xs
    → among g (xs ++ ys) (ms ++ ns) depth place fields ≡ among g xs ms depth place fields ++ among g ys ns depth (place + all_spans xs) fields
among_append g [] ys [] ns depth place fields e =
    let p : place + 0 ≡ place = omega arith in
    ap (λ (q : ℕ). among g ys ns depth q fields) (sym p)
among_append g [] ys (m ∷ ms) ns depth place fields e = let f : ⊥ = omega (arith, e) in elim f [ ]
among_append g (x ∷ xs) ys [] ns depth place fields e = let f : ⊥ = omega (arith, e) in elim f [ ]
among_append g (x ∷ xs) ys (m ∷ ms) ns depth place fields e =
    let l : length ms ≡ length xs = omega (arith, e) in
    let p : place + span_of x + all_spans xs ≡ place + (span_of x + all_spans xs) = omega arith in
    ap (λ (vs : List VisibleNode). showing g x depth place fields m ++ vs) (among_append g xs ys ms ns depth (place + span_of x) fields l)
    ∙ sym (append_assoc (showing g x depth place fields m) (among g xs ms depth (place + span_of x) fields) (among g ys ns depth (place + span_of x + all_spans xs) fields))
    ∙ ap (λ (q : ℕ). (showing g x depth place fields m ++ among g xs ms depth (place + span_of x) fields) ++ among g ys ns depth q fields) p

length-fills : (n : ℕ) (ts : List Tree) → length (fills_from n ts) ≡ length ts
length-fills n [] = refl
length-fills n (t ∷ ts) = by (is_extra_node t) refl (length-fills n ts) (length-fills (suc n) ts)
  where
    by : (b : Bool) → is_extra_node t ≡ b → length (fills_from n ts) ≡ length ts → length (fills_from (suc n) ts) ≡ length ts → length (fills_from n (t ∷ ts)) ≡ suc (length ts)
    by true e h k = rw e (ap suc h)
    by false e h k = rw e (ap suc k)

-- nodes with no marks at all fill no steps
pub unmarked : (g : FlatGrammar) (n : ℕ) (ts : List Tree) (depth place : ℕ) (fields : List ℕ) → among g ts [] depth place fields ≡ part_nodes g [] n ts depth place fields
unmarked g n [] depth place fields = refl
unmarked g n (t ∷ ts) depth place fields =
    ap (λ (vs : List VisibleNode). showing g t depth place fields no_marks ++ vs) (unmarked g (filled_after n (is_extra_node t)) ts depth (place + span_of t) fields)
    ∙ ap (λ (m : Marks). showing g t depth place fields m ++ part_nodes g [] (filled_after n (is_extra_node t)) ts depth (place + span_of t) fields) (sym (none_at (fills n (is_extra_node t))))
    ∙ sym (part_cons g [] n t ts depth place fields)
  where
    none_at : (o : Option ℕ) → marks_at [] o ≡ no_marks
    none_at None = refl
    none_at (Some k) = refl

pub element_at : (g : FlatGrammar) (symbol : ℕ) (es : List Element) (ts : List Tree) (i from : ℕ) (e : Element) (depth place : ℕ) (fields : List ℕ) → slice_get es i ≡ Some e → from + e.children ≤ length ts
    → among g (drop from ts) (elements_marks g symbol (drop i es) (drop from ts)) depth place fields
    ≡ part_nodes g (steps_at g (first_production g symbol + e.alternative)) 0 (window ts from (from + e.children)) depth place fields
    ++ among g (drop (from + e.children) ts) (elements_marks g symbol (drop (suc i) es) (drop (from + e.children) ts)) depth (place + all_spans (window ts from (from + e.children))) fields
element_at g symbol es ts i from e depth place fields at h =
    let c : ℕ = e.children in
    let own : List Tree = take c (drop from ts) in
    let rest : List Tree = drop c (drop from ts) in
    let steps : List Step = steps_at g (first_production g symbol + e.alternative) in
    let w : window ts from (from + c) ≡ own = (let n : from + c - from ≡ c = omega arith in ap (λ (m : ℕ). take m (drop from ts)) n) in
    let r : rest ≡ drop (from + c) ts = drop-drop c from ts in
    let l : length (element_marks g symbol e own) ≡ length own = length-map (fills_from 0 own) (marks_at steps) ∙ length-fills 0 own in
    ap (λ (fs : List Element). among g (drop from ts) (elements_marks g symbol fs (drop from ts)) depth place fields) (drop_at es i e at)
    ∙ ap (λ (us : List Tree). among g us (element_marks g symbol e own ++ elements_marks g symbol (drop (suc i) es) rest) depth place fields) (sym (take-append-drop c (drop from ts)))
    ∙ among_append g own rest (element_marks g symbol e own) (elements_marks g symbol (drop (suc i) es) rest) depth place fields l
    ∙ ap (λ (us : List Tree). part_nodes g steps 0 us depth place fields ++ among g rest (elements_marks g symbol (drop (suc i) es) rest) depth (place + all_spans us) fields) (sym w)
    ∙ ap (λ (us : List Tree). part_nodes g steps 0 (window ts from (from + c)) depth place fields ++ among g us (elements_marks g symbol (drop (suc i) es) us) depth (place + all_spans (window ts from (from + c))) fields) r

-- ---- no more visible nodes than nodes

count_is : (t : Tree) → node_count t ≡ 1 + (length (elements_of t) + all_nodes (children_of t))
count_is t = fold_out-Tree ℕ nodes_step t

among_few : (g : FlatGrammar) (n : ℕ) → ((t : Tree) (depth place : ℕ) (fields : List ℕ) (m : Marks) → tree_depth t ≤ n → length (showing g t depth place fields m) ≤ node_count t)
    → (ts : List Tree) (ms : List Marks) (depth place : ℕ) (fields : List ℕ) → greatest_depth ts ≤ n → length (among g ts ms depth place fields) ≤ all_nodes ts
among_few g n few [] ms depth place fields h = omega arith
among_few g n few (t ∷ ts) ms depth place fields h =
    omega (
      arith,
      length-append (showing g t depth place fields (first_marks ms)) (among g ts (drop 1 ms) depth (place + span_of t) fields),
      few t depth place fields (first_marks ms) (omega (arith, h)),
      among_few g n few ts (drop 1 ms) depth (place + span_of t) fields (omega (arith, h)),
    )

visible_few : (n : ℕ) (g : FlatGrammar) (t : Tree) (depth place : ℕ) (fields : List ℕ) (m : Marks) → tree_depth t ≤ n → length (showing g t depth place fields m) ≤ node_count t
visible_few zero g t depth place fields m h = absurd (omega (arith, h, depth_is t))
visible_few (suc n) g t depth place fields m h = by (is_shown g (symbol_of t) m.alias) refl
    (λ d fs. among_few g n (visible_few n g) (children_of t) (children_marks g (symbol_of t) (production_of t) (elements_of t) (children_of t)) d place fs (omega (arith, h, depth_is t)))
  where
    by : (b : Bool) → is_shown g (symbol_of t) m.alias ≡ b → ((d : ℕ) (fs : List ℕ) → length (inner_nodes g t d place fs) ≤ all_nodes (children_of t)) → length (showing g t depth place fields m) ≤ node_count t
    by true e inner = omega (arith, ap length (showing_shown g t depth place fields m e), inner (suc depth) [], count_is t)
    by false e inner = omega (arith, ap length (showing_hidden g t depth place fields m e), inner depth (with_field fields m.field), count_is t)

pub few_nodes : (g : FlatGrammar) (t : Tree) → length (visible_nodes g t) ≤ node_count t
few_nodes g t = visible_few (tree_depth t) g t 0 0 [] (root_marks g (symbol_of t)) (omega arith)

-- ---- where visible nodes lie

lie_append : (limit : ℕ) (xs ys : List VisibleNode) → LieWithin limit xs → LieWithin limit ys → LieWithin limit (xs ++ ys)
lie_append limit [] ys h k = k
lie_append limit (x ∷ xs) ys h k = (h.0, (h.1.0, lie_append limit xs ys h.1.1 k))

lie_more : (limit more : ℕ) (xs : List VisibleNode) → limit ≤ more → LieWithin limit xs → LieWithin more xs
lie_more limit more [] h k = k
lie_more limit more (x ∷ xs) h k = (k.0, (omega (arith, h, k.1.0), lie_more limit more xs h k.1.1))

-- ---- the walk

-- a node that shows, with its fields put in
pub shows_with : (v : Face) (depth : ℕ) (name : Bytes) (named : Bool) (fields : List ℕ) (start size : ℕ) → seen_with [] v ≡ visible_node depth name named [] start size → seen_with fields v ≡ visible_node depth name named fields start size
shows_with v depth name named fields start size e = ap (λ (n : VisibleNode). record n { fields = fields }) e

-- how a node shows where its grammar and symbol have been looked up
pub shown_by : (g h : FlatGrammar) (s t : ℕ) (alias : Option Alias) (b c : Bool) → h ≡ g → s ≡ t → b ≡ is_shown h s alias → b ≡ c → is_shown g t alias ≡ c
shown_by g h s t alias b c e f is known = cc

-- a node that shows, and then its children
pub put_shown : (g : FlatGrammar) (t : Tree) (depth place : ℕ) (fields : List ℕ) (m : Marks) (old mid new : List VisibleNode) → is_shown g (symbol_of t) m.alias ≡ true
    → mid ≡ old ++ visible_node depth (shown_name g (symbol_of t) m.alias) (shown_named g (symbol_of t) m.alias) (with_field fields m.field) (place + pad_of t) (size_of t) ∷ []
    → all_spans (children_of t) ≤ span_of t
    → AppendsNodes (place + all_spans (children_of t)) (inner_nodes g t (depth + 1) place []) mid new
    → AppendsNodes (place + span_of t) (showing g t depth place fields m) old new
put_shown g t depth place fields m old mid new e pushed within adds =
    let n : depth + 1 ≡ suc depth = omega arith in
    let v : VisibleNode = visible_node depth (shown_name g (symbol_of t) m.alias) (shown_named g (symbol_of t) m.alias) (with_field fields m.field) (place + pad_of t) (size_of t) in
    let s : v ∷ inner_nodes g t (depth + 1) place [] ≡ showing g t depth place fields m = ap (λ (d : ℕ). v ∷ inner_nodes g t d place []) n ∙ sym (showing_shown g t depth place fields m e) in
    subst (λ (vs : List VisibleNode). AppendsNodes (place + span_of t) vs old new) s (record {
      nodes = adds.nodes ∙ ap (λ (vs : List VisibleNode). vs ++ inner_nodes g t (depth + 1) place []) pushed ∙ append_assoc old (v ∷ []) (inner_nodes g t (depth + 1) place []);
      lie = (omega arith, (omega arith, lie_more _ _ _ (omega (arith, within)) adds.lie));
    })

-- the children of a hidden node
pub put_hidden : (g : FlatGrammar) (t : Tree) (depth place : ℕ) (fields : List ℕ) (m : Marks) (old new : List VisibleNode) → is_shown g (symbol_of t) m.alias ≡ false
    → all_spans (children_of t) ≤ span_of t
    → AppendsNodes (place + all_spans (children_of t)) (inner_nodes g t depth place (with_field fields m.field)) old new
    → AppendsNodes (place + span_of t) (showing g t depth place fields m) old new
put_hidden g t depth place fields m old new e within adds =
    subst (λ (vs : List VisibleNode). AppendsNodes (place + span_of t) vs old new) (sym (showing_hidden g t depth place fields m e)) (record {
      nodes = adds.nodes;
      lie = lie_more _ _ _ (omega (arith, within)) adds.lie;
    })

pub inner_none : (g : FlatGrammar) (t : Tree) (depth place : ℕ) (fields : List ℕ) → None ≡ production_of t → elements_of t ≡ [] → inner_nodes g t depth place fields ≡ part_nodes g [] 0 (children_of t) depth place fields
inner_none g t depth place fields e none =
    ap (λ (o : Option ℕ). among g (children_of t) (children_marks g (symbol_of t) o (elements_of t) (children_of t)) depth place fields) (sym e)
    ∙ ap (λ (es : List Element). among g (children_of t) (elements_marks g (symbol_of t) es (children_of t)) depth place fields) none
    ∙ unmarked g 0 (children_of t) depth place fields

-- the state of the loop over the children of one part
pub record Parted (g : FlatGrammar) (steps : List Step) (ts : List Tree) (from to depth place : ℕ) (fields : List ℕ) (old : List VisibleNode) (k filled at : ℕ) (found : List VisibleNode) : Type 0 where
  pub few : filled ≤ k
  pub spans : at + all_spans (window ts k to) ≡ place + all_spans (window ts from to)
  pub nodes :
      found ++ part_nodes g steps filled (window ts k to) depth at fields
      ≡ old ++ part_nodes g steps 0 (window ts from to) depth place fields
  pub lie :
      LieWithin (place + all_spans (window ts from to)) (part_nodes g steps filled (window ts k to) depth at fields)
      → LieWithin (place + all_spans (window ts from to)) (part_nodes g steps 0 (window ts from to) depth place fields)

after_few : (n : ℕ) (b : Bool) → filled_after n b ≤ suc n
after_few n true = omega arith
after_few n false = omega arith

pub parted_step : (g : FlatGrammar) (steps : List Step) (ts : List Tree) (from to depth place : ℕ) (fields : List ℕ) (old : List VisibleNode) (k filled at : ℕ) (found more : List VisibleNode) (t : Tree)
    → Parted g steps ts from to depth place fields old k filled at found → slice_get ts k ≡ Some t → k < to
    → AppendsNodes (at + span_of t) (showing g t depth at fields (marks_at steps (fills filled (is_extra_node t)))) found more
    → Parted g steps ts from to depth place fields old (k + 1) (filled_after filled (is_extra_node t)) (at + span_of t) more
parted_step g steps ts from to depth place fields old k filled at found more t p e h adds =
    let n : k + 1 ≡ suc k = omega arith in
    let filled' : ℕ = filled_after filled (is_extra_node t) in
    let here : List VisibleNode = showing g t depth at fields (marks_at steps (fills filled (is_extra_node t))) in
    let rest : List VisibleNode = part_nodes g steps filled' (window ts (suc k) to) depth (at + span_of t) fields in
    let w : part_nodes g steps filled (window ts k to) depth at fields ≡ here ++ rest = part_at g steps filled ts k to t depth at fields e h in
    let sp : all_spans (window ts k to) ≡ span_of t + all_spans (window ts (suc k) to) = spans_at ts k to t e h in
    subst (λ (j : ℕ). Parted g steps ts from to depth place fields old j filled' (at + span_of t) more) (sym n) (record {
      few = omega (arith, after_few filled (is_extra_node t), p.few);
      spans = omega (arith, sp, p.spans);
      nodes = ap (λ (vs : List VisibleNode). vs ++ rest) adds.nodes ∙ append_assoc found here rest ∙ ap (λ (vs : List VisibleNode). found ++ vs) (sym w) ∙ p.nodes;
      lie = λ l. p.lie (subst (λ (vs : List VisibleNode). LieWithin (place + all_spans (window ts from to)) vs) (sym w) (lie_append (place + all_spans (window ts from to)) here rest (lie_more (at + span_of t) (place + all_spans (window ts from to)) here (omega (arith, sp, p.spans)) adds.lie) l));
    })

-- the same where the parts have been computed
pub parted_next : (g : FlatGrammar) (steps : List Step) (ts : List Tree) (from to depth place : ℕ) (fields : List ℕ) (old : List VisibleNode) (k filled at : ℕ) (found more : List VisibleNode) (t : Tree) (extra : Bool) (m : Marks) (after next : ℕ)
    → Parted g steps ts from to depth place fields old k filled at found → slice_get ts k ≡ Some t → k < to
    → extra ≡ is_extra_node t → m ≡ marks_at steps (fills filled extra) → after ≡ filled_after filled extra → next ≡ at + span_of t
    → AppendsNodes (at + span_of t) (showing g t depth at fields m) found more
    → Parted g steps ts from to depth place fields old (k + 1) after next more
parted_next g steps ts from to depth place fields old k filled at found more t extra m after next p e h is_extra is_marks is_after is_next adds =
    let m' : m ≡ marks_at steps (fills filled (is_extra_node t)) = is_marks ∙ ap (λ (b : Bool). marks_at steps (fills filled b)) is_extra in
    let a' : after ≡ filled_after filled (is_extra_node t) = is_after ∙ ap (λ (b : Bool). filled_after filled b) is_extra in
    subst (λ (j : ℕ). Parted g steps ts from to depth place fields old (k + 1) j next more) (sym a')
    (subst (λ (j : ℕ). Parted g steps ts from to depth place fields old (k + 1) (filled_after filled (is_extra_node t)) j more) (sym is_next)
    (parted_step g steps ts from to depth place fields old k filled at found more t p e h (subst (λ (v : Marks). AppendsNodes (at + span_of t) (showing g t depth at fields v) found more) m' adds)))

-- where the next child ends
pub parted_fits : (g : FlatGrammar) (steps : List Step) (ts : List Tree) (from to depth place : ℕ) (fields : List ℕ) (old : List VisibleNode) (k filled at : ℕ) (found : List VisibleNode) (t : Tree)
    → Parted g steps ts from to depth place fields old k filled at found → slice_get ts k ≡ Some t → k < to
    → at + span_of t ≤ place + all_spans (window ts from to)
parted_fits g steps ts from to depth place fields old k filled at found t p e h = omega (arith, spans_at ts k to t e h, p.spans)

-- ---- the loop over the elements of a repetition

spans_append : (xs ys : List Tree) → all_spans (xs ++ ys) ≡ all_spans xs + all_spans ys
spans_append [] ys = omega arith
spans_append (x ∷ xs) ys = omega (arith, spans_append xs ys)

own_window : (ts : List Tree) (from c : ℕ) → window ts from (from + c) ≡ take c (drop from ts)
own_window ts from c = let n : from + c - from ≡ c = omega arith in ap (λ (m : ℕ). take m (drop from ts)) n

pub spans_split : (ts : List Tree) (from c : ℕ) → all_spans (drop from ts) ≡ all_spans (window ts from (from + c)) + all_spans (drop (from + c) ts)
spans_split ts from c =
    ap all_spans (sym (take-append-drop c (drop from ts)))
    ∙ spans_append (take c (drop from ts)) (drop c (drop from ts))
    ∙ ap (λ (us : List Tree). all_spans us + all_spans (drop c (drop from ts))) (sym (own_window ts from c))
    ∙ ap (λ (us : List Tree). all_spans (window ts from (from + c)) + all_spans us) (drop-drop c from ts)

-- the state of that loop
pub record Elemented (g : FlatGrammar) (symbol : ℕ) (es : List Element) (ts : List Tree) (depth place : ℕ) (fields : List ℕ) (old : List VisibleNode) (e from at : ℕ) (found : List VisibleNode) : Type 0 where
  pub own : from + children_count (drop e es) ≡ length ts
  pub spans : at + all_spans (drop from ts) ≡ place + all_spans ts
  pub nodes :
      found ++ among g (drop from ts) (elements_marks g symbol (drop e es) (drop from ts)) depth at fields
      ≡ old ++ among g ts (elements_marks g symbol es ts) depth place fields
  pub lie :
      LieWithin (place + all_spans ts) (among g (drop from ts) (elements_marks g symbol (drop e es) (drop from ts)) depth at fields)
      → LieWithin (place + all_spans ts) (among g ts (elements_marks g symbol es ts) depth place fields)

-- what the next element has
pub element_fits : (g : FlatGrammar) (symbol : ℕ) (es : List Element) (ts : List Tree) (depth place : ℕ) (fields : List ℕ) (old : List VisibleNode) (e from at : ℕ) (found : List VisibleNode) (el : Element)
    → Elemented g symbol es ts depth place fields old e from at found → slice_get es e ≡ Some el
    → (from + el.children ≤ length ts) × (at + all_spans (window ts from (from + el.children)) ≤ place + all_spans ts)
element_fits g symbol es ts depth place fields old e from at found el s at_e =
    let c : children_count (drop e es) ≡ el.children + children_count (drop (suc e) es) = ap children_count (drop_at es e el at_e) in
    (omega (arith, c, s.own), omega (arith, s.spans, spans_split ts from el.children))

pub elemented_step : (g : FlatGrammar) (symbol : ℕ) (es : List Element) (ts : List Tree) (depth place : ℕ) (fields : List ℕ) (old : List VisibleNode) (e from at : ℕ) (found more : List VisibleNode) (el : Element)
    → Elemented g symbol es ts depth place fields old e from at found → slice_get es e ≡ Some el
    → AppendsNodes (at + all_spans (window ts from (from + el.children))) (part_nodes g (steps_at g (first_production g symbol + el.alternative)) 0 (window ts from (from + el.children)) depth at fields) found more
    → Elemented g symbol es ts depth place fields old (e + 1) (from + el.children) (at + all_spans (window ts from (from + el.children))) more
elemented_step g symbol es ts depth place fields old e from at found more el s at_e adds =
    let n : e + 1 ≡ suc e = omega arith in
    let c : children_count (drop e es) ≡ el.children + children_count (drop (suc e) es) = ap children_count (drop_at es e el at_e) in
    let fits : (from + el.children ≤ length ts) × (at + all_spans (window ts from (from + el.children)) ≤ place + all_spans ts) = element_fits g symbol es ts depth place fields old e from at found el s at_e in
    let next : ℕ = at + all_spans (window ts from (from + el.children)) in
    let here : List VisibleNode = part_nodes g (steps_at g (first_production g symbol + el.alternative)) 0 (window ts from (from + el.children)) depth at fields in
    let rest : List VisibleNode = among g (drop (from + el.children) ts) (elements_marks g symbol (drop (suc e) es) (drop (from + el.children) ts)) depth next fields in
    let w : among g (drop from ts) (elements_marks g symbol (drop e es) (drop from ts)) depth at fields ≡ here ++ rest = element_at g symbol es ts e from el depth at fields at_e fits.0 in
    subst (λ (j : ℕ). Elemented g symbol es ts depth place fields old j (from + el.children) next more) (sym n) (record {
      own = omega (arith, c, s.own);
      spans = omega (arith, s.spans, spans_split ts from el.children);
      nodes = ap (λ (vs : List VisibleNode). vs ++ rest) adds.nodes ∙ append_assoc found here rest ∙ ap (λ (vs : List VisibleNode). found ++ vs) (sym w) ∙ s.nodes;
      lie = λ l. s.lie (subst (λ (vs : List VisibleNode). LieWithin (place + all_spans ts) vs) (sym w) (lie_append (place + all_spans ts) here rest (lie_more next (place + all_spans ts) here fits.1 adds.lie) l));
    })

pub nil_of : (es : List Element) (n : ℕ) → n ≡ length es → n ≤ 0 → es ≡ []
nil_of [] n e h = refl
nil_of (x ∷ es) n e h = absurd (omega (arith, e, h))

-- the root, and then its children
pub put_root : (g : FlatGrammar) (t : Tree) (mid new : List VisibleNode) → mid ≡ visible_node 0 (node_name g (symbol_of t)) true [] (pad_of t) (size_of t) ∷ []
    → all_spans (children_of t) ≤ span_of t
    → AppendsNodes (0 + all_spans (children_of t)) (inner_nodes g t 1 0 []) mid new
    → (new ≡ visible_nodes g t) × LieWithin (span_of t) new
put_root g t mid new pushed within adds =
    let n : 0 + pad_of t ≡ pad_of t = omega arith in
    let s : 0 + span_of t ≡ span_of t = omega arith in
    let p : mid ≡ [] ++ visible_node 0 (node_name g (symbol_of t)) true [] (0 + pad_of t) (size_of t) ∷ [] = pushed ∙ ap (λ (k : ℕ). visible_node 0 (node_name g (symbol_of t)) true [] k (size_of t) ∷ []) (sym n) in
    let a : AppendsNodes (0 + span_of t) (visible_nodes g t) [] new = put_shown g t 0 0 [] (root_marks g (symbol_of t)) [] mid new refl p within adds in
    (a.nodes, subst (λ (vs : List VisibleNode). LieWithin (span_of t) vs) (sym a.nodes) (subst (λ (k : ℕ). LieWithin k (visible_nodes g t)) s a.lie))

pub few_seen : (g : FlatGrammar) (t : Tree) (vs : List VisibleNode) → vs ≡ visible_nodes g t → length vs ≤ node_count t
few_seen g t vs e = omega (arith, ap length e, few_nodes g t)

-- a node starts within the limit
pub start_within : (limit : ℕ) (vs : List VisibleNode) (k : ℕ) → LieWithin limit vs → start_of vs k ≤ limit
start_within limit [] k h = omega arith
start_within limit (v ∷ vs) zero h = omega (arith, h.0, h.1.0)
start_within limit (v ∷ vs) (suc k) h = start_within limit vs k h.1.1

-- one more node is printed
shown_step : (g : FlatGrammar) (text : Bytes) (vs : List VisibleNode) (k : ℕ) (s : Shown) → option_map (shown g text) (slice_get vs k) ≡ Some s → map (shown g text) (take k vs) ++ s ∷ [] ≡ map (shown g text) (take (suc k) vs)
shown_step g text [] k s e = let x : ⊥ = cc in elim x [ ]
shown_step g text (v ∷ vs) zero s e =
    let t : Some (shown g text v) ≡ Some s = e in
    let u : shown g text v ≡ s = cc in
    ap (λ (x : Shown). x ∷ []) (sym u)
shown_step g text (v ∷ vs) (suc k) s e = ap (λ (ss : List Shown). shown g text v ∷ ss) (shown_step g text vs k s e)

pub shown_more : (g : FlatGrammar) (text : Bytes) (vs : List VisibleNode) (k : ℕ) (old new : List Shown) (s : Shown) → old ≡ map (shown g text) (take k vs) → option_map (shown g text) (slice_get vs k) ≡ Some s → new ≡ old ++ s ∷ [] → new ≡ map (shown g text) (take (k + 1) vs)
shown_more g text vs k old new s are at is =
    let n : k + 1 ≡ suc k = omega arith in
    is ∙ ap (λ (ss : List Shown). ss ++ s ∷ []) are ∙ shown_step g text vs k s at ∙ ap (λ (m : ℕ). map (shown g text) (take m vs)) (sym n)
