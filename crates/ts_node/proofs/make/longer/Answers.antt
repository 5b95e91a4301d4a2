use Rattle.std.proofs.Common.{ℕ, IfOk, arith, rules, ◌≡◌, ◌<◌, ◌≤◌, ◌+◌, ◌-◌, ◌*◌, ◌^◌, ◌++◌, ◌∷◌, ◌∙◌, ap, sym, subst, length, List, [], Option, None, length-append}
use Rattle.std.specs.Int.RustNames.{unsigned_abs}
use Rattle.std.proofs.lemmas.Int.{ints}
use mir.Syntax.{w32, w64}
use mir.Val.{SFits, to_z, of_z}
use lib.IntN.{ℤ, ◌+ℤ◌}
use Rattle.spec_trees.specs.declared.tree.Tree.{Tree}
use Rattle.spec_trees.specs.declared.tree.Element.{Element}
use Rattle.spec_trees.specs.Trees.{all_totals, all_nodes, span_of, total_of, children_of, elements_of}
use Rattle.spec_trees.specs.Made.{node_over, node_limit, element, IsNode}
use Rattle.ts_node.specs.Held.{stretch, IsCount, Tells}
use Rattle.ts_node.specs.Falls.{all_nodes-append}
use Rattle.ts_node.proofs.BodyLemmas.{HasRoom, room}
use Rattle.ts_node.proofs.make.longer.Goals as goal

-- the element has just the children that are counted
own_children : (e : Element) (alternative : ℕ) (d : ℤ) (extent : ℕ) (n : ℕ) (ts : List Tree) → e ≡ element alternative n d extent → n ≡ length ts → e.children ≡ length ts
own_children e alternative d extent n ts is many = ap (λ (x : Element). x.children) is ∙ many

pub counts_of_one-one-requires : goal.counts_of_one-one-requires
counts_of_one-one-requires c =
    let r : HasRoom (elements_of c.args.before ++ element c.args.alternative (length c.args.more.now.items) c.args.entry.dynamic (c.args.extent - span_of c.args.before) ∷ []) (children_of c.args.before ++ c.args.more.now.items) = room _ _ _ _ _ _ _ c.requires.node in
    let n : length c.as_slice.result.now ≡ length c.args.more.now.items = ap (λ (ks : List Tree). length ks) c.as_slice.ensures.value in
    let many : c.len.result ≡ length c.as_slice.result.now = omega (arith, n, c.len.ensures, c.args.more.now.ok) in
    record {
      wide = omega (arith, n, r.wide, length-append (children_of c.args.before) c.args.more.now.items);
      own = own_children c.added-element.result c.args.alternative c.args.entry.dynamic c.bytes_behind-behind.result c.len.result c.as_slice.result.now c.added-element.ensures many;
    }

pub counted_total-others-requires : goal.counted_total-others-requires
counted_total-others-requires c =
    let r : HasRoom (elements_of c.args.before ++ element c.args.alternative (length c.args.more.now.items) c.args.entry.dynamic (c.args.extent - span_of c.args.before) ∷ []) (children_of c.args.before ++ c.args.more.now.items) = room _ _ _ _ _ _ _ c.requires.node in
    let e : all_nodes c.as_slice.result.now ≡ all_nodes c.args.more.now.items = ap all_nodes c.as_slice.ensures.value in
    let g : all_nodes c.as_slice.result.now < node_limit = omega (arith, r.few, e, all_nodes-append (children_of c.args.before) c.args.more.now.items) in
    (stretch (c.added-element.result ∷ []) c.as_slice.result.now, c.counts_of_one-one.ensures, g)

pub plus-total-requires : goal.plus-total-requires
plus-total-requires c =
    let r : HasRoom (elements_of c.args.before ++ element c.args.alternative (length c.args.more.now.items) c.args.entry.dynamic (c.args.extent - span_of c.args.before) ∷ []) (children_of c.args.before ++ c.args.more.now.items) = room _ _ _ _ _ _ _ c.requires.node in
    let b : c.as_slice.result.now ≡ c.args.more.now.items = c.as_slice.ensures.value in
    let e : all_nodes c.as_slice.result.now ≡ all_nodes c.args.more.now.items = ap all_nodes b in
    let t : Tells c.summary-summary.result c.args.before = c.summary-summary.ensures in
    let v : unsigned_abs c.summary-summary.result.dynamic ≡ unsigned_abs (total_of c.args.before) = ap unsigned_abs t.dynamic in
    let m : unsigned_abs c.counted_total-others.result ≤ 2 ^ 31 * all_nodes c.as_slice.result.now = c.counted_total-others.ensures.modest (stretch (c.added-element.result ∷ []) c.as_slice.result.now) c.counts_of_one-one.ensures in
    let f1 : SFits w64 c.summary-summary.result.dynamic = search rules in
    let f2 : SFits w64 c.counted_total-others.result = search rules in
    let z1 : to_z w64 (of_z w64 c.summary-summary.result.dynamic) ≡ c.summary-summary.result.dynamic = omega (arith, ints) in
    let z2 : to_z w64 (of_z w64 c.counted_total-others.result) ≡ c.counted_total-others.result = omega (arith, ints) in
    let g : unsigned_abs c.summary-summary.result.dynamic + unsigned_abs c.counted_total-others.result < 2 ^ 63 = omega (arith, r.few, e, v, m, t.node.modest, t.node.sized.few, all_nodes-append (children_of c.args.before) c.args.more.now.items) in
    rw (z1, z2) g

pub with_value-dynamic-requires : goal.with_value-dynamic-requires
with_value-dynamic-requires c =
    let r : HasRoom (elements_of c.args.before ++ element c.args.alternative (length c.args.more.now.items) c.args.entry.dynamic (c.args.extent - span_of c.args.before) ∷ []) (children_of c.args.before ++ c.args.more.now.items) = room _ _ _ _ _ _ _ c.requires.node in
    let b : c.as_slice.result.now ≡ c.args.more.now.items = c.as_slice.ensures.value in
    let e : all_nodes c.as_slice.result.now ≡ all_nodes c.args.more.now.items = ap all_nodes b in
    let t : Tells c.summary-summary.result c.args.before = c.summary-summary.ensures in
    let v : unsigned_abs c.summary-summary.result.dynamic ≡ unsigned_abs (total_of c.args.before) = ap unsigned_abs t.dynamic in
    let m : unsigned_abs c.counted_total-others.result ≤ 2 ^ 31 * all_nodes c.as_slice.result.now = c.counted_total-others.ensures.modest (stretch (c.added-element.result ∷ []) c.as_slice.result.now) c.counts_of_one-one.ensures in
    let f1 : SFits w64 c.summary-summary.result.dynamic = search rules in
    let f2 : SFits w64 c.counted_total-others.result = search rules in
    let z1 : to_z w64 (of_z w64 c.summary-summary.result.dynamic) ≡ c.summary-summary.result.dynamic = omega (arith, ints) in
    let z2 : to_z w64 (of_z w64 c.counted_total-others.result) ≡ c.counted_total-others.result = omega (arith, ints) in
    let f3 : SFits w64 c.plus-total.result = search rules in
    let z3 : to_z w64 (of_z w64 c.plus-total.result) ≡ c.plus-total.result = omega (arith, ints) in
    let p0 : unsigned_abs c.plus-total.result ≤ unsigned_abs (to_z w64 (of_z w64 c.summary-summary.result.dynamic)) + unsigned_abs (to_z w64 (of_z w64 c.counted_total-others.result)) = c.plus-total.ensures.modest in
    let p : unsigned_abs c.plus-total.result ≤ unsigned_abs c.summary-summary.result.dynamic + unsigned_abs c.counted_total-others.result = rw (z1, z2) at p0 in
    let g : unsigned_abs c.plus-total.result + 2 ^ 31 < 2 ^ 63 = omega (arith, r.few, e, v, m, p, t.node.modest, t.node.sized.few, all_nodes-append (children_of c.args.before) c.args.more.now.items) in
    rw z3 g

pub overflow_cast-len : goal.overflow_cast-len
overflow_cast-len c =
    let r : HasRoom (elements_of c.args.before ++ element c.args.alternative (length c.args.more.now.items) c.args.entry.dynamic (c.args.extent - span_of c.args.before) ∷ []) (children_of c.args.before ++ c.args.more.now.items) = room _ _ _ _ _ _ _ c.requires.node in
    let many : c.len.result ≡ length c.args.more.now.items = omega (arith, c.len.ensures, c.args.more.now.ok) in
    record { fits = omega (arith, many, r.wide, length-append (children_of c.args.before) c.args.more.now.items) }

pub longer_run-requires : goal.longer_run-requires
longer_run-requires c =
    let r : HasRoom (elements_of c.args.before ++ element c.args.alternative (length c.args.more.now.items) c.args.entry.dynamic (c.args.extent - span_of c.args.before) ∷ []) (children_of c.args.before ++ c.args.more.now.items) = room _ _ _ _ _ _ _ c.requires.node in
    record {
      repetition = c.requires.repetition;
      counted = subst (λ (ts : List Tree). IsCount c.counts_of_one-one.result (stretch (c.added-element.result ∷ []) ts)) c.as_slice.ensures.value c.counts_of_one-one.ensures;
      wide = omega (arith, r.wide, length-append (children_of c.args.before) c.args.more.now.items);
      own = let many : c.len.result ≡ length c.args.more.now.items = omega (arith, c.len.ensures, c.args.more.now.ok) in let e : c.added-element.result ≡ element c.args.alternative (length c.args.more.now.items) c.args.entry.dynamic (c.args.extent - span_of c.args.before) = c.added-element.ensures ∙ ap (λ (n : ℕ). element c.args.alternative n c.args.entry.dynamic c.bytes_behind-behind.result) many ∙ ap (λ (n : ℕ). element c.args.alternative (length c.args.more.now.items) c.args.entry.dynamic n) c.bytes_behind-behind.ensures in ap (λ (x : Element). x.children) e;
      fits = omega (arith, r.few, length-append (elements_of c.args.before) (element c.args.alternative (length c.args.more.now.items) c.args.entry.dynamic (c.args.extent - span_of c.args.before) ∷ []));
    }

over_with : (symbol : ℕ) (d d' : ℤ) (extent : ℕ) (state : Option ℕ) (es es' : List Element) (ks ks' : List Tree) → d ≡ d' → es ≡ es' → ks ≡ ks' → IsNode (node_over symbol None d extent state es ks) → IsNode (node_over symbol None d' extent state es' ks')
over_with symbol d d' extent state es es' ks ks' p q r n =
    subst (λ (x : ℤ). IsNode (node_over symbol None x extent state es' ks')) p
    (subst (λ (x : List Element). IsNode (node_over symbol None d extent state x ks')) q
    (subst (λ (x : List Tree). IsNode (node_over symbol None d extent state es x)) r n))

dynamic_is : (value b s t d : ℤ) (ks : List Tree) (old : Tree) → d ≡ value +ℤ t → t ≡ s +ℤ b → s ≡ total_of old → b ≡ all_totals ks → d ≡ value +ℤ (total_of old +ℤ all_totals ks)
dynamic_is value b s t d ks old h i j k = h ∙ ap (λ (x : ℤ). value +ℤ x) (i ∙ ap (λ (x : ℤ). x +ℤ b) j ∙ ap (λ (x : ℤ). total_of old +ℤ x) k)

pub over_run-requires : goal.over_run-requires
over_run-requires c =
    let b : c.as_slice.result.now ≡ c.args.more.now.items = c.as_slice.ensures.value in
    let t : Tells c.summary-summary.result c.args.before = c.summary-summary.ensures in
    let o : c.counted_total-others.result ≡ all_totals c.as_slice.result.now = c.counted_total-others.ensures.total (stretch (c.added-element.result ∷ []) c.as_slice.result.now) c.counts_of_one-one.ensures in
    let f1 : SFits w64 c.summary-summary.result.dynamic = search rules in
    let f2 : SFits w64 c.counted_total-others.result = search rules in
    let z1 : to_z w64 (of_z w64 c.summary-summary.result.dynamic) ≡ c.summary-summary.result.dynamic = omega (arith, ints) in
    let z2 : to_z w64 (of_z w64 c.counted_total-others.result) ≡ c.counted_total-others.result = omega (arith, ints) in
    let f0 : SFits w32 c.args.entry.dynamic = search rules in
    let z0 : to_z w32 (of_z w32 c.args.entry.dynamic) ≡ c.args.entry.dynamic = omega (arith, ints) in
    let f3 : SFits w64 c.plus-total.result = search rules in
    let z3 : to_z w64 (of_z w64 c.plus-total.result) ≡ c.plus-total.result = omega (arith, ints) in
    let v0 : c.with_value-dynamic.result ≡ to_z w32 (of_z w32 c.args.entry.dynamic) +ℤ to_z w64 (of_z w64 c.plus-total.result) = c.with_value-dynamic.ensures in
    let v : c.with_value-dynamic.result ≡ c.args.entry.dynamic +ℤ c.plus-total.result = rw (z0, z3) at v0 in
    let s0 : c.plus-total.result ≡ to_z w64 (of_z w64 c.summary-summary.result.dynamic) +ℤ to_z w64 (of_z w64 c.counted_total-others.result) = c.plus-total.ensures.sum in
    let s : c.plus-total.result ≡ c.summary-summary.result.dynamic +ℤ c.counted_total-others.result = s0 ∙ ap (λ (x : ℤ). x +ℤ to_z w64 (of_z w64 c.counted_total-others.result)) z1 ∙ ap (λ (x : ℤ). c.summary-summary.result.dynamic +ℤ x) z2 in
    let d : c.with_value-dynamic.result ≡ c.args.entry.dynamic +ℤ (total_of c.args.before +ℤ all_totals c.args.more.now.items) =
    dynamic_is c.args.entry.dynamic c.counted_total-others.result c.summary-summary.result.dynamic c.plus-total.result c.with_value-dynamic.result c.args.more.now.items c.args.before v s t.dynamic (o ∙ ap all_totals b) in
    let f4 : SFits w64 c.with_value-dynamic.result = search rules in
    let z4 : to_z w64 (of_z w64 c.with_value-dynamic.result) ≡ c.with_value-dynamic.result = omega (arith, ints) in
    let d4 : to_z w64 (of_z w64 c.with_value-dynamic.result) ≡ c.args.entry.dynamic +ℤ (total_of c.args.before +ℤ all_totals c.args.more.now.items) = z4 ∙ d in
    let many : c.len.result ≡ length c.args.more.now.items = omega (arith, c.len.ensures, c.args.more.now.ok) in
    let e : c.added-element.result ≡ element c.args.alternative (length c.args.more.now.items) c.args.entry.dynamic (c.args.extent - span_of c.args.before) = c.added-element.ensures ∙ ap (λ (n : ℕ). element c.args.alternative n c.args.entry.dynamic c.bytes_behind-behind.result) many ∙ ap (λ (n : ℕ). element c.args.alternative (length c.args.more.now.items) c.args.entry.dynamic n) c.bytes_behind-behind.ensures in
    let es : c.in_ok-run.run'.elements ≡ elements_of c.args.before ++ element c.args.alternative (length c.args.more.now.items) c.args.entry.dynamic (c.args.extent - span_of c.args.before) ∷ [] = c.in_ok-run.ensures.elements ∙ ap (λ (x : Element). elements_of c.args.before ++ x ∷ []) e in
    let ks : c.in_ok-run.run'.children ≡ children_of c.args.before ++ c.args.more.now.items = c.in_ok-run.ensures.children in
    over_with c.args.entry.symbol.0 _ _ c.args.extent c.args.state _ _ _ _ (sym d4) (sym es) (sym ks) c.requires.node

pub returns : goal.returns
returns c =
    let b : c.as_slice.result.now ≡ c.args.more.now.items = c.as_slice.ensures.value in
    let t : Tells c.summary-summary.result c.args.before = c.summary-summary.ensures in
    let o : c.counted_total-others.result ≡ all_totals c.as_slice.result.now = c.counted_total-others.ensures.total (stretch (c.added-element.result ∷ []) c.as_slice.result.now) c.counts_of_one-one.ensures in
    let f1 : SFits w64 c.summary-summary.result.dynamic = search rules in
    let f2 : SFits w64 c.counted_total-others.result = search rules in
    let z1 : to_z w64 (of_z w64 c.summary-summary.result.dynamic) ≡ c.summary-summary.result.dynamic = omega (arith, ints) in
    let z2 : to_z w64 (of_z w64 c.counted_total-others.result) ≡ c.counted_total-others.result = omega (arith, ints) in
    let f0 : SFits w32 c.args.entry.dynamic = search rules in
    let z0 : to_z w32 (of_z w32 c.args.entry.dynamic) ≡ c.args.entry.dynamic = omega (arith, ints) in
    let f3 : SFits w64 c.plus-total.result = search rules in
    let z3 : to_z w64 (of_z w64 c.plus-total.result) ≡ c.plus-total.result = omega (arith, ints) in
    let v0 : c.with_value-dynamic.result ≡ to_z w32 (of_z w32 c.args.entry.dynamic) +ℤ to_z w64 (of_z w64 c.plus-total.result) = c.with_value-dynamic.ensures in
    let v : c.with_value-dynamic.result ≡ c.args.entry.dynamic +ℤ c.plus-total.result = rw (z0, z3) at v0 in
    let s0 : c.plus-total.result ≡ to_z w64 (of_z w64 c.summary-summary.result.dynamic) +ℤ to_z w64 (of_z w64 c.counted_total-others.result) = c.plus-total.ensures.sum in
    let s : c.plus-total.result ≡ c.summary-summary.result.dynamic +ℤ c.counted_total-others.result = s0 ∙ ap (λ (x : ℤ). x +ℤ to_z w64 (of_z w64 c.counted_total-others.result)) z1 ∙ ap (λ (x : ℤ). c.summary-summary.result.dynamic +ℤ x) z2 in
    let d : c.with_value-dynamic.result ≡ c.args.entry.dynamic +ℤ (total_of c.args.before +ℤ all_totals c.args.more.now.items) =
    dynamic_is c.args.entry.dynamic c.counted_total-others.result c.summary-summary.result.dynamic c.plus-total.result c.with_value-dynamic.result c.args.more.now.items c.args.before v s t.dynamic (o ∙ ap all_totals b) in
    let f4 : SFits w64 c.with_value-dynamic.result = search rules in
    let z4 : to_z w64 (of_z w64 c.with_value-dynamic.result) ≡ c.with_value-dynamic.result = omega (arith, ints) in
    let d4 : to_z w64 (of_z w64 c.with_value-dynamic.result) ≡ c.args.entry.dynamic +ℤ (total_of c.args.before +ℤ all_totals c.args.more.now.items) = z4 ∙ d in
    let many : c.len.result ≡ length c.args.more.now.items = omega (arith, c.len.ensures, c.args.more.now.ok) in
    let e : c.added-element.result ≡ element c.args.alternative (length c.args.more.now.items) c.args.entry.dynamic (c.args.extent - span_of c.args.before) = c.added-element.ensures ∙ ap (λ (n : ℕ). element c.args.alternative n c.args.entry.dynamic c.bytes_behind-behind.result) many ∙ ap (λ (n : ℕ). element c.args.alternative (length c.args.more.now.items) c.args.entry.dynamic n) c.bytes_behind-behind.ensures in
    let es : c.in_ok-run.run'.elements ≡ elements_of c.args.before ++ element c.args.alternative (length c.args.more.now.items) c.args.entry.dynamic (c.args.extent - span_of c.args.before) ∷ [] = c.in_ok-run.ensures.elements ∙ ap (λ (x : Element). elements_of c.args.before ++ x ∷ []) e in
    let ks : c.in_ok-run.run'.children ≡ children_of c.args.before ++ c.args.more.now.items = c.in_ok-run.ensures.children in
    subst (λ (x : ℤ). IfOk c.over_run.result (λ node. node ≡ node_over c.args.entry.symbol.0 None x c.args.extent c.args.state (elements_of c.args.before ++ element c.args.alternative (length c.args.more.now.items) c.args.entry.dynamic (c.args.extent - span_of c.args.before) ∷ []) (children_of c.args.before ++ c.args.more.now.items))) d4
    (subst (λ (x : List Element). IfOk c.over_run.result (λ node. node ≡ node_over c.args.entry.symbol.0 None (to_z w64 (of_z w64 c.with_value-dynamic.result)) c.args.extent c.args.state x (children_of c.args.before ++ c.args.more.now.items))) es
    (subst (λ (x : List Tree). IfOk c.over_run.result (λ node. node ≡ node_over c.args.entry.symbol.0 None (to_z w64 (of_z w64 c.with_value-dynamic.result)) c.args.extent c.args.state c.in_ok-run.run'.elements x)) ks c.over_run.ensures))
