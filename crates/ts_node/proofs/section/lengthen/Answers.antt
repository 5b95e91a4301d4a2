use Rattle.std.proofs.Common.{IfOk, arith, rules, ◌≡◌, ◌<◌, ◌+◌, ◌^◌, ◌++◌, ◌∙◌, ℕ, ap, sym, subst, length, List, Option, None, length-append}
use Rattle.std.specs.Int.RustNames.{unsigned_abs}
use Rattle.std.proofs.lemmas.Int.{ints}
use mir.Syntax.{w64}
use mir.Val.{SFits, to_z, of_z}
use lib.IntN.{ℤ, ◌+ℤ◌}
use Rattle.spec_trees.specs.declared.tree.Tree.{Tree}
use Rattle.spec_trees.specs.declared.tree.Element.{Element}
use Rattle.spec_trees.specs.Trees.{all_totals, all_values, all_nodes, symbol_of, total_of, children_of, elements_of}
use Rattle.spec_trees.specs.Made.{node_over, node_limit, IsNode}
use Rattle.ts_node.specs.Held.{Tells}
use Rattle.ts_node.specs.Falls.{all_nodes-append}
use Rattle.ts_node.proofs.BodyLemmas.{HasRoom, room}
use Rattle.ts_node.proofs.section.lengthen.Goals as goal

pub total-more-requires : goal.total-more-requires
total-more-requires c =
    let r : HasRoom (elements_of c.args.before.now ++ c.args.section.now.elements) (children_of c.args.before.now ++ c.args.section.now.children) = room _ _ _ _ _ _ _ c.requires.node in
    let g : length c.args.section.now.elements + all_nodes c.args.section.now.children < node_limit = omega (arith, r.few, length-append (elements_of c.args.before.now) c.args.section.now.elements, all_nodes-append (children_of c.args.before.now) c.args.section.now.children) in
    g

pub plus-dynamic-requires : goal.plus-dynamic-requires
plus-dynamic-requires c =
    let r : HasRoom (elements_of c.args.before.now ++ c.args.section.now.elements) (children_of c.args.before.now ++ c.args.section.now.children) = room _ _ _ _ _ _ _ c.requires.node in
    let t : Tells c.summary-summary.result c.args.before.now = c.summary-summary.ensures in
    let f1 : SFits w64 c.summary-summary.result.dynamic = search rules in
    let f2 : SFits w64 c.total-more.result = search rules in
    let z1 : to_z w64 (of_z w64 c.summary-summary.result.dynamic) ≡ c.summary-summary.result.dynamic = omega (arith, ints) in
    let z2 : to_z w64 (of_z w64 c.total-more.result) ≡ c.total-more.result = omega (arith, ints) in
    let v : unsigned_abs c.summary-summary.result.dynamic ≡ unsigned_abs (total_of c.args.before.now) = ap unsigned_abs t.dynamic in
    let g : unsigned_abs c.summary-summary.result.dynamic + unsigned_abs c.total-more.result < 2 ^ 63 =
    omega (arith, r.few, v, c.total-more.ensures.modest, t.node.modest, t.node.sized.few, length-append (elements_of c.args.before.now) c.args.section.now.elements, all_nodes-append (children_of c.args.before.now) c.args.section.now.children) in
    rw (z1, z2) g

pub joined_run-requires : goal.joined_run-requires
joined_run-requires c =
    let r : HasRoom (elements_of c.args.before.now ++ c.args.section.now.elements) (children_of c.args.before.now ++ c.args.section.now.children) = room _ _ _ _ _ _ _ c.requires.node in
    record {
      repetition = c.requires.repetition;
      fits = omega (arith, r.few, length-append (elements_of c.args.before.now) c.args.section.now.elements);
      wide = omega (arith, r.wide, length-append (children_of c.args.before.now) c.args.section.now.children);
    }

over_with : (symbol sign : ℕ) (d d' : ℤ) (extent : ℕ) (state : Option ℕ) (es es' : List Element) (ks ks' : List Tree) → symbol ≡ sign → d ≡ d' → es ≡ es' → ks ≡ ks' → IsNode (node_over symbol None d extent state es ks) → IsNode (node_over sign None d' extent state es' ks')
over_with symbol sign d d' extent state es es' ks ks' o p q r n =
    subst (λ (x : ℕ). IsNode (node_over x None d' extent state es' ks')) o
    (subst (λ (x : ℤ). IsNode (node_over symbol None x extent state es' ks')) p
    (subst (λ (x : List Element). IsNode (node_over symbol None d extent state x ks')) q
    (subst (λ (x : List Tree). IsNode (node_over symbol None d extent state es x)) r n)))

pub over_run-requires : goal.over_run-requires
over_run-requires c =
    let t : Tells c.summary-summary.result c.args.before.now = c.summary-summary.ensures in
    let f1 : SFits w64 c.summary-summary.result.dynamic = search rules in
    let f2 : SFits w64 c.total-more.result = search rules in
    let z1 : to_z w64 (of_z w64 c.summary-summary.result.dynamic) ≡ c.summary-summary.result.dynamic = omega (arith, ints) in
    let z2 : to_z w64 (of_z w64 c.total-more.result) ≡ c.total-more.result = omega (arith, ints) in
    let s0 : c.plus-dynamic.result ≡ to_z w64 (of_z w64 c.summary-summary.result.dynamic) +ℤ to_z w64 (of_z w64 c.total-more.result) = c.plus-dynamic.ensures.sum in
    let s : c.plus-dynamic.result ≡ c.summary-summary.result.dynamic +ℤ c.total-more.result = rw (z1, z2) at s0 in
    let d : c.plus-dynamic.result ≡ total_of c.args.before.now +ℤ (all_values c.args.section.now.elements +ℤ all_totals c.args.section.now.children) =
    s ∙ ap (λ (x : ℤ). x +ℤ c.total-more.result) t.dynamic ∙ ap (λ (x : ℤ). total_of c.args.before.now +ℤ x) c.total-more.ensures.total in
    let f3 : SFits w64 c.plus-dynamic.result = search rules in
    let z3 : to_z w64 (of_z w64 c.plus-dynamic.result) ≡ c.plus-dynamic.result = omega (arith, ints) in
    let d3 : to_z w64 (of_z w64 c.plus-dynamic.result) ≡ total_of c.args.before.now +ℤ (all_values c.args.section.now.elements +ℤ all_totals c.args.section.now.children) = z3 ∙ d in
    let es : c.in_ok-run.run'.elements ≡ elements_of c.args.before.now ++ c.args.section.now.elements = c.in_ok-run.ensures.elements in
    let ks : c.in_ok-run.run'.children ≡ children_of c.args.before.now ++ c.args.section.now.children = c.in_ok-run.ensures.children in
    over_with (symbol_of c.args.before.now) c.summary-summary.result.symbol.0 _ _ c.args.extent c.args.state _ _ _ _ (sym t.symbol) (sym d3) (sym es) (sym ks) c.requires.node

pub returns : goal.returns
returns c =
    let t : Tells c.summary-summary.result c.args.before.now = c.summary-summary.ensures in
    let f1 : SFits w64 c.summary-summary.result.dynamic = search rules in
    let f2 : SFits w64 c.total-more.result = search rules in
    let z1 : to_z w64 (of_z w64 c.summary-summary.result.dynamic) ≡ c.summary-summary.result.dynamic = omega (arith, ints) in
    let z2 : to_z w64 (of_z w64 c.total-more.result) ≡ c.total-more.result = omega (arith, ints) in
    let s0 : c.plus-dynamic.result ≡ to_z w64 (of_z w64 c.summary-summary.result.dynamic) +ℤ to_z w64 (of_z w64 c.total-more.result) = c.plus-dynamic.ensures.sum in
    let s : c.plus-dynamic.result ≡ c.summary-summary.result.dynamic +ℤ c.total-more.result = rw (z1, z2) at s0 in
    let d : c.plus-dynamic.result ≡ total_of c.args.before.now +ℤ (all_values c.args.section.now.elements +ℤ all_totals c.args.section.now.children) =
    s ∙ ap (λ (x : ℤ). x +ℤ c.total-more.result) t.dynamic ∙ ap (λ (x : ℤ). total_of c.args.before.now +ℤ x) c.total-more.ensures.total in
    let f3 : SFits w64 c.plus-dynamic.result = search rules in
    let z3 : to_z w64 (of_z w64 c.plus-dynamic.result) ≡ c.plus-dynamic.result = omega (arith, ints) in
    let d3 : to_z w64 (of_z w64 c.plus-dynamic.result) ≡ total_of c.args.before.now +ℤ (all_values c.args.section.now.elements +ℤ all_totals c.args.section.now.children) = z3 ∙ d in
    let es : c.in_ok-run.run'.elements ≡ elements_of c.args.before.now ++ c.args.section.now.elements = c.in_ok-run.ensures.elements in
    let ks : c.in_ok-run.run'.children ≡ children_of c.args.before.now ++ c.args.section.now.children = c.in_ok-run.ensures.children in
    subst (λ (x : ℕ). IfOk c.over_run.result (λ node. node ≡ node_over x None (total_of c.args.before.now +ℤ (all_values c.args.section.now.elements +ℤ all_totals c.args.section.now.children)) c.args.extent c.args.state (elements_of c.args.before.now ++ c.args.section.now.elements) (children_of c.args.before.now ++ c.args.section.now.children))) t.symbol
    (subst (λ (x : ℤ). IfOk c.over_run.result (λ node. node ≡ node_over c.summary-summary.result.symbol.0 None x c.args.extent c.args.state (elements_of c.args.before.now ++ c.args.section.now.elements) (children_of c.args.before.now ++ c.args.section.now.children))) d3
    (subst (λ (x : List Element). IfOk c.over_run.result (λ node. node ≡ node_over c.summary-summary.result.symbol.0 None (to_z w64 (of_z w64 c.plus-dynamic.result)) c.args.extent c.args.state x (children_of c.args.before.now ++ c.args.section.now.children))) es
    (subst (λ (x : List Tree). IfOk c.over_run.result (λ node. node ≡ node_over c.summary-summary.result.symbol.0 None (to_z w64 (of_z w64 c.plus-dynamic.result)) c.args.extent c.args.state c.in_ok-run.run'.elements x)) ks c.over_run.ensures)))
