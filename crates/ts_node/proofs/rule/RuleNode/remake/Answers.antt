use Rattle.std.proofs.Common.{arith, ◌≡◌, ◌<◌, ◌+◌, ◌∙◌, ap, sym, length, subst, [], ℕ, List, Some}
use Rattle.spec_trees.specs.declared.tree.Tree.{Tree}
use Rattle.spec_trees.specs.Trees.{all_nodes, greatest_depth, children_of}
use Rattle.spec_trees.specs.Made.{replaced}
use Rattle.ts_node.specs.Held.{body_tree, rule_tree, IsSum, IsSummary}
use Rattle.ts_node.proofs.BodyLemmas.{children_are, few_children}
use Rattle.ts_node.proofs.RemakeLemmas.{HasRoomStill, IsRemade, room_still, all_within, length-replaced, loosened_none, remade_kept, remade_is}
use Rattle.ts_node.proofs.rule.RuleNode.remake.Goals as goal

pub with_changes-requires : goal.with_changes-requires
with_changes-requires c =
    let e : children_of c.args.self.now ≡ c.parts.result.1.now = children_are c.parts.result.0 _ _ _ _ c.parts.ensures.parts in
    all_within _ _ _ (ap (λ (ts : List Tree). length ts) e) c.requires.within

pub sums-requires : goal.sums-requires
sums-requires c =
    let new : c.in_ok-children.children ≡ replaced c.args.changed.now c.parts.result.1.now = c.in_ok-children.ensures in
    let a : c.as_slice.result.now ≡ c.in_ok-children.children = c.as_slice.ensures in
    let e : length c.as_slice.result.now ≡ length c.parts.result.1.now = ap (λ (ts : List Tree). length ts) (a ∙ new) ∙ length-replaced c.args.changed.now c.parts.result.1.now in
    let f : length (children_of c.args.self.now) ≡ length c.parts.result.1.now = ap (λ (ts : List Tree). length ts) (children_are c.parts.result.0 _ _ _ _ c.parts.ensures.parts) in
    let g : length c.as_slice.result.now < 4294967296 = omega (arith, e, f, few_children c.parts.result.0 _ _ _ _ c.parts.ensures.parts c.parts.ensures.kept) in
    g

pub remade-summary-requires : goal.remade-summary-requires
remade-summary-requires c =
    let new : c.in_ok-children.children ≡ replaced c.args.changed.now c.parts.result.1.now = c.in_ok-children.ensures in
    let a : c.as_slice.result.now ≡ c.in_ok-children.children = c.as_slice.ensures in
    let q0 : IsSum c.sums.result c.as_slice.result.now = c.sums.ensures in
    let q : IsSum c.sums.result c.in_ok-children.children = subst (λ (ts : List Tree). IsSum c.sums.result ts) a q0 in
    let r : HasRoomStill [] c.in_ok-children.children =
    room_still c.parts.result.0 (Some c.parts.result.0.production) [] [] c.parts.result.1.now c.in_ok-children.children c.args.self.now c.args.pad c.args.size c.args.changed.now c.args.loose.now c.parts.ensures.parts (sym (loosened_none c.args.loose.now)) new c.requires.node in
    let few : 1 + (0 + c.sums.result.nodes) < 4294967296 = omega (arith, r.few, q.nodes) in
    let shallow : 1 + c.sums.result.depth < 65536 = omega (arith, r.shallow, q.depth) in
    record { few = few; shallow = shallow }

pub new-requires : goal.new-requires
new-requires c =
    let new : c.in_ok-children.children ≡ replaced c.args.changed.now c.parts.result.1.now = c.in_ok-children.ensures in
    let a : c.as_slice.result.now ≡ c.in_ok-children.children = c.as_slice.ensures in
    let q0 : IsSum c.sums.result c.as_slice.result.now = c.sums.ensures in
    let q : IsSum c.sums.result c.in_ok-children.children = subst (λ (ts : List Tree). IsSum c.sums.result ts) a q0 in
    let d : c.remade-summary.result.depth ≡ 1 + c.sums.result.depth = c.remade-summary.ensures.depth in
    let n : c.remade-summary.result.nodes ≡ 1 + (0 + c.sums.result.nodes) = c.remade-summary.ensures.nodes in
    let d' : c.remade-summary.result.depth ≡ 1 + greatest_depth c.in_ok-children.children = omega (arith, d, q.depth) in
    let n' : c.remade-summary.result.nodes ≡ 1 + (0 + all_nodes c.in_ok-children.children) = omega (arith, n, q.nodes) in
    let o : IsRemade c.remade-summary.result c.parts.result.0 c.args.pad c.args.size [] c.in_ok-children.children =
    record {
      symbol = c.remade-summary.ensures.symbol;
      depth = d';
      nodes = n';
      pad = c.remade-summary.ensures.pad;
      size = c.remade-summary.ensures.size;
      extent = c.remade-summary.ensures.extent;
      state = c.remade-summary.ensures.state;
      settled = c.remade-summary.ensures.settled;
      dynamic = c.remade-summary.ensures.dynamic;
      whole = q.whole;
    } in
    let kept : IsSummary c.remade-summary.result (body_tree c.remade-summary.result (Some c.parts.result.0.production) [] c.in_ok-children.children) = remade_kept c.remade-summary.result c.parts.result.0 (Some c.parts.result.0.production) [] [] c.parts.result.1.now c.in_ok-children.children c.args.self.now c.args.pad c.args.size c.args.changed.now c.args.loose.now c.parts.ensures.parts (sym (loosened_none c.args.loose.now)) new o c.requires.node in
    subst (λ (n : ℕ). IsSummary c.remade-summary.result (body_tree c.remade-summary.result (Some n) [] c.in_ok-children.children)) (sym c.remade-summary.ensures.production) kept

pub returns : goal.returns
returns c =
    let new : c.in_ok-children.children ≡ replaced c.args.changed.now c.parts.result.1.now = c.in_ok-children.ensures in
    let a : c.as_slice.result.now ≡ c.in_ok-children.children = c.as_slice.ensures in
    let q0 : IsSum c.sums.result c.as_slice.result.now = c.sums.ensures in
    let q : IsSum c.sums.result c.in_ok-children.children = subst (λ (ts : List Tree). IsSum c.sums.result ts) a q0 in
    let d : c.remade-summary.result.depth ≡ 1 + c.sums.result.depth = c.remade-summary.ensures.depth in
    let n : c.remade-summary.result.nodes ≡ 1 + (0 + c.sums.result.nodes) = c.remade-summary.ensures.nodes in
    let d' : c.remade-summary.result.depth ≡ 1 + greatest_depth c.in_ok-children.children = omega (arith, d, q.depth) in
    let n' : c.remade-summary.result.nodes ≡ 1 + (0 + all_nodes c.in_ok-children.children) = omega (arith, n, q.nodes) in
    let o : IsRemade c.remade-summary.result c.parts.result.0 c.args.pad c.args.size [] c.in_ok-children.children =
    record {
      symbol = c.remade-summary.ensures.symbol;
      depth = d';
      nodes = n';
      pad = c.remade-summary.ensures.pad;
      size = c.remade-summary.ensures.size;
      extent = c.remade-summary.ensures.extent;
      state = c.remade-summary.ensures.state;
      settled = c.remade-summary.ensures.settled;
      dynamic = c.remade-summary.ensures.dynamic;
      whole = q.whole;
    } in
    let e : c.in_ok-rule.rule ≡ rule_tree c.remade-summary.result c.in_ok-children.children = c.in_ok-rule.ensures in
    e ∙ ap (λ (n : ℕ). body_tree c.remade-summary.result (Some n) [] c.in_ok-children.children) c.remade-summary.ensures.production ∙ remade_is c.remade-summary.result c.parts.result.0 (Some c.parts.result.0.production) [] [] c.parts.result.1.now c.in_ok-children.children c.args.self.now c.args.pad c.args.size c.args.changed.now c.args.loose.now c.parts.ensures.parts (sym (loosened_none c.args.loose.now)) new o
