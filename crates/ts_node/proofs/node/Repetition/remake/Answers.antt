use Rattle.std.proofs.Common.{arith, ◌≡◌, ◌<◌, ◌+◌, ◌∙◌, ap, length, subst, List, None}
use Rattle.spec_trees.specs.declared.tree.Tree.{Tree}
use Rattle.spec_trees.specs.declared.tree.Element.{Element}
use Rattle.spec_trees.specs.declared.tree.Stretch.{Stretch}
use Rattle.spec_trees.specs.Trees.{all_nodes, greatest_depth, children_of, elements_of}
use Rattle.spec_trees.specs.Made.{loosened, replaced}
use Rattle.ts_node.specs.Held.{IsCount, stretch}
use Rattle.ts_node.proofs.BodyLemmas.{children_are, elements_are}
use Rattle.ts_node.proofs.RemakeLemmas.{HasRoomStill, IsRemade, room_still, all_within, all_known, remade_kept, remade_is}
use Rattle.ts_node.proofs.node.Repetition.remake.Goals as goal

pub remade_run-requires : goal.remade_run-requires
remade_run-requires c =
    let e : children_of c.args.self.now ≡ c.self.inside.run.children = children_are c.self.inside.summary _ _ _ _ c.self.view_is in
    let d : elements_of c.args.self.now ≡ c.self.inside.run.elements = elements_are c.self.inside.summary _ _ _ _ c.self.view_is in
    record {
      within = all_within _ _ _ (ap (λ (ts : List Tree). length ts) e) c.requires.within;
      known = all_known _ _ _ (ap (λ (es : List Element). length es) d) c.requires.known;
    }

pub remade-summary-requires : goal.remade-summary-requires
remade-summary-requires c =
    let new : c.in_ok-run.run' ≡ stretch (loosened c.args.loose.now c.self.inside.run.elements) (replaced c.args.changed.now c.self.inside.run.children) = c.in_ok-run.ensures in
    let new_elements : c.in_ok-run.run'.elements ≡ loosened c.args.loose.now c.self.inside.run.elements = ap (λ (s : Stretch). s.elements) new in
    let new_children : c.in_ok-run.run'.children ≡ replaced c.args.changed.now c.self.inside.run.children = ap (λ (s : Stretch). s.children) new in
    let a : c.get.result.now ≡ c.in_ok-run.run' = c.get.ensures in
    let q0 : IsCount c.counts-counts.result c.get.result.now = c.counts-counts.ensures in
    let q : IsCount c.counts-counts.result c.in_ok-run.run' = subst (λ (s : Stretch). IsCount c.counts-counts.result s) a q0 in
    let r : HasRoomStill c.in_ok-run.run'.elements c.in_ok-run.run'.children =
    room_still c.self.inside.summary None c.self.inside.run.elements c.in_ok-run.run'.elements c.self.inside.run.children c.in_ok-run.run'.children c.args.self.now c.args.pad c.args.size c.args.changed.now c.args.loose.now c.self.view_is new_elements new_children c.requires.node in
    let few : 1 + (c.counts-counts.result.elements + c.counts-counts.result.sums.nodes) < 4294967296 = omega (arith, r.few, q.elements, q.sums.nodes) in
    let shallow : 1 + c.counts-counts.result.sums.depth < 65536 = omega (arith, r.shallow, q.sums.depth) in
    record { few = few; shallow = shallow }

pub invariant_of-new : goal.invariant_of-new
invariant_of-new c =
    let new : c.in_ok-run.run' ≡ stretch (loosened c.args.loose.now c.self.inside.run.elements) (replaced c.args.changed.now c.self.inside.run.children) = c.in_ok-run.ensures in
    let new_elements : c.in_ok-run.run'.elements ≡ loosened c.args.loose.now c.self.inside.run.elements = ap (λ (s : Stretch). s.elements) new in
    let new_children : c.in_ok-run.run'.children ≡ replaced c.args.changed.now c.self.inside.run.children = ap (λ (s : Stretch). s.children) new in
    let a : c.get.result.now ≡ c.in_ok-run.run' = c.get.ensures in
    let q0 : IsCount c.counts-counts.result c.get.result.now = c.counts-counts.ensures in
    let q : IsCount c.counts-counts.result c.in_ok-run.run' = subst (λ (s : Stretch). IsCount c.counts-counts.result s) a q0 in
    let d : c.remade-summary.result.depth ≡ 1 + c.counts-counts.result.sums.depth = c.remade-summary.ensures.depth in
    let n : c.remade-summary.result.nodes ≡ 1 + (c.counts-counts.result.elements + c.counts-counts.result.sums.nodes) = c.remade-summary.ensures.nodes in
    let d' : c.remade-summary.result.depth ≡ 1 + greatest_depth c.in_ok-run.run'.children = omega (arith, d, q.sums.depth) in
    let n' : c.remade-summary.result.nodes ≡ 1 + (length c.in_ok-run.run'.elements + all_nodes c.in_ok-run.run'.children) = omega (arith, n, q.elements, q.sums.nodes) in
    let o : IsRemade c.remade-summary.result c.self.inside.summary c.args.pad c.args.size c.in_ok-run.run'.elements c.in_ok-run.run'.children =
    record {
      symbol = c.remade-summary.ensures.symbol;
      depth = d';
      nodes = n';
      pad = c.remade-summary.ensures.pad;
      size = c.remade-summary.ensures.size;
      extent = c.remade-summary.ensures.extent;
      state = c.remade-summary.ensures.state;
      settled = c.remade-summary.ensures.settled;
      dynamic = c.remade-summary.ensures.dynamic;
      whole = q.sums.whole;
    } in
    (remade_kept c.remade-summary.result c.self.inside.summary None c.self.inside.run.elements c.in_ok-run.run'.elements c.self.inside.run.children c.in_ok-run.run'.children c.args.self.now c.args.pad c.args.size c.args.changed.now c.args.loose.now c.self.view_is new_elements new_children o c.requires.node, q.some)

pub returns : goal.returns
returns c =
    let new : c.in_ok-run.run' ≡ stretch (loosened c.args.loose.now c.self.inside.run.elements) (replaced c.args.changed.now c.self.inside.run.children) = c.in_ok-run.ensures in
    let new_elements : c.in_ok-run.run'.elements ≡ loosened c.args.loose.now c.self.inside.run.elements = ap (λ (s : Stretch). s.elements) new in
    let new_children : c.in_ok-run.run'.children ≡ replaced c.args.changed.now c.self.inside.run.children = ap (λ (s : Stretch). s.children) new in
    let a : c.get.result.now ≡ c.in_ok-run.run' = c.get.ensures in
    let q0 : IsCount c.counts-counts.result c.get.result.now = c.counts-counts.ensures in
    let q : IsCount c.counts-counts.result c.in_ok-run.run' = subst (λ (s : Stretch). IsCount c.counts-counts.result s) a q0 in
    let d : c.remade-summary.result.depth ≡ 1 + c.counts-counts.result.sums.depth = c.remade-summary.ensures.depth in
    let n : c.remade-summary.result.nodes ≡ 1 + (c.counts-counts.result.elements + c.counts-counts.result.sums.nodes) = c.remade-summary.ensures.nodes in
    let d' : c.remade-summary.result.depth ≡ 1 + greatest_depth c.in_ok-run.run'.children = omega (arith, d, q.sums.depth) in
    let n' : c.remade-summary.result.nodes ≡ 1 + (length c.in_ok-run.run'.elements + all_nodes c.in_ok-run.run'.children) = omega (arith, n, q.elements, q.sums.nodes) in
    let o : IsRemade c.remade-summary.result c.self.inside.summary c.args.pad c.args.size c.in_ok-run.run'.elements c.in_ok-run.run'.children =
    record {
      symbol = c.remade-summary.ensures.symbol;
      depth = d';
      nodes = n';
      pad = c.remade-summary.ensures.pad;
      size = c.remade-summary.ensures.size;
      extent = c.remade-summary.ensures.extent;
      state = c.remade-summary.ensures.state;
      settled = c.remade-summary.ensures.settled;
      dynamic = c.remade-summary.ensures.dynamic;
      whole = q.sums.whole;
    } in
    let e : c.in_ok-body.body ≡ _ = c.in_ok-body.ensures in
    e ∙ remade_is c.remade-summary.result c.self.inside.summary None c.self.inside.run.elements c.in_ok-run.run'.elements c.self.inside.run.children c.in_ok-run.run'.children c.args.self.now c.args.pad c.args.size c.args.changed.now c.args.loose.now c.self.view_is new_elements new_children o
