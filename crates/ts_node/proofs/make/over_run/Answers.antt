use Rattle.std.proofs.Common.{arith, ◌≡◌, ◌<◌, ◌≤◌, ◌+◌, ◌-◌, ◌∙◌, ap, length, subst, None}
use Rattle.spec_trees.specs.declared.tree.Stretch.{Stretch}
use Rattle.spec_trees.specs.Trees.{first_pad, all_spans, all_nodes, greatest_depth}
use Rattle.ts_node.specs.Held.{IsCount}
use Rattle.ts_node.proofs.BodyLemmas.{HasRoom, IsOver, room, over_kept}
use Rattle.ts_node.proofs.make.over_run.Goals as goal

pub summary-summary-requires : goal.summary-summary-requires
summary-summary-requires c =
    let r : HasRoom c.args.run.elements c.args.run.children = room _ _ _ _ _ _ _ c.requires in
    let a : c.get.result.now ≡ c.args.run = c.get.ensures in
    let q0 : IsCount c.counts-counts.result c.get.result.now = c.counts-counts.ensures in
    let q : IsCount c.counts-counts.result c.args.run = subst (λ (s : Stretch). IsCount c.counts-counts.result s) a q0 in
    let b : c.get-2.result.now ≡ c.args.run = c.get-2.ensures in
    let p0 : c.pad_of_first-pad.result ≡ first_pad c.get-2.result.now.children = c.pad_of_first-pad.ensures in
    let p : c.pad_of_first-pad.result ≡ first_pad c.args.run.children = p0 ∙ ap (λ (s : Stretch). first_pad s.children) b in
    let pad : c.pad_of_first-pad.result ≤ c.counts-counts.result.sums.spans = omega (arith, r.pad, p, q.sums.spans) in
    let short : c.counts-counts.result.sums.spans < 4294967296 = omega (arith, r.short, q.sums.spans) in
    let few : 1 + (c.counts-counts.result.elements + c.counts-counts.result.sums.nodes) < 4294967296 = omega (arith, r.few, q.elements, q.sums.nodes) in
    let shallow : 1 + c.counts-counts.result.sums.depth < 65536 = omega (arith, r.shallow, q.sums.depth) in
    record { pad = pad; short = short; few = few; shallow = shallow }

pub invariant_of-new : goal.invariant_of-new
invariant_of-new c =
    let a : c.get.result.now ≡ c.args.run = c.get.ensures in
    let q0 : IsCount c.counts-counts.result c.get.result.now = c.counts-counts.ensures in
    let q : IsCount c.counts-counts.result c.args.run = subst (λ (s : Stretch). IsCount c.counts-counts.result s) a q0 in
    let b : c.get-2.result.now ≡ c.args.run = c.get-2.ensures in
    let p0 : c.pad_of_first-pad.result ≡ first_pad c.get-2.result.now.children = c.pad_of_first-pad.ensures in
    let p : c.pad_of_first-pad.result ≡ first_pad c.args.run.children = p0 ∙ ap (λ (s : Stretch). first_pad s.children) b in
    let d : c.summary-summary.result.depth ≡ 1 + c.counts-counts.result.sums.depth = c.summary-summary.ensures.depth in
    let n : c.summary-summary.result.nodes ≡ 1 + (c.counts-counts.result.elements + c.counts-counts.result.sums.nodes) = c.summary-summary.ensures.nodes in
    let x : c.summary-summary.result.pad ≡ c.pad_of_first-pad.result = c.summary-summary.ensures.pad in
    let z : c.summary-summary.result.size ≡ c.counts-counts.result.sums.spans - c.pad_of_first-pad.result = c.summary-summary.ensures.size in
    let d' : c.summary-summary.result.depth ≡ 1 + greatest_depth c.args.run.children = omega (arith, d, q.sums.depth) in
    let n' : c.summary-summary.result.nodes ≡ 1 + (length c.args.run.elements + all_nodes c.args.run.children) = omega (arith, n, q.elements, q.sums.nodes) in
    let z' : c.summary-summary.result.size ≡ all_spans c.args.run.children - first_pad c.args.run.children = z ∙ ap (λ s. s - c.pad_of_first-pad.result) q.sums.spans ∙ ap (λ s. all_spans c.args.run.children - s) p in
    let o : IsOver c.summary-summary.result c.args.head.symbol c.args.head.dynamic c.args.head.extent c.args.head.state c.args.run.elements c.args.run.children =
    record {
      symbol = c.summary-summary.ensures.symbol;
      depth = d';
      nodes = n';
      pad = x ∙ p;
      size = z';
      extent = c.summary-summary.ensures.extent;
      state = c.summary-summary.ensures.state;
      settled = c.summary-summary.ensures.settled;
      dynamic = c.summary-summary.ensures.dynamic;
      whole = q.sums.whole;
    } in
    (over_kept c.summary-summary.result c.args.head.symbol None c.args.head.dynamic c.args.head.extent c.args.head.state c.args.run.elements c.args.run.children o c.requires, q.some)
