use Rattle.std.proofs.Common.{arith, ◌≡◌, ◌<◌, ◌≤◌, ◌+◌, ◌-◌, ◌∙◌, ap, [], ◌∷◌, None}
use Rattle.spec_trees.specs.Trees.{first_pad, all_spans, all_nodes, greatest_depth}
use Rattle.ts_node.specs.Held.{IsSum}
use Rattle.ts_node.proofs.BodyLemmas.{HasRoom, IsOver, room, over_kept}
use Rattle.ts_node.proofs.make.over_one.Goals as goal

pub summary-summary-requires : goal.summary-summary-requires
summary-summary-requires c =
    let r : HasRoom (c.args.element ∷ []) c.args.children.now.items = room _ _ _ _ _ _ _ c.requires.node in
    let q : IsSum c.args.sums c.args.children.now.items = c.requires.sums in
    let b : c.as_slice.result.now ≡ c.args.children.now.items = c.as_slice.ensures.value in
    let p0 : c.pad_of_first-pad.result ≡ first_pad c.as_slice.result.now = c.pad_of_first-pad.ensures in
    let p : c.pad_of_first-pad.result ≡ first_pad c.args.children.now.items = p0 ∙ ap first_pad b in
    let pad : c.pad_of_first-pad.result ≤ c.args.sums.spans = omega (arith, r.pad, p, q.spans) in
    let short : c.args.sums.spans < 4294967296 = omega (arith, r.short, q.spans) in
    let few : 1 + (1 + c.args.sums.nodes) < 4294967296 = omega (arith, r.few, q.nodes) in
    let shallow : 1 + c.args.sums.depth < 65536 = omega (arith, r.shallow, q.depth) in
    record { pad = pad; short = short; few = few; shallow = shallow }

pub of_one-requires : goal.of_one-requires
of_one-requires c =
    let r : HasRoom (c.args.element ∷ []) c.args.children.now.items = room _ _ _ _ _ _ _ c.requires.node in
    let q : IsSum c.args.sums c.args.children.now.items = c.requires.sums in
    let b : c.as_slice.result.now ≡ c.args.children.now.items = c.as_slice.ensures.value in
    let p0 : c.pad_of_first-pad.result ≡ first_pad c.as_slice.result.now = c.pad_of_first-pad.ensures in
    let p : c.pad_of_first-pad.result ≡ first_pad c.args.children.now.items = p0 ∙ ap first_pad b in
    let d : c.summary-summary.result.depth ≡ 1 + c.args.sums.depth = c.summary-summary.ensures.depth in
    let n : c.summary-summary.result.nodes ≡ 1 + (1 + c.args.sums.nodes) = c.summary-summary.ensures.nodes in
    let x : c.summary-summary.result.pad ≡ c.pad_of_first-pad.result = c.summary-summary.ensures.pad in
    let z : c.summary-summary.result.size ≡ c.args.sums.spans - c.pad_of_first-pad.result = c.summary-summary.ensures.size in
    let d' : c.summary-summary.result.depth ≡ 1 + greatest_depth c.args.children.now.items = omega (arith, d, q.depth) in
    let n' : c.summary-summary.result.nodes ≡ 1 + (1 + all_nodes c.args.children.now.items) = omega (arith, n, q.nodes) in
    let z' : c.summary-summary.result.size ≡ all_spans c.args.children.now.items - first_pad c.args.children.now.items = z ∙ ap (λ s. s - c.pad_of_first-pad.result) q.spans ∙ ap (λ s. all_spans c.args.children.now.items - s) p in
    let o : IsOver c.summary-summary.result c.args.head.symbol c.args.head.dynamic c.args.head.extent c.args.head.state (c.args.element ∷ []) c.args.children.now.items =
    record {
      symbol = c.summary-summary.ensures.symbol;
      depth = d';
      nodes = n';
      pad = x ∙ p;
      size = z';
      extent = c.summary-summary.ensures.extent;
      state = c.summary-summary.ensures.state;
      settled = c.summary-summary.ensures.settled;
      dynamic = c.summary-summary.ensures.dynamic;
      whole = q.whole;
    } in
    record {
      own = c.requires.own;
      wide = omega (arith, r.wide);
      kept = over_kept c.summary-summary.result c.args.head.symbol None c.args.head.dynamic c.args.head.extent c.args.head.state (c.args.element ∷ []) c.args.children.now.items o c.requires.node;
    }
