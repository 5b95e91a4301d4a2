use Rattle.ts_node.proofs.RunLemmas.{CountsFit, counts_fit}
use Rattle.ts_node.proofs.counts.with_one.Goals as goal

pub together-requires : goal.together-requires
together-requires c =
    let w = c.requires in
    let f : CountsFit c.args.counts c.args.one = counts_fit _ _ w.0 w.1 w.2 w.3 w.4 w.5 in
    record {
      elements = f.elements;
      children = f.children;
      values = f.values;
      reach = f.reach;
      nodes = f.nodes;
      spans = f.spans;
      totals = f.totals;
    }

pub returns : goal.returns
returns c s more p q = c.together.ensures s more p q
