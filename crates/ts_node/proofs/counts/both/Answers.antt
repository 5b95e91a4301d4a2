use Rattle.ts_node.proofs.RunLemmas.{CountsFit, counts_fit}
use Rattle.ts_node.proofs.counts.both.Goals as goal

pub together-requires : goal.together-requires
together-requires c =
    let f : CountsFit c.counts-low.result c.counts-high.result = counts_fit _ _ _ _ c.counts-low.ensures c.counts-high.ensures c.requires.fits c.requires.wide in
    record {
      elements = f.elements;
      children = f.children;
      values = f.values;
      reach = f.reach;
      nodes = f.nodes;
      spans = f.spans;
      totals = f.totals;
    }

pub returns-clause-both : goal.returns-clause-both
returns-clause-both c = c.together.ensures _ _ c.counts-low.ensures c.counts-high.ensures
