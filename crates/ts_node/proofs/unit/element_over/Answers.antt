use Rattle.std.proofs.Common.{[], ◌∷◌, None}
use Rattle.ts_node.proofs.BodyLemmas.{room}
use Rattle.ts_node.proofs.UnitLemmas.{fits_one, over_one}
use Rattle.ts_node.proofs.unit.element_over.Goals as goal

pub summary-summary-requires : goal.summary-summary-requires
summary-summary-requires c =
    let f = fits_one c.args.below c.sums_of-sums.result c.args.child (c.args.element ∷ []) c.requires.tells (c.sums_of-sums.ensures c.args.child c.requires.tells) (room _ _ _ _ _ _ _ c.requires.node) in
    record { pad = f.pad; short = f.short; few = f.few; shallow = f.shallow }

pub single_over-requires-clause-kept : goal.single_over-requires-clause-kept
single_over-requires-clause-kept c =
    over_one c.summary-summary.result c.args.below c.sums_of-sums.result c.args.head 0 (None) (c.args.element ∷ []) c.args.child
    (record {
      symbol = c.summary-summary.ensures.symbol;
      depth = c.summary-summary.ensures.depth;
      nodes = c.summary-summary.ensures.nodes;
      pad = c.summary-summary.ensures.pad;
      size = c.summary-summary.ensures.size;
      extent = c.summary-summary.ensures.extent;
      state = c.summary-summary.ensures.state;
      settled = c.summary-summary.ensures.settled;
      production = c.summary-summary.ensures.production;
      dynamic = c.summary-summary.ensures.dynamic;
    })
    c.requires.tells (c.sums_of-sums.ensures c.args.child c.requires.tells) c.requires.node
