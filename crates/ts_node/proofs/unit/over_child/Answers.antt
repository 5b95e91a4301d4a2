use Rattle.std.proofs.Common.{ℕ, sym, subst, [], ◌∷◌, Some}
use Rattle.ts_node.specs.Held.{body_tree, IsSummary}
use Rattle.ts_node.proofs.BodyLemmas.{room}
use Rattle.ts_node.proofs.UnitLemmas.{fits_one, over_one}
use Rattle.ts_node.proofs.unit.over_child.Goals as goal

pub summary-summary-requires : goal.summary-summary-requires
summary-summary-requires c =
    let f = fits_one c.args.below c.sums_of-sums.result c.args.child [] c.requires.tells (c.sums_of-sums.ensures c.args.child c.requires.tells) (room _ _ _ _ _ _ _ c.requires.node) in
    record { pad = f.pad; short = f.short; few = f.few; shallow = f.shallow }

pub of_child-requires : goal.of_child-requires
of_child-requires c =
    subst (λ (n : ℕ). IsSummary c.summary-summary.result (body_tree c.summary-summary.result (Some n) [] (c.args.child ∷ []))) (sym c.summary-summary.ensures.production)
    (over_one c.summary-summary.result c.args.below c.sums_of-sums.result c.args.head c.args.number (Some c.args.number) [] c.args.child
    (record {
      symbol = c.summary-summary.ensures.symbol;
      depth = c.summary-summary.ensures.depth;
      nodes = c.summary-summary.ensures.nodes;
      pad = c.summary-summary.ensures.pad;
      size = c.summary-summary.ensures.size;
      extent = c.summary-summary.ensures.extent;
      state = c.summary-summary.ensures.state;
      settled = c.summary-summary.ensures.settled;
      production = c.summary-summary.ensures.production;
      dynamic = c.summary-summary.ensures.dynamic;
    })
    c.requires.tells (c.sums_of-sums.ensures c.args.child c.requires.tells) c.requires.node)
