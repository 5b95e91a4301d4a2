use Rattle.std.proofs.Common.{arith}
use Rattle.ts_numbering.specs.Keys.{trees}
use Rattle.ts_numbering.specs.Numberings.{numbers_of}
use Rattle.ts_rules.specs.Numbers.{tree_of}
use Rattle.ts_flat.proofs.EachLemmas.{mapped_next, mapped_all, content_gives, trees_long}
use Rattle.ts_flat.proofs.trees.content_trees.Goals as goal

pub loop-at-preserved : goal.loop-at-preserved
loop-at-preserved c =
    let f = tree_of (numbers_of c.args.numbering.now) in
    let ts = c.args.contents.now in
    mapped_next f (trees ts) c.loop-at.found.items _ c.loop-at.at c.in_ok-tree.tree (omega (arith, c.loop-at-test.true, trees_long ts))
    (content_gives f ts c.loop-at.at c.index-contents-at.result c.in_ok-tree.tree c.loop-at-test.true c.index-contents-at.is c.in_ok-tree.ensures)
    c.in_ok-push.ensures.items c.loop-at.invariant

pub returns : goal.returns
returns c = mapped_all (tree_of (numbers_of c.args.numbering.now)) (trees c.args.contents.now) c.loop-at.found.items c.loop-at.at (omega (arith, c.loop-at-test.false, trees_long c.args.contents.now)) c.loop-at.invariant
