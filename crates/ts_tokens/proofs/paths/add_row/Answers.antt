use Rattle.std.proofs.Common.{refl}
use Rattle.ts_tokens.proofs.BackLemmas.{adds_more}
use Rattle.ts_tokens.proofs.paths.add_row.Goals as goal

pub loop-node-preserved : goal.loop-node-preserved
loop-node-preserved c =
    adds_more c.args.row.now c.loop-node.node-index 0 _ c.args.found.now.keys c.loop-node.found.keys c.insert.new.self.keys c.loop-node-test.true refl c.in_ok-insert.ensures.keys c.loop-node.invariant
