use Rattle.ts_tokens.specs.Paths.{graph_of}
use Rattle.ts_tokens.proofs.PathLemmas.{ranking_more}
use Rattle.ts_tokens.proofs.paths.visit_all.Goals as goal

pub loop-node-preserved : goal.loop-node-preserved
loop-node-preserved c =
    let came = c.in-Some.ensures in
    ranking_more (graph_of c.args.graph.now) c.loop-node.marks c.come_to.new.marks c.loop-node.next c.in-Some.after c.loop-node.node c.loop-node.invariant came.goes came.falls came.done
