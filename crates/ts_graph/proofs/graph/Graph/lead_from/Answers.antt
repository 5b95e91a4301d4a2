use Rattle.std.proofs.Common.{arith}
use Rattle.ts_graph.proofs.LeadLemmas.{lead_first, lead_on, lead_all}
use Rattle.ts_graph.proofs.graph.Graph.lead_from.Goals as goal

pub loop-link-init : goal.loop-link-init
loop-link-init c = lead_first c.args.self.now.links c.args.links c.args.heads

pub loop-link-preserved : goal.loop-link-preserved
loop-link-preserved c =
    lead_on c.args.self.now.links c.args.links c.args.heads c.loop-link.link c.link.result.above c.loop-link.invariant c.link.ensures.above (let h = c.if-link-heads.false in omega (arith, h))

pub returns : goal.returns
returns c = λ yes. lead_all c.args.self.now.links c.args.links c.args.heads c.loop-link.link (let h = c.loop-link-test.false in let e = c.link_count-link-end.ensures in omega (arith, h, e)) c.loop-link.invariant
