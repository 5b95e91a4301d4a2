use Rattle.ts_graph.proofs.WayLemmas.{lists_all}
use Rattle.ts_graph.proofs.graph.Graph.ways.Goals as goal

pub returns : goal.returns
returns c = lists_all c.args.self.now.heads c.args.self.now.links c.args.head c.args.count c.in_ok-ways.ways.items c.in_ok-ways.ensures
