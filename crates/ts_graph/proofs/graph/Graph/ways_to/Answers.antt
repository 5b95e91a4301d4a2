use Rattle.ts_graph.proofs.WayLemmas.{lists_to}
use Rattle.ts_graph.proofs.graph.Graph.ways_to.Goals as goal

pub returns : goal.returns
returns c = lists_to c.args.self.now.heads c.args.self.now.links c.args.head c.args.count c.args.place c.in_ok-ways.ways.items c.in_ok-ways.ensures
