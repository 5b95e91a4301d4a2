use Rattle.std.proofs.Common.{ap, Option}
use Rattle.std.specs.Option.{option_map_or}
use Rattle.spec_graph.specs.declared.graph.Head.{Head}
use Rattle.ts_graph.proofs.OnlyLemmas.{only_latest}
use Rattle.ts_graph.proofs.graph.Graph.latest_end.Goals as goal

pub returns-in-Some : goal.returns-in-Some
returns-in-Some c =
    let o = c.in-Some.ensures.only in
    only_latest c.args.self.now.heads c.args.self.now.links c.args.head c.args.count c.args.most o.0 c.in-Some.below o.1 c.head.result.place c.at_most.result
    (ap (λ (h : Option Head). option_map_or (λ (x : Head). x.place) h 0) c.head.ensures) c.at_most.ensures
