use Rattle.std.proofs.lemmas.Bool.{ltb-true}
use Rattle.ts_graph.proofs.ListLemmas.{read_there}
use Rattle.ts_graph.proofs.OwnLemmas.{all_past_own}
use Rattle.ts_graph.proofs.graph.Graph.all_past.Goals as goal

pub returns : goal.returns
returns c = λ late.
    let l = read_there c.args.self.now.links c.args.link c.requires in
    all_past_own c.self.inside.stack c.self.inside.base c.self.inside.place c.self.inside.cells.items c.self.invariant.2 c.self.inside.rows.items c.args.self.now c.self.view_is c.self.inside.extras c.self.invariant.1 c.if-self.false c.args.place c.args.wanting c.args.link c.lowest.result l.0 l.1 (c.lowest.ensures.bound l.0 l.1)
    (ltb-true c.args.place c.lowest.result late) c.if-wanting-ne1.false c.lowest.ensures.own
