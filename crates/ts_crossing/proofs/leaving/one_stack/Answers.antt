use Rattle.ts_crossing.proofs.WayLemmas.{none_from}
use Rattle.ts_crossing.proofs.leaving.one_stack.Goals as goal

pub returns-in-None : goal.returns-in-None
returns-in-None c =
    let r = c.requires.sound in
    none_from c.leave_laws_hold.ensures.keeps c.args.graph.now r.0 r.1 c.args.head c.count.ensures.once c.in-None.ensures

pub links_down-requires-clause-last : goal.links_down-requires-clause-last
links_down-requires-clause-last c = c.in-Some.ensures

pub links_down-requires-clause-sound : goal.links_down-requires-clause-sound
links_down-requires-clause-sound c = c.requires.sound
