use Rattle.ts_places.proofs.AgainLemmas.{again_there}
use Rattle.ts_places.proofs.looking.look_once.Goals as goal

pub returns-in-Some-clause-sees : goal.returns-in-Some-clause-sees
returns-in-Some-clause-sees g c = λ look before there a led.
    again_there c.args.table.now c.stands.ensures (g.L.Text.Content.bytes c.args.text.now) c.args.graph.now c.requires.sound look before c.args.sights.now a c.args.room.now led c.args.number there c.in-Some.lexed c.in-Some.ensures

pub returns-in-None-clause-sees : goal.returns-in-None-clause-sees
returns-in-None-clause-sees g c = λ look before there a led. c.look.ensures.sees look there
