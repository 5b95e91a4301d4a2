use Rattle.ts_places.proofs.HeadLemmas.{state_low, sees_there}
use Rattle.ts_places.proofs.looking.look.Goals as goal

pub lex-requires-clause-made : goal.lex-requires-clause-made
lex-requires-clause-made g c =
    (c.args.table.now, c.requires.made, state_low c.look_laws_hold.ensures c.args.table.now (g.L.Text.Content.bytes c.args.text.now) c.args.graph.now c.requires.sound c.stands.ensures c.args.number c.head-head.result c.head-head.ensures)

pub returns-clause-sees : goal.returns-clause-sees
returns-clause-sees g c = λ look there.
    let low = state_low c.look_laws_hold.ensures c.args.table.now (g.L.Text.Content.bytes c.args.text.now) c.args.graph.now c.requires.sound c.stands.ensures c.args.number c.head-head.result c.head-head.ensures in
    sees_there c.look_laws_hold.ensures c.args.table.now (g.L.Text.Content.bytes c.args.text.now) c.args.graph.now c.requires.sound c.stands.ensures c.args.number c.head-head.result c.head-head.ensures look there c.lex.result
    (c.lex.ensures.answer c.args.table.now c.requires.made low)
