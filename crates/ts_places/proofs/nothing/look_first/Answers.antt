use Rattle.ts_places.proofs.NothingLemmas.{sees_first}
use Rattle.ts_places.proofs.nothing.look_first.Goals as goal

pub lex-requires-clause-made : goal.lex-requires-clause-made
lex-requires-clause-made g c = (c.args.table.now, c.requires.made, c.stands.ensures.some)

pub returns-clause-sees : goal.returns-clause-sees
returns-clause-sees g c =
    sees_first c.look_laws_hold.ensures c.args.table.now c.stands.ensures (g.L.Text.Content.bytes c.args.text.now) c.args.place c.requires.within c.lex.result
    (c.lex.ensures.answer c.args.table.now c.requires.made c.stands.ensures.some)
