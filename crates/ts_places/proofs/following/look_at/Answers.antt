use Rattle.std.proofs.Common.{[]}
use Rattle.ts_places.proofs.AgainLemmas.{led_none}
use Rattle.ts_places.proofs.following.look_at.Goals as goal

pub look_all-requires-clause-count : goal.look_all-requires-clause-count
look_all-requires-clause-count g c = (c.clear.ensures c.args.table.now (g.L.Text.Content.bytes c.args.text.now) c.args.graph.now 0).count

pub returns-clause-sights : goal.returns-clause-sights
returns-clause-sights g c = λ base look sound late stand has. record {
  sound = sound;
  late = late;
  heads = c.args.heads.now;
  sights = c.in_ok-look_all.ensures.sights look [] stand (c.clear.ensures c.args.table.now (g.L.Text.Content.bytes c.args.text.now) c.args.graph.now look) (led_none c.args.table.now (g.L.Text.Content.bytes c.args.text.now) c.args.graph.now _ c.args.room.now c.requires.none);
  all = has;
}
