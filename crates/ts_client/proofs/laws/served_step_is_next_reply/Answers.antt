use Rattle.ts_client.proofs.ServeLemmas.{held_serves_next}
use Rattle.ts_client.proofs.laws.served_step_is_next_reply.Goals as goal

pub returns : goal.returns
returns g c = held_serves_next (g.F.Finder.finds c.args._finder.now)
