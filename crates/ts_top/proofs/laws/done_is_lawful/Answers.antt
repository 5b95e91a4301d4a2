use Rattle.ts_top.proofs.HeadlineLemmas.{done_is_lawful}
use Rattle.ts_top.proofs.laws.done_is_lawful.Goals as goal

pub returns : goal.returns
returns g c = done_is_lawful (g.H.Hosts.called c.args.hosts.now) (g.H.Hosts.accepts c.args.hosts.now) c.spelled_once.ensures
