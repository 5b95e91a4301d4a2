use Rattle.spec_clients.proofs.LawLemmas.{legal, versions}
use Rattle.spec_clients.proofs.laws.joined_work_is_lawful.Goals as goal

pub returns-clause-legal : goal.returns-clause-legal
returns-clause-legal g c = legal (g.F.Finder.finds c.args._finder.now)

pub returns-clause-versions : goal.returns-clause-versions
returns-clause-versions g c = versions (g.F.Finder.finds c.args._finder.now)
