use Rattle.spec_clients.proofs.NextLemmas.{next_served, elsewhere_served, idle_served}
use Rattle.spec_clients.proofs.laws.next_reply_is_served.Goals as goal

pub returns-clause-next : goal.returns-clause-next
returns-clause-next g c plan grammar opening client document steps replies old new turns s r w pass is on few next =
    next_served (g.F.Finder.finds c.args._finder.now) plan grammar opening client document steps replies old new turns w pass next.takes s r is on few next

pub returns-clause-elsewhere : goal.returns-clause-elsewhere
returns-clause-elsewhere g c plan grammar opening client document steps replies k s r w is other =
    elsewhere_served (g.F.Finder.finds c.args._finder.now) plan grammar opening client document steps replies k s r w is other

pub returns-clause-idle : goal.returns-clause-idle
returns-clause-idle g c plan grammar opening client document steps replies old new turns w pass takes none few =
    idle_served (g.F.Finder.finds c.args._finder.now) plan grammar opening client document steps replies old new turns w pass takes none few
