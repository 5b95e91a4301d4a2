use Rattle.spec_graph.proofs.DueLemmas.{due_laid, due_depth, due_deepest, due_end, due_extras_over}
use Rattle.spec_graph.proofs.BaseLemmas.{ground_base}
use Rattle.spec_graph.proofs.laws.reductions_are_laid.Goals as goal

pub returns-clause-node : goal.returns-clause-node
returns-clause-node c P fit states ground rank heads links graph k number left p h e b outer inner over now end due late low = due_laid P (record { laws = c.laws_hold.ensures; fit = fit; states = states }) (ground_base P (record { laws = c.laws_hold.ensures; fit = fit; states = states }) ground) heads links graph rank k number left p h e b outer inner over now end due late low

pub returns-clause-depth : goal.returns-clause-depth
returns-clause-depth c P fit states ground rank heads links graph k number left p h e b outer inner over now end due = due_depth P (record { laws = c.laws_hold.ensures; fit = fit; states = states }) (ground_base P (record { laws = c.laws_hold.ensures; fit = fit; states = states }) ground) heads links graph rank k number left p h e b outer inner over now end due

pub returns-clause-deepest : goal.returns-clause-deepest
returns-clause-deepest c P fit states met rank heads links graph k number left p h e b outer inner over now end due low = due_deepest P (record { laws = c.laws_hold.ensures; fit = fit; states = states }) met heads links graph rank k number left p h e b outer inner over now end due low

pub returns-clause-extras : goal.returns-clause-extras
returns-clause-extras c P fit states ground rank heads links graph k number left p h e b outer inner over now end due late low above below x is = due_extras_over P (record { laws = c.laws_hold.ensures; fit = fit; states = states }) (ground_base P (record { laws = c.laws_hold.ensures; fit = fit; states = states }) ground) heads links graph rank k number left p h e b outer inner over now end due late low above below x is

pub returns-clause-end : goal.returns-clause-end
returns-clause-end c P fit states ground rank heads links graph k number left p h e b outer inner over now end due late = due_end P (record { laws = c.laws_hold.ensures; fit = fit; states = states }) (ground_base P (record { laws = c.laws_hold.ensures; fit = fit; states = states }) ground) heads links graph rank k number left p h e b outer inner over now end due late
