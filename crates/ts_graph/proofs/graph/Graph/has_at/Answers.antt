use Rattle.std.proofs.Common.{◌∙◌, ap, Some}
use Rattle.spec_graph.specs.declared.graph.Head.{Head}
use Rattle.ts_graph.proofs.graph.Graph.has_at.Goals as goal

pub returns-in-Some-clause-own : goal.returns-in-Some-clause-own
returns-in-Some-clause-own c = λ yes. c.in-Some.ensures.0

pub returns-in-Some-clause-at : goal.returns-in-Some-clause-at
returns-in-Some-clause-at c = λ yes. c.in-Some.ensures.1 ∙ ap (λ (h : Head). Some h) (c.is_same.ensures yes)
