use Rattle.std.proofs.Common.{◌-◌}
use Rattle.ts_search.proofs.ChildLemmas.{Listed}
use Rattle.ts_search.proofs.sight.Sight.children.Given as goal

abbrev pub invariant-loop-m : goal.invariant-loop-m
invariant-loop-m l = Listed l.self.nodes l.fn.n l.m l.past l.children.items

abbrev pub decreases-loop-m : goal.decreases-loop-m
decreases-loop-m l = l.past - l.m
