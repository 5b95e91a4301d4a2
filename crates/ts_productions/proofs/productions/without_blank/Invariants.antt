use Rattle.std.proofs.Common.{◌≡◌}
use Rattle.std.specs.List.{flat_map}
use Rattle.ts_rules.specs.declared.tree.Alternative.{Alternative}
use Rattle.ts_rules.specs.Productions.{unless_blank}
use Rattle.ts_productions.proofs.productions.without_blank.Given as goal

abbrev pub invariant-loop-alternative : goal.invariant-loop-alternative
invariant-loop-alternative l = l.found ≡ flat_map (λ (p : Alternative). unless_blank p p.steps) l.yielded
