use Rattle.std.proofs.Common.{◌≡◌, ◌++◌, take}
use Rattle.ts_table.specs.Marks.{seen_marked, marked_rule}
use Rattle.ts_table.proofs.marks.add_rule.Given as goal

abbrev pub invariant-loop-production : goal.invariant-loop-production
invariant-loop-production l = seen_marked l.productions.items ≡ seen_marked l.initial.productions.items ++ marked_rule l.left (take l.production-index l.rule.productions)
