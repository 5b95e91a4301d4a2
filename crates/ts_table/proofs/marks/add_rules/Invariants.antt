use Rattle.std.proofs.Common.{◌≡◌, ◌++◌, ◌+◌, take}
use Rattle.ts_table.specs.Marks.{seen_marked, marked_rules}
use Rattle.ts_table.proofs.marks.add_rules.Given as goal

abbrev pub invariant-loop-rule : goal.invariant-loop-rule
invariant-loop-rule l = record {
  left : l.left ≡ l.first + l.rule-index;
  all : seen_marked l.productions.items ≡ seen_marked l.initial.productions.items ++ marked_rules l.first (take l.rule-index l.rules);
}
