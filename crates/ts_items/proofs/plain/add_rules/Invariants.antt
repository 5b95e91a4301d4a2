use Rattle.std.proofs.Common.{◌≡◌, ◌++◌, ◌+◌, take}
use Rattle.ts_items.specs.Productions.{seen_all, plain_rules}
use Rattle.ts_items.proofs.plain.add_rules.Given as goal

abbrev pub invariant-loop-rule : goal.invariant-loop-rule
invariant-loop-rule l = record {
  left : l.left ≡ l.first + l.rule-index;
  all : seen_all l.productions.items ≡ seen_all l.initial.productions.items ++ plain_rules l.first (take l.rule-index l.rules);
}
