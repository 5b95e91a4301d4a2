use Rattle.std.proofs.Common.{◌≡◌, ◌++◌, take}
use Rattle.ts_items.specs.Productions.{seen_all, plain_rule}
use Rattle.ts_items.proofs.plain.add_rule.Given as goal

abbrev pub invariant-loop-production : goal.invariant-loop-production
invariant-loop-production l = seen_all l.productions.items ≡ seen_all l.initial.productions.items ++ plain_rule l.left (take l.production-index l.rule.productions)
