use Rattle.std.proofs.Common.{◌≡◌, ◌++◌, length, map, take}
use Rattle.std.specs.List.{flat_map}
use Rattle.ts_cursor.specs.Numbered.{AreFirstProductions, rule_steps}
use Rattle.ts_cursor.proofs.steps.Steps.new.Given as goal

abbrev pub invariant-loop-rule : goal.invariant-loop-rule
invariant-loop-rule l = record {
  many : length l.firsts.items ≡ l.rule-index;
  each : AreFirstProductions l.rule-items l.firsts.items;
  all : map (λ s. s.now) l.steps.items ≡ flat_map rule_steps (take l.rule-index l.rule-items);
}

abbrev pub invariant-loop-production : goal.invariant-loop-production
invariant-loop-production l =
    map (λ s. s.now) l.steps.items ≡ map (λ s. s.now) l.initial.steps.items ++ map (λ p. p.steps) (take l.production-index l.production-items)
