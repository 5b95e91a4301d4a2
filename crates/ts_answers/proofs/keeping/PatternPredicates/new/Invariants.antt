use Rattle.std.proofs.Common.{◌≡◌, All}
use Rattle.ts_answers.proofs.keeping.PatternPredicates.new.Given as goal

abbrev pub invariant-loop : goal.invariant-loop
invariant-loop g l = All (λ rules. (rules.query ≡ l.query) × ((rules.text ≡ l.text) × (rules.hosts ≡ l.hosts))) l.each.items
