use Rattle.std.proofs.Common.{take}
use Rattle.ts_rules.specs.FirstSights.{Picks}
use Rattle.ts_rules.specs.Numbers.{HasSymbol}
use Rattle.ts_numbering.specs.Keys.{rules_told}
use Rattle.ts_numbering.specs.Surveys.{IsInlinedRule, NamesItsToken}
use Rattle.ts_numbering.proofs.survey.sort.Given as goal

abbrev pub invariant-loop-place : goal.invariant-loop-place
invariant-loop-place l = record {
  rules : Picks (HasSymbol l.grammar) (take l.place l.grammar.rules) (rules_told l.sorted.rules.entries);
  inlined : Picks (IsInlinedRule l.grammar) (take l.place l.grammar.rules) (rules_told l.sorted.inlined.entries);
  named : Picks (NamesItsToken l.grammar) (take l.place l.grammar.rules) (rules_told l.sorted.named.entries);
}
