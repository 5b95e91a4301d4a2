use Rattle.std.proofs.Common.{List}
use Rattle.ts_core.specs.declared.flat.FlatGrammar.{FlatGrammar}
use Rattle.ts_core.specs.declared.symbol.Symbol.{Symbol}
use Rattle.ts_lexer.specs.Rules.{IsRules}
use Rattle.ts_lexer.specs.Views.{IsView}
use Rattle.ts_lexer.proofs.AheadLemmas.{Judging}
use Rattle.ts_lexer.proofs.ahead.verdicts_of.Given as goal

abbrev pub invariant-loop-state : goal.invariant-loop-state
invariant-loop-state l = (g : FlatGrammar) (valid : List Symbol) → IsRules g l.rules → IsView g valid l.view → Judging g valid l.first l.machine l.row.items l.state
