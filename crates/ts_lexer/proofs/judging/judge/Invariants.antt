use Rattle.std.proofs.Common.{List, take}
use Rattle.ts_core.specs.declared.flat.FlatGrammar.{FlatGrammar}
use Rattle.ts_core.specs.declared.symbol.Symbol.{Symbol}
use Rattle.ts_lexer.specs.Rules.{IsRules}
use Rattle.ts_lexer.specs.Views.{IsView}
use Rattle.ts_lexer.specs.Judged.{JudgesNodes}
use Rattle.ts_lexer.proofs.judging.judge.Given as goal

abbrev pub invariant-loop-node : goal.invariant-loop-node
invariant-loop-node l =
    (g : FlatGrammar) (valid : List Symbol) → IsRules g l.rules → IsView g valid l.view
    → JudgesNodes g valid l.first l.automaton (take l.node-index l.members) l.verdict
