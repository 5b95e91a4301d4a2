use Rattle.std.proofs.Common.{List, length}
use Rattle.ts_core.specs.declared.flat.FlatGrammar.{FlatGrammar}
use Rattle.ts_core.specs.declared.symbol.Symbol.{Symbol}
use Rattle.ts_lexer.specs.Rules.{IsRules}
use Rattle.ts_lexer.specs.Marks.{AreMarks}
use Rattle.ts_lexer.proofs.MarkLemmas.{NoKeyword}
use Rattle.ts_lexer.proofs.marking.has_keyword.Given as goal

abbrev pub invariant-loop-part : goal.invariant-loop-part
invariant-loop-part l = (g : FlatGrammar) (valid : List Symbol) → IsRules g l.rules → AreMarks (length g.tokens) valid l.marks → NoKeyword g valid l.part
