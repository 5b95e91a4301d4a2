use Rattle.ts_tokens.proofs.TableLemmas.{Read}
use Rattle.ts_tokens.proofs.table.read_all.Given as goal

abbrev pub invariant-loop-pattern : goal.invariant-loop-pattern
invariant-loop-pattern l = Read l.placed l.table l.pattern-index
