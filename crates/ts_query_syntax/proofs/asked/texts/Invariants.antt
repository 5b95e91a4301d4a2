use Rattle.std.proofs.Common.{◌≡◌, take}
use Rattle.ts_query_names.specs.Asking.{texts_in}
use Rattle.ts_query_syntax.specs.Queries.{written_texts}
use Rattle.ts_query_syntax.proofs.asked.texts.Given as goal

abbrev pub invariant-loop-operand : goal.invariant-loop-operand
invariant-loop-operand l = l.found ≡ written_texts (texts_in (take l.operand-index l.operands))
