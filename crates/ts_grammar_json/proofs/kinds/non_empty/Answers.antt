use Rattle.std.proofs.Common.{◌∙◌, sym}
use Rattle.ts_grammar_json.proofs.KindLemmas.{some_if}
use Rattle.ts_grammar_json.proofs.kinds.non_empty.Goals as goal

pub returns-else-is_empty : goal.returns-else-is_empty
returns-else-is_empty c = some_if c.args.items.now (sym c.is_empty.ensures ∙ c.if-is_empty.false)
