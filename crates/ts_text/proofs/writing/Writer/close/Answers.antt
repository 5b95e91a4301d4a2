use Rattle.std.proofs.Common.{◌∙◌}
use Rattle.ts_text.proofs.WriterLemmas.{close_utf8}
use Rattle.ts_text.proofs.writing.Writer.close.Goals as goal

pub push-requires-clause-utf8 : goal.push-requires-clause-utf8
push-requires-clause-utf8 c = close_utf8 c.replace-content.result c.in_ok-content.content (c.in_ok-content.ensures ∙ c.from_string.ensures)
