use Rattle.std.proofs.Common.{◌∙◌, sym}
use Rattle.ts_grammar_json.proofs.KindLemmas.{integer_reads}
use Rattle.ts_grammar_json.proofs.kinds.integer.Goals as goal

pub returns : goal.returns
returns c = c.ok.ensures.value ∙ integer_reads c.args.spelling.now c.parse.result c.parse.ensures.value.0 (sym c.has_plus.ensures ∙ c.if-has_plus.false)
