use Rattle.std.proofs.Common.{◌∙◌, sym}
use Rattle.ts_grammar_json.proofs.FileLemmas.{named_if_some}
use Rattle.ts_grammar_json.proofs.file.are_named.Goals as goal

pub returns-then-not-is_empty : goal.returns-then-not-is_empty
returns-then-not-is_empty c = c.have_names.ensures ∙ named_if_some c.args.members.now (sym c.is_empty.ensures ∙ c.if-not-is_empty.true)
