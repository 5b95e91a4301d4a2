use Rattle.std.proofs.Common.{◌∙◌, sym, refl}
use Rattle.ts_grammar_json.proofs.FileLemmas.{no_externals, some_externals}
use Rattle.ts_grammar_json.proofs.file.no_items.Goals as goal

pub returns-then-is_empty : goal.returns-then-is_empty
returns-then-is_empty c = (no_externals c.args.items.now (sym c.is_empty.ensures ∙ c.if-is_empty.true), refl)

pub returns-else-is_empty : goal.returns-else-is_empty
returns-else-is_empty c = λ other. some_externals c.args.items.now (sym c.is_empty.ensures ∙ c.if-is_empty.false)
