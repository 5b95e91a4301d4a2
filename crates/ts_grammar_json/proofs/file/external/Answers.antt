use Rattle.ts_grammar_json.proofs.FileLemmas.{external_gives}
use Rattle.ts_grammar_json.proofs.file.external.Goals as goal

pub returns-in-Some : goal.returns-in-Some
returns-in-Some c = external_gives _ _ c.no_items.result c.in-Some.ensures c.no_items.ensures
