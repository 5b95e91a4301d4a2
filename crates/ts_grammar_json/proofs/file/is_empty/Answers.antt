use Rattle.ts_ojson.specs.Json.{json_of}
use Rattle.ts_grammar_json.proofs.FileLemmas.{empty_array, empty_object}
use Rattle.ts_grammar_json.proofs.file.is_empty.Goals as goal

pub returns-in-Some : goal.returns-in-Some
returns-in-Some c = empty_array (json_of c.args.value.now) c.in-Some.items.now c.is_empty.result c.in-Some.ensures c.is_empty.ensures

pub returns : goal.returns
returns c = empty_object (json_of c.args.value.now) c.in_ok-members.members.now c.is_empty-2.result c.in_ok-members.ensures c.is_empty-2.ensures
