use Rattle.ts_ojson.specs.Json.{json_of}
use Rattle.ts_grammar_json.specs.Members.{members_json}
use Rattle.ts_grammar_json.proofs.FileLemmas.{rules_give}
use Rattle.ts_grammar_json.proofs.file.rules_object.Goals as goal

pub returns-in-Some : goal.returns-in-Some
returns-in-Some c = rules_give (json_of c.args.value.now) (members_json c.in-Some.members.now) c.counted_rules.result c.in-Some.ensures c.counted_rules.ensures
