use Rattle.ts_ojson.specs.Json.{json_of}
use Rattle.ts_grammar_json.specs.Members.{members_json}
use Rattle.ts_grammar_json.specs.Found.{file_of}
use Rattle.ts_grammar_json.proofs.FileLemmas.{file_gives}
use Rattle.ts_grammar_json.proofs.file.file.Goals as goal

pub returns-in-Some : goal.returns-in-Some
returns-in-Some c = file_gives (json_of c.args.json.now) (members_json c.in-Some.members.now) (file_of c.of.result) c.read.result c.in-Some.ensures c.of.ensures c.read.ensures
