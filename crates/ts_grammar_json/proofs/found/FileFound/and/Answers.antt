use Rattle.ts_ojson.specs.Json.{json_of}
use Rattle.ts_grammar_json.specs.Found.{file_of, file_and}
use Rattle.ts_grammar_json.proofs.FoundLemmas.{same_file}
use Rattle.ts_grammar_json.proofs.found.FileFound.and.Goals as goal

pub returns : goal.returns
returns c =
    same_file _ (file_and (file_of c.args.self) c.args.key.now (json_of c.args.value.now))
    c.noted.ensures c.noted-2.ensures c.noted-3.ensures c.noted-4.ensures c.noted-5.ensures c.noted-6.ensures c.noted-7.ensures c.noted-8.ensures c.noted-9.ensures c.noted-10.ensures
