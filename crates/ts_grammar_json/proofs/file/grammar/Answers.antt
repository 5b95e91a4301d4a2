use Rattle.ts_ojson.specs.Json.{json_of}
use Rattle.ts_grammar_json.proofs.FileLemmas.{gives_grammar, gives_fault, gives_no_grammar, gives_exact}
use Rattle.ts_grammar_json.proofs.file.grammar.Goals as goal

pub returns-clause-ok : goal.returns-clause-ok
returns-clause-ok c = gives_grammar (json_of c.args.json.now) c.file.result c.file.ensures

pub returns-clause-refused : goal.returns-clause-refused
returns-clause-refused c = gives_fault (json_of c.args.json.now) c.file.result c.file.ensures

pub returns-clause-complete : goal.returns-clause-complete
returns-clause-complete c = gives_no_grammar (json_of c.args.json.now) c.file.result c.file.ensures

pub returns-clause-exact : goal.returns-clause-exact
returns-clause-exact c = gives_exact (json_of c.args.json.now) c.file.result c.file.ensures
