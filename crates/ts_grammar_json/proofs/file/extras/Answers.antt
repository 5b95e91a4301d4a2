use Rattle.ts_ojson.specs.Json.{json_of}
use Rattle.ts_grammar_json.specs.Rules.{array_faults, array_rules}
use Rattle.ts_grammar_json.specs.File.{extras_in}
use Rattle.ts_grammar_json.proofs.ListLemmas.{may_gives, seen_some}
use Rattle.ts_grammar_json.proofs.file.extras.Goals as goal

pub returns-in-Some : goal.returns-in-Some
returns-in-Some c =
    let j = json_of c.in-Some.value.now in
    may_gives c.args.name.now array_faults extras_in _ j c.in_member.result (seen_some c.args.value c.in-Some.value c.in-Some.is)
    (c.in_member.ensures (array_faults j) (array_rules j) c.rule_array.ensures)
