use Rattle.ts_ojson.specs.Json.{json_of}
use Rattle.ts_grammar_json.specs.File.{rules_faults, rules_in}
use Rattle.ts_grammar_json.proofs.ListLemmas.{must_gives}
use Rattle.std.proofs.Common.{Some}
use Rattle.ts_grammar_json.proofs.file.rules_member.Goals as goal

pub returns : goal.returns
returns c =
    let j = json_of c.in_ok-value.value.now in
    must_gives c.args.name.now rules_faults rules_in _ j c.in_member.result c.in_ok-value.ensures.ok (c.in_member.ensures (rules_faults j) (rules_in (Some j)) c.rules_object.ensures)
