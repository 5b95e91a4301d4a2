use Rattle.ts_ojson.specs.Json.{json_of}
use Rattle.ts_grammar_json.specs.File.{external_faults}
use Rattle.ts_grammar_json.proofs.ListLemmas.{may_gives, seen_some}
use Rattle.ts_grammar_json.proofs.file.no_externals.Goals as goal

pub returns-in-Some : goal.returns-in-Some
returns-in-Some c =
    let j = json_of c.in-Some.value.now in
    may_gives c.args.name.now external_faults (λ o. tt) _ j c.in_member.result (seen_some c.args.value c.in-Some.value c.in-Some.is)
    (c.in_member.ensures (external_faults j) tt c.external.ensures)
