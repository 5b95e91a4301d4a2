use Rattle.ts_ojson.specs.Json.{json_of}
use Rattle.ts_grammar_json.specs.File.{reserved_faults}
use Rattle.ts_grammar_json.proofs.ListLemmas.{may_gives, seen_some}
use Rattle.ts_grammar_json.proofs.file.no_reserved.Goals as goal

pub returns-in-Some : goal.returns-in-Some
returns-in-Some c =
    let j = json_of c.in-Some.value.now in
    may_gives c.args.name.now reserved_faults (λ o. tt) _ j c.in_member.result (seen_some c.args.value c.in-Some.value c.in-Some.is)
    (c.in_member.ensures (reserved_faults j) tt c.reserved.ensures)
