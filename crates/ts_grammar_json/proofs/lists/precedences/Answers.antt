use Rattle.ts_ojson.specs.Json.{json_of}
use Rattle.ts_grammar_json.specs.Faults.{list}
use Rattle.ts_grammar_json.specs.File.{ranked_faults, ranked_of, list_in, list_of}
use Rattle.ts_grammar_json.proofs.ListLemmas.{may_gives, seen_some}
use Rattle.ts_grammar_json.proofs.lists.precedences.Goals as goal

pub returns-in-Some : goal.returns-in-Some
returns-in-Some c =
    let j = json_of c.in-Some.value.now in
    may_gives c.args.name.now (list (list ranked_faults)) (list_in (list_of ranked_of)) _ j c.in_member.result (seen_some c.args.value c.in-Some.value c.in-Some.is)
    (c.in_member.ensures ((list (list ranked_faults)) j) (list_of (list_of ranked_of) j) c.orderings.ensures)
