use Rattle.ts_ojson.specs.Json.{json_of}
use Rattle.ts_grammar_json.specs.Faults.{list}
use Rattle.ts_grammar_json.specs.File.{is_text, text_at, list_in, list_of}
use Rattle.ts_grammar_json.proofs.ListLemmas.{may_gives, seen_some}
use Rattle.ts_grammar_json.proofs.lists.conflicts.Goals as goal

pub returns-in-Some : goal.returns-in-Some
returns-in-Some c =
    let j = json_of c.in-Some.value.now in
    may_gives c.args.name.now (list (list is_text)) (list_in (list_of text_at)) _ j c.in_member.result (seen_some c.args.value c.in-Some.value c.in-Some.is)
    (c.in_member.ensures ((list (list is_text)) j) (list_of (list_of text_at) j) c.groups.ensures)
