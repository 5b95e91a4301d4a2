use Rattle.std.proofs.Common.{◌∙◌, ap}
use Rattle.std.proofs.lemmas.List.{drop_all}
use Rattle.ts_ojson.specs.Json.{json_of}
use Rattle.ts_base.specs.Bytes.{Bytes}
use Rattle.ts_grammar_json.specs.Found.{file_of, file_and}
use Rattle.ts_grammar_json.proofs.FoundLemmas.{file_step, file_ends}
use Rattle.ts_grammar_json.proofs.found.FileFound.of.Goals as goal

pub loop-member-preserved : goal.loop-member-preserved
loop-member-preserved c =
    file_step c.args.members.now c.loop-member.member-index c.member-item.result (file_of c.loop-member.found) (file_of c.and-found.result) c.loop-member-test.true c.member-item.is
    (c.and-found.ensures ∙ ap (λ (n : Bytes). file_and (file_of c.loop-member.found) n (json_of c.member-item.result.1)) c.text.ensures) c.loop-member.invariant

pub returns : goal.returns
returns c = file_ends c.args.members.now c.loop-member.member-index (file_of c.loop-member.found) (drop_all c.loop-member.member-index c.args.members.now c.loop-member-test.false) c.loop-member.invariant
