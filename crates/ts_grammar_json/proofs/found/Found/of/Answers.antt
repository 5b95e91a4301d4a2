use Rattle.std.proofs.Common.{◌∙◌, ap}
use Rattle.std.proofs.lemmas.List.{drop_all}
use Rattle.ts_ojson.specs.Json.{json_of}
use Rattle.ts_base.specs.Bytes.{Bytes}
use Rattle.ts_grammar_json.specs.Found.{looked_of, looked_and}
use Rattle.ts_grammar_json.proofs.FoundLemmas.{found_step, found_end}
use Rattle.ts_grammar_json.proofs.found.Found.of.Goals as goal

pub loop-member-preserved : goal.loop-member-preserved
loop-member-preserved c =
    found_step c.args.members.now c.loop-member.member-index c.member-item.result (looked_of c.loop-member.found) (looked_of c.and-found.result) c.loop-member-test.true c.member-item.is
    (c.and-found.ensures ∙ ap (λ (n : Bytes). looked_and (looked_of c.loop-member.found) n (json_of c.member-item.result.1)) c.text.ensures) c.loop-member.invariant

pub returns : goal.returns
returns c = found_end c.args.members.now c.loop-member.member-index (looked_of c.loop-member.found) (drop_all c.loop-member.member-index c.args.members.now c.loop-member-test.false) c.loop-member.invariant
