use Rattle.std.proofs.Common.{sym}
use Rattle.ts_grammar_json.proofs.FileLemmas.{nameless, named_on, is_none, is_some}
use Rattle.ts_grammar_json.proofs.file.have_names.Goals as goal

pub returns-then-is_empty : goal.returns-then-is_empty
returns-then-is_empty c =
    sym (nameless c.args.members.now c.loop-member.member-index c.member-item.result c.loop-member-test.true c.member-item.is (is_none _ _ c.is_empty.ensures c.if-is_empty.true) c.loop-member.invariant)

pub loop-member-preserved : goal.loop-member-preserved
loop-member-preserved c =
    named_on c.args.members.now c.loop-member.member-index c.member-item.result c.loop-member-test.true c.member-item.is (is_some _ _ c.is_empty.ensures c.if-is_empty.false) c.loop-member.invariant
