use Rattle.std.proofs.Common.{arith, subst, List}
use Rattle.ts_replies.specs.declared.reply.Reply.{Reply}
use Rattle.spec_history.specs.Printed.{AreReplyLines}
use Rattle.ts_transcript.specs.Told.{AddsLines}
use Rattle.ts_transcript.proofs.PieceLemmas.{add_none, add_more, add_all}
use Rattle.ts_transcript.proofs.told.add_clients.Goals as goal

pub loop-client-init : goal.loop-client-init
loop-client-init c = add_none (λ g. AreReplyLines) c.args.replies.now c.args.out.now.items

pub loop-client-preserved : goal.loop-client-preserved
loop-client-preserved c =
    let before = c.loop-client.out.items in
    let after = c.add_replies.new.out.items in
    let added : AddsLines (λ g. AreReplyLines c.loop-client.client c.index-replies-client.result) before after =
    subst (λ (own : List Reply). AddsLines (λ g. AreReplyLines c.loop-client.client own) before after) c.as_slice.ensures c.in_ok-add_replies.ensures in
    add_more (λ g. AreReplyLines) c.args.replies.now c.loop-client.client c.index-replies-client.result c.args.out.now.items before after
    c.loop-client-test.true c.index-replies-client.is added c.loop-client.invariant

pub returns : goal.returns
returns c = add_all (λ g. AreReplyLines) c.args.replies.now c.loop-client.client c.args.out.now.items c.loop-client.out.items (omega (arith, c.loop-client-test.false)) c.loop-client.invariant
