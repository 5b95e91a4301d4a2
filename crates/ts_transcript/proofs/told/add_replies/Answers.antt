use Rattle.std.proofs.Common.{arith}
use Rattle.ts_transcript.specs.Told.{TellsReply}
use Rattle.ts_transcript.proofs.PieceLemmas.{add_none, add_more, add_all}
use Rattle.ts_transcript.proofs.told.add_replies.Goals as goal

pub loop-step-init : goal.loop-step-init
loop-step-init c = add_none (λ g. TellsReply c.args.client) c.args.replies.now c.args.out.now.items

pub loop-step-preserved : goal.loop-step-preserved
loop-step-preserved c =
    add_more (λ g. TellsReply c.args.client) c.args.replies.now c.loop-step.step c.index-replies-step.result c.args.out.now.items c.loop-step.out.items c.add_reply.new.out.items
    c.loop-step-test.true c.index-replies-step.is c.in_ok-add_reply.ensures c.loop-step.invariant

pub returns : goal.returns
returns c = add_all (λ g. TellsReply c.args.client) c.args.replies.now c.loop-step.step c.args.out.now.items c.loop-step.out.items (omega (arith, c.loop-step-test.false)) c.loop-step.invariant
