use Rattle.std.proofs.Common.{◌≡◌, ◌∙◌, sym, true, false, []}
use Rattle.ts_replay.proofs.LoopLemmas.{first_next, done_still, one_more_done}
use Rattle.ts_replay.proofs.running.take_own.Goals as goal

pub take_step-requires-clause-next : goal.take_step-requires-clause-next
take_step-requires-clause-next g c = c.has_next.ensures.0 c.loop-alloc-test.true

pub loop-alloc-preserved : goal.loop-alloc-preserved
loop-alloc-preserved g c = record {
  lexer = c.take_step.ensures.lexer;
  kept = c.take_step.ensures.kept;
  can = c.take_step.ensures.can;
  count = c.take_step.ensures.count ∙ c.loop-alloc.invariant.count;
  others = λ k other. c.take_step.ensures.others k other ∙ c.loop-alloc.invariant.others k other;
  runs = λ plan openings order at. c.take_step.ensures.runs plan openings order []
      (first_next plan openings order c.args.table.now c.loop-alloc.documents.items c.loop-alloc.clients.items c.args.client
      (done_still c.args.clients.now.items c.loop-alloc.clients.items c.args.client c.requires.before c.loop-alloc.invariant.others)
      (c.loop-alloc.invariant.runs plan openings order at));
}

pub returns-clause-done : goal.returns-clause-done
returns-clause-done g c =
    one_more_done c.loop-alloc.clients.items c.args.client
    (done_still c.args.clients.now.items c.loop-alloc.clients.items c.args.client c.requires.before c.loop-alloc.invariant.others)
    (λ next. let f : true ≡ false = sym (c.has_next.ensures.1 next) ∙ c.loop-alloc-test.false in absurd cc)
