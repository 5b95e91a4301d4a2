use Rattle.std.proofs.Common.{◌∙◌}
use Rattle.ts_replay.proofs.running.take_rest.Goals as goal

pub loop-client-preserved : goal.loop-client-preserved
loop-client-preserved g c = record {
  lexer = c.take_own.ensures.lexer;
  kept = c.take_own.ensures.kept;
  can = c.take_own.ensures.can;
  count = c.take_own.ensures.count ∙ c.loop-client.invariant.count;
  done = c.take_own.ensures.done;
  runs = λ plan openings order at. c.take_own.ensures.runs plan openings order (c.loop-client.invariant.runs plan openings order at);
}
