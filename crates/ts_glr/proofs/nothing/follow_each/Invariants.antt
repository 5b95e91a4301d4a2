use Rattle.std.proofs.Common.{length}
use Rattle.ts_glr.specs.Search.{Following}
use Rattle.ts_glr.specs.Weights.{live_weight}
use Rattle.ts_glr.proofs.nothing.follow_each.Given as goal

abbrev pub invariant-loop-head : goal.invariant-loop-head
invariant-loop-head g l = record {
  made : g.L.Tokens.made_for l.lexer l.table;
  follows : Following l.table (g.L.Text.Content.bytes l.text) l.readings.graph l.readings.stuck l.readings.live.items l.readings.best;
}

abbrev pub decreases-loop-head : goal.decreases-loop-head
decreases-loop-head g l = live_weight l.table (length (g.L.Text.Content.bytes l.text)) l.readings.graph l.readings.live.items
