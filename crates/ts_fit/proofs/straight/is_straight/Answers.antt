use Rattle.std.proofs.Common.{◌∙◌, sym}
use Rattle.ts_fit.proofs.StraightLemmas.{straight}
use Rattle.ts_fit.proofs.straight.is_straight.Goals as goal

pub returns : goal.returns
returns c yes' = straight c.args.grammar.now c.loop-turn.done.keys c.loop-turn.stack.items (sym c.as_slice.ensures.value ∙ c.is_empty.ensures.0 yes') c.loop-turn.invariant
