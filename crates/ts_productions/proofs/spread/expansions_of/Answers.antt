use Rattle.ts_productions.proofs.EachLemmas.{all_more, all_ends}
use Rattle.ts_productions.proofs.spread.expansions_of.Goals as goal

pub loop-alternative-preserved : goal.loop-alternative-preserved
loop-alternative-preserved c = record {
  steps = c.in_ok-spread_alternative.ensures.steps;
  found = λ F usable. all_more F c.args.inlined.now c.args.alternatives.now c.loop-alternative.alternative-index c.alternative-item.result c.loop-alternative.growth.found c.spread_alternative.new.growth.found
      c.loop-alternative-test.true c.alternative-item.is usable (c.loop-alternative.invariant.found F usable) (λ here. c.in_ok-spread_alternative.ensures.found F here);
}

pub returns : goal.returns
returns c F usable = all_ends F c.args.alternatives.now c.loop-alternative.alternative-index c.loop-alternative.growth.found c.loop-alternative-test.false (c.loop-alternative.invariant.found F usable)
