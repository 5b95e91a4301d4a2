use Rattle.ts_reductions.proofs.ClimbLemmas.{call_lay, call_extras, call_done}
use Rattle.ts_reductions.proofs.laying.lay_made.Goals as goal

pub lay-requires : goal.lay-requires
lay-requires c = (c.requires.0, call_lay c.laws_hold.ensures c.requires.0 c.args.graph.now c.args.made.now c.requires.1 _ c.in_ok-try_clone.ensures)

pub lay_extras-requires : goal.lay_extras-requires
lay_extras-requires c = (c.requires.0, call_extras c.laws_hold.ensures c.requires.0 c.args.graph.now c.args.made.now c.requires.1 _ c.in_ok-try_clone.ensures c.lay.new.graph c.in_ok-base.base c.in_ok-base.ensures c.as_slice-extras.result.now c.as_slice-extras.ensures)

pub returns : goal.returns
returns c = λ P can. call_done c.laws_hold.ensures P c.args.graph.now c.args.made.now can _ c.in_ok-try_clone.ensures c.lay.new.graph c.in_ok-base.base c.in_ok-base.ensures c.as_slice-extras.result.now c.as_slice-extras.ensures c.lay_extras.new.graph c.in_ok-lay_extras.ensures
