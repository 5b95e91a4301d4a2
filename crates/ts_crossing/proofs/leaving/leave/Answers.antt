use Rattle.ts_crossing.proofs.LeftLemmas.{layers_both, place_of_head, one_there}
use Rattle.ts_crossing.proofs.leaving.leave.Goals as goal

pub pieces_of-requires : goal.pieces_of-requires
pieces_of-requires c = (c.requires.stack.higher, c.requires.stack.higher_at)

pub take_stack-stacks-requires : goal.take_stack-stacks-requires
take_stack-stacks-requires c = c.requires.stack.foot_low

pub push_all-requires : goal.push_all-requires
push_all-requires c = c.take_stack-stacks.ensures.one

pub returns : goal.returns
returns c = λ s.
    record {
      there = one_there c.push_all.new.stacks c.in_ok-top.top c.in_ok-top.ensures.one;
      one = c.in_ok-top.ensures.one;
      stack = layers_both c.args.graph.now.heads s.higher s.lower s.way _ _ _ s.way_is c.in_ok-top.ensures.stack (c.in_ok-pieces.ensures s.higher s.higher_at) (c.take_stack-stacks.ensures.layers s.lower s.down);
      place = place_of_head c.args.graph.now.heads c.args.head c.head-place.result c.head-place.ensures;
    }
