use Rattle.std.proofs.Common.{vec_len}
use Rattle.ts_crossing.proofs.LeftLemmas.{pushed_first, pushed_more, pushed_last, piece_less, none_left, one_there}
use Rattle.ts_crossing.proofs.leaving.push_all.Goals as goal

pub loop-piece-init : goal.loop-piece-init
loop-piece-init c = record { one = c.requires; stack = pushed_first c.args.pieces.items c.args.stacks.now c.args.below }

pub push_packed-requires : goal.push_packed-requires
push_packed-requires c = one_there c.loop-piece.stacks c.loop-piece.top c.loop-piece.invariant.one

pub loop-piece-smaller : goal.loop-piece-smaller
loop-piece-smaller c = piece_less c.loop-piece.left.items c.pop.new.self.items c.in-Some.piece c.in-Some.ensures.items

pub loop-piece-preserved : goal.loop-piece-preserved
loop-piece-preserved c = record {
  one = c.in_ok-top.ensures.one c.loop-piece.invariant.one;
  stack = pushed_more c.args.pieces.items c.args.stacks.now c.args.below c.loop-piece.left.items c.pop.new.self.items c.in-Some.piece c.in-Some.ensures.items c.loop-piece.stacks c.loop-piece.top c.loop-piece.invariant.stack c.push_packed.new.self c.in_ok-top.top c.in_ok-top.ensures.head c.in_ok-top.ensures.pushed;
}

pub returns-clause-one : goal.returns-clause-one
returns-clause-one c = c.loop-piece.invariant.one

pub returns-clause-stack : goal.returns-clause-stack
returns-clause-stack c =
    pushed_last c.args.pieces.items c.args.stacks.now c.args.below c.loop-piece.left.items c.loop-piece.stacks c.loop-piece.top
    (none_left c.loop-piece.left.items c.pop.new.self.items (vec_len c.loop-piece.left) c.in_default.ensures.items c.in_default.ensures.cases.0 c.in_default.ensures.rest) c.loop-piece.invariant.stack
