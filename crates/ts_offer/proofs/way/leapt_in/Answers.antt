use Rattle.std.proofs.Common.{rules, ◌+◌, ◌≤◌, refl, arith, Fits, w32}
use Rattle.ts_offer.specs.declared.way.Turn.{Turn}
use Rattle.ts_offer.proofs.LeapLemmas.{last_turn}
use Rattle.ts_offer.proofs.way.leapt_in.Goals as goal

pub overflow_sub-passed : goal.overflow_sub-passed
overflow_sub-passed c = omega (arith, c.requires.begun, c.requires.ends)

pub overflow_add-start : goal.overflow_add-start
overflow_add-start c =
    let all : Fits w32 c.args.place = search rules in
    let small : c.args.at + c.offset.result ≤ c.args.place = omega (arith, c.offset.ensures, c.last_by-k.ensures.begins, c.requires.begun, c.requires.ends) in
    record { fits = omega (arith, small, all.fits) }

pub returns : goal.returns
returns c =
    let t : Turn = c.args.turn in
    let s : Turn = record { node = t.node; begins = t.begins; next = c.children_before-next.result; place = c.args.at + c.offset.result } in
    last_turn t s c.args.at c.args.place c.last_by-k.result c.requires.repetition c.nodes.ensures.node.counted c.requires.begun c.requires.ends c.last_by-k.ensures refl refl c.children_before-next.ensures
    (omega (arith, c.if-next-turn.false)) (omega (arith, c.offset.ensures))
