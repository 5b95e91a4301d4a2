use Rattle.std.proofs.Common.{◌≡◌, ◌+◌, Some, None, true, false, sym, subst, arith}
use Rattle.ts_ojson.specs.Machine.{part_ends}
use Rattle.ts_ojson.specs.States.{number}
use Rattle.ts_ojson.specs.Places.{part_there, between, Reaches}
use Rattle.ts_ojson.proofs.PlaceLemmas.{part_here, after_ascii, after_part, between_one, number_more, number_ends, number_stuck}
use Rattle.ts_ojson.proofs.number.number_end.Goals as goal

pub loop-next-init : goal.loop-next-init
loop-next-init c =
    let w = c.args.text.now in
    let from = c.args.from in
    record {
      within = (omega arith, omega (arith, c.requires.within));
      boundary = after_ascii w from c.utf8.text c.requires.within c.requires.ascii;
      reaches = λ k h. subst (λ s. Reaches w (from + 1) (number c.args.first s) k) (sym (between_one w from c.requires.within)) h;
    }

pub loop-next-preserved : goal.loop-next-preserved
loop-next-preserved c =
    let w = c.args.text.now in
    let at = c.loop-next.at in
    let p = c.loop-next.part in
    let is : part_there w at p ≡ Some c.in-Some.next = grind arith in
    let here = part_here w at p c.in-Some.next is in
    let i = c.loop-next.invariant in
    record {
      within = (omega (arith, i.within.0), omega (arith, here.0));
      boundary = after_part w at p c.in-Some.next c.utf8.text is;
      reaches = λ k h. number_more w c.args.from at p c.in-Some.next k (omega (arith, i.within.0)) (i.reaches k h) is;
    }

pub returns-then-may_end-clause-ok : goal.returns-then-may_end-clause-ok
returns-then-may_end-clause-ok c k h =
    let w = c.args.text.now in
    let at = c.loop-next.at in
    let p = c.loop-next.part in
    let none : part_there w at p ≡ None = grind arith in
    let e : part_ends p ≡ true = grind arith in
    number_ends w at p (between w c.args.from at) k none e (c.loop-next.invariant.reaches k h)

pub returns-else-may_end-clause-err : goal.returns-else-may_end-clause-err
returns-else-may_end-clause-err c k h =
    let w = c.args.text.now in
    let at = c.loop-next.at in
    let p = c.loop-next.part in
    let none : part_there w at p ≡ None = grind arith in
    let e : part_ends p ≡ false = grind arith in
    number_stuck w at p (between w c.args.from at) k none e (c.loop-next.invariant.reaches k h)
