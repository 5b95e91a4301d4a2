use Rattle.std.proofs.Common.{◌≡◌, ◌<◌, ◌≤◌, length, arith, ◌∙◌}
use Rattle.ts_automata.proofs.RegularLemmas.{regular_empty}
use Rattle.ts_automata.proofs.GrowsLemmas.{grows_none, grows_none_of}
use Rattle.ts_automata.proofs.AddLemmas.{set_step, all_begins, all_step, any_begins, any_step, times_step, up_to_step, too_few, enough, star_done, plus_done}
use Rattle.ts_automata.proofs.compile.+compile.Goals as goal

pub add-returns-in-Empty : goal.add-returns-in-Empty
add-returns-in-Empty t c = rw c.in-Empty.is (rw regular_empty (grows_none _ _))

pub add-returns-in_ok-copy-in-Set : goal.add-returns-in_ok-copy-in-Set
add-returns-in_ok-copy-in-Set t c = set_step _ _ _ _ _ _ _ c.in-Set.is (c.in_ok-copy-in-Set.ensures ∙ c.as_slice.ensures) c.put.ensures

pub add_all-loop-i-init : goal.add_all-loop-i-init
add_all-loop-i-init t c = all_begins c.args.parts.now _ _

pub add_all-loop-i-preserved : goal.add_all-loop-i-preserved
add_all-loop-i-preserved t c =
    let low : 0 < c.loop-i.i = omega arith in
    let high : c.loop-i.i ≤ length c.args.parts.now = omega arith in
    all_step c.args.parts.now c.loop-i.i c.index-parts-i.result _ _ _ _ _ _ low high c.index-parts-i.is c.loop-i.invariant c.in_ok-to.ensures

pub add_all-returns : goal.add_all-returns
add_all-returns t c = let start : c.loop-i.i ≡ 0 = omega arith in rw start at c.loop-i.invariant

pub add_any-loop-i-init : goal.add_any-loop-i-init
add_any-loop-i-init t c = any_begins c.args.parts.now _ _ _ _ (rw c.new.ensures at c.in_ok-to.ensures)

pub add_any-loop-i-preserved : goal.add_any-loop-i-preserved
add_any-loop-i-preserved t c =
    let low : 0 < c.loop-i.i = omega arith in
    let high : c.loop-i.i ≤ length c.args.parts.now = omega arith in
    any_step c.args.parts.now c.loop-i.i c.index-parts-i.result _ _ _ _ _ _ _ _ low high c.index-parts-i.is c.loop-i.invariant c.in_ok-part.ensures c.in_ok-to-2.ensures

pub add_any-returns : goal.add_any-returns
add_any-returns t c = let start : c.loop-i.i ≡ 0 = omega arith in rw start at c.loop-i.invariant

pub add_times-loop-done-preserved : goal.add_times-loop-done-preserved
add_times-loop-done-preserved t c = times_step _ _ _ _ _ _ _ _ c.loop-done.invariant c.in_ok-place.ensures

pub add_times-returns : goal.add_times-returns
add_times-returns t c = let all : c.loop-done._done ≡ c.args.count = omega arith in rw all at c.loop-done.invariant

pub add_up_to-loop-done-init : goal.add_up_to-loop-done-init
add_up_to-loop-done-init t c = grows_none_of _ _ _

pub add_up_to-loop-done-preserved : goal.add_up_to-loop-done-preserved
add_up_to-loop-done-preserved t c = up_to_step _ _ _ _ _ _ _ _ _ _ c.loop-done.invariant c.in_ok-part.ensures c.in_ok-place.ensures

pub add_up_to-returns : goal.add_up_to-returns
add_up_to-returns t c = let all : c.loop-done._done ≡ c.args.count = omega arith in rw all at c.loop-done.invariant

pub add_between-returns-in_ok-never : goal.add_between-returns-in_ok-never
add_between-returns-in_ok-never t c = too_few _ _ _ _ _ _ _ _ _ c.if-most-least.true (rw c.new.ensures at c.in_ok-never.ensures) c.add_times.ensures

pub add_between-returns-in_ok-rest : goal.add_between-returns-in_ok-rest
add_between-returns-in_ok-rest t c = enough _ _ _ _ _ _ _ _ _ c.if-most-least.false c.in_ok-rest.ensures c.add_times-else-most-least.ensures

pub add_without_end-returns-then-least-eq0 : goal.add_without_end-returns-then-least-eq0
add_without_end-returns-then-least-eq0 t c = star_done _ _ _ _ _ _ _ _ c.if-least-eq0.true c.in_ok-round.ensures c.in_ok-body.ensures

pub add_without_end-returns-else-least-eq0 : goal.add_without_end-returns-else-least-eq0
add_without_end-returns-else-least-eq0 t c =
    let low : 0 < c.args.least = omega arith in
    plus_done _ _ _ _ _ _ _ _ _ _ low c.in_ok-round.ensures c.in_ok-body.ensures c.add_times.ensures
