use Rattle.std.proofs.Common.{arith, refl, sym, subst, [], ◌∷◌, ◌∙◌, ◌+◌, true, false}
use Rattle.std.specs.HashMap.{get}
use Rattle.ts_search.specs.declared.stand.Key.{Key}
use Rattle.ts_search.specs.declared.stand.Stand.{Stand}
use Rattle.ts_search.specs.declared.stand.Wanted.{Wanted}
use Rattle.ts_search.specs.declared.stand.Wanted.TheVariants.{All, Captures, Here}
use Rattle.ts_search.specs.Adding.{FindsMost}
use Rattle.ts_search.specs.Memory.{Begun, Told, WaysOf, key_eq}
use Rattle.ts_search.specs.Steps.{HeadFrom, HeadNone, HeadTaken}
use Rattle.ts_search.proofs.CountedLemmas.{counted_all, counted_more, counted_none, counted_on, counted_part}
use Rattle.ts_search.proofs.GainLemmas.{finds_exact, gains_exact, late}
use Rattle.ts_search.proofs.HeadLemmas.{adds_first, adds_head_none, adds_head_run, adds_no_head, adds_no_run, all_alike, begun_at, below_all, below_more, below_none, below_on, below_part, late_first, like_at, like_exact, no_anchor, no_items, no_rounds, none_first, placed_of, told_all, told_at, told_bare, told_here, up_to_all, up_to_more, up_to_none, up_to_part}
use Rattle.ts_search.proofs.RunLemmas.{not_false, not_true}
use Rattle.ts_search.proofs.MemoLemmas.{as_long, exact_of, memo_later, memo_more, rest_is, shorter, there_now}
use Rattle.ts_search.proofs.PassingLemmas.{kept_tails, next_inside, no_tails, settles_itself}
use Rattle.ts_search.proofs.PlaceLemmas.{none_in_nil}
use Rattle.ts_search.proofs.search.+ways.Goals as goal

pub add_last-returns-then-not-are_rounds-clause-adds : goal.add_last-returns-then-not-are_rounds-clause-adds
add_last-returns-then-not-are_rounds-clause-adds t c =
    gains_exact (HeadTaken c.args.siblings.now c.args.rest.now c.args.at c.args.run) _ _ _ (no_rounds c.args.siblings.now c.args.rest.now c.args.at c.args.run _ (λ h. let t = c.are_rounds.ensures.1 h in let f = c.if-not-are_rounds.true in cc))

pub runs_from-loop-last-preserved : goal.runs_from-loop-last-preserved
runs_from-loop-last-preserved t c = record {
  adds = up_to_more c.args.siblings.now c.args.rest.now c.args.at c.args.first c.loop-last.last _ _ _ _ _ _ _ (c.stops.ensures.goes_on c.if-stops.false) c.loop-last.invariant.adds c.in_ok-add_last.ensures.adds;
  memo = c.in_ok-add_last.ensures.memo;
}

pub runs_from-returns-clause-all : goal.runs_from-returns-clause-all
runs_from-returns-clause-all t c = up_to_all c.args.siblings.now c.args.rest.now c.args.at c.args.first c.loop-last.last c.reach-end.result _ _ _ (omega (arith, c.loop-last-test.false)) c.reach-end.ensures c.loop-last.invariant.adds

pub add_first-returns-then-begins_late-clause-adds : goal.add_first-returns-then-begins_late-clause-adds
add_first-returns-then-begins_late-clause-adds t c =
    gains_exact (HeadFrom c.args.siblings.now c.args.rest.now c.args.at c.args.first) _ _ _ (late_first c.args.siblings.now c.args.rest.now c.args.at c.args.first _ (c.begins_late.ensures.0 c.if-begins_late.true))

pub add_first-returns-then-not-is_anchored-clause-adds : goal.add_first-returns-then-not-is_anchored-clause-adds
add_first-returns-then-not-is_anchored-clause-adds t c =
    gains_exact (HeadFrom c.args.siblings.now c.args.rest.now c.args.at c.args.first) _ _ _ (no_anchor c.args.siblings.now c.args.rest.now c.args.at c.args.first _ (λ h. let t = (rw c.as_slice.ensures at c.is_anchored.ensures).1 h in let f = c.if-not-is_anchored.true in cc))

pub add_first-returns-clause-adds : goal.add_first-returns-clause-adds
add_first-returns-clause-adds t c =
    adds_first c.args.siblings.now c.args.rest.now c.args.at c.args.first _ _ c.in_ok-captures.captures.items c.once_each-kept.result.items _ _ c.in_ok-captures.ensures.all c.once_each-kept.ensures
    (rw c.as_slice-2.ensures.value at c.in_ok-add_placed.ensures)

pub made-returns-in_default-clause-ways : goal.made-returns-in_default-clause-ways
made-returns-in_default-clause-ways t c =
    begun_at c.args.siblings.now c.args.slots.now [] c.args.number c.args.lo c.args.beside c.args.here _ _ c.in_ok-none.none.items (no_items c.args.slots.now c.in_default.ensures.cases)
    (finds_exact (Begun c.args.here c.args.lo (WaysOf c.args.siblings.now [] c.args.number c.args.lo c.args.beside)) _ c.in_ok-none.none.items c.in_ok-none.ensures)

pub made-loop-first-preserved : goal.made-loop-first-preserved
made-loop-first-preserved t c = record {
  low = (let l = c.loop-first.invariant.low in let on = c.next_taken-first-in-loop-first.ensures.0 in omega (arith, l, on));
  adds = below_on c.args.siblings.now c.in-Some.rest.now _ c.args.here (c.loop-first.first + 1) c.next_taken-first-in-loop-first.result _ _ _ c.next_taken-first-in-loop-first.ensures
      (below_more c.args.siblings.now c.in-Some.rest.now _ c.args.here c.loop-first.first _ _ _ _ _ _ _ (c.starts_end-end.ensures.only c.loop-first.first c.loop-first.invariant.low c.loop-first-test.true)
      (c.stops.ensures.goes_on c.if-stops.false) c.loop-first.invariant.adds c.in_ok-add_first.ensures.adds);
  memo = c.in_ok-add_first.ensures.memo;
}

pub made-returns-clause-ways : goal.made-returns-clause-ways
made-returns-clause-ways t c =
    let at : Stand = record { slot = c.in-Some.slot.now; number = c.args.number; lo = c.args.lo; beside = c.args.beside } in
    begun_at c.args.siblings.now c.args.slots.now (c.in-Some.slot.now ∷ c.in-Some.rest.now) c.args.number c.args.lo c.args.beside c.args.here _ _ c.loop-first.out.items c.in-Some.ensures.cases.0
    (below_all c.args.siblings.now c.in-Some.rest.now at c.args.here c.loop-first.first c.starts_end-end.result _ _ c.loop-first.out.items c.loop-first-test.false c.starts_end-end.ensures.all c.loop-first.invariant.adds)

pub told-returns-in_ok-found-in-Here-clause-ways : goal.told-returns-in_ok-found-in-Here-clause-ways
told-returns-in_ok-found-in-Here-clause-ways t c =
    told_at c.args.lo (WaysOf c.args.siblings.now c.args.slots.now c.args.number c.args.lo c.args.beside) _ _ c.in_ok-found-in-Here.found.items c.args.wanted Here c.in-Here.is
    (told_here c.args.lo (WaysOf c.args.siblings.now c.args.slots.now c.args.number c.args.lo c.args.beside) _ _ c.in_ok-found-in-Here.found.items c.in_ok-found-in-Here.ensures.ways)

pub told-returns-in_ok-ways-in-Captures-clause-ways : goal.told-returns-in_ok-ways-in-Captures-clause-ways
told-returns-in_ok-ways-in-Captures-clause-ways t c =
    told_at c.args.lo (WaysOf c.args.siblings.now c.args.slots.now c.args.number c.args.lo c.args.beside) _ _ c.in_ok-ways-in-Captures.ways.items c.args.wanted Captures c.in-Captures.is
    (told_bare c.args.lo (WaysOf c.args.siblings.now c.args.slots.now c.args.number c.args.lo c.args.beside) _ _ c.in_ok-found-in-Captures.found.items c.in_ok-ways-in-Captures.ways.items c.in_ok-found-in-Captures.ensures.ways c.in_ok-ways-in-Captures.ensures)

pub add_first-returns-then-not-begins-clause-adds : goal.add_first-returns-then-not-begins-clause-adds
add_first-returns-then-not-begins-clause-adds t c =
    gains_exact (HeadFrom c.args.siblings.now c.args.rest.now c.args.at c.args.first) _ _ _ (none_first c.args.siblings.now c.args.rest.now c.args.at c.args.first _ (λ h. let t = c.begins.ensures.1 h in let f = c.if-not-begins.true in cc))

pub add_at-returns-clause-memo : goal.add_at-returns-clause-memo
add_at-returns-clause-memo t c =
    memo_later c.args.siblings.now c.args.all.now _ _ _ (λ e. c.in_ok-fronts.ensures.earlier (c.in_ok-add_runs.ensures.earlier e)) c.in_ok-fill.ensures.memo

pub runs_from-loop-last-init : goal.runs_from-loop-last-init
runs_from-loop-last-init t c = record {
  adds = up_to_none c.args.siblings.now c.args.rest.now c.args.at c.args.first _ c.new-out.result.items c.new-out.ensures.items;
  memo = c.requires.memo;
}

pub runs_from-returns-then-stops-clause-all : goal.runs_from-returns-then-stops-clause-all
runs_from-returns-then-stops-clause-all t c = up_to_part c.args.siblings.now c.args.rest.now c.args.at c.args.first c.loop-last.last _ _ _ _ (c.stops.ensures.stops c.if-stops.true) c.loop-last.invariant.adds

pub runs_from-returns-then-stops-clause-memo : goal.runs_from-returns-then-stops-clause-memo
runs_from-returns-then-stops-clause-memo t c =
    memo_later c.args.siblings.now c.args.all.now _ _ _ (late _ _ (c.stops.ensures.stops c.if-stops.true)) c.loop-last.invariant.memo

pub add_nothing-returns-then-not-at-clause-adds : goal.add_nothing-returns-then-not-at-clause-adds
add_nothing-returns-then-not-at-clause-adds t c =
    gains_exact (HeadNone c.args.siblings.now c.args.rest.now c.args.at c.args.here) _ _ _ (adds_no_head c.args.siblings.now c.args.rest.now c.args.at c.args.here _ (not_true c.args.at.slot.optional c.if-not-at.true))

pub made-loop-first-init : goal.made-loop-first-init
made-loop-first-init t c = record {
  low = c.next_taken-first.ensures.0;
  adds = below_on c.args.siblings.now c.in-Some.rest.now _ c.args.here c.args.lo c.next_taken-first.result _ _ _ c.next_taken-first.ensures
      (below_none c.args.siblings.now c.in-Some.rest.now _ c.args.here _ _ c.new-out.result.items _ c.new-out.ensures.items c.in_ok-add_nothing.ensures.adds);
  memo = c.in_ok-add_nothing.ensures.memo;
}

pub made-loop-first-smaller : goal.made-loop-first-smaller
made-loop-first-smaller t c = let on = c.next_taken-first-in-loop-first.ensures.0 in omega (arith, c.loop-first-test.true, on)

pub made-returns-then-stops-clause-ways : goal.made-returns-then-stops-clause-ways
made-returns-then-stops-clause-ways t c =
    let at : Stand = record { slot = c.in-Some.slot.now; number = c.args.number; lo = c.args.lo; beside = c.args.beside } in
    begun_at c.args.siblings.now c.args.slots.now (c.in-Some.slot.now ∷ c.in-Some.rest.now) c.args.number c.args.lo c.args.beside c.args.here _ _ c.loop-first.out.items c.in-Some.ensures.cases.0
    (below_part c.args.siblings.now c.in-Some.rest.now at c.args.here c.loop-first.first _ _ _ c.loop-first.out.items (c.stops.ensures.stops c.if-stops.true) c.loop-first.invariant.adds)

pub made-returns-then-stops-clause-memo : goal.made-returns-then-stops-clause-memo
made-returns-then-stops-clause-memo t c =
    memo_later c.args.siblings.now c.args.all.now _ _ _ (late _ _ (c.stops.ensures.stops c.if-stops.true)) c.loop-first.invariant.memo

pub told-returns-in_ok-found-in-All-clause-ways : goal.told-returns-in_ok-found-in-All-clause-ways
told-returns-in_ok-found-in-All-clause-ways t c =
    told_at c.args.lo (WaysOf c.args.siblings.now c.args.slots.now c.args.number c.args.lo c.args.beside) _ _ c.in_ok-found-in-All.found.items c.args.wanted All c.in-All.is
    (told_all c.args.lo (WaysOf c.args.siblings.now c.args.slots.now c.args.number c.args.lo c.args.beside) _ _ c.in_ok-found-in-All.found.items c.in_ok-found-in-All.ensures.ways)

pub add_at-settled-requires : goal.add_at-settled-requires
add_at-settled-requires t c = omega (arith, c.requires.inside)

pub add_at-fill-requires : goal.add_at-fill-requires
add_at-fill-requires t c = (
  omega (arith, shorter c.args.all.now c.args.rest.now (c.args.at.number + 1) c.in-Some.key.number c.requires.rest c.in-Some.ensures.later),
  (c.in-Some.ensures.inside, (c.requires.few, c.requires.memo)),
)

pub add_at-kept-tails-requires : goal.add_at-kept-tails-requires
add_at-kept-tails-requires t c = c.in_ok-fill.ensures.there

pub add_at-returns-in_default-clause-adds : goal.add_at-returns-in_default-clause-adds
add_at-returns-in_default-clause-adds t c =
    let asked : Key = record { number = c.args.at.number + 1; lo = c.args.run.past; beside = true; wanted = c.wanted_after-wanted.result } in
    adds_no_run c.args.siblings.now c.args.rest.now c.args.at c.args.run c.wanted_after-wanted.result c.wanted_after-wanted.ensures _ _ []
    (no_tails c.args.siblings.now c.args.all.now c.args.rest.now asked c.requires.rest c.in_default.ensures _) c.requires.place _ (λ h. none_in_nil h.0 h.1)

pub add_at-returns-then-not-any_stays-clause-adds : goal.add_at-returns-then-not-any_stays-clause-adds
add_at-returns-then-not-any_stays-clause-adds t c =
    let asked : Key = record { number = c.args.at.number + 1; lo = c.args.run.past; beside = true; wanted = c.wanted_after-wanted.result } in
    adds_no_run c.args.siblings.now c.args.rest.now c.args.at c.args.run c.wanted_after-wanted.result c.wanted_after-wanted.ensures _ _ c.kept-tails.result.now
    (kept_tails c.args.siblings.now c.args.all.now c.args.rest.now asked c.in-Some.key c.requires.rest c.in-Some.ensures _ _ (get key_eq c.fill.new.memo) c.in_ok-fill.ensures.memo c.in_ok-fill.ensures.earlier c.kept-tails.result.now
    c.kept-tails.ensures)
    c.requires.place _ (λ h. let y = c.any_stays.ensures.1 h in let f = c.if-not-any_stays.true in cc)

pub add_at-returns-clause-adds : goal.add_at-returns-clause-adds
add_at-returns-clause-adds t c =
    let asked : Key = record { number = c.args.at.number + 1; lo = c.args.run.past; beside = true; wanted = c.wanted_after-wanted.result } in
    adds_head_run c.args.siblings.now c.args.rest.now c.args.at c.args.run c.wanted_after-wanted.result c.wanted_after-wanted.ensures _ _ c.kept-tails.result.now
    (kept_tails c.args.siblings.now c.args.all.now c.args.rest.now asked c.in-Some.key c.requires.rest c.in-Some.ensures _ _ (get key_eq c.fill.new.memo) c.in_ok-fill.ensures.memo c.in_ok-fill.ensures.earlier c.kept-tails.result.now
    c.kept-tails.ensures)
    c.requires.place _ _ c.in_ok-fronts.fronts.items _ _ (rw c.as_slice.ensures at c.in_ok-fronts.ensures) (rw c.as_slice-2.ensures.value at c.in_ok-add_runs.ensures)

pub runs_from-add_last-requires : goal.runs_from-add_last-requires
runs_from-add_last-requires t c = (
  omega arith,
  (
    λ rounds. placed_of c.args.siblings.now c.args.rest.now c.args.at c.args.first c.loop-last.last c.reach-end.result c.requires.after c.loop-last.auto.last c.loop-last-test.true c.reach-end.ensures
        c.requires.anchored rounds,
    (
      omega (arith, c.loop-last.auto.last),
      (
        c.requires.inside,
        (c.requires.few, (c.requires.rest, memo_later c.args.siblings.now c.args.all.now _ _ _ (λ e. sym (c.stops.ensures.goes_on c.if-stops.false) ∙ e) c.loop-last.invariant.memo)),
      ),
    ),
  ),
)

pub add_first-runs_from-requires : goal.add_first-runs_from-requires
add_first-runs_from-requires t c = (
  omega arith,
  (c.requires.after, ((rw c.as_slice.ensures at c.is_anchored.ensures).0 c.if-not-is_anchored.false, (c.requires.inside, (c.requires.few, (c.requires.rest, c.requires.memo))))),
)

pub add_nothing-fill-requires : goal.add_nothing-fill-requires
add_nothing-fill-requires t c = (
  omega (arith, shorter c.args.all.now c.args.rest.now (c.args.at.number + 1) (c.args.at.number + 1) c.requires.rest (omega arith)),
  (omega (arith, c.requires.inside), (c.requires.few, c.requires.memo)),
)

pub add_nothing-kept-tails-requires : goal.add_nothing-kept-tails-requires
add_nothing-kept-tails-requires t c = c.in_ok-fill.ensures.there

pub add_nothing-returns-clause-adds : goal.add_nothing-returns-clause-adds
add_nothing-returns-clause-adds t c =
    let key : Key = record { number = c.args.at.number + 1; lo = c.args.at.lo; beside = false; wanted = c.begun-wanted.result } in
    let kept = kept_tails c.args.siblings.now c.args.all.now c.args.rest.now key key c.requires.rest (settles_itself c.args.siblings.now c.args.all.now key (omega (arith, c.requires.inside))) c.args.limit.now.cut c.fill.new.limit.cut
    (get key_eq c.fill.new.memo) c.in_ok-fill.ensures.memo c.in_ok-fill.ensures.earlier c.kept-tails.result.now c.kept-tails.ensures in
    adds_head_none c.args.siblings.now c.args.rest.now c.args.at c.args.here _ _ c.kept-tails.result.now _ _
    (subst (λ (w : Wanted). FindsMost (Told w c.args.at.lo (WaysOf c.args.siblings.now c.args.rest.now (c.args.at.number + 1) c.args.at.lo false)) c.args.limit.now.cut c.fill.new.limit.cut c.kept-tails.result.now) c.begun-wanted.ensures kept)
    (not_false c.args.at.slot.optional c.if-not-at.false) c.in_ok-add_nones.ensures

pub made-add_nothing-requires : goal.made-add_nothing-requires
made-add_nothing-requires t c = (
  omega (arith, c.in-Some.ensures.cases.1),
  (
    next_inside c.args.all.now c.in-Some.rest.now c.in-Some.slot.now c.args.number (sym c.requires.slots ∙ c.in-Some.ensures.cases.0),
    (c.requires.few, (rest_is c.args.all.now c.args.slots.now c.in-Some.rest.now c.in-Some.slot.now c.args.number c.requires.slots c.in-Some.ensures.cases.0, c.requires.memo)),
  ),
)

pub made-add_first-requires : goal.made-add_first-requires
made-add_first-requires t c = (
  omega (arith, c.in-Some.ensures.cases.1),
  (
    c.loop-first.invariant.low,
    (
      next_inside c.args.all.now c.in-Some.rest.now c.in-Some.slot.now c.args.number (sym c.requires.slots ∙ c.in-Some.ensures.cases.0),
      (
        c.requires.few,
        (
          rest_is c.args.all.now c.args.slots.now c.in-Some.rest.now c.in-Some.slot.now c.args.number c.requires.slots c.in-Some.ensures.cases.0,
          memo_later c.args.siblings.now c.args.all.now _ _ _ (λ e. sym (c.stops.ensures.goes_on c.if-stops.false) ∙ e) c.loop-first.invariant.memo,
        ),
      ),
    ),
  ),
)

pub fill-told-requires : goal.fill-told-requires
fill-told-requires t c = (
  omega (arith, as_long c.args.all.now c.from_number-slots.result.now c.args.key.number c.from_number-slots.ensures),
  (c.requires.few, (c.from_number-slots.ensures, c.requires.memo)),
)

pub fill-returns-clause-there : goal.fill-returns-clause-there
fill-returns-clause-there t c = there_now (get key_eq c.told.new.memo) (get key_eq c.remember.new.memo) c.args.key c.in_ok-found.found.items c.in_ok-remember.ensures.0

pub fill-returns-clause-earlier : goal.fill-returns-clause-earlier
fill-returns-clause-earlier t c = c.in_ok-found.ensures.ways.earlier

pub fill-returns-clause-memo : goal.fill-returns-clause-memo
fill-returns-clause-memo t c =
    memo_more c.args.siblings.now c.args.all.now c.args.limit.now.cut c.told.new.limit.cut (get key_eq c.told.new.memo) (get key_eq c.remember.new.memo) c.args.key c.in_ok-found.found.items c.in_ok-remember.ensures.0
    (exact_of c.args.siblings.now c.args.all.now c.from_number-slots.result.now c.args.key c.args.limit.now.cut c.told.new.limit.cut c.in_ok-found.found.items c.from_number-slots.ensures c.in_ok-found.ensures.ways) c.in_ok-found.ensures.memo

pub made_counted-loop-first-init : goal.made_counted-loop-first-init
made_counted-loop-first-init t c = record {
  counted = counted_on c.args.siblings.now c.args.rest.now c.args.at c.requires.free false c.args.at.lo c.next_taken-first.result _ _ c.new-out.result.items c.next_taken-first.ensures
      (counted_none c.args.siblings.now c.args.rest.now c.args.at false _ c.new-out.result.items refl c.new-out.ensures.items);
  memo = c.requires.memo;
}

pub made_counted-loop-first-preserved : goal.made_counted-loop-first-preserved
made_counted-loop-first-preserved t c = record {
  counted = counted_on c.args.siblings.now c.args.rest.now c.args.at c.requires.free c.is_silent_by-silent.result (c.loop-first.first + 1) c.next_counted-first.result _ _ _ c.next_counted-first.ensures
      (counted_more c.args.siblings.now c.args.rest.now c.args.at c.loop-first.silent c.is_silent_by-silent.result c.loop-first.first _ _ _ _ _ _ (c.stops.ensures.goes_on c.if-stops.false) (omega (arith, c.loop-first-test.true, c.len.ensures))
      c.loop-first.invariant.counted c.in_ok-add_first.ensures.adds c.is_silent_by-silent.ensures);
  memo = c.in_ok-add_first.ensures.memo;
}

pub made_counted-loop-first-smaller : goal.made_counted-loop-first-smaller
made_counted-loop-first-smaller t c = let on = c.next_counted-first.ensures.0 in omega (arith, c.loop-first-test.true, c.len.ensures, on)

pub made_counted-returns-then-stops-clause-ways : goal.made_counted-returns-then-stops-clause-ways
made_counted-returns-then-stops-clause-ways t c =
    counted_part c.args.siblings.now c.args.rest.now c.args.at c.requires.free c.loop-first.silent c.loop-first.first _ _ _ c.loop-first.out.items (c.stops.ensures.stops c.if-stops.true) c.loop-first.invariant.counted

pub made_counted-returns-then-stops-clause-memo : goal.made_counted-returns-then-stops-clause-memo
made_counted-returns-then-stops-clause-memo t c =
    memo_later c.args.siblings.now c.args.all.now _ _ _ (late _ _ (c.stops.ensures.stops c.if-stops.true)) c.loop-first.invariant.memo

pub made_counted-returns-clause-ways : goal.made_counted-returns-clause-ways
made_counted-returns-clause-ways t c =
    counted_all c.args.siblings.now c.args.rest.now c.args.at c.requires.free c.loop-first.silent c.loop-first.first _ _ c.loop-first.out.items (omega (arith, c.loop-first-test.false, c.len.ensures)) c.loop-first.invariant.counted

pub made_counted-add_first-requires : goal.made_counted-add_first-requires
made_counted-add_first-requires t c = (
  omega arith,
  (
    c.loop-first.invariant.counted.low,
    (
      c.requires.inside,
      (c.requires.few, (c.requires.rest, memo_later c.args.siblings.now c.args.all.now _ _ _ (λ e. sym (c.stops.ensures.goes_on c.if-stops.false) ∙ e) c.loop-first.invariant.memo)),
    ),
  ),
)

pub made_captures-returns-in_default-clause-ways : goal.made_captures-returns-in_default-clause-ways
made_captures-returns-in_default-clause-ways t c =
    like_at c.args.siblings.now c.args.slots.now [] c.args.number c.args.lo c.args.beside _ _ c.in_ok-none.none.items (no_items c.args.slots.now c.in_default.ensures.cases)
    (like_exact (WaysOf c.args.siblings.now [] c.args.number c.args.lo c.args.beside) _ c.in_ok-none.none.items c.in_ok-none.ensures)

pub made_captures-returns-then-not-is_free-clause-ways : goal.made_captures-returns-then-not-is_free-clause-ways
made_captures-returns-then-not-is_free-clause-ways t c =
    all_alike c.args.lo (WaysOf c.args.siblings.now c.args.slots.now c.args.number c.args.lo c.args.beside) _ _ c.in_ok-found.found.items c.in_ok-found.ensures.ways

pub made_captures-returns-clause-ways : goal.made_captures-returns-clause-ways
made_captures-returns-clause-ways t c =
    like_at c.args.siblings.now c.args.slots.now (c.in-Some.slot.now ∷ c.in-Some.rest.now) c.args.number c.args.lo c.args.beside _ _ c.in_ok-found-2.found.items c.in-Some.ensures.cases.0 c.in_ok-found-2.ensures.ways

pub made_captures-made_counted-requires : goal.made_captures-made_counted-requires
made_captures-made_counted-requires t c = (
  omega (arith, c.in-Some.ensures.cases.1),
  (
    c.is_free.ensures c.if-not-is_free.false,
    (
      next_inside c.args.all.now c.in-Some.rest.now c.in-Some.slot.now c.args.number (sym c.requires.slots ∙ c.in-Some.ensures.cases.0),
      (c.requires.few, (rest_is c.args.all.now c.args.slots.now c.in-Some.rest.now c.in-Some.slot.now c.args.number c.requires.slots c.in-Some.ensures.cases.0, c.requires.memo)),
    ),
  ),
)
