use Rattle.std.proofs.Common.{arith, List, [], refl, inl, inr}
use Rattle.std.proofs.lemmas.Option.{slice_get-get_or, slice_get_read}
use Rattle.spec_matches.specs.declared.found.Capture.{Capture}
use Rattle.ts_query_syntax.specs.declared.read_query.Item.{Item}
use Rattle.spec_matches.specs.Taking.{Embedded}
use Rattle.ts_search.specs.Rows.{seen_row}
use Rattle.ts_search.specs.Memory.{Told}
use Rattle.ts_search.specs.Sets.{SameMembers, SameWay}
use Rattle.ts_search.specs.Ways.{AnyTakes, InsideOf, ItemTakes, PlainOf}
use Rattle.ts_search.proofs.AddLemmas.{one_in, in_one}
use Rattle.ts_search.proofs.LoneLemmas.{first_all, first_cut, first_more, first_none, free_are, lone_are, whole_are}
use Rattle.ts_search.proofs.PairLemmas.{fully_are, row_all, row_more, row_none, rows_all, rows_more, rows_none, table_all, table_more, table_none}
use Rattle.ts_search.proofs.PassLemmas.{bare_are, choices_are, inside_are, no_field, no_inner, no_node, not_inside, part_are, part_past, passes_any, passes_choice, passes_kind, passes_named, plain_are, ways_past, ways_plain, ways_round}
use Rattle.ts_search.proofs.YieldLemmas.{yield_all, yield_empty, yield_more, yields_each, yields_empty, yields_exact}
use Rattle.ts_search.proofs.taking.+taking.Goals as goal

pub item_ways-returns-then-is_round : goal.item_ways-returns-then-is_round
item_ways-returns-then-is_round t c = ways_round c.args.sight.now c.args.item.now c.args.n c.args.at _ _ c.in_ok-ways.ways.items (c.is_round.ensures.0 c.if-is_round.true) (rw c.as_slice.ensures at c.in_ok-ways.ensures)

pub item_ways-returns-then-at-gt0 : goal.item_ways-returns-then-at-gt0
item_ways-returns-then-at-gt0 t c = ways_past c.args.sight.now c.args.item.now c.args.n c.args.at _ c.new.result.items (λ h. let y = c.is_round.ensures.1 h in let f = c.if-is_round.false in cc) c.if-at-gt0.true c.new.ensures.items

pub item_ways-returns : goal.item_ways-returns
item_ways-returns t c = ways_plain c.args.sight.now c.args.item.now c.args.n c.args.at _ _ c.in_ok-ways-2.ways.items (λ h. let y = c.is_round.ensures.1 h in let f = c.if-is_round.false in cc) (omega (arith, c.if-at-gt0.false)) c.in_ok-ways-2.ensures

pub part_ways-returns-then-at-parts : goal.part_ways-returns-then-at-parts
part_ways-returns-then-at-parts t c = part_past c.args.sight.now c.args.parts.now c.args.n c.args.at _ c.new.result.items c.if-at-parts.true c.new.ensures.items

pub part_ways-returns : goal.part_ways-returns
part_ways-returns t c = part_are c.args.sight.now c.args.parts.now c.args.n c.args.at c.index-parts-at.result _ _ c.in_ok-ways.ways.items (slice_get_read c.args.parts.now _ c.args.at c.index-parts-at.result refl (omega (arith, c.if-at-parts.false)) c.index-parts-at.is) c.in_ok-ways.ensures

pub plain_ways-returns-in_default : goal.plain_ways-returns-in_default
plain_ways-returns-in_default t c = no_node c.args.sight.now c.args.item.now c.args.n _ c.new.result.items c.new.ensures.items c.in_default.ensures

pub plain_ways-returns-then-not-has_field : goal.plain_ways-returns-then-not-has_field
plain_ways-returns-then-not-has_field t c = no_field c.args.sight.now c.args.item.now c.args.n (seen_row c.in-Some.row) _ c.new-then-not-has_field.result.items c.new-then-not-has_field.ensures.items c.in-Some.ensures (λ h. let y = c.has_field.ensures.1 h in let f = c.if-not-has_field.true in cc)

pub plain_ways-shallow_ways-requires-clause-field : goal.plain_ways-shallow_ways-requires-clause-field
plain_ways-shallow_ways-requires-clause-field t c = c.has_field.ensures.0 c.if-not-has_field.false

pub plain_ways-returns-then-is_shallow : goal.plain_ways-returns-then-is_shallow
plain_ways-returns-then-is_shallow t c = yields_exact SameMembers (PlainOf c.args.sight.now c.args.item.now c.args.n) _ c.in_ok-taken.taken.items c.in_ok-taken.ensures

pub plain_ways-returns-then-is_none : goal.plain_ways-returns-then-is_none
plain_ways-returns-then-is_none t c = no_inner c.args.sight.now c.args.item.now c.args.n (seen_row c.in-Some.row) _ _ c.in_ok-inner.inner.items c.in-Some.ensures c.in_ok-inner.ensures ((rw c.as_slice.ensures.value at c.is_none.ensures).0 c.if-is_none.true)

pub plain_ways-returns-then-has_no_captures : goal.plain_ways-returns-then-has_no_captures
plain_ways-returns-then-has_no_captures t c =
    bare_are c.args.sight.now c.args.item.now c.args.n (seen_row c.in-Some.row) _ _ c.in_ok-inner.inner.items c.in-Some.ensures c.in_ok-inner.ensures (c.has_no_captures.ensures c.if-has_no_captures.true) (c.has_field.ensures.0 c.if-not-has_field.false)

pub plain_ways-returns : goal.plain_ways-returns
plain_ways-returns t c =
    plain_are c.args.sight.now c.args.item.now c.args.n (seen_row c.in-Some.row) _ _ c.in_ok-inner.inner.items c.in-Some.ensures c.in_ok-inner.ensures c.in_ok-own.own c.in_ok-ways.ways.items (c.has_field.ensures.0 c.if-not-has_field.false)
    (rw c.as_slice-2.ensures at c.in_ok-own.ensures) c.in_ok-ways.ensures

pub passing-returns-in_ok-ways-in-Any : goal.passing-returns-in_ok-ways-in-Any
passing-returns-in_ok-ways-in-Any t c = passes_any c.args.sight.now c.args.item.now c.args.n (seen_row c.args.row) _ c.in_ok-ways-in-Any.ways.items c.in-Any.is
    (λ x. ((λ h. one_in [] x (rw c.in_ok-ways-in-Any.ensures at h)), (λ h. rw c.in_ok-ways-in-Any.ensures (in_one [] x h))))

pub passing-returns-in_ok-ways-in-Named : goal.passing-returns-in_ok-ways-in-Named
passing-returns-in_ok-ways-in-Named t c = passes_named c.args.sight.now c.args.item.now c.args.n (seen_row c.args.row) _ _ c.in_ok-ways-in-Named.ways.items c.in-Named.is c.if-not-row.false c.in_ok-ways-in-Named.ensures

pub passing-returns-in_ok-ways-in-Kind : goal.passing-returns-in_ok-ways-in-Kind
passing-returns-in_ok-ways-in-Kind t c = passes_kind c.args.sight.now c.args.item.now c.args.n (seen_row c.args.row) _ _ c.in_ok-ways-in-Kind.ways.items c.in-Kind.kind c.in-Kind.is (c.is_of_kind.ensures.0 c.if-not-is_of_kind.false) c.in_ok-ways-in-Kind.ensures

pub passing-returns-in_ok-ways-in-Choice : goal.passing-returns-in_ok-ways-in-Choice
passing-returns-in_ok-ways-in-Choice t c = passes_choice c.args.sight.now c.args.item.now c.args.n (seen_row c.args.row) _ _ c.in_ok-ways-in-Choice.ways.items c.in-Choice.is (rw c.as_slice.ensures at c.in_ok-ways-in-Choice.ensures)

pub inside-returns-then-not-none_has : goal.inside-returns-then-not-none_has
inside-returns-then-not-none_has t c =
    not_inside c.args.sight.now c.args.item.now c.args.n c.in_ok-children.children.items c.in_ok-children.ensures _ c.new.result.items c.new.ensures.items
    (λ h. let y = (rw c.as_slice.ensures at (rw c.as_slice-2.ensures.value at c.none_has.ensures)).1 h in let f = c.if-not-none_has.true in cc)

pub inside-returns : goal.inside-returns
inside-returns t c =
    yields_each SameMembers (InsideOf c.args.sight.now c.args.item.now c.args.n) _ _ c.in_ok-ways.ways.items c.once_each.result.items
    (inside_are c.args.sight.now c.args.item.now c.args.n c.in_ok-children.children.items c.in_ok-children.ensures _ _ c.in_ok-ways.ways.items
    ((rw c.as_slice.ensures at (rw c.as_slice-2.ensures.value at c.none_has.ensures)).0 c.if-not-none_has.false)
    (rw c.as_slice-3.ensures at (rw c.as_slice-4.ensures.value at c.in_ok-ways.ensures)))
    c.once_each.ensures

pub whole-returns-then-are_free : goal.whole-returns-then-are_free
whole-returns-then-are_free t c =
    let e = c.are_free.ensures c.if-are_free.true in
    free_are c.args.sight.now c.args.closed c.args.siblings.now _ c.args.items.now c.in_ok-none.none.items e.0 e.1 c.in_ok-none.ensures

pub whole-returns-in-Some : goal.whole-returns-in-Some
whole-returns-in-Some t c =
    lone_are c.args.sight.now c.args.closed c.args.siblings.now _ _ c.in_ok-ways.ways.items c.args.items.now c.in-Some.tied c.closed_start-from.result c.tied_end-to.result c.in-Some.ensures c.closed_start-from.ensures c.tied_end-to.ensures.places
    c.in_ok-ways.ensures

pub whole-returns : goal.whole-returns
whole-returns t c = whole_are c.args.sight.now c.args.items.now c.args.closed c.args.siblings.now _ _ c.in_ok-found.found.items c.in_ok-ways-2.ways.items c.in_ok-found.ensures c.in_ok-ways-2.ensures

pub first_ways-loop-place-init : goal.first_ways-loop-place-init
first_ways-loop-place-init t c = record {
  yields = first_none c.args.sight.now c.args.items.now c.args.siblings.now c.args.from _ c.new-out.result.items c.new-out.ensures.items;
  low = omega arith;
  inside = inl refl;
}

pub first_ways-loop-place-preserved : goal.first_ways-loop-place-preserved
first_ways-loop-place-preserved t c = record {
  yields = first_more c.args.sight.now c.args.items.now c.args.siblings.now c.args.from c.loop-place.place _ _ _ _ _ c.loop-place.out.items c.in_ok-more.more.items _ c.loop-place.invariant.low
      (slice_get-get_or c.args.siblings.now c.loop-place.place 0 (omega (arith, c.loop-place-test.true, c.requires)))
      (c.ends.ensures.goes_on c.if-ends.false) c.loop-place.invariant.yields c.in_ok-more.ensures c.in_ok-add_all.ensures;
  low = (let l = c.loop-place.invariant.low in omega arith);
  inside = inr (omega (arith, c.loop-place-test.true));
}

pub first_ways-returns-then-ends : goal.first_ways-returns-then-ends
first_ways-returns-then-ends t c =
    first_cut c.args.sight.now c.args.items.now c.args.siblings.now c.args.from c.loop-place.place c.args.to _ _ _ c.loop-place.out.items (omega (arith, c.loop-place-test.true)) (c.ends.ensures.ends c.if-ends.true)
    (rw c.as_slice.ensures.value at (c.ends.ensures.some c.if-ends.true)) c.loop-place.invariant.yields

pub first_ways-returns : goal.first_ways-returns
first_ways-returns t c = first_all c.args.sight.now c.args.items.now c.args.siblings.now c.args.from c.loop-place.place c.args.to _ _ c.loop-place.out.items (omega (arith, c.loop-place-test.false)) c.loop-place.invariant.inside c.loop-place.invariant.yields

pub choices-loop-branch-init : goal.choices-loop-branch-init
choices-loop-branch-init t c = yield_empty SameMembers (λ (i : Item) (cs : List Capture). ItemTakes c.args.sight.now i 0 c.args.n cs) _ c.new-out.result.items c.new-out.ensures.items

pub choices-loop-branch-preserved : goal.choices-loop-branch-preserved
choices-loop-branch-preserved t c =
    yield_more SameMembers (λ (i : Item) (cs : List Capture). ItemTakes c.args.sight.now i 0 c.args.n cs) c.args.branches.now c.loop-branch.branch-index c.branch-item.result _ _ _ _ c.in_ok-more.more.items _ c.loop-branch-test.true c.branch-item.is c.loop-branch.invariant
    c.in_ok-more.ensures c.in_ok-add_all.ensures

pub choices-returns : goal.choices-returns
choices-returns t c =
    yields_each SameMembers (AnyTakes c.args.sight.now c.args.branches.now c.args.n) _ _ c.loop-branch.out.items c.once_each.result.items
    (choices_are c.args.sight.now c.args.branches.now c.args.n _ _ c.loop-branch.out.items (yield_all SameMembers (λ (i : Item) (cs : List Capture). ItemTakes c.args.sight.now i 0 c.args.n cs) c.args.branches.now c.loop-branch.branch-index _ _ _ c.loop-branch-test.false
    c.loop-branch.invariant))
    c.once_each.ensures

pub row-loop-n-init : goal.row-loop-n-init
row-loop-n-init t c = row_none c.args.sight.now c.args.item.now c.args.at _ c.in_ok-out.out.items c.in_ok-out.ensures.items

pub row-loop-n-preserved : goal.row-loop-n-preserved
row-loop-n-preserved t c =
    rw c.in_ok-push.ensures.items (row_more c.args.sight.now c.args.item.now c.args.at c.args.siblings.now c.loop-n.n-index _ _ _ c.loop-n.out.items c.from_vec.result c.loop-n-test.true c.loop-n.invariant (rw c.from_vec.ensures c.in_ok-ways.ensures))

pub row-returns : goal.row-returns
row-returns t c = rw c.from_vec-2.ensures (row_all c.args.sight.now c.args.item.now c.args.at c.args.siblings.now c.loop-n.n-index _ _ c.loop-n.out.items c.loop-n-test.false c.loop-n.invariant)

pub rows-loop-at-init : goal.rows-loop-at-init
rows-loop-at-init t c = rows_none c.args.sight.now c.args.siblings.now c.args.item.now _ c.new-out.result.items c.new-out.ensures.items

pub rows-loop-at-preserved : goal.rows-loop-at-preserved
rows-loop-at-preserved t c = rows_more c.args.sight.now c.args.siblings.now c.args.item.now c.loop-at.at _ _ _ c.loop-at.out.items c.push.new.self.items c.in_ok-row.row c.in_ok-push.ensures.items c.in_ok-row.ensures c.loop-at.invariant

pub rows-returns : goal.rows-returns
rows-returns t c = rw c.from_vec.ensures (rows_all c.args.sight.now c.args.siblings.now c.args.item.now c.loop-at.at _ _ c.loop-at.out.items (omega arith) (omega arith) c.loop-at.invariant)

pub table-loop-item-init : goal.table-loop-item-init
table-loop-item-init t c = table_none c.args.sight.now c.args.siblings.now _ c.in_ok-out.out.items c.in_ok-out.ensures.items

pub table-loop-item-preserved : goal.table-loop-item-preserved
table-loop-item-preserved t c =
    rw c.in_ok-push.ensures.items (table_more c.args.sight.now c.args.siblings.now c.args.items.now c.loop-item.item-index c.item-item.result _ _ _ c.loop-item.out.items c.in_ok-rows.rows c.loop-item-test.true c.item-item.is c.loop-item.invariant
    c.in_ok-rows.ensures)

pub table-returns : goal.table-returns
table-returns t c = rw c.from_vec.ensures (table_all c.args.sight.now c.args.siblings.now c.args.items.now c.loop-item.item-index _ _ c.loop-item.out.items c.loop-item-test.false c.loop-item.invariant)

pub fully-returns-then-are_none : goal.fully-returns-then-are_none
fully-returns-then-are_none t c =
    yields_empty SameWay (Told c.args.wanted 0 (Embedded c.args.sight.now c.args.items.now c.args.closed c.args.siblings.now)) _ _ _ c.in_ok-found.found.items
    (fully_are c.args.sight.now c.args.items.now c.args.siblings.now c.in_ok-table.table c.args.wanted _ _ _ c.in_ok-table.ensures c.in_ok-all.all c.in_ok-all.ensures.table c.args.closed c.in_ok-all.ensures.closed c.in_ok-named.named
    c.in_ok-all.ensures.named c.in_ok-slots.slots.items c.in_ok-found.found.items c.in_ok-named.ensures
    c.in_ok-slots.ensures (rw c.as_slice.ensures.value at c.in_ok-found.ensures))
    ((rw c.as_slice-2.ensures.value at c.are_none.ensures).0 c.if-are_none.true)

pub fully-returns : goal.fully-returns
fully-returns t c =
    fully_are c.args.sight.now c.args.items.now c.args.siblings.now c.in_ok-table.table c.args.wanted _ _ _ c.in_ok-table.ensures c.in_ok-all.all c.in_ok-all.ensures.table c.args.closed c.in_ok-all.ensures.closed c.in_ok-named.named
    c.in_ok-all.ensures.named c.in_ok-slots.slots.items c.in_ok-found.found.items c.in_ok-named.ensures
    c.in_ok-slots.ensures (rw c.as_slice.ensures.value at c.in_ok-found.ensures)
