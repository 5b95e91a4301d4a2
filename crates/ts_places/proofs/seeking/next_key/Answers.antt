use Rattle.std.proofs.Common.{◌≡◌, ◌∙◌, ◌-◌, ◌<◌, suc, sym, ap, List, length, slice_get, Some, None, refl, subst, arith}
use Rattle.std.proofs.lemmas.Option.{slice_get-get_or}
use Rattle.std.proofs.lemmas.List.{length-set}
use Rattle.ts_reductions.proofs.AddLemmas.{ready_at}
use Rattle.ts_places.specs.declared.seeking.Due.{Due}
use Rattle.ts_places.specs.Seeking.{batch_at, Seeks, OfKnown, AreDue}
use Rattle.ts_places.proofs.SoughtLemmas.{sought_first, sought_top, sought_has, sought_known, sought_more, sought_next, sought_due}
use Rattle.ts_places.proofs.seeking.next_key.Goals as goal

pub loop-left-init : goal.loop-left-init
loop-left-init c = record {
  same = refl;
  few = let e = c.len-left.ensures in omega (arith, e);
  sought = λ text base tops ready a.
      sought_first c.args.table.now c.args.graph.now c.args.seek tops c.args.dues.now.items a _ c.first_known-found.result (let e = c.len-left.ensures in omega (arith, e))
      (subst (λ (l : List Due). Seeks c.args.table.now c.args.graph.now c.args.seek (OfKnown l) None c.first_known-found.result) c.as_slice.ensures.value
      (c.first_known-found.ensures c.args.table.now c.args.graph.now tops (subst (λ (l : List Due). AreDue c.args.table.now c.args.graph.now c.args.seek tops l) (sym c.as_slice.ensures.value) a)));
}

pub seek_due-requires : goal.seek_due-requires
seek_due-requires c =
    let r = c.requires in
    let few = c.loop-left.invariant.few in
    let many = c.loop-left.invariant.same in
    let some = c.loop-left-test.true in
    let is : c.loop-left.left ≡ suc (c.loop-left.left - 1) = omega (arith, some) in
    let d = c.index-due.result.now in
    let low : c.loop-left.left - 1 < length c.loop-left.dues.items = omega (arith, some, few, many) in
    let at : slice_get c.loop-left.dues.items (c.loop-left.left - 1) ≡ Some d = slice_get-get_or c.loop-left.dues.items (c.loop-left.left - 1) d low ∙ ap (λ (x : Due). Some x) (sym c.index-due.ensures) in
    let so = c.loop-left.invariant.sought r.0 r.1 r.2 r.3 r.4 in (
      r.0,
      ready_at c.args.table.now r.0 r.1 c.args.setting.now c.args.graph.now (batch_at c.args.seek.look 0 0) r.2 r.3 d.top (sought_top c.args.table.now c.args.graph.now c.args.seek r.2 c.args.dues.now.items r.4 c.loop-left.left (c.loop-left.left - 1) is c.loop-left.dues.items c.loop-left.found so d at),
      sought_has c.args.table.now c.args.graph.now c.args.seek r.2 c.args.dues.now.items r.4 c.loop-left.left (c.loop-left.left - 1) is c.loop-left.dues.items c.loop-left.found so d at,
    )

pub loop-left-preserved-then-is_known : goal.loop-left-preserved-then-is_known
loop-left-preserved-then-is_known c =
    let few = c.loop-left.invariant.few in
    let many = c.loop-left.invariant.same in
    let some = c.loop-left-test.true in
    let is : c.loop-left.left ≡ suc (c.loop-left.left - 1) = omega (arith, some) in
    let d = c.index-due.result.now in
    let low : c.loop-left.left - 1 < length c.loop-left.dues.items = omega (arith, some, few, many) in
    let at : slice_get c.loop-left.dues.items (c.loop-left.left - 1) ≡ Some d = slice_get-get_or c.loop-left.dues.items (c.loop-left.left - 1) d low ∙ ap (λ (x : Due). Some x) (sym c.index-due.ensures) in
    record {
      same = many;
      few = omega (arith, few);
      sought = λ text base tops ready a.
          sought_known c.args.table.now c.args.graph.now c.args.seek tops c.args.dues.now.items a c.loop-left.left (c.loop-left.left - 1) is c.loop-left.dues.items c.loop-left.found (c.loop-left.invariant.sought text base tops ready a) d at (c.is_known.ensures.0 c.if-is_known.true);
    }

pub loop-left-preserved : goal.loop-left-preserved
loop-left-preserved c =
    let few = c.loop-left.invariant.few in
    let many = c.loop-left.invariant.same in
    let some = c.loop-left-test.true in
    let is : c.loop-left.left ≡ suc (c.loop-left.left - 1) = omega (arith, some) in
    let d = c.index-due.result.now in
    let low : c.loop-left.left - 1 < length c.loop-left.dues.items = omega (arith, some, few, many) in
    let at : slice_get c.loop-left.dues.items (c.loop-left.left - 1) ≡ Some d = slice_get-get_or c.loop-left.dues.items (c.loop-left.left - 1) d low ∙ ap (λ (x : Due). Some x) (sym c.index-due.ensures) in
    record {
      same = length-set c.loop-left.dues.items (c.loop-left.left - 1) _ ∙ many;
      few = omega (arith, few);
      sought = λ text base tops ready a.
          let so = c.loop-left.invariant.sought text base tops ready a in
          let one = ready_at c.args.table.now text base c.args.setting.now c.args.graph.now (batch_at c.args.seek.look 0 0) tops ready d.top (sought_top c.args.table.now c.args.graph.now c.args.seek tops c.args.dues.now.items a c.loop-left.left (c.loop-left.left - 1) is c.loop-left.dues.items c.loop-left.found so d at) in
          let has = sought_has c.args.table.now c.args.graph.now c.args.seek tops c.args.dues.now.items a c.loop-left.left (c.loop-left.left - 1) is c.loop-left.dues.items c.loop-left.found so d at in
          sought_more c.args.table.now c.args.graph.now c.args.seek tops c.args.dues.now.items a c.loop-left.left (c.loop-left.left - 1) is c.loop-left.dues.items c.loop-left.found so d at c.in_ok-sought.sought (c.in_ok-sought.ensures text one has) _ refl (length-set c.loop-left.dues.items (c.loop-left.left - 1) _);
    }

pub returns-clause-next : goal.returns-clause-next
returns-clause-next c = λ text base tops ready a.
    sought_next c.args.table.now c.args.graph.now c.args.seek tops c.args.dues.now.items a c.loop-left.left (let h = c.loop-left-test.false in omega (arith, h)) c.loop-left.dues.items c.loop-left.found (c.loop-left.invariant.sought text base tops ready a)

pub returns-clause-dues : goal.returns-clause-dues
returns-clause-dues c = λ text base tops ready a.
    sought_due c.args.table.now c.args.graph.now c.args.seek tops c.args.dues.now.items a c.loop-left.left (let h = c.loop-left-test.false in omega (arith, h)) c.loop-left.dues.items c.loop-left.found (c.loop-left.invariant.sought text base tops ready a)
