use Rattle.std.proofs.Common.{◌≡◌, ◌∙◌, ◌<◌, sym, ap, refl, inl, inr, true≢false, length, slice_get, Some, arith}
use Rattle.std.proofs.lemmas.Option.{slice_get-get_or}
use Rattle.std.proofs.lemmas.List.{length-set}
use Rattle.ts_places.specs.declared.seeking.Due.{Due}
use Rattle.ts_places.proofs.ForgetLemmas.{must_stay, forget_first, forget_stays, forget_sets, forget_all}
use Rattle.ts_places.proofs.seeking.forget.Goals as goal

pub loop-k-init : goal.loop-k-init
loop-k-init c = record { same = refl; forgot = λ t old new before tops were. forget_first t old new before c.args.seek tops c.args.stay c.args.dues.now.items were }

pub loop-k-preserved-then-not-is_stale : goal.loop-k-preserved-then-not-is_stale
loop-k-preserved-then-not-is_stale c = record {
  same = c.loop-k.invariant.same;
  forgot = λ t old new before tops were.
      let d = c.index.result.now in
      let low : c.loop-k.k < length c.loop-k.dues.items = (let t = c.loop-k-test.true in let n = c.loop-k.invariant.same in omega (arith, t, n)) in
      let at : slice_get c.loop-k.dues.items c.loop-k.k ≡ Some d = slice_get-get_or c.loop-k.dues.items c.loop-k.k d low ∙ ap (λ (x : Due). Some x) (sym c.index.ensures) in
      forget_stays t old new before c.args.seek tops c.args.stay c.args.dues.now.items were c.loop-k.k c.loop-k.dues.items (c.loop-k.invariant.forgot t old new before tops were) d at
      (must_stay c.args.stay (λ e. true≢false (sym (c.is_stale.ensures.1 (inl e)) ∙ c.if-not-is_stale.true))) (λ h. true≢false (sym (c.is_stale.ensures.1 (inr h)) ∙ c.if-not-is_stale.true));
}

pub loop-k-preserved : goal.loop-k-preserved
loop-k-preserved c = record {
  same = length-set c.loop-k.dues.items c.loop-k.k _ ∙ c.loop-k.invariant.same;
  forgot = λ t old new before tops were.
      let d = c.index.result.now in
      let low : c.loop-k.k < length c.loop-k.dues.items = (let t = c.loop-k-test.true in let n = c.loop-k.invariant.same in omega (arith, t, n)) in
      let at : slice_get c.loop-k.dues.items c.loop-k.k ≡ Some d = slice_get-get_or c.loop-k.dues.items c.loop-k.k d low ∙ ap (λ (x : Due). Some x) (sym c.index.ensures) in
      forget_sets t old new before c.args.seek tops c.args.stay c.args.dues.now.items were c.loop-k.k c.loop-k.dues.items (c.loop-k.invariant.forgot t old new before tops were) d at _ refl refl tt _ refl (length-set c.loop-k.dues.items c.loop-k.k _);
}

pub returns : goal.returns
returns c = λ t old new before tops were.
    forget_all t old new before c.args.seek tops c.args.stay c.args.dues.now.items were c.loop-k.k c.loop-k.dues.items (let h = c.loop-k-test.false in let n = c.loop-k.invariant.same in omega (arith, h, n)) (c.loop-k.invariant.forgot t old new before tops were)
