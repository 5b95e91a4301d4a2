use Rattle.std.proofs.Common.{◌≡◌, sym, ap, subst, ℕ, ◌+◌, ◌<◌, List, [], ◌∷◌, ◌++◌, length, set, get_or, slice_get, Some, arith}
use Rattle.std.proofs.lemmas.List.{length-append}
use Rattle.std.proofs.lemmas.Option.{slice_get-get_or}
use Rattle.ts_replay.specs.Runs.{weight_of, edits_on}
use Rattle.ts_client.specs.declared.desk.Desk.{Desk}
use Rattle.ts_workers.specs.Fronts.{Lends, HaveLent}
use Rattle.ts_workers.proofs.ListLemmas.{changed_one}
use Rattle.ts_workers.proofs.hiring.desks.Goals as goal

pub loop-document-preserved : goal.loop-document-preserved
loop-document-preserved c =
    let count = c.loop-document.invariant.count in
    let lent = c.loop-document.invariant.lent in
    let below : c.loop-document.document < length c.loop-document.fronts =
    (let a = c.loop-document-test.true in let b = c.requires.count in let d = lent.count in omega (arith, a, b, d)) in
    let m = get_or c.loop-document.fronts c.loop-document.document c.index-fronts-document.result in
    let at : slice_get c.loop-document.fronts (length c.loop-document.desks.items) ≡ Some m =
    subst (λ (k : ℕ). slice_get c.loop-document.fronts k ≡ Some m) (sym count) (slice_get-get_or c.loop-document.fronts c.loop-document.document c.index-fronts-document.result below) in
    let own : Lends (weight_of (edits_on (length c.loop-document.desks.items)) c.args.steps.now) m c.desk.new.front c.in_ok-desk.field-0 =
    subst (λ (k : ℕ). Lends (weight_of (edits_on k) c.args.steps.now) m c.desk.new.front c.in_ok-desk.field-0) (sym count)
    (subst (λ (n : ℕ). Lends n m c.desk.new.front c.in_ok-desk.field-0) c.edits_in-edits.ensures c.in_ok-desk.ensures) in
    let items = c.in_ok-push.ensures.items in
    record {
      lent =
          subst (λ (l : List Desk). HaveLent c.args.steps.now c.args.fronts.now (set c.loop-document.fronts c.loop-document.document c.desk.new.front) l) (sym items)
          (subst (λ (k : ℕ). HaveLent c.args.steps.now c.args.fronts.now (set c.loop-document.fronts k c.desk.new.front) (c.loop-document.desks.items ++ c.in_ok-desk.field-0 ∷ [])) count
          (changed_one (λ (k : ℕ). Lends (weight_of (edits_on k) c.args.steps.now)) c.args.fronts.now c.loop-document.fronts c.loop-document.desks.items m c.desk.new.front c.in_ok-desk.field-0 lent at own));
      count =
          (let a : length c.push.new.self.items ≡ length (c.loop-document.desks.items ++ c.in_ok-desk.field-0 ∷ []) = ap length items in
          let b : length (c.loop-document.desks.items ++ c.in_ok-desk.field-0 ∷ []) ≡ length c.loop-document.desks.items + 1 = length-append c.loop-document.desks.items (c.in_ok-desk.field-0 ∷ []) in
          omega (arith, a, b, count));
    }
