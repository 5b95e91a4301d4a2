use Rattle.std.proofs.Common.{◌≡◌, sym, refl, subst, ℕ, suc, ◌+◌, ◌≤◌, List, [], ◌∷◌, ◌++◌, length, take, slice_get, Some, vec_capacity, arith, rules}
use Rattle.std.proofs.lemmas.Option.{slice_get_read}
use Rattle.ts_script.specs.declared.plan.ScriptStep.{ScriptStep}
use Rattle.ts_workers.specs.declared.worker.Worker.{Worker}
use Rattle.ts_workers.specs.Fronts.{AreFronts, versions_of, AllMayLend, HaveLent}
use Rattle.ts_workers.specs.Workers.{AreHired}
use Rattle.ts_workers.proofs.FrontLemmas.{may_lend, one_client, same_versions}
use Rattle.ts_workers.proofs.HireLemmas.{is_hired, one_worker}
use Rattle.ts_workers.proofs.ListLemmas.{take_more_at}
use Rattle.ts_workers.proofs.hiring.hired.Goals as goal

pub worker-requires-clause-lend : goal.worker-requires-clause-lend
worker-requires-clause-lend c =
    let begun = c.requires.fronts in
    let are = c.loop-steps.invariant.fronts begun.0 begun.1 in
    let at : slice_get c.args.plan.now.clients c.loop-steps.steps-index ≡ Some c.steps-item.result
    = subst (λ (l : List (List ScriptStep)). slice_get l c.loop-steps.steps-index ≡ Some c.steps-item.result) c.as_slice-steps-items.ensures
    (slice_get_read c.as_slice-steps-items.result.now (length c.as_slice-steps-items.result.now) c.loop-steps.steps-index c.steps-item.result refl c.loop-steps-test.true c.steps-item.is) in
    subst (λ (l : List ScriptStep). AllMayLend l c.args.shelves.now c.loop-steps.fronts) (sym c.as_slice.ensures)
    (may_lend c.args.plan.now c.args.table.now begun.0 c.args.shelves.now c.loop-steps.steps-index c.loop-steps.fronts are c.steps-item.result at)

pub loop-steps-preserved : goal.loop-steps-preserved
loop-steps-preserved c =
    let index = c.loop-steps.steps-index in
    let begun = c.requires.fronts in
    let are = c.loop-steps.invariant.fronts begun.0 begun.1 in
    let steps = c.steps-item.result in
    let at : slice_get c.args.plan.now.clients c.loop-steps.steps-index ≡ Some c.steps-item.result
    = subst (λ (l : List (List ScriptStep)). slice_get l c.loop-steps.steps-index ≡ Some c.steps-item.result) c.as_slice-steps-items.ensures
    (slice_get_read c.as_slice-steps-items.result.now (length c.as_slice-steps-items.result.now) c.loop-steps.steps-index c.steps-item.result refl c.loop-steps-test.true c.steps-item.is) in
    let w = c.in_ok-worker.field-0 in
    let new = c.worker.new.fronts in
    let desks = c.in_ok-worker.field-0.client.desks.items in
    let count = c.in_ok-worker.ensures.desks in
    let lent : HaveLent c.steps-item.result c.loop-steps.fronts c.worker.new.fronts c.in_ok-worker.field-0.client.desks.items
    = subst (λ (l : List ScriptStep). HaveLent l c.loop-steps.fronts c.worker.new.fronts c.in_ok-worker.field-0.client.desks.items) c.as_slice.ensures c.in_ok-worker.ensures.lent in
    let room : length c.steps-item.result ≤ vec_capacity c.in_ok-worker.field-0.client.replies
    = subst (λ (l : List ScriptStep). length l ≤ vec_capacity c.in_ok-worker.field-0.client.replies) c.as_slice.ensures c.in_ok-worker.ensures.room in
    let hired = is_hired c.args.plan.now c.args.table.now begun.0 c.args.shelves.now index c.loop-steps.fronts are steps new w c.in_ok-worker.ensures.lexer c.in_ok-worker.ensures.replies room count lent in
    let same = same_versions c.args.plan.now c.args.table.now begun.0 c.args.shelves.now index c.loop-steps.fronts are steps at new desks count lent in
    let one : suc c.loop-steps.steps-index ≡ c.loop-steps.steps-index + 1 = omega arith in
    record {
      hired =
          subst (λ (l : List Worker). AreHired c.args.table.now c.args.shelves.now (versions_of c.worker.new.fronts) (take (c.loop-steps.steps-index + 1) c.args.plan.now.clients) l) (sym c.in_ok-push.ensures.items)
          (subst (λ (n : ℕ). AreHired c.args.table.now c.args.shelves.now (versions_of c.worker.new.fronts) (take n c.args.plan.now.clients) (c.loop-steps.workers.items ++ c.in_ok-worker.field-0 ∷ [])) one
          (subst (λ (l : List (List ScriptStep)). AreHired c.args.table.now c.args.shelves.now (versions_of c.worker.new.fronts) l (c.loop-steps.workers.items ++ c.in_ok-worker.field-0 ∷ []))
          (sym (take_more_at c.args.plan.now.clients index steps at))
          (one_worker c.args.table.now c.args.shelves.now (versions_of c.loop-steps.fronts) (versions_of c.worker.new.fronts) (take c.loop-steps.steps-index c.args.plan.now.clients) c.loop-steps.workers.items steps w
          c.loop-steps.invariant.hired same hired)));
      fronts = λ openings first.
          subst (λ (n : ℕ). AreFronts c.args.plan.now c.args.table.now openings c.args.shelves.now n c.worker.new.fronts) one
          (one_client c.args.plan.now c.args.table.now openings c.args.shelves.now index c.loop-steps.fronts (c.loop-steps.invariant.fronts openings first) steps at new desks count lent);
      lexers = c.worker.ensures.lexers;
    }

pub returns-clause-fronts : goal.returns-clause-fronts
returns-clause-fronts c openings first =
    let whole : c.loop-steps.steps-index ≡ length c.args.plan.now.clients = search rules in
    subst (λ (n : ℕ). AreFronts c.args.plan.now c.args.table.now openings c.args.shelves.now n c.loop-steps.fronts) whole (c.loop-steps.invariant.fronts openings first)
