use Rattle.std.proofs.Common.{◌≡◌, ◌∙◌, ◌+◌, ◌<◌, ◌∷◌, [], ap, sym, subst, ℕ, length, length-append, inl, inr, ⊎_elim, List, arith}
use Rattle.std.proofs.lemmas.Result.{err_from_is_err_and}
use Rattle.ts_items.specs.declared.part.State.{State}
use Rattle.ts_items.specs.Numbers.{CollectedBy}
use Rattle.ts_items.proofs.ListLemmas.{some_at}
use Rattle.ts_items.proofs.PartLemmas.{grown_length}
use Rattle.ts_items.proofs.StateLemmas.{collecting_more}
use Rattle.ts_items.proofs.numbering.states_of.Goals as goal

pub loop-next-init : goal.loop-next-init
loop-next-init c = record {
  pool = c.requires.pool;
  few = c.requires.few;
  asked = c.requires.asked;
  size = ap (λ (l : List State). length l) c.new-states.ensures.items;
  inside = omega arith;
  collecting = subst (λ (l : List State). CollectedBy c.args.tabled.now c.args.pool.now.keys c.args.kernels.now.keys l 0) (sym c.new-states.ensures.items) c.requires.begun;
}

pub state_of-requires-clause-at : goal.state_of-requires-clause-at
state_of-requires-clause-at c = omega (arith, c.loop-next-test.true, c.len.ensures.len)

pub state_of-requires-clause-states : goal.state_of-requires-clause-states
state_of-requires-clause-states c = c.loop-next.invariant.collecting.are

pub loop-next-preserved : goal.loop-next-preserved
loop-next-preserved c =
    let inv = c.loop-next.invariant in
    let e = c.in_ok-state.ensures in
    let push = c.in_ok-push.ensures.items in
    let below : c.loop-next.next < length c.loop-next.kernels.keys = omega (arith, c.loop-next-test.true, c.len.ensures.len) in
    let k = some_at c.loop-next.kernels.keys c.loop-next.next below in
    record {
      pool = e.pool.0;
      few = e.few inv.few;
      asked = (e.asked.0 ∙ inv.asked.0, e.asked.1);
      size = ap (λ (l : List State). length l) push ∙ length-append c.loop-next.states.items (c.in_ok-state.state ∷ []) ∙ ap (λ (n : ℕ). n + 1) inv.size;
      inside = let lt = grown_length c.loop-next.kernels.keys c.state_of.new.kernels.keys c.loop-next.next e.kernels below in omega (arith, lt);
      collecting =
          let col = inv.collecting in
          subst (λ (l : List State). CollectedBy c.args.tabled.now c.state_of.new.pool.keys c.state_of.new.kernels.keys l (c.loop-next.next + 1)) (sym push)
          (collecting_more c.args.tabled.now.grammar (length c.args.tabled.now.tables.productions.items) (length c.args.tabled.now.tables.firsts.items) c.loop-next.pool.keys c.state_of.new.pool.keys c.loop-next.kernels.keys c.state_of.new.kernels.keys c.loop-next.states.items c.loop-next.next k.0 c.in_ok-state.state col e.pool.1 e.kernels
          e.states (e.once col.once) k.1 (e.done k.0 k.1));
    }

pub returns-clause-size : goal.returns-clause-size
returns-clause-size c = let le = c.loop-next.invariant.inside in let e = c.loop-next.invariant.size in omega (arith, le, e, c.loop-next-test.false, c.len.ensures.len)

pub returns-clause-states : goal.returns-clause-states
returns-clause-states c =
    let same : c.loop-next.next ≡ length c.loop-next.kernels.keys = let le = c.loop-next.invariant.inside in omega (arith, le, c.loop-next-test.false, c.len.ensures.len) in
    subst (λ (n : ℕ). CollectedBy c.args.tabled.now c.loop-next.pool.keys c.loop-next.kernels.keys c.loop-next.states.items n) same c.loop-next.invariant.collecting

pub returns-in_err-state-clause-many : goal.returns-in_err-state-clause-many
returns-in_err-state-clause-many c =
    let p = err_from_is_err_and c.from_residual.result c.from_residual.ensures.1 in
    rw (p.1, p.2) (⊎_elim (λ m. inl m) (λ w. inr (w.0, w.1 c.loop-next.invariant.collecting.once)) c.in_err-state.ensures.many)
