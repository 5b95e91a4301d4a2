use Rattle.std.proofs.Common.{◌≡◌, arith, subst, ℕ}
use Rattle.ts_items.specs.Sets.{GainsTokens}
use Rattle.ts_items.proofs.GainLemmas.{Selves, selves_none, selves_more, queue_none, queue_more}
use Rattle.ts_items.proofs.first.begin_tokens.Goals as goal

pub loop-token-init : goal.loop-token-init
loop-token-init c = record { gains = selves_none c.args.sets.now; queue = queue_none c.args.queue.now.items }

pub begin_token-requires-clause-wide : goal.begin_token-requires-clause-wide
begin_token-requires-clause-wide c = let w = c.requires.wide in let lt = w.2 in (w.0, c.loop-token.invariant.gains.wide w.0 w.1, omega (arith, lt, c.loop-token-test.true))

pub loop-token-preserved : goal.loop-token-preserved
loop-token-preserved c = record {
  gains = selves_more c.loop-token.token c.args.sets.now c.loop-token.sets c.begin_token.new.sets c.loop-token.invariant.gains c.in_ok-begin_token.ensures.gains;
  queue = queue_more c.loop-token.token c.args.queue.now.items c.loop-token.queue.items c.begin_token.new.queue.items c.loop-token.invariant.queue c.in_ok-begin_token.ensures.queue;
}

pub returns-clause-gains : goal.returns-clause-gains
returns-clause-gains c =
    let e : c.loop-token.token ≡ c.args.tokens = let a = c.loop-token-test.false in let b = c.loop-token.auto.token-end in omega arith in
    subst (λ (k : ℕ). GainsTokens (Selves k) c.args.sets.now c.loop-token.sets) e c.loop-token.invariant.gains

pub returns-clause-queue : goal.returns-clause-queue
returns-clause-queue c =
    let e : c.loop-token.token ≡ c.args.tokens = let a = c.loop-token-test.false in let b = c.loop-token.auto.token-end in omega arith in
    rw e at c.loop-token.invariant.queue
