use Rattle.std.proofs.Common.{◌<◌, arith, get_or, length}
use Rattle.ts_core.specs.declared.symbol.Symbol.{Symbol}
use Rattle.ts_table.proofs.RefusalLemmas.{compares_begin, past_end, own_at, after_here, after_more, after_end, lt_iff}
use Rattle.ts_table.proofs.refusals.is_after.Goals as goal

pub loop-at-init : goal.loop-at-init
loop-at-init c = compares_begin c.args.a.now c.args.b.now

pub returns-then-at-b : goal.returns-then-at-b
returns-then-at-b c = past_end c.args.a.now c.args.b.now c.loop-at.at c.loop-at-test.true (let le = c.if-at-b.true in omega (arith, le)) c.loop-at.invariant

pub returns-then-x-y : goal.returns-then-x-y
returns-then-x-y c =
    let d : Symbol = record { 0 = 0 } in
    let lb : c.loop-at.at < length c.args.b.now = (let lt = c.if-at-b.false in omega (arith, lt)) in
    after_here c.args.a.now c.args.b.now c.loop-at.at (get_or c.args.a.now c.loop-at.at d) c.loop-at-test.true (own_at c.args.a.now c.loop-at.at d c.loop-at-test.true) (get_or c.args.b.now c.loop-at.at d) lb (own_at c.args.b.now c.loop-at.at d lb) c.loop-at.invariant _ (λ e. c.if-x-y.true e)
    (lt_iff (get_or c.args.b.now c.loop-at.at d).0 (get_or c.args.a.now c.loop-at.at d).0)

pub loop-at-preserved : goal.loop-at-preserved
loop-at-preserved c =
    let d : Symbol = record { 0 = 0 } in
    let lb : c.loop-at.at < length c.args.b.now = (let lt = c.if-at-b.false in omega (arith, lt)) in
    after_more c.args.a.now c.args.b.now c.loop-at.at (get_or c.args.a.now c.loop-at.at d) c.loop-at-test.true (own_at c.args.a.now c.loop-at.at d c.loop-at-test.true) (get_or c.args.b.now c.loop-at.at d) lb (own_at c.args.b.now c.loop-at.at d lb) c.loop-at.invariant c.if-x-y.false

pub returns : goal.returns
returns c = after_end c.args.a.now c.args.b.now c.loop-at.at (let le = c.loop-at-test.false in omega (arith, le)) c.loop-at.invariant
