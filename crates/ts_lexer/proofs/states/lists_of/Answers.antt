use Rattle.std.proofs.Common.{◌≡◌, ◌∙◌, length, arith}
use Rattle.ts_lexer.proofs.StateLemmas.{listing_none, listing_more}
use Rattle.ts_lexer.proofs.states.lists_of.Goals as goal

pub loop-state-init : goal.loop-state-init
loop-state-init c = rw c.new-numbers.ensures.items (listing_none c.args.table.now _)

pub loop-state-preserved : goal.loop-state-preserved
loop-state-preserved c = rw c.in_ok-push.ensures.items
    (listing_more c.args.table.now _ _ c.loop-state.numbers.items c.loop-state.state c.in_ok-number.number c.in_ok-valid.valid.items c.loop-state.invariant c.in_ok-number.ensures c.in_ok-valid.ensures)

pub returns : goal.returns
returns c =
    let inv = c.loop-state.invariant in
    let all : c.loop-state.state ≡ length c.args.table.now.rows = omega (arith, c.loop-state-test.false, c.loop-state.auto.state-end, c.states-state-end.ensures) in
    record { count = inv.count ∙ all; each = inv.each }
