use Rattle.std.proofs.Common.{◌≡◌, ℕ, suc, ◌+◌, ◌≤◌, length, ap, subst, arith}
use Rattle.ts_core.specs.declared.flat.FlatGrammar.{FlatGrammar}
use Rattle.ts_lexer.specs.States.{AreActing}
use Rattle.ts_lexer.proofs.StateLemmas.{acting_none, acting_more}
use Rattle.ts_lexer.proofs.states.acting.Goals as goal

pub loop-number-init : goal.loop-number-init
loop-number-init c = rw c.new-valid.ensures.items (acting_none c.args.table.now c.args.state)

pub loop-number-preserved : goal.loop-number-preserved
loop-number-preserved c = acting_more c.args.table.now c.args.state (record { 0 = c.loop-number.number }) _ _ c.loop-number.invariant c.in_ok-push_acting.ensures

pub returns : goal.returns
returns c =
    let g = c.args.table.now.grammar in
    let few : suc (length g.tokens + length g.rules) ≤ 16384 = c.stands.ensures.fit.few_symbols in
    let same = ap (λ (f : FlatGrammar). length f.tokens) c.grammar-grammar.ensures in
    let all : c.loop-number.number ≡ length g.tokens + 1 =
    omega (arith, c.loop-number-test.false, c.loop-number.auto.number-end, c.min-tokens.ensures, c.len.ensures, same, few) in
    subst (λ (n : ℕ). AreActing c.args.table.now c.args.state c.loop-number.valid.items n) all c.loop-number.invariant
