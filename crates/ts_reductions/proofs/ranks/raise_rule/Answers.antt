use Rattle.std.proofs.Common.{◌≡◌, ℕ, suc, ◌+◌, arith, subst, take}
use Rattle.ts_core.specs.declared.flat.FlatGrammar.{FlatGrammar}
use Rattle.spec_grammar.specs.Symbols.{count_productions, start_symbol}
use Rattle.ts_reductions.specs.Ranking.{AreLedUp, rank_in}
use Rattle.ts_reductions.proofs.LineLemmas.{count_step, production_is}
use Rattle.ts_reductions.proofs.RankLemmas.{led_up_next}
use Rattle.ts_reductions.proofs.ranks.raise_rule.Goals as goal

pub loop-i-preserved : goal.loop-i-preserved
loop-i-preserved c =
    let g : FlatGrammar = c.args.flat.now in
    let before : ℕ = count_productions (take c.args.r g.rules) in
    let left : c.len.result + 1 + c.args.r ≡ start_symbol g + c.args.r = omega (arith, c.len.ensures) in
    let is : c.rank_of-rank.result + 1 ≡ suc (rank_in c.args.ranks.now (start_symbol g + c.args.r)) =
    subst (λ (n : ℕ). c.rank_of-rank.result + 1 ≡ suc (rank_in c.args.ranks.now n)) left (omega (arith, c.rank_of-rank.ensures)) in
    let next : suc (before + c.loop-i.i) ≡ before + (c.loop-i.i + 1) = omega arith in
    subst (λ (n : ℕ). AreLedUp g (rank_in c.args.ranks.now) n c.raise.new.all) next
    (led_up_next g c.args.ranks.now c.loop-i.all c.raise.new.all (before + c.loop-i.i) (start_symbol g + c.args.r) c.get.result.now (c.rank_of-rank.result + 1)
    (production_is g c.args.r c.loop-i.i c.get-rule.result.now c.get.result.now c.get-rule.ensures c.get.ensures) is c.loop-i.invariant c.raise.ensures)

pub returns : goal.returns
returns c =
    let g : FlatGrammar = c.args.flat.now in
    let all : count_productions (take c.args.r g.rules) + c.loop-i.i ≡ count_productions (take (suc c.args.r) g.rules) =
    omega (arith, count_step g.rules c.args.r c.get-rule.result.now c.get-rule.ensures, c.len-i-end.ensures, c.loop-i-test.false, c.loop-i.auto.i-end) in
    subst (λ (n : ℕ). AreLedUp g (rank_in c.args.ranks.now) n c.loop-i.all) all c.loop-i.invariant
