use Rattle.std.proofs.Common.{◌≡◌, ◌<◌, ◌^◌, ℕ, suc, ◌+◌, List, arith, subst, sym, length}
use Rattle.ts_core.specs.declared.flat.FlatGrammar.{FlatGrammar}
use Rattle.spec_grammar.specs.Symbols.{all_productions, symbol_count}
use Rattle.ts_reductions.specs.Ranking.{AreLedUp, AreRanksOf, AreRanksUpTo, rank_in}
use Rattle.ts_reductions.proofs.RankLemmas.{small_ranks, up_one_more, ranks_stay, ranks_reached, same_lists}
use Rattle.ts_reductions.proofs.ranks.ranks_of.Goals as goal

pub raised-requires-clause-small : goal.raised-requires-clause-small
raised-requires-clause-small c =
    let few : c.loop.counter < 2 ^ 16 = omega (arith, c.loop-test.true, c.len.ensures, c.len-2.ensures, c.requires.symbols) in
    subst (λ (xs : List ℕ). (symbol : ℕ) → rank_in xs symbol < 2 ^ 16) (sym c.as_slice.ensures.value) (small_ranks c.args.flat.now c.loop.counter c.loop.ranks.items c.loop.invariant few)

pub returns-then-eq : goal.returns-then-eq
returns-then-eq c =
    let g : FlatGrammar = c.args.flat.now in
    let led : AreLedUp g (rank_in c.loop.ranks.items) (length (all_productions g)) c.in_ok-raised.raised.items =
    subst (λ (xs : List ℕ). AreLedUp g (rank_in xs) (length (all_productions g)) c.in_ok-raised.raised.items) c.as_slice.ensures.value c.in_ok-raised.ensures in
    let next : AreRanksUpTo g (suc c.loop.counter) c.in_ok-raised.raised.items = up_one_more g c.loop.counter c.loop.ranks.items c.loop.invariant c.in_ok-raised.raised.items led in
    let same : c.in_ok-raised.raised.items ≡ c.loop.ranks.items = same_lists _ _ c.if-eq.ensures in
    subst (λ (xs : List ℕ). AreRanksOf g xs) (sym c.from_vec.ensures)
    (ranks_stay g c.loop.counter c.loop.ranks.items c.loop.invariant (subst (λ (xs : List ℕ). AreRanksUpTo g (suc c.loop.counter) xs) same next)
    (omega (arith, c.loop-test.true, c.len.ensures, c.len-2.ensures)))

pub loop-preserved : goal.loop-preserved
loop-preserved c =
    let g : FlatGrammar = c.args.flat.now in
    let led : AreLedUp g (rank_in c.loop.ranks.items) (length (all_productions g)) c.in_ok-raised.raised.items =
    subst (λ (xs : List ℕ). AreLedUp g (rank_in xs) (length (all_productions g)) c.in_ok-raised.raised.items) c.as_slice.ensures.value c.in_ok-raised.ensures in
    let next : AreRanksUpTo g (suc c.loop.counter) c.in_ok-raised.raised.items = up_one_more g c.loop.counter c.loop.ranks.items c.loop.invariant c.in_ok-raised.raised.items led in
    let step : suc c.loop.counter ≡ c.loop.counter + 1 = omega arith in
    subst (λ (n : ℕ). AreRanksUpTo g n c.in_ok-raised.raised.items) step next

pub returns : goal.returns
returns c =
    let g : FlatGrammar = c.args.flat.now in
    let all : c.loop.counter ≡ symbol_count g = omega (arith, c.loop-test.false, c.loop.auto.counter-end, c.len.ensures, c.len-2.ensures) in
    subst (λ (xs : List ℕ). AreRanksOf g xs) (sym c.from_vec-2.ensures)
    (ranks_reached g c.loop.ranks.items (subst (λ (n : ℕ). AreRanksUpTo g n c.loop.ranks.items) all c.loop.invariant))
