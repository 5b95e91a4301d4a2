use Rattle.std.proofs.Common.{◌≡◌, ◌≤◌, ◌∙◌, ℕ, ap, arith, sym, subst, take, length}
use Rattle.std.proofs.lemmas.List.{take_all}
use Rattle.spec_grammar.specs.Symbols.{count_productions}
use Rattle.ts_reductions.specs.Ranking.{AreLedUp, rank_in}
use Rattle.ts_reductions.proofs.LineLemmas.{count_all}
use Rattle.ts_reductions.proofs.ranks.raised.Goals as goal

pub returns : goal.returns
returns c =
    let most : length c.args.flat.now.rules ≤ c.loop-r.r = omega (arith, c.len-r-end.ensures, c.loop-r-test.false) in
    let all : take c.loop-r.r c.args.flat.now.rules ≡ c.args.flat.now.rules = take_all _ _ most in
    subst (λ (n : ℕ). AreLedUp c.args.flat.now (rank_in c.args.ranks.now) n c.loop-r.all.items) (ap count_productions all ∙ sym (count_all c.args.flat.now)) c.loop-r.invariant
