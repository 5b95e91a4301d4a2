use Rattle.std.proofs.Common.{◌≡◌, ◌≤◌, ◌∙◌, ℕ, ap, arith, sym, subst, take, length}
use Rattle.std.proofs.lemmas.List.{take_all}
use Rattle.spec_grammar.specs.Symbols.{count_productions}
use Rattle.ts_reductions.specs.Lines.{AreLinesUpTo}
use Rattle.ts_reductions.proofs.LineLemmas.{count_all}
use Rattle.ts_reductions.proofs.lines.lines_of.Goals as goal

pub returns : goal.returns
returns c =
    let n : c.len-r-end.result ≡ length c.args.flat.now.rules = c.len-r-end.ensures in
    let h : length c.args.flat.now.rules ≤ c.loop-r.r = omega (arith, n, c.loop-r-test.false) in
    let t : take c.loop-r.r c.args.flat.now.rules ≡ c.args.flat.now.rules = take_all _ _ h in
    subst (λ (m : ℕ). AreLinesUpTo c.args.flat.now m c.loop-r.lines) (ap count_productions t ∙ sym (count_all c.args.flat.now)) c.loop-r.invariant
