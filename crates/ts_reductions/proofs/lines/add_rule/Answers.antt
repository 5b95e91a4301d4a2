use Rattle.std.proofs.Common.{◌≡◌, ℕ, ◌+◌, ◌++◌, ◌∷◌, [], List, arith, sym, subst, take}
use Rattle.spec_grammar.specs.Symbols.{count_productions}
use Rattle.ts_reductions.specs.declared.lines.Line.{Line}
use Rattle.ts_reductions.specs.Lines.{AreLinesUpTo}
use Rattle.ts_reductions.proofs.LineLemmas.{push_line}
use Rattle.ts_reductions.proofs.lines.add_rule.Goals as goal

pub loop-i-preserved : goal.loop-i-preserved
loop-i-preserved c =
    let before : ℕ = count_productions (take c.args.r c.args.flat.now.rules) in
    let o : c.push.new.self ≡ c.loop-i.lines ++ c.line_at.result ∷ [] = c.in_ok-push.ensures.ok in
    let q : before + c.loop-i.i + 1 ≡ before + (c.loop-i.i + 1) = omega arith in
    let p : AreLinesUpTo c.args.flat.now (before + c.loop-i.i + 1) (c.loop-i.lines ++ c.line_at.result ∷ []) = push_line _ _ _ _ c.loop-i.invariant c.line_at.ensures in
    subst (λ (es : List Line). AreLinesUpTo c.args.flat.now (before + (c.loop-i.i + 1)) es) (sym o)
    (subst (λ (n : ℕ). AreLinesUpTo c.args.flat.now n (c.loop-i.lines ++ c.line_at.result ∷ [])) q p)
