use Rattle.std.proofs.Common.{ap, ◌∙◌, ◌+◌, ℕ}
use Rattle.ts_pattern.specs.declared.level.Level.{Level}
use Rattle.ts_pattern.specs.Machine.{earlier, branch_latest, last_branch}
use Rattle.ts_pattern.proofs.LevelLemmas.{close_is, depth_is}
use Rattle.ts_pattern.proofs.level.Level.close.Goals as goal

pub returns : goal.returns
returns c p hs =
    let depth = ap (λ (n : ℕ). n + 1) c.min-nesting.ensures in
    let group = c.in_ok-grouped.ensures p (ap (λ (s : Level). s.branches) hs) (ap (λ (s : Level). s.pieces) hs) (depth ∙ depth_is p c.args.self hs) in
    close_is p c.args.self c.in_ok-grouped.field-0 (c.min-nesting.result + 1) c.added.result hs group depth
    (c.added.ensures (earlier p) (branch_latest (last_branch p)) (ap (λ (s : Level). s.earlier) hs) (ap (λ (s : Level). s.latest) hs))
