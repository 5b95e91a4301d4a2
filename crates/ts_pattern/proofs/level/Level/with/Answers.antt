use Rattle.std.proofs.Common.{ap}
use Rattle.ts_pattern.specs.declared.level.Level.{Level}
use Rattle.ts_pattern.specs.Machine.{earlier, branch_latest, last_branch}
use Rattle.ts_pattern.proofs.LevelLemmas.{with_is}
use Rattle.ts_pattern.proofs.level.Level.with.Goals as goal

pub returns : goal.returns
returns c p a hs hx =
    with_is p a c.args.self c.args.part c.push.new.self c.max.result c.max-2.result c.added.result hs hx
    c.in_ok-push.ensures.ok c.max.ensures c.max-2.ensures
    (c.added.ensures (earlier p) (branch_latest (last_branch p)) (ap (λ (s : Level). s.earlier) hs) (ap (λ (s : Level). s.latest) hs))
