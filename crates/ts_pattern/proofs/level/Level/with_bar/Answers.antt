use Rattle.std.proofs.Common.{ap}
use Rattle.ts_pattern.specs.declared.level.Level.{Level}
use Rattle.ts_pattern.specs.Machine.{earlier, branch_latest, last_branch}
use Rattle.ts_pattern.proofs.LevelLemmas.{bar_is}
use Rattle.ts_pattern.proofs.level.Level.with_bar.Goals as goal

pub returns : goal.returns
returns c p hs =
    rw c.new.ensures (bar_is p c.args.self c.push.new.self c.joined.result c.added.result hs c.joined.ensures c.in_ok-push.ensures.ok
    (c.added.ensures (earlier p) (branch_latest (last_branch p)) (ap (λ (s : Level). s.earlier) hs) (ap (λ (s : Level). s.latest) hs)))
