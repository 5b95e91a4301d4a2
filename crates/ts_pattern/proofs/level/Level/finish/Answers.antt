use Rattle.std.proofs.Common.{[], ◌∷◌, ◌++◌, ap, sym, ◌∙◌}
use Rattle.ts_core.specs.declared.re.Re.{Re}
use Rattle.ts_pattern.specs.Trees.{chosen}
use Rattle.ts_pattern.specs.declared.level.Level.{Level}
use Rattle.ts_pattern.specs.Machine.{earlier, branch_latest, last_branch}
use Rattle.ts_pattern.proofs.LevelLemmas.{limit_is, whole_level}
use Rattle.ts_pattern.proofs.level.Level.finish.Goals as goal

pub returns-in-Some : goal.returns-in-Some
returns-in-Some c p hs =
    let positions = c.added.ensures (earlier p) (branch_latest (last_branch p)) (ap (λ (s : Level). s.earlier) hs) (ap (λ (s : Level). s.latest) hs) in
    sym (limit_is p c.args.self c.added.result hs positions) ∙ sym c.in-Some.ensures

pub returns-in_ok-chosen-in-None : goal.returns-in_ok-chosen-in-None
returns-in_ok-chosen-in-None c p hs =
    let positions = c.added.ensures (earlier p) (branch_latest (last_branch p)) (ap (λ (s : Level). s.earlier) hs) (ap (λ (s : Level). s.latest) hs) in
    let fits = sym (limit_is p c.args.self c.added.result hs positions) ∙ sym c.in-None.ensures in
    (fits, c.in_ok-chosen-in-None.ensures ∙ ap (λ (r : Re). chosen (c.args.self.branches ++ r ∷ [])) c.joined.ensures ∙ whole_level p c.args.self hs fits)
