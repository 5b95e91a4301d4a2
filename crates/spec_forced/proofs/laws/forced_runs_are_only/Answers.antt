use Rattle.std.proofs.Common.{◌+◌, List, [], ◌∷◌, ◌++◌, append_assoc, subst}
use Rattle.spec_trees.specs.declared.tree.Tree.{Tree}
use Rattle.spec_trees.specs.Trees.{bare}
use Rattle.spec_forced.specs.OnlyRuns.{OnlyRun}
use Rattle.spec_forced.proofs.RunLemmas.{runs_above}
use Rattle.spec_forced.proofs.laws.forced_runs_are_only.Goals as goal

pub returns : goal.returns
returns c g text at t e f =
    subst (λ (l : List Tree). OnlyRun g text at (record { stack = l; place = at.place + f.bytes })) (append_assoc f.extras (bare t ∷ []) at.stack)
    (runs_above c.laws_hold.ensures g text at e (f.extras ++ bare t ∷ []) f.bytes f.run)
