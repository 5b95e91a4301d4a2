use Rattle.std.proofs.Common.{subst}
use Rattle.spec_matches.specs.declared.scene.Scene.{Scene}
use Rattle.ts_search.specs.Rows.{HaveParents}
use Rattle.ts_search.proofs.sight.Sight.count.Goals as goal

pub returns-clause-parents : goal.returns-clause-parents
returns-clause-parents c = subst (λ (s : Scene). HaveParents s.nodes) c.self.view_is c.self.invariant
