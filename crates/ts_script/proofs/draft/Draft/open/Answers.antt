use Rattle.std.proofs.Common.{ap, List}
use Rattle.ts_script.specs.declared.plan.Source.{Source}
use Rattle.ts_script.proofs.DraftLemmas.{opened}
use Rattle.ts_script.proofs.draft.Draft.open.Goals as goal

pub returns : goal.returns
returns c = λ before said is e. opened before said c.args.source c.args.self.now _ is e
    (ap (λ (x : List Source). record c.args.self.now { documents = x }) c.in_ok-push.ensures.ok)
