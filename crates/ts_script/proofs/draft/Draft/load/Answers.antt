use Rattle.std.proofs.Common.{ap, List}
use Rattle.ts_base.specs.Bytes.{Bytes}
use Rattle.ts_script.proofs.DraftLemmas.{loaded_one}
use Rattle.ts_script.proofs.draft.Draft.load.Goals as goal

pub returns : goal.returns
returns c = λ before is. loaded_one before c.args.source c.args.self.now _ is
    (ap (λ (x : List Bytes). record c.args.self.now { queries = x }) c.in_ok-push.ensures.ok)
