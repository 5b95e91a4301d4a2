use Rattle.std.proofs.Common.{◌<◌, List, length, subst, sym}
use Rattle.ts_base.specs.Bytes.{Bytes}
use Rattle.ts_predicate.proofs.closure.HostClosureHosts.holds.Goals as goal

-- the closure answers by the rule
pub returns : goal.returns
returns g c =
    c.self.invariant.answers c.args.number c.args.text.now c.ask.result
    (subst (λ (names : List Bytes). c.args.number < length names) (sym c.self.view_is) c.requires)
    c.ask.ensures
