use Rattle.std.proofs.Common.{Option, ℕ, subst}
use Rattle.ts_fit.specs.Searches.{IsLed}
use Rattle.ts_fit.proofs.straight.open_child.Goals as goal

pub returns-in-None-clause-none : goal.returns-in-None-clause-none
returns-in-None-clause-none c to h =
    absurd ((subst (λ (p : Option ℕ). IsLed c.args.grammar.now c.args.production.now p) c.in-None.is c.led_to.ensures) to h)
