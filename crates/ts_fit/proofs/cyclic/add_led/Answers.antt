use Rattle.std.proofs.Common.{Option, ℕ, subst}
use Rattle.std.proofs.lemmas.Result.{on_ok_weaker}
use Rattle.ts_fit.specs.Searches.{IsLed}
use Rattle.ts_fit.proofs.CyclicLemmas.{adds_led, adds_not_led}
use Rattle.ts_fit.proofs.cyclic.add_led.Goals as goal

pub returns-in-Some : goal.returns-in-Some
returns-in-Some c =
    let leads = subst (λ (p : Option ℕ). IsLed c.args.grammar.now c.args.production.now p) c.in-Some.is c.led_to.ensures in
    on_ok_weaker c.add.result (adds_led c.args.grammar.now c.args.production.now c.in-Some.place _ _ leads) c.add.ensures

pub returns-in-None : goal.returns-in-None
returns-in-None c =
    let none = subst (λ (p : Option ℕ). IsLed c.args.grammar.now c.args.production.now p) c.in-None.is c.led_to.ensures in
    adds_not_led c.args.grammar.now c.args.production.now c.args.found.now.keys none
