use Rattle.std.proofs.Common.{◌≡◌, refl, true, false, sym, ◌∙◌}
use Rattle.ts_form.proofs.FormLemmas.{too_many, few_enough}
use Rattle.ts_form.proofs.form.within_positions.Goals as goal

pub returns-then-has_few_positions-clause-fits : goal.returns-then-has_few_positions-clause-fits
returns-then-has_few_positions-clause-fits c g defined normal =
    few_enough g c.args.form (λ h is. c.normal_forms_agree.ensures g h c.args.form defined is normal) (c.has_few_positions.ensures.0 c.if-has_few_positions.true)

pub returns-else-has_few_positions-clause-refused : goal.returns-else-has_few_positions-clause-refused
returns-else-has_few_positions-clause-refused c g normal =
    (refl, too_many g c.args.form normal (λ few. let e : true ≡ false = sym (c.has_few_positions.ensures.1 few) ∙ c.if-has_few_positions.false in cc))
