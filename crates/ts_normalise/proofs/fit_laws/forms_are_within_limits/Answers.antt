use Rattle.ts_normalise.proofs.FitLimitLemmas.{few_symbols, few_fields, few_precs, few_productions, few_steps, few_positions, few_positions_in_all}
use Rattle.ts_normalise.proofs.FitRefusalLemmas.{unrefused}
use Rattle.ts_normalise.proofs.fit_laws.forms_are_within_limits.Goals as goal

pub returns-clause-symbols : goal.returns-clause-symbols
returns-clause-symbols c g f flat = few_symbols g f flat.normal (unrefused g flat.accepted)

pub returns-clause-fields : goal.returns-clause-fields
returns-clause-fields c g f flat = few_fields g f flat.normal (unrefused g flat.accepted)

pub returns-clause-precs : goal.returns-clause-precs
returns-clause-precs c g f flat = few_precs g f flat.normal (unrefused g flat.accepted)

pub returns-clause-productions : goal.returns-clause-productions
returns-clause-productions c g f flat = few_productions g f flat.normal (unrefused g flat.accepted)

pub returns-clause-steps : goal.returns-clause-steps
returns-clause-steps c g f r p flat w v = few_steps g f flat.normal (unrefused g flat.accepted) r p w v

pub returns-clause-positions : goal.returns-clause-positions
returns-clause-positions c g f d flat w = few_positions g f flat.normal (unrefused g flat.accepted) d w

pub returns-clause-positions_in_all : goal.returns-clause-positions_in_all
returns-clause-positions_in_all c g f flat = few_positions_in_all g f flat.normal (unrefused g flat.accepted)
