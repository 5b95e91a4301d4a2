use Rattle.ts_normalise.proofs.FitNameLemmas.{name_short, fields_short, precs_short}
use Rattle.ts_normalise.proofs.FitRefusalLemmas.{unrefused}
use Rattle.ts_normalise.proofs.fit_laws.forms_have_short_names.Goals as goal

pub returns-clause-name : goal.returns-clause-name
returns-clause-name c g f file flat = name_short g f flat.normal file

pub returns-clause-fields : goal.returns-clause-fields
returns-clause-fields c g f file flat = fields_short g f flat.normal file (unrefused g flat.accepted)

pub returns-clause-precs : goal.returns-clause-precs
returns-clause-precs c g f file flat = precs_short g f flat.normal file (unrefused g flat.accepted)
