use Rattle.ts_normalise.proofs.FitListLemmas.{fit_extras, fit_word, fit_conflicts, fit_precedences, fit_supertypes}
use Rattle.ts_normalise.proofs.FitRefusalLemmas.{unrefused}
use Rattle.ts_normalise.proofs.fit_laws.forms_have_fit_lists.Goals as goal

pub returns-clause-extras : goal.returns-clause-extras
returns-clause-extras c g f file flat = fit_extras g f flat.normal (unrefused g flat.accepted) file

pub returns-clause-word : goal.returns-clause-word
returns-clause-word c g f flat = fit_word g f flat.normal (unrefused g flat.accepted)

pub returns-clause-conflicts : goal.returns-clause-conflicts
returns-clause-conflicts c g f file flat = fit_conflicts g f flat.normal (unrefused g flat.accepted) file

pub returns-clause-precedences : goal.returns-clause-precedences
returns-clause-precedences c g f file flat = fit_precedences g f flat.normal (unrefused g flat.accepted) file

pub returns-clause-supertypes : goal.returns-clause-supertypes
returns-clause-supertypes c g f flat = let normal = flat.normal in (fit_supertypes g f normal (unrefused g flat.accepted), normal.supertypes_rise)
