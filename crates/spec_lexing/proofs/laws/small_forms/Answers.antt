use Rattle.spec_lexing.proofs.RegularLemmas.{regular_empty, regular_set, regular_cat, regular_alt, regular_repeat}
use Rattle.spec_lexing.proofs.laws.small_forms.Goals as goal

pub returns-clause-empty_form : goal.returns-clause-empty_form
returns-clause-empty_form c = regular_empty

pub returns-clause-set : goal.returns-clause-set
returns-clause-set c = regular_set

pub returns-clause-cat : goal.returns-clause-cat
returns-clause-cat c = regular_cat

pub returns-clause-alt : goal.returns-clause-alt
returns-clause-alt c = regular_alt

pub returns-clause-repetition : goal.returns-clause-repetition
returns-clause-repetition c = regular_repeat
