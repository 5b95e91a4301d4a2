use Rattle.ts_front.proofs.LanguageLemmas.{FormLaws, read_again, language_shallow}
use Rattle.ts_front.proofs.laws.written_forms_are_read.Goals as goal

pub returns : goal.returns
returns c =
    let l : FormLaws = record {
      file = c.read_grammars_are_file_grammars.ensures;
      within = c.grammars_have_parts_within.ensures;
      fit = c.normal_forms_are_fit.ensures;
    } in
    record { again = read_again l c.written_is_read.ensures; language_file = language_shallow }
