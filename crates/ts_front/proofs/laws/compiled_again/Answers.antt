use Rattle.ts_front.proofs.LanguageLemmas.{compiled_stays, language_stays, new_stays}
use Rattle.ts_front.proofs.LawLemmas.{OneAnswer}
use Rattle.ts_front.proofs.laws.compiled_again.Goals as goal

pub returns : goal.returns
returns c =
    let one : OneAnswer = record { form = c.one_answer.ensures.form; fault = c.one_answer.ensures.fault; either = c.one_answer.ensures.either } in
    record {
      grammar_file = compiled_stays one c.written_forms_are_read.ensures.again;
      language_file = language_stays one c.written_forms_are_read.ensures.again;
      new_version = new_stays;
    }
