use Rattle.ts_front.proofs.CompileLemmas.{compiled_once, line_once, line_or_compiled}
use Rattle.ts_front.proofs.LawLemmas.{OneAnswer}
use Rattle.ts_front.proofs.laws.one_compilation.Goals as goal

pub returns : goal.returns
returns c =
    let l : OneAnswer = record { form = c.one_answer.ensures.form; fault = c.one_answer.ensures.fault; either = c.one_answer.ensures.either } in
    record {
      bytes = compiled_once l c.one_table_fault.ensures.fault c.one_table_fault.ensures.either;
      line = line_once l c.one_table_fault.ensures.fault c.one_table_fault.ensures.either;
      either = line_or_compiled l c.one_table_fault.ensures.fault c.one_table_fault.ensures.either;
    }
