use Rattle.ts_session.proofs.DocumentLemmas.{TextLaws}
use Rattle.ts_session.proofs.RefusalLemmas.{Laws, status_once, line_once, loaded_or_refused}
use Rattle.ts_session.proofs.laws.one_refusal.Goals as goal

pub returns : goal.returns
returns c =
    let texts : TextLaws = (record { breaks_once = c.breaks_once.ensures.place; whole = c.breaks_once.ensures.text }) in
    let laws : Laws = (record {
      texts = texts;
      form_once = c.one_answer.ensures.form;
      line_once = c.one_compilation.ensures.line;
      line_or_compiled = c.one_compilation.ensures.either;
      plan_once = c.one_plan.ensures;
      fault_once = c.one_fault.ensures;
      fault_or_plan = c.refused_is_no_script.ensures;
      number_once = c.one_first_fault.ensures.number;
      first_once = c.one_first_fault.ensures.fault;
      first_or_none = c.one_first_fault.ensures.either;
    }) in
    record {
      status = status_once laws;
      line = line_once laws;
      loaded = λ called files. loaded_or_refused laws called files c.loaded_have_no_faults.ensures;
    }
