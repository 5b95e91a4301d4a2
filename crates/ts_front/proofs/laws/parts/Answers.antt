use Rattle.ts_front.proofs.laws.parts.Goals as goal

pub returns : goal.returns
returns c = record {
  one_value = c.one_value.ensures.read;
  no_value = c.refused_is_not_read.ensures;
  one_json_fault = c.one_fault.ensures;
  one_grammar = c.one_grammar.ensures;
  no_grammar = c.refused_is_no_grammar.ensures;
  one_form_fault = c.one_fault-2.ensures;
  one_normal_form = c.one_normal_form.ensures.flattened;
  one_refusal = c.one_refusal.ensures;
  no_normal_form = c.refused_is_not_flattened.ensures;
  one_language = c.one_grammar-2.ensures;
  no_language = c.refused_is_not_read-2.ensures;
  one_language_fault = c.one_fault-3.ensures;
}
