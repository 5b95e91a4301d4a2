use Rattle.std.proofs.Common.{◌∙◌}
use Rattle.ts_form.proofs.NameLemmas.{number_above, number_within, token_by_number}
use Rattle.ts_form.proofs.names.token_named.Goals as goal

pub overflow_sub-result : goal.overflow_sub-result
overflow_sub-result c =
    number_above c.args.grammar.now c.args.numbering.now c.requires.numbering c.args.name.now c.requires.names c.from-number.result (c.from-number.ensures ∙ c.rule_number.ensures)

pub bounds-as_slice-number : goal.bounds-as_slice-number
bounds-as_slice-number c =
    number_within c.args.grammar.now c.args.numbering.now c.requires.numbering c.args.name.now c.requires.names c.from-number.result (c.from-number.ensures ∙ c.rule_number.ensures)
    c.as_slice.result.now c.as_slice.ensures.keys

pub returns : goal.returns
returns c =
    token_by_number c.args.grammar.now c.args.numbering.now c.requires.numbering c.args.name.now c.requires.names c.from-number.result (c.from-number.ensures ∙ c.rule_number.ensures)
    c.as_slice.result.now c.as_slice.ensures.keys c.index-as_slice-number.result c.index-as_slice-number.is
