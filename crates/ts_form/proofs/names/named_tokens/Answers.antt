use Rattle.std.proofs.Common.{◌∙◌, ap}
use Rattle.ts_numbering.specs.Keys.{rules_told, trees}
use Rattle.ts_numbering.specs.Numberings.{lists_of}
use Rattle.ts_form.proofs.NameLemmas.{all_named}
use Rattle.ts_form.proofs.names.named_tokens.Goals as goal

pub returns-clause-trees : goal.returns-clause-trees
returns-clause-trees c = c.in_ok-found.ensures.trees ∙ ap trees c.as_slice.ensures.keys

pub returns-clause-names : goal.returns-clause-names
returns-clause-names c =
    let n = c.args.numbering.now in
    all_named c.args.grammar.now (rules_told n.survey.named.entries) c.requires.survey.named (lists_of n).tokens c.in_ok-names.names.items c.in_ok-found.found.items
    c.in_ok-names.ensures (c.in_ok-found.ensures.trees ∙ ap trees c.as_slice.ensures.keys) (c.in_ok-found.ensures.names ∙ c.as_slice-2.ensures.value)
