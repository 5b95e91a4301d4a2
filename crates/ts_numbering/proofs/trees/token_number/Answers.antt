use Rattle.std.proofs.Common.{◌∙◌, ap, Bor}
use Rattle.ts_core.specs.declared.rule.Rule.{Rule}
use Rattle.ts_numbering.specs.Places.{number_or, same_tree}
use Rattle.ts_numbering.proofs.NumberLemmas.{place_map}
use Rattle.ts_numbering.proofs.trees.token_number.Goals as goal

pub returns : goal.returns
returns c = c.number_or_other.ensures ∙ ap (number_or 0 1) (c.get_index_of.ensures.index ∙ place_map (λ (t : Bor Rule). t.now) same_tree c.args.tree.now c.args.numbering.now.survey.tokens.keys)
