use Rattle.std.proofs.Common.{◌∙◌, ap, Bor, ℕ}
use Rattle.ts_core.specs.declared.rule.Rule.{Rule}
use Rattle.ts_rules.specs.Numbers.{first_repetition}
use Rattle.ts_numbering.specs.Numberings.{lists_of}
use Rattle.ts_numbering.specs.Places.{number_or, same_tree}
use Rattle.ts_numbering.proofs.NumberLemmas.{place_map}
use Rattle.ts_numbering.proofs.trees.repetition_number.Goals as goal

pub returns : goal.returns
returns c =
    c.number_or_other.ensures
    ∙ ap (λ (first : ℕ). number_or 0 first c.get_index_of-place.result) c.repetitions_from.ensures
    ∙ ap (number_or 0 (first_repetition (lists_of c.args.numbering.now))) (c.get_index_of-place.ensures.index ∙ place_map (λ (t : Bor Rule). t.now) same_tree c.args.content.now c.args.numbering.now.survey.contents.keys)
