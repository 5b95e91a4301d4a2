use Rattle.ts_numbering.specs.Numberings.{numbers_of}
use Rattle.ts_numbering.proofs.NumberLemmas.{if_ok_is, any_times_is}
use Rattle.ts_numbering.proofs.trees.repeat_tree.Goals as goal

pub returns : goal.returns
returns c = if_ok_is c.step_or_blank.result _ _ (any_times_is (numbers_of c.args.numbering.now) c.args.content.now _ _ c.shape_of.result c.repetition_number-number.ensures c.shape_of.ensures) c.step_or_blank.ensures
