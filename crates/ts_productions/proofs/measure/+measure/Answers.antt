use Rattle.std.proofs.Common.{◌∙◌, ap, sym, refl, arith}
use Rattle.ts_rules.specs.declared.tree.Tree.TheVariants.{Seq, Choice, Group}
use Rattle.ts_productions.proofs.MeasureLemmas.{measured_step, measured_seq, measured_choice, measured_group, joining_begins, joining_member, joining_ends, choosing_begins, choosing_branch, choosing_ends}
use Rattle.ts_productions.proofs.measure.+measure.Goals as goal

pub measure_of-returns-in-Step-clause-measure : goal.measure_of-returns-in-Step-clause-measure
measure_of-returns-in-Step-clause-measure t c around =
    measured_step c.args.weights.now c.args.tree.now c.in-Step.symbol c.step_measure.result around c.in-Step.is (c.step_measure.ensures.measure around)

pub measure_of-returns-in-Seq-clause-measure : goal.measure_of-returns-in-Seq-clause-measure
measure_of-returns-in-Seq-clause-measure t c around =
    measured_seq c.args.weights.now c.args.tree.now c.as_slice.result.now c.sequence_measure.result c.settled.result around (c.in-Seq.is ∙ ap Seq (sym c.as_slice.ensures)) (c.sequence_measure.ensures.measure around) c.settled.ensures.blank c.settled.ensures.filled c.settled.ensures.none c.settled.ensures.some

pub measure_of-returns-in-Choice-clause-measure : goal.measure_of-returns-in-Choice-clause-measure
measure_of-returns-in-Choice-clause-measure t c around =
    measured_choice c.args.weights.now c.args.tree.now c.as_slice-in-Choice.result.now c.choice_measure.result around (c.in-Choice.is ∙ ap Choice (sym c.as_slice-in-Choice.ensures)) (c.choice_measure.ensures.measure around)

pub measure_of-returns-in-Group-clause-measure : goal.measure_of-returns-in-Group-clause-measure
measure_of-returns-in-Group-clause-measure t c around =
    measured_group c.args.weights.now c.args.tree.now _ _ c.get-in-Group.result.now c.measure_of-in-Group.result around (c.in-Group.is ∙ ap (Group _ _) (sym c.get-in-Group.ensures)) c.measure_of-in-Group.ensures.measure

pub sequence_measure-loop-member-init : goal.sequence_measure-loop-member-init
sequence_measure-loop-member-init t c = record { small = (omega arith, omega arith, omega arith); so_far = λ around. joining_begins c.args.weights.now _ _ refl refl refl }

pub sequence_measure-loop-member-preserved : goal.sequence_measure-loop-member-preserved
sequence_measure-loop-member-preserved t c = record {
  small = c.joined-all.ensures.small;
  so_far = λ around. joining_member c.args.weights.now c.args.inner.now c.loop-member.member-index c.member-item.result c.loop-member.all c.measure_of.result c.joined-all.result around c.loop-member-test.true c.member-item.is c.measure_of.ensures.measure (c.loop-member.invariant.so_far around) c.joined-all.ensures.blank c.joined-all.ensures.filled c.joined-all.ensures.longest;
}

pub sequence_measure-returns-clause-measure : goal.sequence_measure-returns-clause-measure
sequence_measure-returns-clause-measure t c around = joining_ends c.args.weights.now c.args.inner.now c.loop-member.member-index c.loop-member.all around c.loop-member-test.false c.loop-member.invariant.small (c.loop-member.invariant.so_far around)

pub choice_measure-loop-branch-init : goal.choice_measure-loop-branch-init
choice_measure-loop-branch-init t c = record { small = (omega arith, omega arith, omega arith); so_far = λ around. choosing_begins c.args.weights.now _ _ refl refl refl }

pub choice_measure-loop-branch-preserved : goal.choice_measure-loop-branch-preserved
choice_measure-loop-branch-preserved t c = record {
  small = c.chosen-all.ensures.small;
  so_far = λ around. choosing_branch c.args.weights.now c.args.inner.now c.loop-branch.branch-index c.branch-item.result c.loop-branch.all c.measure_of.result c.chosen-all.result around c.loop-branch-test.true c.branch-item.is c.measure_of.ensures.measure (c.loop-branch.invariant.so_far around) c.chosen-all.ensures.blank c.chosen-all.ensures.filled c.chosen-all.ensures.longest;
}

pub choice_measure-returns-clause-measure : goal.choice_measure-returns-clause-measure
choice_measure-returns-clause-measure t c around = choosing_ends c.args.weights.now c.args.inner.now c.loop-branch.branch-index c.loop-branch.all around c.loop-branch-test.false c.loop-branch.invariant.small (c.loop-branch.invariant.so_far around)
