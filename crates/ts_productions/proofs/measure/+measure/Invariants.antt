use Rattle.std.proofs.Common.{drop}
use Rattle.ts_rules.specs.Alternatives.{alternatives_each, choice_of}
use Rattle.ts_rules.specs.declared.tree.Around.{Around}
use Rattle.ts_productions.specs.Sizes.{IsSmallMeasure}
use Rattle.ts_productions.proofs.MeasureLemmas.{Joining, Choosing}
use Rattle.ts_productions.proofs.measure.+measure.Given as goal

abbrev pub invariant-choice_measure-loop-branch : goal.invariant-choice_measure-loop-branch
invariant-choice_measure-loop-branch l = record {
  small : IsSmallMeasure l.all;
  so_far : (around : Around) → Choosing l.weights l.all (choice_of l.inner around) (choice_of (drop l.branch-index l.inner) around);
}

abbrev pub invariant-sequence_measure-loop-member : goal.invariant-sequence_measure-loop-member
invariant-sequence_measure-loop-member l = record {
  small : IsSmallMeasure l.all;
  so_far : (around : Around) → Joining l.weights l.all (alternatives_each l.inner around) (alternatives_each (drop l.member-index l.inner) around);
}
