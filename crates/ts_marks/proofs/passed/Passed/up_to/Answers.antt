use Rattle.std.proofs.Common.{◌≤◌, ◌∙◌, sym, subst}
use Rattle.ts_text.specs.declared.edit.Edit.{Edit}
use Rattle.spec_trees.specs.Made.{most_span}
use Rattle.spec_reuse.specs.Changes.{moved}
use Rattle.ts_marks.proofs.PassedLemmas.{has_next, towards, ends_begins, from_next}
use Rattle.ts_marks.proofs.passed.Passed.up_to.Goals as goal

pub with_next-passed-requires : goal.with_next-passed-requires
with_next-passed-requires c =
    has_next c.loop-passed.passed c.args.place (towards c.loop-passed.passed c.args.place c.loop-passed.invariant.from)
    (ends_begins c.loop-passed.passed c.args.place c.loop-passed.passed.passed.left (c.ends_by.ensures.0 c.loop-passed-test.true))
    (subst (λ (e : Edit). moved e c.args.place ≤ most_span) (sym c.loop-passed.invariant.edit) c.requires.short)

pub loop-passed-preserved : goal.loop-passed-preserved
loop-passed-preserved c = record {
  edit = c.with_next-passed.ensures.edit ∙ c.loop-passed.invariant.edit;
  from = from_next c.loop-passed.passed c.with_next-passed.result c.args.place c.with_next-passed.ensures (c.ends_by.ensures.0 c.loop-passed-test.true);
}
