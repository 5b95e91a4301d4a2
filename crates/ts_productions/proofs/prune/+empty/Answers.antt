use Rattle.std.proofs.Common.{◌≡◌, ◌∙◌, sym, ap, subst, false, true}
use Rattle.ts_rules.specs.declared.tree.Tree.TheVariants as tree
use Rattle.ts_productions.specs.Thin.{IsBlankTree}
use Rattle.ts_productions.proofs.ThinLemmas.{blank_seq, blank_choice, blank_field, blank_alias, blank_group, blank_dynamic, blank_next, blank_all}
use Rattle.ts_productions.proofs.prune.+empty.Goals as goal

pub are_empty-loop-tree-preserved : goal.are_empty-loop-tree-preserved
are_empty-loop-tree-preserved t c = blank_next c.args.trees.now c.loop-tree.tree-index c.tree-item.result c.loop-tree-test.true c.tree-item.is c.loop-tree.invariant (c.is_empty.ensures c.if-not-is_empty.false)

pub are_empty-returns : goal.are_empty-returns
are_empty-returns t c = λ so. blank_all c.args.trees.now c.loop-tree.tree-index c.loop-tree-test.false c.loop-tree.invariant

pub is_empty-returns-in-Seq : goal.is_empty-returns-in-Seq
is_empty-returns-in-Seq t c = λ so. subst IsBlankTree (ap tree.Seq c.as_slice.ensures ∙ sym c.in-Seq.is) (blank_seq c.as_slice.result.now (c.are_empty.ensures so))

pub is_empty-returns-then-not-is_empty : goal.is_empty-returns-then-not-is_empty
is_empty-returns-then-not-is_empty t c = λ so. subst IsBlankTree (ap tree.Choice c.as_slice-then-not-is_empty.ensures ∙ sym c.in-Choice.is) (blank_choice c.as_slice-then-not-is_empty.result.now (λ e. let f : false ≡ true = c.if-not-is_empty.ensures.1 (sym c.as_slice-then-not-is_empty.ensures ∙ e) in cc) (c.are_empty-then-not-is_empty.ensures so))

pub is_empty-returns-in-Field : goal.is_empty-returns-in-Field
is_empty-returns-in-Field t c = λ so. subst IsBlankTree (ap (tree.Field c.in-Field.field-0) c.get.ensures ∙ sym c.in-Field.is) (blank_field c.in-Field.field-0 c.get.result.now (c.is_empty-in-Field.ensures so))

pub is_empty-returns-in-Alias : goal.is_empty-returns-in-Alias
is_empty-returns-in-Alias t c = λ so. subst IsBlankTree (ap (tree.Alias c.in-Alias.field-0) c.get-in-Alias.ensures ∙ sym c.in-Alias.is) (blank_alias c.in-Alias.field-0 c.get-in-Alias.result.now (c.is_empty-in-Alias.ensures so))

pub is_empty-returns-in-Group : goal.is_empty-returns-in-Group
is_empty-returns-in-Group t c = λ so. subst IsBlankTree (ap (tree.Group c.in-Group.field-0 c.in-Group.field-1) c.get-in-Group.ensures ∙ sym c.in-Group.is) (blank_group c.in-Group.field-0 c.in-Group.field-1 c.get-in-Group.result.now (c.is_empty-in-Group.ensures so))

pub is_empty-returns-in-Dynamic : goal.is_empty-returns-in-Dynamic
is_empty-returns-in-Dynamic t c = λ so. subst IsBlankTree (ap (tree.Dynamic c.in-Dynamic.field-0) c.get-in-Dynamic.ensures ∙ sym c.in-Dynamic.is) (blank_dynamic c.in-Dynamic.field-0 c.get-in-Dynamic.result.now (c.is_empty-in-Dynamic.ensures so))
