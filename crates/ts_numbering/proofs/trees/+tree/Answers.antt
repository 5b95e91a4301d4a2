use Rattle.std.proofs.Common.{◌∙◌, sym, ap, map}
use Rattle.std.proofs.lemmas.List.{take_all}
use Rattle.ts_core.specs.declared.rule.Rule.{Rule}
use Rattle.ts_core.specs.declared.rule.Rule.TheVariants as rule
use Rattle.ts_rules.specs.Numbers.{tree_of}
use Rattle.ts_rules.specs.declared.tree.Tree.TheVariants as tree
use Rattle.ts_numbering.specs.Numberings.{numbers_of}
use Rattle.ts_numbering.proofs.NumberLemmas.{leaf_is, tree_is, if_ok_is, mapped_more}
use Rattle.ts_numbering.proofs.TreeLemmas.{tree_blank, tree_literal, tree_pattern, tree_symbol, tree_token, tree_immediate_token, tree_repeat, tree_repeat1, tree_field, tree_alias, tree_prec, tree_prec_left, tree_prec_right, tree_prec_dynamic, tree_seq, tree_choice}
use Rattle.ts_numbering.proofs.trees.+tree.Goals as goal

pub tree_by-returns-in-Blank : goal.tree_by-returns-in-Blank
tree_by-returns-in-Blank t c = sym (ap (tree_of (numbers_of c.args.numbering.now)) c.in-Blank.is ∙ tree_blank (numbers_of c.args.numbering.now))

pub tree_by-returns-in-Literal : goal.tree_by-returns-in-Literal
tree_by-returns-in-Literal t c = leaf_is (numbers_of c.args.numbering.now) c.args.rule.now (rule.Literal _) _ c.in-Literal.is (tree_literal (numbers_of c.args.numbering.now) _) c.token_number.ensures

pub tree_by-returns-in-Pattern : goal.tree_by-returns-in-Pattern
tree_by-returns-in-Pattern t c = leaf_is (numbers_of c.args.numbering.now) c.args.rule.now (rule.Pattern _ _) _ c.in-Pattern.is (tree_pattern (numbers_of c.args.numbering.now) _ _) c.token_number-in-Pattern.ensures

pub tree_by-returns-in-Token : goal.tree_by-returns-in-Token
tree_by-returns-in-Token t c = leaf_is (numbers_of c.args.numbering.now) c.args.rule.now (rule.Token _) _ c.in-Token.is (tree_token (numbers_of c.args.numbering.now) _) c.token_number-in-Token.ensures

pub tree_by-returns-in-ImmediateToken : goal.tree_by-returns-in-ImmediateToken
tree_by-returns-in-ImmediateToken t c = leaf_is (numbers_of c.args.numbering.now) c.args.rule.now (rule.ImmediateToken _) _ c.in-ImmediateToken.is (tree_immediate_token (numbers_of c.args.numbering.now) _) c.token_number-in-ImmediateToken.ensures

pub tree_by-returns-in-Symbol : goal.tree_by-returns-in-Symbol
tree_by-returns-in-Symbol t c = tree_is (numbers_of c.args.numbering.now) c.args.rule.now (rule.Symbol c.in-Symbol.name) _ _ c.in-Symbol.is (tree_symbol (numbers_of c.args.numbering.now) c.in-Symbol.name) (ap tree.Step c.rule_number.ensures)

pub tree_by-returns-in_ok-trees_by-in-Seq : goal.tree_by-returns-in_ok-trees_by-in-Seq
tree_by-returns-in_ok-trees_by-in-Seq t c =
    tree_is (numbers_of c.args.numbering.now) c.args.rule.now (rule.Seq c.as_slice.result.now) _ _ (c.in-Seq.is ∙ ap rule.Seq (sym c.as_slice.ensures)) (tree_seq (numbers_of c.args.numbering.now) c.as_slice.result.now) (ap tree.Seq c.in_ok-trees_by-in-Seq.ensures)

pub tree_by-returns-in_ok-trees_by-in-Choice : goal.tree_by-returns-in_ok-trees_by-in-Choice
tree_by-returns-in_ok-trees_by-in-Choice t c =
    tree_is (numbers_of c.args.numbering.now) c.args.rule.now (rule.Choice c.as_slice-in-Choice.result.now) _ _ (c.in-Choice.is ∙ ap rule.Choice (sym c.as_slice-in-Choice.ensures)) (tree_choice (numbers_of c.args.numbering.now) c.as_slice-in-Choice.result.now) (ap tree.Choice c.in_ok-trees_by-in-Choice.ensures)

pub trees_by-returns : goal.trees_by-returns
trees_by-returns t c = c.loop-rule.invariant ∙ ap (map (tree_of (numbers_of c.args.numbering.now))) (take_all c.loop-rule.rule-index c.args.rules.now c.loop-rule-test.false)

pub tree_by-returns-in-Repeat : goal.tree_by-returns-in-Repeat
tree_by-returns-in-Repeat t c =
    if_ok_is c.repeat_tree.result _ _ (sym (ap (tree_of (numbers_of c.args.numbering.now)) (c.in-Repeat.is ∙ ap rule.Repeat (sym c.get.ensures)) ∙ tree_repeat (numbers_of c.args.numbering.now) _)) c.repeat_tree.ensures

pub tree_by-returns-in-Repeat1 : goal.tree_by-returns-in-Repeat1
tree_by-returns-in-Repeat1 t c =
    if_ok_is c.repeat1_tree.result _ _ (sym (ap (tree_of (numbers_of c.args.numbering.now)) (c.in-Repeat1.is ∙ ap rule.Repeat1 (sym c.get-in-Repeat1.ensures)) ∙ tree_repeat1 (numbers_of c.args.numbering.now) _)) c.repeat1_tree.ensures

pub tree_by-returns-in-Field : goal.tree_by-returns-in-Field
tree_by-returns-in-Field t c =
    if_ok_is c.field_by.result _ _ (sym (ap (tree_of (numbers_of c.args.numbering.now)) (c.in-Field.is ∙ ap (λ (x : Rule). rule.Field c.in-Field.name x) (sym c.get-in-Field.ensures)) ∙ tree_field (numbers_of c.args.numbering.now) c.in-Field.name _)) c.field_by.ensures

pub tree_by-returns-in-Alias : goal.tree_by-returns-in-Alias
tree_by-returns-in-Alias t c =
    if_ok_is c.alias_by.result _ _ (sym (ap (tree_of (numbers_of c.args.numbering.now)) (c.in-Alias.is ∙ ap (λ (x : Rule). rule.Alias x c.in-Alias.named c.in-Alias.value) (sym c.get-in-Alias.ensures)) ∙ tree_alias (numbers_of c.args.numbering.now) _ c.in-Alias.named c.in-Alias.value)) c.alias_by.ensures

pub tree_by-returns-in-Prec : goal.tree_by-returns-in-Prec
tree_by-returns-in-Prec t c =
    if_ok_is c.group_by.result _ _ (sym (ap (tree_of (numbers_of c.args.numbering.now)) (c.in-Prec.is ∙ ap (λ (x : Rule). rule.Prec c.in-Prec.value x) (sym c.get-in-Prec.ensures)) ∙ tree_prec (numbers_of c.args.numbering.now) c.in-Prec.value _)) c.group_by.ensures

pub tree_by-returns-in-PrecLeft : goal.tree_by-returns-in-PrecLeft
tree_by-returns-in-PrecLeft t c =
    if_ok_is c.group_by-in-PrecLeft.result _ _ (sym (ap (tree_of (numbers_of c.args.numbering.now)) (c.in-PrecLeft.is ∙ ap (λ (x : Rule). rule.PrecLeft c.in-PrecLeft.value x) (sym c.get-in-PrecLeft.ensures)) ∙ tree_prec_left (numbers_of c.args.numbering.now) c.in-PrecLeft.value _)) c.group_by-in-PrecLeft.ensures

pub tree_by-returns-in-PrecRight : goal.tree_by-returns-in-PrecRight
tree_by-returns-in-PrecRight t c =
    if_ok_is c.group_by-in-PrecRight.result _ _ (sym (ap (tree_of (numbers_of c.args.numbering.now)) (c.in-PrecRight.is ∙ ap (λ (x : Rule). rule.PrecRight c.in-PrecRight.value x) (sym c.get-in-PrecRight.ensures)) ∙ tree_prec_right (numbers_of c.args.numbering.now) c.in-PrecRight.value _)) c.group_by-in-PrecRight.ensures

pub tree_by-returns-in-PrecDynamic : goal.tree_by-returns-in-PrecDynamic
tree_by-returns-in-PrecDynamic t c =
    if_ok_is c.dynamic_by.result _ _ (sym (ap (tree_of (numbers_of c.args.numbering.now)) (c.in-PrecDynamic.is ∙ ap (λ (x : Rule). rule.PrecDynamic c.in-PrecDynamic.value x) (sym c.get-in-PrecDynamic.ensures)) ∙ tree_prec_dynamic (numbers_of c.args.numbering.now) c.in-PrecDynamic.value _)) c.dynamic_by.ensures

pub trees_by-loop-rule-preserved : goal.trees_by-loop-rule-preserved
trees_by-loop-rule-preserved t c =
    mapped_more (tree_of (numbers_of c.args.numbering.now)) c.args.rules.now c.loop-rule.rule-index c.rule-item.result c.loop-rule.trees c.push.new.self c.in_ok-tree.tree c.loop-rule-test.true c.rule-item.is c.in_ok-tree.ensures c.in_ok-push.ensures.ok c.loop-rule.invariant
