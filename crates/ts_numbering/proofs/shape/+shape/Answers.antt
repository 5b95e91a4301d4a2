use Rattle.std.proofs.Common.{ap, ◌∙◌, sym, refl, map, ◌-◌, arith}
use Rattle.ts_core.specs.declared.rule.Rule.TheVariants as rule
use Rattle.ts_core.specs.declared.rule.Rule.{Rule}
use Rattle.ts_rules.specs.Numbers.{tree_of}
use Rattle.ts_numbering.proofs.ShapeLemmas.{of_blank, of_step, of_seq, of_choice, of_field, of_alias, of_group, of_dynamic, of_any_times, of_many_times, joins_more, joins_whole, branches_more, branches_whole}
use Rattle.ts_numbering.proofs.TreeLemmas.{tree_blank, tree_literal, tree_pattern, tree_symbol, tree_token, tree_immediate_token, tree_repeat, tree_repeat1, tree_field, tree_alias, tree_prec, tree_prec_left, tree_prec_right, tree_prec_dynamic, tree_seq, tree_choice}
use Rattle.ts_numbering.proofs.shape.+shape.Goals as goal

pub shape_of-returns-in-Blank : goal.shape_of-returns-in-Blank
shape_of-returns-in-Blank t c n = of_blank _ _ refl refl (ap (tree_of n) c.in-Blank.is ∙ tree_blank n)

pub shape_of-returns-in-Literal : goal.shape_of-returns-in-Literal
shape_of-returns-in-Literal t c n = of_step _ _ _ refl refl (ap (tree_of n) c.in-Literal.is ∙ tree_literal n _)

pub shape_of-returns-in-Pattern : goal.shape_of-returns-in-Pattern
shape_of-returns-in-Pattern t c n = of_step _ _ _ refl refl (ap (tree_of n) c.in-Pattern.is ∙ tree_pattern n _ _)

pub shape_of-returns-in-Symbol : goal.shape_of-returns-in-Symbol
shape_of-returns-in-Symbol t c n = of_step _ _ _ refl refl (ap (tree_of n) c.in-Symbol.is ∙ tree_symbol n _)

pub shape_of-returns-in-Token : goal.shape_of-returns-in-Token
shape_of-returns-in-Token t c n = of_step _ _ _ refl refl (ap (tree_of n) c.in-Token.is ∙ tree_token n _)

pub shape_of-returns-in-ImmediateToken : goal.shape_of-returns-in-ImmediateToken
shape_of-returns-in-ImmediateToken t c n = of_step _ _ _ refl refl (ap (tree_of n) c.in-ImmediateToken.is ∙ tree_immediate_token n _)

pub shape_of-returns-in-Seq : goal.shape_of-returns-in-Seq
shape_of-returns-in-Seq t c n =
    of_seq _ (map (tree_of n) c.as_slice.result.now) _ (ap (tree_of n) (c.in-Seq.is ∙ ap rule.Seq (sym c.as_slice.ensures)) ∙ tree_seq n _) (c.joined_shape.ensures n)

pub shape_of-returns-in-Choice : goal.shape_of-returns-in-Choice
shape_of-returns-in-Choice t c n =
    of_choice _ (map (tree_of n) c.as_slice-in-Choice.result.now) _ (ap (tree_of n) (c.in-Choice.is ∙ ap rule.Choice (sym c.as_slice-in-Choice.ensures)) ∙ tree_choice n _) (c.branched_shape.ensures n)

pub shape_of-returns-in-Repeat : goal.shape_of-returns-in-Repeat
shape_of-returns-in-Repeat t c n =
    of_any_times _ (tree_of n c.get.result.now) _ _ c.shape_of.result (ap (tree_of n) (c.in-Repeat.is ∙ ap rule.Repeat (sym c.get.ensures)) ∙ tree_repeat n _) (c.shape_of.ensures n) c.or_blank.ensures.blank c.or_blank.ensures.filled

pub shape_of-returns-in-Repeat1 : goal.shape_of-returns-in-Repeat1
shape_of-returns-in-Repeat1 t c n =
    of_many_times _ (tree_of n c.get-in-Repeat1.result.now) _ _ (ap (tree_of n) (c.in-Repeat1.is ∙ ap rule.Repeat1 (sym c.get-in-Repeat1.ensures)) ∙ tree_repeat1 n _) (c.shape_of-in-Repeat1.ensures n)

pub shape_of-returns-in-Field : goal.shape_of-returns-in-Field
shape_of-returns-in-Field t c n =
    of_field _ (tree_of n c.get-in-Field.result.now) _ _ (ap (tree_of n) (c.in-Field.is ∙ ap (λ (x : Rule). rule.Field c.in-Field.name x) (sym c.get-in-Field.ensures)) ∙ tree_field n _ _) (c.shape_of-in-Field.ensures n)

pub shape_of-returns-in-Alias : goal.shape_of-returns-in-Alias
shape_of-returns-in-Alias t c n =
    of_alias _ (tree_of n c.get-in-Alias.result.now) _ _ (ap (tree_of n) (c.in-Alias.is ∙ ap (λ (x : Rule). rule.Alias x c.in-Alias.named c.in-Alias.value) (sym c.get-in-Alias.ensures)) ∙ tree_alias n _ _ _) (c.shape_of-in-Alias.ensures n)

pub shape_of-returns-in-Prec : goal.shape_of-returns-in-Prec
shape_of-returns-in-Prec t c n =
    of_group _ (tree_of n c.get-in-Prec.result.now) _ _ _ (ap (tree_of n) (c.in-Prec.is ∙ ap (λ (x : Rule). rule.Prec c.in-Prec.value x) (sym c.get-in-Prec.ensures)) ∙ tree_prec n _ _) (c.shape_of-in-Prec.ensures n)

pub shape_of-returns-in-PrecLeft : goal.shape_of-returns-in-PrecLeft
shape_of-returns-in-PrecLeft t c n =
    of_group _ (tree_of n c.get-in-PrecLeft.result.now) _ _ _ (ap (tree_of n) (c.in-PrecLeft.is ∙ ap (λ (x : Rule). rule.PrecLeft c.in-PrecLeft.value x) (sym c.get-in-PrecLeft.ensures)) ∙ tree_prec_left n _ _) (c.shape_of-in-PrecLeft.ensures n)

pub shape_of-returns-in-PrecRight : goal.shape_of-returns-in-PrecRight
shape_of-returns-in-PrecRight t c n =
    of_group _ (tree_of n c.get-in-PrecRight.result.now) _ _ _ (ap (tree_of n) (c.in-PrecRight.is ∙ ap (λ (x : Rule). rule.PrecRight c.in-PrecRight.value x) (sym c.get-in-PrecRight.ensures)) ∙ tree_prec_right n _ _) (c.shape_of-in-PrecRight.ensures n)

pub shape_of-returns-in-PrecDynamic : goal.shape_of-returns-in-PrecDynamic
shape_of-returns-in-PrecDynamic t c n =
    of_dynamic _ (tree_of n c.get-in-PrecDynamic.result.now) _ _ (ap (tree_of n) (c.in-PrecDynamic.is ∙ ap (λ (x : Rule). rule.PrecDynamic c.in-PrecDynamic.value x) (sym c.get-in-PrecDynamic.ensures)) ∙ tree_prec_dynamic n _ _) (c.shape_of-in-PrecDynamic.ensures n)

pub joined_shape-loop-left-preserved : goal.joined_shape-loop-left-preserved
joined_shape-loop-left-preserved t c = (
  omega (arith, c.loop-left.invariant.0),
  λ n. joins_more n c.args.members.now (c.loop-left.left - 1) c.loop-left.left c.index-members-left.result c.shape_of.result c.loop-left.all c.then-all.result (omega (arith, c.loop-left.invariant.0, c.loop-left-test.true)) (omega (arith, c.loop-left-test.true)) c.index-members-left.is (c.shape_of.ensures n) c.then-all.ensures.blank c.then-all.ensures.filled (c.loop-left.invariant.1 n),
)

pub joined_shape-returns : goal.joined_shape-returns
joined_shape-returns t c n = joins_whole n c.args.members.now c.loop-left.left c.loop-left.all c.loop-left-test.false (c.loop-left.invariant.1 n)

pub branched_shape-loop-left-preserved : goal.branched_shape-loop-left-preserved
branched_shape-loop-left-preserved t c = (
  omega (arith, c.loop-left.invariant.0),
  λ n. branches_more n c.args.members.now (c.loop-left.left - 1) c.loop-left.left c.index-members-left.result c.shape_of.result c.loop-left.all c.or-all.result (omega (arith, c.loop-left.invariant.0, c.loop-left-test.true)) (omega (arith, c.loop-left-test.true)) c.index-members-left.is (c.shape_of.ensures n) c.or-all.ensures.blank c.or-all.ensures.filled (c.loop-left.invariant.1 n),
)

pub branched_shape-returns : goal.branched_shape-returns
branched_shape-returns t c n = branches_whole n c.args.members.now c.loop-left.left c.loop-left.all c.loop-left-test.false (c.loop-left.invariant.1 n)
