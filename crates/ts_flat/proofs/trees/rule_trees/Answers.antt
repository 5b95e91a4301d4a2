use Rattle.std.proofs.Common.{◌∙◌, sym, ap, arith}
use Rattle.ts_numbering.specs.Keys.{rules_told}
use Rattle.ts_numbering.specs.Numberings.{numbers_of}
use Rattle.ts_rules.specs.Numbers.{tree_of}
use Rattle.ts_productions.specs.Grammars.{rule_tree}
use Rattle.ts_flat.proofs.EachLemmas.{mapped_next, mapped_all, told_long}
use Rattle.ts_flat.proofs.trees.rule_trees.Goals as goal

pub loop-at-preserved : goal.loop-at-preserved
loop-at-preserved c =
    let n = numbers_of c.args.numbering.now in
    let es = c.args.rules.now.entries in
    mapped_next (rule_tree n) (rules_told es) c.loop-at.found.items _ c.loop-at.at c.in_ok-tree.tree (omega (arith, c.loop-at-test.true, c.len.ensures.len, told_long es))
    (λ rule h. ap (tree_of n) (c.tree_at.ensures rule h) ∙ sym c.in_ok-tree.ensures)
    c.in_ok-push.ensures.items c.loop-at.invariant

pub returns : goal.returns
returns c =
    let es = c.args.rules.now.entries in
    mapped_all (rule_tree (numbers_of c.args.numbering.now)) (rules_told es) c.loop-at.found.items c.loop-at.at (omega (arith, c.loop-at-test.false, c.len.ensures.len, told_long es)) c.loop-at.invariant
