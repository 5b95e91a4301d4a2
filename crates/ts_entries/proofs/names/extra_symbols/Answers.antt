use Rattle.std.proofs.Common.{sym, subst, List, take}
use Rattle.std.specs.Borrow.{Bor}
use Rattle.ts_core.specs.declared.rule.Rule.{Rule}
use Rattle.ts_core.specs.declared.symbol.Symbol.{Symbol}
use Rattle.ts_numbering.specs.Numberings.{numbers_of}
use Rattle.ts_rules.specs.FirstSights.{Each}
use Rattle.ts_rules.specs.Normal.{IsExtra}
use Rattle.ts_entries.proofs.MemberLemmas.{each_begin, each_more, each_all, each_told}
use Rattle.ts_entries.proofs.names.extra_symbols.Goals as goal

pub loop-tree-init : goal.loop-tree-init
loop-tree-init c =
    let R = λ (tree : Bor Rule) (s : Symbol). IsExtra (numbers_of c.args.numbering.now) tree.now s in
    subst (λ (ss : List Symbol). Each R (take 0 c.args.extras.now) ss) (sym c.in_ok-symbols.ensures) (each_begin R c.args.extras.now)

pub loop-tree-preserved : goal.loop-tree-preserved
loop-tree-preserved c =
    each_more (λ (tree : Bor Rule) (s : Symbol). IsExtra (numbers_of c.args.numbering.now) tree.now s) c.args.extras.now c.loop-tree.symbols _ c.loop-tree.tree-index c.tree-item.result _ c.loop-tree-test.true c.tree-item.is
    c.extra_symbol.ensures c.in_ok-push.ensures.ok c.loop-tree.invariant

pub returns : goal.returns
returns c =
    let R = λ (tree : Bor Rule) (s : Symbol). IsExtra (numbers_of c.args.numbering.now) tree.now s in
    each_told (IsExtra (numbers_of c.args.numbering.now)) c.args.extras.now c.loop-tree.symbols (each_all R c.args.extras.now c.loop-tree.symbols c.loop-tree.tree-index c.loop-tree-test.false c.loop-tree.invariant)
