use Rattle.std.proofs.Common.{subst, List, ◌∷◌, [], nat_eq}
use Rattle.std.proofs.lemmas.List.{take_all}
use Rattle.std.proofs.lemmas.List.Filters.{dedup_is}
use Rattle.std.proofs.lemmas.List.Kept.{IsStrictlySortedBy-dedup}
use Rattle.std.proofs.lemmas.Cmp.{nat_cmp_total}
use Rattle.ts_automata.specs.declared.node.Node.{Node}
use Rattle.ts_automata.specs.Classes.{HasBounds, OfNodes}
use Rattle.ts_automata.proofs.BoundLemmas.{nodes_none, nodes_more, is_cut, ties}
use Rattle.ts_automata.proofs.classes.bounds_of.Goals as goal

pub loop-node-init : goal.loop-node-init
loop-node-init c = rw (c.in_ok-push.ensures.items, c.new-all.ensures.items) (nodes_none c.args.nodes.now (0 ∷ []))

pub loop-node-preserved : goal.loop-node-preserved
loop-node-preserved c = nodes_more c.args.nodes.now c.loop-node.node-index c.node-item.result _ _ _ c.loop-node-test.true c.node-item.is c.loop-node.invariant c.in_ok-push_node.ensures

pub returns : goal.returns
returns c =
    let all = take_all _ _ c.loop-node-test.false in
    let has = subst (λ (l : List Node). HasBounds (OfNodes l) (0 ∷ []) c.loop-node.all.items) all c.loop-node.invariant in
    let is = dedup_is nat_eq _ _ c.dedup.ensures.filtered in
    is_cut c.args.nodes.now c.loop-node.all.items c.sort_unstable.new.self.items c.dedup.new.self.items has c.sort_unstable.ensures.permutation is
    (rw is (IsStrictlySortedBy-dedup nat_cmp_total ties _ c.sort_unstable.ensures.sorted))
