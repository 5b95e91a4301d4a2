use Rattle.std.proofs.Common.{arith, ◌∙◌, sym, ap, List, ℕ, [], ◌∷◌, ◌++◌, take, nat_eq}
use Rattle.std.proofs.lemmas.List.{take_all, take_more}
use Rattle.std.proofs.lemmas.List.Filters.{dedup_is}
use Rattle.std.proofs.lemmas.Option.{get_or_from_slice_get}
use Rattle.ts_automata.proofs.OrderLemmas.{same_members}
use Rattle.ts_automata.proofs.closing.in_order.Goals as goal

pub loop-at-preserved : goal.loop-at-preserved
loop-at-preserved c =
    let xs = c.args.found.now.keys in
    let at = c.loop-at.at in
    let item = c.node_at.result in
    let more = take_more xs at item (let h = c.len-at-end.ensures.len in omega arith) ∙ ap (λ (x : ℕ). take at xs ++ x ∷ []) (get_or_from_slice_get xs at item item c.node_at.ensures) in
    c.in_ok-push.ensures.items ∙ ap (λ (l : List ℕ). l ++ item ∷ []) c.loop-at.invariant ∙ sym more

pub returns : goal.returns
returns c =
    let all = take_all c.loop-at.at c.args.found.now.keys (let h = c.len-at-end.ensures.len in omega arith) in
    same_members c.args.found.now.keys c.loop-at.nodes.items c.sort_unstable.new.self.items c.dedup.new.self.items (c.loop-at.invariant ∙ all) c.sort_unstable.ensures.permutation
    (dedup_is nat_eq _ _ c.dedup.ensures.filtered)
