use Rattle.std.proofs.Common.{◌≡◌, ◌∙◌, ℕ, ap, arith, List, length, take, drop}
use Rattle.spec_trees.specs.declared.tree.Tree.{Tree}
use Rattle.spec_trees.specs.Made.{children_count}
use Rattle.ts_node.proofs.ElementLemmas.{count_behind}
use Rattle.ts_node.proofs.settled.settled_behind.Goals as goal

pub settled_among-requires-clause-own : goal.settled_among-requires-clause-own
settled_among-requires-clause-own c =
    let es = c.args.elements.now in
    let ks = c.args.children.now in
    let rest : children_count c.split_at.result.1.now ≡ children_count (drop c.args.k es) = ap children_count c.split_at.ensures.back in
    let count : c.owned.result ≡ children_count (take c.args.k es) = c.owned.ensures ∙ ap children_count c.split_at.ensures.front in
    let behind : length c.split_at-2.result.1.now ≡ length (drop (children_count (take c.args.k es)) ks) =
    ap (λ (xs : List Tree). length xs) c.split_at-2.ensures.back ∙ ap (λ (n : ℕ). length (drop n ks)) count in
    omega (arith, rest, behind, count_behind c.args.k es ks c.requires.own)
