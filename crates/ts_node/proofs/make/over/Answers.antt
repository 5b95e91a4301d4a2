use Rattle.std.proofs.Common.{arith, ◌≡◌, ◌<◌, ◌∙◌, ap, length, [], List}
use Rattle.spec_trees.specs.declared.tree.Tree.{Tree}
use Rattle.ts_node.proofs.BodyLemmas.{HasRoom, room}
use Rattle.ts_node.proofs.make.over.Goals as goal

pub sums-sums-requires : goal.sums-sums-requires
sums-sums-requires c =
    let r : HasRoom [] c.args.children = room _ _ _ _ _ _ _ c.requires in
    let a : c.as_slice.result.now ≡ c.into_vec-children.result.items = c.as_slice.ensures.value in
    let b : c.into_vec-children.result.items ≡ c.args.children = c.into_vec-children.ensures in
    let e : length c.as_slice.result.now ≡ length c.args.children = ap (λ (ts : List Tree). length ts) (a ∙ b) in
    let g : length c.as_slice.result.now < 4294967296 = omega (arith, r.wide, e) in
    g
