use Rattle.std.proofs.Common.{◌≡◌, ◌∙◌, sym, subst, refl, [], ◌∷◌, Some}
use Rattle.spec_trees.specs.declared.tree.Tree.{Tree}
use Rattle.ts_gss.specs.Stacks.{stack_at}
use Rattle.ts_steps.specs.Making.{IsSeenOf}
use Rattle.ts_steps.proofs.TopLemmas.{some_read, top_room, top_seen}
use Rattle.ts_steps.proofs.topmost.seen_on_top.Goals as goal

pub below-below-requires-clause-some : goal.below-below-requires-clause-some
below-below-requires-clause-some c = some_read (stack_at c.args.graph.now c.args.head.top) c.requires.one

pub depth-depth-requires-clause-some : goal.depth-depth-requires-clause-some
depth-depth-requires-clause-some c = some_read (stack_at c.args.graph.now c.args.head.top) c.requires.one

pub node-requires-clause-some : goal.node-requires-clause-some
node-requires-clause-some c = some_read (stack_at c.args.graph.now c.args.head.top) c.requires.one

pub seen_of-seen-requires : goal.seen_of-seen-requires
seen_of-seen-requires c =
    let v = c.requires.live in
    top_room v.0 v.1 c.args.head.place (stack_at c.args.graph.now c.args.head.top) (stack_at c.args.graph.now c.below-below.result) c.node.result.now c.args.ahead v.3.stack c.node.ensures c.requires.plain c.below-below.ensures.stack v.4 v.2

pub returns-clause-seen : goal.returns-clause-seen
returns-clause-seen c child top count one t size live room =
    let same : child ≡ c.node.result.now = let h : Some child ≡ Some c.node.result.now = top ∙ sym c.node.ensures in cc in
    top_seen t size c.args.head.place (stack_at c.args.graph.now c.args.head.top) (stack_at c.args.graph.now c.below-below.result) child c.args.ahead c.seen_of-seen.result
    (record { extent = c.seen_of-seen.result.extent; stated = c.seen_of-seen.result.stated; depth = c.depth-depth.result; below = c.below-below.result })
    live.stack top c.requires.plain c.below-below.ensures.stack c.depth-depth.ensures room c.requires.some
    (subst (λ (x : Tree). IsSeenOf (x ∷ []) c.args.ahead c.seen_of-seen.result) (sym same) c.seen_of-seen.ensures) refl refl count one
