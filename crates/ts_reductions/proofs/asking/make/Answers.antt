use Rattle.std.proofs.Common.{◌≡◌, ◌∙◌, sym, refl, subst, ℕ, ◌<◌, List, length}
use Rattle.ts_graph.specs.Ways.{AreAt}
use Rattle.ts_reductions.specs.Asking.{inner_of, outer_of, children_on, extras_on}
use Rattle.ts_reductions.proofs.CallLemmas.{number_low, below_low, split_low, outer_at, inner_at, inner_some, inner_shallow, too_deep, state_requires, room_for, node_requires, made_for}
use Rattle.ts_reductions.proofs.asking.make.Goals as goal

pub get-line-requires : goal.get-line-requires
get-line-requires c =
    let r = c.requires in
    number_low c.laws_hold.ensures c.node_laws_hold.ensures c.args.table.now c.stands.ensures r.0 c.args.setting.now c.args.graph.now c.args.asked.batch c.args.asked.top c.args.asked.number r.1 c.args.below r.2 r.4

pub split_at-requires : goal.split_at-requires
split_at-requires c =
    let r = c.requires in
    let p : AreAt c.args.graph.now.links c.args.links.now r.1 = r.3 in
    split_low c.laws_hold.ensures c.node_laws_hold.ensures c.args.table.now c.stands.ensures r.0 c.args.setting.now c.args.graph.now c.args.asked.batch c.args.asked.top c.args.asked.number r.1 c.args.below r.2 r.4 c.args.links.now p c.lifted.result (c.lifted.ensures r.1 p)

pub depth_over-depth-requires-clause-way : goal.depth_over-depth-requires-clause-way
depth_over-depth-requires-clause-way c =
    let r = c.requires in
    let p : AreAt c.args.graph.now.links c.args.links.now r.1 = r.3 in
    let low : AreAt c.args.graph.now.links c.split_at.result.1.now (inner_of r.1) = subst (λ (ns : List ℕ). AreAt c.args.graph.now.links ns (inner_of r.1)) (sym c.split_at.ensures.back) (inner_at c.laws_hold.ensures c.node_laws_hold.ensures c.args.table.now c.stands.ensures r.0 c.args.setting.now c.args.graph.now c.args.asked.batch c.args.asked.top c.args.asked.number r.1 c.args.below r.2 r.4 c.args.links.now p c.lifted.result (c.lifted.ensures r.1 p)) in
    (inner_of r.1, low, inner_shallow c.laws_hold.ensures c.node_laws_hold.ensures c.args.table.now c.stands.ensures r.0 c.args.setting.now c.args.graph.now c.args.asked.batch c.args.asked.top c.args.asked.number r.1 c.args.below r.2 r.4)

pub depth_over-depth-requires-clause-some : goal.depth_over-depth-requires-clause-some
depth_over-depth-requires-clause-some c =
    let r = c.requires in
    let p : AreAt c.args.graph.now.links c.args.links.now r.1 = r.3 in
    subst (λ (ns : List ℕ). 0 < length ns) (sym c.split_at.ensures.back) (inner_some c.laws_hold.ensures c.node_laws_hold.ensures c.args.table.now c.stands.ensures r.0 c.args.setting.now c.args.graph.now c.args.asked.batch c.args.asked.top c.args.asked.number r.1 c.args.below r.2 r.4 c.args.links.now p c.lifted.result (c.lifted.ensures r.1 p))

pub returns-then-depth-gt-MOST_DEPTH : goal.returns-then-depth-gt-MOST_DEPTH
returns-then-depth-gt-MOST_DEPTH c = λ text links ready at asked.
    let p : AreAt c.args.graph.now.links c.args.links.now links = at in
    let low : AreAt c.args.graph.now.links c.split_at.result.1.now (inner_of links) = subst (λ (ns : List ℕ). AreAt c.args.graph.now.links ns (inner_of links)) (sym c.split_at.ensures.back) (inner_at c.laws_hold.ensures c.node_laws_hold.ensures c.args.table.now c.stands.ensures text c.args.setting.now c.args.graph.now c.args.asked.batch c.args.asked.top c.args.asked.number links c.args.below ready asked c.args.links.now p c.lifted.result (c.lifted.ensures links p)) in
    let deep = c.depth_over-depth.ensures (inner_of links) low in
    too_deep c.laws_hold.ensures c.node_laws_hold.ensures c.args.table.now c.stands.ensures text c.args.setting.now c.args.graph.now c.args.asked.batch c.args.asked.top c.args.asked.number links c.args.below ready asked c.get-line.result.now c.get-line.ensures c.depth_over-depth.result deep c.if-depth-gt-MOST_DEPTH.true

pub trees_up-requires : goal.trees_up-requires
trees_up-requires c =
    let r = c.requires in
    let p : AreAt c.args.graph.now.links c.args.links.now r.1 = r.3 in
    let up : AreAt c.args.graph.now.links c.split_at.result.0.now (outer_of r.1) = subst (λ (ns : List ℕ). AreAt c.args.graph.now.links ns (outer_of r.1)) (sym c.split_at.ensures.front) (outer_at c.laws_hold.ensures c.node_laws_hold.ensures c.args.table.now c.stands.ensures r.0 c.args.setting.now c.args.graph.now c.args.asked.batch c.args.asked.top c.args.asked.number r.1 c.args.below r.2 r.4 c.args.links.now p c.lifted.result (c.lifted.ensures r.1 p)) in
    (outer_of r.1, up)

pub heads_up-requires : goal.heads_up-requires
heads_up-requires c =
    let r = c.requires in
    let p : AreAt c.args.graph.now.links c.args.links.now r.1 = r.3 in
    let up : AreAt c.args.graph.now.links c.split_at.result.0.now (outer_of r.1) = subst (λ (ns : List ℕ). AreAt c.args.graph.now.links ns (outer_of r.1)) (sym c.split_at.ensures.front) (outer_at c.laws_hold.ensures c.node_laws_hold.ensures c.args.table.now c.stands.ensures r.0 c.args.setting.now c.args.graph.now c.args.asked.batch c.args.asked.top c.args.asked.number r.1 c.args.below r.2 r.4 c.args.links.now p c.lifted.result (c.lifted.ensures r.1 p)) in
    (outer_of r.1, up)

pub trees_up-requires-2 : goal.trees_up-requires-2
trees_up-requires-2 c =
    let r = c.requires in
    let p : AreAt c.args.graph.now.links c.args.links.now r.1 = r.3 in
    let low : AreAt c.args.graph.now.links c.split_at.result.1.now (inner_of r.1) = subst (λ (ns : List ℕ). AreAt c.args.graph.now.links ns (inner_of r.1)) (sym c.split_at.ensures.back) (inner_at c.laws_hold.ensures c.node_laws_hold.ensures c.args.table.now c.stands.ensures r.0 c.args.setting.now c.args.graph.now c.args.asked.batch c.args.asked.top c.args.asked.number r.1 c.args.below r.2 r.4 c.args.links.now p c.lifted.result (c.lifted.ensures r.1 p)) in
    (inner_of r.1, low)

pub extent_over-extent-requires-clause-room : goal.extent_over-extent-requires-clause-room
extent_over-extent-requires-clause-room c =
    let r = c.requires in
    let p : AreAt c.args.graph.now.links c.args.links.now r.1 = r.3 in
    let up : AreAt c.args.graph.now.links c.split_at.result.0.now (outer_of r.1) = subst (λ (ns : List ℕ). AreAt c.args.graph.now.links ns (outer_of r.1)) (sym c.split_at.ensures.front) (outer_at c.laws_hold.ensures c.node_laws_hold.ensures c.args.table.now c.stands.ensures r.0 c.args.setting.now c.args.graph.now c.args.asked.batch c.args.asked.top c.args.asked.number r.1 c.args.below r.2 r.4 c.args.links.now p c.lifted.result (c.lifted.ensures r.1 p)) in
    let low : AreAt c.args.graph.now.links c.split_at.result.1.now (inner_of r.1) = subst (λ (ns : List ℕ). AreAt c.args.graph.now.links ns (inner_of r.1)) (sym c.split_at.ensures.back) (inner_at c.laws_hold.ensures c.node_laws_hold.ensures c.args.table.now c.stands.ensures r.0 c.args.setting.now c.args.graph.now c.args.asked.batch c.args.asked.top c.args.asked.number r.1 c.args.below r.2 r.4 c.args.links.now p c.lifted.result (c.lifted.ensures r.1 p)) in
    let cs_are : c.as_slice-children.result.now ≡ children_on r.1 = c.as_slice-children.ensures.value ∙ c.in_ok-trees_up-2.ensures (inner_of r.1) low in
    let xs_are : c.as_slice.result.now ≡ extras_on r.1 = c.as_slice.ensures.value ∙ c.in_ok-trees_up.ensures (outer_of r.1) up in
    room_for c.laws_hold.ensures c.node_laws_hold.ensures c.args.table.now c.stands.ensures r.0 c.args.setting.now c.args.graph.now c.args.asked.batch c.args.asked.top c.args.asked.number r.1 c.args.below r.2 r.4 c.get-line.result.now c.get-line.ensures c.values_are_small.ensures c.as_slice-children.result.now c.as_slice.result.now cs_are xs_are

pub node_of-requires : goal.node_of-requires
node_of-requires c =
    let r = c.requires in
    let p : AreAt c.args.graph.now.links c.args.links.now r.1 = r.3 in
    let up : AreAt c.args.graph.now.links c.split_at.result.0.now (outer_of r.1) = subst (λ (ns : List ℕ). AreAt c.args.graph.now.links ns (outer_of r.1)) (sym c.split_at.ensures.front) (outer_at c.laws_hold.ensures c.node_laws_hold.ensures c.args.table.now c.stands.ensures r.0 c.args.setting.now c.args.graph.now c.args.asked.batch c.args.asked.top c.args.asked.number r.1 c.args.below r.2 r.4 c.args.links.now p c.lifted.result (c.lifted.ensures r.1 p)) in
    let low : AreAt c.args.graph.now.links c.split_at.result.1.now (inner_of r.1) = subst (λ (ns : List ℕ). AreAt c.args.graph.now.links ns (inner_of r.1)) (sym c.split_at.ensures.back) (inner_at c.laws_hold.ensures c.node_laws_hold.ensures c.args.table.now c.stands.ensures r.0 c.args.setting.now c.args.graph.now c.args.asked.batch c.args.asked.top c.args.asked.number r.1 c.args.below r.2 r.4 c.args.links.now p c.lifted.result (c.lifted.ensures r.1 p)) in
    let deep = c.depth_over-depth.ensures (inner_of r.1) low in
    let cs_are : c.as_slice-children.result.now ≡ children_on r.1 = c.as_slice-children.ensures.value ∙ c.in_ok-trees_up-2.ensures (inner_of r.1) low in
    let xs_are : c.as_slice.result.now ≡ extras_on r.1 = c.as_slice.ensures.value ∙ c.in_ok-trees_up.ensures (outer_of r.1) up in
    node_requires c.laws_hold.ensures c.node_laws_hold.ensures c.args.table.now c.stands.ensures r.0 c.args.setting.now c.args.graph.now c.args.asked.batch c.args.asked.top c.args.asked.number r.1 c.args.below r.2 r.4 c.get-line.result.now c.get-line.ensures c.values_are_small.ensures c.as_slice-children.result.now c.as_slice.result.now cs_are xs_are c.extent_over-extent.result c.depth_over-depth.result c.extent_over-extent.ensures.covers c.extent_over-extent.ensures.past deep c.if-depth-gt-MOST_DEPTH.false c.trees_up-2.new.nodes.items (sym c.as_slice-children.ensures.value)

pub head-requires : goal.head-requires
head-requires c =
    let r = c.requires in
    below_low c.laws_hold.ensures c.node_laws_hold.ensures c.args.table.now c.stands.ensures r.0 c.args.setting.now c.args.graph.now c.args.asked.batch c.args.asked.top c.args.asked.number r.1 c.args.below r.2 r.4

pub next_state-state-requires : goal.next_state-state-requires
next_state-state-requires c =
    let r = c.requires in
    state_requires c.laws_hold.ensures c.node_laws_hold.ensures c.args.table.now c.stands.ensures r.0 c.args.setting.now c.args.graph.now c.args.asked.batch c.args.asked.top c.args.asked.number r.1 c.args.below r.2 r.4 c.get-line.result.now c.get-line.ensures c.head.result c.head.ensures

pub returns : goal.returns
returns c = λ text links ready at asked.
    let p : AreAt c.args.graph.now.links c.args.links.now links = at in
    let up : AreAt c.args.graph.now.links c.split_at.result.0.now (outer_of links) = subst (λ (ns : List ℕ). AreAt c.args.graph.now.links ns (outer_of links)) (sym c.split_at.ensures.front) (outer_at c.laws_hold.ensures c.node_laws_hold.ensures c.args.table.now c.stands.ensures text c.args.setting.now c.args.graph.now c.args.asked.batch c.args.asked.top c.args.asked.number links c.args.below ready asked c.args.links.now p c.lifted.result (c.lifted.ensures links p)) in
    let low : AreAt c.args.graph.now.links c.split_at.result.1.now (inner_of links) = subst (λ (ns : List ℕ). AreAt c.args.graph.now.links ns (inner_of links)) (sym c.split_at.ensures.back) (inner_at c.laws_hold.ensures c.node_laws_hold.ensures c.args.table.now c.stands.ensures text c.args.setting.now c.args.graph.now c.args.asked.batch c.args.asked.top c.args.asked.number links c.args.below ready asked c.args.links.now p c.lifted.result (c.lifted.ensures links p)) in
    let deep = c.depth_over-depth.ensures (inner_of links) low in
    let cs_are : c.as_slice-children.result.now ≡ children_on links = c.as_slice-children.ensures.value ∙ c.in_ok-trees_up-2.ensures (inner_of links) low in
    let xs_are : c.as_slice.result.now ≡ extras_on links = c.as_slice.ensures.value ∙ c.in_ok-trees_up.ensures (outer_of links) up in
    made_for c.laws_hold.ensures c.node_laws_hold.ensures c.args.table.now c.stands.ensures text c.args.setting.now c.args.graph.now c.args.asked.batch c.args.asked.top c.args.asked.number links c.args.below ready asked c.get-line.result.now c.get-line.ensures c.values_are_small.ensures c.as_slice-children.result.now c.as_slice.result.now cs_are xs_are c.extent_over-extent.result c.depth_over-depth.result c.extent_over-extent.ensures.covers c.extent_over-extent.ensures.past deep c.if-depth-gt-MOST_DEPTH.false c.trees_up-2.new.nodes.items (sym c.as_slice-children.ensures.value) _ c.extent_over-extent.ensures.most c.head.result c.head.ensures c.next_state-state.ensures refl c.in_ok-node.ensures refl (c.in_ok-list_of.ensures ∙ sym c.as_slice.ensures.value) refl
