use Rattle.std.proofs.Common.{◌≡◌, ◌∙◌, sym, ap, subst, ℕ, ◌-◌, ◌<◌, List, length, take, reverse, arith}
use Rattle.spec_graph.specs.Links.{way_trees}
use Rattle.ts_graph.specs.Ways.{AreAt}
use Rattle.ts_places.proofs.RootLemmas.{two, some_numbers, short, above_at, last_low, last_is, last_there, lower_low, rule_here, before_all, after_all, node, root_by}
use Rattle.ts_places.proofs.roots.root_on.Goals as goal

pub before_last-count-requires : goal.before_last-count-requires
before_last-count-requires c =
    let r = c.requires in
    subst (λ (ns : List ℕ). 0 < length ns) (sym c.as_slice-numbers.ensures) (some_numbers c.end_laws_hold.ensures r.0 r.1 c.args.graph.now c.args.size r.2 c.args.way.now r.3)

pub split_at-requires : goal.split_at-requires
split_at-requires c =
    let e = c.before_last-count.ensures in
    omega (arith, e)

pub trees_up-requires : goal.trees_up-requires
trees_up-requires c =
    let r = c.requires in
    let laws = c.end_laws_hold.ensures in
    let g = c.args.graph.now in
    let way = c.args.way.now in
    let same = c.as_slice-numbers.ensures in
    let e : c.before_last-count.result ≡ length way.links - 1 = c.before_last-count.ensures ∙ ap (λ (l : List ℕ). length l - 1) same in
    let cut : c.split_at.result.0.now ≡ take c.before_last-count.result way.links = c.split_at.ensures.front ∙ ap (λ (l : List ℕ). take c.before_last-count.result l) same in
    ((two laws r.0 r.1 g c.args.size r.2 way r.3).front, subst (λ (ns : List ℕ). AreAt g.links ns (two laws r.0 r.1 g c.args.size r.2 way r.3).front) (sym cut) (above_at laws r.0 r.1 g c.args.size r.2 way r.3 c.before_last-count.result e))

pub way_down-requires-clause-there : goal.way_down-requires-clause-there
way_down-requires-clause-there c = let r = c.requires in lower_low c.end_laws_hold.ensures r.0 r.1 c.args.graph.now c.args.size r.2 c.args.way.now r.3

pub way_down-requires-clause-sound : goal.way_down-requires-clause-sound
way_down-requires-clause-sound c = let r = c.requires in (r.0, r.1, r.3.sound)

pub trees_up-requires-2 : goal.trees_up-requires-2
trees_up-requires-2 c =
    let d = c.in_ok-below.ensures in
    (d.0, subst (λ (ns : List ℕ). AreAt c.args.graph.now.links ns d.0) (sym c.as_slice.ensures.value) d.1)

pub get-last-requires : goal.get-last-requires
get-last-requires c =
    let r = c.requires in
    last_low c.end_laws_hold.ensures r.0 r.1 c.args.graph.now c.args.size r.2 c.args.way.now r.3 c.before_last-count.result (c.before_last-count.ensures ∙ ap (λ (l : List ℕ). length l - 1) c.as_slice-numbers.ensures)

pub node-root-requires : goal.node-root-requires
node-root-requires c =
    let r = c.requires in
    last_there c.end_laws_hold.ensures r.0 r.1 c.args.graph.now c.args.size r.2 c.args.way.now r.3 c.before_last-count.result (c.before_last-count.ensures ∙ ap (λ (l : List ℕ). length l - 1) c.as_slice-numbers.ensures) c.get-last.result.now c.get-last.ensures

pub past_end-extent-requires : goal.past_end-extent-requires
past_end-extent-requires c = let r = c.requires in short c.end_laws_hold.ensures r.0 r.1 c.args.graph.now c.args.size r.2 c.args.way.now r.3

pub accept-requires-clause-rule : goal.accept-requires-clause-rule
accept-requires-clause-rule c =
    let r = c.requires in
    let laws = c.end_laws_hold.ensures in
    let g = c.args.graph.now in
    let way = c.args.way.now in
    let d = c.in_ok-below.ensures in
    let same = c.as_slice-numbers.ensures in
    let e : c.before_last-count.result ≡ length way.links - 1 = c.before_last-count.ensures ∙ ap (λ (l : List ℕ). length l - 1) same in
    let cut : c.split_at.result.0.now ≡ take c.before_last-count.result way.links = c.split_at.ensures.front ∙ ap (λ (l : List ℕ). take c.before_last-count.result l) same in
    let front = (two laws r.0 r.1 g c.args.size r.2 way r.3).front in
    let up : AreAt g.links c.split_at.result.0.now front = subst (λ (ns : List ℕ). AreAt g.links ns front) (sym cut) (above_at laws r.0 r.1 g c.args.size r.2 way r.3 c.before_last-count.result e) in
    let low : AreAt g.links c.as_slice.result.now d.0 = subst (λ (ns : List ℕ). AreAt g.links ns d.0) (sym c.as_slice.ensures.value) d.1 in
    let q = c.node-root.ensures (two laws r.0 r.1 g c.args.size r.2 way r.3).last (last_is laws r.0 r.1 g c.args.size r.2 way r.3 c.before_last-count.result e c.get-last.result.now c.get-last.ensures) in
    let b : c.as_slice-2.result.now ≡ reverse (way_trees d.0) = c.as_slice-2.ensures.value ∙ c.in_ok-before.ensures d.0 low in
    let a : c.as_slice-3.result.now ≡ reverse (way_trees front) = c.as_slice-3.ensures.value ∙ c.in_ok-after.ensures front up in
    rule_here laws r.0 r.1 g c.args.size r.2 way r.3 d.0 d.2 c.node-root.result.now c.as_slice-2.result.now c.as_slice-3.result.now c.past_end-extent.result q b a c.past_end-extent.ensures

pub accept-requires-clause-before : goal.accept-requires-clause-before
accept-requires-clause-before c =
    let r = c.requires in
    let laws = c.end_laws_hold.ensures in
    let g = c.args.graph.now in
    let way = c.args.way.now in
    let d = c.in_ok-below.ensures in
    let same = c.as_slice-numbers.ensures in
    let e : c.before_last-count.result ≡ length way.links - 1 = c.before_last-count.ensures ∙ ap (λ (l : List ℕ). length l - 1) same in
    let cut : c.split_at.result.0.now ≡ take c.before_last-count.result way.links = c.split_at.ensures.front ∙ ap (λ (l : List ℕ). take c.before_last-count.result l) same in
    let front = (two laws r.0 r.1 g c.args.size r.2 way r.3).front in
    let up : AreAt g.links c.split_at.result.0.now front = subst (λ (ns : List ℕ). AreAt g.links ns front) (sym cut) (above_at laws r.0 r.1 g c.args.size r.2 way r.3 c.before_last-count.result e) in
    let low : AreAt g.links c.as_slice.result.now d.0 = subst (λ (ns : List ℕ). AreAt g.links ns d.0) (sym c.as_slice.ensures.value) d.1 in
    let q = c.node-root.ensures (two laws r.0 r.1 g c.args.size r.2 way r.3).last (last_is laws r.0 r.1 g c.args.size r.2 way r.3 c.before_last-count.result e c.get-last.result.now c.get-last.ensures) in
    let b : c.as_slice-2.result.now ≡ reverse (way_trees d.0) = c.as_slice-2.ensures.value ∙ c.in_ok-before.ensures d.0 low in
    let a : c.as_slice-3.result.now ≡ reverse (way_trees front) = c.as_slice-3.ensures.value ∙ c.in_ok-after.ensures front up in
    before_all laws r.0 r.1 g c.args.size r.2 way r.3 d.0 d.2 c.node-root.result.now c.as_slice-2.result.now c.as_slice-3.result.now c.past_end-extent.result q b a c.past_end-extent.ensures

pub accept-requires-clause-after : goal.accept-requires-clause-after
accept-requires-clause-after c =
    let r = c.requires in
    let laws = c.end_laws_hold.ensures in
    let g = c.args.graph.now in
    let way = c.args.way.now in
    let d = c.in_ok-below.ensures in
    let same = c.as_slice-numbers.ensures in
    let e : c.before_last-count.result ≡ length way.links - 1 = c.before_last-count.ensures ∙ ap (λ (l : List ℕ). length l - 1) same in
    let cut : c.split_at.result.0.now ≡ take c.before_last-count.result way.links = c.split_at.ensures.front ∙ ap (λ (l : List ℕ). take c.before_last-count.result l) same in
    let front = (two laws r.0 r.1 g c.args.size r.2 way r.3).front in
    let up : AreAt g.links c.split_at.result.0.now front = subst (λ (ns : List ℕ). AreAt g.links ns front) (sym cut) (above_at laws r.0 r.1 g c.args.size r.2 way r.3 c.before_last-count.result e) in
    let low : AreAt g.links c.as_slice.result.now d.0 = subst (λ (ns : List ℕ). AreAt g.links ns d.0) (sym c.as_slice.ensures.value) d.1 in
    let q = c.node-root.ensures (two laws r.0 r.1 g c.args.size r.2 way r.3).last (last_is laws r.0 r.1 g c.args.size r.2 way r.3 c.before_last-count.result e c.get-last.result.now c.get-last.ensures) in
    let b : c.as_slice-2.result.now ≡ reverse (way_trees d.0) = c.as_slice-2.ensures.value ∙ c.in_ok-before.ensures d.0 low in
    let a : c.as_slice-3.result.now ≡ reverse (way_trees front) = c.as_slice-3.ensures.value ∙ c.in_ok-after.ensures front up in
    after_all laws r.0 r.1 g c.args.size r.2 way r.3 d.0 d.2 c.node-root.result.now c.as_slice-2.result.now c.as_slice-3.result.now c.past_end-extent.result q b a c.past_end-extent.ensures

pub accept-requires-clause-node : goal.accept-requires-clause-node
accept-requires-clause-node c =
    let r = c.requires in
    let laws = c.end_laws_hold.ensures in
    let g = c.args.graph.now in
    let way = c.args.way.now in
    let d = c.in_ok-below.ensures in
    let same = c.as_slice-numbers.ensures in
    let e : c.before_last-count.result ≡ length way.links - 1 = c.before_last-count.ensures ∙ ap (λ (l : List ℕ). length l - 1) same in
    let cut : c.split_at.result.0.now ≡ take c.before_last-count.result way.links = c.split_at.ensures.front ∙ ap (λ (l : List ℕ). take c.before_last-count.result l) same in
    let front = (two laws r.0 r.1 g c.args.size r.2 way r.3).front in
    let up : AreAt g.links c.split_at.result.0.now front = subst (λ (ns : List ℕ). AreAt g.links ns front) (sym cut) (above_at laws r.0 r.1 g c.args.size r.2 way r.3 c.before_last-count.result e) in
    let low : AreAt g.links c.as_slice.result.now d.0 = subst (λ (ns : List ℕ). AreAt g.links ns d.0) (sym c.as_slice.ensures.value) d.1 in
    let q = c.node-root.ensures (two laws r.0 r.1 g c.args.size r.2 way r.3).last (last_is laws r.0 r.1 g c.args.size r.2 way r.3 c.before_last-count.result e c.get-last.result.now c.get-last.ensures) in
    let b : c.as_slice-2.result.now ≡ reverse (way_trees d.0) = c.as_slice-2.ensures.value ∙ c.in_ok-before.ensures d.0 low in
    let a : c.as_slice-3.result.now ≡ reverse (way_trees front) = c.as_slice-3.ensures.value ∙ c.in_ok-after.ensures front up in
    node laws r.0 r.1 g c.args.size r.2 way r.3 d.0 d.2 c.node-root.result.now c.as_slice-2.result.now c.as_slice-3.result.now c.past_end-extent.result q b a c.past_end-extent.ensures

pub returns : goal.returns
returns c = λ t text h can.
    let laws = c.end_laws_hold.ensures in
    let g = c.args.graph.now in
    let way = c.args.way.now in
    let d = c.in_ok-below.ensures in
    let same = c.as_slice-numbers.ensures in
    let e : c.before_last-count.result ≡ length way.links - 1 = c.before_last-count.ensures ∙ ap (λ (l : List ℕ). length l - 1) same in
    let cut : c.split_at.result.0.now ≡ take c.before_last-count.result way.links = c.split_at.ensures.front ∙ ap (λ (l : List ℕ). take c.before_last-count.result l) same in
    let front = (two laws t text g c.args.size h way can).front in
    let up : AreAt g.links c.split_at.result.0.now front = subst (λ (ns : List ℕ). AreAt g.links ns front) (sym cut) (above_at laws t text g c.args.size h way can c.before_last-count.result e) in
    let low : AreAt g.links c.as_slice.result.now d.0 = subst (λ (ns : List ℕ). AreAt g.links ns d.0) (sym c.as_slice.ensures.value) d.1 in
    let q = c.node-root.ensures (two laws t text g c.args.size h way can).last (last_is laws t text g c.args.size h way can c.before_last-count.result e c.get-last.result.now c.get-last.ensures) in
    let b : c.as_slice-2.result.now ≡ reverse (way_trees d.0) = c.as_slice-2.ensures.value ∙ c.in_ok-before.ensures d.0 low in
    let a : c.as_slice-3.result.now ≡ reverse (way_trees front) = c.as_slice-3.ensures.value ∙ c.in_ok-after.ensures front up in
    root_by laws t text g c.args.size h way can d.0 d.2 c.node-root.result.now c.as_slice-2.result.now c.as_slice-3.result.now c.past_end-extent.result q b a c.past_end-extent.ensures c.in_ok-node.node c.in_ok-node.ensures
