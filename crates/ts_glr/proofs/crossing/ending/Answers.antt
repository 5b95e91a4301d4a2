use Rattle.std.proofs.Common.{sym, subst, ℕ, List}
use Rattle.ts_places.specs.Best.{CanChoose, IsBestOn}
use Rattle.ts_glr.proofs.CrossLemmas.{can_choose, some_ends, tree_ends, stop_ends}
use Rattle.ts_glr.proofs.crossing.ending.Goals as goal

pub best_of-requires : goal.best_of-requires
best_of-requires c =
    let r = c.requires in
    (c.args.table.now, r.0, subst (λ (hs : List ℕ). CanChoose c.args.table.now r.0 c.args.spread.now.graph c.args.size hs) (sym c.as_slice.ensures.value) (can_choose c.args.table.now r.0 r.1 r.2 c.args.spread.now c.args.size r.3 r.4))

pub returns-in-Some : goal.returns-in-Some
returns-in-Some c text stacks first start h back p size =
    let t = c.args.table.now in
    let can = subst (λ (hs : List ℕ). CanChoose t text c.args.spread.now.graph c.args.size hs) (sym c.as_slice.ensures.value) (can_choose t text first h c.args.spread.now c.args.size p size) in
    let best = subst (λ (hs : List ℕ). IsBestOn t text c.args.spread.now.graph hs c.in_ok-node.field-0) c.as_slice.ensures.value (c.in_ok-node.ensures t text can) in
    tree_ends c.over_laws_hold.ensures t text first c.args.before c.further-stuck.result h c.args.spread.now p c.in_ok-node.field-0 best c.further-stuck.ensures.first c.further-stuck.ensures.second c.further-stuck.ensures.from c.stands.ensures stacks start back c.in-Some.node c.in-Some.is

pub returns-in-Some-stuck : goal.returns-in-Some-stuck
returns-in-Some-stuck c text stacks first start h back p size =
    let t = c.args.table.now in
    let can = subst (λ (hs : List ℕ). CanChoose t text c.args.spread.now.graph c.args.size hs) (sym c.as_slice.ensures.value) (can_choose t text first h c.args.spread.now c.args.size p size) in
    let best = subst (λ (hs : List ℕ). IsBestOn t text c.args.spread.now.graph hs c.in_ok-node.field-0) c.as_slice.ensures.value (c.in_ok-node.ensures t text can) in
    stop_ends c.over_laws_hold.ensures t text first c.args.before c.further-stuck.result h c.args.spread.now p c.in_ok-node.field-0 best c.further-stuck.ensures.first c.further-stuck.ensures.second c.further-stuck.ensures.from c.stands.ensures stacks start back c.in-Some-stuck.place c.in-None.is c.in-Some-stuck.is

pub unreachable-requires : goal.unreachable-requires
unreachable-requires c =
    let r = c.requires in
    let t = c.args.table.now in
    let can = subst (λ (hs : List ℕ). CanChoose t r.0 c.args.spread.now.graph c.args.size hs) (sym c.as_slice.ensures.value) (can_choose t r.0 r.1 r.2 c.args.spread.now c.args.size r.3 r.4) in
    let best = subst (λ (hs : List ℕ). IsBestOn t r.0 c.args.spread.now.graph hs c.in_ok-node.field-0) c.as_slice.ensures.value (c.in_ok-node.ensures t r.0 can) in
    some_ends c.over_laws_hold.ensures t r.0 r.1 c.args.before c.further-stuck.result r.2 c.args.spread.now r.3 c.in_ok-node.field-0 best c.further-stuck.ensures.first c.further-stuck.ensures.second c.further-stuck.ensures.from c.in-None.is c.in-None-stuck.is
