use Rattle.std.proofs.Common.{sym, subst, refl, Bool, List, [], length}
use Rattle.ts_reductions.specs.declared.made.Made.{Made}
use Rattle.ts_reductions.specs.Asking.{AreMade, Adds, ByTops}
use Rattle.ts_reductions.specs.Sound.{parsing_from}
use Rattle.ts_reductions.proofs.AddLemmas.{all_made}
use Rattle.ts_reductions.proofs.AgainLemmas.{are_led}
use Rattle.ts_reductions.proofs.DoneLemmas.{deep_at, can_all, reduced_all}
use Rattle.ts_reductions.proofs.reducing.reduce_all.Goals as goal

pub returns-then-not-branch-clause-reduces : goal.returns-then-not-branch-clause-reduces
returns-then-not-branch-clause-reduces c = λ text base ready. (
  deep_at c.laws_hold.ensures c.node_laws_hold.ensures c.args.table.now c.stands.ensures text base c.args.setting.now c.args.graph.now c.args.batch c.args.tops.now ready
      (subst (λ (b : Bool). Adds c.args.table.now (length text) c.args.graph.now c.args.batch (ByTops c.args.tops.now) [] c.make_all.new.mades.items b) c.if-not-branch.true (c.in_ok-make_all.ensures text base ready)),
  refl,
)

pub lay_all-requires : goal.lay_all-requires
lay_all-requires c =
    let text = c.requires.0 in
    let base = c.requires.1 in
    let ready = c.requires.2 in
    let made : AreMade c.args.table.now (length text) c.args.graph.now c.args.batch (ByTops c.args.tops.now) c.as_slice.result.now =
    subst (λ (l : List Made). AreMade c.args.table.now (length text) c.args.graph.now c.args.batch (ByTops c.args.tops.now) l) (sym c.as_slice.ensures.value)
    (all_made c.args.table.now (length text) c.args.graph.now c.args.batch (ByTops c.args.tops.now) c.make_all.new.mades.items
    (subst (λ (b : Bool). Adds c.args.table.now (length text) c.args.graph.now c.args.batch (ByTops c.args.tops.now) [] c.make_all.new.mades.items b) c.if-not-branch.false (c.in_ok-make_all.ensures text base ready))) in
    (parsing_from c.args.table.now text base, c.args.batch.look, can_all c.laws_hold.ensures c.node_laws_hold.ensures c.args.table.now c.stands.ensures text base c.args.setting.now c.args.graph.now c.args.batch c.args.tops.now ready c.as_slice.result.now made)

pub returns-clause-reduces : goal.returns-clause-reduces
returns-clause-reduces c = λ text base ready.
    let made : AreMade c.args.table.now (length text) c.args.graph.now c.args.batch (ByTops c.args.tops.now) c.as_slice.result.now =
    subst (λ (l : List Made). AreMade c.args.table.now (length text) c.args.graph.now c.args.batch (ByTops c.args.tops.now) l) (sym c.as_slice.ensures.value)
    (all_made c.args.table.now (length text) c.args.graph.now c.args.batch (ByTops c.args.tops.now) c.make_all.new.mades.items
    (subst (λ (b : Bool). Adds c.args.table.now (length text) c.args.graph.now c.args.batch (ByTops c.args.tops.now) [] c.make_all.new.mades.items b) c.if-not-branch.false (c.in_ok-make_all.ensures text base ready))) in
    reduced_all c.laws_hold.ensures c.node_laws_hold.ensures c.args.table.now c.stands.ensures text base c.args.setting.now c.args.graph.now c.args.batch c.args.tops.now ready c.as_slice.result.now made c.lay_all.new.graph
    (c.in_ok-lay_all.ensures (parsing_from c.args.table.now text base) c.args.batch.look (can_all c.laws_hold.ensures c.node_laws_hold.ensures c.args.table.now c.stands.ensures text base c.args.setting.now c.args.graph.now c.args.batch c.args.tops.now ready c.as_slice.result.now made)) c.own_laws_hold.ensures

pub returns-clause-led : goal.returns-clause-led
returns-clause-led c = λ text base ready.
    let made =
    all_made c.args.table.now (length text) c.args.graph.now c.args.batch (ByTops c.args.tops.now) c.make_all.new.mades.items
    (subst (λ (b : Bool). Adds c.args.table.now (length text) c.args.graph.now c.args.batch (ByTops c.args.tops.now) [] c.make_all.new.mades.items b) c.if-not-branch.false (c.in_ok-make_all.ensures text base ready)) in
    are_led c.laws_hold.ensures c.args.table.now c.stands.ensures text c.args.setting.now c.args.graph.now c.args.batch base c.args.tops.now ready c.make_all.new.mades.items made _ refl
