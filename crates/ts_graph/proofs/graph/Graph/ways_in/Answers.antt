use Rattle.std.proofs.Common.{◌≡◌, ◌∙◌, ap, sym, subst, ◌<◌, ◌++◌, List, length, arith}
use Rattle.std.specs.Prelude.{All}
use Rattle.ts_graph.specs.declared.ways.Part.{Part}
use Rattle.ts_graph.specs.declared.ways.Way.{Way}
use Rattle.ts_graph.specs.declared.view.GraphView.{GraphView}
use Rattle.ts_graph.specs.Down.{HoldsEachOnce}
use Rattle.ts_graph.specs.Parts.{done_to, undone_to, all_nexts, all_done, all_undone, EndsAt, CanGoOn, highest}
use Rattle.ts_graph.proofs.ListLemmas.{Has}
use Rattle.ts_graph.proofs.PartLemmas.{first_goes_on, nexts_go_on, highest_falls, some_member, no_member, all_has}
use Rattle.ts_graph.proofs.WayLemmas.{Searches, searches_first, searches_more, searches_last}
use Rattle.ts_graph.proofs.graph.Graph.ways_in.Goals as goal

pub loop-alloc-init : goal.loop-alloc-init
loop-alloc-init c =
    let undone = c.in_ok-take_in.ensures.undone ∙ ap (λ (ps : List Part). ps ++ undone_to c.args.self.now.heads c.args.place c.no_way.result) c.new-undone.ensures.items in
    let done = c.in_ok-take_in.ensures.done ∙ ap (λ (ws : List Way). ws ++ done_to c.args.self.now.heads c.args.place c.no_way.result) c.new-done.ensures.items in
    let each = subst (λ (g : GraphView). HoldsEachOnce g.heads g.links) c.self.view_is c.self.invariant.0.each_once in
    record {
      can = first_goes_on c.args.self.now.heads c.args.place c.args.head c.args.count c.no_way.result c.take_in.new.undone.items c.no_way.ensures undone c.requires;
      searches = searches_first c.args.self.now.heads c.args.self.now.links each c.args.place c.args.head c.args.count c.no_way.result c.take_in.new.undone.items c.take_in.new.done.items c.no_way.ensures undone done;
    }

pub lengthened-requires : goal.lengthened-requires
lengthened-requires c =
    subst (λ (ps : List Part). All (CanGoOn c.args.self.now.heads) ps) (sym c.as_slice.ensures.value)
    (all_has (CanGoOn c.args.self.now.heads) c.loop-alloc.undone.items c.loop-alloc.invariant.can)

pub loop-alloc-smaller : goal.loop-alloc-smaller
loop-alloc-smaller c =
    let heads = c.args.self.now.heads in
    let links = c.args.self.now.links in
    let parts = c.loop-alloc.undone.items in
    let each = subst (λ (g : GraphView). HoldsEachOnce g.heads g.links) c.self.view_is c.self.invariant.0.each_once in
    let is = subst (λ (ps : List Part). c.in_ok-undone.undone.items ≡ all_undone heads c.args.place (all_nexts links ps)) c.as_slice.ensures.value c.in_ok-undone.ensures.undone in
    let some : 0 < length c.loop-alloc.undone.items = grind (arith, c.loop-alloc-test.true, c.is_empty.ensures, c.loop-alloc.undone.ok) in
    let p = some_member parts some in
    subst (λ (ps : List Part). highest heads ps < highest heads parts) (sym is) (highest_falls heads links each c.args.place parts p.0 p.1)

pub loop-alloc-preserved : goal.loop-alloc-preserved
loop-alloc-preserved c =
    let heads = c.args.self.now.heads in
    let links = c.args.self.now.links in
    let parts = c.loop-alloc.undone.items in
    let each = subst (λ (g : GraphView). HoldsEachOnce g.heads g.links) c.self.view_is c.self.invariant.0.each_once in
    let undone = subst (λ (ps : List Part). c.in_ok-undone.undone.items ≡ all_undone heads c.args.place (all_nexts links ps)) c.as_slice.ensures.value c.in_ok-undone.ensures.undone in
    let done = subst (λ (ps : List Part). c.lengthened.new.done.items ≡ c.loop-alloc.done.items ++ all_done heads c.args.place (all_nexts links ps)) c.as_slice.ensures.value c.in_ok-undone.ensures.done in
    record {
      can = λ p there. nexts_go_on heads links each c.args.place parts p (subst (λ (ps : List Part). Has ps p) undone there);
      searches = searches_more heads links each c.args.place c.args.head c.args.count parts c.in_ok-undone.undone.items c.loop-alloc.done.items c.lengthened.new.done.items c.loop-alloc.invariant.searches undone done;
    }

pub returns : goal.returns
returns c =
    let heads = c.args.self.now.heads in
    let links = c.args.self.now.links in
    let each = subst (λ (g : GraphView). HoldsEachOnce g.heads g.links) c.self.view_is c.self.invariant.0.each_once in
    let none : length c.loop-alloc.undone.items ≡ 0 = grind (arith, c.loop-alloc-test.false, c.is_empty.ensures, c.loop-alloc.undone.ok) in
    searches_last heads links each c.args.place c.args.head c.args.count c.loop-alloc.done.items
    (subst (λ (ps : List Part). Searches (EndsAt heads c.args.place) links c.args.head c.args.count ps c.loop-alloc.done.items) (no_member c.loop-alloc.undone.items none) c.loop-alloc.invariant.searches)
