use Rattle.std.proofs.Common.{◌≡◌, ◌∙◌, sym, ap, subst, ◌-◌, length, set, slice_get, Some, arith}
use Rattle.std.proofs.lemmas.List.{length-map, length-set}
use Rattle.ts_gss.specs.Stacks.{stack_at}
use Rattle.ts_graph.specs.Cells.{heads_of, newest_of, link_of, links_of, IsSound, IsKept}
use Rattle.ts_graph.specs.declared.view.GraphView.{GraphView}
use Rattle.ts_graph.specs.Under.{rows_over, cells_over}
use Rattle.ts_graph.proofs.CellLemmas.{AreAlike, sound_pack}
use Rattle.ts_graph.proofs.KeptLemmas.{kept_pack, packed_plain, neither}
use Rattle.ts_graph.proofs.PackLemmas.{link_there, packed_link, other_links}
use Rattle.ts_graph.proofs.OwnLemmas.{links_all, own_link_past, own_read, cell_put, cell_read, under_set}
use Rattle.ts_graph.proofs.graph.Graph.pack.Goals as goal

-- the link is past those of the stack
pub overflow_sub-cell : goal.overflow_sub-cell
overflow_sub-cell c =
    let past = own_link_past c.self.inside.stack c.self.inside.base c.self.inside.place c.self.inside.cells.items c.self.invariant.2 c.self.inside.rows.items c.args.self.now c.self.view_is c.args.link c.requires.there c.requires.own in
    omega (arith, past)

pub index_mut-requires : goal.index_mut-requires
index_mut-requires c =
    let n = links_all c.self.inside.stack c.self.inside.base c.self.inside.place c.self.inside.cells.items c.self.invariant.2 c.self.inside.rows.items c.args.self.now c.self.view_is in
    let past = own_link_past c.self.inside.stack c.self.inside.base c.self.inside.place c.self.inside.cells.items c.self.invariant.2 c.self.inside.rows.items c.args.self.now c.self.view_is c.args.link c.requires.there c.requires.own in
    let low = c.requires.there in
    omega (arith, n, past, low)

pub pack-requires : goal.pack-requires
pack-requires c =
    c.requires.form (link_of c.index_mut.result.now)
    (link_there (heads_of (rows_over (stack_at c.self.inside.stack c.self.inside.base) c.self.inside.rows.items)) (cells_over (stack_at c.self.inside.stack c.self.inside.base) c.self.inside.cells.items) c.args.self.now c.self.view_is c.args.link c.index_mut.result.now (cell_read c.self.inside.stack c.self.inside.base c.self.inside.place c.self.inside.cells.items c.self.invariant.2 c.self.inside.rows.items c.args.self.now c.self.view_is c.args.link c.requires.there c.requires.own c.index_mut.result.now c.index_mut.ensures.value))

pub invariant_of-self : goal.invariant_of-self
invariant_of-self c =
    let there = cell_read c.self.inside.stack c.self.inside.base c.self.inside.place c.self.inside.cells.items c.self.invariant.2 c.self.inside.rows.items c.args.self.now c.self.view_is c.args.link c.requires.there c.requires.own c.index_mut.result.now c.index_mut.ensures.value in
    let put = cell_put c.self.inside.stack c.self.inside.base c.self.inside.place c.self.inside.cells.items c.self.invariant.2 c.self.inside.rows.items c.args.self.now c.self.view_is c.args.link c.requires.there c.requires.own c.pack.new.self in
    let alike : AreAlike c.index_mut.result.now c.pack.new.self = record {
      above = c.pack.ensures.packed.above_stays;
      below = c.pack.ensures.packed.below_stays;
      earlier = c.pack.ensures.earlier;
    } in (
      subst (λ cs. IsSound (heads_of (rows_over (stack_at c.self.inside.stack c.self.inside.base) c.self.inside.rows.items)) (newest_of (rows_over (stack_at c.self.inside.stack c.self.inside.base) c.self.inside.rows.items)) cs) put
          (sound_pack (cells_over (stack_at c.self.inside.stack c.self.inside.base) c.self.inside.cells.items) c.args.link c.index_mut.result.now c.pack.new.self there alike (heads_of (rows_over (stack_at c.self.inside.stack c.self.inside.base) c.self.inside.rows.items)) (newest_of (rows_over (stack_at c.self.inside.stack c.self.inside.base) c.self.inside.rows.items)) c.self.invariant.0),
      subst (λ cs. IsKept (heads_of (rows_over (stack_at c.self.inside.stack c.self.inside.base) c.self.inside.rows.items)) c.self.inside.base cs c.either-extras.result) put
          (kept_pack (heads_of (rows_over (stack_at c.self.inside.stack c.self.inside.base) c.self.inside.rows.items)) (cells_over (stack_at c.self.inside.stack c.self.inside.base) c.self.inside.cells.items) c.self.inside.extras c.self.invariant.1 c.args.link c.index_mut.result.now c.pack.new.self there alike c.pack.ensures.lowest c.either-extras.result
          (λ none.
          let n = neither c.self.inside.extras c.extra.result (sym c.either-extras.ensures ∙ none) in (
            n.0,
            packed_plain (link_of c.index_mut.result.now) (link_of c.pack.new.self) c.args.node c.args.depth c.pack.ensures.packed
                (c.self.invariant.1.filled n.0 c.args.link c.index_mut.result.now (own_link_past c.self.inside.stack c.self.inside.base c.self.inside.place c.self.inside.cells.items c.self.invariant.2 c.self.inside.rows.items c.args.self.now c.self.view_is c.args.link c.requires.there c.requires.own) there) (sym c.extra.ensures ∙ n.1),
          ))),
      under_set c.self.inside.stack c.self.inside.base c.self.inside.place c.self.inside.cells.items c.self.invariant.2 c.self.inside.rows.items (c.args.link - c.self.inside.base) c.index_mut.result.now c.pack.new.self (own_read c.self.inside.stack c.self.inside.base c.self.inside.place c.self.inside.cells.items c.self.invariant.2 c.self.inside.rows.items c.args.self.now c.self.view_is c.args.link c.requires.there c.requires.own c.index_mut.result.now c.index_mut.ensures.value) c.pack.ensures.packed.above_stays,
    )

pub returns-clause-count : goal.returns-clause-count
returns-clause-count c =
    let all = cells_over (stack_at c.self.inside.stack c.self.inside.base) c.self.inside.cells.items in
    ap (λ cs. length (links_of cs)) (sym (cell_put c.self.inside.stack c.self.inside.base c.self.inside.place c.self.inside.cells.items c.self.invariant.2 c.self.inside.rows.items c.args.self.now c.self.view_is c.args.link c.requires.there c.requires.own c.pack.new.self))
    ∙ length-map (set all c.args.link c.pack.new.self) link_of
    ∙ length-set all c.args.link c.pack.new.self
    ∙ sym (length-map all link_of)
    ∙ ap (λ (g : GraphView). length g.links) c.self.view_is

pub returns-clause-packed : goal.returns-clause-packed
returns-clause-packed c =
    let there = cell_read c.self.inside.stack c.self.inside.base c.self.inside.place c.self.inside.cells.items c.self.invariant.2 c.self.inside.rows.items c.args.self.now c.self.view_is c.args.link c.requires.there c.requires.own c.index_mut.result.now c.index_mut.ensures.value in
    let put = cell_put c.self.inside.stack c.self.inside.base c.self.inside.place c.self.inside.cells.items c.self.invariant.2 c.self.inside.rows.items c.args.self.now c.self.view_is c.args.link c.requires.there c.requires.own c.pack.new.self in
    λ l m at is.
    packed_link (heads_of (rows_over (stack_at c.self.inside.stack c.self.inside.base) c.self.inside.rows.items)) (cells_over (stack_at c.self.inside.stack c.self.inside.base) c.self.inside.cells.items) c.args.self.now c.self.view_is c.args.link c.index_mut.result.now there
    c.pack.new.self c.args.node c.args.depth c.pack.ensures.packed l m at (subst (λ cs. slice_get (links_of cs) c.args.link ≡ Some m) (sym put) is)

pub returns-clause-others : goal.returns-clause-others
returns-clause-others c = λ j other.
    let there = cell_read c.self.inside.stack c.self.inside.base c.self.inside.place c.self.inside.cells.items c.self.invariant.2 c.self.inside.rows.items c.args.self.now c.self.view_is c.args.link c.requires.there c.requires.own c.index_mut.result.now c.index_mut.ensures.value in
    let put = cell_put c.self.inside.stack c.self.inside.base c.self.inside.place c.self.inside.cells.items c.self.invariant.2 c.self.inside.rows.items c.args.self.now c.self.view_is c.args.link c.requires.there c.requires.own c.pack.new.self in
    ap (λ cs. slice_get (links_of cs) j) (sym put)
    ∙ other_links (heads_of (rows_over (stack_at c.self.inside.stack c.self.inside.base) c.self.inside.rows.items)) (cells_over (stack_at c.self.inside.stack c.self.inside.base) c.self.inside.cells.items) c.args.self.now c.self.view_is c.args.link c.index_mut.result.now there c.pack.new.self j other
