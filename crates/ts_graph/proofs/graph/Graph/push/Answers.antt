use Rattle.std.proofs.Common.{◌+◌, ◌∙◌, sym, ap, subst, ◌-◌, [], ◌∷◌, ◌++◌, arith}
use Rattle.ts_gss.specs.Stacks.{stack_at}
use Rattle.ts_graph.specs.Cells.{heads_of, newest_of, links_of, IsSound, IsKept}
use Rattle.ts_graph.specs.Down.{link_with}
use Rattle.ts_graph.specs.declared.graph.Row.{Row}
use Rattle.ts_graph.specs.declared.view.GraphView.{GraphView}
use Rattle.ts_graph.specs.Under.{rows_over, cells_over}
use Rattle.ts_graph.proofs.CellLemmas.{pushed}
use Rattle.ts_graph.proofs.HeadLemmas.{heads_set, sound_set, kept_set}
use Rattle.ts_graph.proofs.KeptLemmas.{kept_pushed, neither}
use Rattle.ts_graph.proofs.UnderLemmas.{cells_pushed}
use Rattle.ts_graph.proofs.OwnLemmas.{heads_all, links_all, cell_pushed, cells_long, under_pushed, row_put, row_same}
use Rattle.ts_graph.proofs.graph.Graph.push.Goals as goal

pub lowest_down-lowest-requires : goal.lowest_down-lowest-requires
lowest_down-lowest-requires c = (c.args.above, c.first_down-earlier.ensures)

pub overflow_add-number : goal.overflow_add-number
overflow_add-number c = let few = c.self.invariant.2.few in grind (arith, few, c.self.ranges, c.len.ensures, c.self.inside.cells.ok)

pub index-requires : goal.index-requires
index-requires c =
    let n = heads_all c.self.inside.stack c.self.inside.base c.self.inside.place c.self.inside.cells.items c.self.invariant.2 c.self.inside.rows.items c.args.self.now c.self.view_is in
    let b = ap (λ (g : GraphView). g.base) c.self.view_is in
    let own = c.requires.own in
    let low = c.requires.above in
    omega (arith, n, b, own, low)

pub index_mut-requires : goal.index_mut-requires
index_mut-requires c =
    let n = heads_all c.self.inside.stack c.self.inside.base c.self.inside.place c.self.inside.cells.items c.self.invariant.2 c.self.inside.rows.items c.args.self.now c.self.view_is in
    let b = ap (λ (g : GraphView). g.base) c.self.view_is in
    let own = c.requires.own in
    let low = c.requires.above in
    omega (arith, n, b, own, low)

pub invariant_of-self-2 : goal.invariant_of-self-2
invariant_of-self-2 c =
    let layers = stack_at c.self.inside.stack c.self.inside.base in
    let b = ap (λ (g : GraphView). g.base) c.self.view_is in
    let own = c.requires.own in
    let put = row_put c.self.inside.stack c.self.inside.base c.self.inside.place c.self.inside.cells.items c.self.invariant.2 c.self.inside.rows.items c.args.above (c.args.above - c.self.inside.base - 1) c.with_newest.result (omega (arith, b, own)) in
    let same = row_same c.self.inside.stack c.self.inside.base c.self.inside.place c.self.inside.cells.items c.self.invariant.2 c.self.inside.rows.items c.args.above (c.args.above - c.self.inside.base - 1) c.with_newest.result c.index.result.now (omega (arith, b, own)) (c.with_newest.ensures.head ∙ ap (λ (r : Row). r.head) c.index.ensures) in
    let many = links_all c.self.inside.stack c.self.inside.base c.self.inside.place c.self.inside.cells.items c.self.invariant.2 c.self.inside.rows.items c.args.self.now c.self.view_is in
    let cells = cell_pushed layers c.self.inside.cells.items _ c.push.new.self.items c.in_ok-push.ensures.items in (
      subst (λ rs. IsSound (heads_of rs) (newest_of rs) (cells_over layers c.push.new.self.items)) put
          (sound_set (rows_over (stack_at c.self.inside.stack c.self.inside.base) c.self.inside.rows.items) c.args.above c.with_newest.result c.index.result.now same (cells_over layers c.push.new.self.items) (c.self.inside.base + c.len.result) c.with_newest.ensures.newest
          (pushed (heads_of (rows_over (stack_at c.self.inside.stack c.self.inside.base) c.self.inside.rows.items)) (newest_of (rows_over (stack_at c.self.inside.stack c.self.inside.base) c.self.inside.rows.items)) (cells_over (stack_at c.self.inside.stack c.self.inside.base) c.self.inside.cells.items)
          (record { above = c.args.above; below = c.args.below; node = c.args.node; depth = c.args.depth; earlier = c.first_down-earlier.result; lowest = c.lowest_down-lowest.result })
          c.self.invariant.0 c.args.self.now c.self.view_is (cells_over layers c.push.new.self.items) (c.self.inside.base + c.len.result) cells (cells_long c.self.inside.stack c.self.inside.base c.self.inside.place c.self.inside.cells.items c.self.invariant.2 c.self.inside.rows.items c.args.self.now c.self.view_is c.len.result (omega (arith, c.len.ensures, c.self.inside.cells.ok)))
          c.requires.above c.requires.below c.requires.falls c.requires.new c.first_down-earlier.ensures)),
      subst (λ rs. IsKept (heads_of rs) c.self.inside.base (cells_over layers c.push.new.self.items) c.either-extras.result) put
          (kept_set (rows_over (stack_at c.self.inside.stack c.self.inside.base) c.self.inside.rows.items) c.args.above c.with_newest.result c.index.result.now same (cells_over layers c.push.new.self.items) c.either-extras.result
          (kept_pushed (heads_of (rows_over (stack_at c.self.inside.stack c.self.inside.base) c.self.inside.rows.items)) (cells_over (stack_at c.self.inside.stack c.self.inside.base) c.self.inside.cells.items) c.self.inside.extras c.self.invariant.1 c.args.self.now c.self.view_is
          (record { above = c.args.above; below = c.args.below; node = c.args.node; depth = c.args.depth; earlier = c.first_down-earlier.result; lowest = c.lowest_down-lowest.result })
          c.head.result c.head.ensures c.lowest_down-lowest.ensures.own (c.lowest_down-lowest.ensures.others c.args.above c.first_down-earlier.ensures) (cells_over layers c.push.new.self.items) cells c.either-extras.result
          (λ none. let n = neither c.self.inside.extras c.extra.result (sym c.either-extras.ensures ∙ none) in (n.0, sym c.extra.ensures ∙ n.1)))),
      under_pushed c.self.inside.stack c.self.inside.base c.self.inside.place c.self.inside.cells.items c.self.invariant.2 c.self.inside.rows.items (record { above = c.args.above; below = c.args.below; node = c.args.node; depth = c.args.depth; earlier = c.first_down-earlier.result; lowest = c.lowest_down-lowest.result })
          c.push.new.self.items c.in_ok-push.ensures.items (omega (arith, b, own)),
    )

pub returns-clause-heads : goal.returns-clause-heads
returns-clause-heads c =
    let b = ap (λ (g : GraphView). g.base) c.self.view_is in
    let own = c.requires.own in
    let put = row_put c.self.inside.stack c.self.inside.base c.self.inside.place c.self.inside.cells.items c.self.invariant.2 c.self.inside.rows.items c.args.above (c.args.above - c.self.inside.base - 1) c.with_newest.result (omega (arith, b, own)) in
    let same = row_same c.self.inside.stack c.self.inside.base c.self.inside.place c.self.inside.cells.items c.self.invariant.2 c.self.inside.rows.items c.args.above (c.args.above - c.self.inside.base - 1) c.with_newest.result c.index.result.now (omega (arith, b, own)) (c.with_newest.ensures.head ∙ ap (λ (r : Row). r.head) c.index.ensures) in
    ap heads_of (sym put)
    ∙ heads_set (rows_over (stack_at c.self.inside.stack c.self.inside.base) c.self.inside.rows.items) c.args.above c.with_newest.result c.index.result.now same
    ∙ ap (λ (g : GraphView). g.heads) c.self.view_is

pub returns-clause-pushed : goal.returns-clause-pushed
returns-clause-pushed c =
    let layers = stack_at c.self.inside.stack c.self.inside.base in
    ap links_of (cell_pushed layers c.self.inside.cells.items _ c.push.new.self.items c.in_ok-push.ensures.items)
    ∙ cells_pushed (cells_over layers c.self.inside.cells.items) (record { above = c.args.above; below = c.args.below; node = c.args.node; depth = c.args.depth; earlier = c.first_down-earlier.result; lowest = c.lowest_down-lowest.result })
    ∙ ap (λ (g : GraphView). g.links ++ link_with c.args.above c.args.below c.args.node c.args.depth ∷ []) c.self.view_is
