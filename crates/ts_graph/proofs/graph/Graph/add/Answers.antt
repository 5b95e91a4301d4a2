use Rattle.std.proofs.Common.{◌∙◌, ap, refl, ◌++◌, ◌∷◌, []}
use Rattle.ts_gss.specs.Stacks.{stack_at}
use Rattle.ts_graph.specs.declared.view.GraphView.{GraphView}
use Rattle.ts_graph.specs.Under.{rows_over, cells_over}
use Rattle.ts_graph.proofs.OwnLemmas.{row_pushed, over_heads, over_newest}
use Rattle.ts_graph.proofs.HeadLemmas.{added_heads, sound_added, kept_added}
use Rattle.ts_graph.proofs.graph.Graph.add.Goals as goal

pub invariant_of-self-2 : goal.invariant_of-self-2
invariant_of-self-2 c =
    let layers = stack_at c.self.inside.stack c.self.inside.base in
    let is = row_pushed layers c.self.inside.rows.items _ c.push.new.self.items c.in_ok-push.ensures.items in
    let heads = over_heads layers c.push.new.self.items c.join_ring-self-inside.new.rows.items c.join_ring-self-inside.ensures.heads in
    let newest = over_newest layers c.push.new.self.items c.join_ring-self-inside.new.rows.items c.join_ring-self-inside.ensures.newest in (
      sound_added (rows_over (stack_at c.self.inside.stack c.self.inside.base) c.self.inside.rows.items) (cells_over (stack_at c.self.inside.stack c.self.inside.base) c.self.inside.cells.items) c.self.invariant.0 _ (rows_over layers c.push.new.self.items) (rows_over layers c.join_ring-self-inside.new.rows.items) is heads newest refl,
      kept_added (rows_over (stack_at c.self.inside.stack c.self.inside.base) c.self.inside.rows.items) (cells_over (stack_at c.self.inside.stack c.self.inside.base) c.self.inside.cells.items) c.self.invariant.0 _ (rows_over layers c.push.new.self.items) (rows_over layers c.join_ring-self-inside.new.rows.items) is heads newest c.self.inside.extras c.self.invariant.1,
      c.self.invariant.2,
    )

pub returns-clause-added : goal.returns-clause-added
returns-clause-added c =
    let layers = stack_at c.self.inside.stack c.self.inside.base in
    let is = row_pushed layers c.self.inside.rows.items _ c.push.new.self.items c.in_ok-push.ensures.items in
    let heads = over_heads layers c.push.new.self.items c.join_ring-self-inside.new.rows.items c.join_ring-self-inside.ensures.heads in
    let newest = over_newest layers c.push.new.self.items c.join_ring-self-inside.new.rows.items c.join_ring-self-inside.ensures.newest in
    added_heads (rows_over (stack_at c.self.inside.stack c.self.inside.base) c.self.inside.rows.items) (cells_over (stack_at c.self.inside.stack c.self.inside.base) c.self.inside.cells.items) c.self.invariant.0 _ (rows_over layers c.push.new.self.items) (rows_over layers c.join_ring-self-inside.new.rows.items) is heads newest
    ∙ ap (λ (g : GraphView). g.heads ++ c.args.head ∷ []) c.self.view_is
