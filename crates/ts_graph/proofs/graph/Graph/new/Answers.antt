use Rattle.ts_graph.proofs.OverLemmas.{first_sound, first_kept, first_under, first_view}
use Rattle.ts_graph.proofs.graph.Graph.new.Goals as goal

pub invariant_of-result : goal.invariant_of-result
invariant_of-result c = (
  first_sound c.new.result c.new.ensures c.new-2.result.items c.new-3.result.items c.new-2.ensures.items c.new-3.ensures.items,
  first_kept c.new.result c.new.ensures c.new-2.result.items c.new-3.result.items c.new-2.ensures.items c.new-3.ensures.items,
  first_under c.new.result c.new.ensures c.new-2.result.items c.new-3.result.items c.new-2.ensures.items c.new-3.ensures.items,
)

pub returns : goal.returns
returns c = first_view c.new.result c.new.ensures c.new-2.result.items c.new-3.result.items c.new-2.ensures.items c.new-3.ensures.items
