use Rattle.std.proofs.Common.{◌∙◌, ap, length, List}
use Rattle.std.specs.Global.{Vec}
use Rattle.std.proofs.lemmas.List.{take_all}
use Rattle.ts_items.specs.declared.flow.Edge.{Edge}
use Rattle.ts_items.specs.Edges.{IsFirstEdge}
use Rattle.ts_items.proofs.EachLemmas.{puts_begin, puts_slice, puts_all}
use Rattle.ts_items.proofs.EdgeLemmas.{are_edges, inside_at}
use Rattle.ts_items.proofs.first.first_edges.Goals as goal

pub loop-production-init : goal.loop-production-init
loop-production-init c = puts_begin IsFirstEdge c.args.productions.now c.in_ok-edges.edges.items

pub put_edge-requires : goal.put_edge-requires
put_edge-requires c = inside_at c.args.productions.now c.loop-production.production-index c.args.count (length c.as_mut_slice.result.now) c.production-item.result c.requires c.loop-production-test.true c.production-item.is
    (ap (λ (l : List (Vec Edge)). length l) c.as_mut_slice.ensures.value ∙ c.loop-production.invariant.count ∙ c.in_ok-edges.ensures.count)

pub loop-production-preserved : goal.loop-production-preserved
loop-production-preserved c = puts_slice IsFirstEdge c.args.productions.now c.loop-production.production-index c.loop-production.edges.len c.production-item.result c.in_ok-edges.edges.items c.loop-production.edges.items c.as_mut_slice.result.now c.put_edge.new.edges
    c.loop-production-test.true c.production-item.is c.as_mut_slice.ensures.value c.as_mut_slice.ensures.len c.loop-production.invariant c.in_ok-put_edge.ensures

pub returns : goal.returns
returns c = are_edges IsFirstEdge c.args.productions.now c.args.count c.in_ok-edges.edges.items c.loop-production.edges.items c.in_ok-edges.ensures.count c.in_ok-edges.ensures.empty
    (puts_all IsFirstEdge c.args.productions.now c.loop-production.production-index c.in_ok-edges.edges.items c.loop-production.edges.items (take_all _ _ c.loop-production-test.false) c.loop-production.invariant)
