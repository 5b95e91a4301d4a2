use Rattle.std.proofs.Common.{◌≡◌, ◌∙◌, ap, sym, subst, slice_get, Some, arith}
use Rattle.spec_graph.specs.declared.graph.Head.{Head}
use Rattle.ts_graph.specs.declared.view.GraphView.{GraphView}
use Rattle.ts_graph.proofs.UnderLemmas.{low_head}
use Rattle.ts_graph.proofs.graph.Graph.head.Goals as goal

pub returns-in-Some : goal.returns-in-Some
returns-in-Some c = c.in-Some.ensures.1

pub head_under-requires-clause-one : goal.head_under-requires-clause-one
head_under-requires-clause-one c = c.self.invariant.2.one

pub head_under-requires-clause-spans : goal.head_under-requires-clause-spans
head_under-requires-clause-spans c = c.self.invariant.2.spans

pub head_under-requires-clause-under : goal.head_under-requires-clause-under
head_under-requires-clause-under c = let low = c.in-None.ensures in let b = ap (λ (g : GraphView). g.base) c.self.view_is in omega (arith, low, b)

pub returns-in-None : goal.returns-in-None
returns-in-None c =
    let low = c.in-None.ensures in
    let b = ap (λ (g : GraphView). g.base) c.self.view_is in
    subst (λ (g : GraphView). slice_get g.heads c.args.number ≡ Some c.head_under.result) c.self.view_is
    (low_head c.self.inside.stack c.self.inside.base c.self.inside.place c.self.inside.cells.items c.self.invariant.2 c.self.inside.rows.items c.args.number (omega (arith, low, b)) ∙ ap (λ (h : Head). Some h) (sym c.head_under.ensures))
