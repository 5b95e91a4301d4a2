use Rattle.std.proofs.Common.{◌≡◌, ◌∙◌, ap, sym, subst, slice_get, Some, arith}
use Rattle.spec_graph.specs.declared.graph.Head.{Head}
use Rattle.ts_gss.specs.Stacks.{stack_at}
use Rattle.ts_graph.specs.declared.view.GraphView.{GraphView}
use Rattle.ts_graph.specs.Under.{head_over}
use Rattle.ts_graph.proofs.UnderLemmas.{low_head}
use Rattle.ts_graph.proofs.graph.Graph.state.Goals as goal

pub returns-in-Some : goal.returns-in-Some
returns-in-Some c = λ h at.
    let both : Some c.in-Some.row.now.head ≡ Some h = sym c.in-Some.ensures.1 ∙ at in
    let one : c.in-Some.row.now.head ≡ h = cc in
    ap (λ (x : Head). x.state) one

pub state-requires : goal.state-requires
state-requires c =
    let low = c.in-None.ensures in
    let b = ap (λ (g : GraphView). g.base) c.self.view_is in
    let n = c.self.invariant.2.one.count in
    omega (arith, low, b, n)

pub returns-in-None : goal.returns-in-None
returns-in-None c = λ h at.
    let low = c.in-None.ensures in
    let b = ap (λ (g : GraphView). g.base) c.self.view_is in
    let here = subst (λ (g : GraphView). slice_get g.heads c.args.number ≡ Some (head_over (stack_at c.self.inside.stack c.args.number))) c.self.view_is
    (low_head c.self.inside.stack c.self.inside.base c.self.inside.place c.self.inside.cells.items c.self.invariant.2 c.self.inside.rows.items c.args.number (omega (arith, low, b))) in
    let both : Some (head_over (stack_at c.self.inside.stack c.args.number)) ≡ Some h = sym here ∙ at in
    let one : head_over (stack_at c.self.inside.stack c.args.number) ≡ h = cc in
    c.state.ensures ∙ ap (λ (x : Head). x.state) one
