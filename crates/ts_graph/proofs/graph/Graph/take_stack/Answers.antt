use Rattle.std.proofs.Common.{◌∙◌, ap, List, length, arith}
use Rattle.ts_gss.specs.declared.layer.Layer.{Layer}
use Rattle.ts_gss.specs.Stacks.{stack_at}
use Rattle.ts_gss.proofs.OneLemmas.{one_cut}
use Rattle.ts_graph.specs.declared.view.GraphView.{GraphView}
use Rattle.ts_graph.proofs.UnderLemmas.{way_on}
use Rattle.ts_graph.proofs.OverLemmas.{first_sound, first_kept, first_under, first_view}
use Rattle.ts_graph.proofs.graph.Graph.take_stack.Goals as goal

pub cut-requires : goal.cut-requires
cut-requires c =
    let low = c.requires in
    let b = ap (λ (g : GraphView). g.base) c.self.view_is in
    let n = c.self.invariant.2.one.count in
    let l = ap (λ (ss : List (List Layer)). length ss) c.replace-stack.ensures.value in
    omega (arith, low, b, n, l)

pub invariant_of-self : goal.invariant_of-self
invariant_of-self c =
    let none = c.replace-stack.ensures.after ∙ c.new.ensures in (
      first_sound c.replace-stack.new.dest none c.clear.new.self.items c.clear-2.new.self.items c.clear.ensures.items c.clear-2.ensures.items,
      first_kept c.replace-stack.new.dest none c.clear.new.self.items c.clear-2.new.self.items c.clear.ensures.items c.clear-2.ensures.items,
      first_under c.replace-stack.new.dest none c.clear.new.self.items c.clear-2.new.self.items c.clear.ensures.items c.clear-2.ensures.items,
    )

pub returns-clause-one : goal.returns-clause-one
returns-clause-one c =
    let low = c.requires in
    let b = ap (λ (g : GraphView). g.base) c.self.view_is in
    let n = c.self.invariant.2.one.count in
    let l = ap (λ (ss : List (List Layer)). length ss) c.replace-stack.ensures.value in
    one_cut c.self.inside.stack c.replace-stack.result c.cut.new.self c.self.inside.base c.args.head c.self.invariant.2.one.lie (omega (arith, low, b)) (omega (arith, low, b, n, l))
    (λ k small. ap (λ (ss : List (List Layer)). stack_at ss k) c.replace-stack.ensures.value) c.cut.ensures.cut

pub returns-clause-layers : goal.returns-clause-layers
returns-clause-layers c = λ way down.
    let low = c.requires in
    let b = ap (λ (g : GraphView). g.base) c.self.view_is in
    c.cut.ensures.stack
    ∙ ap (λ (ss : List (List Layer)). stack_at ss c.args.head) c.replace-stack.ensures.value
    ∙ way_on c.self.inside.stack c.self.inside.base c.self.inside.place c.self.inside.cells.items c.self.invariant.2 c.self.inside.rows.items c.args.self.now c.self.view_is way c.args.head (omega (arith, low, b)) down

pub returns-clause-left : goal.returns-clause-left
returns-clause-left c = first_view c.replace-stack.new.dest (c.replace-stack.ensures.after ∙ c.new.ensures) c.clear.new.self.items c.clear-2.new.self.items c.clear.ensures.items c.clear-2.ensures.items
