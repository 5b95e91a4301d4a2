use Rattle.std.proofs.Common.{◌∙◌, sym, ap, subst, refl, List}
use Rattle.spec_trees.specs.Trees.{all_spans}
use Rattle.ts_gss.specs.declared.layer.Layer.{Layer}
use Rattle.ts_gss.specs.Stacks.{trees_on}
use Rattle.ts_gss.proofs.OneLemmas.{one_cut}
use Rattle.ts_graph.specs.declared.view.GraphView.{GraphView}
use Rattle.ts_graph.specs.Under.{HaveBytes, graph_over}
use Rattle.ts_crossing.specs.Entering.{IsEntered}
use Rattle.ts_crossing.proofs.StandLemmas.{place_is, low_bytes}
use Rattle.ts_crossing.proofs.EnterLemmas.{entered_over}
use Rattle.ts_crossing.proofs.entering.enter.Goals as goal

pub under_extras-under-requires-clause-there : goal.under_extras-under-requires-clause-there
under_extras-under-requires-clause-there c = c.requires.can.2.live.there

pub under_extras-under-requires-clause-spans : goal.under_extras-under-requires-clause-spans
under_extras-under-requires-clause-spans c = c.requires.can.2.live.stack.spans

pub cut-requires : goal.cut-requires
cut-requires c = c.under_extras-under.ensures.under.there

pub lie_over-requires-clause-one : goal.lie_over-requires-clause-one
lie_over-requires-clause-one c =
    one_cut c.args.stacks c.args.stacks c.cut.new.self c.args.head.top c.under_extras-under.result.top c.requires.one.lie c.under_extras-under.ensures.low c.under_extras-under.ensures.under.there (λ k low. refl) c.cut.ensures.cut

pub lie_over-requires-clause-spans : goal.lie_over-requires-clause-spans
lie_over-requires-clause-spans c =
    let r = c.requires.can in
    ap (λ (ls : List Layer). all_spans (trees_on ls)) c.cut.ensures.stack
    ∙ sym (place_is c.enter_laws_hold.ensures r.0 r.1 c.args.stacks c.args.head r.2 c.under_extras-under.result c.under_extras-under.ensures.under)

pub lie_over-requires-clause-bytes : goal.lie_over-requires-clause-bytes
lie_over-requires-clause-bytes c =
    let r = c.requires.can in
    subst (λ (ls : List Layer). HaveBytes (trees_on ls)) (sym c.cut.ensures.stack)
    (low_bytes c.enter_laws_hold.ensures r.0 r.1 c.args.stacks c.args.head r.2 c.under_extras-under.result c.under_extras-under.ensures.under)

pub returns : goal.returns
returns c = λ t text can.
    subst (λ (g : GraphView). IsEntered t text c.args.stacks c.args.head g c.under_extras-under.result.place)
    (sym (c.lie_over.ensures ∙ ap (λ (ls : List Layer). graph_over ls) c.cut.ensures.stack))
    (entered_over c.enter_laws_hold.ensures t text c.args.stacks c.args.head can c.under_extras-under.result c.under_extras-under.ensures.under c.laying_laws_hold.ensures)
