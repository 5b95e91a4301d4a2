use Rattle.std.proofs.Common.{◌∙◌, sym, ap, subst, refl, ℕ}
use Rattle.ts_graph.specs.declared.view.GraphView.{GraphView}
use Rattle.ts_graph.specs.Down.{HoldsEachOnce}
use Rattle.ts_graph.specs.Parts.{wanting_past, leads}
use Rattle.ts_graph.proofs.PartLemmas.{behind_is, behind_low}
use Rattle.ts_graph.proofs.graph.Graph.leads_over.Goals as goal

pub stands_below-requires : goal.stands_below-requires
stands_below-requires c =
    let each = subst (λ (g : GraphView). HoldsEachOnce g.heads g.links) c.self.view_is c.self.invariant.0.each_once in
    behind_low c.args.self.now.heads c.args.self.now.links each c.args.link c.requires.there c.link-below.result.below c.link-below.ensures.below

pub returns-then-stands_below : goal.returns-then-stands_below
returns-then-stands_below c =
    let is = behind_is c.args.self.now.links c.args.link c.requires.there c.link-below.result.below c.link-below.ensures.below in
    let past = wanting_past c.args.self.now.links c.args.wanting c.args.link in
    sym (ap (λ (h : ℕ). leads c.args.self.now.heads c.args.place h past) is ∙ c.if-stands_below.ensures refl past)

pub may_lead-requires : goal.may_lead-requires
may_lead-requires c =
    let each = subst (λ (g : GraphView). HoldsEachOnce g.heads g.links) c.self.view_is c.self.invariant.0.each_once in
    behind_low c.args.self.now.heads c.args.self.now.links each c.args.link c.requires.there c.link-below.result.below c.link-below.ensures.below

pub returns : goal.returns
returns c =
    let is = behind_is c.args.self.now.links c.args.link c.requires.there c.link-below.result.below c.link-below.ensures.below in
    c.may_lead.ensures ∙ ap (λ (w : ℕ). leads c.args.self.now.heads c.args.place c.link-below.result.below w) c.still_wanting.ensures
    ∙ ap (λ (h : ℕ). leads c.args.self.now.heads c.args.place h (wanting_past c.args.self.now.links c.args.wanting c.args.link)) (sym is)
