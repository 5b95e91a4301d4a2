use Rattle.std.proofs.Common.{◌≡◌, ◌∙◌, sym, subst, List, Some}
use Rattle.std.specs.List.{Contains}
use Rattle.ts_core.specs.declared.action.Action.{Action}
use Rattle.ts_core.specs.declared.action.Action.TheVariants.{Accept}
use Rattle.spec_graph.specs.declared.graph.Head.{Head}
use Rattle.ts_table.specs.Tables.{actions_of}
use Rattle.ts_places.proofs.ends.accepts.Goals as goal

pub returns : goal.returns
returns c = (
  (λ e. record { head = c.head-head.result; at = c.head-head.ensures; acts = subst (λ (l : List Action). Contains l Accept) c.actions.ensures.list (c.has_accept.ensures.0 e) }),
  (λ has.
      let f : Some has.head ≡ Some c.head-head.result = sym has.at ∙ c.head-head.ensures in
      let one : has.head ≡ c.head-head.result = cc in
      c.has_accept.ensures.1 (subst (λ (l : List Action). Contains l Accept) (sym c.actions.ensures.list) (subst (λ (x : Head). Contains (actions_of c.args.table.now x.state c.args.top.token.0) Accept) one has.acts))),
)
