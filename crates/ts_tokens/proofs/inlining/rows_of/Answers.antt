use Rattle.std.proofs.Common.{◌≡◌, ◌∙◌, sym, ap, subst, ℕ, ◌+◌, List, slice_get, Some}
use Rattle.std.specs.Global.{Vec}
use Rattle.std.proofs.lemmas.Option.{slice_get-get_or}
use Rattle.ts_rules.specs.Causes.{names_of}
use Rattle.ts_rules.specs.Names.{told}
use Rattle.ts_tokens.specs.Inlining.{IsRuleGraph}
use Rattle.ts_tokens.specs.Paths.{graph_of}
use Rattle.ts_tokens.proofs.InliningLemmas.{graph_more, graph_push}
use Rattle.ts_tokens.proofs.inlining.rows_of.Goals as goal

pub loop-rule-preserved : goal.loop-rule-preserved
loop-rule-preserved c =
    let rules = c.args.rules.now in
    let inline = told c.args.inline.now.keys in
    let i = c.loop-rule.rule-index in
    let at : slice_get rules i ≡ Some c.rule-item.result = slice_get-get_or rules i c.rule-item.result c.loop-rule-test.true ∙ ap Some (sym c.rule-item.is) in
    subst (λ (xs : List (Vec ℕ)). IsRuleGraph rules inline (i + 1) (graph_of xs)) (sym c.in_ok-push.ensures.items)
    (subst (λ (g : List (List ℕ)). IsRuleGraph rules inline (i + 1) g) (sym (graph_push c.loop-rule.rows.items c.in_ok-row.row))
    (graph_more rules inline (graph_of c.loop-rule.rows.items) i c.rule-item.result c.in_ok-row.row.items at (c.in_ok-row.ensures (names_of rules) inline c.in_ok-places.ensures c.requires) c.loop-rule.invariant))
