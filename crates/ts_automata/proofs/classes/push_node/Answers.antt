use Rattle.std.proofs.Common.{◌≡◌, ◌∙◌, sym, subst, List, ℕ}
use Rattle.std.specs.List.{Contains}
use Rattle.std.proofs.lemmas.Result.{on_ok_weaker}
use Rattle.ts_automata.specs.Classes.{OfNode}
use Rattle.ts_automata.proofs.BoundLemmas.{has_none, has_same}
use Rattle.ts_automata.proofs.classes.push_node.Goals as goal

pub returns-in-Take : goal.returns-in-Take
returns-in-Take c = on_ok_weaker c.push_ranges.result
    (has_same (Contains c.as_slice.result.now) (OfNode c.args.node.now) _ _
    (λ r h.
    let e = sym c.in-Take.is ∙ h.is in
    let same : c.in-Take.ranges ≡ h.ranges = cc in
    subst (λ (l : List (ℕ × ℕ)). Contains l r) (sym (c.as_slice.ensures ∙ same)) h.member))
    c.push_ranges.ensures

pub returns-in-Split : goal.returns-in-Split
returns-in-Split c = has_none (OfNode c.args.node.now) _ (λ r h. let e = sym c.in-Split.is ∙ h.is in cc)

pub returns-in-End : goal.returns-in-End
returns-in-End c = has_none (OfNode c.args.node.now) _ (λ r h. let e = sym c.in-End.is ∙ h.is in cc)
