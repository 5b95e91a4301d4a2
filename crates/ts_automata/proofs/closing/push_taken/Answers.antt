use Rattle.std.proofs.Common.{◌∙◌, sym, ap, subst, refl, length, Some, List, ℕ}
use Rattle.std.proofs.lemmas.Bool.{false≢true}
use Rattle.std.proofs.lemmas.Option.{slice_get_read}
use Rattle.ts_automata.specs.declared.node.Node.{Node}
use Rattle.spec_lexing.specs.Words.{IsInRanges}
use Rattle.ts_automata.proofs.AddsLemmas.{adds_push}
use Rattle.ts_automata.proofs.NodeLemmas.{past_takes, split_takes, end_takes, other_takes, one_takes}
use Rattle.ts_automata.proofs.closing.push_taken.Goals as goal

pub returns-then-from-nodes : goal.returns-then-from-nodes
returns-then-from-nodes c = past_takes c.args.nodes.now c.args.from c.args.c _ c.if-from-nodes.true

pub returns-in_ok-push-in-Take : goal.returns-in_ok-push-in-Take
returns-in_ok-push-in-Take c =
    let at = slice_get_read c.args.nodes.now (length c.args.nodes.now) c.args.from _ refl c.if-from-nodes.false c.index-nodes-from.is ∙ ap (λ (n : Node). Some n) c.in-Take.is in
    let member = c.is_in.ensures.0 c.if-is_in.true in
    one_takes c.args.nodes.now c.args.from c.args.c _ _ c.in-Take.ranges c.in-Take.to at
    (subst (λ (l : List (ℕ × ℕ)). IsInRanges l c.args.c) c.as_slice.ensures member) (adds_push c.in-Take.to _ _ c.in_ok-push-in-Take.ensures.items)

pub returns-else-is_in : goal.returns-else-is_in
returns-else-is_in c =
    let at = slice_get_read c.args.nodes.now (length c.args.nodes.now) c.args.from _ refl c.if-from-nodes.false c.index-nodes-from.is ∙ ap (λ (n : Node). Some n) c.in-Take.is in
    other_takes c.args.nodes.now c.args.from c.args.c _ c.in-Take.ranges c.in-Take.to at
    (λ h. false≢true (sym c.if-is_in.false ∙ c.is_in.ensures.1 (subst (λ (l : List (ℕ × ℕ)). IsInRanges l c.args.c) (sym c.as_slice.ensures) h)))

pub returns-in-Split : goal.returns-in-Split
returns-in-Split c =
    let at = slice_get_read c.args.nodes.now (length c.args.nodes.now) c.args.from _ refl c.if-from-nodes.false c.index-nodes-from.is ∙ ap (λ (n : Node). Some n) c.in-Split.is in
    split_takes c.args.nodes.now c.args.from c.args.c _ _ _ at

pub returns-in-End : goal.returns-in-End
returns-in-End c =
    let at = slice_get_read c.args.nodes.now (length c.args.nodes.now) c.args.from _ refl c.if-from-nodes.false c.index-nodes-from.is ∙ ap (λ (n : Node). Some n) c.in-End.is in
    end_takes c.args.nodes.now c.args.from c.args.c _ at
