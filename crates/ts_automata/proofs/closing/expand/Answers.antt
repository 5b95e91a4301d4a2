use Rattle.std.proofs.Common.{◌∙◌, ap, refl, length, Some}
use Rattle.std.proofs.lemmas.Option.{slice_get_read}
use Rattle.std.proofs.lemmas.Result.{on_ok_weaker}
use Rattle.ts_automata.specs.declared.node.Node.{Node}
use Rattle.ts_automata.proofs.NodeLemmas.{past_splits, take_splits, end_splits, split_splits}
use Rattle.ts_automata.proofs.closing.expand.Goals as goal

pub returns-then-from-nodes : goal.returns-then-from-nodes
returns-then-from-nodes c = past_splits c.args.nodes.now c.args.from _ c.if-from-nodes.true

pub returns-in-Take : goal.returns-in-Take
returns-in-Take c =
    let at = slice_get_read c.args.nodes.now (length c.args.nodes.now) c.args.from _ refl c.if-from-nodes.false c.index-nodes-from.is ∙ ap (λ (n : Node). Some n) c.in-Take.is in
    take_splits c.args.nodes.now c.args.from _ _ _ at

pub returns-in-Split : goal.returns-in-Split
returns-in-Split c =
    let at = slice_get_read c.args.nodes.now (length c.args.nodes.now) c.args.from _ refl c.if-from-nodes.false c.index-nodes-from.is ∙ ap (λ (n : Node). Some n) c.in-Split.is in
    on_ok_weaker c.add_two.result (split_splits c.args.nodes.now c.args.from _ _ c.in-Split.left c.in-Split.right at) c.add_two.ensures

pub returns-in-End : goal.returns-in-End
returns-in-End c =
    let at = slice_get_read c.args.nodes.now (length c.args.nodes.now) c.args.from _ refl c.if-from-nodes.false c.index-nodes-from.is ∙ ap (λ (n : Node). Some n) c.in-End.is in
    end_splits c.args.nodes.now c.args.from _ at
