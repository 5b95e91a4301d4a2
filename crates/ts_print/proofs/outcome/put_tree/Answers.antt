use Rattle.std.proofs.Common.{length}
use Rattle.std.proofs.lemmas.Result.{on_ok_weaker}
use Rattle.spec_trees.specs.Trees.{span_of}
use Rattle.ts_print.proofs.WrittenLemmas.{token_added, lie_wider, tree_added}
use Rattle.ts_print.proofs.outcome.put_tree.Goals as goal

pub put_nodes-requires : goal.put_nodes-requires
put_nodes-requires c = lie_wider (span_of c.args.root.now) (length c.args.text.now) c.in_ok-cursor.cursor.nodes c.requires c.in_ok-cursor.ensures.lie

pub returns : goal.returns
returns c = on_ok_weaker c.put_word.result (λ told.
    tree_added c.args.grammar.now c.args.text.now c.args.root.now c.in_ok-cursor.cursor.nodes _ _ _ _
    c.in_ok-cursor.ensures.nodes (token_added _ _ _ c.in_ok-key.ensures) c.in_ok-put_nodes.ensures told) c.put_word.ensures
