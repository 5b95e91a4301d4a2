use Rattle.std.proofs.Common.{◌≡◌, sym, subst, List, ◌∷◌}
use Rattle.std.specs.Prelude.{IfOk}
use Rattle.spec_trees.specs.declared.tree.Tree.{Tree}
use Rattle.spec_trees.specs.Made.{IsNode, next_element}
use Rattle.ts_node.proofs.unit.next_of_one.Goals as goal

pub longer-requires-clause-repetition : goal.longer-requires-clause-repetition
longer-requires-clause-repetition c = c.requires.longer

pub longer-requires-clause-node : goal.longer-requires-clause-node
longer-requires-clause-node c =
    subst (λ (ts : List Tree). IsNode (next_element c.args.entry.symbol.0 c.args.alternative c.args.entry.dynamic c.args.extent c.args.state (c.args.child ∷ ts))) (sym c.new-more.ensures.items) c.requires.node

pub returns : goal.returns
returns c =
    subst (λ (ts : List Tree). IfOk c.longer.result (λ node. node ≡ next_element c.args.entry.symbol.0 c.args.alternative c.args.entry.dynamic c.args.extent c.args.state (c.args.child ∷ ts))) c.new-more.ensures.items c.longer.ensures
