use Rattle.std.proofs.Common.{rules, ◌+◌, ◌<◌, ◌^◌, List, drop, Fits, w32, arith}
use Rattle.std.proofs.lemmas.List.{length-drop}
use Rattle.spec_trees.specs.declared.tree.Element.{Element}
use Rattle.spec_trees.specs.Trees.{elements_of}
use Rattle.ts_node.proofs.ElementLemmas.{settled_within}
use Rattle.ts_offer.proofs.RunLemmas.{settled_run}
use Rattle.ts_offer.proofs.elements.settled_elements.Goals as goal

pub overflow_add-result : goal.overflow_add-result
overflow_add-result c =
    let es : List Element = elements_of c.args.node.now in
    let all : Fits w32 c.elements.result = search rules in
    let h : c.args.from + c.settled_from-count.result < 2 ^ 32 =
    omega (arith, c.settled_from-count.ensures, settled_within (drop c.args.from es), length-drop c.args.from es, c.requires, c.elements.ensures.count, all.fits) in
    record { fits = h }

pub returns-then-count-gt0-clause-run : goal.returns-then-count-gt0-clause-run
returns-then-count-gt0-clause-run c = settled_run c.args.node.now c.args.from c.settled_from-count.result c.requires (omega (arith, c.if-from-gt0.true)) (omega (arith, c.if-count-gt0.true)) c.settled_from-count.ensures
