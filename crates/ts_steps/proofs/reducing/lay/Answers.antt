use Rattle.std.proofs.Common.{◌≡◌, ◌∙◌, sym, ap, refl, subst, ◌+◌, ◌++◌, List, [], ◌∷◌, map, drop, reverse, arith}
use Rattle.std.proofs.lemmas.List.{drop_all}
use Rattle.spec_trees.specs.declared.tree.Tree.{Tree}
use Rattle.spec_trees.specs.Trees.{all_spans}
use Rattle.ts_gss.specs.declared.layer.Layer.{Layer}
use Rattle.ts_gss.specs.Stacks.{layer_with, stack_at, trees_on}
use Rattle.ts_steps.specs.LiveHeads.{packed_tree, packed_own, packed_layers}
use Rattle.ts_steps.proofs.MakingLemmas.{dropped}
use Rattle.ts_steps.proofs.StackLemmas.{Pushes, pushes_grow, pushed_there, grows_none, grows_more, laid_begins, laid_more, laid_ends, mapped_more, trees_more}
use Rattle.ts_steps.proofs.reducing.lay.Goals as goal

pub loop-extra-init : goal.loop-extra-init
loop-extra-init c = record {
  there = c.requires;
  one = λ one. one;
  grows = grows_none c.args.graph.now;
  trees = refl;
  layers = refl;
  good = λ t size place can. laid_begins t size place (stack_at c.args.graph.now c.args.below) c.args.state c.args.extras.now can;
}

pub loop-extra-preserved : goal.loop-extra-preserved
loop-extra-preserved c =
    let i = c.loop-extra.invariant in
    let p : Pushes c.loop-extra.graph c.push.new.self c.loop-extra.top c.in_ok-top.top c.extra-item.result c.args.state = record {
      top_is = c.in_ok-top.ensures.head;
      new_is = subst (λ (x : Tree). c.push.new.self ≡ c.loop-extra.graph ++ (layer_with x c.args.state ∷ stack_at c.loop-extra.graph c.loop-extra.top) ∷ []) c.in_ok-try_clone.ensures c.in_ok-top.ensures.pushed;
    } in
    let d = dropped c.args.extras.now c.loop-extra.extra-index c.extra-item.result c.loop-extra-test.true c.extra-item.is in
    record {
      there = pushed_there c.loop-extra.graph c.push.new.self c.loop-extra.top c.in_ok-top.top c.extra-item.result c.args.state p;
      one = λ one. c.in_ok-top.ensures.one (i.one one);
      grows = grows_more c.args.graph.now c.loop-extra.graph c.push.new.self i.grows (pushes_grow c.loop-extra.graph c.push.new.self c.loop-extra.top c.in_ok-top.top c.extra-item.result c.args.state p);
      trees = trees_more c.loop-extra.graph c.push.new.self c.loop-extra.top c.in_ok-top.top c.extra-item.result (drop c.loop-extra.extra-index c.args.extras.now) (drop (c.loop-extra.extra-index + 1) c.args.extras.now) (reverse c.args.extras.now ++ trees_on (stack_at c.args.graph.now c.args.below)) c.args.state p d i.trees;
      layers = mapped_more (λ (l : Layer). packed_tree l.tree l.depth) packed_own (λ x state. refl) c.loop-extra.graph c.push.new.self c.loop-extra.top c.in_ok-top.top c.extra-item.result (drop c.loop-extra.extra-index c.args.extras.now) (drop (c.loop-extra.extra-index + 1) c.args.extras.now)
          (map packed_own (reverse c.args.extras.now) ++ packed_layers (stack_at c.args.graph.now c.args.below)) c.args.state p d i.layers;
      good = λ t size place can.
          laid_more t size (place + all_spans c.args.extras.now) c.loop-extra.graph c.push.new.self c.loop-extra.top c.in_ok-top.top c.extra-item.result (drop c.loop-extra.extra-index c.args.extras.now) (drop (c.loop-extra.extra-index + 1) c.args.extras.now) c.args.state p d
          (i.good t size place can);
    }

pub returns-clause-trees : goal.returns-clause-trees
returns-clause-trees c =
    let none : drop c.loop-extra.extra-index c.args.extras.now ≡ [] = drop_all c.loop-extra.extra-index c.args.extras.now (let h = c.loop-extra-test.false in omega arith) in
    sym (c.loop-extra.invariant.trees ∙ ap (λ (l : List Tree). reverse l ++ trees_on (stack_at c.loop-extra.graph c.loop-extra.top)) none)

pub returns-clause-layers : goal.returns-clause-layers
returns-clause-layers c =
    let none : drop c.loop-extra.extra-index c.args.extras.now ≡ [] = drop_all c.loop-extra.extra-index c.args.extras.now (let h = c.loop-extra-test.false in omega arith) in
    sym (c.loop-extra.invariant.layers ∙ ap (λ (l : List Tree). map packed_own (reverse l) ++ packed_layers (stack_at c.loop-extra.graph c.loop-extra.top)) none)

pub returns-clause-good : goal.returns-clause-good
returns-clause-good c t size place can =
    laid_ends t size (place + all_spans c.args.extras.now) (stack_at c.loop-extra.graph c.loop-extra.top) c.args.state (drop c.loop-extra.extra-index c.args.extras.now)
    (drop_all c.loop-extra.extra-index c.args.extras.now (let h = c.loop-extra-test.false in omega arith)) (c.loop-extra.invariant.good t size place can)

pub returns-clause-one : goal.returns-clause-one
returns-clause-one c one = c.loop-extra.invariant.one one
