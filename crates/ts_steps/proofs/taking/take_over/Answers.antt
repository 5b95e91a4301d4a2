use Rattle.std.proofs.Common.{◌≡◌, ◌∙◌, sym, subst, true≢false, ◌+◌, ◌++◌, [], ◌∷◌, arith}
use Rattle.spec_trees.specs.declared.tree.Tree.{Tree}
use Rattle.ts_gss.specs.Stacks.{stack_at, layer_with}
use Rattle.ts_steps.proofs.StackLemmas.{Pushes}
use Rattle.ts_steps.proofs.HeadLemmas.{taken, taken_stands}
use Rattle.ts_steps.proofs.taking.take_over.Goals as goal

pub lies_within-requires : goal.lies_within-requires
lies_within-requires c = (c.requires.live.live.stack.within, c.requires.short)

pub returns-then-not-is_made-clause-taken : goal.returns-then-not-is_made-clause-taken
returns-then-not-is_made-clause-taken c = λ state can. true≢false (sym (c.is_made.ensures.1 can.made) ∙ c.if-not-is_made.true)

pub returns-in_ok-top-in-Some-clause-taken : goal.returns-in_ok-top-in-Some-clause-taken
returns-in_ok-top-in-Some-clause-taken c =
    let p : Pushes c.args.graph.now c.push.new.self c.args.head.top c.in_ok-top-in-Some.top c.args.node.now c.in-Some.state = record {
      top_is = c.in_ok-top-in-Some.ensures.head;
      new_is = subst (λ (x : Tree). c.push.new.self ≡ c.args.graph.now ++ (layer_with x c.in-Some.state ∷ stack_at c.args.graph.now c.args.head.top) ∷ []) c.in_ok-owner-in-Some.ensures c.in_ok-top-in-Some.ensures.pushed;
    } in
    taken c.laws_hold.ensures c.args.table.now c.args.size c.args.graph.now c.push.new.self c.args.head c.args.node.now c.in-Some.state c.in_ok-top-in-Some.top (c.args.head.place + (c.pad.result + c.size.result)) p c.requires.live c.requires.own c.requires.settled
    (record { made = c.is_made.ensures.0 c.if-not-is_made.false; reach = c.lies_within.ensures.0 c.if-lies_within.true; leads = c.in-Some.ensures }) (omega (arith, c.pad.ensures, c.size.ensures))

pub returns-in_ok-top-in-Some-clause-stand : goal.returns-in_ok-top-in-Some-clause-stand
returns-in_ok-top-in-Some-clause-stand c states text long are honest stand =
    let p : Pushes c.args.graph.now c.push.new.self c.args.head.top c.in_ok-top-in-Some.top c.args.node.now c.in-Some.state = record {
      top_is = c.in_ok-top-in-Some.ensures.head;
      new_is = subst (λ (x : Tree). c.push.new.self ≡ c.args.graph.now ++ (layer_with x c.in-Some.state ∷ stack_at c.args.graph.now c.args.head.top) ∷ []) c.in_ok-owner-in-Some.ensures c.in_ok-top-in-Some.ensures.pushed;
    } in
    taken_stands c.sound_laws_hold.ensures c.args.table.now c.args.size states text c.args.graph.now c.push.new.self c.args.head c.args.node.now c.in-Some.state c.in_ok-top-in-Some.top p c.requires.live c.stands.ensures are honest stand

pub returns-in_ok-top-in-Some-clause-one : goal.returns-in_ok-top-in-Some-clause-one
returns-in_ok-top-in-Some-clause-one c one = c.in_ok-top-in-Some.ensures.one one
