use Rattle.std.proofs.Common.{subst, List, ℕ, []}
use Rattle.std.proofs.lemmas.List.{take_all}
use Rattle.ts_automata.specs.Sets.{Adds, Moves}
use Rattle.ts_automata.proofs.AddsLemmas.{adds_all}
use Rattle.ts_automata.proofs.SetLemmas.{moved_none, moved_step}
use Rattle.ts_automata.proofs.closing.moved.Goals as goal

pub loop-from-init : goal.loop-from-init
loop-from-init c = rw c.new-kernel.ensures.items (moved_none c.args.nodes.now c.args.set.now c.args.c)

pub loop-from-preserved : goal.loop-from-preserved
loop-from-preserved c = moved_step c.args.nodes.now c.args.set.now c.loop-from.from-index 0 c.args.c _ _ c.loop-from-test.true c.loop-from.invariant c.in_ok-push_taken.ensures

pub returns : goal.returns
returns c =
    let all = take_all _ _ c.loop-from-test.false in
    adds_all (Moves c.args.nodes.now c.args.set.now c.args.c) c.loop-from.kernel.items (subst (λ (l : List ℕ). Adds (Moves c.args.nodes.now l c.args.c) [] c.loop-from.kernel.items) all c.loop-from.invariant)
