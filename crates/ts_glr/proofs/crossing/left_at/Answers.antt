use Rattle.std.proofs.Common.{sym, subst, refl, ℕ, List}
use Rattle.ts_crossing.specs.Leaving.{IsStack}
use Rattle.ts_glr.proofs.CrossLemmas.{found_by}
use Rattle.ts_glr.proofs.crossing.left_at.Goals as goal

pub one_stack-requires-clause-there : goal.one_stack-requires-clause-there
one_stack-requires-clause-there c = c.requires.there

pub one_stack-requires-clause-sound : goal.one_stack-requires-clause-sound
one_stack-requires-clause-sound c = c.requires.sound

pub returns-in-None-clause-stays : goal.returns-in-None-clause-stays
returns-in-None-clause-stays c = λ none. record { graph = refl; frontier = refl; ends = refl; place = refl }

pub leave-requires-clause-head : goal.leave-requires-clause-head
leave-requires-clause-head c = c.requires.there

pub leave-requires-clause-stack : goal.leave-requires-clause-stack
leave-requires-clause-stack c =
    subst (λ (ns : List ℕ). IsStack c.args.spread.now.graph c.args.head ns c.in-Some.foot) (sym c.as_slice-links.ensures.value)
    (found_by c.args.spread.now.graph c.args.head c.one_stack.new.numbers.items c.in_ok-one_stack.field-0 c.in-Some.foot c.in-Some.is c.in_ok-one_stack.ensures)

pub returns-in_ok-left-in-Some-clause-left : goal.returns-in_ok-left-in-Some-clause-left
returns-in_ok-left-in-Some-clause-left c =
    let s : IsStack c.args.spread.now.graph c.args.head c.as_slice-links.result.now c.in-Some.foot =
    subst (λ (ns : List ℕ). IsStack c.args.spread.now.graph c.args.head ns c.in-Some.foot) (sym c.as_slice-links.ensures.value)
    (found_by c.args.spread.now.graph c.args.head c.one_stack.new.numbers.items c.in_ok-one_stack.field-0 c.in-Some.foot c.in-Some.is c.in_ok-one_stack.ensures) in
    (c.as_slice-links.result.now, c.in-Some.foot, s, c.in_ok-left-in-Some.ensures s)
