use Rattle.std.proofs.Common.{List, get_or, refl, subst, arith}
use Rattle.std.specs.List.{Contains}
use Rattle.ts_reductions.proofs.AddLemmas.{read_any, item_in}
use Rattle.ts_places.specs.declared.seeking.Due.{Due}
use Rattle.ts_places.proofs.DueLemmas.{no_due, known_none, known_more, known_all}
use Rattle.ts_places.proofs.seeking.first_known.Goals as goal

pub loop-due-init : goal.loop-due-init
loop-due-init c = λ t g tops a. known_none t g c.args.seek

pub loop-due-preserved : goal.loop-due-preserved
loop-due-preserved c = λ t g tops a.
    let d = get_or c.args.dues.now c.loop-due.due-index no_due in
    let low = c.loop-due-test.true in
    let is = read_any c.args.dues.now c.loop-due.due-index no_due d low in
    known_more t g c.args.seek c.args.dues.now c.loop-due.due-index d low is c.loop-due.found c.earlier_of-found.result (a.each d (subst (λ (l : List Due). Contains l d) a.is (item_in c.args.dues.now c.args.dues.now c.loop-due.due-index d low is refl))).1 c.earlier_of-found.ensures (c.loop-due.invariant t g tops a)

pub returns : goal.returns
returns c = λ t g tops a. known_all t g c.args.seek c.args.dues.now c.loop-due.due-index c.loop-due.found (let h = c.loop-due-test.false in omega arith) (c.loop-due.invariant t g tops a)
