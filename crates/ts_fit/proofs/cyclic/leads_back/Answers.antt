use Rattle.std.proofs.Common.{List, ℕ, subst, arith}
use Rattle.ts_fit.specs.Searches.{Adds, LeadsAlone}
use Rattle.ts_fit.proofs.CyclicLemmas.{leads_back_is}
use Rattle.ts_fit.proofs.GrowLemmas.{closing_begins, closing_more, closed}
use Rattle.ts_fit.proofs.cyclic.leads_back.Goals as goal

pub loop-next-init : goal.loop-next-init
loop-next-init c = closing_begins (LeadsAlone c.args.grammar.now) c.expand.new.found.keys

pub loop-next-preserved : goal.loop-next-preserved
loop-next-preserved c =
    closing_more (LeadsAlone c.args.grammar.now) c.expand.new.found.keys c.loop-next.found.keys c.expand-in-loop-next.new.found.keys c.loop-next.next c.place_at-from.result (omega (arith, c.len.ensures.len, c.loop-next-test.true))
    c.place_at-from.ensures c.loop-next.invariant c.in_ok-expand-2.ensures

pub returns : goal.returns
returns c =
    let first = subst (λ (l : List ℕ). Adds (LeadsAlone c.args.grammar.now c.args.start) l c.expand.new.found.keys) c.new-found.ensures.empty c.in_ok-expand.ensures in
    leads_back_is c.args.grammar.now c.args.start c.expand.new.found.keys c.loop-next.found.keys c.has.result first
    (closed (LeadsAlone c.args.grammar.now) c.expand.new.found.keys c.loop-next.found.keys c.loop-next.next (omega (arith, c.len.ensures.len, c.loop-next-test.false)) c.loop-next.invariant) c.has.ensures
