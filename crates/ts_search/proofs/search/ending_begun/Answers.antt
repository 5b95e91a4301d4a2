use Rattle.std.proofs.Common.{List, [], sym, subst, ◌↔◌}
use Rattle.std.specs.List.{Contains}
use Rattle.spec_matches.specs.declared.placing.Placing.{Placing}
use Rattle.ts_search.specs.Memory.{Begun, WaysOf}
use Rattle.ts_search.proofs.HeadLemmas.{begun_iff, no_here}
use Rattle.ts_search.proofs.search.ending_begun.Goals as goal

pub returns-then-here : goal.returns-then-here
returns-then-here c f =
    subst (λ (l : List Placing). Contains l f ↔ Begun c.args.here c.args.lo (WaysOf c.args.siblings.now [] c.args.number c.args.lo c.args.beside) f) (sym c.new.ensures.items)
    (no_here c.args.siblings.now c.args.number c.args.lo c.args.beside c.args.here c.if-here.true f)

pub returns : goal.returns
returns c f = begun_iff c.args.here c.if-here.false c.args.lo (WaysOf c.args.siblings.now [] c.args.number c.args.lo c.args.beside) c.in_ok-out.out.items f (c.in_ok-out.ensures f)
