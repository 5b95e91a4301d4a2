use Rattle.std.proofs.Common.{sym, subst, ◌-◌, List, length}
use Rattle.ts_offer.specs.declared.way.Turn.{Turn}
use Rattle.ts_offer.specs.Ways.{AllStandIn}
use Rattle.ts_offer.proofs.WayLemmas.{stand_at}
use Rattle.ts_offer.proofs.way.Way.innermost.Goals as goal

pub returns-in-Some-clause-stands : goal.returns-in-Some-clause-stands
returns-in-Some-clause-stands c =
    let turns : List Turn = c.as_slice.result.now in
    stand_at c.args.self.now.root.now turns (length turns - 1) c.in-Some.turn.now (subst (λ (l : List Turn). AllStandIn c.args.self.now.root.now l) (sym c.as_slice.ensures.value) c.requires.1.stand) (sym c.in-Some.ensures.value)
