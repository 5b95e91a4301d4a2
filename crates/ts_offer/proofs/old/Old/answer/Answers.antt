use Rattle.std.proofs.Common.{◌≡◌, ap, vec_capacity, arith}
use Rattle.ts_offer.specs.declared.offering.Offering.{Offering}
use Rattle.ts_offer.proofs.WayLemmas.{later_way}
use Rattle.ts_offer.proofs.old.Old.answer.Goals as goal

pub go_to-ahead-requires : goal.go_to-ahead-requires
go_to-ahead-requires c =
    let least : c.self.inside.least ≡ c.args.self.now.least = ap (λ (o : Offering). o.least) c.self.view_is in
    later_way c.self.inside.way.root.now (vec_capacity c.self.inside.way.turns) c.self.inside.way.turns.items c.self.inside.least c.args.place c.self.invariant (omega (arith, least, c.requires))
