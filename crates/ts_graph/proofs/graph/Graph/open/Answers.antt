use Rattle.std.proofs.Common.{refl, inl, arith}
use Rattle.ts_graph.proofs.HeadLemmas.{opens_last, stay_more}
use Rattle.ts_graph.proofs.graph.Graph.«open».Goals as goal

pub returns-in-Some-clause-opened : goal.returns-in-Some-clause-opened
returns-in-Some-clause-opened c = record { at = c.in-Some.ensures.at; added = inl refl }

pub returns-in-Some-clause-own : goal.returns-in-Some-clause-own
returns-in-Some-clause-own c = c.in-Some.ensures.own

pub returns-in_ok-number-in-None-clause-opened : goal.returns-in_ok-number-in-None-clause-opened
returns-in_ok-number-in-None-clause-opened c =
    opens_last c.args.self.now.heads c.add.new.self.heads c.args.head c.in_ok-number-in-None.number c.in_ok-number-in-None.ensures.added c.in_ok-number-in-None.ensures.number

pub returns-in_ok-number-in-None-clause-own : goal.returns-in_ok-number-in-None-clause-own
returns-in_ok-number-in-None-clause-own c =
    let low = c.base.ensures.lies.there in
    let is = c.in_ok-number-in-None.ensures.number in
    let same = c.in_ok-number-in-None.ensures.base in
    omega (arith, low, is, same)

pub returns-in_ok-number-in-None-clause-stay : goal.returns-in_ok-number-in-None-clause-stay
returns-in_ok-number-in-None-clause-stay c =
    stay_more c.args.self.now.heads c.add.new.self.heads c.args.head c.in_ok-number-in-None.ensures.added
