use Rattle.std.proofs.Common.{arith, true}
use Rattle.ts_search.specs.declared.stand.Key.{Key}
use Rattle.ts_search.specs.Memory.{TellsOf}
use Rattle.ts_search.proofs.GainLemmas.{finds_nothing}
use Rattle.ts_search.proofs.PassingLemmas.{settled_finds}
use Rattle.ts_search.proofs.search.embeddings.Goals as goal

pub settled-requires : goal.settled-requires
settled-requires c = omega arith

pub from_number-slots-requires : goal.from_number-slots-requires
from_number-slots-requires c = c.in-Some.ensures.inside

pub returns-in_default : goal.returns-in_default
returns-in_default c =
    let asked : Key = record { number = 0; lo = 0; beside = true; wanted = c.args.wanted } in
    finds_nothing (TellsOf c.args.siblings.now c.args.all.now asked) _ c.new.result.items c.new.ensures.items c.in_default.ensures

pub returns : goal.returns
returns c =
    let asked : Key = record { number = 0; lo = 0; beside = true; wanted = c.args.wanted } in
    settled_finds c.args.siblings.now c.args.all.now c.from_number-slots.result.now asked c.in-Some.key c.from_number-slots.ensures c.in-Some.ensures _ _ c.in_ok-found.found.items c.in_ok-found.ensures.ways
