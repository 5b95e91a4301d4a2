use Rattle.std.proofs.Common.{refl}
use Rattle.ts_reductions.specs.Sound.{parsing_from}
use Rattle.ts_glr.proofs.CrossLemmas.{waits_there, some_stack}
use Rattle.ts_glr.proofs.crossing.ask.Goals as goal

pub left_at-requires-clause-there : goal.left_at-requires-clause-there
left_at-requires-clause-there c = let r = c.requires in waits_there r.0 r.1 r.2 r.3 r.4 c.args.spread.now r.5 c.in-Some.head c.in-Some.ensures.0

pub left_at-requires-clause-sound : goal.left_at-requires-clause-sound
left_at-requires-clause-sound c = let r = c.requires in (parsing_from r.0 r.1 r.5.base, r.5.can.whole.sound.laid)

pub returns-in-Some-2-clause-asks : goal.returns-in-Some-2-clause-asks
returns-in-Some-2-clause-asks c =
    let a = c.in-Some.ensures in
    let l = some_stack c.args.spread.now.graph c.in-Some.head c.in_ok-left_at-in-Some.field-0 c.in-Some-2.left c.in-Some-2.is c.in_ok-left_at-in-Some.ensures.left in
    record { head = c.in-Some.head; numbers = l.0; foot = l.1; stack = l.2; is = l.3; alone = a.0; none = a.1; past = a.2 }

pub returns-in-None-clause-asks : goal.returns-in-None-clause-asks
returns-in-None-clause-asks c = record { graph = refl; frontier = refl; ends = refl; place = refl }

pub returns-in-None-2-clause-asks : goal.returns-in-None-2-clause-asks
returns-in-None-2-clause-asks c = c.in_ok-left_at-in-Some.ensures.stays c.in-None-2.is
