use Rattle.ts_glr.proofs.ActLemmas.{shift_room, reduce_stays, accept_stays, some_seen, seen_within, acted_shift, acted_reduce, acted_too_deep, acted_accept}
use Rattle.ts_glr.proofs.acting.act.Goals as goal

pub shift-requires-clause-room : goal.shift-requires-clause-room
shift-requires-clause-room c =
    let r = c.requires.sees in
    shift_room c.laws_hold.ensures c.args.table.now c.args.setting.now.size c.args.readings.now.graph c.args.head c.args.found c.args.action c.requires.acts r.0 r.1 r.2 c.in-Shift.state c.in-Shift.is c.requires.setting.short

pub reduce-requires-clause-stays : goal.reduce-requires-clause-stays
reduce-requires-clause-stays c =
    let r = c.requires.sees in
    reduce_stays c.laws_hold.ensures c.args.table.now c.args.setting.now.size c.args.readings.now.graph c.args.head c.args.found c.args.action c.requires.acts r.0 r.1 r.2 c.in-Reduce.number c.in-Reduce.is

pub reduce-requires-clause-some : goal.reduce-requires-clause-some
reduce-requires-clause-some c =
    let r = c.requires.sees in
    some_seen c.laws_hold.ensures c.args.table.now c.args.setting.now.size c.args.readings.now.graph c.args.head c.args.found c.args.action c.requires.acts r.0 r.1 r.2

pub reduce-requires-clause-ahead : goal.reduce-requires-clause-ahead
reduce-requires-clause-ahead c =
    let r = c.requires.sees in
    seen_within c.laws_hold.ensures c.args.table.now c.args.setting.now.size c.args.readings.now.graph c.args.head c.args.found c.args.action c.requires.acts r.0 r.1 r.2

pub accept-requires-clause-stays : goal.accept-requires-clause-stays
accept-requires-clause-stays c =
    let r = c.requires.sees in
    accept_stays c.laws_hold.ensures c.args.table.now c.args.setting.now.size c.args.readings.now.graph c.args.head c.args.found c.args.action c.requires.acts r.0 r.1 r.2 c.in-Accept.is

pub returns-in_ok-next-in-Shift-clause-acted : goal.returns-in_ok-next-in-Shift-clause-acted
returns-in_ok-next-in-Shift-clause-acted c text long ahead =
    acted_shift c.laws_hold.ensures c.args.table.now c.args.setting.now.size c.args.readings.now.graph c.args.head c.args.found c.args.action c.requires.acts text long ahead c.stands.ensures c.requires.live c.shift.new.graph c.args.readings.now.best
    c.in-Shift.state c.in_ok-next-in-Shift.next c.in-Shift.is c.in_ok-next-in-Shift.ensures.config c.in_ok-next-in-Shift.ensures.layers c.in_ok-next-in-Shift.ensures.live c.in_ok-next-in-Shift.ensures.stand

pub returns-in-Some-clause-acted : goal.returns-in-Some-clause-acted
returns-in-Some-clause-acted c text long ahead =
    acted_reduce c.laws_hold.ensures c.args.table.now c.args.setting.now.size c.args.readings.now.graph c.args.head c.args.found c.args.action c.requires.acts text long ahead c.stands.ensures c.requires.live c.reduce.new.graph c.args.readings.now.best
    c.in-Reduce.number c.in_ok-next-in-Reduce.field-0 c.in-Some.next c.in-Some.is c.in-Reduce.is c.in_ok-next-in-Reduce.ensures.done c.in_ok-next-in-Reduce.ensures.live c.in_ok-next-in-Reduce.ensures.stand

pub returns-in-None-clause-acted : goal.returns-in-None-clause-acted
returns-in-None-clause-acted c text long ahead =
    acted_too_deep c.laws_hold.ensures c.args.table.now c.args.setting.now.size c.args.readings.now.graph c.args.head c.args.found c.args.action c.requires.acts text long ahead c.stands.ensures c.requires.live c.reduce.new.graph c.args.readings.now.best
    c.in-Reduce.number c.in_ok-next-in-Reduce.field-0 c.in-None.is c.in-Reduce.is c.in_ok-next-in-Reduce.ensures.done

pub returns-in_ok-node-in-Accept-clause-acted : goal.returns-in_ok-node-in-Accept-clause-acted
returns-in_ok-node-in-Accept-clause-acted c text long ahead =
    acted_accept c.laws_hold.ensures c.args.table.now c.args.setting.now.size c.args.readings.now.graph c.args.head c.args.found c.args.action c.requires.acts text long ahead c.stands.ensures c.requires.live c.args.readings.now.graph c.args.readings.now.best
    c.in_ok-node-in-Accept.node c.keep.new.best c.in-Accept.is c.in_ok-node-in-Accept.ensures.root c.keep.ensures.kept c.in_ok-node-in-Accept.ensures.own c.in_ok-node-in-Accept.ensures.state c.in_ok-node-in-Accept.ensures.sound
