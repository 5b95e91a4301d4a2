use Rattle.std.proofs.Common.{◌∙◌, ◌<◌, sym, length, arith}
use Rattle.ts_search.proofs.MovingLemmas.{never, settles_there}
use Rattle.ts_search.proofs.PassingLemmas.{next_inside, nowhere, settles_itself, settles_on}
use Rattle.ts_search.proofs.passing.+settled.Goals as goal

pub settled-requires : goal.settled-requires
settled-requires t c =
    let k = next_inside c.args.all.now c.in-Some.rest.now c.in-Some.slot.now c.args.key.number (sym c.from_number.ensures ∙ c.in-Some.ensures.cases.0) in
    (omega (arith, k), omega (arith, k))

pub returns-in_default : goal.returns-in_default
returns-in_default t c = settles_itself c.args.siblings.now c.args.all.now c.args.key c.requires

pub returns-then-not-may_move : goal.returns-then-not-may_move
returns-then-not-may_move t c = settles_itself c.args.siblings.now c.args.all.now c.args.key c.requires

pub returns-then-place-len : goal.returns-then-place-len
returns-then-place-len t c =
    never c.args.siblings.now c.args.all.now c.in-Some.rest.now c.in-Some.slot.now c.args.key (c.may_move.ensures c.if-not-may_move.false) (sym c.from_number.ensures ∙ c.in-Some.ensures.cases.0)
    c.first_taken-place.result c.first_taken-place.ensures.none (omega (arith, c.if-place-len.true, c.len.ensures))

pub returns-then-not-passes_over : goal.returns-then-not-passes_over
returns-then-not-passes_over t c =
    let inside : c.first_taken-place.result < length c.args.siblings.now.named = omega (arith, c.if-place-len.false, c.len.ensures) in
    let taken = c.first_taken-place.ensures.taken inside in
    settles_there c.args.siblings.now c.args.all.now c.in-Some.rest.now c.in-Some.slot.now c.args.key (c.may_move.ensures c.if-not-may_move.false) (sym c.from_number.ensures ∙ c.in-Some.ensures.cases.0)
    c.first_taken-place.result c.first_taken-place.ensures.none taken.0 c.requires

pub returns-in-Some-settled : goal.returns-in-Some-settled
returns-in-Some-settled t c =
    let inside : c.first_taken-place.result < length c.args.siblings.now.named = omega (arith, c.if-place-len.false, c.len.ensures) in
    let over = c.passes_over.ensures c.if-not-passes_over.false in
    settles_on c.args.siblings.now c.args.all.now c.in-Some.rest.now c.in-Some.slot.now c.args.key over.0 (sym c.from_number.ensures ∙ c.in-Some.ensures.cases.0)
    over.1 c.args.siblings.now.silence c.first_taken-place.result c.first_taken-place.ensures.none inside (c.first_taken-place.ensures.taken inside) c.in-Some-settled.to c.in-Some-settled.ensures

pub returns-in-None : goal.returns-in-None
returns-in-None t c =
    let inside : c.first_taken-place.result < length c.args.siblings.now.named = omega (arith, c.if-place-len.false, c.len.ensures) in
    let over = c.passes_over.ensures c.if-not-passes_over.false in
    nowhere c.args.siblings.now c.args.all.now c.in-Some.rest.now c.in-Some.slot.now c.args.key over.0 (sym c.from_number.ensures ∙ c.in-Some.ensures.cases.0)
    over.1 c.args.siblings.now.silence c.first_taken-place.result c.first_taken-place.ensures.none inside (c.first_taken-place.ensures.taken inside) c.in-None.ensures
