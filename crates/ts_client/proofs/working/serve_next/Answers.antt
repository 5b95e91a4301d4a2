use Rattle.std.proofs.Common.{◌≡◌, ◌∙◌, sym, refl, true, false, Result, Ok, Err, is_ok, is_err, length, arith}
use Rattle.std.specs.Vec.{vec_len, with_item}
use Rattle.ts_client.proofs.BetweenLemmas.{pushed, stops_here, serves_here}
use Rattle.ts_client.proofs.working.serve_next.Goals as goal

ok_of : {T E : Type 0} (r : Result T E) → is_err r ≡ false → is_ok r ≡ true
ok_of (Ok x) h = refl
ok_of (Err e) h = absurd (let f : true ≡ false = h in cc)

pub returns-in_default-clause-next : goal.returns-in_default-clause-next
returns-in_default-clause-next g c =
    let count : vec_len c.args.client.now.replies ≡ length c.args.client.now.replies.items = c.args.client.now.replies.ok.0 in
    stops_here c.args.table.now c.args.shelves.now c.args.steps.now c.args.client.now (g.F.Finder.count c.args.finder.now) c.requires.may
    c.len.result c.document_of-place.result c.index-steps-len.result c.index-shelves-place.result c.index_mut.result.now c.serve_keeping.new.desk
    (c.len.ensures ∙ count) c.index-steps-len.is c.document_of-place.ensures c.index-shelves-place.is c.index_mut.ensures.value
    c.serve_keeping.ensures.may c.serve_keeping.ensures.same c.serve_keeping.ensures.offers
    (record { replies = c.args.client.now.replies; desks = with_item c.args.client.now.desks c.document_of-place.result c.serve_keeping.new.desk })
    refl c.requires.may.room c.in_default.ensures.stops refl

pub returns-clause-next : goal.returns-clause-next
returns-clause-next g c =
    let count : vec_len c.args.client.now.replies ≡ length c.args.client.now.replies.items = c.args.client.now.replies.ok.0 in
    let ok : is_ok c.push.result ≡ true = ok_of c.push.result (sym c.is_err.ensures.value ∙ c.if-is_err.false) in
    serves_here c.args.table.now c.args.shelves.now c.args.steps.now c.args.client.now (g.F.Finder.count c.args.finder.now) c.requires.may
    c.len.result c.document_of-place.result c.index-steps-len.result c.index-shelves-place.result c.index_mut.result.now c.serve_keeping.new.desk
    (c.len.ensures ∙ count) c.index-steps-len.is c.document_of-place.ensures c.index-shelves-place.is c.index_mut.ensures.value
    c.serve_keeping.ensures.may c.serve_keeping.ensures.same c.serve_keeping.ensures.offers
    (record { replies = c.push.new.self; desks = with_item c.args.client.now.desks c.document_of-place.result c.serve_keeping.new.desk })
    refl (let more = c.push.ensures.capacity in let room = c.requires.may.room in omega (arith, more, room))
    (g.F.Finder.finds c.args.finder.now) c.args.number c.len-2.result c.in-Some.reply (c.len-2.ensures ∙ count) c.in-Some.ensures.serves
    (pushed c.args.client.now.replies.items c.push.new.self.items c.in-Some.reply (is_ok c.push.result) c.push.ensures.items ok)

pub serve_keeping-requires-clause-kept : goal.serve_keeping-requires-clause-kept
serve_keeping-requires-clause-kept g c = λ κs lives. c.keep_for.ensures (g.F.Finder.form c.args.finder.now) c.requires.kept
