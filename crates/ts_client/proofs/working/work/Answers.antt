use Rattle.std.proofs.Common.{◌≡◌, ◌∙◌, subst, refl, ℕ, ◌<◌, length, vec_len, arith}
use Rattle.ts_client.proofs.BetweenLemmas.{begins_client, all_done, worked_as, own_steps, fewer_left}
use Rattle.ts_client.proofs.working.work.Goals as goal

pub loop-steps-init : goal.loop-steps-init
loop-steps-init g c = record {
  lexer = c.requires.lexer;
  at = begins_client (g.F.Finder.finds c.args.finder.now) c.args.plan.now c.args.table.now c.args.number c.as_slice-steps.result.now c.args.shelves.now c.args.client
      (c.requires.begins c.as_slice-steps.result.now (own_steps c.args.plan.now c.args.number c.as_slice.result.now c.index-as_slice-number.result c.as_slice-steps.result.now
      c.as_slice.ensures c.requires.number c.index-as_slice-number.is c.as_slice-steps.ensures));
  kept = tt;
}

pub go_on-requires-clause-steps : goal.go_on-requires-clause-steps
go_on-requires-clause-steps g c = λ κs lives. own_steps c.args.plan.now c.args.number c.as_slice.result.now c.index-as_slice-number.result c.as_slice-steps.result.now
    c.as_slice.ensures c.requires.number c.index-as_slice-number.is c.as_slice-steps.ensures

pub go_on-requires-clause-at : goal.go_on-requires-clause-at
go_on-requires-clause-at g c = λ κs lives. (c.args.client.desks.items, c.loop-steps.invariant.at)

pub go_on-requires-clause-more : goal.go_on-requires-clause-more
go_on-requires-clause-more g c = λ κs lives.
    let count : vec_len c.loop-steps.client.replies ≡ length c.loop-steps.client.replies.items = c.loop-steps.client.replies.ok.0 in
    subst (λ (n : ℕ). n < length c.as_slice-steps.result.now) (c.len.ensures ∙ count) c.loop-steps-test.true

pub loop-steps-preserved : goal.loop-steps-preserved
loop-steps-preserved g c = record {
  lexer = c.go_on.ensures.lexer;
  at = c.if-not-go_on.ensures.next c.args.client.desks.items c.loop-steps.invariant.at;
  kept = c.go_on.ensures.kept;
}

pub loop-steps-smaller : goal.loop-steps-smaller
loop-steps-smaller g c =
    let count : vec_len c.loop-steps.client.replies ≡ length c.loop-steps.client.replies.items = c.loop-steps.client.replies.ok.0 in
    fewer_left (length c.as_slice-steps.result.now) (length c.loop-steps.client.replies.items) (length c.go_on.new.client.replies.items)
    (subst (λ (n : ℕ). n < length c.as_slice-steps.result.now) (c.len.ensures ∙ count) c.loop-steps-test.true)
    (c.if-not-go_on.ensures.fewer refl)

pub returns-clause-works : goal.returns-clause-works
returns-clause-works g c = λ steps given.
    let count : vec_len c.loop-steps.client.replies ≡ length c.loop-steps.client.replies.items = c.loop-steps.client.replies.ok.0 in
    let n : c.len.result ≡ length c.loop-steps.client.replies.items = c.len.ensures ∙ count in
    let over = c.loop-steps-test.false in
    worked_as (g.F.Finder.finds c.args.finder.now) c.args.plan.now c.args.table.now.grammar c.args.number c.as_slice-steps.result.now steps c.args.client.desks.items c.loop-steps.client
    (own_steps c.args.plan.now c.args.number c.as_slice.result.now c.index-as_slice-number.result c.as_slice-steps.result.now
    c.as_slice.ensures c.requires.number c.index-as_slice-number.is c.as_slice-steps.ensures)
    given
    (all_done (g.F.Finder.finds c.args.finder.now) c.args.plan.now c.args.table.now c.args.number c.as_slice-steps.result.now c.args.shelves.now c.args.client.desks.items c.loop-steps.client
    c.loop-steps.invariant.at (omega (arith, over, n)))

pub returns-then-not-go_on-clause-works : goal.returns-then-not-go_on-clause-works
returns-then-not-go_on-clause-works g c = λ steps given.
    worked_as (g.F.Finder.finds c.args.finder.now) c.args.plan.now c.args.table.now.grammar c.args.number c.as_slice-steps.result.now steps c.args.client.desks.items c.go_on.new.client
    (own_steps c.args.plan.now c.args.number c.as_slice.result.now c.index-as_slice-number.result c.as_slice-steps.result.now
    c.as_slice.ensures c.requires.number c.index-as_slice-number.is c.as_slice-steps.ensures)
    given
    (c.if-not-go_on.ensures.next c.args.client.desks.items c.loop-steps.invariant.at)
