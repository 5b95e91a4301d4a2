use Rattle.std.proofs.Common.{◌≡◌, ◌∙◌, sym, ap, subst, refl, ℕ, ◌≤◌, List, length, arith}
use Rattle.std.specs.List.{All}
use denote.Param.Send.{sendable}
use Rattle.std.proofs.Crossing.{crosses}
use Rattle.std.specs.Global.{Vec}
use Rattle.ts_docs.specs.declared.parsed.Pages.{Pages}
use Rattle.ts_replies.specs.declared.reply.Reply.{Reply}
use Rattle.spec_history.specs.Books.{IsHistoryOf}
use Rattle.spec_history.specs.Histories.{History}
use Rattle.spec_history.specs.Printed.{IsPrinted}
use Rattle.ts_replay.specs.Replays.{history_of}
use Rattle.ts_predicate.specs.Predicates.{AnswersOf}
use Rattle.ts_session.specs.Replays.{IsRun}
use Rattle.ts_session.proofs.JudgeLemmas.{ok_then}
use Rattle.ts_session.proofs.PlayedLemmas.{is_history, few_books, few_clients, few_replies}
use Rattle.ts_session.proofs.SyncLemmas.{query_sync, grammar_sync}
use Rattle.ts_session.proofs.running.ran.Goals as goal

pub run-requires-sync-F : goal.run-requires-sync-F
run-requires-sync-F g c κs within = let h = c.type_bounds.sync-H in search (query_sync, grammar_sync, sendable, crosses) depth 30 fits 5000

pub transcript_on_threads-bytes-requires-clause-documents : goal.transcript_on_threads-bytes-requires-clause-documents
transcript_on_threads-bytes-requires-clause-documents g c = λ κs lives.
    let may = c.requires.may in
    let legal = c.in_ok-books.ensures.legal in
    let few = few_books c.args.plan.now c.args.table.now c.args.texts.items c.in_ok-books.field-0.books c.in_ok-books.field-0.replies may legal.whole in
    subst (λ (books : List Pages). length books ≤ 4294967296) (sym c.as_slice.ensures) few

pub transcript_on_threads-bytes-requires-clause-clients : goal.transcript_on_threads-bytes-requires-clause-clients
transcript_on_threads-bytes-requires-clause-clients g c = λ κs lives.
    let may = c.requires.may in
    let legal = c.in_ok-books.ensures.legal in
    let few = few_clients c.args.plan.now c.args.table.now c.args.texts.items c.in_ok-books.field-0.books c.in_ok-books.field-0.replies may legal.whole in
    subst (λ (replies : List (List Reply)). length replies ≤ 4294967296) (sym c.as_slice-2.ensures) few

pub transcript_on_threads-bytes-requires-clause-steps : goal.transcript_on_threads-bytes-requires-clause-steps
transcript_on_threads-bytes-requires-clause-steps g c = λ κs lives.
    let may = c.requires.may in
    let legal = c.in_ok-books.ensures.legal in
    let few = few_replies c.args.plan.now c.args.table.now c.args.texts.items c.in_ok-books.field-0.books c.in_ok-books.field-0.replies may legal.whole in
    subst (λ (replies : List (List Reply)). All (λ (own : List Reply). length own ≤ 4294967296) replies) (sym c.as_slice-2.ensures) few

pub returns : goal.returns
returns g c =
    let h : History = history_of c.args.plan.now c.args.table.now.grammar c.args.texts.items c.in_ok-books.field-0.books c.in_ok-books.field-0.replies in
    let legal = c.in_ok-books.ensures.legal in
    let left = is_history c.args.plan.now c.args.table.now c.args.texts.items c.in_ok-books.field-0.books c.in_ok-books.field-0.replies legal.whole c.in_ok-books.ensures.versions in
    let with_books : IsHistoryOf h c.as_slice.result.now c.in_ok-books.field-0.replies = subst (λ (books : List Pages). IsHistoryOf h books c.in_ok-books.field-0.replies) (sym c.as_slice.ensures) left in
    let whole : IsHistoryOf h c.as_slice.result.now c.as_slice-2.result.now = subst (λ (replies : List (List Reply)). IsHistoryOf h c.as_slice.result.now replies) (sym c.as_slice-2.ensures) with_books in
    ok_then c.transcript_on_threads-bytes.result (λ (bytes : Vec ℕ). (k : History) → k.grammar ≡ c.grammar.result.now → IsHistoryOf k c.as_slice.result.now c.as_slice-2.result.now → IsPrinted k bytes.items)
    (λ (bytes : Vec ℕ). IsRun c.args.queries.now.grammar.now c.args.plan.now c.args.queries.now.queries.now (AnswersOf (g.H.Hosts.called c.args.queries.now.hosts.now) (g.H.Hosts.accepts c.args.queries.now.hosts.now)) c.args.texts.items bytes.items)
    (λ bytes printed. record {
      history = h;
      grammar_is = sym c.requires.form;
      plan_is = refl;
      openings_are = refl;
      legal = legal;
      printed = printed h (sym c.grammar.ensures) whole;
    }) c.transcript_on_threads-bytes.ensures.printed
