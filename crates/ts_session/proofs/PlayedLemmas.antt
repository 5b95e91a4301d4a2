-- What a replay leaves is a run whose lines are printed.
use Rattle.std.proofs.Common.{◌≡◌, ◌∙◌, sym, ap, subst, refl, ℕ, ◌+◌, ◌^◌, ◌<◌, ◌≤◌, List, length, map, get_or, slice_get, Some, arith}
use Rattle.std.proofs.lemmas.List.{length-map}
use Rattle.std.proofs.lemmas.Option.{slice_get-get_or}
use Rattle.std.specs.List.{All}
use Rattle.ts_base.specs.Bytes.{Bytes}
use Rattle.ts_table.specs.declared.view.ParseTable.{ParseTable}
use Rattle.ts_docs.specs.declared.parsed.Pages.{Pages}
use Rattle.ts_replies.specs.declared.reply.Reply.{Reply}
use Rattle.ts_script.specs.declared.plan.Plan.{Plan}
use Rattle.ts_script.specs.declared.plan.ScriptStep.{ScriptStep}
use Rattle.spec_history.specs.Books.{IsHistoryOf, TellsTexts, journal_of}
use Rattle.spec_history.specs.Legal.{IsCompleteHistory}
use Rattle.ts_replay.specs.Replays.{MayReplay, AreBooks, HasVersions, history_of}
use Rattle.ts_session.proofs.FirstLemmas.{some_at}

-- a book for each document
pub books_count : (plan : Plan) (table : ParseTable) (openings : List Bytes) (books : List Pages) (replies : List (List Reply)) → IsCompleteHistory (history_of plan table.grammar openings books replies)
    → length books ≡ length plan.documents
books_count plan table openings books replies w = sym (length-map books journal_of) ∙ w.journals

tells_texts : (plan : Plan) (table : ParseTable) (opening : Bytes) (b : Pages) → HasVersions plan table opening b → TellsTexts plan table.grammar opening b
tells_texts plan table opening b h =
    let first = h.first in
    record {
      opening_is = first.text_is;
      grammar_is = ap (λ (t : ParseTable). t.grammar) first.table_is;
      texts_are = λ number e at. let v = h.others number e at in v.text_is;
    }

pub is_history : (plan : Plan) (table : ParseTable) (openings : List Bytes) (books : List Pages) (replies : List (List Reply)) → IsCompleteHistory (history_of plan table.grammar openings books replies)
    → AreBooks plan table openings books → IsHistoryOf (history_of plan table.grammar openings books replies) books replies
is_history plan table openings books replies w are = record {
  documents = w.openings ∙ sym (books_count plan table openings books replies w);
  texts = λ document opening b o at. tells_texts plan table opening b (are document opening b o at);
  journals_are = refl;
  replies_are = refl;
}

-- ---- how much there is

pub few_books : (plan : Plan) (table : ParseTable) (openings : List Bytes) (books : List Pages) (replies : List (List Reply)) → MayReplay plan → IsCompleteHistory (history_of plan table.grammar openings books replies)
    → length books ≤ 2 ^ 32
few_books plan table openings books replies may w =
    let count = books_count plan table openings books replies w in
    let few = may.documents in
    omega (arith, count, few)

pub few_clients : (plan : Plan) (table : ParseTable) (openings : List Bytes) (books : List Pages) (replies : List (List Reply)) → MayReplay plan → IsCompleteHistory (history_of plan table.grammar openings books replies)
    → length replies ≤ 2 ^ 32
few_clients plan table openings books replies may w =
    let count : length replies ≡ length plan.clients = w.clients in
    let few = may.clients in
    omega (arith, count, few)

pub few_replies : (plan : Plan) (table : ParseTable) (openings : List Bytes) (books : List Pages) (replies : List (List Reply)) → MayReplay plan → IsCompleteHistory (history_of plan table.grammar openings books replies)
    → All (λ (own : List Reply). length own ≤ 2 ^ 32) replies
few_replies plan table openings books replies may w client default inside =
    let count : length replies ≡ length plan.clients = w.clients in
    let steps = some_at plan.clients client (omega (arith, count, inside)) in
    let own = get_or replies client default in
    let same : length own ≡ length steps.0 = w.each client steps.0 own steps.1 (slice_get-get_or replies client default inside) in
    let few = may.few client steps.0 steps.1 in
    omega (arith, same, few)
