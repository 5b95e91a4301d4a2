-- A run that is over.
use Rattle.std.proofs.Common.{◌≡◌, ◌∙◌, sym, ap, subst, ℕ, ◌<◌, ◌≤◌, List, [], length, slice_get, Option, Some, option_map, arith}
use Rattle.std.proofs.lemmas.List.{length-map}
use Rattle.std.proofs.lemmas.Option.{slice_get_within, slice_get-map}
use Rattle.ts_base.specs.Bytes.{Bytes}
use Rattle.ts_table.specs.declared.view.ParseTable.{ParseTable}
use Rattle.ts_docs.specs.declared.parsed.Pages.{Pages}
use Rattle.ts_script.specs.declared.plan.Plan.{Plan}
use Rattle.ts_script.specs.declared.plan.ScriptStep.{ScriptStep}
use Rattle.ts_replies.specs.declared.reply.Reply.{Reply}
use Rattle.ts_replies.specs.declared.reply.ShownResult.{ShownResult}
use Rattle.spec_history.specs.Legal.{IsCompleteHistory, Legal}
use Rattle.spec_history.specs.Orders.{InOrder}
use Rattle.ts_replay.specs.declared.document.Document.{Document}
use Rattle.ts_replay.specs.declared.document.Client.{Client}
use Rattle.spec_history.specs.Books.{journal_of}
use Rattle.ts_replay.specs.Replays.{HasVersions, AreBooks}
use Rattle.ts_replay.specs.Runs.{HasNoStepLeft}
use Rattle.ts_replay.specs.Running.{books_of, replies_of, history_now, over_in, IsRunAt, AreDone}
use Rattle.ts_replay.proofs.OrderLemmas.{ends_in_order}
use Rattle.ts_replay.proofs.LoopLemmas.{is_done}
use Rattle.ts_replay.proofs.RunningLemmas.{same_thing, there_is}

-- ---- the end

module _ {Finds : Bytes → List ℕ → List ShownResult → Type 0} (plan : Plan) (table : ParseTable) (openings : List Bytes) (order : List ℕ) (documents : List Document) (clients : List Client)
    (at : IsRunAt Finds plan openings order [] table documents clients) (done : AreDone clients (length clients)) where
  steps_of_at : (k : ℕ) (steps : List ScriptStep) (own : List Reply) → slice_get plan.clients k ≡ Some steps → slice_get (replies_of clients) k ≡ Some own
      → (c : Client) × (slice_get clients k ≡ Some c) × (c.steps.now ≡ steps) × (c.replies.items ≡ own)
  steps_of_at k steps own a b =
      let lt : k < length (replies_of clients) = slice_get_within (replies_of clients) k own b in
      let count : length (replies_of clients) ≡ length clients = length-map clients (λ (x : Client). x.replies.items) in
      let c = there_is clients k (omega (arith, lt, count)) in (
        c.0,
        c.1,
        same_thing c.0.steps.now steps (sym (slice_get-map (λ (x : Client). x.steps.now) clients k ∙ ap (option_map (λ (x : Client). x.steps.now)) c.1) ∙ ap (λ (l : List (List ScriptStep)). slice_get l k) at.running.steps_are ∙ a),
        same_thing c.0.replies.items own (sym (slice_get-map (λ (x : Client). x.replies.items) clients k ∙ ap (option_map (λ (x : Client). x.replies.items)) c.1) ∙ b),
      )

  each_done : (k : ℕ) → HasNoStepLeft plan.clients (replies_of clients) k
  each_done k = is_done plan.clients clients at.running.steps_are k (λ c is. done k c (slice_get_within clients k c is) is)

  complete : IsCompleteHistory (history_now plan table openings documents clients)
  complete = record {
    openings = at.running.all_given ∙ at.running.all_open;
    journals = length-map (books_of documents) journal_of ∙ length-map documents (λ (x : Document). x.book) ∙ at.running.all_open;
    clients = length-map clients (λ (x : Client). x.replies.items) ∙ sym (length-map clients (λ (x : Client). x.steps.now)) ∙ ap length at.running.steps_are;
    each = λ k steps own a b.
        let w = steps_of_at k steps own a b in
        let less : length w.0.replies.items ≤ length w.0.steps.now = at.running.short k w.0 w.1 in
        let more : length w.0.steps.now ≤ length w.0.replies.items = done k w.0 (slice_get_within clients k w.0 w.1) w.1 in
        let s : length w.0.steps.now ≡ length steps = ap length w.2 in
        let r : length w.0.replies.items ≡ length own = ap length w.3 in
        omega (arith, less, more, s, r);
  }

  pub ends_legal : Legal Finds (history_now plan table openings documents clients)
  ends_legal = record { whole = complete; lawful = at.running.so_far.lawful }

  pub ends_ordered : InOrder order (history_now plan table openings documents clients)
  ends_ordered = ends_in_order order plan.clients (replies_of clients) (over_in documents) each_done at.in_order

  pub ends_with_versions : AreBooks plan table openings (books_of documents)
  ends_with_versions k opening b a h =
      let lt : k < length (books_of documents) = slice_get_within (books_of documents) k b h in
      let count : length (books_of documents) ≡ length documents = length-map documents (λ (x : Document). x.book) in
      let d = there_is documents k (omega (arith, lt, count)) in
      let same : d.0.book ≡ b = same_thing d.0.book b (sym (slice_get-map (λ (x : Document). x.book) documents k ∙ ap (option_map (λ (x : Document). x.book)) d.1) ∙ h) in
      subst (λ (p : Pages). HasVersions plan table opening p) same (at.running.is_open k d.0 opening d.1 a).versions
