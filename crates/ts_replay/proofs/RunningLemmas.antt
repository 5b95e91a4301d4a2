-- Documents and clients after one more step.
use Rattle.std.proofs.Common.{◌≡◌, ◌∙◌, sym, ap, refl, subst, ℕ, zero, suc, ◌+◌, ◌<◌, ◌≤◌, ◌^◌, ◌==◌, nat_eq, if◌then◌else◌, true, false, Bool, ◌⊎◌, inl, inr, ⊎_elim, List, [], ◌∷◌, ◌++◌, length, map, take, set, slice_get, get_or, Option, Some, option_map, unwrap_or, arith}
use Rattle.std.specs.Option.{option_and_then}
use Rattle.std.proofs.lemmas.Bool.{cases_eq, eq-eqb, eqb-true}
use Rattle.std.proofs.lemmas.List.{length-map, length-set, map-set, take_all}
use Rattle.std.proofs.lemmas.Option.{slice_get_within, slice_get-map, slice_get-get_or}
use Rattle.ts_base.proofs.PlaceLemmas.{set_here, set_there}
use Rattle.ts_base.specs.Bytes.{Bytes}
use Rattle.ts_shelf.specs.Entries.{most_turns}
use Rattle.ts_table.specs.declared.view.ParseTable.{ParseTable}
use Rattle.ts_docs.specs.declared.parsed.ParsedText.{ParsedText}
use Rattle.ts_docs.specs.Versions.{IsTextOf}
use Rattle.ts_script.specs.declared.plan.Plan.{Plan}
use Rattle.ts_script.specs.declared.plan.ScriptStep.{ScriptStep}
use Rattle.ts_script.specs.declared.plan.ScriptStep.TheVariants as step
use Rattle.ts_replies.specs.declared.reply.ShownResult.{ShownResult}
use Rattle.ts_replies.specs.declared.reply.Reply.{Reply}
use Rattle.ts_replies.specs.declared.reply.Reply.TheVariants as reply
use Rattle.spec_history.specs.Replies.{document_of, version_of, most_looks}
use Rattle.spec_history.specs.Histories.{History, asked_at, version_text, held_before, last_told, held_after, paired}
use Rattle.spec_history.specs.Legal.{IsRight}
use Rattle.spec_history.specs.Orders.{TakesTurns}
use Rattle.ts_replay.specs.declared.document.Document.{Document}
use Rattle.ts_replay.specs.declared.document.Client.{Client}
use Rattle.spec_history.specs.Books.{journal_entry_of, journal_of}
use Rattle.ts_replay.specs.Replays.{history_of}
use Rattle.ts_replay.specs.Steps.{place, NeedsRoom}
use Rattle.ts_replay.specs.Runs.{SoFar, with_own_reply, next_history, IsOneMoreReply, weight_left, edits_on, RunsInOrder}
use Rattle.ts_replay.specs.Running.{books_of, replies_of, client_steps, over_in, history_now, IsOpen, HoldsVersion, IsRunning, MayTakeStep, IsStepTaken}
use Rattle.ts_replay.proofs.ReplyLemmas.{own_after, others_after, left_next, length_one_more, length_paired, paired_push, held_push}
use Rattle.ts_replay.proofs.AskLemmas.{does_grow, does_take, turn_within, sum_stays, room_within, does_rise, held_within, text_stays, held_now, latest_now, versions_now, does_right}
use Rattle.ts_replay.proofs.NextLemmas.{next_so_far}
use Rattle.ts_replay.proofs.OrderLemmas.{next_in_order}
use Rattle.ts_replay.proofs.ToldLemmas.{last_is_told}

-- ---- where things stand

books_at : (documents : List Document) (k : ℕ) (d : Document) → slice_get documents k ≡ Some d → slice_get (map journal_of (books_of documents)) k ≡ Some (journal_of d.book)
books_at documents k d is =
    slice_get-map journal_of (books_of documents) k
    ∙ ap (option_map journal_of) (slice_get-map (λ (x : Document). x.book) documents k ∙ ap (option_map (λ (x : Document). x.book)) is)

replies_at : (clients : List Client) (c : ℕ) (client : Client) → slice_get clients c ≡ Some client → slice_get (replies_of clients) c ≡ Some client.replies.items
replies_at clients c client is = slice_get-map (λ (x : Client). x.replies.items) clients c ∙ ap (option_map (λ (x : Client). x.replies.items)) is

steps_at : (clients : List Client) (c : ℕ) (client : Client) → slice_get clients c ≡ Some client → slice_get (client_steps clients) c ≡ Some client.steps.now
steps_at clients c client is = slice_get-map (λ (x : Client). x.steps.now) clients c ∙ ap (option_map (λ (x : Client). x.steps.now)) is

over_at : (documents : List Document) (k : ℕ) (d : Document) → slice_get documents k ≡ Some d → over_in documents k ≡ d.turn
over_at documents k d is = ap (λ (o : Option Document). unwrap_or (option_map (λ (x : Document). x.turn) o) 0) is

pub same_thing : {X : Type 0} (x y : X) → Some x ≡ Some y → x ≡ y
same_thing x y h = cc

-- what stands in one list stands in each as long
given : {X Y : Type 0} (xs : List X) (ys : List Y) (k : ℕ) (x : X) (d : Y) → length ys ≡ length xs → slice_get xs k ≡ Some x → slice_get ys k ≡ Some (get_or ys k d)
given xs ys k x d same is = slice_get-get_or ys k d (let lt : k < length xs = slice_get_within xs k x is in omega (arith, lt, same))

not_same : (a b : ℕ) → (a == b) ≡ false → a ≡ b → ⊥
not_same a b other e = absurd (let f : true ≡ false = sym (eq-eqb a b e) ∙ other in cc)

pub there_is : {X : Type 0} (xs : List X) (k : ℕ) → k < length xs → (x : X) × (slice_get xs k ≡ Some x)
there_is [] k lt = absurd (let f : ⊥ = omega (arith, lt) in f)
there_is (x ∷ xs) zero lt = (x, refl)
there_is (x ∷ xs) (suc k) lt = there_is xs k (omega (arith, lt))

set_stays : {X : Type 0} (xs : List X) (k : ℕ) (x : X) → slice_get xs k ≡ Some x → set xs k x ≡ xs
set_stays [] k x is = refl
set_stays (y ∷ xs) zero x is = ap (λ z. z ∷ xs) (sym (same_thing y x is))
set_stays (y ∷ xs) (suc k) x is = ap (λ l. y ∷ l) (set_stays xs k x is)

-- ---- the next step of a client

module _ {Finds : Bytes → List ℕ → List ShownResult → Type 0} (plan : Plan) (table : ParseTable) (openings : List Bytes) (documents : List Document) (clients : List Client)
    (running : IsRunning Finds plan table openings documents clients) (c : ℕ) (client : Client) (client_is : slice_get clients c ≡ Some client) where
  plan_steps : slice_get plan.clients c ≡ Some client.steps.now
  plan_steps = ap (λ (l : List (List ScriptStep)). slice_get l c) (sym running.steps_are) ∙ steps_at clients c client client_is

  opening_at : (k : ℕ) (d : Document) → slice_get documents k ≡ Some d → slice_get openings k ≡ Some (get_or openings k [])
  opening_at k d is = given documents openings k d [] running.all_given is

  asked_is : (n : ℕ) (s : ScriptStep) → slice_get client.steps.now n ≡ Some s → asked_at plan c n ≡ Some s
  asked_is n s is = ap (λ (o : Option (List ScriptStep)). option_and_then (λ (steps : List ScriptStep). slice_get steps n) o) plan_steps ∙ is

  left_is : (w : ScriptStep → ℕ) (s : ScriptStep) (r : Reply) → slice_get client.steps.now (length client.replies.items) ≡ Some s
      → weight_left w plan.clients (replies_of clients) ≡ w s + weight_left w plan.clients (with_own_reply c client.replies.items r (replies_of clients))
  left_is w s r is = left_next w plan.clients (replies_of clients) c client.steps.now client.replies.items s r plan_steps (replies_at clients c client client_is) is

  has_room : (k : ℕ) (d : Document) (s : ScriptStep) → document_of s ≡ k → slice_get documents k ≡ Some d → slice_get client.steps.now (length client.replies.items) ≡ Some s → NeedsRoom s d.book.room
  has_room k d (step.Edit own edit) on is at =
      let all = left_is (edits_on k) (step.Edit own edit) (reply.Memory 0) at in
      let one : edits_on k (step.Edit own edit) ≡ 1 = (let e : nat_eq own k ≡ true = eq-eqb own k on in rw e refl) in
      let room = running.room k d is in
      omega (arith, all, one, room)
  has_room k d (step.Look own) on is at = tt
  has_room k d (step.Query own queries) on is at = tt
  has_room k d (step.Tree own) on is at = tt
  has_room k d (step.Await own version) on is at = tt

  takes : (s : ScriptStep) → slice_get client.steps.now (length client.replies.items) ≡ Some s
      → (d : Document) → slice_get documents (document_of s) ≡ Some d → MayTakeStep (length plan.queries) table documents client
  takes s at d is =
      let opening_is = opening_at (document_of s) d is in
      let holds = running.holds c (document_of s) client d (get_or openings (document_of s) []) client_is is opening_is in
      let opens = running.is_open (document_of s) d (get_or openings (document_of s) []) is opening_is in
      let there : held_before (history_now plan table openings documents clients) c (length client.replies.items) (document_of s) ≤ length (journal_of d.book)
      = running.so_far.there (document_of s) c (length client.replies.items) (journal_of d.book) (books_at documents (document_of s) d is) in
      let count : length (journal_of d.book) ≡ length d.book.entries = length-map d.book.entries journal_entry_of in
      let number = holds.text.number_is in
      let few = running.few (document_of s) d is in
      let all = left_is (λ (x : ScriptStep). most_looks) s (reply.Memory 0) at in
      let spare = running.spare (document_of s) d is in
      let short = running.may.few c client.steps.now plan_steps in
      record {
        step = s;
        step_is = at;
        document = d;
        document_is = is;
        version = holds.version;
        version_is = holds.is;
        table_is = holds.text.table_is;
        may_step = record {
          rises = opens.rises;
          one_table = opens.versions.first.table_is ∙ sym holds.text.table_is;
          held_there = omega (arith, number, there, count);
          few = omega (arith, few);
          spare = omega (arith, all, spare);
        };
        needs_room = has_room (document_of s) d s refl is at;
        asks = running.may.asks c (length client.replies.items) s (asked_is (length client.replies.items) s at);
        few = omega (arith, short);
      }

  pub may_take : length client.replies.items < length client.steps.now → MayTakeStep (length plan.queries) table documents client
  may_take more =
      let at = slice_get-get_or client.steps.now (length client.replies.items) (step.Look 0) more in
      by (get_or client.steps.now (length client.replies.items) (step.Look 0)) at
    where
      by : (s : ScriptStep) → slice_get client.steps.now (length client.replies.items) ≡ Some s → MayTakeStep (length plan.queries) table documents client
      by s at =
          let lt = running.may.on c (length client.replies.items) s (asked_is (length client.replies.items) s at) in
          let count = running.all_open in
          let d = there_is documents (document_of s) (omega (arith, lt, count)) in
          takes s at d.0 d.1

  -- ---- after it

  module _ (after : List Document) (client_after : Client) (t : IsStepTaken Finds c documents client after client_after) where
    after_here : slice_get after (document_of t.step) ≡ Some t.after
    after_here = ap (λ (l : List Document). slice_get l (document_of t.step)) t.documents_are
        ∙ set_here documents (document_of t.step) t.after (slice_get_within documents (document_of t.step) t.document t.document_is)

    after_there : (k : ℕ) → (k ≡ document_of t.step → ⊥) → slice_get after k ≡ slice_get documents k
    after_there k other = ap (λ (l : List Document). slice_get l k) t.documents_are ∙ set_there documents (document_of t.step) k t.after other

    after_cases : (k : ℕ) (d : Document) → slice_get after k ≡ Some d
        → ((k ≡ document_of t.step) × (t.after ≡ d)) ⊎ ((k ≡ document_of t.step → ⊥) × (slice_get documents k ≡ Some d))
    after_cases k d is = ⊎_elim
        (λ e. inl (e, same_thing t.after d (sym after_here ∙ sym (ap (slice_get after) e) ∙ is)))
        (λ other. inr (other, sym (after_there k other) ∙ is))
        (cases_eq k (document_of t.step))

    replies_then : replies_of (set clients c client_after) ≡ with_own_reply c client.replies.items t.reply (replies_of clients)
    replies_then = map-set (λ (x : Client). x.replies.items) clients c client_after
        ∙ ap (λ (l : List Reply). set (replies_of clients) c l) t.replies_are

    steps_then : client_steps (set clients c client_after) ≡ plan.clients
    steps_then = map-set (λ (x : Client). x.steps.now) clients c client_after
        ∙ ap (λ (l : List ScriptStep). set (client_steps clients) c l) t.steps_are
        ∙ set_stays (client_steps clients) c client.steps.now (steps_at clients c client client_is)
        ∙ running.steps_are

    history_then : next_history (history_now plan table openings documents clients) c client.replies.items t.reply (map journal_of (books_of after))
        ≡ history_now plan table openings after (set clients c client_after)
    history_then = ap (history_of plan table.grammar openings (books_of after)) (sym replies_then)

    opening_is : slice_get openings (document_of t.step) ≡ Some (get_or openings (document_of t.step) [])
    opening_is = opening_at (document_of t.step) t.document t.document_is

    asked : asked_at plan c (length client.replies.items) ≡ Some t.step
    asked = asked_is (length client.replies.items) t.step t.step_is

    is_open : IsOpen plan table (get_or openings (document_of t.step) []) t.document
    is_open = running.is_open (document_of t.step) t.document (get_or openings (document_of t.step) []) t.document_is opening_is

    -- the version that is held
    held_text : IsTextOf table (held_before (history_now plan table openings documents clients) c (length client.replies.items) (document_of t.step))
        (version_text plan (get_or openings (document_of t.step) []) (journal_of t.document.book) (held_before (history_now plan table openings documents clients) c (length client.replies.items) (document_of t.step)))
        t.version
    held_text =
        let holds = running.holds c (document_of t.step) client t.document (get_or openings (document_of t.step) []) client_is t.document_is opening_is in
        subst (λ (v : ParsedText). IsTextOf table (held_before (history_now plan table openings documents clients) c (length client.replies.items) (document_of t.step))
        (version_text plan (get_or openings (document_of t.step) []) (journal_of t.document.book) (held_before (history_now plan table openings documents clients) c (length client.replies.items) (document_of t.step))) v)
        (same_thing holds.version t.version (sym holds.is ∙ t.version_is)) holds.text

    held_own : IsTextOf table t.version.number (version_text plan (get_or openings (document_of t.step) []) (journal_of t.document.book) t.version.number) t.version
    held_own = subst (λ (n : ℕ). IsTextOf table n (version_text plan (get_or openings (document_of t.step) []) (journal_of t.document.book) n) t.version) (sym held_text.number_is) held_text

    held_there : t.version.number ≤ length t.document.book.entries
    held_there =
        let there : held_before (history_now plan table openings documents clients) c (length client.replies.items) (document_of t.step) ≤ length (journal_of t.document.book)
        = running.so_far.there (document_of t.step) c (length client.replies.items) (journal_of t.document.book) (books_at documents (document_of t.step) t.document t.document_is) in
        let count : length (journal_of t.document.book) ≡ length t.document.book.entries = length-map t.document.book.entries journal_entry_of in
        let number = held_text.number_is in
        omega (arith, there, count, number)

    last_over : (u : ℕ) → last_told (history_now plan table openings documents clients) c (length client.replies.items) (document_of t.step) ≡ Some u → u < t.document.turn
    last_over u is =
        let w = last_is_told (history_now plan table openings documents clients) c (length client.replies.items) (document_of t.step) u is in
        subst (λ (n : ℕ). u < n) (over_at documents (document_of t.step) t.document t.document_is) (running.so_far.below (document_of t.step) c w.0 u w.1)

    -- the reply is right, by the number that the version has
    right_own : IsRight Finds plan table.grammar (get_or openings (document_of t.step) []) (journal_of t.after.book) t.version.number
        (last_told (history_now plan table openings documents clients) c (length client.replies.items) (document_of t.step)) t.step t.reply
    right_own = does_right c (length client.replies.items) plan table (get_or openings (document_of t.step) []) (place t.document.turn t.document.book t.version) held_own is_open.latest is_open.rises held_there
        (last_told (history_now plan table openings documents clients) c (length client.replies.items) (document_of t.step)) last_over
        t.step t.reply (place t.after.turn t.after.book t.held) t.does

    spare_then : (k : ℕ) (d : Document) → slice_get after k ≡ Some d → d.turn + weight_left (λ (s : ScriptStep). most_looks) plan.clients (replies_of (set clients c client_after)) < most_turns
    spare_then k d is =
        let all = left_is (λ (s : ScriptStep). most_looks) t.step t.reply t.step_is in
        subst (λ (rs : List (List Reply)). d.turn + weight_left (λ (s : ScriptStep). most_looks) plan.clients rs < most_turns) (sym replies_then)
        (⊎_elim
        (λ w. let spare = running.spare (document_of t.step) t.document t.document_is in
        let within : t.after.turn ≤ t.document.turn + most_looks = turn_within c (length client.replies.items) (place t.document.turn t.document.book t.version) t.step t.reply (place t.after.turn t.after.book t.held) t.does in
        subst (λ (x : Document). x.turn + weight_left (λ (s : ScriptStep). most_looks) plan.clients (with_own_reply c client.replies.items t.reply (replies_of clients)) < most_turns) w.1
        (omega (arith, all, spare, within)))
        (λ w. let spare = running.spare k d w.1 in omega (arith, all, spare))
        (after_cases k d is))

    few_turns : t.after.turn ≤ most_turns
    few_turns =
        let all = left_is (λ (s : ScriptStep). most_looks) t.step t.reply t.step_is in
        let spare = running.spare (document_of t.step) t.document t.document_is in
        let within : t.after.turn ≤ t.document.turn + most_looks = turn_within c (length client.replies.items) (place t.document.turn t.document.book t.version) t.step t.reply (place t.after.turn t.after.book t.held) t.does in
        omega (arith, all, spare, within)

    takes_turns : TakesTurns (over_in documents (document_of t.step)) t.step t.reply (over_in after (document_of t.step))
    takes_turns =
        subst (λ (n : ℕ). TakesTurns n t.step t.reply (over_in after (document_of t.step))) (sym (over_at documents (document_of t.step) t.document t.document_is))
        (subst (λ (n : ℕ). TakesTurns t.document.turn t.step t.reply n) (sym (over_at after (document_of t.step) t.after after_here))
        (does_take c (length client.replies.items) (place t.document.turn t.document.book t.version) t.step t.reply (place t.after.turn t.after.book t.held) t.does))

    over_there : (k : ℕ) → (k ≡ document_of t.step → ⊥) → over_in after k ≡ over_in documents k
    over_there k other = ap (λ (o : Option Document). unwrap_or (option_map (λ (x : Document). x.turn) o) 0) (after_there k other)

    is_next : IsOneMoreReply Finds (history_now plan table openings documents clients) (over_in documents) (over_in after) c client.replies.items t.step t.reply (map journal_of (books_of after))
    is_next = record {
      steps = client.steps.now;
      steps_are = plan_steps;
      own_are = replies_at clients c client client_is;
      step_is = t.step_is;
      entries = journal_of t.document.book;
      entries_are = books_at documents (document_of t.step) t.document t.document_is;
      after = journal_of t.after.book;
      after_are = books_at after (document_of t.step) t.after after_here;
      grows = does_grow c (length client.replies.items) (place t.document.turn t.document.book t.version) t.step t.reply (place t.after.turn t.after.book t.held) t.does;
      others = λ k other.
          slice_get-map journal_of (books_of after) k
          ∙ ap (option_map journal_of) (slice_get-map (λ (x : Document). x.book) after k ∙ ap (option_map (λ (x : Document). x.book)) (after_there k other) ∙ sym (slice_get-map (λ (x : Document). x.book) documents k))
          ∙ sym (slice_get-map journal_of (books_of documents) k);
      opening = get_or openings (document_of t.step) [];
      opening_is = opening_is;
      right = subst (λ (n : ℕ). IsRight Finds plan table.grammar (get_or openings (document_of t.step) []) (journal_of t.after.book) n
          (last_told (history_now plan table openings documents clients) c (length client.replies.items) (document_of t.step)) t.step t.reply) held_text.number_is right_own;
      held_there =
          let within : version_of t.reply ≤ length t.after.book.entries = held_within c (length client.replies.items) (place t.document.turn t.document.book t.version) t.step t.reply (place t.after.turn t.after.book t.held) t.does held_there in
          let count : length (journal_of t.after.book) ≡ length t.after.book.entries = length-map t.after.book.entries journal_entry_of in
          omega (arith, within, count);
      takes = takes_turns;
      rest = over_there;
      few = subst (λ (n : ℕ). n ≤ most_turns) (sym (over_at after (document_of t.step) t.after after_here)) few_turns;
    }

    so_far_then : SoFar Finds (history_now plan table openings after (set clients c client_after)) (over_in after)
    so_far_then = subst (λ (h : History). SoFar Finds h (over_in after)) history_then
        (next_so_far (history_now plan table openings documents clients) (over_in documents) (over_in after) c client.replies.items t.step t.reply (map journal_of (books_of after)) is_next running.so_far)

    -- ---- what is open

    open_now : IsOpen plan table (get_or openings (document_of t.step) []) t.after
    open_now = record {
      versions = versions_now c (length client.replies.items) plan table (get_or openings (document_of t.step) []) (place t.document.turn t.document.book t.version) held_own is_open.latest
          t.step t.reply (place t.after.turn t.after.book t.held) t.does asked is_open.versions;
      latest = latest_now c (length client.replies.items) plan table (get_or openings (document_of t.step) []) (place t.document.turn t.document.book t.version) held_own is_open.latest
          t.step t.reply (place t.after.turn t.after.book t.held) t.does asked;
      rises = does_rise c (length client.replies.items) (place t.document.turn t.document.book t.version) t.step t.reply (place t.after.turn t.after.book t.held) t.does is_open.rises;
    }

    opening_of : (opening : Bytes) (k : ℕ) → k ≡ document_of t.step → slice_get openings k ≡ Some opening → get_or openings (document_of t.step) [] ≡ opening
    opening_of opening k e is = same_thing (get_or openings (document_of t.step) []) opening (sym opening_is ∙ sym (ap (slice_get openings) e) ∙ is)

    open_then : (k : ℕ) (d : Document) (opening : Bytes) → slice_get after k ≡ Some d → slice_get openings k ≡ Some opening → IsOpen plan table opening d
    open_then k d opening is given_is = ⊎_elim
        (λ w. subst (λ (o : Bytes). IsOpen plan table o d) (opening_of opening k w.0 given_is) (subst (λ (x : Document). IsOpen plan table (get_or openings (document_of t.step) []) x) w.1 open_now))
        (λ w. running.is_open k d opening w.1 given_is)
        (after_cases k d is)

    room_then : (k : ℕ) (d : Document) → slice_get after k ≡ Some d → weight_left (edits_on k) plan.clients (replies_of (set clients c client_after)) ≤ d.book.room
    room_then k d is =
        subst (λ (rs : List (List Reply)). weight_left (edits_on k) plan.clients rs ≤ d.book.room) (sym replies_then)
        (⊎_elim
        (λ w. subst (λ (x : Document). weight_left (edits_on k) plan.clients (with_own_reply c client.replies.items t.reply (replies_of clients)) ≤ x.book.room) w.1
        (subst (λ (i : ℕ). weight_left (edits_on i) plan.clients (with_own_reply c client.replies.items t.reply (replies_of clients)) ≤ t.after.book.room) (sym w.0)
        (let all = left_is (edits_on (document_of t.step)) t.step t.reply t.step_is in
        let room = running.room (document_of t.step) t.document t.document_is in
        let within : t.document.book.room ≤ t.after.book.room + edits_on (document_of t.step) t.step = room_within c (length client.replies.items) (place t.document.turn t.document.book t.version) t.step t.reply (place t.after.turn t.after.book t.held) t.does in
        omega (arith, all, room, within))))
        (λ w. let all = left_is (edits_on k) t.step t.reply t.step_is in let room = running.room k d w.1 in omega (arith, all, room))
        (after_cases k d is))

    few_then : (k : ℕ) (d : Document) → slice_get after k ≡ Some d → d.book.room + length d.book.entries + 1 < 2 ^ 32
    few_then k d is = ⊎_elim
        (λ w. subst (λ (x : Document). x.book.room + length x.book.entries + 1 < 2 ^ 32) w.1
        (let few = running.few (document_of t.step) t.document t.document_is in
        let sum : t.after.book.room + length t.after.book.entries ≡ t.document.book.room + length t.document.book.entries = sum_stays c (length client.replies.items) (place t.document.turn t.document.book t.version) t.step t.reply (place t.after.turn t.after.book t.held) t.does in
        omega (arith, few, sum)))
        (λ w. running.few k d w.1)
        (after_cases k d is)

    -- ---- what is held

    -- another client holds what it did
    held_other : (i m k : ℕ) → (i ≡ c → ⊥) → held_before (history_now plan table openings documents clients) i m k
        ≡ held_before (next_history (history_now plan table openings documents clients) c client.replies.items t.reply (map journal_of (books_of after))) i m k
    held_other i m k other = ap (λ (o : Option (List Reply)). held_after k 0 (take m (paired (unwrap_or (slice_get plan.clients i) []) (unwrap_or o []))))
        (sym (others_after (replies_of clients) c client.replies.items t.reply (replies_at clients c client client_is) i other))

    -- the client holds what the reply tells
    held_self : (k : ℕ) → held_before (next_history (history_now plan table openings documents clients) c client.replies.items t.reply (map journal_of (books_of after))) c (length (client.replies.items ++ t.reply ∷ [])) k
        ≡ (if document_of t.step == k then version_of t.reply else held_before (history_now plan table openings documents clients) c (length client.replies.items) k)
    held_self k =
        ap (λ (o : Option (List ScriptStep)). held_after k 0 (take (length (client.replies.items ++ t.reply ∷ [])) (paired (unwrap_or o []) (unwrap_or (slice_get (with_own_reply c client.replies.items t.reply (replies_of clients)) c) [])))) plan_steps
        ∙ ap (λ (o : Option (List Reply)). held_after k 0 (take (length (client.replies.items ++ t.reply ∷ [])) (paired client.steps.now (unwrap_or o [])))) (own_after (replies_of clients) c client.replies.items t.reply (replies_at clients c client client_is))
        ∙ ap (held_after k 0) (take_all (length (client.replies.items ++ t.reply ∷ [])) (paired client.steps.now (client.replies.items ++ t.reply ∷ [])) (length_paired client.steps.now (client.replies.items ++ t.reply ∷ [])))
        ∙ ap (held_after k 0) (paired_push client.steps.now client.replies.items t.step t.reply t.step_is)
        ∙ held_push k 0 (paired client.steps.now client.replies.items) (t.step, t.reply)
        ∙ ap (λ (n : ℕ). if document_of t.step == k then version_of t.reply else n) (sym held_was)
      where
        held_was : held_before (history_now plan table openings documents clients) c (length client.replies.items) k ≡ held_after k 0 (paired client.steps.now client.replies.items)
        held_was =
            ap (λ (o : Option (List ScriptStep)). held_after k 0 (take (length client.replies.items) (paired (unwrap_or o []) (unwrap_or (slice_get (replies_of clients) c) [])))) plan_steps
            ∙ ap (λ (o : Option (List Reply)). held_after k 0 (take (length client.replies.items) (paired client.steps.now (unwrap_or o [])))) (replies_at clients c client client_is)
            ∙ ap (held_after k 0) (take_all (length client.replies.items) (paired client.steps.now client.replies.items) (length_paired client.steps.now client.replies.items))

    -- what is held of a document, told by the history before
    holds_next : (i k : ℕ) (x : Client) (d : Document) (opening : Bytes)
        → slice_get (set clients c client_after) i ≡ Some x → slice_get after k ≡ Some d → slice_get openings k ≡ Some opening
        → HoldsVersion plan table opening d (held_before (next_history (history_now plan table openings documents clients) c client.replies.items t.reply (map journal_of (books_of after))) i (length x.replies.items) k) x.held.items k
    holds_next i k x d opening x_is d_is given_is = ⊎_elim mine theirs (cases_eq i c)
      where
        -- what was held is the same text
        still : (own : Client) (n : ℕ) → slice_get clients i ≡ Some own → n ≡ held_before (history_now plan table openings documents clients) i (length own.replies.items) k
            → (held : List ParsedText) → slice_get held k ≡ slice_get own.held.items k → HoldsVersion plan table opening d n held k
        still own n own_is n_is held same = ⊎_elim
            (λ w.
            let was_at = ap (slice_get documents) w.0 ∙ t.document_is in
            let was = running.holds i k own t.document opening own_is was_at given_is in
            let low : held_before (history_now plan table openings documents clients) i (length own.replies.items) k ≤ length (journal_of t.document.book)
            = running.so_far.there k i (length own.replies.items) (journal_of t.document.book) (books_at documents k t.document was_at) in
            let count : length (journal_of t.document.book) ≡ length t.document.book.entries = length-map t.document.book.entries journal_entry_of in
            record {
              version = was.version;
              is = same ∙ was.is;
              text = subst (λ (y : Document). IsTextOf table n (version_text plan opening (journal_of y.book) n) was.version) w.1
                  (subst (λ (b : Bytes). IsTextOf table n b was.version)
                  (text_stays c (length client.replies.items) plan table opening (place t.document.turn t.document.book t.version) t.step t.reply (place t.after.turn t.after.book t.held) t.does n (omega (arith, n_is, low, count)))
                  (subst (λ (m : ℕ). IsTextOf table m (version_text plan opening (journal_of t.document.book) m) was.version) (sym n_is) was.text));
            })
            (λ w.
            let was = running.holds i k own d opening own_is w.1 given_is in
            record {
              version = was.version;
              is = same ∙ was.is;
              text = subst (λ (m : ℕ). IsTextOf table m (version_text plan opening (journal_of d.book) m) was.version) (sym n_is) was.text;
            })
            (after_cases k d d_is)

        theirs : (i ≡ c → ⊥) → HoldsVersion plan table opening d (held_before (next_history (history_now plan table openings documents clients) c client.replies.items t.reply (map journal_of (books_of after))) i (length x.replies.items) k) x.held.items k
        theirs other =
            still x (held_before (next_history (history_now plan table openings documents clients) c client.replies.items t.reply (map journal_of (books_of after))) i (length x.replies.items) k)
            (sym (set_there clients c i client_after other) ∙ x_is) (sym (held_other i (length x.replies.items) k other)) x.held.items refl

        -- the client itself
        own_case : (b : Bool) → (document_of t.step == k) ≡ b → i ≡ c
            → HoldsVersion plan table opening d (if b then version_of t.reply else held_before (history_now plan table openings documents clients) c (length client.replies.items) k) client_after.held.items k
        own_case true on e =
            let here : document_of t.step ≡ k = eqb-true (document_of t.step) k on in
            ⊎_elim
            (λ w. record {
              version = t.held;
              is = ap (λ (l : List ParsedText). slice_get l k) t.held_are ∙ ap (slice_get (set client.held.items (document_of t.step) t.held)) w.0
                  ∙ set_here client.held.items (document_of t.step) t.held (slice_get_within client.held.items (document_of t.step) t.version t.version_is);
              text = subst (λ (y : Document). IsTextOf table (version_of t.reply) (version_text plan opening (journal_of y.book) (version_of t.reply)) t.held) w.1
                  (subst (λ (o : Bytes). IsTextOf table (version_of t.reply) (version_text plan o (journal_of t.after.book) (version_of t.reply)) t.held) (opening_of opening k w.0 given_is)
                  (held_now c (length client.replies.items) plan table (get_or openings (document_of t.step) []) (place t.document.turn t.document.book t.version) held_own is_open.latest
                  t.step t.reply (place t.after.turn t.after.book t.held) t.does asked));
            })
            (λ w. absurd (w.0 (sym here)))
            (after_cases k d d_is)
        own_case false on e =
            still client (held_before (history_now plan table openings documents clients) c (length client.replies.items) k)
            (ap (slice_get clients) e ∙ client_is) (ap (λ (j : ℕ). held_before (history_now plan table openings documents clients) j (length client.replies.items) k) (sym e))
            client_after.held.items (ap (λ (l : List ParsedText). slice_get l k) t.held_are ∙ set_there client.held.items (document_of t.step) k t.held (λ same. not_same (document_of t.step) k on (sym same)))

        mine : i ≡ c → HoldsVersion plan table opening d (held_before (next_history (history_now plan table openings documents clients) c client.replies.items t.reply (map journal_of (books_of after))) i (length x.replies.items) k) x.held.items k
        mine e =
            let same : client_after ≡ x = same_thing client_after x (sym (set_here clients c client_after (slice_get_within clients c client client_is)) ∙ sym (ap (slice_get (set clients c client_after)) e) ∙ x_is) in
            subst (λ (y : Client). HoldsVersion plan table opening d (held_before (next_history (history_now plan table openings documents clients) c client.replies.items t.reply (map journal_of (books_of after))) i (length y.replies.items) k) y.held.items k) same
            (subst (λ (j : ℕ). HoldsVersion plan table opening d (held_before (next_history (history_now plan table openings documents clients) c client.replies.items t.reply (map journal_of (books_of after))) j (length client_after.replies.items) k) client_after.held.items k) (sym e)
            (subst (λ (l : List Reply). HoldsVersion plan table opening d (held_before (next_history (history_now plan table openings documents clients) c client.replies.items t.reply (map journal_of (books_of after))) c (length l) k) client_after.held.items k) (sym t.replies_are)
            (subst (λ (n : ℕ). HoldsVersion plan table opening d n client_after.held.items k) (sym (held_self k))
            (own_case (document_of t.step == k) refl e))))

    short_then : (i : ℕ) (x : Client) → slice_get (set clients c client_after) i ≡ Some x → length x.replies.items ≤ length x.steps.now
    short_then i x x_is = ⊎_elim
        (λ e.
        let same : client_after ≡ x = same_thing client_after x (sym (set_here clients c client_after (slice_get_within clients c client client_is)) ∙ sym (ap (slice_get (set clients c client_after)) e) ∙ x_is) in
        let lt : length client.replies.items < length client.steps.now = slice_get_within client.steps.now (length client.replies.items) t.step t.step_is in
        subst (λ (y : Client). length y.replies.items ≤ length y.steps.now) same
        (subst (λ (ss : List ScriptStep). length client_after.replies.items ≤ length ss) (sym t.steps_are)
        (let count : length client_after.replies.items ≡ suc (length client.replies.items) = ap length t.replies_are ∙ length_one_more client.replies.items t.reply in omega (arith, count, lt))))
        (λ other. running.short i x (sym (set_there clients c i client_after other) ∙ x_is))
        (cases_eq i c)

    -- the run goes on
    pub runs_on : IsRunning Finds plan table openings after (set clients c client_after)
    runs_on = record {
      may = running.may;
      so_far = so_far_then;
      steps_are = steps_then;
      all_open = ap length t.documents_are ∙ length-set documents (document_of t.step) t.after ∙ running.all_open;
      all_given = running.all_given ∙ sym (ap length t.documents_are ∙ length-set documents (document_of t.step) t.after);
      is_open = open_then;
      holds = λ i k x d opening x_is d_is given_is. subst (λ (h : History). HoldsVersion plan table opening d (held_before h i (length x.replies.items) k) x.held.items k) history_then
          (holds_next i k x d opening x_is d_is given_is);
      short = short_then;
      spare = spare_then;
      room = room_then;
      few = few_then;
    }

    pub runs_in_order : (order rest : List ℕ) → RunsInOrder order (c ∷ rest) plan.clients (replies_of clients) (over_in documents)
        → RunsInOrder order rest plan.clients (replies_of (set clients c client_after)) (over_in after)
    runs_in_order order rest runs = subst (λ (rs : List (List Reply)). RunsInOrder order rest plan.clients rs (over_in after)) (sym replies_then)
        (next_in_order order rest plan.clients (replies_of clients) (over_in documents) (over_in after) c client.steps.now client.replies.items t.step t.reply
        plan_steps (replies_at clients c client client_is) t.step_is takes_turns over_there runs)
