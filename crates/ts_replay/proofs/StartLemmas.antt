-- Documents and clients before all steps.
use Rattle.std.proofs.Common.{◌≡◌, ◌∙◌, sym, ap, refl, subst, ℕ, zero, suc, ◌+◌, ◌*◌, ◌<◌, ◌≤◌, ◌==◌, if◌then◌else◌, Bool, true, false, ⊎_elim, List, [], ◌∷◌, ◌++◌, length, map, take, drop, slice_get, Option, Some, None, option_map, unwrap_or, arith}
use Rattle.std.specs.Option.{option_and_then}
use Rattle.std.proofs.lemmas.List.{length-append, map-append}
use Rattle.ts_base.proofs.PlaceLemmas.{push_cases}
use Rattle.std.proofs.lemmas.Option.{slice_get_within, slice_get-map}
use Rattle.std.proofs.Math.Seq.{take-nil}
use Rattle.ts_base.specs.Bytes.{Bytes}
use Rattle.ts_shelf.specs.Entries.{RisesWithin}
use Rattle.ts_shelf.specs.declared.journal.Entry.{Entry}
use Rattle.ts_table.specs.declared.view.ParseTable.{ParseTable}
use Rattle.ts_docs.specs.declared.parsed.ParsedText.{ParsedText}
use Rattle.ts_docs.specs.declared.parsed.Drafted.{Drafted}
use Rattle.ts_docs.specs.declared.parsed.Pages.{Pages}
use Rattle.ts_docs.specs.Versions.{IsTextOf}
use Rattle.ts_docs.specs.Steps.{newest}
use Rattle.ts_script.specs.declared.plan.Plan.{Plan}
use Rattle.ts_script.specs.declared.plan.ScriptStep.{ScriptStep}
use Rattle.ts_script.specs.declared.plan.ScriptStep.TheVariants as step
use Rattle.ts_script.specs.Rules.{most_script_steps}
use Rattle.ts_replies.specs.declared.reply.ShownResult.{ShownResult}
use Rattle.ts_replies.specs.declared.reply.Reply.{Reply}
use Rattle.ts_replies.specs.declared.reply.Reply.TheVariants as reply
use Rattle.spec_history.specs.Replies.{most_looks}
use Rattle.spec_history.specs.Histories.{JournalEntry, History, reply_at, held_before, held_after, paired, all_paired, accounted_all, version_text}
use Rattle.spec_history.specs.Legal.{IsEntryAt, TellsTurn}
use Rattle.ts_replay.specs.declared.document.Document.{Document}
use Rattle.ts_replay.specs.declared.document.Client.{Client}
use Rattle.spec_history.specs.Books.{journal_entry_of, journal_of}
use Rattle.ts_replay.specs.Replays.{MayReplay}
use Rattle.ts_replay.specs.Runs.{SoFar, weight_of, weight_left, edits_on}
use Rattle.ts_replay.specs.Running.{books_of, replies_of, over_in, history_now, first_versions, IsOpen, IsRunning, IsRunAt, IsFresh, AreOpened, AreClientsBegun}
use Rattle.ts_replay.proofs.OrderLemmas.{starts_in_order}
use Rattle.ts_replay.proofs.RunningLemmas.{there_is}

-- no client has a reply
abbrev NoReplies : List (List Reply) → Type 0
NoReplies replies = (k : ℕ) (own : List Reply) → slice_get replies k ≡ Some own → own ≡ []

none_at : (replies : List (List Reply)) → NoReplies replies → (k m : ℕ) (x : Reply) → reply_at replies k m ≡ Some x → ⊥
none_at replies none k m x h = by (slice_get replies k) refl h
  where
    by : (o : Option (List Reply)) → slice_get replies k ≡ o → option_and_then (λ (own : List Reply). slice_get own m) o ≡ Some x → ⊥
    by None is e = absurd (let f : None ≡ Some x = e in cc)
    by (Some own) is e = absurd (let f : None ≡ Some x = sym (ap (λ (l : List Reply). slice_get l m) (none k own is)) ∙ e in cc)

paired_none : (ss : List ScriptStep) → ◌≡◌ {A = List (ScriptStep × Reply)} (paired ss []) []
paired_none [] = refl
paired_none (s ∷ ss) = refl

none_accounted : (d t : ℕ) (clients : List (List ScriptStep)) (replies : List (List Reply)) → NoReplies replies → accounted_all d t (all_paired clients replies) ≡ 0
none_accounted d t [] replies none = refl
none_accounted d t (ss ∷ clients) [] none = refl
none_accounted d t (ss ∷ clients) (rs ∷ replies) none =
    let first : paired ss rs ≡ [] = ap (paired ss) (none 0 rs refl) ∙ paired_none ss in
    let rest : accounted_all d t (all_paired clients replies) ≡ 0 = none_accounted d t clients replies (λ k. none (suc k)) in
    rw first (omega (arith, rest))

no_reply_of : (replies : List (List Reply)) → NoReplies replies → (k : ℕ) → unwrap_or (slice_get replies k) [] ≡ []
no_reply_of [] none k = refl
no_reply_of (rs ∷ replies) none zero = none 0 rs refl
no_reply_of (rs ∷ replies) none (suc k) = no_reply_of replies (λ i. none (suc i)) k

none_held : (h : History) → NoReplies h.replies → (client number d : ℕ) → held_before h client number d ≡ 0
none_held h none client number d =
    ap (λ (rs : List Reply). held_after d 0 (take number (paired (unwrap_or (slice_get h.plan.clients client) []) rs))) (no_reply_of h.replies none client)
    ∙ ap (λ (ps : List (ScriptStep × Reply)). held_after d 0 (take number ps)) (paired_none (unwrap_or (slice_get h.plan.clients client) []))
    ∙ ap (held_after d 0) (take-nil number)

-- a run without replies and entries
empty_so_far : {Finds : Bytes → List ℕ → List ShownResult → Type 0} (h : History) (over : ℕ → ℕ) → NoReplies h.replies → ((k : ℕ) (entries : List JournalEntry) → slice_get h.journals k ≡ Some entries → entries ≡ []) → SoFar Finds h over
empty_so_far h over none nothing = record {
  lawful = record {
    right = λ client number s r a. absurd (none_at h.replies none client number r a.reply_is);
    few = λ document client number turn a. absurd (untold document client number turn a);
    apart = λ document turn client number other n a b. absurd (untold document client number turn a);
    rise = λ document client number turn n t a b lt. absurd (untold document client number turn a);
    entered = λ document number e. (λ a. absurd (no_entry document number e a), λ p. absurd (none_at h.replies none e.client e.step (reply.Published e.turn (suc number)) p.answered.reply_is));
    rising = λ document number e f a b. absurd (no_entry document number e a);
    accounted = λ document client number turn a. absurd (untold document client number turn a);
  };
  below = λ document client number turn a. absurd (untold document client number turn a);
  spent = λ document turn. let z : accounted_all document turn (all_paired h.plan.clients h.replies) ≡ 0 = none_accounted document turn h.plan.clients h.replies none in omega (arith, z);
  there = λ document client number entries is. let z : held_before h client number document ≡ 0 = none_held h none client number document in omega (arith, z);
}
  where
    untold : (document client number turn : ℕ) → TellsTurn h document client number turn → ⊥
    untold document client number turn a = none_at h.replies none client number a.answer a.answered.reply_is

    no_entry : (document number : ℕ) (e : JournalEntry) → IsEntryAt h document number e → ⊥
    no_entry document number e a = absurd (let f : None ≡ Some e = sym (ap (λ (l : List JournalEntry). slice_get l number) (nothing document a.entries a.entries_are)) ∙ a.stands in cc)

-- ---- how much is left

looks_weigh : (ss : List ScriptStep) → weight_of (λ (s : ScriptStep). most_looks) ss ≡ 10000000 * length ss
looks_weigh [] = refl
looks_weigh (s ∷ ss) = let h : weight_of (λ (x : ScriptStep). most_looks) ss ≡ 10000000 * length ss = looks_weigh ss in omega (arith, h)

pub edit_weighs : (k : ℕ) (s : ScriptStep) → edits_on k s ≤ 1
edit_weighs k (step.Edit own edit) = at_most (own == k)
  where
    at_most : (b : Bool) → (if b then 1 else 0) ≤ 1
    at_most true = omega arith
    at_most false = omega arith
edit_weighs k (step.Look own) = omega arith
edit_weighs k (step.Query own queries) = omega arith
edit_weighs k (step.Tree own) = omega arith
edit_weighs k (step.Await own version) = omega arith

pub edits_weigh : (k : ℕ) (ss : List ScriptStep) → weight_of (edits_on k) ss ≤ length ss
edits_weigh k [] = omega arith
edits_weigh k (s ∷ ss) =
    let h : weight_of (edits_on k) ss ≤ length ss = edits_weigh k ss in
    let one : edits_on k s ≤ 1 = edit_weighs k s in
    omega (arith, h, one)

-- it does not matter whether empty lists of replies are there
left_none : (w : ScriptStep → ℕ) (clients : List (List ScriptStep)) (replies : List (List Reply)) → NoReplies replies → weight_left w clients replies ≡ weight_left w clients []
left_none w [] replies none = refl
left_none w (ss ∷ clients) [] none = refl
left_none w (ss ∷ clients) (rs ∷ replies) none =
    ap (λ (l : List Reply). weight_of w (drop (length l) ss) + weight_left w clients replies) (none 0 rs refl)
    ∙ ap (λ (n : ℕ). weight_of w ss + n) (left_none w clients replies (λ k. none (suc k)))

looks_left : (clients : List (List ScriptStep)) → ((k : ℕ) (ss : List ScriptStep) → slice_get clients k ≡ Some ss → length ss ≤ most_script_steps)
    → weight_left (λ (s : ScriptStep). most_looks) clients [] ≤ 1000000000000 * length clients
looks_left [] few = omega arith
looks_left (ss ∷ clients) few =
    let rest : weight_left (λ (s : ScriptStep). most_looks) clients [] ≤ 1000000000000 * length clients = looks_left clients (λ k. few (suc k)) in
    let first : weight_of (λ (s : ScriptStep). most_looks) ss ≡ 10000000 * length ss = looks_weigh ss in
    let short : length ss ≤ most_script_steps = few 0 ss refl in
    omega (arith, rest, first, short)

pub edits_left : (d : ℕ) (clients : List (List ScriptStep)) → ((k : ℕ) (ss : List ScriptStep) → slice_get clients k ≡ Some ss → length ss ≤ most_script_steps)
    → weight_left (edits_on d) clients [] ≤ 100000 * length clients
edits_left d [] few = omega arith
edits_left d (ss ∷ clients) few =
    let rest : weight_left (edits_on d) clients [] ≤ 100000 * length clients = edits_left d clients (λ k. few (suc k)) in
    let first : weight_of (edits_on d) ss ≤ length ss = edits_weigh d ss in
    let short : length ss ≤ most_script_steps = few 0 ss refl in
    omega (arith, rest, first, short)

-- ---- the beginning

no_journals : (documents : List Document) → ((k : ℕ) (d : Document) → slice_get documents k ≡ Some d → d.book.entries ≡ [])
    → (k : ℕ) (entries : List JournalEntry) → slice_get (map journal_of (books_of documents)) k ≡ Some entries → entries ≡ []
no_journals [] none k entries is = absurd (let f : None ≡ Some entries = is in cc)
no_journals (d ∷ documents) none zero entries is =
    (let f : Some (journal_of d.book) ≡ Some entries = is in let e : entries ≡ journal_of d.book = cc in e) ∙ ap (map journal_entry_of) (none 0 d refl)
no_journals (d ∷ documents) none (suc k) entries is = no_journals documents (λ i. none (suc i)) k entries is

no_replies : (clients : List Client) → ((k : ℕ) (c : Client) → slice_get clients k ≡ Some c → c.replies.items ≡ []) → NoReplies (replies_of clients)
no_replies [] none k own is = absurd (let f : None ≡ Some own = is in cc)
no_replies (c ∷ clients) none zero own is =
    (let f : Some c.replies.items ≡ Some own = is in let e : own ≡ c.replies.items = cc in e) ∙ none 0 c refl
no_replies (c ∷ clients) none (suc k) own is = no_replies clients (λ i. none (suc i)) k own is

no_turns : (documents : List Document) → ((k : ℕ) (d : Document) → slice_get documents k ≡ Some d → d.turn ≡ 0) → (k : ℕ) → over_in documents k ≡ 0
no_turns [] none k = refl
no_turns (d ∷ documents) none zero = none 0 d refl
no_turns (d ∷ documents) none (suc k) = no_turns documents (λ i. none (suc i)) k

module _ (Finds : Bytes → List ℕ → List ShownResult → Type 0) (plan : Plan) (table : ParseTable) (openings : List Bytes) (documents : List Document) (clients : List Client)
    (may : MayReplay plan) (count : length openings ≡ length plan.documents)
    (opened : AreOpened plan table openings documents) (begun : AreClientsBegun plan.clients documents clients) where
  fresh : (k : ℕ) (d : Document) → slice_get documents k ≡ Some d → (opening : Bytes) × IsFresh plan table opening k d
  fresh k d is =
      let o = there_is openings k (let lt : k < length documents = slice_get_within documents k d is in let same = opened.count in omega (arith, lt, same)) in
      (o.0, opened.each k d o.0 is o.1)

  no_reply : NoReplies (replies_of clients)
  no_reply = no_replies clients begun.none

  open_first : (k : ℕ) (d : Document) (opening : Bytes) → slice_get documents k ≡ Some d → slice_get openings k ≡ Some opening → IsOpen plan table opening d
  open_first k d opening is given =
      let f = opened.each k d opening is given in
      record {
        versions = record {
          first = f.text;
          others = λ number e h. absurd (let g : None ≡ Some e = sym (ap (λ (l : List (Entry Drafted)). slice_get l number) f.none) ∙ h in cc);
        };
        latest = subst (λ (b : Pages). IsTextOf table (length b.entries) (version_text plan opening (journal_of b) (length b.entries)) (newest b))
            (sym (same_pages d.book f.none)) f.text;
        rises = subst (λ (l : List (Entry Drafted)). RisesWithin 0 d.turn l) (sym f.none) (omega arith);
      }
    where
      same_pages : (b : Pages) → b.entries ≡ [] → b ≡ record { opening = b.opening; entries = []; room = b.room }
      same_pages b none = ap (λ (l : List (Entry Drafted)). record { opening = b.opening; entries = l; room = b.room }) none

  runs_first : IsRunning Finds plan table openings documents clients
  runs_first = record {
    may = may;
    so_far = empty_so_far (history_now plan table openings documents clients) (over_in documents) no_reply (no_journals documents (λ k d is. (fresh k d is).1.none));
    steps_are = begun.steps_are;
    all_open = opened.count ∙ count;
    all_given = sym opened.count;
    is_open = open_first;
    holds = λ client k c d opening c_is d_is given. record {
      version = d.book.opening;
      is = ap (λ (l : List ParsedText). slice_get l k) (begun.held client c c_is) ∙ slice_get-map (λ (x : Document). x.book.opening) documents k ∙ ap (option_map (λ (x : Document). x.book.opening)) d_is;
      text = subst (λ (n : ℕ). IsTextOf table n (version_text plan opening (journal_of d.book) n) d.book.opening)
          (sym (none_held (history_now plan table openings documents clients) no_reply client (length c.replies.items) k)) (opened.each k d opening d_is given).text;
    };
    short = λ client c is. let e : length c.replies.items ≡ 0 = ap length (begun.none client c is) in omega (arith, e);
    spare = λ k d is.
        let none : d.turn ≡ 0 = (fresh k d is).1.turn in
        let same : weight_left (λ (s : ScriptStep). most_looks) plan.clients (replies_of clients) ≡ weight_left (λ (s : ScriptStep). most_looks) plan.clients [] = left_none (λ (s : ScriptStep). most_looks) plan.clients (replies_of clients) no_reply in
        let all : weight_left (λ (s : ScriptStep). most_looks) plan.clients [] ≤ 1000000000000 * length plan.clients = looks_left plan.clients may.few in
        let few = may.clients in
        omega (arith, none, same, all, few);
    room = λ k d is.
        let same : weight_left (edits_on k) plan.clients (replies_of clients) ≡ weight_left (edits_on k) plan.clients [] = left_none (edits_on k) plan.clients (replies_of clients) no_reply in
        let room : d.book.room ≡ weight_left (edits_on k) plan.clients [] = (fresh k d is).1.room in
        omega (arith, same, room);
    few = λ k d is.
        let room : d.book.room ≡ weight_left (edits_on k) plan.clients [] = (fresh k d is).1.room in
        let none : length d.book.entries ≡ 0 = ap length (fresh k d is).1.none in
        let all : weight_left (edits_on k) plan.clients [] ≤ 100000 * length plan.clients = edits_left k plan.clients may.few in
        let few = may.clients in
        omega (arith, room, none, all, few);
  }

  -- before all steps the whole order is left
  pub starts : (order : List ℕ) → IsRunAt Finds plan openings order order table documents clients
  starts order = record {
    running = runs_first;
    in_order = starts_in_order order plan.clients (replies_of clients) (over_in documents) no_reply (no_turns documents (λ k d is. (fresh k d is).1.turn));
  }

-- ---- one more document, one more client

pub opened_push : (plan : Plan) (table : ParseTable) (openings : List Bytes) (text : Bytes) (documents : List Document) (d : Document)
    → AreOpened plan table openings documents → IsFresh plan table text (length documents) d → AreOpened plan table (openings ++ text ∷ []) (documents ++ d ∷ [])
opened_push plan table openings text documents d are is_fresh = record {
  count =
      let a : length (documents ++ d ∷ []) ≡ length documents + 1 = length-append documents (d ∷ []) in
      let b : length (openings ++ text ∷ []) ≡ length openings + 1 = length-append openings (text ∷ []) in
      let same = are.count in
      omega (arith, a, b, same);
  each = λ k x opening x_is given. ⊎_elim
      (λ w. ⊎_elim
      (λ v. are.each k x opening w.1 v.1)
      (λ v. absurd (let lt = w.0 in let e = v.0 in let same = are.count in omega (arith, lt, e, same)))
      (push_cases openings text k opening given))
      (λ w. ⊎_elim
      (λ v. absurd (let lt = v.0 in let e = w.0 in let same = are.count in omega (arith, lt, e, same)))
      (λ v. subst (λ (t : Bytes). IsFresh plan table t k x) v.1 (subst (λ (y : Document). IsFresh plan table text k y) w.1 (subst (λ (n : ℕ). IsFresh plan table text n d) (sym w.0) is_fresh)))
      (push_cases openings text k opening given))
      (push_cases documents d k x x_is);
}

pub begun_push : (steps : List (List ScriptStep)) (own : List ScriptStep) (documents : List Document) (clients : List Client) (c : Client)
    → AreClientsBegun steps documents clients → c.steps.now ≡ own → c.replies.items ≡ [] → c.held.items ≡ first_versions documents
    → AreClientsBegun (steps ++ own ∷ []) documents (clients ++ c ∷ [])
begun_push steps own documents clients c are own_is none_is held_is = record {
  steps_are = map-append (λ (x : Client). x.steps.now) clients (c ∷ []) ∙ ap (λ (l : List (List ScriptStep)). l ++ c.steps.now ∷ []) are.steps_are ∙ ap (λ (l : List ScriptStep). steps ++ l ∷ []) own_is;
  none = λ k x is. ⊎_elim
      (λ w. are.none k x w.1)
      (λ w. subst (λ (y : Client). y.replies.items ≡ []) w.1 none_is)
      (push_cases clients c k x is);
  held = λ k x is. ⊎_elim
      (λ w. are.held k x w.1)
      (λ w. subst (λ (y : Client). y.held.items ≡ first_versions documents) w.1 held_is)
      (push_cases clients c k x is);
}
