-- What a step does at a place, as histories tell it.
use Rattle.std.proofs.Common.{◌≡◌, ◌∙◌, sym, ap, refl, subst, ℕ, zero, suc, ◌+◌, ◌<◌, ◌≤◌, ⊎_elim, nat_eq, true, List, [], ◌∷◌, ◌++◌, length, slice_get, Option, Some, None, option_map, unwrap_or, arith}
use Rattle.std.specs.Option.{option_and_then}
use Rattle.std.proofs.lemmas.Option.{slice_get-map}
use Rattle.std.proofs.lemmas.Bool.{eq-eqb}
use Rattle.std.proofs.lemmas.List.{length-map, map-append}
use Rattle.ts_base.proofs.PlaceLemmas.{push_cases}
use Rattle.ts_base.specs.Bytes.{Bytes}
use Rattle.ts_core.specs.declared.flat.FlatGrammar.{FlatGrammar}
use Rattle.ts_shelf.specs.Entries.{RisesWithin}
use Rattle.ts_shelf.specs.Latest.{latest_of}
use Rattle.ts_shelf.specs.declared.journal.Entry.{Entry}
use Rattle.ts_table.specs.declared.view.ParseTable.{ParseTable}
use Rattle.ts_text.specs.Edit.{InRange, IsOver, apply_of}
use Rattle.ts_text.specs.declared.edit.Edit.{Edit as TextEdit}
use Rattle.ts_docs.specs.declared.parsed.ParsedText.{ParsedText}
use Rattle.ts_docs.specs.declared.parsed.Drafted.{Drafted}
use Rattle.ts_docs.specs.declared.parsed.Pages.{Pages}
use Rattle.ts_docs.specs.Versions.{IsTextOf, Drafts}
use Rattle.ts_docs.specs.Steps.{newest}
use Rattle.ts_script.specs.declared.plan.Plan.{Plan}
use Rattle.ts_script.specs.declared.plan.ScriptStep.{ScriptStep}
use Rattle.ts_script.specs.declared.plan.ScriptStep.TheVariants as step
use Rattle.ts_replies.specs.declared.reply.ShownResult.{ShownResult}
use Rattle.ts_replies.specs.declared.reply.Reply.{Reply}
use Rattle.ts_replies.specs.declared.reply.Reply.TheVariants as reply
use Rattle.spec_history.specs.Replies.{document_of, version_of, most_looks}
use Rattle.spec_history.specs.Histories.{JournalEntry, asked_at, edit_in, version_text, text_after, entries_below}
use Rattle.spec_history.specs.Legal.{IsRight, CanEdit, ShowsAt, IsShown, HadAllLooks, published, newer, range, size, look, await, late, tree, memory}
use Rattle.spec_history.specs.Orders.{TakesTurns, tells, rests}
use Rattle.spec_history.specs.Books.{journal_entry_of, journal_of}
use Rattle.ts_replay.specs.Replays.{HasVersions}
use Rattle.ts_replay.specs.Steps.{Place, place, with_entry, DoesStep, publishes, is_behind, out_of_range, too_large, looks, waits, gives_up, shows, has_no_memory}
use Rattle.ts_replay.specs.Runs.{GrowsBy, stays, grows, edits_on}
use Rattle.ts_replay.proofs.JournalLemmas.{all_below, same_text, last_text, still_right}

-- ---- entries

-- where the turns of entries rise below a turn, each is below it
rises_below : (low high : ℕ) (entries : List (Entry Drafted)) → RisesWithin low high entries
    → (k : ℕ) (e : Entry Drafted) → slice_get entries k ≡ Some e → e.turn < high
rises_below low high [] rises k e h = absurd (let f : None ≡ Some e = h in cc)
rises_below low high (x ∷ entries) rises zero e h =
    let same : x ≡ e = (let f : Some x ≡ Some e = h in cc) in subst (λ (y : Entry Drafted). y.turn < high) same rises.1
rises_below low high (x ∷ entries) rises (suc k) e h = rises_below (x.turn + 1) high entries rises.2 k e h

rises_on : (low high more : ℕ) (entries : List (Entry Drafted)) → high ≤ more → RisesWithin low high entries → RisesWithin low more entries
rises_on low high more [] le rises = omega (arith, le, rises)
rises_on low high more (x ∷ entries) le rises = (rises.0, (let lt = rises.1 in omega (arith, lt, le)), rises_on (x.turn + 1) high more entries le rises.2)

rises_push : (low turn : ℕ) (entries : List (Entry Drafted)) (d : Drafted) → RisesWithin low turn entries
    → RisesWithin low (turn + 1) (entries ++ record { turn = turn; item = d } ∷ [])
rises_push low turn [] d rises = (rises, omega arith, omega arith)
rises_push low turn (x ∷ entries) d rises = (rises.0, (let lt = rises.1 in omega (arith, lt)), rises_push (x.turn + 1) turn entries d rises.2)

journal_below : (b : Pages) (high : ℕ) → RisesWithin 0 high b.entries → (k : ℕ) (e : JournalEntry) → slice_get (journal_of b) k ≡ Some e → e.turn < high
journal_below b high rises k e h = by (slice_get b.entries k) refl
  where
    by : (o : Option (Entry Drafted)) → slice_get b.entries k ≡ o → e.turn < high
    by None is = absurd (let f : None ≡ Some e = ap (option_map journal_entry_of) (sym is) ∙ sym (slice_get-map journal_entry_of b.entries k) ∙ h in cc)
    by (Some x) is =
        let f : Some (journal_entry_of x) ≡ Some e = ap (option_map journal_entry_of) (sym is) ∙ sym (slice_get-map journal_entry_of b.entries k) ∙ h in
        let same : journal_entry_of x ≡ e = cc in
        subst (λ (y : JournalEntry). y.turn < high) same (rises_below 0 high b.entries rises k x is)

-- all entries have smaller turns
pub all_counted : (b : Pages) (high turn : ℕ) → high ≤ turn → RisesWithin 0 high b.entries → length b.entries ≡ entries_below turn (journal_of b)
all_counted b high turn le rises =
    sym (length-map b.entries journal_entry_of)
    ∙ sym (all_below turn (journal_of b) (λ k e h. let lt : e.turn < high = journal_below b high rises k e h in omega (arith, lt, le)))

pub latest_push : (opening : ParsedText) (entries : List (Entry Drafted)) (e : Entry Drafted)
    → latest_of (λ (d : Drafted). d.version) opening (entries ++ e ∷ []) ≡ e.item.version
latest_push opening [] e = refl
latest_push opening (x ∷ entries) e = latest_push x.item.version entries e

entries_push : (entries : List (Entry Drafted)) (e : Entry Drafted) → length (entries ++ e ∷ []) ≡ suc (length entries)
entries_push [] e = refl
entries_push (x ∷ entries) e = ap (λ (n : ℕ). suc n) (entries_push entries e)

-- ---- what a step does

made_entry : (turn a b m n : ℕ) → a ≡ b → m ≡ n → ◌≡◌ {A = JournalEntry} (record { turn = turn; client = b; step = n }) (record { turn = turn; client = a; step = m })
made_entry turn a b m n x y = cc

same_turn : (t u : ℕ) → ◌≡◌ {A = Option ℕ} (Some t) (Some u) → u ≤ t
same_turn t u h = let e : t ≡ u = cc in omega (arith, e)

own_edit : (document : ℕ) (edit : TextEdit) → edits_on document (step.Edit document edit) ≡ 1
own_edit document edit = let e : nat_eq document document ≡ true = eq-eqb document document refl in rw e refl

module _ (client number : ℕ) where
  -- the journal with the entry of a draft
  grown_is : (p : Place) (d : Drafted) (room : ℕ) → d.client ≡ client → d.step ≡ number
      → journal_of p.book ++ record { turn = p.turn; client = client; step = number } ∷ [] ≡ journal_of (with_entry p.book p.turn d room)
  grown_is p d room by at =
      ap (λ (e : JournalEntry). journal_of p.book ++ e ∷ []) (made_entry p.turn d.client client d.step number by at)
      ∙ sym (map-append journal_entry_of p.book.entries (record { turn = p.turn; item = d } ∷ []))

  count_is : (p : Place) → length (journal_of p.book) ≡ length p.book.entries
  count_is p = length-map p.book.entries journal_entry_of

  pub does_grow : (p : Place) (s : ScriptStep) (r : Reply) (q : Place) → DoesStep client number p s r q
      → GrowsBy client number (journal_of p.book) r (journal_of q.book)
  does_grow p _ _ _ (publishes document edit d room can is drafts has) =
      subst (λ (n : ℕ). GrowsBy client number (journal_of p.book) (reply.Published p.turn (suc n)) (journal_of (with_entry p.book p.turn d room))) (count_is p)
      (subst (λ (l : List JournalEntry). GrowsBy client number (journal_of p.book) (reply.Published p.turn (suc (length (journal_of p.book)))) l) (grown_is p d room drafts.client_is drafts.step_is) (grows p.turn))
  does_grow p _ _ _ (is_behind document edit can less) = stays (reply.Newer p.turn (length p.book.entries)) tt
  does_grow p _ _ _ (out_of_range document edit out) = stays (reply.Range p.held.number) tt
  does_grow p _ _ _ (too_large document edit bytes over) = stays (reply.Size bytes p.held.number) tt
  does_grow p _ _ _ (looks document) = stays (reply.Look p.turn (length p.book.entries)) tt
  does_grow p _ _ _ (waits document wanted there) = stays (reply.Await p.turn (length p.book.entries)) tt
  does_grow p _ _ _ (gives_up document wanted turn less all) = stays (reply.Late turn (length p.book.entries)) tt
  does_grow p _ _ _ (shows document outcome shown) = stays (reply.Tree outcome p.held.number) tt
  does_grow p _ _ _ (has_no_memory s) = stays (reply.Memory p.held.number) tt

  pub does_take : (p : Place) (s : ScriptStep) (r : Reply) (q : Place) → DoesStep client number p s r q → TakesTurns p.turn s r q.turn
  does_take p _ _ _ (publishes document edit d room can is drafts has) = tells p.turn refl (omega arith) (omega arith)
  does_take p _ _ _ (is_behind document edit can less) = tells p.turn refl (omega arith) (omega arith)
  does_take p _ _ _ (out_of_range document edit out) = rests refl refl
  does_take p _ _ _ (too_large document edit bytes over) = rests refl refl
  does_take p _ _ _ (looks document) = tells p.turn refl (omega arith) (omega arith)
  does_take p _ _ _ (waits document wanted there) = tells p.turn refl (omega arith) (omega arith)
  does_take p _ _ _ (gives_up document wanted turn less all) = tells turn refl all (sym all)
  does_take p _ _ _ (shows document outcome shown) = rests refl refl
  does_take p _ _ _ (has_no_memory s) = rests refl refl

  -- no step takes more turns than the longest wait
  pub turn_within : (p : Place) (s : ScriptStep) (r : Reply) (q : Place) → DoesStep client number p s r q → q.turn ≤ p.turn + most_looks
  turn_within p _ _ _ (publishes document edit d room can is drafts has) = omega arith
  turn_within p _ _ _ (is_behind document edit can less) = omega arith
  turn_within p _ _ _ (out_of_range document edit out) = omega arith
  turn_within p _ _ _ (too_large document edit bytes over) = omega arith
  turn_within p _ _ _ (looks document) = omega arith
  turn_within p _ _ _ (waits document wanted there) = omega arith
  turn_within p _ _ _ (gives_up document wanted turn less all) = omega arith
  turn_within p _ _ _ (shows document outcome shown) = omega arith
  turn_within p _ _ _ (has_no_memory s) = omega arith

  -- room and entries together stay as many
  pub sum_stays : (p : Place) (s : ScriptStep) (r : Reply) (q : Place) → DoesStep client number p s r q
      → q.book.room + length q.book.entries ≡ p.book.room + length p.book.entries
  sum_stays p _ _ _ (publishes document edit d room can is drafts has) =
      let e : length (p.book.entries ++ record { turn = p.turn; item = d } ∷ []) ≡ suc (length p.book.entries) = entries_push p.book.entries (record { turn = p.turn; item = d }) in omega (arith, e, has)
  sum_stays p _ _ _ (is_behind document edit can less) = refl
  sum_stays p _ _ _ (out_of_range document edit out) = refl
  sum_stays p _ _ _ (too_large document edit bytes over) = refl
  sum_stays p _ _ _ (looks document) = refl
  sum_stays p _ _ _ (waits document wanted there) = refl
  sum_stays p _ _ _ (gives_up document wanted turn less all) = refl
  sum_stays p _ _ _ (shows document outcome shown) = refl
  sum_stays p _ _ _ (has_no_memory s) = refl

  -- only an edit of the document takes room
  pub room_within : (p : Place) (s : ScriptStep) (r : Reply) (q : Place) → DoesStep client number p s r q → p.book.room ≤ q.book.room + edits_on (document_of s) s
  room_within p _ _ _ (publishes document edit d room can is drafts has) = let one : edits_on document (step.Edit document edit) ≡ 1 = own_edit document edit in omega (arith, one, has)
  room_within p _ _ _ (is_behind document edit can less) = omega arith
  room_within p _ _ _ (out_of_range document edit out) = omega arith
  room_within p _ _ _ (too_large document edit bytes over) = omega arith
  room_within p _ _ _ (looks document) = omega arith
  room_within p _ _ _ (waits document wanted there) = omega arith
  room_within p _ _ _ (gives_up document wanted turn less all) = omega arith
  room_within p _ _ _ (shows document outcome shown) = omega arith
  room_within p _ _ _ (has_no_memory s) = omega arith

  pub does_rise : (p : Place) (s : ScriptStep) (r : Reply) (q : Place) → DoesStep client number p s r q → RisesWithin 0 p.turn p.book.entries → RisesWithin 0 q.turn q.book.entries
  does_rise p _ _ _ (publishes document edit d room can is drafts has) rises = rises_push 0 p.turn p.book.entries d rises
  does_rise p _ _ _ (is_behind document edit can less) rises = rises_on 0 p.turn (p.turn + 1) p.book.entries (omega arith) rises
  does_rise p _ _ _ (out_of_range document edit out) rises = rises
  does_rise p _ _ _ (too_large document edit bytes over) rises = rises
  does_rise p _ _ _ (looks document) rises = rises_on 0 p.turn (p.turn + 1) p.book.entries (omega arith) rises
  does_rise p _ _ _ (waits document wanted there) rises = rises_on 0 p.turn (p.turn + 1) p.book.entries (omega arith) rises
  does_rise p _ _ _ (gives_up document wanted turn less all) rises = rises_on 0 p.turn (p.turn + most_looks) p.book.entries (omega arith) rises
  does_rise p _ _ _ (shows document outcome shown) rises = rises
  does_rise p _ _ _ (has_no_memory s) rises = rises

  -- the version that is held then is there
  pub held_within : (p : Place) (s : ScriptStep) (r : Reply) (q : Place) → DoesStep client number p s r q → p.held.number ≤ length p.book.entries → version_of r ≤ length q.book.entries
  held_within p _ _ _ (publishes document edit d room can is drafts has) le =
      let e : length (p.book.entries ++ record { turn = p.turn; item = d } ∷ []) ≡ suc (length p.book.entries) = entries_push p.book.entries (record { turn = p.turn; item = d }) in omega (arith, e)
  held_within p _ _ _ (is_behind document edit can less) le = omega arith
  held_within p _ _ _ (out_of_range document edit out) le = le
  held_within p _ _ _ (too_large document edit bytes over) le = le
  held_within p _ _ _ (looks document) le = omega arith
  held_within p _ _ _ (waits document wanted there) le = omega arith
  held_within p _ _ _ (gives_up document wanted turn less all) le = omega arith
  held_within p _ _ _ (shows document outcome shown) le = le
  held_within p _ _ _ (has_no_memory s) le = le

  -- ---- the texts of versions

  module _ (plan : Plan) (table : ParseTable) (opening : Bytes) where
    -- the version that an edit of the newest one makes
    new_version : (p : Place) (document : ℕ) (edit : TextEdit) (d : Drafted)
        → p.held.number ≡ length p.book.entries → Drafts p.held client number edit d
        → asked_at plan client number ≡ Some (step.Edit document edit)
        → IsTextOf table p.held.number (version_text plan opening (journal_of p.book) p.held.number) p.held
        → IsTextOf table (suc (length p.book.entries))
        (version_text plan opening (journal_of p.book ++ record { turn = p.turn; client = client; step = number } ∷ []) (suc (length p.book.entries))) d.version
    new_version p document edit d is drafts asked held = record {
      number_is = (let n = drafts.number_is in omega (arith, n, is));
      text_is = drafts.text_is ∙ ap (λ (t : Bytes). apply_of t edit) (held.text_is ∙ ap (version_text plan opening (journal_of p.book)) (is ∙ sym (count_is p)))
          ∙ sym after_is ∙ sym (last_text plan opening (journal_of p.book) (record { turn = p.turn; client = client; step = number }))
          ∙ ap (λ (n : ℕ). version_text plan opening (journal_of p.book ++ record { turn = p.turn; client = client; step = number } ∷ []) (suc n)) (count_is p);
      table_is = drafts.table_is ∙ held.table_is;
    }
      where
        after_is : text_after plan (version_text plan opening (journal_of p.book) (length (journal_of p.book))) (record { turn = p.turn; client = client; step = number })
            ≡ apply_of (version_text plan opening (journal_of p.book) (length (journal_of p.book))) edit
        after_is = ap (λ (o : Option ScriptStep). unwrap_or (option_map (λ (x : TextEdit). apply_of (version_text plan opening (journal_of p.book) (length (journal_of p.book))) x) (option_and_then edit_in o)) (version_text plan opening (journal_of p.book) (length (journal_of p.book)))) asked

    -- the same, in the new journal
    published_version : (p : Place) (document : ℕ) (edit : TextEdit) (d : Drafted) (room : ℕ)
        → p.held.number ≡ length p.book.entries → Drafts p.held client number edit d
        → asked_at plan client number ≡ Some (step.Edit document edit)
        → IsTextOf table p.held.number (version_text plan opening (journal_of p.book) p.held.number) p.held
        → IsTextOf table (suc (length p.book.entries)) (version_text plan opening (journal_of (with_entry p.book p.turn d room)) (suc (length p.book.entries))) d.version
    published_version p document edit d room is drafts asked held =
        subst (λ (l : List JournalEntry). IsTextOf table (suc (length p.book.entries)) (version_text plan opening l (suc (length p.book.entries))) d.version)
        (grown_is p d room drafts.client_is drafts.step_is) (new_version p document edit d is drafts asked held)

    -- versions that were there have the same texts
    pub text_stays : (p : Place) (s : ScriptStep) (r : Reply) (q : Place) → DoesStep client number p s r q → (n : ℕ) → n ≤ length p.book.entries
        → version_text plan opening (journal_of p.book) n ≡ version_text plan opening (journal_of q.book) n
    text_stays p _ _ _ (publishes document edit d room can is drafts has) n le =
        sym (same_text plan opening (journal_of p.book) (record { turn = p.turn; client = client; step = number }) n (let e : length (journal_of p.book) ≡ length p.book.entries = count_is p in omega (arith, e, le)))
        ∙ ap (λ (l : List JournalEntry). version_text plan opening l n) (grown_is p d room drafts.client_is drafts.step_is)
    text_stays p _ _ _ (is_behind document edit can less) n le = refl
    text_stays p _ _ _ (out_of_range document edit out) n le = refl
    text_stays p _ _ _ (too_large document edit bytes over) n le = refl
    text_stays p _ _ _ (looks document) n le = refl
    text_stays p _ _ _ (waits document wanted there) n le = refl
    text_stays p _ _ _ (gives_up document wanted turn less all) n le = refl
    text_stays p _ _ _ (shows document outcome shown) n le = refl
    text_stays p _ _ _ (has_no_memory s) n le = refl

    module _ (p : Place)
        (held : IsTextOf table p.held.number (version_text plan opening (journal_of p.book) p.held.number) p.held)
        (latest : IsTextOf table (length p.book.entries) (version_text plan opening (journal_of p.book) (length p.book.entries)) (newest p.book)) where
      -- what is held then
      pub held_now : (s : ScriptStep) (r : Reply) (q : Place) → DoesStep client number p s r q → asked_at plan client number ≡ Some s
          → IsTextOf table (version_of r) (version_text plan opening (journal_of q.book) (version_of r)) q.held
      held_now _ _ _ (publishes document edit d room can is drafts has) asked = published_version p document edit d room is drafts asked held
      held_now _ _ _ (is_behind document edit can less) asked = latest
      held_now _ _ _ (out_of_range document edit out) asked = held
      held_now _ _ _ (too_large document edit bytes over) asked = held
      held_now _ _ _ (looks document) asked = latest
      held_now _ _ _ (waits document wanted there) asked = latest
      held_now _ _ _ (gives_up document wanted turn less all) asked = latest
      held_now _ _ _ (shows document outcome shown) asked = held
      held_now _ _ _ (has_no_memory s) asked = held

      -- the newest version then
      pub latest_now : (s : ScriptStep) (r : Reply) (q : Place) → DoesStep client number p s r q → asked_at plan client number ≡ Some s
          → IsTextOf table (length q.book.entries) (version_text plan opening (journal_of q.book) (length q.book.entries)) (newest q.book)
      latest_now _ _ _ (publishes document edit d room can is drafts has) asked =
          subst (λ (v : ParsedText). IsTextOf table (length (p.book.entries ++ record { turn = p.turn; item = d } ∷ [])) (version_text plan opening (journal_of (with_entry p.book p.turn d room)) (length (p.book.entries ++ record { turn = p.turn; item = d } ∷ []))) v)
          (sym (latest_push p.book.opening p.book.entries (record { turn = p.turn; item = d })))
          (subst (λ (n : ℕ). IsTextOf table n (version_text plan opening (journal_of (with_entry p.book p.turn d room)) n) d.version)
          (sym (entries_push p.book.entries (record { turn = p.turn; item = d })))
          (published_version p document edit d room is drafts asked held))
      latest_now _ _ _ (is_behind document edit can less) asked = latest
      latest_now _ _ _ (out_of_range document edit out) asked = latest
      latest_now _ _ _ (too_large document edit bytes over) asked = latest
      latest_now _ _ _ (looks document) asked = latest
      latest_now _ _ _ (waits document wanted there) asked = latest
      latest_now _ _ _ (gives_up document wanted turn less all) asked = latest
      latest_now _ _ _ (shows document outcome shown) asked = latest
      latest_now _ _ _ (has_no_memory s) asked = latest

      -- all versions then
      pub versions_now : (s : ScriptStep) (r : Reply) (q : Place) → DoesStep client number p s r q → asked_at plan client number ≡ Some s
          → HasVersions plan table opening p.book → HasVersions plan table opening q.book
      versions_now _ _ _ (publishes document edit d room can is drafts has) asked versions = record {
        first = versions.first;
        others = λ k e h. ⊎_elim (λ w. old k e w.0 w.1) (λ w. new k e w.0 w.1) (push_cases p.book.entries (record { turn = p.turn; item = d }) k e h);
      }
        where
          old : (k : ℕ) (e : Entry Drafted) → k < length p.book.entries → slice_get p.book.entries k ≡ Some e
              → IsTextOf table (suc k) (version_text plan opening (journal_of (with_entry p.book p.turn d room)) (suc k)) e.item.version
          old k e lt h = subst (λ (t : Bytes). IsTextOf table (suc k) t e.item.version)
              (text_stays p (step.Edit document edit) (reply.Published p.turn (suc (length p.book.entries))) (place (p.turn + 1) (with_entry p.book p.turn d room) d.version)
              (publishes document edit d room can is drafts has) (suc k) (omega (arith, lt)))
              (versions.others k e h)

          new : (k : ℕ) (e : Entry Drafted) → k ≡ length p.book.entries → record { turn = p.turn; item = d } ≡ e
              → IsTextOf table (suc k) (version_text plan opening (journal_of (with_entry p.book p.turn d room)) (suc k)) e.item.version
          new k e last same = subst (λ (x : Entry Drafted). IsTextOf table (suc k) (version_text plan opening (journal_of (with_entry p.book p.turn d room)) (suc k)) x.item.version) same
              (subst (λ (n : ℕ). IsTextOf table (suc n) (version_text plan opening (journal_of (with_entry p.book p.turn d room)) (suc n)) d.version) (sym last)
              (published_version p document edit d room is drafts asked held))
      versions_now _ _ _ (is_behind document edit can less) asked versions = versions
      versions_now _ _ _ (out_of_range document edit out) asked versions = versions
      versions_now _ _ _ (too_large document edit bytes over) asked versions = versions
      versions_now _ _ _ (looks document) asked versions = versions
      versions_now _ _ _ (waits document wanted there) asked versions = versions
      versions_now _ _ _ (gives_up document wanted turn less all) asked versions = versions
      versions_now _ _ _ (shows document outcome shown) asked versions = versions
      versions_now _ _ _ (has_no_memory s) asked versions = versions

      -- ---- the reply

      module _ (rises : RisesWithin 0 p.turn p.book.entries) (there : p.held.number ≤ length p.book.entries)
          (last : Option ℕ) (told : (t : ℕ) → last ≡ Some t → t < p.turn) where
        shows_at : (turn : ℕ) → p.turn ≤ turn → ShowsAt (journal_of p.book) p.held.number turn (length p.book.entries)
        shows_at turn le = record { count = all_counted p.book p.turn turn le rises; not_older = there }

        had_all : (turn : ℕ) (o : Option ℕ) → last ≡ o → suc turn ≡ p.turn + most_looks → HadAllLooks o turn
        had_all turn None is all = omega (arith, all)
        had_all turn (Some t) is all = let lt : t < p.turn = told t is in omega (arith, all, lt)

        pub does_right : {Finds : Bytes → List ℕ → List ShownResult → Type 0} (s : ScriptStep) (r : Reply) (q : Place) → DoesStep client number p s r q
            → IsRight Finds plan table.grammar opening (journal_of q.book) p.held.number last s r
        does_right {Finds = Finds} _ _ _ (publishes document edit d room can is drafts has) =
            subst (λ (l : List JournalEntry). IsRight Finds plan table.grammar opening l p.held.number last (step.Edit document edit) (reply.Published p.turn (suc (length p.book.entries))))
            (grown_is p d room drafts.client_is drafts.step_is)
            (still_right plan table.grammar opening (journal_of p.book) (record { turn = p.turn; client = client; step = number }) p.held.number last
            (let e : length (journal_of p.book) ≡ length p.book.entries = count_is p in omega (arith, e, there))
            (step.Edit document edit) (reply.Published p.turn (suc (length p.book.entries))) (λ t h. same_turn p.turn t h)
            (published document edit p.turn (suc (length p.book.entries)) (subst (λ (t : Bytes). CanEdit t edit) held.text_is can)
            (is ∙ all_counted p.book p.turn p.turn (omega arith) rises) (ap (λ (n : ℕ). suc n) (sym is))))
        does_right _ _ _ (is_behind document edit can less) =
            newer document edit p.turn (length p.book.entries) (subst (λ (t : Bytes). CanEdit t edit) held.text_is can) (shows_at p.turn (omega arith)) less
        does_right _ _ _ (out_of_range document edit out) = range document edit p.held.number (subst (λ (t : Bytes). InRange t edit → ⊥) held.text_is out) refl
        does_right _ _ _ (too_large document edit bytes over) = size document edit bytes p.held.number (subst (λ (t : Bytes). IsOver t edit bytes) held.text_is over) refl
        does_right _ _ _ (looks document) = look document p.turn (length p.book.entries) (shows_at p.turn (omega arith))
        does_right _ _ _ (waits document wanted there_now) = await document wanted p.turn (length p.book.entries) (shows_at p.turn (omega arith)) there_now
        does_right _ _ _ (gives_up document wanted turn less all) = late document wanted turn (length p.book.entries) (shows_at turn (omega (arith, all))) less (had_all turn last refl all)
        does_right _ _ _ (shows document outcome shown) = tree document p.held.number outcome
            (subst (λ (g : FlatGrammar). IsShown g (version_text plan opening (journal_of p.book) p.held.number) outcome) (ap (λ (t : ParseTable). t.grammar) held.table_is)
            (subst (λ (t : Bytes). IsShown p.held.table.grammar t outcome) held.text_is shown)) refl
        does_right _ _ _ (has_no_memory s) = memory s p.held.number refl
