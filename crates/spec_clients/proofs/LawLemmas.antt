-- Joined work is lawful.
use Rattle.std.proofs.Common.{◌≡◌, ◌∙◌, sym, ap, refl, subst, ℕ, zero, suc, ◌+◌, ◌*◌, ◌<◌, ◌≤◌, nat_lt, if◌then◌else◌, true, false, Bool, ◌⊎◌, inl, inr, ⊎_elim, List, [], ◌∷◌, ◌++◌, length, take, slice_get, Option, Some, None, unwrap_or, option_map, arith}
use Rattle.std.specs.Option.{option_and_then}
use Rattle.std.proofs.lemmas.Bool.{cases_eq, lt-ltb}
use Rattle.std.proofs.lemmas.List.{length-map, length-append}
use Rattle.std.proofs.lemmas.Option.{slice_get_within, slice_get-map}
use Rattle.ts_base.proofs.PlaceLemmas.{in_prefix}
use Rattle.ts_base.specs.Bytes.{Bytes}
use Rattle.ts_table.specs.declared.view.ParseTable.{ParseTable}
use Rattle.ts_shelf.specs.declared.journal.Entry.{Entry}
use Rattle.ts_shelf.specs.declared.view.Knowledge.{Knowledge}
use Rattle.ts_shelf.specs.Entries.{most_turns, occurrences, once_below, RisesWithin, Extends}
use Rattle.ts_shelf.specs.Passes.{IsPass}
use Rattle.ts_text.specs.Edit.{apply_of}
use Rattle.ts_text.specs.declared.edit.Edit.{Edit as TextEdit}
use Rattle.ts_docs.specs.declared.parsed.ParsedText.{ParsedText}
use Rattle.ts_docs.specs.declared.parsed.Drafted.{Drafted}
use Rattle.ts_docs.specs.declared.parsed.Pages.{Pages}
use Rattle.ts_docs.specs.Versions.{IsTextOf, IsOfTable}
use Rattle.ts_script.specs.declared.plan.ScriptStep.{ScriptStep}
use Rattle.ts_script.specs.declared.plan.ScriptStep.TheVariants as step
use Rattle.ts_script.specs.Rules.{most_script_steps}
use Rattle.ts_replies.specs.declared.reply.ShownResult.{ShownResult}
use Rattle.ts_replies.specs.declared.reply.Reply.{Reply}
use Rattle.ts_replies.specs.declared.reply.Reply.TheVariants as reply
use Rattle.spec_history.specs.Replies.{document_of, turn_told, most_looks}
use Rattle.spec_history.specs.Histories.{JournalEntry, History, IsAnswered, asked_at, edit_in, version_text, text_after, paired, all_paired, held_after, last_turn, paired_by, accounted_in, accounted_all}
use Rattle.spec_history.specs.Legal.{IsRight, IsRightAt, IsPublishedAs, IsEntryAt, TellsTurn, LegalSoFar, IsCompleteHistory, Legal}
use Rattle.spec_history.specs.Books.{journal_entry_of, journal_of}
use Rattle.spec_clients.specs.Seen.{journal_seen, version_seen}
use Rattle.spec_clients.specs.Served.{IsReplied, TellsOn, held_at, told_at, taken_until, IsOwnEntry, IsServed}
use Rattle.spec_clients.specs.Joined.{IsLeft, AreJoined, AreVersionsOf}
use Rattle.spec_clients.proofs.TurnCounts.{all_taken, until_append, until_once, present_below, two_parts, taker, few_taken}
use Rattle.spec_clients.proofs.SeenFirst.{neighbours_rise, entries_early, early_was_seen}
use Rattle.spec_clients.proofs.PrefixLemmas.{same_version, journal_append, next_text, next_version, text_before, AreLate, journal_late, of_journal, to_journal, still_right}

-- ---- options and lists

same_thing : {X : Type 0} (x y : X) → Some x ≡ Some y → x ≡ y
same_thing x y h = cc

there_is : {X : Type 0} (xs : List X) (k : ℕ) → k < length xs → (x : X) × (slice_get xs k ≡ Some x)
there_is [] k lt = absurd (let f : ⊥ = omega (arith, lt) in f)
there_is (x ∷ xs) zero lt = (x, refl)
there_is (x ∷ xs) (suc k) lt = there_is xs k (omega (arith, lt))

mapped : {X Y : Type 0} (f : X → Y) (o : Option X) (y : Y) → option_map f o ≡ Some y → (x : X) × (o ≡ Some x) × (f x ≡ y)
mapped f None y h = absurd (let e : None ≡ Some y = h in cc)
mapped f (Some x) y h = (x, refl, same_thing (f x) y h)

inside : {X : Type 0} (o : Option (List X)) (m : ℕ) (x : X) → option_and_then (λ (xs : List X). slice_get xs m) o ≡ Some x
    → (xs : List X) × (o ≡ Some xs) × (slice_get xs m ≡ Some x)
inside None m x h = absurd (let f : None ≡ Some x = h in cc)
inside (Some xs) m x h = (xs, refl, h)

at_both : {X : Type 0} (o : Option (List X)) (m : ℕ) (xs : List X) (x : X) → o ≡ Some xs → slice_get xs m ≡ Some x
    → option_and_then (λ (xs : List X). slice_get xs m) o ≡ Some x
at_both o m xs x is at = ap (λ (p : Option (List _)). option_and_then (λ (l : List _). slice_get l m) p) is ∙ at

-- ---- accounts

-- what all replies account for is no more than what all passes took
all_accounted : (document turn : ℕ) (clients : List (List ScriptStep)) (replies : List (List Reply)) (passes : List (Knowledge ParsedText Drafted))
    → length passes ≡ length clients
    → ((c : ℕ) (steps : List ScriptStep) (own : List Reply) (k : Knowledge ParsedText Drafted) → slice_get clients c ≡ Some steps → slice_get replies c ≡ Some own
    → slice_get passes c ≡ Some k → accounted_in document turn (paired steps own) ≤ taken_until turn k.taken)
    → accounted_all document turn (all_paired clients replies) ≤ taken_until turn (all_taken passes)
all_accounted document turn [] replies passes same each = omega arith
all_accounted document turn (ss ∷ clients) [] passes same each = omega arith
all_accounted document turn (ss ∷ clients) (rs ∷ replies) [] same each = absurd (let f : ⊥ = omega (arith, same) in f)
all_accounted document turn (ss ∷ clients) (rs ∷ replies) (k ∷ passes) same each =
    let first = each 0 ss rs k refl refl refl in
    let rest = all_accounted document turn clients replies passes (omega (arith, same)) (λ c steps own p. each (suc c) steps own p) in
    let sum = until_append turn k.taken (all_taken passes) in
    omega (arith, first, rest, sum)

module _ (Finds : Bytes → List ℕ → List ShownResult → Type 0) (h : History) (table : ParseTable) (books : List Pages)
    (all : List (List (Knowledge ParsedText Drafted))) (w : AreJoined Finds h table books all) where
  -- ---- documents and clients

  -- a document with its book
  record Document (document : ℕ) : Type 0 where
    pub book : Pages
    pub book_is : slice_get books document ≡ Some book
    pub opening : Bytes
    pub opening_is : slice_get h.openings document ≡ Some opening
    pub journal_is : slice_get h.journals document ≡ Some (journal_of book)
    pub opened : IsTextOf table 0 opening book.opening
    pub left : IsLeft Finds h document all book
    -- the first pass has seen all entries
    pub rises : RisesWithin 0 left.first.turn book.entries

  document_with : (document : ℕ) (b : Pages) (opening : Bytes) → slice_get books document ≡ Some b → slice_get h.openings document ≡ Some opening → Document document
  document_with document b opening is op =
      let left = w.left document b is in
      record {
        book = b;
        book_is = is;
        opening = opening;
        opening_is = op;
        journal_is = ap (λ (l : List (List JournalEntry)). slice_get l document) w.journals_are ∙ slice_get-map journal_of books document ∙ ap (option_map journal_of) is;
        opened = w.opened document opening b op is;
        left = left;
        rises = subst (λ (l : List (Entry Drafted)). RisesWithin 0 left.first.turn l) (sym left.closes.all_seen) left.is_pass.rises;
      }

  document_at : (document : ℕ) → document < length h.plan.documents → Document document
  document_at document lt =
      let same = w.documents in
      let opened = w.openings in
      let b = there_is books document (omega (arith, lt, same)) in
      let o = there_is h.openings document (omega (arith, lt, opened)) in
      document_with document b.0 o.0 b.1 o.1

  -- a client with its replies
  record Client (client : ℕ) : Type 0 where
    pub steps : List ScriptStep
    pub steps_are : slice_get h.plan.clients client ≡ Some steps
    pub own : List Reply
    pub own_are : slice_get h.replies client ≡ Some own

  client_at : (client : ℕ) → client < length h.plan.clients → Client client
  client_at client lt =
      let same = w.clients in
      let s = there_is h.plan.clients client lt in
      let o = there_is h.replies client (omega (arith, lt, same)) in
      record { steps = s.0; steps_are = s.1; own = o.0; own_are = o.1 }

  paired_is : (client : ℕ) (c : Client client) → paired_by h client ≡ paired c.steps c.own
  paired_is client c = ap (λ (o : Option (List ScriptStep)). paired (unwrap_or o []) (unwrap_or (slice_get h.replies client) [])) c.steps_are
      ∙ ap (λ (o : Option (List Reply)). paired c.steps (unwrap_or o [])) c.own_are

  -- a client's pass of a document
  record Serves (document : ℕ) (d : Document document) (client : ℕ) (c : Client client) : Type 0 where
    pub pass : Knowledge ParsedText Drafted
    pub is : slice_get d.left.passes client ≡ Some pass
    pub served : IsServed Finds h.plan h.grammar d.book.opening client document c.steps c.own pass
    pub in_hand : IsPass IsOfTable pass
    pub extends : Extends pass.turn d.left.first.turn d.book.entries pass.seen

  serves : (document : ℕ) (d : Document document) (client : ℕ) (c : Client client) → Serves document d client c
  serves document d client c =
      let lt : client < length h.plan.clients = slice_get_within h.plan.clients client c.steps c.steps_are in
      let a = d.left.passes_are.count in
      let b = w.passes in
      let k = there_is d.left.passes client (omega (arith, lt, a, b)) in
      record {
        pass = k.0;
        is = k.1;
        served = d.left.served client c.steps c.own k.0 c.steps_are c.own_are k.1;
        in_hand = d.left.in_hand client k.0 k.1;
        extends = subst (λ (l : List (Entry Drafted)). Extends k.0.turn d.left.first.turn l k.0.seen) (sym d.left.closes.all_seen) (d.left.gathered.extends client k.0 k.1);
      }

  -- a step that was answered
  record Answered (client number : ℕ) (s : ScriptStep) (r : Reply) : Type 0 where
    pub c : Client client
    pub step_is : slice_get c.steps number ≡ Some s
    pub reply_is : slice_get c.own number ≡ Some r
    pub d : Document (document_of s)

  answered_by : (client number : ℕ) (s : ScriptStep) (r : Reply) → IsAnswered h client number s r → Answered client number s r
  answered_by client number s r a =
      let steps = inside (slice_get h.plan.clients client) number s a.step_is in
      let own = inside (slice_get h.replies client) number r a.reply_is in
      record {
        c = record { steps = steps.0; steps_are = steps.1; own = own.0; own_are = own.1 };
        step_is = steps.2;
        reply_is = own.2;
        d = document_at (document_of s) (w.bounded.on client number s a.step_is);
      }

  -- ---- turns

  -- a turn that is told is one of the client's pass
  record Turn (document client number turn : ℕ) : Type 0 where
    pub d : Document document
    pub c : Client client
    pub tells : TellsOn document c.steps c.own number turn
    pub s : Serves document d client c
    pub taken : 0 < occurrences turn s.pass.taken
    pub early : turn < s.pass.turn

  turn_of_pass : (document : ℕ) (d : Document document) (client : ℕ) (c : Client client) (s : Serves document d client c) (turn : ℕ)
      → 0 < occurrences turn s.pass.taken → turn < s.pass.turn
  turn_of_pass document d client c s turn taken = present_below s.pass.turn turn s.pass.taken s.in_hand.taken taken

  turn_with : (document client number turn : ℕ) (d : Document document) (c : Client client) → TellsOn document c.steps c.own number turn → Turn document client number turn
  turn_with document client number turn d c tells =
      let s = serves document d client c in
      let taken = s.served.told number turn tells in
      record { d = d; c = c; tells = tells; s = s; taken = taken; early = turn_of_pass document d client c s turn taken }

  turn_told_by : (document client number turn : ℕ) → TellsTurn h document client number turn → Turn document client number turn
  turn_told_by document client number turn t =
      let a = answered_by client number t.step t.answer t.answered in
      let d = subst (λ (n : ℕ). Document n) t.on a.d in
      turn_with document client number turn d a.c
      (record { step = t.step; answer = t.answer; replied = record { step_is = a.step_is; reply_is = a.reply_is; on = t.on }; told = t.told })

  few : (document client number turn : ℕ) → TellsTurn h document client number turn → turn < most_turns
  few document client number turn t =
      let u = turn_told_by document client number turn t in
      let a = u.early in
      let b = u.s.in_hand.known in
      let e = u.s.in_hand.few in
      omega (arith, a, b, e)

  -- no turn stands twice among those that all passes took
  once : (document : ℕ) (d : Document document) (x : ℕ) → occurrences x (all_taken d.left.passes) ≤ 1
  once document d x = subst (λ (l : List ℕ). occurrences x l ≤ 1) d.left.gathered.taken
      (let e = d.left.closes.once x in let m = once_most x d.left.first.turn in omega (arith, e, m))
    where
      once_most : (x t : ℕ) → once_below x t ≤ 1
      once_most x t = by (nat_lt x t)
        where
          by : (b : Bool) → (if b then 1 else 0) ≤ 1
          by true = omega arith
          by false = omega arith

  apart_clients : (document turn client number other n : ℕ) → TellsTurn h document client number turn → TellsTurn h document other n turn
      → client < other → ⊥
  unfolding turn_told_by turn_with
  apart_clients document turn client number other n t u lt =
      let a = turn_told_by document client number turn t in
      let c = answered_by other n u.step u.answer u.answered in
      let b = turn_with document other n turn a.d c.c
      (record { step = u.step; answer = u.answer; replied = record { step_is = c.step_is; reply_is = c.reply_is; on = u.on }; told = u.told }) in
      let two = two_parts turn a.d.left.passes client other a.s.pass b.s.pass lt a.s.is b.s.is a.taken b.taken in
      let one = once document a.d turn in
      omega (arith, two, one)

  apart : (document turn client number other n : ℕ) → TellsTurn h document client number turn → TellsTurn h document other n turn
      → (client ≡ other) × (number ≡ n)
  apart document turn client number other n t u = ⊎_elim
      (λ same. (same, one same))
      (λ two. absurd (⊎_elim (λ lt. apart_clients document turn client number other n t u lt) (λ lt. apart_clients document turn other n client number u t lt) (either_less client other two)))
      (cases_eq client other)
    where
      either_less : (a b : ℕ) → (a ≡ b → ⊥) → (a < b) ⊎ (b < a)
      either_less zero zero two = absurd (two refl)
      either_less zero (suc b) two = inl (omega arith)
      either_less (suc a) zero two = inr (omega arith)
      either_less (suc a) (suc b) two = ⊎_elim (λ lt. inl (omega (arith, lt))) (λ lt. inr (omega (arith, lt))) (either_less a b (λ e. two (ap (λ (n : ℕ). suc n) e)))

      not_before : (x y : ℕ) → TellsTurn h document client x turn → TellsTurn h document client y turn → x < y → ⊥
      not_before x y a b lt =
          let p = turn_told_by document client x turn a in
          let q = answered_by client y b.step b.answer b.answered in
          let steps_same : q.c.steps ≡ p.c.steps = same_thing q.c.steps p.c.steps (sym q.c.steps_are ∙ p.c.steps_are) in
          let own_same : q.c.own ≡ p.c.own = same_thing q.c.own p.c.own (sym q.c.own_are ∙ p.c.own_are) in
          let second : TellsOn document p.c.steps p.c.own y turn = record {
            step = b.step;
            answer = b.answer;
            replied = record {
              step_is = ap (λ (l : List ScriptStep). slice_get l y) (sym steps_same) ∙ q.step_is;
              reply_is = ap (λ (l : List Reply). slice_get l y) (sym own_same) ∙ q.reply_is;
              on = b.on;
            };
            told = b.told;
          } in
          let less : turn < turn = p.s.served.rise x turn y turn p.tells second lt in
          omega (arith, less)

      one : client ≡ other → number ≡ n
      one same = ⊎_elim (λ e. e)
          (λ two. absurd (⊎_elim (λ lt. not_before number n t v lt) (λ lt. not_before n number v t lt) (either_less number n two)))
          (cases_eq number n)
        where
          v : TellsTurn h document client n turn
          v = subst (λ (c : ℕ). TellsTurn h document c n turn) (sym same) u

  rise : (document client number turn n t : ℕ) → TellsTurn h document client number turn → TellsTurn h document client n t → number < n → turn < t
  rise document client number turn n t a b lt =
      let p = turn_told_by document client number turn a in
      let q = answered_by client n b.step b.answer b.answered in
      let steps_same : q.c.steps ≡ p.c.steps = same_thing q.c.steps p.c.steps (sym q.c.steps_are ∙ p.c.steps_are) in
      let own_same : q.c.own ≡ p.c.own = same_thing q.c.own p.c.own (sym q.c.own_are ∙ p.c.own_are) in
      p.s.served.rise number turn n t p.tells
      (record {
        step = b.step;
        answer = b.answer;
        replied = record {
          step_is = ap (λ (l : List ScriptStep). slice_get l n) (sym steps_same) ∙ q.step_is;
          reply_is = ap (λ (l : List Reply). slice_get l n) (sym own_same) ∙ q.reply_is;
          on = b.on;
        };
        told = b.told;
      }) lt

  accounted : (document client number turn : ℕ) → TellsTurn h document client number turn
      → accounted_all document turn (all_paired h.plan.clients h.replies) ≤ suc turn
  accounted document client number turn t =
      let d = (turn_told_by document client number turn t).d in
      let same : length d.left.passes ≡ length h.plan.clients = d.left.passes_are.count ∙ w.passes in
      let spent = all_accounted document turn h.plan.clients h.replies d.left.passes same
      (λ c steps own k a b e. (d.left.served c steps own k a b e).accounted turn) in
      let most = until_once turn (all_taken d.left.passes) (once document d) in
      omega (arith, spent, most)

  -- ---- entries

  -- the client of an entry, with its pass
  record Owner (document : ℕ) (d : Document document) (place : ℕ) (e : Entry Drafted) : Type 0 where
    pub client : ℕ
    pub c : Client client
    pub s : Serves document d client c
    pub seen : slice_get s.pass.seen place ≡ Some e
    pub own : IsOwnEntry client document c.steps c.own d.book.opening s.pass.seen place e

  owner : (document : ℕ) (d : Document document) (place : ℕ) (e : Entry Drafted) → slice_get d.book.entries place ≡ Some e → Owner document d place e
  owner document d place e is =
      let early : e.turn < d.left.first.turn = entries_early 0 d.left.first.turn d.book.entries d.rises place e is in
      let one : once_below e.turn d.left.first.turn ≡ 1 = counts e.turn d.left.first.turn early in
      let there : occurrences e.turn d.left.first.taken ≡ once_below e.turn d.left.first.turn = d.left.closes.once e.turn in
      let here : 0 < occurrences e.turn (all_taken d.left.passes) =
      subst (λ (l : List ℕ). 0 < occurrences e.turn l) d.left.gathered.taken (omega (arith, one, there)) in
      let t = taker e.turn d.left.passes here in
      let lt : t.client < length d.left.passes = slice_get_within d.left.passes t.client t.pass t.is in
      let count = d.left.passes_are.count in
      let all_count = w.passes in
      let c = client_at t.client (omega (arith, lt, count, all_count)) in
      let s = serves document d t.client c in
      let same : t.pass ≡ s.pass = same_thing t.pass s.pass (sym t.is ∙ s.is) in
      let taken : 0 < occurrences e.turn s.pass.taken = subst (λ (k : Knowledge ParsedText Drafted). 0 < occurrences e.turn k.taken) same t.here in
      let seen = early_was_seen s.pass.turn d.left.first.turn d.book.entries s.pass.seen s.extends place e is (turn_of_pass document d t.client c s e.turn taken) in
      record { client = t.client; c = c; s = s; seen = seen; own = s.served.own place e seen taken }
    where
      counts : (x t : ℕ) → x < t → once_below x t ≡ 1
      counts x t lt = let e : nat_lt x t ≡ true = lt-ltb x t lt in rw e refl

  -- an entry is published, by its client
  published : (document : ℕ) (d : Document document) (place : ℕ) (e : Entry Drafted) → slice_get d.book.entries place ≡ Some e
      → IsPublishedAs h document (journal_entry_of e) (suc place)
  published document d place e is =
      let o = owner document d place e is in
      let by : e.item.client ≡ o.client = o.own.drafts.client_is in
      record {
        step = step.Edit document o.own.edit;
        answered = record {
          step_is = at_both (slice_get h.plan.clients e.item.client) e.item.step o.c.steps (step.Edit document o.own.edit) (ap (slice_get h.plan.clients) by ∙ o.c.steps_are) o.own.replied.step_is;
          reply_is = at_both (slice_get h.replies e.item.client) e.item.step o.c.own (reply.Published e.turn (suc place)) (ap (slice_get h.replies) by ∙ o.c.own_are) o.own.replied.reply_is;
        };
        on = o.own.replied.on;
      }

  book_of : (document : ℕ) (entries : List JournalEntry) → slice_get h.journals document ≡ Some entries
      → (d : Document document) × (journal_of d.book ≡ entries)
  unfolding document_with mapped
  book_of document entries is =
      let m = mapped journal_of (slice_get books document) entries (sym (slice_get-map journal_of books document) ∙ ap (λ (l : List (List JournalEntry)). slice_get l document) (sym w.journals_are) ∙ is) in
      let lt : document < length books = slice_get_within books document m.0 m.1 in
      let a = w.documents in
      let b = w.openings in
      let o = there_is h.openings document (omega (arith, lt, a, b)) in
      (document_with document m.0 o.0 m.1 o.1, m.2)

  entry_published : (document number : ℕ) (e : JournalEntry) → IsEntryAt h document number e → IsPublishedAs h document e (suc number)
  entry_published document number e a =
      let d = book_of document a.entries a.entries_are in
      let x = of_journal d.0.book.entries number e (ap (λ (l : List JournalEntry). slice_get l number) d.1 ∙ a.stands) in
      subst (λ (j : JournalEntry). IsPublishedAs h document j (suc number)) x.2 (published document d.0 number x.0 x.1)

  published_entered : (document number : ℕ) (e : JournalEntry) → IsPublishedAs h document e (suc number) → IsEntryAt h document number e
  published_entered document number e p =
      let a = answered_by e.client e.step p.step (reply.Published e.turn (suc number)) p.answered in
      let d = subst (λ (n : ℕ). Document n) p.on a.d in
      let s = serves document d e.client a.c in
      let x = s.served.entered e.step e.turn (suc number) p.step (record { step_is = a.step_is; reply_is = a.reply_is; on = p.on }) in
      let same : number ≡ x.0 = (let n : suc number ≡ suc x.0 = x.1 in omega (arith, n)) in
      let made : JournalEntry = record { turn = e.turn; client = e.client; step = e.step } in
      let lt : x.0 < length (journal_seen s.pass.seen) = slice_get_within (journal_seen s.pass.seen) x.0 made x.2 in
      let whole : journal_of d.book ≡ journal_seen s.pass.seen ++ journal_seen s.extends.0 = ap journal_seen s.extends.1 ∙ journal_append s.pass.seen s.extends.0 in
      record {
        entries = journal_of d.book;
        entries_are = d.journal_is;
        stands = ap (λ (l : List JournalEntry). slice_get l number) whole
            ∙ ap (slice_get (journal_seen s.pass.seen ++ journal_seen s.extends.0)) same
            ∙ in_prefix (journal_seen s.pass.seen) (journal_seen s.extends.0) x.0 lt ∙ x.2;
      }

  rising : (document number : ℕ) (e f : JournalEntry) → IsEntryAt h document number e → IsEntryAt h document (suc number) f → e.turn < f.turn
  rising document number e f a b =
      let d = book_of document a.entries a.entries_are in
      let same : b.entries ≡ journal_of d.0.book = same_thing b.entries (journal_of d.0.book) (sym b.entries_are ∙ a.entries_are ∙ ap (λ (l : List JournalEntry). Some l) (sym d.1)) in
      let x = of_journal d.0.book.entries number e (ap (λ (l : List JournalEntry). slice_get l number) d.1 ∙ a.stands) in
      let y = of_journal d.0.book.entries (suc number) f (ap (λ (l : List JournalEntry). slice_get l (suc number)) (sym same) ∙ b.stands) in
      let less : x.0.turn < y.0.turn = neighbours_rise 0 d.0.left.first.turn d.0.book.entries d.0.rises number x.0 y.0 x.1 y.1 in
      subst (λ (j : JournalEntry). e.turn < j.turn) y.2 (subst (λ (j : JournalEntry). j.turn < y.0.turn) x.2 less)

  -- ---- versions

  version_at : (document : ℕ) (d : Document document) (number : ℕ) → number ≤ length d.book.entries
      → IsTextOf table number (version_text h.plan d.opening (journal_of d.book) number) (version_seen d.book.opening d.book.entries number)
  version_at document d zero le = d.opened
  version_at document d (suc number) le =
      let e = there_is d.book.entries number (omega (arith, le)) in
      let o = owner document d number e.0 e.1 in
      next document d number e.0 e.1 o (version_at document d number (omega (arith, le)))
    where
      next : (document : ℕ) (d : Document document) (number : ℕ) (e : Entry Drafted) (is : slice_get d.book.entries number ≡ Some e) (o : Owner document d number e)
          → IsTextOf table number (version_text h.plan d.opening (journal_of d.book) number) (version_seen d.book.opening d.book.entries number)
          → IsTextOf table (suc number) (version_text h.plan d.opening (journal_of d.book) (suc number)) (version_seen d.book.opening d.book.entries (suc number))
      next document d number e is o before =
          let lt : number < length o.s.pass.seen = slice_get_within o.s.pass.seen number e o.seen in
          let base : version_seen d.book.opening o.s.pass.seen number ≡ version_seen d.book.opening d.book.entries number =
          sym (ap (λ (l : List (Entry Drafted)). version_seen d.book.opening l number) o.s.extends.1
          ∙ same_version d.book.opening o.s.pass.seen o.s.extends.0 number (omega (arith, lt))) in
          let text : Bytes = version_text h.plan d.opening (journal_of d.book) number in
          let asked : asked_at h.plan e.item.client e.item.step ≡ Some (step.Edit document o.own.edit) =
          at_both (slice_get h.plan.clients e.item.client) e.item.step o.c.steps (step.Edit document o.own.edit)
          (ap (slice_get h.plan.clients) o.own.drafts.client_is ∙ o.c.steps_are) o.own.replied.step_is in
          let edited : text_after h.plan text (journal_entry_of e) ≡ apply_of text o.own.edit =
          ap (λ (s : Option ScriptStep). unwrap_or (option_map (λ (edit : TextEdit). apply_of text edit) (option_and_then edit_in s)) text) asked in
          let there : version_text h.plan d.opening (journal_of d.book) (suc number) ≡ apply_of text o.own.edit =
          next_text h.plan d.opening (journal_of d.book) number (journal_entry_of e) (to_journal d.book.entries number e is) ∙ edited in
          let made : e.item.version.text ≡ apply_of text o.own.edit =
          o.own.drafts.text_is ∙ ap (λ (v : ParsedText). apply_of v.text o.own.edit) base ∙ ap (λ (t : Bytes). apply_of t o.own.edit) before.text_is in
          let number_made : e.item.version.number ≡ number + 1 = o.own.drafts.number_is ∙ ap (λ (v : ParsedText). v.number + 1) base ∙ ap (λ (n : ℕ). n + 1) before.number_is in
          let table_made : e.item.version.table ≡ table = o.own.drafts.table_is ∙ ap (λ (v : ParsedText). v.table) base ∙ before.table_is in
          subst (λ (v : ParsedText). IsTextOf table (suc number) (version_text h.plan d.opening (journal_of d.book) (suc number)) v)
          (sym (next_version d.book.opening d.book.entries number e is))
          (record { number_is = omega (arith, number_made); text_is = made ∙ sym there; table_is = table_made })

  pub versions : AreVersionsOf h table books
  unfolding document_with
  versions document opening b op is number le = version_at document (document_with document b opening is op) number le

  -- ---- replies

  right : (client number : ℕ) (s : ScriptStep) (r : Reply) → IsAnswered h client number s r → IsRightAt Finds h client number s r
  right client number s r a =
      let p = answered_by client number s r a in
      let d = p.d in
      let v = serves (document_of s) d client p.c in
      let replied : IsReplied (document_of s) p.c.steps p.c.own number s r = record { step_is = p.step_is; reply_is = p.reply_is; on = refl } in
      let before : ℕ = held_at (document_of s) p.c.steps p.c.own number in
      let seen : before ≤ length v.pass.seen = v.served.held number in
      let longer : length d.book.entries ≡ length v.pass.seen + length v.extends.0 = ap length v.extends.1 ∙ length-append v.pass.seen v.extends.0 in
      let text = (version_at (document_of s) d before (omega (arith, seen, longer))).text_is in
      let same_opening : d.opening ≡ d.book.opening.text = sym d.opened.text_is in
      let there = subst (λ (o : Bytes). (version_seen d.book.opening d.book.entries before).text ≡ version_text h.plan o (journal_of d.book) before) same_opening text in
      let held = text_before h.plan d.book.opening v.pass.seen v.extends.0 before seen
      (subst (λ (l : List (Entry Drafted)). (version_seen d.book.opening l before).text ≡ version_text h.plan d.book.opening.text (journal_seen l) before) v.extends.1 there) in
      let own = v.served.right number s r replied held in
      let count : length (journal_seen v.pass.seen) ≡ length v.pass.seen = length-map v.pass.seen journal_entry_of in
      let late : (turn : ℕ) → turn_told r ≡ Some turn → AreLate turn (journal_seen v.extends.0) =
      λ turn told. later (document_of s) d client p.c v number s r replied turn told in
      let more = still_right Finds h.plan h.grammar d.book.opening.text (journal_seen v.pass.seen) (journal_seen v.extends.0) before
      (told_at (document_of s) p.c.steps p.c.own number) (omega (arith, seen, count)) s r late own in
      let whole : journal_of d.book ≡ journal_seen v.pass.seen ++ journal_seen v.extends.0 = ap journal_seen v.extends.1 ∙ journal_append v.pass.seen v.extends.0 in
      record {
        opening = d.opening;
        opening_is = d.opening_is;
        entries = journal_of d.book;
        entries_are = d.journal_is;
        right = subst (λ (ps : List (ScriptStep × Reply)). IsRight Finds h.plan h.grammar d.opening (journal_of d.book)
            (held_after (document_of s) 0 (take number ps)) (last_turn (document_of s) None (take number ps)) s r) (sym (paired_is client p.c))
            (subst (λ (o : Bytes). IsRight Finds h.plan h.grammar o (journal_of d.book) before (told_at (document_of s) p.c.steps p.c.own number) s r) (sym same_opening)
            (subst (λ (l : List JournalEntry). IsRight Finds h.plan h.grammar d.book.opening.text l before (told_at (document_of s) p.c.steps p.c.own number) s r) (sym whole) more));
      }
    where
      later : (document : ℕ) (d : Document document) (client : ℕ) (c : Client client) (v : Serves document d client c) (number : ℕ) (s : ScriptStep) (r : Reply)
          → IsReplied document c.steps c.own number s r → (turn : ℕ) → turn_told r ≡ Some turn → AreLate turn (journal_seen v.extends.0)
      later document d client c v number s r replied turn told place e is =
          let taken = v.served.told number turn (record { step = s; answer = r; replied = replied; told = told }) in
          let early = turn_of_pass document d client c v turn taken in
          let late = journal_late v.pass.turn d.left.first.turn v.extends.0 v.extends.2 place e is in
          omega (arith, early, late)

  lawful : LegalSoFar Finds h
  lawful = record {
    right = right;
    few = few;
    apart = apart;
    rise = rise;
    entered = λ document number e. (entry_published document number e, published_entered document number e);
    rising = rising;
    accounted = accounted;
  }

  -- ---- the end

  -- not all turns of a document were over
  turns_left : (document : ℕ) (d : Document document) (client : ℕ) (k : Knowledge ParsedText Drafted) → slice_get d.left.passes client ≡ Some k → most_turns ≤ k.reached → ⊥
  turns_left document d client k is over =
      let reached = d.left.gathered.reached client k is in
      let all_over = d.left.closes.reached in
      let count = d.left.closes.count in
      let taken : length d.left.first.taken ≡ length (all_taken d.left.passes) = ap length d.left.gathered.taken in
      let few_each = few_taken (most_script_steps * most_looks) d.left.passes (each document d) in
      let clients = w.bounded.clients in
      let passes : length d.left.passes ≡ length h.plan.clients = d.left.passes_are.count ∙ w.passes in
      omega (arith, over, reached, all_over, count, taken, few_each, clients, passes)
    where
      each : (document : ℕ) (d : Document document) (c : ℕ) (k : Knowledge ParsedText Drafted) → slice_get d.left.passes c ≡ Some k → length k.taken ≤ most_script_steps * most_looks
      each document d c k is =
          let lt = slice_get_within d.left.passes c k is in
          let passes : length d.left.passes ≡ length h.plan.clients = d.left.passes_are.count ∙ w.passes in
          let client = client_at c (omega (arith, lt, passes)) in
          let mine = (d.left.served c client.steps client.own k client.steps_are client.own_are is).few in
          let short = w.bounded.few c client.steps client.steps_are in
          omega (arith, mine, short)

  complete : IsCompleteHistory h
  complete = record {
    openings = w.openings;
    journals = ap length w.journals_are ∙ length-map books journal_of ∙ w.documents;
    clients = w.clients;
    each = λ client steps own a b.
        let lt = slice_get_within h.plan.clients client steps a in
        let passes = w.passes in
        let k = there_is all client (omega (arith, lt, passes)) in
        ⊎_elim (λ same. same) (λ stop. absurd (stopped client k.0 k.1 stop)) (w.ends client steps own k.0 a b k.1);
  }
    where
      stopped : (client : ℕ) (own : List (Knowledge ParsedText Drafted)) → slice_get all client ≡ Some own
          → ((document : ℕ) × (k : Knowledge ParsedText Drafted) × (document < length h.plan.documents) × (slice_get own document ≡ Some k) × (most_turns ≤ k.reached)) → ⊥
      stopped client own is stop =
          let d = document_at stop.0 stop.2 in
          turns_left stop.0 d client stop.1 (sym (d.left.passes_are.each client own is) ∙ stop.3) stop.4

  pub legal : Legal Finds h
  legal = record { whole = complete; lawful = lawful }
