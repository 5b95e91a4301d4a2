-- A client that was served, once its pass took more turns, or it has one more reply.
use Rattle.std.proofs.Common.{◌≡◌, ◌∙◌, sym, ap, refl, subst, ℕ, zero, suc, ◌+◌, ◌*◌, ◌<◌, ◌≤◌, ◌⊎◌, inl, inr, ⊎_elim, List, [], ◌∷◌, ◌++◌, length, slice_get, Option, Some, arith}
use Rattle.std.proofs.lemmas.List.{length-map, length-append}
use Rattle.std.proofs.lemmas.Option.{slice_get_within}
use Rattle.ts_base.proofs.PlaceLemmas.{push_cases, in_prefix, at_end}
use Rattle.ts_base.specs.Bytes.{Bytes}
use Rattle.ts_core.specs.declared.flat.FlatGrammar.{FlatGrammar}
use Rattle.ts_shelf.specs.declared.journal.Entry.{Entry}
use Rattle.ts_shelf.specs.declared.view.Knowledge.{Knowledge}
use Rattle.ts_shelf.specs.Entries.{occurrences}
use Rattle.ts_shelf.specs.Passes.{IsPass}
use Rattle.ts_docs.specs.declared.parsed.ParsedText.{ParsedText}
use Rattle.ts_docs.specs.declared.parsed.Drafted.{Drafted}
use Rattle.ts_docs.specs.Versions.{IsOfTable, Drafts}
use Rattle.ts_script.specs.declared.plan.Plan.{Plan}
use Rattle.ts_script.specs.declared.plan.ScriptStep.{ScriptStep}
use Rattle.ts_script.specs.declared.plan.ScriptStep.TheVariants as step
use Rattle.ts_replies.specs.declared.reply.ShownResult.{ShownResult}
use Rattle.ts_replies.specs.declared.reply.Reply.{Reply}
use Rattle.ts_replies.specs.declared.reply.Reply.TheVariants as reply
use Rattle.spec_history.specs.Replies.{document_of, turn_told, most_looks}
use Rattle.spec_history.specs.Histories.{JournalEntry, version_text, paired, accounted_in}
use Rattle.spec_history.specs.Legal.{IsRight}
use Rattle.spec_history.specs.Books.{journal_entry_of}
use Rattle.spec_clients.specs.Seen.{journal_seen, version_seen}
use Rattle.spec_clients.specs.Served.{IsReplied, TellsOn, held_at, told_at, taken_until, IsOwnEntry, IsServed}
use Rattle.spec_clients.specs.Next.{TakesThese, HasNoneOf, IsNewEntry, IsNextReply}
use Rattle.spec_clients.proofs.TurnCounts.{occurs_append, until_append, present_below}
use Rattle.spec_clients.proofs.SeenFirst.{early_was_seen}
use Rattle.spec_clients.proofs.PrefixLemmas.{same_version, journal_append, text_before, AreLate, journal_late, still_right}
use Rattle.spec_clients.proofs.PairLemmas.{held_same, told_same, held_within, last_is_told, accounted_next, share_elsewhere, share_within}

same_thing : {X : Type 0} (x y : X) → Some x ≡ Some y → x ≡ y
same_thing x y h = cc

-- ---- one more reply, told by places

-- a reply is an old one, or the new one
record IsOld (document : ℕ) (steps : List ScriptStep) (replies : List Reply) (n : ℕ) (t : ScriptStep) (x : Reply) : Type 0 where
  pub before : n < length replies
  pub replied : IsReplied document steps replies n t x

record IsLast (document : ℕ) (replies : List Reply) (s : ScriptStep) (r : Reply) (n : ℕ) (t : ScriptStep) (x : Reply) : Type 0 where
  pub number_is : n ≡ length replies
  pub step_is : s ≡ t
  pub reply_is : r ≡ x
  pub on : document_of s ≡ document

module _ (document : ℕ) (steps : List ScriptStep) (replies : List Reply) (s : ScriptStep) (r : Reply) (is : slice_get steps (length replies) ≡ Some s) where
  which : (n : ℕ) (t : ScriptStep) (x : Reply) → IsReplied document steps (replies ++ r ∷ []) n t x
      → IsOld document steps replies n t x ⊎ IsLast document replies s r n t x
  which n t x p = ⊎_elim
      (λ old. inl (record { before = old.0; replied = record { step_is = p.step_is; reply_is = old.1; on = p.on } }))
      (λ new.
      let same : s ≡ t = same_thing s t (sym is ∙ ap (slice_get steps) (sym new.0) ∙ p.step_is) in
      inr (record { number_is = new.0; step_is = same; reply_is = new.1; on = ap document_of same ∙ p.on }))
      (push_cases replies r n x p.reply_is)

  old_too : (n : ℕ) (t : ScriptStep) (x : Reply) → IsReplied document steps replies n t x → IsReplied document steps (replies ++ r ∷ []) n t x
  old_too n t x p = record {
    step_is = p.step_is;
    reply_is = in_prefix replies (r ∷ []) n (slice_get_within replies n x p.reply_is) ∙ p.reply_is;
    on = p.on;
  }

  -- a turn is told by an old reply, or by the new one
  which_tells : (n turn : ℕ) → TellsOn document steps (replies ++ r ∷ []) n turn
      → ((n < length replies) × TellsOn document steps replies n turn) ⊎ ((n ≡ length replies) × (turn_told r ≡ Some turn))
  which_tells n turn t = ⊎_elim
      (λ old. inl (old.before, record { step = t.step; answer = t.answer; replied = old.replied; told = t.told }))
      (λ new. inr (new.number_is, ap turn_told new.reply_is ∙ t.told))
      (which n t.step t.answer t.replied)

-- ---- more turns

module _ (Finds : Bytes → List ℕ → List ShownResult → Type 0) (plan : Plan) (g : FlatGrammar) (opening : ParsedText) (client document : ℕ)
    (steps : List ScriptStep) (replies : List Reply) (old new : Knowledge ParsedText Drafted) (turns : List ℕ)
    (w : IsServed Finds plan g opening client document steps replies old) (pass : IsPass IsOfTable old) (takes : TakesThese old new turns)
  where
    abbrev rest : List (Entry Drafted)
    rest = takes.extends.0

    seen_is : new.seen ≡ old.seen ++ rest
    seen_is = takes.extends.1

    longer : length old.seen ≤ length new.seen
    longer = let e : length new.seen ≡ length old.seen + length rest = ap length seen_is ∙ length-append old.seen rest in omega (arith, e)

    old_turn : (turn : ℕ) → 0 < occurrences turn old.taken → turn < old.turn
    old_turn turn here = present_below old.turn turn old.taken pass.taken here

    still_taken : (turn : ℕ) → 0 < occurrences turn old.taken → 0 < occurrences turn new.taken
    still_taken turn here = subst (λ (l : List ℕ). 0 < occurrences turn l) (sym takes.taken)
        (let sum = occurs_append turn old.taken turns in omega (arith, sum, here))

    told_early : (n turn : ℕ) → TellsOn document steps replies n turn → turn < old.turn
    told_early n turn t = old_turn turn (w.told n turn t)

    -- a right reply is right still
    right_still : (n : ℕ) (t : ScriptStep) (x : Reply) → IsReplied document steps replies n t x
        → (version_seen opening new.seen (held_at document steps replies n)).text
        ≡ version_text plan opening.text (journal_seen new.seen) (held_at document steps replies n)
        → IsRight Finds plan g opening.text (journal_seen new.seen) (held_at document steps replies n) (told_at document steps replies n) t x
    right_still n t x p text =
        let before : ℕ = held_at document steps replies n in
        let there = w.held n in
        let text_there = text_before plan opening old.seen rest before there
        (subst (λ (l : List (Entry Drafted)). (version_seen opening l before).text ≡ version_text plan opening.text (journal_seen l) before) seen_is text) in
        let count : length (journal_seen old.seen) ≡ length old.seen = length-map old.seen journal_entry_of in
        let more = still_right Finds plan g opening.text (journal_seen old.seen) (journal_seen rest) before (told_at document steps replies n) (omega (arith, there, count)) t x
        (λ turn told. late n t x p turn told) (w.right n t x p text_there) in
        subst (λ (l : List JournalEntry). IsRight Finds plan g opening.text l before (told_at document steps replies n) t x) (sym (ap journal_seen seen_is ∙ journal_append old.seen rest)) more
      where
        late : (n : ℕ) (t : ScriptStep) (x : Reply) → IsReplied document steps replies n t x → (turn : ℕ) → turn_told x ≡ Some turn → AreLate turn (journal_seen rest)
        late n t x p turn told place e is =
            let early = told_early n turn (record { step = t; answer = x; replied = p; told = told }) in
            let from = journal_late old.turn new.turn rest takes.extends.2 place e is in
            omega (arith, early, from)

    entered_still : (n turn version : ℕ) (t : ScriptStep) → IsReplied document steps replies n t (reply.Published turn version)
        → (place : ℕ) × (version ≡ suc place) × (slice_get (journal_seen new.seen) place ≡ Some (record { turn = turn; client = client; step = n }))
    entered_still n turn version t p =
        let e = w.entered n turn version t p in
        let made : JournalEntry = record { turn = turn; client = client; step = n } in
        let lt = slice_get_within (journal_seen old.seen) e.0 made e.2 in (
          e.0,
          e.1,
          ap (λ (l : List JournalEntry). slice_get l e.0) (ap journal_seen seen_is ∙ journal_append old.seen rest)
              ∙ in_prefix (journal_seen old.seen) (journal_seen rest) e.0 lt ∙ e.2,
        )

    -- an entry with a turn that was taken before
    own_still : (place : ℕ) (e : Entry Drafted) → slice_get new.seen place ≡ Some e → 0 < occurrences e.turn old.taken
        → IsOwnEntry client document steps replies opening new.seen place e
    own_still place e is here =
        let was = early_was_seen old.turn new.turn new.seen old.seen takes.extends place e is (old_turn e.turn here) in
        let own = w.own place e was here in
        let lt = slice_get_within old.seen place e was in
        record {
          edit = own.edit;
          replied = own.replied;
          drafts = subst (λ (v : ParsedText). Drafts v client e.item.step own.edit e.item)
              (sym (ap (λ (l : List (Entry Drafted)). version_seen opening l place) seen_is ∙ same_version opening old.seen rest place (omega (arith, lt)))) own.drafts;
        }

    taken_or : (x : ℕ) → 0 < occurrences x new.taken → (0 < occurrences x old.taken) ⊎ (0 < occurrences x turns)
    taken_or x here = by (occurrences x old.taken) refl
      where
        by : (n : ℕ) → occurrences x old.taken ≡ n → (0 < occurrences x old.taken) ⊎ (0 < occurrences x turns)
        by zero none =
            let more : 0 < occurrences x (old.taken ++ turns) = subst (λ (l : List ℕ). 0 < occurrences x l) takes.taken here in
            let sum = occurs_append x old.taken turns in
            inr (omega (arith, more, sum, none))
        by (suc n) some = inl (omega (arith, some))

    until_new : (t : ℕ) → taken_until t new.taken ≡ taken_until t old.taken + taken_until t turns
    until_new t = ap (taken_until t) takes.taken ∙ until_append t old.taken turns

    pub idle_served : HasNoneOf turns new.seen → length new.taken ≤ length steps * most_looks
        → IsServed Finds plan g opening client document steps replies new
    idle_served none few = record {
      held = λ n. let h = w.held n in let l = longer in omega (arith, h, l);
      right = right_still;
      told = λ n turn t. still_taken turn (w.told n turn t);
      rise = w.rise;
      entered = entered_still;
      own = λ place e is here. ⊎_elim (λ o. own_still place e is o) (λ x. absurd (none place e is x)) (taken_or e.turn here);
      accounted = λ t. let a = w.accounted t in let u = until_new t in omega (arith, a, u);
      few = few;
    }

    -- ---- and a reply

    module _ (s : ScriptStep) (r : Reply) (is : slice_get steps (length replies) ≡ Some s) (on : document_of s ≡ document)
        (few : length new.taken ≤ length steps * most_looks)
        (next : IsNextReply Finds plan g opening client (length replies) document (held_at document steps replies (length replies)) old new turns s r) where
      abbrev now : List Reply
      now = replies ++ r ∷ []

      held_now : (n : ℕ) → held_at document steps now n ≤ length new.seen
      held_now n = held_within document steps replies s r is (length new.seen) n (λ m. let h = w.held m in let l = longer in omega (arith, h, l)) (λ e. next.held)

      last_early : (t : ℕ) → told_at document steps replies (length replies) ≡ Some t → t < old.turn
      last_early t told =
          let l = last_is_told document t (length replies) steps replies told in
          told_early l.number t (record { step = l.step; answer = l.answer; replied = record { step_is = l.step_is; reply_is = l.reply_is; on = l.on }; told = l.told })

      -- what the new replies are right by, where the number of the step is as before
      right_at : (n : ℕ) (t : ScriptStep) (x : Reply) → n ≤ length replies
          → ((version_seen opening new.seen (held_at document steps replies n)).text
          ≡ version_text plan opening.text (journal_seen new.seen) (held_at document steps replies n)
          → IsRight Finds plan g opening.text (journal_seen new.seen) (held_at document steps replies n) (told_at document steps replies n) t x)
          → (version_seen opening new.seen (held_at document steps now n)).text
          ≡ version_text plan opening.text (journal_seen new.seen) (held_at document steps now n)
          → IsRight Finds plan g opening.text (journal_seen new.seen) (held_at document steps now n) (told_at document steps now n) t x
      right_at n t x le right text =
          let h : held_at document steps now n ≡ held_at document steps replies n = held_same document steps replies s r is n le in
          let l : told_at document steps now n ≡ told_at document steps replies n = told_same document steps replies s r is n le in
          let was = right (subst (λ (b : ℕ). (version_seen opening new.seen b).text ≡ version_text plan opening.text (journal_seen new.seen) b) h text) in
          subst (λ (b : ℕ). IsRight Finds plan g opening.text (journal_seen new.seen) b (told_at document steps now n) t x) (sym h)
          (subst (λ (o : Option ℕ). IsRight Finds plan g opening.text (journal_seen new.seen) (held_at document steps replies n) o t x) (sym l) was)

      right_new : (n : ℕ) (t : ScriptStep) (x : Reply) → IsLast document replies s r n t x
          → (version_seen opening new.seen (held_at document steps replies n)).text
          ≡ version_text plan opening.text (journal_seen new.seen) (held_at document steps replies n)
          → IsRight Finds plan g opening.text (journal_seen new.seen) (held_at document steps replies n) (told_at document steps replies n) t x
      right_new n t x l =
          subst (λ (m : ℕ). (version_seen opening new.seen (held_at document steps replies m)).text
          ≡ version_text plan opening.text (journal_seen new.seen) (held_at document steps replies m)
          → IsRight Finds plan g opening.text (journal_seen new.seen) (held_at document steps replies m) (told_at document steps replies m) t x) (sym l.number_is)
          (subst (λ (y : Reply). (version_seen opening new.seen (held_at document steps replies (length replies))).text
          ≡ version_text plan opening.text (journal_seen new.seen) (held_at document steps replies (length replies))
          → IsRight Finds plan g opening.text (journal_seen new.seen) (held_at document steps replies (length replies)) (told_at document steps replies (length replies)) t y) l.reply_is
          (subst (λ (y : ScriptStep). (version_seen opening new.seen (held_at document steps replies (length replies))).text
          ≡ version_text plan opening.text (journal_seen new.seen) (held_at document steps replies (length replies))
          → IsRight Finds plan g opening.text (journal_seen new.seen) (held_at document steps replies (length replies)) (told_at document steps replies (length replies)) y r) l.step_is
          (next.right (told_at document steps replies (length replies)) last_early)))

      right_now : (n : ℕ) (t : ScriptStep) (x : Reply) → IsReplied document steps now n t x
          → (version_seen opening new.seen (held_at document steps now n)).text
          ≡ version_text plan opening.text (journal_seen new.seen) (held_at document steps now n)
          → IsRight Finds plan g opening.text (journal_seen new.seen) (held_at document steps now n) (told_at document steps now n) t x
      right_now n t x p = ⊎_elim
          (λ o. right_at n t x (let lt = o.before in omega (arith, lt)) (right_still n t x o.replied))
          (λ l. right_at n t x (let e = l.number_is in omega (arith, e)) (right_new n t x l))
          (which document steps replies s r is n t x p)

      told_now : (n turn : ℕ) → TellsOn document steps now n turn → 0 < occurrences turn new.taken
      told_now n turn t = ⊎_elim
          (λ o. still_taken turn (w.told n turn o.1))
          (λ l. subst (λ (k : List ℕ). 0 < occurrences turn k) (sym takes.taken)
          (let sum = occurs_append turn old.taken turns in let here = (next.told turn l.1).here in omega (arith, sum, here)))
          (which_tells document steps replies s r is n turn t)

      rise_now : (m turn n t : ℕ) → TellsOn document steps now m turn → TellsOn document steps now n t → m < n → turn < t
      rise_now m turn n t a b lt = ⊎_elim
          (λ o. ⊎_elim
          (λ p. w.rise m turn n t o.1 p.1 lt)
          (λ l. let early = told_early m turn o.1 in let late = (next.told t l.1).new in omega (arith, early, late))
          (which_tells document steps replies s r is n t b))
          (λ l. ⊎_elim
          (λ p. let x = l.0 in let y = p.0 in absurd (let f : ⊥ = omega (arith, x, y, lt) in f))
          (λ p. let x = l.0 in let y = p.0 in absurd (let f : ⊥ = omega (arith, x, y, lt) in f))
          (which_tells document steps replies s r is n t b))
          (which_tells document steps replies s r is m turn a)

      entered_now : (n turn version : ℕ) (t : ScriptStep) → IsReplied document steps now n t (reply.Published turn version)
          → (place : ℕ) × (version ≡ suc place) × (slice_get (journal_seen new.seen) place ≡ Some (record { turn = turn; client = client; step = n }))
      entered_now n turn version t p = ⊎_elim
          (λ o. entered_still n turn version t o.replied)
          (λ l. subst (λ (m : ℕ). (place : ℕ) × (version ≡ suc place) × (slice_get (journal_seen new.seen) place ≡ Some (record { turn = turn; client = client; step = m }))) (sym l.number_is)
          (next.entered turn version l.reply_is))
          (which document steps replies s r is n t (reply.Published turn version) p)

      own_new : (place : ℕ) (e : Entry Drafted) → IsNewEntry client (length replies) document s r opening new.seen place e
          → IsOwnEntry client document steps now opening new.seen place e
      own_new place e o = record {
        edit = o.edit;
        replied = record {
          step_is = ap (slice_get steps) o.number_is ∙ is ∙ ap (λ (t : ScriptStep). Some t) o.step_is;
          reply_is = ap (slice_get now) o.number_is ∙ at_end replies r ∙ ap (λ (x : Reply). Some x) o.reply_is;
          on = refl;
        };
        drafts = subst (λ (n : ℕ). Drafts (version_seen opening new.seen place) client n o.edit e.item) (sym o.number_is) o.drafts;
      }

      own_now : (place : ℕ) (e : Entry Drafted) → slice_get new.seen place ≡ Some e → 0 < occurrences e.turn new.taken
          → IsOwnEntry client document steps now opening new.seen place e
      own_now place e at here = ⊎_elim
          (λ o. let own = own_still place e at o in
          record { edit = own.edit; replied = old_too document steps replies s r is e.item.step (step.Edit document own.edit) (reply.Published e.turn (suc place)) own.replied; drafts = own.drafts })
          (λ x. own_new place e (next.own place e at x))
          (taken_or e.turn here)

      accounted_now : (t : ℕ) → accounted_in document t (paired steps now) ≤ taken_until t new.taken
      accounted_now t =
          let a = w.accounted t in
          let u = until_new t in
          let p = accounted_next document t steps replies s r is in
          let within = share_within document t (taken_until t turns) s r (λ turn told le. (next.told turn told).accounts t le) in
          omega (arith, a, u, p, within)

      pub next_served : IsServed Finds plan g opening client document steps now new
      next_served = record {
        held = held_now;
        right = right_now;
        told = told_now;
        rise = rise_now;
        entered = entered_now;
        own = own_now;
        accounted = accounted_now;
        few = few;
      }

-- ---- elsewhere

module _ (Finds : Bytes → List ℕ → List ShownResult → Type 0) (plan : Plan) (g : FlatGrammar) (opening : ParsedText) (client document : ℕ)
    (steps : List ScriptStep) (replies : List Reply) (k : Knowledge ParsedText Drafted) (s : ScriptStep) (r : Reply)
    (w : IsServed Finds plan g opening client document steps replies k)
    (is : slice_get steps (length replies) ≡ Some s) (other : document_of s ≡ document → ⊥) where
  was_old : (n : ℕ) (t : ScriptStep) (x : Reply) → IsReplied document steps (replies ++ r ∷ []) n t x → IsOld document steps replies n t x
  was_old n t x p = ⊎_elim (λ o. o) (λ l. absurd (other l.on)) (which document steps replies s r is n t x p)

  told_old : (n turn : ℕ) → TellsOn document steps (replies ++ r ∷ []) n turn → TellsOn document steps replies n turn
  told_old n turn t = record { step = t.step; answer = t.answer; replied = (was_old n t.step t.answer t.replied).replied; told = t.told }

  right_else : (n : ℕ) (t : ScriptStep) (x : Reply) → IsReplied document steps (replies ++ r ∷ []) n t x
      → (version_seen opening k.seen (held_at document steps (replies ++ r ∷ []) n)).text
      ≡ version_text plan opening.text (journal_seen k.seen) (held_at document steps (replies ++ r ∷ []) n)
      → IsRight Finds plan g opening.text (journal_seen k.seen) (held_at document steps (replies ++ r ∷ []) n) (told_at document steps (replies ++ r ∷ []) n) t x
  right_else n t x p text =
      let o = was_old n t x p in
      let le : n ≤ length replies = (let lt = o.before in omega (arith, lt)) in
      let h : held_at document steps (replies ++ r ∷ []) n ≡ held_at document steps replies n = held_same document steps replies s r is n le in
      let l : told_at document steps (replies ++ r ∷ []) n ≡ told_at document steps replies n = told_same document steps replies s r is n le in
      let was = w.right n t x o.replied (subst (λ (b : ℕ). (version_seen opening k.seen b).text ≡ version_text plan opening.text (journal_seen k.seen) b) h text) in
      subst (λ (b : ℕ). IsRight Finds plan g opening.text (journal_seen k.seen) b (told_at document steps (replies ++ r ∷ []) n) t x) (sym h)
      (subst (λ (o : Option ℕ). IsRight Finds plan g opening.text (journal_seen k.seen) (held_at document steps replies n) o t x) (sym l) was)

  pub elsewhere_served : IsServed Finds plan g opening client document steps (replies ++ r ∷ []) k
  elsewhere_served = record {
    held = λ n. held_within document steps replies s r is (length k.seen) n w.held (λ e. absurd (other e));
    right = right_else;
    told = λ n turn t. w.told n turn (told_old n turn t);
    rise = λ m turn n t a b lt. w.rise m turn n t (told_old m turn a) (told_old n t b) lt;
    entered = λ n turn version t p. w.entered n turn version t (was_old n t (reply.Published turn version) p).replied;
    own = λ place e at here. let own = w.own place e at here in
        record { edit = own.edit; replied = old_too document steps replies s r is e.item.step (step.Edit document own.edit) (reply.Published e.turn (suc place)) own.replied; drafts = own.drafts };
    accounted = λ t.
        let a = w.accounted t in
        let p = accounted_next document t steps replies s r is in
        let none = share_elsewhere document t s r other in
        omega (arith, a, p, none);
    few = w.few;
  }
