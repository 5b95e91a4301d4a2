-- A run so far, with one more reply.
use Rattle.std.proofs.Common.{◌≡◌, ◌∙◌, sym, ap, refl, subst, ℕ, suc, ◌+◌, ◌<◌, ◌≤◌, ◌==◌, nat_lt, nat_eq, if◌then◌else◌, true, false, Bool, ◌⊎◌, inl, inr, ⊎_elim, List, [], ◌∷◌, ◌++◌, length, take, slice_get, Option, Some, None, unwrap_or, arith}
use Rattle.std.proofs.lemmas.Bool.{cases_eq, eqb-true, lt-ltb}
use Rattle.std.proofs.lemmas.Bool.Decides.{eqb_tells}
use Rattle.std.proofs.lemmas.List.{take_all}
use Rattle.std.proofs.lemmas.Option.{slice_get_within}
use Rattle.ts_base.proofs.PlaceLemmas.{push_cases, in_prefix, at_end}
use Rattle.ts_base.specs.Bytes.{Bytes}
use Rattle.ts_shelf.specs.Entries.{most_turns}
use Rattle.ts_script.specs.declared.plan.ScriptStep.{ScriptStep}
use Rattle.ts_replies.specs.declared.reply.ShownResult.{ShownResult}
use Rattle.ts_replies.specs.declared.reply.Reply.{Reply}
use Rattle.ts_replies.specs.declared.reply.Reply.TheVariants as reply
use Rattle.spec_history.specs.Replies.{document_of, version_of, turn_told, turns_of}
use Rattle.spec_history.specs.Histories.{JournalEntry, History, IsAnswered, asked_at, held_before, last_told, held_after, last_turn, paired, all_paired, accounted_by, accounted_all}
use Rattle.spec_history.specs.Legal.{IsRight, IsRightAt, IsPublishedAs, IsEntryAt, TellsTurn}
use Rattle.std.specs.Option.{option_and_then}
use Rattle.ts_core.specs.declared.flat.FlatGrammar.{FlatGrammar}
use Rattle.ts_script.specs.declared.plan.Plan.{Plan}
use Rattle.spec_history.specs.Orders.{TakesTurns, tells, rests, gave_up}
use Rattle.ts_replay.specs.Runs.{SoFar, with_own_reply, next_history, PublishesNothing, GrowsBy, stays, grows, IsOneMoreReply}
use Rattle.ts_replay.proofs.ReplyLemmas.{stands, own_after, others_after, new_stands, old_stands, reply_cases, earlier_same, length_paired, paired_push, take_push, held_push, share, accounted_next}
use Rattle.ts_replay.proofs.JournalLemmas.{still_right}

-- ---- turns that a step takes

told_some : (r : Reply) (turn : ℕ) → turn_told r ≡ Some turn → 1 ≤ turns_of r
told_some (reply.Published t version) turn h = omega arith
told_some (reply.Newer t version) turn h = omega arith
told_some (reply.Look t version) turn h = omega arith
told_some (reply.Await t version) turn h = omega arith
told_some (reply.Late t version) turn h = omega arith
told_some (reply.Range version) turn h = absurd (let f : None ≡ Some turn = h in cc)
told_some (reply.Size size version) turn h = absurd (let f : None ≡ Some turn = h in cc)
told_some (reply.Memory version) turn h = absurd (let f : None ≡ Some turn = h in cc)
told_some (reply.Tree outcome version) turn h = absurd (let f : None ≡ Some turn = h in cc)
told_some (reply.Results results version) turn h = absurd (let f : None ≡ Some turn = h in cc)
told_some (reply.Absent outcome version) turn h = absurd (let f : None ≡ Some turn = h in cc)

same_some : (a b : ℕ) → ◌≡◌ {A = Option ℕ} (Some a) (Some b) → a ≡ b
same_some a b h = cc

-- what is known of the turn that is told
pub record Told (before : ℕ) (r : Reply) (after turn : ℕ) : Type 0 where
  pub new : before ≤ turn
  pub next : after ≡ suc turn
  pub all : suc turn ≡ before + turns_of r

pub told : (before : ℕ) (s : ScriptStep) (r : Reply) (after turn : ℕ) → TakesTurns before s r after → turn_told r ≡ Some turn
    → Told before r after turn
told before s r after turn (tells t is all next) h =
    let same : t ≡ turn = same_some t turn (sym is ∙ h) in
    let some : 1 ≤ turns_of r = told_some r turn h in
    record {
      new = omega (arith, same, some, all);
      next = next ∙ ap (λ (n : ℕ). suc n) same;
      all = sym (ap (λ (n : ℕ). suc n) same) ∙ all;
    }
told before s r after turn (rests none same) h = absurd (let f : None ≡ Some turn = sym none ∙ h in cc)
told before s r after turn (gave_up document wanted version looks is gone few next) h = absurd (let f : None ≡ Some turn = sym (ap turn_told gone) ∙ h in cc)

pub never_back : (before : ℕ) (s : ScriptStep) (r : Reply) (after : ℕ) → TakesTurns before s r after → before ≤ after
never_back before s r after (tells t is all next) = let some : 1 ≤ turns_of r = told_some r t is in omega (arith, some, all, next)
never_back before s r after (rests none same) = omega (arith, same)
never_back before s r after (gave_up document wanted version looks is gone few next) = omega (arith, next)

-- a reply accounts for no more turns than its step took
part : (before after n : ℕ) (b : Bool) → before ≤ after → before + n ≤ after → before + (if b then n else 0) ≤ after
part before after n true least le = le
part before after n false least le = omega (arith, least)

other_part : (before after n : ℕ) (b : Bool) → before ≤ after → before + n ≤ after → before + (if b then 0 else n) ≤ after
other_part before after n true least le = omega (arith, least)
other_part before after n false least le = le

accounted_within : (t before after : ℕ) (o : Option ℕ) (turns : ℕ) → before ≤ after
    → ((turn : ℕ) → o ≡ Some turn → before + turns ≤ after) → before + accounted_by t o turns ≤ after
accounted_within t before after None turns least all = omega (arith, least)
accounted_within t before after (Some turn) turns least all = other_part before after turns (nat_lt t turn) least (all turn refl)

pub share_within : (d t before : ℕ) (s : ScriptStep) (r : Reply) (after : ℕ) → TakesTurns before s r after → before + share d t s r ≤ after
share_within d t before s r after takes =
    let least : before ≤ after = never_back before s r after takes in
    part before after (accounted_by t (turn_told r) (turns_of r)) (document_of s == d) least
    (accounted_within t before after (turn_told r) (turns_of r) least (all before s r after takes))
  where
    all : (before : ℕ) (s : ScriptStep) (r : Reply) (after : ℕ) → TakesTurns before s r after → (turn : ℕ) → turn_told r ≡ Some turn → before + turns_of r ≤ after
    all before s r after takes turn h = let known : Told before r after turn = told before s r after turn takes h in let x = known.all in let y = known.next in omega (arith, x, y)

-- for a turn that was over before the step the reply does not account
early_part : (t turn n : ℕ) → t < turn → (if nat_lt t turn then 0 else n) ≡ 0
early_part t turn n lt = let e : nat_lt t turn ≡ true = lt-ltb t turn lt in rw e refl

accounted_early : (t : ℕ) (o : Option ℕ) (turns : ℕ) → ((turn : ℕ) → o ≡ Some turn → t < turn) → accounted_by t o turns ≡ 0
accounted_early t None turns later = refl
accounted_early t (Some turn) turns later = early_part t turn turns (later turn refl)

either_zero : (b : Bool) (n : ℕ) → n ≡ 0 → (if b then n else 0) ≡ 0
either_zero true n h = h
either_zero false n h = refl

share_early : (d t before : ℕ) (s : ScriptStep) (r : Reply) (after : ℕ) → TakesTurns before s r after → t < before → share d t s r ≡ 0
share_early d t before s r after takes lt =
    either_zero (document_of s == d) (accounted_by t (turn_told r) (turns_of r))
    (accounted_early t (turn_told r) (turns_of r) (λ turn h. let known : Told before r after turn = told before s r after turn takes h in let x = known.new in omega (arith, x, lt)))

share_elsewhere : (d t : ℕ) (s : ScriptStep) (r : Reply) → (d ≡ document_of s → ⊥) → share d t s r ≡ 0
share_elsewhere d t s r other = by (eqb_tells (document_of s) d)
  where
    by : ((nat_eq (document_of s) d ≡ true) × (document_of s ≡ d)) ⊎ ((nat_eq (document_of s) d ≡ false) × (document_of s ≡ d → ⊥)) → share d t s r ≡ 0
    by (inl w) = absurd (other (sym w.1))
    by (inr w) = rw w.0 refl

-- ---- entries

-- where a reply publishes, the entry has a turn that was not over
right_grows : {Finds : Bytes → List ℕ → List ShownResult → Type 0} (client number : ℕ) (entries after : List JournalEntry) (r : Reply) → GrowsBy client number entries r after
    → (low : ℕ) → ((turn : ℕ) → turn_told r ≡ Some turn → low ≤ turn)
    → (plan : Plan) (g : FlatGrammar) (opening : Bytes) (before : ℕ) (last : Option ℕ) → before ≤ length entries
    → (t : ScriptStep) (x : Reply) → ((turn : ℕ) → turn_told x ≡ Some turn → turn < low)
    → IsRight Finds plan g opening entries before last t x → IsRight Finds plan g opening after before last t x
right_grows client number entries _ _ (stays r none) low new plan g opening before last there t x below right = right
right_grows client number entries _ _ (grows turn) low new plan g opening before last there t x below right =
    still_right plan g opening entries (record { turn = turn; client = client; step = number }) before last there t x
    (λ u h. let a = new turn refl in let b = below u h in omega (arith, a, b)) right

length_push : (entries : List JournalEntry) (e : JournalEntry) → length (entries ++ e ∷ []) ≡ suc (length entries)
length_push [] e = refl
length_push (x ∷ entries) e = ap (λ (n : ℕ). suc n) (length_push entries e)

pub grows_longer : (client number : ℕ) (entries after : List JournalEntry) (r : Reply) → GrowsBy client number entries r after → length entries ≤ length after
grows_longer client number entries _ _ (stays r none) = omega arith
grows_longer client number entries _ _ (grows turn) =
    let e : length (entries ++ record { turn = turn; client = client; step = number } ∷ []) ≡ suc (length entries) = length_push entries (record { turn = turn; client = client; step = number }) in omega (arith, e)

-- the entry of a reply
pub record IsEntryOf (client number : ℕ) (entries : List JournalEntry) (r : Reply) (place : ℕ) (e : JournalEntry) : Type 0 where
  pub last : place ≡ length entries
  pub by : e.client ≡ client
  pub at : e.step ≡ number
  pub publishes : r ≡ reply.Published e.turn (suc place)

-- each entry was there or is that of the reply
grown_cases : (client number : ℕ) (entries after : List JournalEntry) (r : Reply) → GrowsBy client number entries r after
    → (place : ℕ) (e : JournalEntry) → slice_get after place ≡ Some e
    → (slice_get entries place ≡ Some e) ⊎ IsEntryOf client number entries r place e
grown_cases client number entries _ _ (stays r none) place e h = inl h
grown_cases client number entries _ _ (grows turn) place e h = by (push_cases entries (record { turn = turn; client = client; step = number }) place e h)
  where
    by : ((place < length entries) × (slice_get entries place ≡ Some e)) ⊎ ((place ≡ length entries) × (record { turn = turn; client = client; step = number } ≡ e))
        → (slice_get entries place ≡ Some e) ⊎ IsEntryOf client number entries (reply.Published turn (suc (length entries))) place e
    by (inl w) = inl w.1
    by (inr w) = inr (record {
      last = w.0;
      by = sym (ap (λ (x : JournalEntry). x.client) w.1);
      at = sym (ap (λ (x : JournalEntry). x.step) w.1);
      publishes = ap (λ (n : ℕ). reply.Published turn (suc n)) (sym w.0) ∙ ap (λ (x : JournalEntry). reply.Published x.turn (suc place)) w.1;
    })

grown_old : (client number : ℕ) (entries after : List JournalEntry) (r : Reply) → GrowsBy client number entries r after
    → (place : ℕ) (e : JournalEntry) → slice_get entries place ≡ Some e → slice_get after place ≡ Some e
grown_old client number entries _ _ (stays r none) place e h = h
grown_old client number entries _ _ (grows turn) place e h =
    in_prefix entries (record { turn = turn; client = client; step = number } ∷ []) place (slice_get_within entries place e h) ∙ h

same_published : (t v u w : ℕ) → reply.Published t v ≡ reply.Published u w → (t ≡ u) × (v ≡ w)
same_published t v u w h = (let e : Some t ≡ Some u = ap turn_told h in cc, ap version_of h)

-- where the reply publishes, its entry is there
grown_new : (client number : ℕ) (entries after : List JournalEntry) (r : Reply) → GrowsBy client number entries r after
    → (place : ℕ) (e : JournalEntry) → e.client ≡ client → e.step ≡ number → r ≡ reply.Published e.turn (suc place)
    → slice_get after place ≡ Some e
grown_new client number entries _ _ (stays r none) place e by at is = absurd (subst PublishesNothing is none)
grown_new client number entries _ _ (grows turn) place e by at is =
    let same = same_published turn (suc (length entries)) e.turn (suc place) is in
    let t : turn ≡ e.turn = same.0 in
    let p : length entries ≡ place = (let x = same.1 in omega (arith, x)) in
    subst (λ (n : ℕ). slice_get (entries ++ record { turn = turn; client = client; step = number } ∷ []) n ≡ Some (record { turn = turn; client = client; step = number })) p (at_end entries (record { turn = turn; client = client; step = number }))
    ∙ ap Some (made turn e.turn client e.client number e.step t (sym by) (sym at))
  where
    made : (a b c d m n : ℕ) → a ≡ b → c ≡ d → m ≡ n → ◌≡◌ {A = JournalEntry} (record { turn = a; client = c; step = m }) (record { turn = b; client = d; step = n })
    made a b c d m n x y z = cc

-- ---- versions that are held

held_chosen : (b : Bool) (v w limit : ℕ) → (b ≡ true → v ≤ limit) → w ≤ limit → (if b then v else w) ≤ limit
held_chosen true v w limit there here = there refl
held_chosen false v w limit there here = here

held_next : (d m : ℕ) (steps : List ScriptStep) (own : List Reply) (s : ScriptStep) (r : Reply) (limit : ℕ)
    → slice_get steps (length own) ≡ Some s → ((i : ℕ) → held_after d 0 (take i (paired steps own)) ≤ limit)
    → (document_of s ≡ d → version_of r ≤ limit) → held_after d 0 (take m (paired steps (own ++ r ∷ []))) ≤ limit
held_next d m steps own s r limit is before now =
    subst (λ (ps : List (ScriptStep × Reply)). held_after d 0 (take m ps) ≤ limit) (sym (paired_push steps own s r is))
    (⊎_elim
    (λ e. subst (λ (ps : List (ScriptStep × Reply)). held_after d 0 ps ≤ limit) (sym e) (before m))
    (λ e. subst (λ (ps : List (ScriptStep × Reply)). held_after d 0 ps ≤ limit) (sym e) last)
    (take_push (paired steps own) (s, r) m))
  where
    all : held_after d 0 (paired steps own) ≤ limit
    all = subst (λ (ps : List (ScriptStep × Reply)). held_after d 0 ps ≤ limit) (take_all (length own) (paired steps own) (length_paired steps own)) (before (length own))

    last : held_after d 0 (paired steps own ++ (s, r) ∷ []) ≤ limit
    last = subst (λ (n : ℕ). n ≤ limit) (sym (held_push d 0 (paired steps own) (s, r)))
        (held_chosen (document_of s == d) (version_of r) (held_after d 0 (paired steps own)) limit (λ e. now (eqb-true (document_of s) d e)) all)

-- ---- one more reply

-- it is the new reply
record IsNew (c : ℕ) (own : List Reply) (s : ScriptStep) (r : Reply) (k m : ℕ) (t : ScriptStep) (x : Reply) : Type 0 where
  pub client : k ≡ c
  pub number : m ≡ length own
  pub step : t ≡ s
  pub answer : x ≡ r

-- the turn is that of the new reply
record IsNewTurn (c : ℕ) (own : List Reply) (s : ScriptStep) (r : Reply) (d k m turn : ℕ) : Type 0 where
  pub client : k ≡ c
  pub number : m ≡ length own
  pub on : document_of s ≡ d
  pub told : turn_told r ≡ Some turn

module _ {Finds : Bytes → List ℕ → List ShownResult → Type 0} (h : History) (over now : ℕ → ℕ) (c : ℕ) (own : List Reply) (s : ScriptStep) (r : Reply)
    (journals : List (List JournalEntry)) (next : IsOneMoreReply Finds h over now c own s r journals) where
  asked : asked_at h.plan c (length own) ≡ Some s
  asked = ap (λ (o : Option (List ScriptStep)). option_and_then (λ (steps : List ScriptStep). slice_get steps (length own)) o) next.steps_are ∙ next.step_is

  same_step : (t : ScriptStep) (k m : ℕ) → k ≡ c → m ≡ length own → asked_at h.plan k m ≡ Some t → t ≡ s
  same_step t k m e f is =
      let x : Some t ≡ Some s = sym is ∙ ap (λ (i : ℕ). asked_at h.plan i m) e ∙ ap (asked_at h.plan c) f ∙ asked in cc

  answered_cases : (k m : ℕ) (t : ScriptStep) (x : Reply) → IsAnswered (next_history h c own r journals) k m t x
      → IsAnswered h k m t x ⊎ IsNew c own s r k m t x
  answered_cases k m t x a = ⊎_elim
      (λ old. inl (record { step_is = a.step_is; reply_is = old }))
      (λ w. inr (record { client = w.0; number = w.1; step = same_step t k m w.0 w.1 a.step_is; answer = sym w.2 }))
      (reply_cases h.replies c own r next.own_are k m x a.reply_is)

  answered_old : (k m : ℕ) (t : ScriptStep) (x : Reply) → IsAnswered h k m t x → IsAnswered (next_history h c own r journals) k m t x
  answered_old k m t x a = record { step_is = a.step_is; reply_is = old_stands h.replies c own r next.own_are k m x a.reply_is }

  answered_new : IsAnswered (next_history h c own r journals) c (length own) s r
  answered_new = record { step_is = asked; reply_is = new_stands h.replies c own r next.own_are }

  tells_cases : (d k m turn : ℕ) → TellsTurn (next_history h c own r journals) d k m turn
      → TellsTurn h d k m turn ⊎ IsNewTurn c own s r d k m turn
  tells_cases d k m turn a = ⊎_elim
      (λ old. inl (record { step = a.step; answer = a.answer; answered = old; on = a.on; told = a.told }))
      (λ new. inr (record {
        client = new.client;
        number = new.number;
        on = sym (ap document_of new.step) ∙ a.on;
        told = sym (ap turn_told new.answer) ∙ a.told;
      }))
      (answered_cases k m a.step a.answer a.answered)

  new_turn : (turn : ℕ) → turn_told r ≡ Some turn → Told (over (document_of s)) r (now (document_of s)) turn
  new_turn turn is = told (over (document_of s)) s r (now (document_of s)) turn next.takes is

  not_back : (d : ℕ) → over d ≤ now d
  not_back d = ⊎_elim
      (λ e. subst (λ (i : ℕ). over i ≤ now i) (sym e) (never_back (over (document_of s)) s r (now (document_of s)) next.takes))
      (λ other. let e : now d ≡ over d = next.rest d other in omega (arith, e))
      (cases_eq d (document_of s))

  -- ---- entries

  entries_cases : (d : ℕ) (entries : List JournalEntry) → slice_get journals d ≡ Some entries
      → ((d ≡ document_of s) × (next.after ≡ entries)) ⊎ (slice_get h.journals d ≡ Some entries)
  entries_cases d entries is = ⊎_elim
      (λ e. inl (e, (let x : Some next.after ≡ Some entries = sym next.after_are ∙ sym (ap (slice_get journals) e) ∙ is in cc)))
      (λ other. inr (sym (next.others d other) ∙ is))
      (cases_eq d (document_of s))

  -- the journal that a document had
  had_entries : (d : ℕ) (entries : List JournalEntry) → slice_get journals d ≡ Some entries
      → (old : List JournalEntry) × (slice_get h.journals d ≡ Some old) × (length old ≤ length entries)
  had_entries d entries is = ⊎_elim
      (λ w. (
        next.entries,
        ap (slice_get h.journals) w.0 ∙ next.entries_are,
        subst (λ (l : List JournalEntry). length next.entries ≤ length l) w.1 (grows_longer c (length own) next.entries next.after r next.grows),
      ))
      (λ old. (entries, old, omega arith))
      (entries_cases d entries is)

  entry_cases : (d place : ℕ) (e : JournalEntry) → IsEntryAt (next_history h c own r journals) d place e
      → IsEntryAt h d place e ⊎ ((d ≡ document_of s) × IsEntryOf c (length own) next.entries r place e)
  entry_cases d place e a = ⊎_elim
      (λ w. ⊎_elim
      (λ old. inl (record { entries = next.entries; entries_are = ap (slice_get h.journals) w.0 ∙ next.entries_are; stands = old }))
      (λ new. inr (w.0, new))
      (grown_cases c (length own) next.entries next.after r next.grows place e (ap (λ (l : List JournalEntry). slice_get l place) w.1 ∙ a.stands)))
      (λ old. inl (record { entries = a.entries; entries_are = old; stands = a.stands }))
      (entries_cases d a.entries a.entries_are)

  entry_old : (d place : ℕ) (e : JournalEntry) → IsEntryAt h d place e → IsEntryAt (next_history h c own r journals) d place e
  entry_old d place e a = ⊎_elim here there (cases_eq d (document_of s))
    where
      here : d ≡ document_of s → IsEntryAt (next_history h c own r journals) d place e
      here is =
          let same : a.entries ≡ next.entries = (let x : Some a.entries ≡ Some next.entries = sym a.entries_are ∙ ap (slice_get h.journals) is ∙ next.entries_are in cc) in
          record {
            entries = next.after;
            entries_are = ap (slice_get journals) is ∙ next.after_are;
            stands = grown_old c (length own) next.entries next.after r next.grows place e (ap (λ (l : List JournalEntry). slice_get l place) (sym same) ∙ a.stands);
          }

      there : (d ≡ document_of s → ⊥) → IsEntryAt (next_history h c own r journals) d place e
      there other = record { entries = a.entries; entries_are = next.others d other ∙ a.entries_are; stands = a.stands }

  published_old : (d : ℕ) (e : JournalEntry) (version : ℕ) → IsPublishedAs h d e version → IsPublishedAs (next_history h c own r journals) d e version
  published_old d e version p = record { step = p.step; answered = answered_old e.client e.step p.step (reply.Published e.turn version) p.answered; on = p.on }

  -- ---- what was told before

  few_before : (k m : ℕ) (t : ScriptStep) (x : Reply) → IsAnswered h k m t x → m ≤ length (unwrap_or (slice_get h.replies k) [])
  few_before k m t x a =
      let w = stands h.replies k m x a.reply_is in
      let lt : m < length w.0 = slice_get_within w.0 m x w.2 in
      subst (λ (o : Option (List Reply)). m ≤ length (unwrap_or o [])) (sym w.1) (omega (arith, lt))

  own_before : length own ≤ length (unwrap_or (slice_get h.replies c) [])
  own_before = subst (λ (o : Option (List Reply)). length own ≤ length (unwrap_or o [])) (sym next.own_are) (omega arith)

  held_same : (k m d : ℕ) → m ≤ length (unwrap_or (slice_get h.replies k) []) → held_before h k m d ≡ held_before (next_history h c own r journals) k m d
  held_same k m d le = ap (held_after d 0) (sym (earlier_same h.replies c k m own r (unwrap_or (slice_get h.plan.clients k) []) next.own_are le))

  last_same : (k m d : ℕ) → m ≤ length (unwrap_or (slice_get h.replies k) []) → last_told h k m d ≡ last_told (next_history h c own r journals) k m d
  last_same k m d le = ap (last_turn d None) (sym (earlier_same h.replies c k m own r (unwrap_or (slice_get h.plan.clients k) []) next.own_are le))

  moved : (k m : ℕ) (opening : Bytes) (entries : List JournalEntry) (t : ScriptStep) (x : Reply) → m ≤ length (unwrap_or (slice_get h.replies k) [])
      → IsRight Finds h.plan h.grammar opening entries (held_before h k m (document_of t)) (last_told h k m (document_of t)) t x
      → IsRight Finds h.plan h.grammar opening entries (held_before (next_history h c own r journals) k m (document_of t)) (last_told (next_history h c own r journals) k m (document_of t)) t x
  moved k m opening entries t x le right =
      subst (λ (o : Option ℕ). IsRight Finds h.plan h.grammar opening entries (held_before (next_history h c own r journals) k m (document_of t)) o t x) (last_same k m (document_of t) le)
      (subst (λ (b : ℕ). IsRight Finds h.plan h.grammar opening entries b (last_told h k m (document_of t)) t x) (held_same k m (document_of t) le) right)

  module _ (so_far : SoFar Finds h over) where
    told_before : (d k m turn : ℕ) → TellsTurn h d k m turn → turn < over d
    told_before d k m turn a = so_far.below d k m turn a

    -- ---- the reply is right

    right_old : (k m : ℕ) (t : ScriptStep) (x : Reply) → IsAnswered h k m t x → IsRightAt Finds (next_history h c own r journals) k m t x
    right_old k m t x a = ⊎_elim here there (cases_eq (document_of t) (document_of s))
      where
        old : IsRightAt Finds h k m t x
        old = so_far.lawful.right k m t x a

        here : document_of t ≡ document_of s → IsRightAt Finds (next_history h c own r journals) k m t x
        here e =
            let was = so_far.lawful.right k m t x a in
            let same : was.entries ≡ next.entries = (let y : Some was.entries ≡ Some next.entries = sym was.entries_are ∙ ap (slice_get h.journals) e ∙ next.entries_are in cc) in
            let there : held_before h k m (document_of t) ≤ length next.entries = so_far.there (document_of t) k m next.entries (ap (slice_get h.journals) e ∙ next.entries_are) in
            let right = subst (λ (l : List JournalEntry). IsRight Finds h.plan h.grammar was.opening l (held_before h k m (document_of t)) (last_told h k m (document_of t)) t x) same was.right in
            record {
              opening = was.opening;
              opening_is = was.opening_is;
              entries = next.after;
              entries_are = ap (slice_get journals) e ∙ next.after_are;
              right = moved k m was.opening next.after t x (few_before k m t x a)
                  (right_grows c (length own) next.entries next.after r next.grows (over (document_of s)) (λ turn is. (new_turn turn is).new)
                  h.plan h.grammar was.opening (held_before h k m (document_of t)) (last_told h k m (document_of t)) there t x
                  (λ turn is. subst (λ (d : ℕ). turn < over d) e (told_before (document_of t) k m turn (record { step = t; answer = x; answered = a; on = refl; told = is }))) right);
            }

        there : (document_of t ≡ document_of s → ⊥) → IsRightAt Finds (next_history h c own r journals) k m t x
        there other =
            let was = so_far.lawful.right k m t x a in
            record {
              opening = was.opening;
              opening_is = was.opening_is;
              entries = was.entries;
              entries_are = next.others (document_of t) other ∙ was.entries_are;
              right = moved k m was.opening was.entries t x (few_before k m t x a) was.right;
            }

    right_new : IsRightAt Finds (next_history h c own r journals) c (length own) s r
    right_new = record {
      opening = next.opening;
      opening_is = next.opening_is;
      entries = next.after;
      entries_are = next.after_are;
      right = moved c (length own) next.opening next.after s r own_before next.right;
    }

    right_now : (k m : ℕ) (t : ScriptStep) (x : Reply) → IsAnswered (next_history h c own r journals) k m t x → IsRightAt Finds (next_history h c own r journals) k m t x
    right_now k m t x a = ⊎_elim (right_old k m t x) new (answered_cases k m t x a)
      where
        new : IsNew c own s r k m t x → IsRightAt Finds (next_history h c own r journals) k m t x
        new w = subst (λ (i : ℕ). IsRightAt Finds (next_history h c own r journals) i m t x) (sym w.client)
            (subst (λ (i : ℕ). IsRightAt Finds (next_history h c own r journals) c i t x) (sym w.number)
            (subst (λ (y : ScriptStep). IsRightAt Finds (next_history h c own r journals) c (length own) y x) (sym w.step)
            (subst (λ (y : Reply). IsRightAt Finds (next_history h c own r journals) c (length own) s y) (sym w.answer) right_new)))

    -- ---- turns

    over_before : (d turn : ℕ) → turn < over d → turn < now d
    over_before d turn lt = let le : over d ≤ now d = not_back d in omega (arith, le, lt)

    below_now : (d k m turn : ℕ) → TellsTurn (next_history h c own r journals) d k m turn → turn < now d
    below_now d k m turn a = ⊎_elim
        (λ old. over_before d turn (told_before d k m turn old))
        (λ new. subst (λ (i : ℕ). turn < now i) new.on (let e : now (document_of s) ≡ suc turn = (new_turn turn new.told).next in omega (arith, e)))
        (tells_cases d k m turn a)

    few_now : (d k m turn : ℕ) → TellsTurn (next_history h c own r journals) d k m turn → turn < most_turns
    few_now d k m turn a = ⊎_elim
        (λ old. so_far.lawful.few d k m turn old)
        (λ new. let e : now (document_of s) ≡ suc turn = (new_turn turn new.told).next in let few = next.few in omega (arith, e, few))
        (tells_cases d k m turn a)

    -- the turn of the new reply is above the old ones
    above : (d k m turn i j t : ℕ) → TellsTurn h d k m turn → IsNewTurn c own s r d i j t → turn < t
    above d k m turn i j t old new =
        let a : turn < over (document_of s) = subst (λ (x : ℕ). turn < over x) (sym new.on) (told_before d k m turn old) in
        let b : over (document_of s) ≤ t = (new_turn t new.told).new in
        omega (arith, a, b)

    apart_now : (d turn k m i j : ℕ) → TellsTurn (next_history h c own r journals) d k m turn → TellsTurn (next_history h c own r journals) d i j turn → (k ≡ i) × (m ≡ j)
    apart_now d turn k m i j a b = ⊎_elim
        (λ old. ⊎_elim
        (λ other. so_far.lawful.apart d turn k m i j old other)
        (λ new. absurd (let f : turn < turn = above d k m turn i j turn old new in omega (arith, f)))
        (tells_cases d i j turn b))
        (λ new. ⊎_elim
        (λ old. absurd (let f : turn < turn = above d i j turn k m turn old new in omega (arith, f)))
        (λ other. (new.client ∙ sym other.client, new.number ∙ sym other.number))
        (tells_cases d i j turn b))
        (tells_cases d k m turn a)

    number_short : (d m turn : ℕ) → TellsTurn h d c m turn → m < length own
    number_short d m turn a =
        let w = stands h.replies c m a.answer a.answered.reply_is in
        let same : w.0 ≡ own = (let y : Some w.0 ≡ Some own = sym w.1 ∙ next.own_are in cc) in
        subst (λ (l : List Reply). m < length l) same (slice_get_within w.0 m a.answer w.2)

    rise_now : (d k m turn n t : ℕ) → TellsTurn (next_history h c own r journals) d k m turn → TellsTurn (next_history h c own r journals) d k n t → m < n → turn < t
    rise_now d k m turn n t a b lt = ⊎_elim
        (λ old. ⊎_elim
        (λ other. so_far.lawful.rise d k m turn n t old other lt)
        (λ new. above d k m turn k n t old new)
        (tells_cases d k n t b))
        (λ new. ⊎_elim
        (λ old. absurd (let f : n < length own = number_short d n t (subst (λ (i : ℕ). TellsTurn h d i n t) new.client old) in let e = new.number in omega (arith, f, e, lt)))
        (λ other. absurd (let e = new.number in let f = other.number in omega (arith, e, f, lt)))
        (tells_cases d k n t b))
        (tells_cases d k m turn a)

    spent_now : (d turn : ℕ) → accounted_all d turn (all_paired h.plan.clients (with_own_reply c own r h.replies)) ≤ now d
    spent_now d turn =
        let e : accounted_all d turn (all_paired h.plan.clients (with_own_reply c own r h.replies)) ≡ accounted_all d turn (all_paired h.plan.clients h.replies) + share d turn s r
        = accounted_next d turn h.plan.clients h.replies c next.steps own s r next.steps_are next.own_are next.step_is in
        let before : accounted_all d turn (all_paired h.plan.clients h.replies) ≤ over d = so_far.spent d turn in
        ⊎_elim
        (λ here. subst (λ (i : ℕ). accounted_all i turn (all_paired h.plan.clients (with_own_reply c own r h.replies)) ≤ now i) (sym here)
        (let f : accounted_all (document_of s) turn (all_paired h.plan.clients (with_own_reply c own r h.replies)) ≡ accounted_all (document_of s) turn (all_paired h.plan.clients h.replies) + share (document_of s) turn s r
        = accounted_next (document_of s) turn h.plan.clients h.replies c next.steps own s r next.steps_are next.own_are next.step_is in
        let old : accounted_all (document_of s) turn (all_paired h.plan.clients h.replies) ≤ over (document_of s) = so_far.spent (document_of s) turn in
        let within : over (document_of s) + share (document_of s) turn s r ≤ now (document_of s) = share_within (document_of s) turn (over (document_of s)) s r (now (document_of s)) next.takes in
        omega (arith, f, old, within)))
        (λ other. let none : share d turn s r ≡ 0 = share_elsewhere d turn s r other in let le : over d ≤ now d = not_back d in omega (arith, e, before, none, le))
        (cases_eq d (document_of s))

    accounted_now : (d k m turn : ℕ) → TellsTurn (next_history h c own r journals) d k m turn
        → accounted_all d turn (all_paired h.plan.clients (with_own_reply c own r h.replies)) ≤ suc turn
    accounted_now d k m turn a = ⊎_elim
        (λ old.
        let e : accounted_all d turn (all_paired h.plan.clients (with_own_reply c own r h.replies)) ≡ accounted_all d turn (all_paired h.plan.clients h.replies) + share d turn s r
        = accounted_next d turn h.plan.clients h.replies c next.steps own s r next.steps_are next.own_are next.step_is in
        let before : accounted_all d turn (all_paired h.plan.clients h.replies) ≤ suc turn = so_far.lawful.accounted d k m turn old in
        let none : share d turn s r ≡ 0 = ⊎_elim
        (λ here. share_early d turn (over (document_of s)) s r (now (document_of s)) next.takes (subst (λ (i : ℕ). turn < over i) here (told_before d k m turn old)))
        (λ other. share_elsewhere d turn s r other)
        (cases_eq d (document_of s)) in
        omega (arith, e, before, none))
        (λ new.
        let all : accounted_all d turn (all_paired h.plan.clients (with_own_reply c own r h.replies)) ≤ now d = spent_now d turn in
        let e : now (document_of s) ≡ suc turn = (new_turn turn new.told).next in
        let f : now d ≡ suc turn = sym (ap now new.on) ∙ e in
        omega (arith, all, f))
        (tells_cases d k m turn a)

    -- ---- entries

    entered_now : (d place : ℕ) (e : JournalEntry) → IsEntryAt (next_history h c own r journals) d place e → IsPublishedAs (next_history h c own r journals) d e (suc place)
    entered_now d place e a = ⊎_elim
        (λ old. published_old d e (suc place) ((so_far.lawful.entered d place e).0 old))
        (λ w. let new = w.1 in record {
          step = s;
          answered = subst (λ (i : ℕ). IsAnswered (next_history h c own r journals) i e.step s (reply.Published e.turn (suc place))) (sym new.by)
              (subst (λ (i : ℕ). IsAnswered (next_history h c own r journals) c i s (reply.Published e.turn (suc place))) (sym new.at)
              (subst (λ (x : Reply). IsAnswered (next_history h c own r journals) c (length own) s x) new.publishes answered_new));
          on = sym w.0;
        })
        (entry_cases d place e a)

    published_now : (d place : ℕ) (e : JournalEntry) → IsPublishedAs (next_history h c own r journals) d e (suc place) → IsEntryAt (next_history h c own r journals) d place e
    published_now d place e p = ⊎_elim
        (λ old. entry_old d place e ((so_far.lawful.entered d place e).1 (record { step = p.step; answered = old; on = p.on })))
        (λ new.
        let here : document_of s ≡ d = sym (ap document_of new.step) ∙ p.on in
        record {
          entries = next.after;
          entries_are = ap (slice_get journals) (sym here) ∙ next.after_are;
          stands = grown_new c (length own) next.entries next.after r next.grows place e new.client new.number (sym new.answer);
        })
        (answered_cases e.client e.step p.step (reply.Published e.turn (suc place)) p.answered)

    entry_told : (d place : ℕ) (e : JournalEntry) → IsEntryAt h d place e → e.turn < over d
    entry_told d place e a =
        let p = (so_far.lawful.entered d place e).0 a in
        told_before d e.client e.step e.turn (record { step = p.step; answer = reply.Published e.turn (suc place); answered = p.answered; on = p.on; told = refl })

    rising_now : (d place : ℕ) (e f : JournalEntry) → IsEntryAt (next_history h c own r journals) d place e → IsEntryAt (next_history h c own r journals) d (suc place) f → e.turn < f.turn
    rising_now d place e f a b = ⊎_elim
        (λ old. ⊎_elim
        (λ other. so_far.lawful.rising d place e f old other)
        (λ w. let new = w.1 in
        let x : e.turn < over (document_of s) = subst (λ (i : ℕ). e.turn < over i) w.0 (entry_told d place e old) in
        let y : over (document_of s) ≤ f.turn = (new_turn f.turn (ap turn_told new.publishes)).new in
        omega (arith, x, y))
        (entry_cases d (suc place) f b))
        (λ w. ⊎_elim
        (λ other. absurd (late d place f w.0 w.1.last other))
        (λ v. absurd (let x = w.1.last in let y = v.1.last in omega (arith, x, y)))
        (entry_cases d (suc place) f b))
        (entry_cases d place e a)
      where
        late : (d place : ℕ) (f : JournalEntry) → d ≡ document_of s → place ≡ length next.entries → IsEntryAt h d (suc place) f → ⊥
        late d place f e last other =
            let same : other.entries ≡ next.entries = (let y : Some other.entries ≡ Some next.entries = sym other.entries_are ∙ ap (slice_get h.journals) e ∙ next.entries_are in cc) in
            let lt : suc place < length next.entries = subst (λ (l : List JournalEntry). suc place < length l) same (slice_get_within other.entries (suc place) f other.stands) in
            omega (arith, lt, last)

    -- ---- versions that are held

    there_now : (d k m : ℕ) (entries : List JournalEntry) → slice_get journals d ≡ Some entries → held_before (next_history h c own r journals) k m d ≤ length entries
    there_now d k m entries is = ⊎_elim here there (cases_eq k c)
      where
        was_there : (i : ℕ) → held_before h k i d ≤ length entries
        was_there i = let had = had_entries d entries is in
            let x : held_before h k i d ≤ length had.0 = so_far.there d k i had.0 had.1 in
            let y = had.2 in omega (arith, x, y)

        there : (k ≡ c → ⊥) → held_before (next_history h c own r journals) k m d ≤ length entries
        there other = subst (λ (o : Option (List Reply)). held_after d 0 (take m (paired (unwrap_or (slice_get h.plan.clients k) []) (unwrap_or o []))) ≤ length entries)
            (sym (others_after h.replies c own r next.own_are k other)) (was_there m)

        here : k ≡ c → held_before (next_history h c own r journals) k m d ≤ length entries
        here e =
            let client_steps : unwrap_or (slice_get h.plan.clients k) [] ≡ next.steps = ap (λ (o : Option (List ScriptStep)). unwrap_or o []) (ap (slice_get h.plan.clients) e ∙ next.steps_are) in
            let old_of : unwrap_or (slice_get h.replies k) [] ≡ own = ap (λ (o : Option (List Reply)). unwrap_or o []) (ap (slice_get h.replies) e ∙ next.own_are) in
            let new_of : unwrap_or (slice_get (with_own_reply c own r h.replies) k) [] ≡ own ++ r ∷ [] = ap (λ (o : Option (List Reply)). unwrap_or o []) (ap (slice_get (with_own_reply c own r h.replies)) e ∙ own_after h.replies c own r next.own_are) in
            subst (λ (rs : List Reply). held_after d 0 (take m (paired (unwrap_or (slice_get h.plan.clients k) []) rs)) ≤ length entries) (sym new_of)
            (subst (λ (ss : List ScriptStep). held_after d 0 (take m (paired ss (own ++ r ∷ []))) ≤ length entries) (sym client_steps)
            (held_next d m next.steps own s r (length entries) next.step_is
            (λ i. subst (λ (rs : List Reply). held_after d 0 (take i (paired next.steps rs)) ≤ length entries) old_of
            (subst (λ (ss : List ScriptStep). held_after d 0 (take i (paired ss (unwrap_or (slice_get h.replies k) []))) ≤ length entries) client_steps (was_there i)))
            (λ on. let same : next.after ≡ entries = (let y : Some next.after ≡ Some entries = sym next.after_are ∙ ap (slice_get journals) on ∙ is in cc) in
            subst (λ (l : List JournalEntry). version_of r ≤ length l) same next.held_there)))

    -- a run so far, with its next reply
    pub next_so_far : SoFar Finds (next_history h c own r journals) now
    next_so_far = record {
      lawful = record {
        right = right_now;
        few = few_now;
        apart = apart_now;
        rise = rise_now;
        entered = λ d place e. (entered_now d place e, published_now d place e);
        rising = rising_now;
        accounted = accounted_now;
      };
      below = below_now;
      spent = spent_now;
      there = there_now;
    }
