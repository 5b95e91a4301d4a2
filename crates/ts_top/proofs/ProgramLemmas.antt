-- What scripts come to, and what is known of an answer.
use Rattle.std.proofs.Common.{◌≡◌, ◌∙◌, sym, ap, subst, refl, ℕ, ◌<◌, ◌≤◌, ◌⊎◌, inl, inr, List, [], ◌∷◌, slice_get, Option, Some, None, Result, Ok, Err, arith}
use Rattle.std.specs.Borrow.{Bor}
use Rattle.std.specs.Prelude.{MatchOption}
use Rattle.std.specs.Result.{IfOk, IfErr}
use Rattle.ts_base.specs.Bytes.{Bytes}
use Rattle.spec_output.specs.Faults.{absent_line, usage_line}
use Rattle.spec_output.specs.Status.{number_of}
use Rattle.spec_output.specs.declared.status.Status.{Status}
use Rattle.spec_output.specs.declared.status.Status.TheVariants as status
use Rattle.ts_io.specs.Outside.{Files, Appends, AppendsPrefix}
use Rattle.ts_session.specs.declared.answer.Answer.{Answer}
use Rattle.ts_session.specs.declared.opened.Opened.{Opened}
use Rattle.ts_session.specs.declared.opened.Opened.TheVariants.{Ready}
use Rattle.ts_session.specs.declared.session.Session.{Session}
use Rattle.ts_session.specs.Opened.{OpensAs}
use Rattle.ts_session.specs.Refusals.{Refuses}
use Rattle.ts_session.specs.Replays.{IsJudged, refused, printed}
use Rattle.ts_session.specs.Sessions.{IsLoaded, IsRefusal, of_files, of_patterns}
use Rattle.ts_top.specs.Answer.{IsUsage, AsksReplay, AsksRun, Schedule, in_order, at_once, AsksSession, PlainAnswers, SessionAnswers, Answers, usage, plain, played, ComesTo, answered, unbuilt, Told, Writes, WritesPrefix, IsClean, IsCompilable, CanPlay}
use Rattle.ts_top.specs.Status.{IsUnbuilt}
use Rattle.ts_top.specs.Stops.{IsPlain, IsAnswer, misused, other, IsPlayed, Prints, Stopped}
use Rattle.ts_top.specs.declared.stop.Stop.{Stop}
use Rattle.ts_top.specs.declared.stop.Stop.TheVariants.{Usage, Absent, Read, Memory}
use Rattle.ts_top.proofs.AnswerLemmas.{parse_or_play, compile_or_play}

-- words that ask for no replay and for no run ask for no session
pub no_session : (words : List Bytes) → ((grammar script : Bytes) (order : List ℕ) → AsksReplay words grammar script order → ⊥) → ((grammar script : Bytes) → AsksRun words grammar script → ⊥)
    → (grammar script : Bytes) (schedule : Schedule) → AsksSession words grammar script schedule → ⊥
no_session words no_replay no_run grammar script (in_order order) asks = no_replay grammar script order asks
no_session words no_replay no_run grammar script at_once asks = no_run grammar script asks

-- what the words ask for, where they do not ask for a run
pub asked_ok : {A E : Type 0} (r : Result (Option A) E) (words : List Bytes) (P : A → Type 0) → ((grammar script : Bytes) → AsksRun words grammar script → ⊥)
    → IfOk r (λ found. MatchOption found ((grammar script : Bytes) (order : List ℕ) → AsksReplay words grammar script order → ⊥) P)
    → IfOk r (λ found. MatchOption found ((grammar script : Bytes) (schedule : Schedule) → AsksSession words grammar script schedule → ⊥) P)
asked_ok (Ok (Some a)) words P no_run h = h
asked_ok (Ok None) words P no_run h = no_session words h no_run
asked_ok (Err e) words P no_run h = tt

-- the run stops: memory ran out, or a read failed
pub play_stopped : (r : Result Answer Stop) (files : Option Files) (words : List Bytes) (g s : Bytes) (schedule : Schedule) (rose : Type 0) → AsksSession words g s schedule
    → IfErr r (λ stop. (stop ≡ Memory) ⊎ ((stop ≡ Read) × rose)) → IfErr r (Stopped files words rose)
play_stopped (Ok a) files words g s schedule rose asks h = tt
play_stopped (Err stop) files words g s schedule rose asks (inl memory) = subst (Stopped files words rose) (sym memory) tt
play_stopped (Err stop) files words g s schedule rose asks (inr read) = subst (Stopped files words rose) (sym read.0) (read.1, (λ u. u.no_session g s schedule asks))

-- a status that the files decide is done, or one from that of a grammar on
judged_number : (ends : Status) → IsJudged ends → (number_of ends ≡ 0) ⊎ (5 ≤ number_of ends)
judged_number ends (inl is) = inl (ap number_of is)
judged_number ends (inr (inl is)) = let n : number_of ends ≡ 5 = ap number_of is in inr (omega (arith, n))
judged_number ends (inr (inr (inl is))) = let n : number_of ends ≡ 6 = ap number_of is in inr (omega (arith, n))
judged_number ends (inr (inr (inr (inl is)))) = let n : number_of ends ≡ 7 = ap number_of is in inr (omega (arith, n))
judged_number ends (inr (inr (inr (inr (inl is))))) = let n : number_of ends ≡ 8 = ap number_of is in inr (omega (arith, n))
judged_number ends (inr (inr (inr (inr (inr is))))) = let n : number_of ends ≡ 9 = ap number_of is in inr (omega (arith, n))

no_usage : (n : ℕ) → (n ≡ 0) ⊎ (5 ≤ n) → n ≡ 1 → ⊥
no_usage n (inl z) e = let never : ⊥ = omega (arith, z, e) in never
no_usage n (inr z) e = let never : ⊥ = omega (arith, z, e) in never

no_cut : (n : ℕ) → (n ≡ 0) ⊎ (5 ≤ n) → 1 < n → n < 5 → ⊥
no_cut n (inl z) low high = let never : ⊥ = omega (arith, z, low) in never
no_cut n (inr z) low high = let never : ⊥ = omega (arith, z, high) in never

-- the numbers of a failed read and of out of memory lie between
pub cut_low : (n : ℕ) → (n ≡ 2) ⊎ (n ≡ 4) → 1 < n
cut_low n (inl e) = omega (arith, e)
cut_low n (inr e) = omega (arith, e)

pub cut_high : (n : ℕ) → (n ≡ 2) ⊎ (n ≡ 4) → n < 5
cut_high n (inl e) = omega (arith, e)
cut_high n (inr e) = omega (arith, e)

-- ---- numbers

statuses : List Status
statuses = status.Done ∷ status.Usage ∷ status.ReadFault ∷ status.WriteFault ∷ status.OutOfMemory ∷ status.Grammar ∷ status.Query ∷ status.Script ∷ status.Absent ∷ status.Text ∷ []

status_at : (s : Status) → slice_get statuses (number_of s) ≡ Some s
unfolding statuses
status_at status.Done = refl
status_at status.Usage = refl
status_at status.ReadFault = refl
status_at status.WriteFault = refl
status_at status.OutOfMemory = refl
status_at status.Grammar = refl
status_at status.Query = refl
status_at status.Script = refl
status_at status.Absent = refl
status_at status.Text = refl

-- a number is that of one status
same_number : (n : ℕ) (s t : Status) → n ≡ number_of s → n ≡ number_of t → s ≡ t
same_number n s t p q =
    let e : Some s ≡ Some t = sym (status_at s) ∙ ap (slice_get statuses) (sym p ∙ q) ∙ status_at t in
    let same : s ≡ t = cc in
    same

-- an exact status, or one for an expression that was refused, is one of three cases
pub exact_or : (A B C : Type 0) → A ⊎ C → A ⊎ (B ⊎ C)
exact_or A B C (inl a) = inl a
exact_or A B C (inr c) = inr (inr c)

module _ (called : List Bytes) (accepts : ℕ → Bytes → Type 0) where
  -- ---- sessions

  -- a refusal is what the files come to on each schedule
  refused_session : (files : Files) (g s : Bytes) (schedule : Schedule) (ends : Status) (line : Bytes) → Refuses called files g s ends line → SessionAnswers called accepts files g s schedule ends line
  refused_session files g s (in_order order) ends line r = refused ends line r
  refused_session files g s at_once ends line r = refused ends line r

  session_comes : (files : Files) (words : List Bytes) (g s : Bytes) (schedule : Schedule) (rose : Type 0) (old new : List Bytes) (ends : Status) (bytes : Bytes) → AsksSession words g s schedule
      → SessionAnswers called accepts files g s schedule ends bytes ⊎ IsRefusal called files g s rose old new ends bytes → ComesTo called accepts files words rose old new ends bytes
  session_comes files words g s schedule rose old new ends bytes asks (inl j) = answered ends bytes (played g s schedule ends bytes asks j)
  session_comes files words g s schedule rose old new _ _ asks (inr (of_files ends line r)) =
      answered ends line (played g s schedule ends line asks (refused_session files g s schedule ends line r))
  session_comes files words g s schedule rose old new _ _ asks (inr (of_patterns line risen r)) = unbuilt g s schedule line asks risen r

  -- what was opened is a session, and its run is printed
  session_printed : (files : Files) (g s : Bytes) (schedule : Schedule) (session : Session) (bytes : Bytes) → IsLoaded called files g s session.table.grammar session.plan session.queries session.texts.items
      → Prints called accepts session schedule bytes → SessionAnswers called accepts files g s schedule status.Done bytes
  session_printed files g s (in_order order) session bytes loaded prints = printed session.table.grammar session.plan session.queries session.texts.items bytes loaded prints
  session_printed files g s at_once session bytes loaded prints = printed session.table.grammar session.plan session.queries session.texts.items bytes loaded prints

  pub ready_plays : (files : Option Files) (g s : Bytes) (schedule : Schedule) (rose : Type 0) (old new : List Bytes) (opened : Opened) (session : Session) (ends : Status) (bytes : Bytes) → opened ≡ Ready session
      → ((known : Files) → files ≡ Some known → OpensAs called known g s rose old new opened) → ends ≡ status.Done
      → Prints called accepts session schedule bytes → IsPlayed called accepts files g s schedule rose old new ends bytes
  ready_plays files g s schedule rose old new opened session ends bytes is opens done prints = λ known told.
      let loaded : IsLoaded called known g s session.table.grammar session.plan session.queries session.texts.items = subst (OpensAs called known g s rose old new) is (opens known told) in
      inl (subst (λ (e : Status). SessionAnswers called accepts known g s schedule e bytes) (sym done) (session_printed known g s schedule session bytes loaded prints))

  told_played : (files : Option Files) (words : List Bytes) (g s : Bytes) (schedule : Schedule) (rose : Type 0) (old new : List Bytes) (ends : Status) (bytes : Bytes) → AsksSession words g s schedule
      → IsPlayed called accepts files g s schedule rose old new ends bytes → Told files (λ known. ComesTo called accepts known words rose old new ends bytes)
  told_played None words g s schedule rose old new ends bytes asks j = tt
  told_played (Some known) words g s schedule rose old new ends bytes asks j = session_comes known words g s schedule rose old new ends bytes asks (j known refl)

  pub played_ok : (r : Result Answer Stop) (files : Option Files) (words : List Bytes) (g s : Bytes) (schedule : Schedule) (rose : Type 0) (old new : List Bytes) → AsksSession words g s schedule
      → IfOk r (λ a. IsJudged a.status) → IfOk r (λ a. IsPlayed called accepts files g s schedule rose old new a.status a.bytes.items)
      → IfOk r (λ a. IsAnswer called accepts files words rose old new a.status a.bytes.items)
  played_ok (Ok a) files words g s schedule rose old new asks is j = other a.status a.bytes.items is (λ u. u.no_session g s schedule asks) (told_played files words g s schedule rose old new a.status a.bytes.items asks j)
  played_ok (Err stop) files words g s schedule rose old new asks is j = tt

  -- ---- answers

  told_plain : (files : Option Files) (words : List Bytes) (rose : Type 0) (old new : List Bytes) (ends : Status) (bytes : Bytes) → Told files (λ known. PlainAnswers known words ends bytes)
      → Told files (λ known. ComesTo called accepts known words rose old new ends bytes)
  told_plain None words rose old new ends bytes h = tt
  told_plain (Some known) words rose old new ends bytes h = answered ends bytes (plain ends bytes h)

  pub plain_ok : (r : Result Answer Stop) (files : Option Files) (words : List Bytes) (rose : Type 0) (old new : List Bytes) → IfOk r (λ a. IsPlain files words a.status a.bytes.items)
      → IfOk r (λ a. IsAnswer called accepts files words rose old new a.status a.bytes.items)
  plain_ok (Ok a) files words rose old new h = other a.status a.bytes.items h.judged h.form (told_plain files words rose old new a.status a.bytes.items h.answers)
  plain_ok (Err stop) files words rose old new h = tt

  pub usage_answer : (files : Option Files) (words : List Bytes) (rose risen : Type 0) (old new : List Bytes) (stop : Stop) (s : Status) (b : Bytes) → stop ≡ Usage → Stopped files words rose stop → s ≡ status.Usage → b ≡ usage_line
      → IsAnswer called accepts files words risen old new s b
  usage_answer files words rose risen old new stop s b is stopped ends line =
      let u : IsUsage words = subst (Stopped files words rose) is stopped in
      subst (λ (e : Status). IsAnswer called accepts files words risen old new e b) (sym ends) (subst (λ (w : Bytes). IsAnswer called accepts files words risen old new status.Usage w) (sym line) (misused u))

  pub absent_answer : (files : Option Files) (words : List Bytes) (rose risen : Type 0) (old new : List Bytes) (stop : Stop) (path : Bor Bytes) (s : Status) (b : Bytes) → stop ≡ Absent path → Stopped files words rose stop
      → s ≡ status.Absent → b ≡ absent_line path.now → IsAnswer called accepts files words risen old new s b
  absent_answer files words rose risen old new stop path s b is stopped ends line =
      let h : Stopped files words rose (Absent path) = subst (Stopped files words rose) is stopped in
      subst (λ (e : Status). IsAnswer called accepts files words risen old new e b) (sym ends) (subst (λ (w : Bytes). IsAnswer called accepts files words risen old new status.Absent w) (sym line)
      (other status.Absent (absent_line path.now) (inr (inr (inr (inr (inl refl))))) h.0 (told_plain files words risen old new status.Absent (absent_line path.now) h.1)))

  -- ---- what is known of an answer

  -- where the files are told, an answer is what the call comes to
  comes_of : (files : Option Files) (known : Files) (words : List Bytes) (rose : Type 0) (old new : List Bytes) (ends : Status) (bytes : Bytes) → files ≡ Some known
      → IsAnswer called accepts files words rose old new ends bytes → ComesTo called accepts known words rose old new ends bytes
  comes_of files known words rose old new _ _ is (misused u) = answered status.Usage usage_line (usage u)
  comes_of files known words rose old new _ _ is (other ends bytes j n told) = subst (λ (f : Option Files). Told f (λ k. ComesTo called accepts k words rose old new ends bytes)) is told

  told_comes : (files : Option Files) (words : List Bytes) (rose : Type 0) (old new : List Bytes) (ends : Status) (bytes : Bytes)
      → IsAnswer called accepts files words rose old new ends bytes → Told files (λ known. ComesTo called accepts known words rose old new ends bytes)
  told_comes None words rose old new ends bytes a = tt
  told_comes (Some known) words rose old new ends bytes a = comes_of (Some known) known words rose old new ends bytes refl a

  -- but for a query, this is what the words and the files come to
  answer_of : (files : Files) (words : List Bytes) (rose : Type 0) (old new : List Bytes) (ends : Status) (bytes : Bytes) → (ends ≡ status.Query → ⊥)
      → ComesTo called accepts files words rose old new ends bytes → Answers called accepts files words ends bytes
  answer_of files words rose old new _ _ n (answered ends bytes a) = a
  answer_of files words rose old new _ _ n (unbuilt g s schedule line asks risen r) = absurd (n refl)

  pub answer_usage : (files : Option Files) (words : List Bytes) (rose : Type 0) (old new : List Bytes) (s : Status) (b : Bytes) → IsAnswer called accepts files words rose old new s b → number_of s ≡ 1 → IsUsage words × (b ≡ usage_line)
  answer_usage files words rose old new _ _ (misused u) e = (u, refl)
  answer_usage files words rose old new _ _ (other ends bytes is n told) e = absurd (no_usage (number_of ends) (judged_number ends is) e)

  -- an answer is not cut short
  pub answer_whole : (files : Option Files) (words : List Bytes) (rose : Type 0) (old new : List Bytes) (s : Status) (b : Bytes) (n : ℕ) → n ≡ number_of s → IsAnswer called accepts files words rose old new s b → 1 < n → n < 5 → ⊥
  answer_whole files words rose old new _ _ n is (misused u) low high = let one : n ≡ 1 = is in let never : ⊥ = omega (arith, one, low) in never
  answer_whole files words rose old new _ _ n is (other ends bytes j u told) low high =
      no_cut (number_of ends) (judged_number ends j) (subst (λ (k : ℕ). 1 < k) is low) (subst (λ (k : ℕ). k < 5) is high)

  -- an answer at a status that is not that of a query is written
  writes_some : (files : Option Files) (words : List Bytes) (rose : Type 0) (old new : List Bytes) (s : Status) (b : Bytes) (before after : Option Bytes) → (s ≡ status.Query → ⊥)
      → Told files (λ known. ComesTo called accepts known words rose old new s b) → Appends before after b → Told files (λ known. Writes (Answers called accepts known words s) before after)
  writes_some None words rose old new s b before after n h a = tt
  writes_some (Some known) words rose old new s b before after n h a = record { bytes = b; are = answer_of known words rose old new s b n h; appends = a }

  pub answer_writes : (files : Option Files) (words : List Bytes) (rose : Type 0) (old new : List Bytes) (s t : Status) (b : Bytes) (before after : Option Bytes) (n : ℕ) → n ≡ number_of s → n ≡ number_of t → (t ≡ status.Query → ⊥)
      → IsAnswer called accepts files words rose old new s b → Appends before after b → Told files (λ known. Writes (Answers called accepts known words t) before after)
  answer_writes files words rose old new s t b before after n p q no_query a appends =
      let h : IsAnswer called accepts files words rose old new t b = subst (λ (e : Status). IsAnswer called accepts files words rose old new e b) (same_number n s t p q) a in
      writes_some files words rose old new t b before after no_query (told_comes files words rose old new t b h) appends

  writes_any : (files : Option Files) (words : List Bytes) (rose : Type 0) (old new : List Bytes) (s : Status) (b : Bytes) (before after : Option Bytes)
      → Told files (λ known. ComesTo called accepts known words rose old new s b) → Appends before after b → Told files (λ known. Writes (ComesTo called accepts known words rose old new s) before after)
  writes_any None words rose old new s b before after h a = tt
  writes_any (Some known) words rose old new s b before after h a = record { bytes = b; are = h; appends = a }

  pub answer_queries : (files : Option Files) (words : List Bytes) (rose : Type 0) (old new : List Bytes) (s t : Status) (b : Bytes) (before after : Option Bytes) (n : ℕ) → n ≡ number_of s → n ≡ number_of t
      → IsAnswer called accepts files words rose old new s b → Appends before after b → Told files (λ known. Writes (ComesTo called accepts known words rose old new t) before after)
  answer_queries files words rose old new s t b before after n p q a appends =
      let h : IsAnswer called accepts files words rose old new t b = subst (λ (e : Status). IsAnswer called accepts files words rose old new e b) (same_number n s t p q) a in
      writes_any files words rose old new t b before after (told_comes files words rose old new t b h) appends

  prefix_any : (files : Option Files) (words : List Bytes) (rose : Type 0) (old new : List Bytes) (s : Status) (b : Bytes) (before after : Option Bytes)
      → Told files (λ known. ComesTo called accepts known words rose old new s b) → AppendsPrefix before after b → Told files (λ known. WritesPrefix (ComesTo called accepts known words rose old new) before after)
  prefix_any None words rose old new s b before after h a = tt
  prefix_any (Some known) words rose old new s b before after h a = record { ends = s; bytes = b; are = h; appends = a }

  pub answer_prefix : (files : Option Files) (words : List Bytes) (rose : Type 0) (old new : List Bytes) (s : Status) (b : Bytes) (before after : Option Bytes)
      → IsAnswer called accepts files words rose old new s b → AppendsPrefix before after b → Told files (λ known. WritesPrefix (ComesTo called accepts known words rose old new) before after)
  answer_prefix files words rose old new s b before after a prefix = prefix_any files words rose old new s b before after (told_comes files words rose old new s b a) prefix

  -- what a call comes to is the words' and the files' answer, or an expression was refused
  comes_exact : ((files : Files) (words : List Bytes) (s t : Status) (b c : Bytes) → Answers called accepts files words s b → Answers called accepts files words t c → s ≡ t)
      → (files : Files) (words : List Bytes) (rose : Type 0) (old new : List Bytes) (s s2 : Status) (b b2 : Bytes) → ComesTo called accepts files words rose old new s b → Answers called accepts files words s2 b2
      → (number_of s ≡ number_of s2) ⊎ IsUnbuilt words rose (number_of s)
  comes_exact once files words rose old new _ s2 _ b2 (answered s b a) d = inl (ap number_of (once files words s s2 b b2 a d))
  comes_exact once files words rose old new _ s2 _ b2 (unbuilt g s schedule line asks risen r) d = inr (record { number_is = refl; grammar = g; script = s; schedule = schedule; asks = asks; risen = risen })

  pub answer_exact : ((files : Files) (words : List Bytes) (s t : Status) (b c : Bytes) → Answers called accepts files words s b → Answers called accepts files words t c → s ≡ t)
      → (files : Option Files) (known : Files) (words : List Bytes) (rose : Type 0) (old new : List Bytes) (s s2 : Status) (b b2 : Bytes) (number : ℕ) → files ≡ Some known → number ≡ number_of s
      → IsAnswer called accepts files words rose old new s b → Answers called accepts known words s2 b2 → (number ≡ number_of s2) ⊎ IsUnbuilt words rose number
  answer_exact once files known words rose old new s s2 b b2 number is same a two =
      subst (λ (n : ℕ). (n ≡ number_of s2) ⊎ IsUnbuilt words rose n) (sym same) (comes_exact once known words rose old new s s2 b b2 (comes_of files known words rose old new s b is a) two)

  -- where no expression was refused, an answer is that of the words and the files
  answer_unrisen : (files : Option Files) (known : Files) (words : List Bytes) (rose : Type 0) (old new : List Bytes) (s : Status) (b : Bytes) → files ≡ Some known → (rose → ⊥)
      → IsAnswer called accepts files words rose old new s b → Answers called accepts known words s b
  answer_unrisen files known words rose old new s b is n a = by s b (comes_of files known words rose old new s b is a)
    where
      by : (s : Status) (b : Bytes) → ComesTo called accepts known words rose old new s b → Answers called accepts known words s b
      by _ _ (answered s b a) = a
      by _ _ (unbuilt g s schedule line asks risen r) = absurd (n risen)

  -- the same where the words ask for no session
  answer_unasked : (files : Option Files) (known : Files) (words : List Bytes) (rose : Type 0) (old new : List Bytes) (s : Status) (b : Bytes) → files ≡ Some known
      → ((g c : Bytes) (schedule : Schedule) → AsksSession words g c schedule → ⊥) → IsAnswer called accepts files words rose old new s b → Answers called accepts known words s b
  answer_unasked files known words rose old new s b is n a = by s b (comes_of files known words rose old new s b is a)
    where
      by : (s : Status) (b : Bytes) → ComesTo called accepts known words rose old new s b → Answers called accepts known words s b
      by _ _ (answered s b a) = a
      by _ _ (unbuilt g c schedule line asks risen r) = absurd (n g c schedule asks)

  pub answer_complete : ((files : Files) (words : List Bytes) (s : Status) (b : Bytes) → IsClean files words → Answers called accepts files words s b → s ≡ status.Done)
      → (files : Option Files) (known : Files) (words : List Bytes) (rose : Type 0) (old new : List Bytes) (s : Status) (b : Bytes) → files ≡ Some known → IsClean known words → IsAnswer called accepts files words rose old new s b → s ≡ status.Done
  answer_complete done files known words rose old new s b is clean a =
      done known words s b clean (answer_unasked files known words rose old new s b is (λ g c schedule asks. parse_or_play words clean.has.grammar_path clean.path g c schedule clean.has.parses asks) a)

  pub answer_compilable : ((files : Files) (words : List Bytes) (s : Status) (b : Bytes) → IsCompilable files words → Answers called accepts files words s b → s ≡ status.Done)
      → (files : Option Files) (known : Files) (words : List Bytes) (rose : Type 0) (old new : List Bytes) (s : Status) (b : Bytes) → files ≡ Some known → IsCompilable known words → IsAnswer called accepts files words rose old new s b → s ≡ status.Done
  answer_compilable done files known words rose old new s b is clean a =
      done known words s b clean (answer_unasked files known words rose old new s b is (λ g c schedule asks. compile_or_play words clean.path g c schedule clean.compiles asks) a)

  pub answer_playable : ((files : Files) (words : List Bytes) (s : Status) (b : Bytes) → CanPlay called files words → Answers called accepts files words s b → s ≡ status.Done)
      → (files : Option Files) (known : Files) (words : List Bytes) (rose : Type 0) (old new : List Bytes) (s : Status) (b : Bytes) → files ≡ Some known → CanPlay called known words → (rose → ⊥) → IsAnswer called accepts files words rose old new s b → s ≡ status.Done
  answer_playable done files known words rose old new s b is can n a = done known words s b can (answer_unrisen files known words rose old new s b is n a)
