-- Words, files and a host come to one status, and to one list of bytes but for the line of an outcome
-- and the print of a run.
use Rattle.std.proofs.Common.{◌≡◌, ◌∙◌, sym, ap, subst, refl, ℕ, List, [], ◌∷◌, length, codes, arith}
use Rattle.ts_base.specs.Bytes.{Bytes}
use Rattle.spec_output.specs.declared.status.Status.{Status}
use Rattle.spec_output.specs.declared.status.Status.TheVariants.{Done}
use Rattle.ts_io.specs.Outside.{Files}
use Rattle.ts_turns.specs.Turns.{Spells}
use Rattle.ts_session.specs.Replays.{Replays, Runs}
use Rattle.ts_session.specs.Sessions.{IsClear}
use Rattle.ts_top.specs.Answer.{Parses, Compiles, AsksReplay, AsksRun, Schedule, in_order, at_once, AsksSession, PlainAnswers, SessionAnswers, Answers, usage, plain, played, IsUsage, IsClean, IsCompilable, CanPlay}
use Rattle.ts_top.proofs.PlainLemmas.{FileLaws, AreOne, plain_once, plain_compiled, plain_is_done, plain_compilable, plain_asks}

-- ---- words

parse_or_replay : (words : List Bytes) (g t grammar script : Bytes) (order : List ℕ) → Parses words g t → AsksReplay words grammar script order → ⊥
parse_or_replay words g t grammar script order p a =
    let e : length (codes "parse" ∷ g ∷ t ∷ []) ≡ length (codes "replay" ∷ grammar ∷ script ∷ a.word ∷ []) = ap length (sym p ∙ a.words_are) in
    let never : ⊥ = omega (arith, e) in
    never

compile_or_replay : (words : List Bytes) (path grammar script : Bytes) (order : List ℕ) → Compiles words path → AsksReplay words grammar script order → ⊥
compile_or_replay words path grammar script order p a =
    let e : length (codes "compile" ∷ path ∷ []) ≡ length (codes "replay" ∷ grammar ∷ script ∷ a.word ∷ []) = ap length (sym p ∙ a.words_are) in
    let never : ⊥ = omega (arith, e) in
    never

parse_or_run : (words : List Bytes) (g t grammar script : Bytes) → Parses words g t → AsksRun words grammar script → ⊥
parse_or_run words g t grammar script p r =
    let e : codes "parse" ∷ g ∷ t ∷ [] ≡ codes "run" ∷ grammar ∷ script ∷ [] = sym p ∙ r in
    let word : codes "parse" ≡ codes "run" = cc in
    let n : length (codes "parse") ≡ length (codes "run") = ap length word in
    let never : ⊥ = omega (arith, n) in
    never

compile_or_run : (words : List Bytes) (path grammar script : Bytes) → Compiles words path → AsksRun words grammar script → ⊥
compile_or_run words path grammar script p r =
    let e : length (codes "compile" ∷ path ∷ []) ≡ length (codes "run" ∷ grammar ∷ script ∷ []) = ap length (sym p ∙ r) in
    let never : ⊥ = omega (arith, e) in
    never

replay_or_run : (words : List Bytes) (g c grammar script : Bytes) (order : List ℕ) → AsksReplay words g c order → AsksRun words grammar script → ⊥
replay_or_run words g c grammar script order a r =
    let e : length (codes "replay" ∷ g ∷ c ∷ a.word ∷ []) ≡ length (codes "run" ∷ grammar ∷ script ∷ []) = ap length (sym a.words_are ∙ r) in
    let never : ⊥ = omega (arith, e) in
    never

asks_run_once : (words : List Bytes) (g c g2 c2 : Bytes) → AsksRun words g c → AsksRun words g2 c2 → (g ≡ g2) × (c ≡ c2)
asks_run_once words g c g2 c2 p q =
    let e : codes "run" ∷ g ∷ c ∷ [] ≡ codes "run" ∷ g2 ∷ c2 ∷ [] = sym p ∙ q in
    let grammar : g ≡ g2 = cc in
    let script : c ≡ c2 = cc in
    (grammar, script)

pub parse_or_play : (words : List Bytes) (g t grammar script : Bytes) (schedule : Schedule) → Parses words g t → AsksSession words grammar script schedule → ⊥
parse_or_play words g t grammar script (in_order order) p a = parse_or_replay words g t grammar script order p a
parse_or_play words g t grammar script at_once p a = parse_or_run words g t grammar script p a

pub compile_or_play : (words : List Bytes) (path grammar script : Bytes) (schedule : Schedule) → Compiles words path → AsksSession words grammar script schedule → ⊥
compile_or_play words path grammar script (in_order order) p a = compile_or_replay words path grammar script order p a
compile_or_play words path grammar script at_once p a = compile_or_run words path grammar script p a

plain_or_usage : (files : Files) (words : List Bytes) (s : Status) (b : Bytes) → PlainAnswers files words s b → IsUsage words → ⊥
plain_or_usage files words s b a u = plain_asks ⊥ files words s b a u.no_parse u.no_compile

pub plain_or_play : (files : Files) (words : List Bytes) (s : Status) (b grammar script : Bytes) (schedule : Schedule) → PlainAnswers files words s b → AsksSession words grammar script schedule → ⊥
plain_or_play files words s b grammar script schedule a asks =
    plain_asks ⊥ files words s b a (λ g t p. parse_or_play words g t grammar script schedule p asks) (λ path c. compile_or_play words path grammar script schedule c asks)

-- words ask for one session
asks_replay_once : (words : List Bytes) (g c g2 c2 : Bytes) (o o2 : List ℕ) → ((word : Bytes) (a b : List ℕ) → Spells word a → Spells word b → a ≡ b)
    → AsksReplay words g c o → AsksReplay words g2 c2 o2 → (g ≡ g2) × (c ≡ c2) × (o ≡ o2)
asks_replay_once words g c g2 c2 o o2 spelled_once a d =
    let e : codes "replay" ∷ g ∷ c ∷ a.word ∷ [] ≡ codes "replay" ∷ g2 ∷ c2 ∷ d.word ∷ [] = sym a.words_are ∙ d.words_are in
    let grammar : g ≡ g2 = cc in
    let script : c ≡ c2 = cc in
    let word : a.word ≡ d.word = cc in
    (grammar, script, spelled_once a.word o o2 a.spells (subst (λ (w : Bytes). Spells w o2) (sym word) d.spells))

pub asks_once : (words : List Bytes) (g c g2 c2 : Bytes) (s s2 : Schedule) → ((word : Bytes) (a b : List ℕ) → Spells word a → Spells word b → a ≡ b)
    → AsksSession words g c s → AsksSession words g2 c2 s2 → (g ≡ g2) × (c ≡ c2) × (s ≡ s2)
asks_once words g c g2 c2 (in_order o) (in_order o2) spelled_once a d =
    let e = asks_replay_once words g c g2 c2 o o2 spelled_once a d in
    (e.0, e.1, ap in_order e.2)
asks_once words g c g2 c2 (in_order o) at_once spelled_once a d = absurd (replay_or_run words g c g2 c2 o a d)
asks_once words g c g2 c2 at_once (in_order o) spelled_once a d = absurd (replay_or_run words g2 c2 g c o d a)
asks_once words g c g2 c2 at_once at_once spelled_once a d =
    let e = asks_run_once words g c g2 c2 a d in
    (e.0, e.1, refl)

module _ (called : List Bytes) (accepts : ℕ → Bytes → Type 0) where
  -- what is known of the bytes of files, of the word of an order, and of replays
  pub record Laws : Type 0 where
    pub files : FileLaws
    pub spelled_once : (word : Bytes) (a b : List ℕ) → Spells word a → Spells word b → a ≡ b
    pub replay_status : (files : Files) (grammar script : Bytes) (order : List ℕ) (s t : Status) (b c : Bytes) → Replays called accepts files grammar script order s b → Replays called accepts files grammar script order t c → s ≡ t
    pub replay_bytes : (files : Files) (grammar script : Bytes) (order : List ℕ) (s t : Status) (b c : Bytes) → Replays called accepts files grammar script order s b → Replays called accepts files grammar script order t c → (s ≡ Done → ⊥) → b ≡ c
    pub run_status : (files : Files) (grammar script : Bytes) (s t : Status) (b c : Bytes) → Runs called accepts files grammar script s b → Runs called accepts files grammar script t c → s ≡ t
    pub run_bytes : (files : Files) (grammar script : Bytes) (s t : Status) (b c : Bytes) → Runs called accepts files grammar script s b → Runs called accepts files grammar script t c → (s ≡ Done → ⊥) → b ≡ c

  module _ (laws : Laws) where
    session_once : (files : Files) (g c : Bytes) (schedule : Schedule) (s s2 : Status) (b b2 : Bytes) → SessionAnswers called accepts files g c schedule s b → SessionAnswers called accepts files g c schedule s2 b2 → AreOne s s2 b b2
    session_once files g c (in_order o) s s2 b b2 j k = record { status = laws.replay_status files g c o s s2 b b2 j k; bytes = laws.replay_bytes files g c o s s2 b b2 j k }
    session_once files g c at_once s s2 b b2 j k = record { status = laws.run_status files g c s s2 b b2 j k; bytes = laws.run_bytes files g c s s2 b b2 j k }

    session_there : (files : Files) (words : List Bytes) (g c g2 c2 : Bytes) (o o2 : Schedule) (s s2 : Status) (b b2 : Bytes) → AsksSession words g c o → AsksSession words g2 c2 o2
        → SessionAnswers called accepts files g c o s b → SessionAnswers called accepts files g2 c2 o2 s2 b2 → AreOne s s2 b b2
    session_there files words g c g2 c2 o o2 s s2 b b2 a d j k =
        let e = asks_once words g c g2 c2 o o2 laws.spelled_once a d in
        let grammar : SessionAnswers called accepts files g c2 o2 s2 b2 = subst (λ (x : Bytes). SessionAnswers called accepts files x c2 o2 s2 b2) (sym e.0) k in
        let script : SessionAnswers called accepts files g c o2 s2 b2 = subst (λ (x : Bytes). SessionAnswers called accepts files g x o2 s2 b2) (sym e.1) grammar in
        let schedule : SessionAnswers called accepts files g c o s2 b2 = subst (λ (x : Schedule). SessionAnswers called accepts files g c x s2 b2) (sym e.2) script in
        session_once files g c o s s2 b b2 j schedule

    -- ---- answers

    once : (files : Files) (words : List Bytes) (s s2 : Status) (b b2 : Bytes) → Answers called accepts files words s b → Answers called accepts files words s2 b2 → AreOne s s2 b b2
    once files words _ _ _ _ (usage u) (usage v) = record { status = refl; bytes = λ n. refl }
    once files words _ _ _ _ (usage u) (plain s b a) = absurd (plain_or_usage files words s b a u)
    once files words _ _ _ _ (usage u) (played g c o s b asks j) = absurd (u.no_session g c o asks)
    once files words _ _ _ _ (plain s b a) (usage v) = absurd (plain_or_usage files words s b a v)
    once files words _ _ _ _ (plain s b a) (plain s2 b2 d) = plain_once laws.files files words s s2 b b2 a d
    once files words _ _ _ _ (plain s b a) (played g c o s2 b2 asks j) = absurd (plain_or_play files words s b g c o a asks)
    once files words _ _ _ _ (played g c o s b asks j) (usage v) = absurd (v.no_session g c o asks)
    once files words _ _ _ _ (played g c o s b asks j) (plain s2 b2 d) = absurd (plain_or_play files words s2 b2 g c o d asks)
    once files words _ _ _ _ (played g c o s b asks j) (played g2 c2 o2 s2 b2 asks2 k) = session_there files words g c g2 c2 o o2 s s2 b b2 asks asks2 j k

    pub status_once : (files : Files) (words : List Bytes) (s s2 : Status) (b b2 : Bytes) → Answers called accepts files words s b → Answers called accepts files words s2 b2 → s ≡ s2
    status_once files words s s2 b b2 a c = (once files words s s2 b b2 a c).status

    pub bytes_once : (files : Files) (words : List Bytes) (s s2 : Status) (b b2 : Bytes) → Answers called accepts files words s b → Answers called accepts files words s2 b2 → (s ≡ Done → ⊥) → b ≡ b2
    bytes_once files words s s2 b b2 a c = (once files words s s2 b b2 a c).bytes

    -- where words ask to parse or to compile, an answer is a plain one
    plain_of : (files : Files) (words : List Bytes) (s : Status) (b : Bytes) → (IsUsage words → ⊥) → ((g c : Bytes) (o : Schedule) → AsksSession words g c o → ⊥) → Answers called accepts files words s b → PlainAnswers files words s b
    plain_of files words _ _ form no_session (usage u) = absurd (form u)
    plain_of files words _ _ form no_session (plain s b a) = a
    plain_of files words _ _ form no_session (played g c o s b asks j) = absurd (no_session g c o asks)

    compile_plain : (files : Files) (words : List Bytes) (path : Bytes) (s : Status) (b : Bytes) → Compiles words path → Answers called accepts files words s b → PlainAnswers files words s b
    compile_plain files words path s b c a = plain_of files words s b (λ u. u.no_compile path c) (λ g t o asks. compile_or_play words path g t o c asks) a

    parse_plain : (files : Files) (words : List Bytes) (g t : Bytes) (s : Status) (b : Bytes) → Parses words g t → Answers called accepts files words s b → PlainAnswers files words s b
    parse_plain files words g t s b p a = plain_of files words s b (λ u. u.no_parse g t p) (λ g2 c o asks. parse_or_play words g t g2 c o p asks) a

    pub compiled_bytes_once : (files : Files) (words : List Bytes) (path : Bytes) (s s2 : Status) (b b2 : Bytes) → Compiles words path → Answers called accepts files words s b → Answers called accepts files words s2 b2 → b ≡ b2
    compiled_bytes_once files words path s s2 b b2 c a d = plain_compiled laws.files files words path s s2 b b2 c (compile_plain files words path s b c a) (compile_plain files words path s2 b2 c d)

    -- ---- where nothing stands in the way

    pub clean_is_done : (files : Files) (words : List Bytes) (s : Status) (b : Bytes) → IsClean files words → Answers called accepts files words s b → s ≡ Done
    clean_is_done files words s b c a = plain_is_done laws.files files words s b c (parse_plain files words c.has.grammar_path c.path s b c.has.parses a)

    pub compilable_is_done : (files : Files) (words : List Bytes) (s : Status) (b : Bytes) → IsCompilable files words → Answers called accepts files words s b → s ≡ Done
    compilable_is_done files words s b c a = plain_compilable laws.files files words s b c (compile_plain files words c.path s b c.compiles a)

    module _ (replayed : (files : Files) (grammar script : Bytes) (order : List ℕ) (s : Status) (b : Bytes) → IsClear called files grammar script → Replays called accepts files grammar script order s b → s ≡ Done)
        (ran : (files : Files) (grammar script : Bytes) (s : Status) (b : Bytes) → IsClear called files grammar script → Runs called accepts files grammar script s b → s ≡ Done) where
      session_is_done : (files : Files) (g c : Bytes) (schedule : Schedule) (s : Status) (b : Bytes) → IsClear called files g c → SessionAnswers called accepts files g c schedule s b → s ≡ Done
      session_is_done files g c (in_order o) s b clear j = replayed files g c o s b clear j
      session_is_done files g c at_once s b clear j = ran files g c s b clear j

      pub play_is_done : (files : Files) (words : List Bytes) (s : Status) (b : Bytes) → CanPlay called files words → Answers called accepts files words s b → s ≡ Done
      play_is_done files words _ _ c (usage u) = absurd (u.no_session c.grammar c.script c.schedule c.asks)
      play_is_done files words _ _ c (plain s b a) = absurd (plain_or_play files words s b c.grammar c.script c.schedule a c.asks)
      play_is_done files words _ _ c (played g t o s b asks k) =
          let e = asks_once words c.grammar c.script g t c.schedule o laws.spelled_once c.asks asks in
          let grammar : IsClear called files g c.script = subst (λ (x : Bytes). IsClear called files x c.script) e.0 c.clear in
          let both : IsClear called files g t = subst (λ (x : Bytes). IsClear called files g x) e.1 grammar in
          session_is_done files g t o s b both k
