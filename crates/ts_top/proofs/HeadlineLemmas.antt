-- What is printed where a script was run is the print of a lawful run.
use Rattle.std.proofs.Common.{◌≡◌, sym, subst, refl, ℕ, List, Option, Some, None}
use Rattle.ts_base.specs.Bytes.{Bytes}
use Rattle.ts_core.specs.declared.flat.FlatGrammar.{FlatGrammar}
use Rattle.spec_output.specs.declared.status.Status.{Status}
use Rattle.spec_output.specs.declared.status.Status.TheVariants.{Done}
use Rattle.ts_io.specs.Outside.{Files}
use Rattle.ts_predicate.specs.Predicates.{AnswersOf}
use Rattle.ts_script.specs.declared.plan.Plan.{Plan}
use Rattle.ts_session.specs.Refusals.{RefusesPlan, missing, no_query, no_text, RefusesScript, no_script, of_plan, RefusesBytes, large_grammar, no_grammar, of_script, Refuses, grammar_absent, script_absent, of_bytes}
use Rattle.ts_session.specs.Replays.{IsReplay, IsRun, Replays, Runs, refused, printed}
use Rattle.ts_turns.specs.Turns.{Spells}
use Rattle.ts_top.specs.Answer.{Schedule, in_order, at_once, AsksSession, SessionAnswers, Answers, usage, plain, played, Told, Writes}
use Rattle.ts_top.specs.Headline.{IsLawfulRun}
use Rattle.ts_top.proofs.AnswerLemmas.{plain_or_play, asks_once}

-- ---- what is refused is not done

plan_refused : (called : List Bytes) (files : Files) (f : FlatGrammar) (plan : Plan) (ends : Status) (line : Bytes)
    → RefusesPlan called files f plan ends line → ends ≡ Done → ⊥
plan_refused called files f plan _ _ (missing path is) e = let never : ⊥ = cc in never
plan_refused called files f plan _ _ (no_query number fault line have is told) e = let never : ⊥ = cc in never
plan_refused called files f plan _ _ (no_text line have none is) e = let never : ⊥ = cc in never

script_refused : (called : List Bytes) (files : Files) (f : FlatGrammar) (script : Bytes) (ends : Status) (line : Bytes)
    → RefusesScript called files f script ends line → ends ≡ Done → ⊥
script_refused called files f script _ _ (no_script fault line is told) e = let never : ⊥ = cc in never
script_refused called files f script _ _ (of_plan plan ends line is r) e = plan_refused called files f plan ends line r e

bytes_refused : (called : List Bytes) (files : Files) (grammar script : Bytes) (ends : Status) (line : Bytes)
    → RefusesBytes called files grammar script ends line → ends ≡ Done → ⊥
bytes_refused called files grammar script _ _ (large_grammar large) e = let never : ⊥ = cc in never
bytes_refused called files grammar script _ _ (no_grammar line small is) e = let never : ⊥ = cc in never
bytes_refused called files grammar script _ _ (of_script f ends line builds r) e = script_refused called files f script ends line r e

files_refused : (called : List Bytes) (files : Files) (grammar script : Bytes) (ends : Status) (line : Bytes)
    → Refuses called files grammar script ends line → ends ≡ Done → ⊥
files_refused called files grammar script _ _ (grammar_absent none) e = let never : ⊥ = cc in never
files_refused called files grammar script _ _ (script_absent g is none) e = let never : ⊥ = cc in never
files_refused called files grammar script _ _ (of_bytes g s ends line is there r) e = bytes_refused called files g s ends line r e

module _ (called : List Bytes) (accepts : ℕ → Bytes → Type 0) where
  -- ---- sessions

  replay_is_lawful : (files : Files) (g s : Bytes) (order : List ℕ) (ends : Status) (bytes : Bytes)
      → Replays called accepts files g s order ends bytes → ends ≡ Done → IsLawfulRun called accepts files g s (in_order order) bytes
  replay_is_lawful files g s order _ _ (refused ends line r) e = absurd (files_refused called files g s ends line r e)
  replay_is_lawful files g s order _ _ (printed f plan queries openings bytes loaded prints) e =
      let p : IsReplay f plan queries (AnswersOf called accepts) openings order bytes = prints in
      record {
        form = f;
        plan = plan;
        queries = queries;
        openings = openings;
        loaded = loaded;
        history = p.history;
        grammar_is = p.grammar_is;
        plan_is = p.plan_is;
        openings_are = p.openings_are;
        legal = p.legal;
        on_schedule = p.in_order;
        printed = p.printed;
      }

  run_is_lawful : (files : Files) (g s : Bytes) (ends : Status) (bytes : Bytes)
      → Runs called accepts files g s ends bytes → ends ≡ Done → IsLawfulRun called accepts files g s at_once bytes
  run_is_lawful files g s _ _ (refused ends line r) e = absurd (files_refused called files g s ends line r e)
  run_is_lawful files g s _ _ (printed f plan queries openings bytes loaded prints) e =
      let p : IsRun f plan queries (AnswersOf called accepts) openings bytes = prints in
      record {
        form = f;
        plan = plan;
        queries = queries;
        openings = openings;
        loaded = loaded;
        history = p.history;
        grammar_is = p.grammar_is;
        plan_is = p.plan_is;
        openings_are = p.openings_are;
        legal = p.legal;
        on_schedule = tt;
        printed = p.printed;
      }

  session_is_lawful : (files : Files) (g s : Bytes) (schedule : Schedule) (ends : Status) (bytes : Bytes)
      → SessionAnswers called accepts files g s schedule ends bytes → ends ≡ Done → IsLawfulRun called accepts files g s schedule bytes
  session_is_lawful files g s (in_order order) ends bytes j e = replay_is_lawful files g s order ends bytes j e
  session_is_lawful files g s at_once ends bytes j e = run_is_lawful files g s ends bytes j e

  -- ---- answers

  module _ (spelled_once : (word : Bytes) (a b : List ℕ) → Spells word a → Spells word b → a ≡ b) where
    answer_is_lawful : (files : Files) (words : List Bytes) (g s : Bytes) (schedule : Schedule) (ends : Status) (bytes : Bytes) → AsksSession words g s schedule
        → Answers called accepts files words ends bytes → ends ≡ Done → IsLawfulRun called accepts files g s schedule bytes
    answer_is_lawful files words g s schedule _ _ asks (usage u) e = absurd (u.no_session g s schedule asks)
    answer_is_lawful files words g s schedule _ _ asks (plain ends bytes a) e = absurd (plain_or_play files words ends bytes g s schedule a asks)
    answer_is_lawful files words g s schedule _ _ asks (played g2 s2 o ends bytes asks2 j) e =
        let same = asks_once words g s g2 s2 schedule o spelled_once asks asks2 in
        let lawful : IsLawfulRun called accepts files g2 s2 o bytes = session_is_lawful files g2 s2 o ends bytes j e in
        let grammar : IsLawfulRun called accepts files g s2 o bytes = subst (λ (x : Bytes). IsLawfulRun called accepts files x s2 o bytes) (sym same.0) lawful in
        let script : IsLawfulRun called accepts files g s o bytes = subst (λ (x : Bytes). IsLawfulRun called accepts files g x o bytes) (sym same.1) grammar in
        subst (λ (x : Schedule). IsLawfulRun called accepts files g s x bytes) (sym same.2) script

    pub done_is_lawful : (files : Files) (words : List Bytes) (g s : Bytes) (schedule : Schedule) (bytes : Bytes) → AsksSession words g s schedule
        → Answers called accepts files words Done bytes → IsLawfulRun called accepts files g s schedule bytes
    done_is_lawful files words g s schedule bytes asks a = answer_is_lawful files words g s schedule Done bytes asks a refl

  -- what is written where a script was run
  pub writes_lawful : ((files : Files) (words : List Bytes) (g s : Bytes) (schedule : Schedule) (bytes : Bytes) → AsksSession words g s schedule
      → Answers called accepts files words Done bytes → IsLawfulRun called accepts files g s schedule bytes)
      → (files : Option Files) (words : List Bytes) (g s : Bytes) (schedule : Schedule) (before after : Option Bytes) → AsksSession words g s schedule
      → Told files (λ known. Writes (Answers called accepts known words Done) before after)
      → Told files (λ known. Writes (IsLawfulRun called accepts known g s schedule) before after)
  writes_lawful lawful None words g s schedule before after asks w = tt
  writes_lawful lawful (Some known) words g s schedule before after asks w =
      let made : Writes (Answers called accepts known words Done) before after = w in
      let result : Writes (IsLawfulRun called accepts known g s schedule) before after =
      record { bytes = made.bytes; are = lawful known words g s schedule made.bytes asks made.are; appends = made.appends } in
      result
