-- Answers where the files may not be told, and what a stop says.
use Rattle.std.specs.Prelude.{◌≡◌, ◌⊎◌, ℕ, List, Option, Some, None}
use Rattle.ts_base.specs.Bytes.{Bytes}
use Rattle.ts_io.specs.Outside.{Files, file_at}
use Rattle.ts_io.specs.Read.{AnswersFor}
use Rattle.ts_io.specs.declared.folder.Found.{Found}
use Rattle.spec_output.specs.Faults.{absent_line, usage_line}
use Rattle.spec_output.specs.declared.status.Status.{Status}
use Rattle.spec_output.specs.declared.status.Status.TheVariants as status
use Rattle.ts_session.specs.Limits.{most_file_bytes, most_text_bytes}
use Rattle.ts_predicate.specs.Predicates.{AnswersOf}
use Rattle.ts_session.specs.Replays.{IsJudged, IsReplay, IsRun}
use Rattle.ts_session.specs.Sessions.{IsRefusal}
use Rattle.ts_session.specs.declared.session.Session.{Session}
use Rattle.ts_top.specs.Answer.{Schedule, in_order, at_once, PlainAnswers, SessionAnswers, ComesTo, IsUsage, Told}
use Rattle.ts_top.specs.declared.play.Schedule.{Schedule as Chosen}
use Rattle.ts_top.specs.declared.play.Schedule.TheVariants as chosen
use Rattle.ts_top.specs.declared.stop.Stop.{Stop}
use Rattle.ts_top.specs.declared.stop.Stop.TheVariants.{Usage, Absent, Read, Memory}

-- What words that ask to parse or to compile come to. The status is one that the files decide.
pub record IsPlain (files : Option Files) (words : List Bytes) (ends : Status) (bytes : Bytes)
    : Type 0 where
  pub judged : IsJudged ends
  pub form : IsUsage words → ⊥
  pub answers : Told files (λ known. PlainAnswers known words ends bytes)

-- The words alone show a wrong usage. Each other answer is what the call comes to.
pub data IsAnswer (called : List Bytes) (accepts : ℕ → Bytes → Type 0) (files : Option Files)
    (words : List Bytes) (rose : Type 0) (old new : List Bytes) : Status → Bytes → Type 0 where
  misused : IsUsage words → IsAnswer called accepts files words rose old new status.Usage usage_line
  other : (ends : Status) (bytes : Bytes) → IsJudged ends → (IsUsage words → ⊥)
      → Told files (λ known. ComesTo called accepts known words rose old new ends bytes)
      → IsAnswer called accepts files words rose old new ends bytes

-- the schedule that the words were taken for
abbrev pub schedule_of : Chosen → Schedule
schedule_of (chosen.InOrder order) = in_order order.items
schedule_of chosen.AtOnce = at_once

-- the bytes are the print of the session, run on the schedule
abbrev pub Prints : List Bytes → (ℕ → Bytes → Type 0) → Session → Schedule → Bytes → Type 0
Prints called accepts s (in_order order) bytes = IsReplay s.table.grammar s.plan s.queries
    (AnswersOf called accepts) s.texts.items order bytes
Prints called accepts s at_once bytes = IsRun s.table.grammar s.plan s.queries
    (AnswersOf called accepts) s.texts.items bytes

-- What the script at a path comes to by the grammar at another, on this schedule, where the files
-- are told.
abbrev pub IsPlayed : List Bytes → (ℕ → Bytes → Type 0) → Option Files → Bytes → Bytes → Schedule
    → Type 0 → List Bytes → List Bytes → Status → Bytes → Type 0
IsPlayed called accepts files grammar script schedule rose old new ends bytes =
    (known : Files) → files ≡ Some known
    → SessionAnswers called accepts known grammar script schedule ends bytes
    ⊎ IsRefusal called known grammar script rose old new ends bytes

-- What a stop says: the words are of no form; a file is not there; a failed read has its cause, and
-- the words asked for it; out of memory needs none.
abbrev pub Stopped : Option Files → List Bytes → Type 0 → Stop → Type 0
Stopped files words rose Usage = IsUsage words
Stopped files words rose (Absent path) = (IsUsage words → ⊥)
    × Told files (λ known. PlainAnswers known words status.Absent (absent_line path.now))
Stopped files words rose Read = rose × (IsUsage words → ⊥)
Stopped files words rose Memory = Unit {0}

-- A file is there, and this was read of it.
pub record IsThere (path : Bytes) (limit : ℕ) (found : Found) (files : Files) : Type 0 where
  pub bytes : Bytes
  pub at : file_at files path ≡ Some bytes
  pub answers : AnswersFor (Some bytes) limit found

-- what a stop says of the read of one file
abbrev pub ReadStopped : Option Files → Bytes → Type 0 → Stop → Type 0
ReadStopped files path rose Usage = ⊥
ReadStopped files path rose (Absent at) =
    (at.now ≡ path) × Told files (λ known. file_at known path ≡ None)
ReadStopped files path rose Read = rose
ReadStopped files path rose Memory = Unit {0}

-- The two files hold these bytes, as their reads say.
pub record AreRead (grammar_file text_file : Found) (grammar text : Bytes) : Type 0 where
  pub grammar_is : AnswersFor (Some grammar) most_file_bytes grammar_file
  pub text_is : AnswersFor (Some text) most_text_bytes text_file
