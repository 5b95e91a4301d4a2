-- The answer of the program: which status and which bytes the words and the files come to.
use Rattle.std.specs.Prelude.{◌≡◌, ℕ, ◌<◌, ◌≤◌, ◌⊎◌, List, [], ◌∷◌, length, map, Option, Some, None, String, string_bytes, codes}
use Rattle.std.specs.declared.alloc.Global.{Global}
use Rattle.ts_base.specs.Bytes.{Bytes}
use Rattle.ts_core.specs.declared.flat.FlatGrammar.{FlatGrammar}
use Rattle.ts_core.specs.declared.limits.Limited.TheVariants.{File}
use Rattle.spec_runs.specs.Outcomes.{FreshOutcome, Fresh}
use Rattle.spec_output.specs.Faults.{absent_line, broken_line, usage_line}
use Rattle.spec_output.specs.GrammarFaults.{limit_line}
use Rattle.spec_output.specs.Outcomes.{parse_line}
use Rattle.spec_output.specs.declared.status.Status.{Status}
use Rattle.spec_output.specs.declared.status.Status.TheVariants as status
use Rattle.ts_io.specs.Outside.{Files, file_at, Appends, AppendsPrefix}
use Rattle.ts_text.specs.Text.{IsText, BreaksAt}
use Rattle.ts_print.specs.Printed.{shown_outcome}
use Rattle.ts_front.specs.Compiled.{IsCompiled, IsRefusalLine}
use Rattle.ts_turns.specs.Turns.{Spells}
use Rattle.ts_session.specs.Grammars.{Builds, size_line}
use Rattle.ts_session.specs.Limits.{most_file_bytes, most_text_bytes}
use Rattle.ts_session.specs.Replays.{Replays, Runs}
use Rattle.ts_session.specs.Sessions.{IsClear, IsRegexRefusal}

-- the words, as bytes
abbrev pub texts : List (String Global) → List Bytes
texts words = map string_bytes words

-- ---- words

-- the words ask to parse the text at one path by the grammar at another
abbrev pub Parses : List Bytes → Bytes → Bytes → Type 0
Parses words grammar text = words ≡ codes "parse" ∷ grammar ∷ text ∷ []

-- the words ask to compile the grammar at a path
abbrev pub Compiles : List Bytes → Bytes → Type 0
Compiles words grammar = words ≡ codes "compile" ∷ grammar ∷ []

-- the words ask to replay the script at a path by the grammar at another, in an order of clients
pub record AsksReplay (words : List Bytes) (grammar script : Bytes) (order : List ℕ) : Type 0 where
  pub word : Bytes
  pub words_are : words ≡ codes "replay" ∷ grammar ∷ script ∷ word ∷ []
  pub spells : Spells word order

-- the words ask to run the script at a path by the grammar at another, all clients at once
abbrev pub AsksRun : List Bytes → Bytes → Bytes → Type 0
AsksRun words grammar script = words ≡ codes "run" ∷ grammar ∷ script ∷ []

-- How the steps of a script's clients are run: on one thread, in this order of their clients; or
-- all clients at once, each on a thread of its own.
pub data Schedule : Type 0 where
  in_order : List ℕ → Schedule
  at_once : Schedule

-- the words ask to run the script at a path by the grammar at another, on this schedule
abbrev pub AsksSession : List Bytes → Bytes → Bytes → Schedule → Type 0
AsksSession words grammar script (in_order order) = AsksReplay words grammar script order
AsksSession words grammar script at_once = AsksRun words grammar script

-- the words have none of the forms
pub record IsUsage (words : List Bytes) : Type 0 where
  pub no_parse : (grammar text : Bytes) → Parses words grammar text → ⊥
  pub no_compile : (grammar : Bytes) → Compiles words grammar → ⊥
  pub no_session : (grammar script : Bytes) (schedule : Schedule)
      → AsksSession words grammar script schedule → ⊥

-- ---- what stands at the paths

-- the words ask to parse, and both files are there
pub record HasBothFiles (files : Files) (words : List Bytes) (grammar text : Bytes)
    (path : Bytes) : Type 0 where
  pub grammar_path : Bytes
  pub parses : Parses words grammar_path path
  pub grammar_is : file_at files grammar_path ≡ Some grammar
  pub text_is : file_at files path ≡ Some text

-- the first of the two paths at which there is no file
pub record IsAbsentPath (files : Files) (words : List Bytes) (path : Bytes) : Type 0 where
  pub grammar_path : Bytes
  pub text_path : Bytes
  pub parses : Parses words grammar_path text_path
  pub first : ((file_at files grammar_path ≡ None) × (path ≡ grammar_path))
      ⊎ ((grammar : Bytes) × (file_at files grammar_path ≡ Some grammar)
      × (file_at files text_path ≡ None) × (path ≡ text_path))

-- ---- lines

-- the line of what a text comes to
abbrev pub outcome_line : FlatGrammar → Bytes → FreshOutcome → Bytes
outcome_line f text o = parse_line (shown_outcome f text o)

-- ---- the answer

-- What a grammar file and a text come to, and what is printed of it: the status and the bytes. The
-- grammar is judged first.
pub data Judged (grammar text path : Bytes) : Status → Bytes → Type 0 where
  large_grammar : most_file_bytes < length grammar
      → Judged grammar text path status.Grammar (limit_line File)
  refused_grammar : (line : Bytes) → length grammar ≤ most_file_bytes
      → IsRefusalLine grammar line → Judged grammar text path status.Grammar line
  too_large : (f : FlatGrammar) → Builds grammar f → most_text_bytes < length text
      → Judged grammar text path status.Text (size_line path)
  no_text : (f : FlatGrammar) (place : ℕ) → Builds grammar f → BreaksAt text place
      → Judged grammar text path status.Text (broken_line path place)
  parsed : (f : FlatGrammar) (o : FreshOutcome) → Builds grammar f → IsText text
      → Fresh f text o → Judged grammar text path status.Done (outcome_line f text o)

-- What a file comes to where it is compiled, and what is printed of it: the status and the bytes.
pub data Compiled (file : Bytes) : Status → Bytes → Type 0 where
  large : most_file_bytes < length file → Compiled file status.Grammar (limit_line File)
  refused : (line : Bytes) → length file ≤ most_file_bytes → IsRefusalLine file line
      → Compiled file status.Grammar line
  written : (bytes : Bytes) → length file ≤ most_file_bytes → IsCompiled file bytes
      → Compiled file status.Done bytes

-- What words that ask to parse or to compile, and the files, come to: the status and the bytes. The
-- files are read first, and then what they hold is judged.
pub data PlainAnswers (files : Files) (words : List Bytes) : Status → Bytes → Type 0 where
  absent : (path : Bytes) → IsAbsentPath files words path
      → PlainAnswers files words status.Absent (absent_line path)
  judged : (grammar text path : Bytes) (ends : Status) (bytes : Bytes)
      → HasBothFiles files words grammar text path
      → Judged grammar text path ends bytes → PlainAnswers files words ends bytes
  lacking : (path : Bytes) → Compiles words path → file_at files path ≡ None
      → PlainAnswers files words status.Absent (absent_line path)
  compiled : (path file : Bytes) (ends : Status) (bytes : Bytes) → Compiles words path
      → file_at files path ≡ Some file → Compiled file ends bytes
      → PlainAnswers files words ends bytes

-- Both files are there, the grammar has a parse table, and the text is one: nothing stands in the
-- way of an outcome.
pub record IsClean (files : Files) (words : List Bytes) : Type 0 where
  pub grammar : Bytes
  pub text : Bytes
  pub path : Bytes
  pub has : HasBothFiles files words grammar text path
  pub form : FlatGrammar
  pub builds : Builds grammar form
  pub is_text : IsText text

-- The words ask to compile a file that is there, is not too large and has a language file.
pub record IsCompilable (files : Files) (words : List Bytes) : Type 0 where
  pub path : Bytes
  pub file : Bytes
  pub compiles : Compiles words path
  pub file_is : file_at files path ≡ Some file
  pub small : length file ≤ most_file_bytes
  pub bytes : Bytes
  pub is_compiled : IsCompiled file bytes

-- ---- scripts

-- The words ask to run a script, and nothing stands in the way of it.
pub record CanPlay (called : List Bytes) (files : Files) (words : List Bytes) : Type 0 where
  pub grammar : Bytes
  pub script : Bytes
  pub schedule : Schedule
  pub asks : AsksSession words grammar script schedule
  pub clear : IsClear called files grammar script

module _ (called : List Bytes) (accepts : ℕ → Bytes → Type 0) where
  -- What the files at the paths of a grammar and a script come to, where the steps are run on this
  -- schedule: the status and the bytes.
  abbrev pub SessionAnswers : Files → Bytes → Bytes → Schedule → Status → Bytes → Type 0
  SessionAnswers files grammar script (in_order order) =
      Replays called accepts files grammar script order
  SessionAnswers files grammar script at_once = Runs called accepts files grammar script

  -- ---- words and files

  -- Words and files come to this status and these bytes. The words are judged first, then the files
  -- are read, and then what they hold is judged.
  pub data Answers (files : Files) (words : List Bytes) : Status → Bytes → Type 0 where
    usage : IsUsage words → Answers files words status.Usage usage_line
    plain : (ends : Status) (bytes : Bytes) → PlainAnswers files words ends bytes
        → Answers files words ends bytes
    played : (grammar script : Bytes) (schedule : Schedule) (ends : Status) (bytes : Bytes)
        → AsksSession words grammar script schedule
        → SessionAnswers files grammar script schedule ends bytes → Answers files words ends bytes

  -- What a call comes to: what the words and the files come to; or an expression in a query of the
  -- script is refused, and the count of refusals rose. The list of expressions that were asked for
  -- was `old`, and is `new`.
  pub data ComesTo (files : Files) (words : List Bytes) (rose : Type 0) (old new : List Bytes)
      : Status → Bytes → Type 0 where
    answered : (ends : Status) (bytes : Bytes) → Answers files words ends bytes
        → ComesTo files words rose old new ends bytes
    unbuilt : (grammar script : Bytes) (schedule : Schedule) (line : Bytes)
        → AsksSession words grammar script schedule → rose
        → IsRegexRefusal called files grammar script old new line
        → ComesTo files words rose old new status.Query line

-- ---- what the sink is given

-- The claim holds of the files, where they are told.
abbrev pub Told : Option Files → (Files → Type 0) → Type 0
Told None claim = Unit {0}
Told (Some files) claim = claim files

-- the new bytes are the old ones and then bytes of which this holds
pub record Writes (Is : Bytes → Type 0) (old new : Option Bytes) : Type 0 where
  pub bytes : Bytes
  pub are : Is bytes
  pub appends : Appends old new bytes

-- the new bytes are the old ones and then a prefix of bytes of which this holds, at some status
pub record WritesPrefix (Is : Status → Bytes → Type 0) (old new : Option Bytes) : Type 0 where
  pub ends : Status
  pub bytes : Bytes
  pub are : Is ends bytes
  pub appends : AppendsPrefix old new bytes
