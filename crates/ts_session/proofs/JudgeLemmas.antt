-- What refused parts of a replay come to, line by line.
use Rattle.std.proofs.Common.{◌≡◌, ◌≢◌, ◌∙◌, sym, ap, subst, refl, ℕ, ◌<◌, List, length, Option, Some, None, option_map, Result, Ok, Err, String, string_bytes, ◌↔◌, Bool, true, false}
use Rattle.std.specs.Result.{IfOk, IsErrOf}
use Rattle.std.specs.Bool.{IsTrue}
use Rattle.std.specs.declared.alloc.Global.{Global}
use Rattle.ts_base.specs.Bytes.{Bytes}
use Rattle.spec_output.specs.Faults.{text_fault_line, broken_line}
use Rattle.spec_output.specs.declared.status.Status.{Status}
use Rattle.ts_io.specs.Outside.{Files, file_at}
use Rattle.ts_io.specs.Read.{AnswersFor}
use Rattle.ts_io.specs.declared.folder.Found.{Found}
use Rattle.ts_io.specs.declared.folder.Found.TheVariants.{Over}
use Rattle.ts_text.specs.Text.{BreaksAt}
use Rattle.ts_text.specs.declared.text.TextFault.{TextFault}
use Rattle.ts_text.specs.declared.text.TextFault.TheVariants.{Utf8, Size, Memory}
use Rattle.ts_replies.specs.Faults.{script_fault_line}
use Rattle.ts_script.specs.declared.fault.SFault.{SFault}
use Rattle.ts_script.specs.declared.fault.SFault.TheVariants.{Memory as no_memory_left}
use Rattle.ts_script.specs.declared.plan.Source.TheVariants as source
use Rattle.ts_session.specs.Documents.{IsTextRefusal, too_large, broken}
use Rattle.ts_session.specs.Firsts.{IsTextFault, HasNoText, IsOpening}
use Rattle.ts_session.specs.declared.openings.Opening.{Opening}
use Rattle.std.specs.declared.alloc.AllocError.{AllocError}
use Rattle.ts_session.specs.Grammars.{size_line}
use Rattle.ts_session.specs.Limits.{most_text_bytes}
use Rattle.ts_session.proofs.DocumentLemmas.{same_some, none_there}

-- ---- faults

-- a line that is told is that of the fault, which is not that memory ran out
pub no_memory : (fault : SFault) (line : Bytes) → script_fault_line fault ≡ Some line → fault ≢ no_memory_left
no_memory fault line told e = none_there line (script_fault_line no_memory_left) refl (ap script_fault_line (sym e) ∙ told)

-- the bytes of a line that was found are those that are told
pub line_told : (found : Option (String Global)) (line : String Global) (told : Option Bytes) (bytes : Bytes) → option_map string_bytes found ≡ told → found ≡ Some line → bytes ≡ string_bytes line → told ≡ Some bytes
line_told found line told bytes is some same = sym is ∙ ap (option_map string_bytes) some ∙ ap Some (sym same)

-- ---- texts

refusal_of : (path bytes line : Bytes) (fault : TextFault) → IsTextFault bytes fault → text_fault_line path fault ≡ Some line → IsTextRefusal path bytes line
refusal_of path bytes line (Size n) is e = subst (IsTextRefusal path bytes) (same_some (text_fault_line path (Size n)) (size_line path) line refl e) (too_large is)
refusal_of path bytes line (Utf8 place) is e = subst (IsTextRefusal path bytes) (same_some (text_fault_line path (Utf8 place)) (broken_line path place) line refl e) (broken place is)
refusal_of path bytes line Memory is e = absurd (none_there line None refl e)

pub text_refused : (files : Files) (path bytes : Bytes) (fault : TextFault) (found : Option (String Global)) (line : String Global) → file_at files path ≡ Some bytes → IsTextFault bytes fault
    → option_map string_bytes found ≡ text_fault_line path fault → found ≡ Some line → HasNoText files (source.Path path) (string_bytes line)
text_refused files path bytes fault found line at is told some = record {
  path = path;
  bytes = bytes;
  is_from = refl;
  file_is = at;
  refusal = refusal_of path bytes (string_bytes line) fault is (sym told ∙ ap (option_map string_bytes) some);
}

-- why bytes are no text
pub text_fault : (r : Result Bytes TextFault) (bytes : Bytes) (fault : TextFault) → r ≡ Err fault → ((n : ℕ) → IsErrOf r (Size n) ↔ ((n ≡ length bytes) × (most_text_bytes < length bytes)))
    → ((n : ℕ) → IsErrOf r (Utf8 n) ↔ BreaksAt bytes n) → IsTextFault bytes fault
text_fault r bytes (Size n) is sizes breaks = ((sizes n).0 (subst (λ (q : Result Bytes TextFault). IsErrOf q (Size n)) (sym is) refl)).1
text_fault r bytes (Utf8 n) is sizes breaks = (breaks n).0 (subst (λ (q : Result Bytes TextFault). IsErrOf q (Utf8 n)) (sym is) refl)
text_fault r bytes Memory is sizes breaks = tt

-- the refusal of bytes that a file has
pub of_bytes : (r : Result Opening AllocError) (path bytes : Bytes) (fault : TextFault) → IsTextFault bytes fault
    → IfOk r (λ o. (files : Files) (w : Bytes) → file_at files path ≡ Some w → IsTextFault w fault → IsOpening files (source.Path path) o)
    → IfOk r (λ o. (files : Files) → file_at files path ≡ Some bytes → IsOpening files (source.Path path) o)
of_bytes (Ok o) path bytes fault is h = λ files at. h files bytes at is
of_bytes (Err e) path bytes fault is h = tt

-- ---- answers

-- a status and bytes, in the place of equal ones
pub moved : (R : Status → Bytes → Type 0) (s t : Status) (b c : Bytes) → s ≡ t → b ≡ c → R t c → R s b
moved R s t b c status bytes r = subst (λ (e : Status). R e b) (sym status) (subst (R t) (sym bytes) r)

-- what is known of a result, in the place of something stronger
pub ok_then : {T E : Type 0} (r : Result T E) (P Q : T → Type 0) → ((t : T) → P t → Q t) → IfOk r P → IfOk r Q
ok_then (Ok t) P Q f h = f t h
ok_then (Err e) P Q f h = tt

-- ---- reads

pub over : (found : Found) (limit : ℕ) (file : Bytes) → found ≡ Over → AnswersFor (Some file) limit found → limit < length file
over found limit file is answers = subst (λ (f : Found). AnswersFor (Some file) limit f) is answers
