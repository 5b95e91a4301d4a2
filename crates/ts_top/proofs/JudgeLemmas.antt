-- What was read of a file, and what it comes to.
use Rattle.std.proofs.Common.{◌≡◌, ◌∙◌, sym, ap, subst, refl, ℕ, length, Option, Some, None, Result, Ok, Err, Vec, ◌↔◌, ◌<◌, String, string_bytes, option_map}
use Rattle.std.specs.declared.alloc.Global.{Global}
use Rattle.std.specs.Result.{IfOk, IfErr, IsErrOf}
use Rattle.ts_base.specs.Bytes.{Bytes}
use Rattle.ts_core.specs.declared.flat.FlatGrammar.{FlatGrammar}
use Rattle.ts_core.specs.declared.limits.Limited.TheVariants.{File}
use Rattle.spec_output.specs.Faults.{text_fault_line}
use Rattle.spec_output.specs.GrammarFaults.{limit_line}
use Rattle.spec_output.specs.declared.status.Status.{Status}
use Rattle.spec_output.specs.declared.status.Status.TheVariants as status
use Rattle.spec_runs.specs.Outcomes.{FreshOutcome, Fresh}
use Rattle.ts_io.specs.Read.{AnswersFor}
use Rattle.ts_io.specs.declared.folder.Found.{Found}
use Rattle.ts_io.specs.declared.folder.Found.TheVariants as variant
use Rattle.ts_text.specs.Text.{IsText, BreaksAt}
use Rattle.ts_text.specs.declared.text.TextFault.{TextFault}
use Rattle.ts_text.specs.declared.text.TextFault.TheVariants.{Size, Utf8, Memory}
use Rattle.ts_session.specs.Limits.{most_file_bytes, most_text_bytes}
use Rattle.ts_session.specs.Grammars.{Builds}
use Rattle.ts_top.specs.Answer.{Judged, large_grammar, too_large, no_text, parsed, Compiled, large, outcome_line}
use Rattle.ts_front.specs.Compiled.{IsRefusalLine, IsUncompiled}
use Rattle.ts_front.specs.declared.compile.Uncompiled.{Uncompiled}
use Rattle.ts_front.specs.declared.compile.Uncompiled.TheVariants.{Refused}
use Rattle.ts_session.specs.Firsts.{IsTextFault}
use Rattle.ts_top.specs.Stops.{AreRead}
use Rattle.ts_session.specs.declared.answer.Answer.{Answer}
use Rattle.ts_top.specs.declared.stop.Stop.{Stop}

-- the bytes that were read are those of the file
pub read_is : (file : Found) (held : Vec ℕ Global) (limit : ℕ) (bytes found : Bytes) → file ≡ variant.Bytes held → found ≡ held.items → AnswersFor (Some bytes) limit file → found ≡ bytes
read_is file held limit bytes found is same answers =
    let h : Some bytes ≡ Some held.items = subst (λ (f : Found). AnswersFor (Some bytes) limit f) is answers in
    let e : bytes ≡ held.items = cc in
    same ∙ sym e

text_fault : (result : Result Bytes TextFault) (found : Bytes)
    → ((n : ℕ) → IsErrOf result (Size n) ↔ ((n ≡ length found) × (most_text_bytes < length found)))
    → ((n : ℕ) → IsErrOf result (Utf8 n) ↔ BreaksAt found n)
    → IfErr result (λ fault. IsTextFault found fault)
text_fault (Ok text) found sizes breaks = tt
text_fault (Err (Size n)) found sizes breaks = ((sizes n).0 refl).1
text_fault (Err (Utf8 n)) found sizes breaks = (breaks n).0 refl
text_fault (Err Memory) found sizes breaks = tt

fault_as_read : (result : Result Bytes TextFault) (file : Found) (held : Vec ℕ Global) (found : Bytes) → file ≡ variant.Bytes held → found ≡ held.items → IfErr result (λ fault. IsTextFault found fault)
    → IfErr result (λ fault. (bytes : Bytes) → AnswersFor (Some bytes) most_text_bytes file → IsTextFault bytes fault)
fault_as_read (Ok text) file held found is same h = tt
fault_as_read (Err fault) file held found is same h = λ bytes answers. subst (λ (b : Bytes). IsTextFault b fault) (read_is file held most_text_bytes bytes found is same answers) h

pub text_faults : (result : Result Bytes TextFault) (file : Found) (held : Vec ℕ Global) (found : Bytes) → file ≡ variant.Bytes held → found ≡ held.items
    → ((n : ℕ) → IsErrOf result (Size n) ↔ ((n ≡ length found) × (most_text_bytes < length found)))
    → ((n : ℕ) → IsErrOf result (Utf8 n) ↔ BreaksAt found n)
    → IfErr result (λ fault. (bytes : Bytes) → AnswersFor (Some bytes) most_text_bytes file → IsTextFault bytes fault)
text_faults result file held found is same sizes breaks = fault_as_read result file held found is same (text_fault result found sizes breaks)

-- ---- answers of what was read

-- what is answered of the bytes that were read, or of too many
pub compiled_read : (found : Found) (held : Vec ℕ Global) (slice : Bytes) (ends : Status) (bytes : Bytes) → found ≡ variant.Bytes held → slice ≡ held.items → Compiled slice ends bytes
    → (file : Bytes) → AnswersFor (Some file) most_file_bytes found → Compiled file ends bytes
compiled_read found held slice ends bytes is same j file answers = subst (λ (w : Bytes). Compiled w ends bytes) (read_is found held most_file_bytes file slice is same answers) j

pub over : (found : Found) (file : Bytes) → found ≡ variant.Over → AnswersFor (Some file) most_file_bytes found → most_file_bytes < length file
over found file is answers = subst (λ (f : Found). AnswersFor (Some file) most_file_bytes f) is answers

pub no_absence : (found : Found) (limit : ℕ) (file : Bytes) → found ≡ variant.Absent → AnswersFor (Some file) limit found → ⊥
no_absence found limit file is answers = let e : Some file ≡ None = subst (λ (f : Found). AnswersFor (Some file) limit f) is answers in let never : ⊥ = cc in never

pub compiled_over : (found : Found) (ends : Status) (bytes : Bytes) → found ≡ variant.Over → ends ≡ status.Grammar → bytes ≡ limit_line File
    → (file : Bytes) → AnswersFor (Some file) most_file_bytes found → Compiled file ends bytes
compiled_over found ends bytes is s b file answers =
    subst (λ (e : Status). Compiled file e bytes) (sym s) (subst (λ (w : Bytes). Compiled file status.Grammar w) (sym b) (large (over found file is answers)))

pub judged_over : (grammar text : Found) (path : Bytes) (ends : Status) (bytes : Bytes) → grammar ≡ variant.Over → ends ≡ status.Grammar → bytes ≡ limit_line File
    → (g t : Bytes) → AreRead grammar text g t → Judged g t path ends bytes
judged_over grammar text path ends bytes is s b g t are =
    subst (λ (e : Status). Judged g t path e bytes) (sym s) (subst (λ (w : Bytes). Judged g t path status.Grammar w) (sym b) (large_grammar (over grammar g is are.grammar_is)))

-- the line of bytes that are no text
pub no_text_judged : (g t path : Bytes) (f : FlatGrammar) (fault : TextFault) (found : Option (String Global)) (line : String Global) → Builds g f → IsTextFault t fault
    → option_map string_bytes found ≡ text_fault_line path fault → found ≡ Some line → Judged g t path status.Text (string_bytes line)
no_text_judged g t path f fault found line b h is at = by fault h (sym (ap (option_map string_bytes) at) ∙ is)
  where
    by : (fault : TextFault) → IsTextFault t fault → Some (string_bytes line) ≡ text_fault_line path fault → Judged g t path status.Text (string_bytes line)
    by (Size n) h e = subst (λ (w : Bytes). Judged g t path status.Text w) (sym (inside _ _ e)) (too_large f b h)
      where
        inside : (v w : Bytes) → Some v ≡ Some w → v ≡ w
        inside v w e = cc
    by (Utf8 place) h e = subst (λ (w : Bytes). Judged g t path status.Text w) (sym (inside _ _ e)) (no_text f place b h)
      where
        inside : (v w : Bytes) → Some v ≡ Some w → v ≡ w
        inside v w e = cc
    by Memory h e = absurd cc

-- the line of an outcome
pub parsed_judged : (g t path line : Bytes) (f : FlatGrammar) → Builds g f → IsText t → ((o : FreshOutcome) × Fresh f t o × (line ≡ outcome_line f t o)) → Judged g t path status.Done line
parsed_judged g t path line f b is told = subst (λ (w : Bytes). Judged g t path status.Done w) (sym told.2) (parsed f told.0 b is told.1)

-- the line that is printed of an outcome
pub line_told : (f g : FlatGrammar) (text : Bytes) (o : FreshOutcome) (line : String Global) → g ≡ f → Fresh f text o → string_bytes line ≡ outcome_line g text o
    → (q : FreshOutcome) × Fresh f text q × (string_bytes line ≡ outcome_line f text q)
line_told f g text o line same fresh is = (o, fresh, is ∙ ap (λ (h : FlatGrammar). outcome_line h text o) same)

-- ---- results

pub text_judged : (g t text path : Bytes) (s : Status) (bytes : Bytes) → (text ≡ t) × IsText t → s ≡ status.Done → (IsText text → Judged g text path status.Done bytes) → Judged g t path s bytes
text_judged g t text path s bytes is ends j =
    subst (λ (e : Status). Judged g t path e bytes) (sym ends)
    (subst (λ (x : Bytes). Judged g x path status.Done bytes) is.0 (j (subst IsText (sym is.0) is.1)))

pub no_text_ok : (r : Result Answer Stop) (h : FlatGrammar) (found : Found) (path : Bytes) (fault : TextFault)
    → ((bytes : Bytes) → AnswersFor (Some bytes) most_text_bytes found → IsTextFault bytes fault)
    → IfOk r (λ a. (g t : Bytes) (f : FlatGrammar) → Builds g f → IsTextFault t fault → Judged g t path a.status a.bytes.items)
    → IfOk r (λ a. (g t : Bytes) → Builds g h → AnswersFor (Some t) most_text_bytes found → Judged g t path a.status a.bytes.items)
no_text_ok (Ok a) h found path fault faults j = λ g t b answers. j g t h b (faults t answers)
no_text_ok (Err s) h found path fault faults j = tt

pub by_table_ok : (r : Result Answer Stop) (g : Bytes) (h : FlatGrammar) (found : Found) (path : Bytes) → Builds g h
    → IfOk r (λ a. (w t : Bytes) → Builds w h → AnswersFor (Some t) most_text_bytes found → Judged w t path a.status a.bytes.items)
    → IfOk r (λ a. (t : Bytes) → AnswersFor (Some t) most_text_bytes found → Judged g t path a.status a.bytes.items)
by_table_ok (Ok a) g h found path b j = λ t answers. j g t b answers
by_table_ok (Err s) g h found path b j = tt

pub by_grammar_ok : (r : Result Answer Stop) (grammar text : Found) (held : Vec ℕ Global) (slice path : Bytes) → grammar ≡ variant.Bytes held → slice ≡ held.items
    → IfOk r (λ a. (t : Bytes) → AnswersFor (Some t) most_text_bytes text → Judged slice t path a.status a.bytes.items)
    → IfOk r (λ a. (g t : Bytes) → AreRead grammar text g t → Judged g t path a.status a.bytes.items)
by_grammar_ok (Ok a) grammar text held slice path is same j = λ g t are. subst (λ (w : Bytes). Judged w t path a.status a.bytes.items) (read_is grammar held most_file_bytes g slice is same are.grammar_is) (j t are.text_is)
by_grammar_ok (Err s) grammar text held slice path is same j = tt

pub answer_of_ok : (r : Result Answer Stop) (found : Found) (held : Vec ℕ Global) (slice : Bytes) → found ≡ variant.Bytes held → slice ≡ held.items
    → IfOk r (λ a. Compiled slice a.status a.bytes.items) → IfOk r (λ a. (file : Bytes) → AnswersFor (Some file) most_file_bytes found → Compiled file a.status a.bytes.items)
answer_of_ok (Ok a) found held slice is same j = λ file answers. compiled_read found held slice a.status a.bytes.items is same j file answers
answer_of_ok (Err s) found held slice is same j = tt

-- what a refusal says
pub refusal_is : (w : Bytes) (e : Uncompiled) (line : String Global) → e ≡ Refused line → IsUncompiled w e → IsRefusalLine w (string_bytes line)
refusal_is w e line is h = subst (IsUncompiled w) is h
