-- The words' paths, what the reads and the judgement of plain words come to.
use Rattle.std.proofs.Common.{◌≡◌, sym, subst, refl, ℕ, ◌≤◌, inl, inr, List, [], ◌∷◌, length, get_or, Option, Some, None, Result, Ok, Err, String, string_bytes, arith}
use Rattle.std.specs.declared.alloc.Global.{Global}
use Rattle.std.specs.Result.{IfOk, IfErr}
use Rattle.ts_base.specs.Bytes.{Bytes}
use Rattle.spec_output.specs.Faults.{absent_line}
use Rattle.spec_output.specs.declared.status.Status.{Status}
use Rattle.spec_output.specs.declared.status.Status.TheVariants as status
use Rattle.ts_io.specs.Outside.{Files, file_at, Rose}
use Rattle.ts_io.specs.Read.{AnswersFor}
use Rattle.ts_io.specs.declared.folder.Found.{Found}
use Rattle.ts_session.specs.declared.answer.Answer.{Answer}
use Rattle.ts_session.specs.Limits.{most_file_bytes, most_text_bytes}
use Rattle.ts_session.specs.Replays.{IsJudged}
use Rattle.ts_top.specs.Answer.{texts, Parses, Compiles, Compiled, Judged, PlainAnswers, absent, judged, lacking, compiled, Told}
use Rattle.ts_top.specs.Stops.{IsPlain, Stopped, AreRead, IsThere, ReadStopped}
use Rattle.ts_top.specs.declared.stop.Stop.{Stop}
use Rattle.ts_top.specs.declared.stop.Stop.TheVariants.{Usage, Absent, Read, Memory}

-- ---- words

pub three_texts : (ws : List (String Global)) (a b d : String Global) → length ws ≡ 3 → a ≡ get_or ws 0 a → b ≡ get_or ws 1 b → d ≡ get_or ws 2 d
    → texts ws ≡ string_bytes a ∷ string_bytes b ∷ string_bytes d ∷ []
three_texts [] a b d h p q r = absurd (omega arith)
three_texts (x ∷ []) a b d h p q r = absurd (omega arith)
three_texts (x ∷ y ∷ []) a b d h p q r = absurd (omega arith)
three_texts (x ∷ y ∷ z ∷ []) a b d h p q r = cc
three_texts (x ∷ y ∷ z ∷ v ∷ ws) a b d h p q r = absurd (omega arith)

pub two_texts : (ws : List (String Global)) (a b : String Global) → length ws ≡ 2 → a ≡ get_or ws 0 a → b ≡ get_or ws 1 b → texts ws ≡ string_bytes a ∷ string_bytes b ∷ []
two_texts [] a b h p q = absurd (omega arith)
two_texts (x ∷ []) a b h p q = absurd (omega arith)
two_texts (x ∷ y ∷ []) a b h p q = cc
two_texts (x ∷ y ∷ z ∷ ws) a b h p q = absurd (omega arith)

pub four_texts : (ws : List (String Global)) (a b d e : String Global) → length ws ≡ 4 → a ≡ get_or ws 0 a → b ≡ get_or ws 1 b → d ≡ get_or ws 2 d → e ≡ get_or ws 3 e
    → texts ws ≡ string_bytes a ∷ string_bytes b ∷ string_bytes d ∷ string_bytes e ∷ []
four_texts [] a b d e h p q r s = absurd (omega arith)
four_texts (x ∷ []) a b d e h p q r s = absurd (omega arith)
four_texts (x ∷ y ∷ []) a b d e h p q r s = absurd (omega arith)
four_texts (x ∷ y ∷ z ∷ []) a b d e h p q r s = absurd (omega arith)
four_texts (x ∷ y ∷ z ∷ v ∷ []) a b d e h p q r s = cc
four_texts (x ∷ y ∷ z ∷ v ∷ w ∷ ws) a b d e h p q r s = absurd (omega arith)

-- ---- reads

pub rose_from : (a b c : ℕ) → a ≤ b → Rose b c → Rose a c
rose_from a b c le rose = omega (arith, le, rose)

no_grammar : (files : Option Files) (words : List Bytes) (g t path : Bytes) → Parses words g t → path ≡ g → Told files (λ known. file_at known g ≡ None)
    → Told files (λ known. PlainAnswers known words status.Absent (absent_line path))
no_grammar None words g t path p same h = tt
no_grammar (Some known) words g t path p same h = absent path (record { grammar_path = g; text_path = t; parses = p; first = inl (h, same) })

no_file : (files : Option Files) (words : List Bytes) (g t path : Bytes) (limit : ℕ) (found : Found) → Parses words g t → path ≡ t → Told files (IsThere g limit found) → Told files (λ known. file_at known t ≡ None)
    → Told files (λ known. PlainAnswers known words status.Absent (absent_line path))
no_file None words g t path limit found p same there h = tt
no_file (Some known) words g t path limit found p same there h = absent path (record { grammar_path = g; text_path = t; parses = p; first = inr (there.bytes, there.at, h, same) })

-- the read of the grammar file stops
pub grammar_stopped : (files : Option Files) (words : List Bytes) (g t : Bytes) (rose : Type 0) (s : Stop) → Parses words g t → ReadStopped files g rose s → Stopped files words rose s
grammar_stopped files words g t rose Usage p h = absurd h
grammar_stopped files words g t rose (Absent at) p h = ((λ u. u.no_parse g t p), no_grammar files words g t at.now p h.0 h.1)
grammar_stopped files words g t rose Read p h = (h, (λ u. u.no_parse g t p))
grammar_stopped files words g t rose Memory p h = tt

-- the read of the text stops, once that of the grammar file is done
pub text_stopped : (files : Option Files) (words : List Bytes) (g t : Bytes) (limit : ℕ) (found : Found) (before rose : Type 0) (s : Stop) → Parses words g t
    → Told files (IsThere g limit found) → (before → rose) → ReadStopped files t before s → Stopped files words rose s
text_stopped files words g t limit found before rose Usage p there on h = absurd h
text_stopped files words g t limit found before rose (Absent at) p there on h = ((λ u. u.no_parse g t p), no_file files words g t at.now limit found p h.0 there h.1)
text_stopped files words g t limit found before rose Read p there on h = (on h, (λ u. u.no_parse g t p))
text_stopped files words g t limit found before rose Memory p there on h = tt

lacking_told : (files : Option Files) (words : List Bytes) (path at : Bytes) → Compiles words path → at ≡ path → Told files (λ known. file_at known path ≡ None)
    → Told files (λ known. PlainAnswers known words status.Absent (absent_line at))
lacking_told None words path at c same h = tt
lacking_told (Some known) words path at c same h = subst (λ (p : Bytes). PlainAnswers known words status.Absent (absent_line p)) (sym same) (lacking path c h)

-- the read of the file that is compiled stops
pub compile_stopped : (files : Option Files) (words : List Bytes) (path : Bytes) (rose : Type 0) (s : Stop) → Compiles words path → ReadStopped files path rose s → Stopped files words rose s
compile_stopped files words path rose Usage c h = absurd h
compile_stopped files words path rose (Absent at) c h = ((λ u. u.no_compile path c), lacking_told files words path at.now c h.0 h.1)
compile_stopped files words path rose Read c h = (h, (λ u. u.no_compile path c))
compile_stopped files words path rose Memory c h = tt

-- a stop where memory runs out says nothing
pub memory_stopped : {T : Type 0} (files : Option Files) (words : List Bytes) (rose : Type 0) (r : Result T Stop) → IfErr r (λ s. s ≡ Memory) → IfErr r (Stopped files words rose)
memory_stopped files words rose (Ok t) h = tt
memory_stopped files words rose (Err s) h = subst (Stopped files words rose) (sym h) tt

-- ---- the judgement

told_judged : (files : Option Files) (words : List Bytes) (g t : Found) (gp tp : Bytes) (ends : Status) (bytes : Bytes) → Parses words gp tp
    → Told files (IsThere gp most_file_bytes g) → Told files (IsThere tp most_text_bytes t)
    → ((gb tb : Bytes) → AreRead g t gb tb → Judged gb tb tp ends bytes) → Told files (λ known. PlainAnswers known words ends bytes)
told_judged None words g t gp tp ends bytes p one two j = tt
told_judged (Some known) words g t gp tp ends bytes p one two j =
    judged one.bytes two.bytes tp ends bytes (record { grammar_path = gp; parses = p; grammar_is = one.at; text_is = two.at }) (j one.bytes two.bytes (record { grammar_is = one.answers; text_is = two.answers }))

judge_answers : (files : Option Files) (words : List Bytes) (g t : Found) (gp tp : Bytes) (ends : Status) (bytes : Bytes) → Parses words gp tp
    → Told files (IsThere gp most_file_bytes g) → Told files (IsThere tp most_text_bytes t) → IsJudged ends
    → ((gb tb : Bytes) → AreRead g t gb tb → Judged gb tb tp ends bytes) → IsPlain files words ends bytes
judge_answers files words g t gp tp ends bytes p one two is j = record { judged = is; form = λ u. u.no_parse gp tp p; answers = told_judged files words g t gp tp ends bytes p one two j }

told_compiled : (files : Option Files) (words : List Bytes) (path : Bytes) (found : Found) (ends : Status) (bytes : Bytes) → Compiles words path → Told files (IsThere path most_file_bytes found)
    → ((file : Bytes) → AnswersFor (Some file) most_file_bytes found → Compiled file ends bytes) → Told files (λ known. PlainAnswers known words ends bytes)
told_compiled None words path found ends bytes c there j = tt
told_compiled (Some known) words path found ends bytes c there j = compiled path there.bytes ends bytes c there.at (j there.bytes there.answers)

compile_answers : (files : Option Files) (words : List Bytes) (path : Bytes) (found : Found) (ends : Status) (bytes : Bytes) → Compiles words path → Told files (IsThere path most_file_bytes found)
    → IsJudged ends → ((file : Bytes) → AnswersFor (Some file) most_file_bytes found → Compiled file ends bytes) → IsPlain files words ends bytes
compile_answers files words path found ends bytes c there is j = record { judged = is; form = λ u. u.no_compile path c; answers = told_compiled files words path found ends bytes c there j }

-- ---- results

pub compiled_ok : (r : Result Answer Stop) (files : Option Files) (words : List Bytes) (path : Bytes) (found : Found) → Compiles words path → Told files (IsThere path most_file_bytes found)
    → IfOk r (λ a. IsJudged a.status) → IfOk r (λ a. (file : Bytes) → AnswersFor (Some file) most_file_bytes found → Compiled file a.status a.bytes.items)
    → IfOk r (λ a. IsPlain files words a.status a.bytes.items)
compiled_ok (Ok a) files words path found c there is j = compile_answers files words path found a.status a.bytes.items c there is j
compiled_ok (Err s) files words path found c there is j = tt

pub judged_ok : (r : Result Answer Stop) (files : Option Files) (words : List Bytes) (g t : Found) (gp tp : Bytes) → Parses words gp tp
    → Told files (IsThere gp most_file_bytes g) → Told files (IsThere tp most_text_bytes t)
    → IfOk r (λ a. IsJudged a.status) → IfOk r (λ a. (gb tb : Bytes) → AreRead g t gb tb → Judged gb tb tp a.status a.bytes.items)
    → IfOk r (λ a. IsPlain files words a.status a.bytes.items)
judged_ok (Ok a) files words g t gp tp p one two is j = judge_answers files words g t gp tp a.status a.bytes.items p one two is j
judged_ok (Err s) files words g t gp tp p one two is j = tt
