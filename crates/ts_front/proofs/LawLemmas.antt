-- A file stands for one grammar, or it is refused for one cause.
use Rattle.std.proofs.Common.{◌≡◌, ◌≢◌, ◌∙◌, sym, ap, subst, refl, ℕ, ◌<◌, ◌≤◌, ◌⊎◌, inl, inr, Bool, true, false, List, length, nat_eq, Result, Ok, Err, arith}
use Rattle.std.specs.Prelude.{IfOk, IfErr}
use Rattle.std.specs.List.{starts_with}
use Rattle.ts_base.specs.Bytes.{Bytes}
use Rattle.ts_core.specs.declared.flat.FlatGrammar.{FlatGrammar}
use Rattle.ts_core.specs.declared.limits.Unfit.{Unfit}
use Rattle.ts_core.specs.declared.rule.Grammar.{Grammar}
use Rattle.spec_tables.specs.Fit.{Fit}
use Rattle.ts_ojson.specs.Json.{json_of}
use Rattle.ts_ojson.specs.Reads as json
use Rattle.ts_ojson.specs.declared.fault.OFault.{OFault}
use Rattle.ts_ojson.specs.declared.value.OJson.{OJson}
use Rattle.ts_grammar_json.specs.File as form
use Rattle.ts_grammar_json.specs.declared.fault.GFault.{GFault}
use Rattle.ts_normalise.specs.Refusals.{Flattens, IsRefused}
use Rattle.ts_normalise.specs.declared.fault.NFault.{NFault}
use Rattle.ts_langfile.specs.Spelling.{magic}
use Rattle.ts_langfile.specs.Right as language
use Rattle.ts_langfile.specs.Faults as file
use Rattle.ts_langfile.specs.declared.fault.LangFault.{LangFault}
use Rattle.ts_front.specs.Parts.{PartLaws}
use Rattle.ts_front.specs.Grammars.{IsGrammarFile, IsFormOf, by_grammar_file, by_language_file, IsRefusedFile, too_large, no_json, no_grammar, no_normal_form, wrong_file, no_fit, most_grammar_bytes}
use Rattle.ts_front.specs.declared.fault.GrammarFault.{GrammarFault}
use Rattle.ts_front.specs.declared.fault.GrammarFault.TheVariants.{Json, Form, Normal, Language, Misfit, Memory}

-- no file begins as a language file and does not
either : (w : Bytes) → starts_with nat_eq w magic ≡ true → starts_with nat_eq w magic ≡ false → ⊥
either w a b = let e : true ≡ false = sym a ∙ b in cc

both : (w : Bytes) → length w ≤ most_grammar_bytes → most_grammar_bytes < length w → ⊥
both w a b = omega (arith, a, b)

module _ (l : PartLaws) where
  value_is : (w : Bytes) (g : Grammar) (f : IsGrammarFile w g) (v : OJson) → json.Reads v w → f.value ≡ v
  value_is w g f v r = l.one_value f.value v w f.reads r

  -- what is refused as no grammar is no grammar file
  no_file : (w : Bytes) (g : Grammar) (f : IsGrammarFile w g) (v : OJson) (e : GFault) → json.Reads v w → e ≢ GFault.Memory → form.IsFault e (json_of v) → ⊥
  no_file w g f v e r m x = l.no_grammar e g (json_of v) m x (subst (λ (u : OJson). form.IsGrammar (json_of u) g) (value_is w g f v r) f.grammar)

  pub file_once : (w : Bytes) (g h : Grammar) → IsGrammarFile w g → IsGrammarFile w h → g ≡ h
  file_once w g h a b = l.one_grammar g h (json_of b.value) (subst (λ (u : OJson). form.IsGrammar (json_of u) g) (value_is w g a b.value b.reads) a.grammar) b.grammar

  pub form_once : (w : Bytes) (f h : FlatGrammar) → IsFormOf w f → IsFormOf w h → f ≡ h
  form_once w f h (by_grammar_file g a x) (by_grammar_file k b y) =
      l.one_normal_form k f h (subst (λ (z : Grammar). Flattens z f) (file_once w g k a b) x) y
  form_once w f h (by_grammar_file g a x) (by_language_file b r y) = absurd (either w b a.file.other)
  form_once w f h (by_language_file b r y) (by_grammar_file g a x) = absurd (either w b a.file.other)
  form_once w f h (by_language_file a r x) (by_language_file b s y) = l.one_language f h w r s

  pub refused_has_none : (w : Bytes) (e : GrammarFault) (f : FlatGrammar) → IsRefusedFile w e → IsFormOf w f → ⊥
  refused_has_none w e f (too_large o m) (by_grammar_file g a x) = both w a.file.small m
  refused_has_none w e f (too_large o m) (by_language_file b r y) = either w b o
  refused_has_none w e f (no_json d s m x) (by_grammar_file g a y) = l.no_value d a.value w m x a.reads
  refused_has_none w e f (no_json d s m x) (by_language_file b r y) = either w b s.other
  refused_has_none w e f (no_grammar v d s r m x) (by_grammar_file g a y) = no_file w g a v d r m x
  refused_has_none w e f (no_grammar v d s r m x) (by_language_file b q y) = either w b s.other
  refused_has_none w e f (no_normal_form g d a m x) (by_grammar_file h b y) =
      l.no_normal_form h d f (subst (λ (z : Grammar). IsRefused z d) (file_once w g h a b) x) y
  refused_has_none w e f (no_normal_form g d a m x) (by_language_file b r y) = either w b a.file.other
  refused_has_none w e f (wrong_file d b m n x) (by_grammar_file h a y) = either w b a.file.other
  refused_has_none w e f (wrong_file d b m n x) (by_language_file c r y) = l.no_language d f w m x r y
  refused_has_none w e f (no_fit h c b r x) (by_grammar_file g a y) = either w b a.file.other
  refused_has_none w e f (no_fit h c b r x) (by_language_file d s y) =
      l.no_language (LangFault.Misfit c) f w (λ e. cc) x s y

  pub fault_once : (w : Bytes) (e d : GrammarFault) → IsRefusedFile w e → IsRefusedFile w d → e ≡ d
  fault_once w e d (too_large o m) (too_large p n) = refl
  fault_once w e d (too_large o m) (no_json f s n x) = absurd (both w s.small m)
  fault_once w e d (too_large o m) (no_grammar v f s r n x) = absurd (both w s.small m)
  fault_once w e d (too_large o m) (no_normal_form g f a n x) = absurd (both w a.file.small m)
  fault_once w e d (too_large o m) (wrong_file f b n k x) = absurd (either w b o)
  fault_once w e d (too_large o m) (no_fit f c b r x) = absurd (either w b o)
  fault_once w e d (no_json f s n x) (too_large o m) = absurd (both w s.small m)
  fault_once w e d (no_json f s n x) (no_json h t m y) = ap Json (l.one_json_fault f h w n m x y)
  fault_once w e d (no_json f s n x) (no_grammar v h t r m y) = absurd (l.no_value f v w n x r)
  fault_once w e d (no_json f s n x) (no_normal_form g h a m y) = absurd (l.no_value f a.value w n x a.reads)
  fault_once w e d (no_json f s n x) (wrong_file h b m k y) = absurd (either w b s.other)
  fault_once w e d (no_json f s n x) (no_fit h c b r y) = absurd (either w b s.other)
  fault_once w e d (no_grammar v f s r n x) (too_large o m) = absurd (both w s.small m)
  fault_once w e d (no_grammar v f s r n x) (no_json h t m y) = absurd (l.no_value h v w m y r)
  fault_once w e d (no_grammar v f s r n x) (no_grammar u h t q m y) =
      ap Form (l.one_form_fault f h (json_of u) n m (subst (λ (z : OJson). form.IsFault f (json_of z)) (l.one_value v u w r q) x) y)
  fault_once w e d (no_grammar v f s r n x) (no_normal_form g h a m y) = absurd (no_file w g a v f r n x)
  fault_once w e d (no_grammar v f s r n x) (wrong_file h b m k y) = absurd (either w b s.other)
  fault_once w e d (no_grammar v f s r n x) (no_fit h c b q y) = absurd (either w b s.other)
  fault_once w e d (no_normal_form g f a n x) (too_large o m) = absurd (both w a.file.small m)
  fault_once w e d (no_normal_form g f a n x) (no_json h t m y) = absurd (l.no_value h a.value w m y a.reads)
  fault_once w e d (no_normal_form g f a n x) (no_grammar v h t r m y) = absurd (no_file w g a v h r m y)
  fault_once w e d (no_normal_form g f a n x) (no_normal_form k h b m y) =
      ap Normal (l.one_refusal k f h (subst (λ (z : Grammar). IsRefused z f) (file_once w g k a b) x) y)
  fault_once w e d (no_normal_form g f a n x) (wrong_file h b m k y) = absurd (either w b a.file.other)
  fault_once w e d (no_normal_form g f a n x) (no_fit h c b r y) = absurd (either w b a.file.other)
  fault_once w e d (wrong_file f b n k x) (too_large o m) = absurd (either w b o)
  fault_once w e d (wrong_file f b n k x) (no_json h t m y) = absurd (either w b t.other)
  fault_once w e d (wrong_file f b n k x) (no_grammar v h t r m y) = absurd (either w b t.other)
  fault_once w e d (wrong_file f b n k x) (no_normal_form g h a m y) = absurd (either w b a.file.other)
  fault_once w e d (wrong_file f b n k x) (wrong_file h c m j y) = ap Language (l.one_language_fault f h w n m x y)
  fault_once w e d (wrong_file f b n k x) (no_fit h c t r y) = absurd (k c (l.one_language_fault f (LangFault.Misfit c) w n (λ e. cc) x y))
  fault_once w e d (no_fit f c b r x) (too_large o m) = absurd (either w b o)
  fault_once w e d (no_fit f c b r x) (no_json h t m y) = absurd (either w b t.other)
  fault_once w e d (no_fit f c b r x) (no_grammar v h t q m y) = absurd (either w b t.other)
  fault_once w e d (no_fit f c b r x) (no_normal_form g h a m y) = absurd (either w b a.file.other)
  fault_once w e d (no_fit f c b r x) (wrong_file h t m k y) = absurd (k c (l.one_language_fault h (LangFault.Misfit c) w m (λ e. cc) y x))
  fault_once w e d (no_fit f c b r x) (no_fit h k t q y) =
      same f h c k (l.one_language f h w r q) (l.one_language_fault (LangFault.Misfit c) (LangFault.Misfit k) w (λ e. cc) (λ e. cc) x y)
    where
      same : (f h : FlatGrammar) (c k : Unfit) → f ≡ h → LangFault.Misfit c ≡ LangFault.Misfit k → Misfit f c ≡ Misfit h k
      same f h c k a b = cc

-- a file has one answer
pub record OneAnswer : Type 0 where
  pub form : (w : Bytes) (f h : FlatGrammar) → IsFormOf w f → IsFormOf w h → f ≡ h
  pub fault : (w : Bytes) (e d : GrammarFault) → IsRefusedFile w e → IsRefusedFile w d → e ≡ d
  pub either : (w : Bytes) (e : GrammarFault) (f : FlatGrammar) → IsRefusedFile w e → IsFormOf w f → ⊥

-- what is answered is the one answer there is, unless memory ran out
pub exact_is : OneAnswer → (w : Bytes) (r : Result FlatGrammar GrammarFault) → IfOk r (IsFormOf w) → IfErr r (λ e. (e ≡ Memory) ⊎ IsRefusedFile w e)
    → (e : GrammarFault) → IsRefusedFile w e → (r ≡ Err e) ⊎ (r ≡ Err Memory)
exact_is l w (Ok f) ok err e x = absurd (l.either w e f x ok)
exact_is l w (Err d) ok (inl m) e x = inr (ap (λ z. Err z) m)
exact_is l w (Err d) ok (inr y) e x = inl (ap (λ z. Err z) (l.fault w d e y x))

pub complete_is : OneAnswer → (w : Bytes) (r : Result FlatGrammar GrammarFault) → IfOk r (IsFormOf w) → IfErr r (λ e. (e ≡ Memory) ⊎ IsRefusedFile w e)
    → (f : FlatGrammar) → IsFormOf w f → (r ≡ Ok f) ⊎ (r ≡ Err Memory)
complete_is l w (Ok h) ok err f x = inl (ap (λ z. Ok z) (l.form w h f ok x))
complete_is l w (Err d) ok (inl m) f x = inr (ap (λ z. Err z) m)
complete_is l w (Err d) ok (inr y) f x = absurd (l.either w d f y x)
