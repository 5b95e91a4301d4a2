-- What the fault of a part says of the file.
use Rattle.std.proofs.Common.{◌≡◌, ◌≢◌, sym, subst, refl, ◌⊎◌, inl, inr, List, Option, Some, Ok}
use Rattle.std.specs.Prelude.{IfSome}
use Rattle.ts_base.specs.Bytes.{Bytes}
use Rattle.ts_core.specs.declared.flat.FlatGrammar.{FlatGrammar}
use Rattle.ts_core.specs.declared.limits.Unfit.{Unfit}
use Rattle.ts_core.specs.declared.rule.Grammar.{Grammar}
use Rattle.ts_ojson.specs.Json.{json_of}
use Rattle.ts_ojson.specs.Reads as json_reads
use Rattle.ts_ojson.specs.declared.fault.OFault.{OFault}
use Rattle.ts_ojson.specs.declared.fault.OFault.TheVariants as json
use Rattle.ts_ojson.specs.declared.value.OJson.{OJson}
use Rattle.ts_grammar_json.specs.File as form_file
use Rattle.ts_grammar_json.specs.declared.fault.GFault.{GFault}
use Rattle.ts_grammar_json.specs.declared.fault.GFault.TheVariants as form
use Rattle.ts_normalise.specs.Refusals.{IsRefused}
use Rattle.ts_normalise.specs.declared.fault.NFault.{NFault}
use Rattle.ts_normalise.specs.declared.fault.NFault.TheVariants as normal
use Rattle.ts_fit.specs.Misfits.{Misfits}
use Rattle.ts_langfile.specs.Verdict.{verdict, ReturnsVerdict}
use Rattle.ts_langfile.specs.Faults as language_file
use Rattle.ts_langfile.specs.declared.fault.LangFault.{LangFault}
use Rattle.ts_langfile.specs.declared.fault.LangFault.TheVariants as language
use Rattle.ts_front.specs.Gives.{json_fault, form_fault, normal_fault, language_fault}
use Rattle.ts_front.specs.Grammars.{IsGrammarFile, IsLanguageFile, IsRefusedFile, IsSmallFile, no_json, no_grammar, no_normal_form, wrong_file}
use Rattle.ts_front.specs.declared.fault.GrammarFault.{GrammarFault}
use Rattle.ts_front.specs.declared.fault.GrammarFault.TheVariants.{Memory}

-- out of memory, or refused for this
abbrev pub Refuses : Bytes → GrammarFault → Type 0
Refuses w e = (e ≡ Memory) ⊎ IsRefusedFile w e

pub json_refuses : (w : Bytes) (e : OFault) → IsSmallFile w → json_reads.IsFault e w → Refuses w (json_fault e)
json_refuses w json.Memory s f = inl refl
json_refuses w (json.Syntax p) s f = inr (no_json (json.Syntax p) s (λ e. cc) f)
json_refuses w (json.Utf8 p) s f = inr (no_json (json.Utf8 p) s (λ e. cc) f)
json_refuses w (json.Deep p) s f = inr (no_json (json.Deep p) s (λ e. cc) f)
json_refuses w (json.Duplicate p) s f = inr (no_json (json.Duplicate p) s (λ e. cc) f)

pub form_refuses : (w : Bytes) (v : OJson) (e : GFault) → IsSmallFile w → json_reads.Reads v w → form_file.IsFault e (json_of v) → Refuses w (form_fault e)
form_refuses w v form.Memory s r f = inl refl
form_refuses w v (form.Missing p) s r f = inr (no_grammar v (form.Missing p) s r (λ e. cc) f)
form_refuses w v (form.Wrong p) s r f = inr (no_grammar v (form.Wrong p) s r (λ e. cc) f)
form_refuses w v (form.UnknownType p) s r f = inr (no_grammar v (form.UnknownType p) s r (λ e. cc) f)
form_refuses w v form.External s r f = inr (no_grammar v form.External s r (λ e. cc) f)
form_refuses w v form.Reserved s r f = inr (no_grammar v form.Reserved s r (λ e. cc) f)
form_refuses w v (form.Limit l) s r f = inr (no_grammar v (form.Limit l) s r (λ e. cc) f)

pub normal_refuses : (w : Bytes) (g : Grammar) (e : NFault) → IsGrammarFile w g → (e ≢ normal.Memory → IsRefused g e) → Refuses w (normal_fault e)
normal_refuses w g normal.Memory s f = inl refl
normal_refuses w g (normal.Undefined n) s f = inr (no_normal_form g (normal.Undefined n) s (λ e. cc) (f (λ e. cc)))
normal_refuses w g (normal.EmptyRule n) s f = inr (no_normal_form g (normal.EmptyRule n) s (λ e. cc) (f (λ e. cc)))
normal_refuses w g (normal.EmptyToken n) s f = inr (no_normal_form g (normal.EmptyToken n) s (λ e. cc) (f (λ e. cc)))
normal_refuses w g (normal.BadInline n) s f = inr (no_normal_form g (normal.BadInline n) s (λ e. cc) (f (λ e. cc)))
normal_refuses w g (normal.SymbolInToken n) s f = inr (no_normal_form g (normal.SymbolInToken n) s (λ e. cc) (f (λ e. cc)))
normal_refuses w g (normal.Cyclic n) s f = inr (no_normal_form g (normal.Cyclic n) s (λ e. cc) (f (λ e. cc)))
normal_refuses w g (normal.NonTerminalExtra n) s f = inr (no_normal_form g (normal.NonTerminalExtra n) s (λ e. cc) (f (λ e. cc)))
normal_refuses w g (normal.Limit l) s f = inr (no_normal_form g (normal.Limit l) s (λ e. cc) (f (λ e. cc)))
normal_refuses w g (normal.BadWord n) s f = inr (no_normal_form g (normal.BadWord n) s (λ e. cc) (f (λ e. cc)))
normal_refuses w g (normal.Pattern n c) s f = inr (no_normal_form g (normal.Pattern n c) s (λ e. cc) (f (λ e. cc)))

-- a fault of the fields of a language file, which is no misfit
pub fields_refuse : (w : Bytes) (e : LangFault) → IsLanguageFile w → ((cause : Unfit) → e ≢ language.Misfit cause) → language_file.IsFault e w → Refuses w (language_fault e)
fields_refuse w language.Memory s m f = inl refl
fields_refuse w language.Magic s m f = inr (wrong_file language.Magic s (λ e. cc) m f)
fields_refuse w (language.Version n) s m f = inr (wrong_file (language.Version n) s (λ e. cc) m f)
fields_refuse w (language.Short p) s m f = inr (wrong_file (language.Short p) s (λ e. cc) m f)
fields_refuse w (language.Long p) s m f = inr (wrong_file (language.Long p) s (λ e. cc) m f)
fields_refuse w (language.Field p) s m f = inr (wrong_file (language.Field p) s (λ e. cc) m f)
fields_refuse w (language.Misfit cause) s m f = absurd (m cause refl)

-- the cause that is found for the grammar of a file is the file's
pub is_misfit : (w : Bytes) (f : FlatGrammar) (cause : Unfit) → ReturnsVerdict (Ok f) (verdict w) → Misfits f cause → language_file.IsFault (language.Misfit cause) w
is_misfit w f cause (inl says) found = (f, sym says, found)
is_misfit w f cause (inr says) found = absurd cc

pub found_is : (found : Option Unfit) (f : FlatGrammar) (cause : Unfit) → IfSome found (Misfits f) → found ≡ Some cause → Misfits f cause
found_is found f cause h e = subst (λ (o : Option Unfit). IfSome o (Misfits f)) e h
