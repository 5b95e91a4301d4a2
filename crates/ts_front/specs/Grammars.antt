-- Which grammar in normal form a file stands for, and why it stands for none. A file that begins as
-- a language file is one; any other is a grammar file.
use Rattle.std.specs.Prelude.{◌≡◌, ◌≢◌, ℕ, ◌<◌, ◌≤◌, true, false, length, drop, nat_eq}
use Rattle.std.specs.List.{starts_with}
use Rattle.ts_base.specs.Bytes.{Bytes}
use Rattle.ts_core.specs.declared.flat.FlatGrammar.{FlatGrammar}
use Rattle.ts_core.specs.declared.limits.Unfit.{Unfit}
use Rattle.ts_core.specs.declared.rule.Grammar.{Grammar}
use Rattle.spec_tables.specs.Fit.{Fit}
use Rattle.ts_ojson.specs.Json.{json_of}
use Rattle.ts_ojson.specs.Reads as json
use Rattle.ts_ojson.specs.declared.fault.OFault.{OFault}
use Rattle.ts_ojson.specs.declared.value.OJson.{OJson}
use Rattle.ts_grammar_json.specs.File as form
use Rattle.ts_grammar_json.specs.declared.fault.GFault.{GFault}
use Rattle.ts_normalise.specs.Refusals.{Flattens, IsRefused}
use Rattle.ts_normalise.specs.declared.fault.NFault.{NFault}
use Rattle.ts_langfile.specs.Spelling.{magic, new_version, number16}
use Rattle.ts_langfile.specs.Right as language
use Rattle.ts_langfile.specs.Faults as file
use Rattle.ts_langfile.specs.declared.fault.LangFault.{LangFault}
use Rattle.ts_front.specs.declared.fault.GrammarFault.{GrammarFault}

-- the most bytes of a grammar file: 4 MiB
abbrev pub most_grammar_bytes : ℕ
most_grammar_bytes = 4194304

-- the file begins as a language file
abbrev pub IsLanguageFile : Bytes → Type 0
IsLanguageFile w = starts_with nat_eq w magic ≡ true

-- the file begins as a language file of the version that is written
pub record IsNewLanguageFile (w : Bytes) : Type 0 where
  pub begins : IsLanguageFile w
  pub version : starts_with nat_eq (drop 4 w) (number16 new_version) ≡ true

-- the file is a grammar file, and not too large
pub record IsSmallFile (w : Bytes) : Type 0 where
  pub other : starts_with nat_eq w magic ≡ false
  pub small : length w ≤ most_grammar_bytes

-- the file is a grammar file, and its JSON value stands for this grammar
pub record IsGrammarFile (w : Bytes) (g : Grammar) : Type 0 where
  pub file : IsSmallFile w
  pub value : OJson
  pub reads : json.Reads value w
  pub grammar : form.IsGrammar (json_of value) g

-- the grammar in normal form that the file stands for
pub data IsFormOf (w : Bytes) (f : FlatGrammar) : Type 0 where
  by_grammar_file : (g : Grammar) → IsGrammarFile w g → Flattens g f → IsFormOf w f
  by_language_file : IsLanguageFile w → language.Reads f w → Fit f → IsFormOf w f

-- The file stands for no grammar, and this is why. Running out of memory is no fault of a file.
pub data IsRefusedFile (w : Bytes) : GrammarFault → Type 0 where
  too_large : starts_with nat_eq w magic ≡ false → most_grammar_bytes < length w
      → IsRefusedFile w GrammarFault.Large
  no_json : (e : OFault) → IsSmallFile w → e ≢ OFault.Memory → json.IsFault e w
      → IsRefusedFile w (GrammarFault.Json e)
  no_grammar : (value : OJson) (e : GFault) → IsSmallFile w → json.Reads value w
      → e ≢ GFault.Memory → form.IsFault e (json_of value) → IsRefusedFile w (GrammarFault.Form e)
  no_normal_form : (g : Grammar) (e : NFault) → IsGrammarFile w g → e ≢ NFault.Memory
      → IsRefused g e → IsRefusedFile w (GrammarFault.Normal e)
  wrong_file : (e : LangFault) → IsLanguageFile w → e ≢ LangFault.Memory
      → ((cause : Unfit) → e ≢ LangFault.Misfit cause) → file.IsFault e w
      → IsRefusedFile w (GrammarFault.Language e)
  no_fit : (f : FlatGrammar) (cause : Unfit) → IsLanguageFile w → language.Reads f w
      → file.IsFault (LangFault.Misfit cause) w → IsRefusedFile w (GrammarFault.Misfit f cause)
