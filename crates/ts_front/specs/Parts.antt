-- What is known of the parts of a file: each has one meaning, or is refused for one cause.
use Rattle.std.specs.Prelude.{◌≡◌, ◌≢◌}
use Rattle.ts_base.specs.Bytes.{Bytes}
use Rattle.ts_core.specs.declared.flat.FlatGrammar.{FlatGrammar}
use Rattle.ts_core.specs.declared.rule.Grammar.{Grammar}
use Rattle.spec_tables.specs.Fit.{Fit}
use Rattle.ts_ojson.specs.Json.{Json}
use Rattle.ts_ojson.specs.Reads as json
use Rattle.ts_ojson.specs.declared.fault.OFault.{OFault}
use Rattle.ts_ojson.specs.declared.value.OJson.{OJson}
use Rattle.ts_grammar_json.specs.File as form
use Rattle.ts_grammar_json.specs.declared.fault.GFault.{GFault}
use Rattle.ts_normalise.specs.Refusals.{Flattens, IsRefused}
use Rattle.ts_normalise.specs.declared.fault.NFault.{NFault}
use Rattle.ts_langfile.specs.Right as language
use Rattle.ts_langfile.specs.Faults as file
use Rattle.ts_langfile.specs.declared.fault.LangFault.{LangFault}

-- what a part reads is one thing, what it refuses has one cause, and it never does both
pub record PartLaws : Type 0 where
  pub one_value : (v u : OJson) (w : Bytes) → json.Reads v w → json.Reads u w → v ≡ u
  pub no_value : (e : OFault) (v : OJson) (w : Bytes) → e ≢ OFault.Memory → json.IsFault e w
      → json.Reads v w → ⊥
  pub one_json_fault : (e f : OFault) (w : Bytes) → e ≢ OFault.Memory → f ≢ OFault.Memory
      → json.IsFault e w → json.IsFault f w → e ≡ f
  pub one_grammar : (g h : Grammar) (value : Json) → form.IsGrammar value g
      → form.IsGrammar value h → g ≡ h
  pub no_grammar : (e : GFault) (g : Grammar) (value : Json) → e ≢ GFault.Memory
      → form.IsFault e value → form.IsGrammar value g → ⊥
  pub one_form_fault : (e f : GFault) (value : Json) → e ≢ GFault.Memory → f ≢ GFault.Memory
      → form.IsFault e value → form.IsFault f value → e ≡ f
  pub one_normal_form : (g : Grammar) (f h : FlatGrammar) → Flattens g f → Flattens g h → f ≡ h
  pub one_refusal : (g : Grammar) (e h : NFault) → IsRefused g e → IsRefused g h → e ≡ h
  pub no_normal_form : (g : Grammar) (e : NFault) (f : FlatGrammar) → IsRefused g e → Flattens g f
      → ⊥
  pub one_language : (f g : FlatGrammar) (w : Bytes) → language.Reads f w → language.Reads g w
      → f ≡ g
  pub no_language : (e : LangFault) (f : FlatGrammar) (w : Bytes) → e ≢ LangFault.Memory
      → file.IsFault e w → language.Reads f w → Fit f → ⊥
  pub one_language_fault : (e d : LangFault) (w : Bytes) → e ≢ LangFault.Memory
      → d ≢ LangFault.Memory → file.IsFault e w → file.IsFault d w → e ≡ d
