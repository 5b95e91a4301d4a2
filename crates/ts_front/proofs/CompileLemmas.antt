-- What a file comes to where it is compiled: one language file, or one line.
use Rattle.std.proofs.Common.{◌≡◌, ◌∙◌, sym, ap, subst, refl, ◌⊎◌, inl, inr, Option, Some, None, String, string_bytes, option_map}
use Rattle.std.specs.declared.alloc.Global.{Global}
use Rattle.ts_base.specs.Bytes.{Bytes}
use Rattle.ts_core.specs.declared.flat.FlatGrammar.{FlatGrammar}
use Rattle.ts_langfile.specs.Spelling.{spelling}
use Rattle.ts_front.specs.Compiled.{IsCompiled, IsRefusalLine, of_file, of_table, LineOf}
use Rattle.ts_front.specs.FaultLines.{grammar_fault_line, no_table_line}
use Rattle.ts_front.specs.Grammars.{IsFormOf, IsRefusedFile}
use Rattle.ts_front.specs.Tables.{HasTable, HasNoTable}
use Rattle.ts_front.specs.declared.fault.GrammarFault.{GrammarFault}
use Rattle.ts_front.specs.declared.fault.GrammarFault.TheVariants as file
use Rattle.ts_front.specs.declared.table_fault.NoTable.{NoTable}
use Rattle.ts_front.specs.declared.table_fault.NoTable.TheVariants as table
use Rattle.ts_front.proofs.LawLemmas.{OneAnswer}

-- ---- the line of a refusal

some_line : (w : Bytes) (line : Option Bytes) → ((x : Bytes) → line ≡ Some x → IsRefusalLine w x) → LineOf w line
some_line w None h = tt
some_line w (Some x) h = h x refl

pub file_line : (w : Bytes) (e : GrammarFault) (line : Option (String Global)) → (e ≡ file.Memory) ⊎ IsRefusedFile w e
    → option_map string_bytes line ≡ grammar_fault_line e → LineOf w (option_map string_bytes line)
file_line w e line (inl m) is = subst (LineOf w) (sym (is ∙ ap grammar_fault_line m)) tt
file_line w e line (inr h) is = some_line w (option_map string_bytes line) (λ x at. of_file e h (sym is ∙ at))

pub table_line : (w : Bytes) (f : FlatGrammar) (e : NoTable) (line : Option (String Global)) → IsFormOf w f → (e ≡ table.Memory) ⊎ HasNoTable f e
    → option_map string_bytes line ≡ no_table_line e → LineOf w (option_map string_bytes line)
table_line w f e line form (inl m) is = subst (LineOf w) (sym (is ∙ ap no_table_line m)) tt
table_line w f e line form (inr h) is = some_line w (option_map string_bytes line) (λ x at. of_table f e form h (sym is ∙ at))

pub refusal_some : (w : Bytes) (found : Option (String Global)) (line : String Global) → found ≡ Some line → LineOf w (option_map string_bytes found) → IsRefusalLine w (string_bytes line)
refusal_some w found line is h = subst (λ (o : Option (String Global)). LineOf w (option_map string_bytes o)) is h

-- ---- one answer

some_same : (a b : Bytes) → Some a ≡ Some b → a ≡ b
some_same a b e = cc

module _ (l : OneAnswer) (one : (f : FlatGrammar) (e d : NoTable) → HasNoTable f e → HasNoTable f d → e ≡ d) (none : (f : FlatGrammar) (e : NoTable) → HasNoTable f e → HasTable f → ⊥) where
  pub compiled_once : (w a b : Bytes) → IsCompiled w a → IsCompiled w b → a ≡ b
  compiled_once w a b x y = x.bytes_are ∙ ap spelling (l.form w x.form y.form x.is_form y.is_form) ∙ sym y.bytes_are

  pub line_once : (w a b : Bytes) → IsRefusalLine w a → IsRefusalLine w b → a ≡ b
  line_once w a b (of_file e x p) (of_file d y q) = some_same a b (sym p ∙ ap grammar_fault_line (l.fault w e d x y) ∙ q)
  line_once w a b (of_file e x p) (of_table f d form y q) = absurd (l.either w e f x form)
  line_once w a b (of_table f d form y q) (of_file e x p) = absurd (l.either w e f x form)
  line_once w a b (of_table f e form x p) (of_table g d other y q) =
      some_same a b (sym p ∙ ap no_table_line (one g e d (subst (λ (z : FlatGrammar). HasNoTable z e) (l.form w f g form other) x) y) ∙ q)

  pub line_or_compiled : (w a b : Bytes) → IsRefusalLine w a → IsCompiled w b → ⊥
  line_or_compiled w a b (of_file e x p) y = l.either w e y.form x y.is_form
  line_or_compiled w a b (of_table f e form x p) y = none y.form e (subst (λ (z : FlatGrammar). HasNoTable z e) (l.form w f y.form form y.is_form) x) y.table
