-- What an edit does to a text. These definitions alone know what an edit consists of.
use Rattle.std.specs.Prelude.{ℕ, ◌≡◌, ◌≤◌, ◌<◌, suc, List, [], ◌∷◌, ◌++◌, length, drop, slice_get, Some, All}
use Rattle.std.specs.List.{slice_range}
use Rattle.std.specs.Str.{IsCharBoundary}
use Rattle.ts_base.specs.Bytes.{Bytes}
use Rattle.ts_text.specs.declared.edit.Edit.{Edit}
use Rattle.ts_text.specs.declared.edit.Part.{Part}
use Rattle.ts_text.specs.Text.{IsText, most_bytes}

-- the part's places lie in the text, in their order, and neither inside a character
pub record IsPartOf (text : Bytes) (part : Part) : Type 0 where
  pub ordered : part.start ≤ part.end
  pub start_on : IsCharBoundary text part.start
  pub end_on : IsCharBoundary text part.end

-- each part ends below the start of the next
abbrev pub AreApart : List Part → Type 0
AreApart parts = (k : ℕ) (p q : Part) → slice_get parts k ≡ Some p
    → slice_get parts (suc k) ≡ Some q → p.end < q.start

-- there is a part, and the parts lie in the text, apart and in order
pub record InRange (text : Bytes) (edit : Edit) : Type 0 where
  pub some_part : edit.parts ≡ [] → ⊥
  pub within : All (IsPartOf text) edit.parts
  pub apart : AreApart edit.parts

-- what each part has new is a text
abbrev pub HasTexts : Edit → Type 0
HasTexts edit = All (λ (part : Part). IsText part.new) edit.parts

-- the text from a place on, with what each part has new in place of its bytes
abbrev pub replaced_from : Bytes → ℕ → List Part → Bytes
replaced_from text place [] = drop place text
replaced_from text place (p ∷ ps) =
    slice_range text place p.start ++ p.new ++ replaced_from text p.end ps

-- the text after the edit, all parts replaced at once: all places are those of the text before it
abbrev pub apply_of : Bytes → Edit → Bytes
apply_of text edit = replaced_from text 0 edit.parts

-- the text after the edit is no longer than a text may be
abbrev pub Fits : Bytes → Edit → Type 0
Fits text edit = length (apply_of text edit) ≤ most_bytes

-- the edit is in range, and the text after it has n bytes, which are too many
pub record IsOver (text : Bytes) (edit : Edit) (n : ℕ) : Type 0 where
  pub in_range : InRange text edit
  pub size : n ≡ length (apply_of text edit)
  pub over : most_bytes < n
