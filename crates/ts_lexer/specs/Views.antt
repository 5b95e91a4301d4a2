-- The valid tokens of a place, and what each part is for them.
use Rattle.std.specs.Prelude.{◌≡◌, ℕ, ◌<◌, suc, Bool, true, false, List, length, slice_get, Some, IsTrue, ◌↔◌}
use Rattle.std.specs.List.{Contains}
use Rattle.ts_core.specs.declared.flat.FlatGrammar.{FlatGrammar}
use Rattle.ts_core.specs.declared.flat.TokenDef.{TokenDef}
use Rattle.ts_core.specs.declared.symbol.Symbol.{Symbol}
use Rattle.spec_lexing.specs.Seen.{HasKeyword}
use Rattle.ts_lexer.specs.declared.view.View.{View}
use Rattle.ts_lexer.specs.declared.view.Role.{Role}
use Rattle.ts_lexer.specs.Judged.{Offered, Wanted, IsWordPart, IsSeparatorPart}

-- the marks are those of the valid tokens
pub record IsView (g : FlatGrammar) (valid : List Symbol) (v : View) : Type 0 where
  pub size : length v.marks.items ≡ length g.tokens
  pub marks : (k : ℕ) (s : Symbol) → s.0 ≡ suc k → k < length g.tokens
      → (slice_get v.marks.items k ≡ Some true) ↔ Contains valid s
  pub keyworded : IsTrue v.keyworded ↔ HasKeyword g valid

-- the part is a token that may be taken, a keyword or none
abbrev pub MayTake : FlatGrammar → List Symbol → Bool → Bool → ℕ → Type 0
MayTake g valid first keyword part =
    (s : Symbol) × (token : TokenDef) × Offered g valid first keyword part s token

-- this is what the part is
pub record IsRole (g : FlatGrammar) (valid : List Symbol) (first : Bool) (part : ℕ)
    (r : Role) : Type 0 where
  pub wanted : IsTrue r.wanted ↔ Wanted g valid part
  pub plain : IsTrue r.plain ↔ MayTake g valid first false part
  pub keyword : IsTrue r.keyword ↔ MayTake g valid first true part
  pub word : IsTrue r.word ↔ IsWordPart g part
  pub separator : IsTrue r.separator ↔ IsSeparatorPart g part
