-- The lines of a script.
use Rattle.std.specs.Prelude.{ℕ, ◌≡◌, ◌⊎◌, List, [], ◌∷◌, ◌++◌, All}
use Rattle.ts_base.specs.Bytes.{Bytes}

-- the byte that ends a line
abbrev pub newline : ℕ
newline = 10

-- no byte of the line is a newline
abbrev pub HasNoNewline : Bytes → Type 0
HasNoNewline line = All (λ (b : ℕ). b ≡ newline → ⊥) line

-- the bytes are a line, its newline, and what comes after
pub record BeginsWithLine (bytes line after : Bytes) : Type 0 where
  pub cut : HasNoNewline line
  pub whole : bytes ≡ line ++ newline ∷ after

-- the bytes are one line without a newline
pub record IsLastLine (bytes line : Bytes) : Type 0 where
  pub cut : HasNoNewline line
  pub whole : bytes ≡ line
  pub some_byte : line ≡ [] → ⊥

-- The bytes are these lines. Each ends with a newline, which the last one may lack.
abbrev pub AreLines : Bytes → List Bytes → Type 0
AreLines bytes [] = bytes ≡ []
AreLines bytes (line ∷ lines) =
    ((after : Bytes) × BeginsWithLine bytes line after × AreLines after lines)
    ⊎ (IsLastLine bytes line × (lines ≡ []))

-- the line has spaces and tabs alone
abbrev pub IsBlankLine : Bytes → Type 0
IsBlankLine line = All (λ (b : ℕ). (b ≡ 32) ⊎ (b ≡ 9)) line
