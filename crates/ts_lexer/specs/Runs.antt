-- How far the reading at a place has come, piece by piece; for private clauses and proofs alone.
use Rattle.std.specs.Prelude.{◌≡◌, ℕ, ◌⊎◌, Bool, List, [], drop, Option, Some, None}
use Rattle.std.specs.Str.{IsUtf8}
use Rattle.ts_base.specs.Bytes.{Bytes}
use Rattle.ts_core.specs.declared.flat.FlatGrammar.{FlatGrammar}
use Rattle.ts_core.specs.declared.symbol.Symbol.{Symbol}
use Rattle.spec_lexing.specs.Matching.{BeginsSpelled}
use Rattle.spec_lexing.specs.Seen.{CanBegin}
use Rattle.ts_core.specs.declared.flat.TokenDef.{TokenDef}
use Rattle.ts_lexer.specs.declared.scanned.Match.{Match}
use Rattle.ts_lexer.specs.declared.scanned.Progress.{Progress}
use Rattle.ts_lexer.specs.declared.scanned.Run.{Run}
use Rattle.ts_lexer.specs.declared.scanned.Read.{Read}
use Rattle.ts_lexer.specs.declared.scanned.Read.TheVariants.{Ended, Open}
use Rattle.ts_lexer.specs.Rules.{kind_of}
use Rattle.ts_lexer.specs.Judged.{IsTokenPart}
use Rattle.ts_lexer.specs.Scanned.{PartMatches, Sofar, IsBetterMatch, IsScanned}

-- the rest begins with these characters, of so many bytes, and the tail follows them; nothing can
-- begin so, or some wanted part can
pub record Reading (g : FlatGrammar) (valid : List Symbol) (rest tail : Bytes) (size : ℕ)
    (characters : List ℕ) : Type 0 where
  pub begins : BeginsSpelled rest characters size
  pub rest_is : drop size rest ≡ tail
  pub utf8 : IsUtf8 tail
  pub front : (characters ≡ []) ⊎ CanBegin g valid characters

-- what has been read and found so far, where `R` says of characters how they have been read
pub record Running (R : List ℕ → Type 0) (g : FlatGrammar) (valid : List Symbol) (first : Bool)
    (rest tail : Bytes) (size : ℕ) (p : Progress) : Type 0 where
  pub characters : List ℕ
  pub read : R characters
  pub reading : Reading g valid rest tail size characters
  pub sofar : Sofar g valid first (PartMatches g rest) size p

-- the token that is taken, of what was found
pub record Chosen (g : FlatGrammar) (p : Progress) (best : Option Match) : Type 0 where
  pub plain : p.keyword ≡ None → best ≡ p.plain
  pub keyword : (s : Symbol) → p.keyword ≡ Some s → p.plain ≡ None
      → best ≡ Some (record { symbol = s; size = p.word })
  pub both : (j k : ℕ) (m : Match) (s : Symbol) (a b : TokenDef) → p.keyword ≡ Some s
      → p.plain ≡ Some m → IsTokenPart g j m.symbol a → IsTokenPart g k s b
      → (n : Match) × (best ≡ Some n)
      × IsBetterMatch (kind_of a) m (kind_of b) (record { symbol = s; size = p.word }) n

-- all has been found of the rest, of which so many bytes were looked at
abbrev pub IsAll : FlatGrammar → List Symbol → Bool → Bytes → Progress → ℕ → Type 0
IsAll g valid first rest p reach =
    (best : Option Match) → Chosen g p best
    → IsScanned g valid first rest
    (record { best = best; separator = p.separator; reach = reach })

-- the run has read the rest up to the tail, where `R` says which characters lead to a set
abbrev pub IsRun : (ℕ → List ℕ → Type 0) → FlatGrammar → List Symbol → Bool → Bytes → Bytes → Run
    → Type 0
IsRun R g valid first rest tail run =
    Running (R run.state) g valid first rest tail run.size run.progress

-- all has been found of the rest, or it has been read up to the tail
abbrev pub IsReadOn : (ℕ → List ℕ → Type 0) → FlatGrammar → List Symbol → Bool → Bytes → Bytes
    → Read → Type 0
IsReadOn R g valid first rest tail (Ended run) = IsAll g valid first rest run.progress run.size
IsReadOn R g valid first rest tail (Open run) = IsRun R g valid first rest tail run

-- this holds of the run, if what follows is to be read
abbrev pub IfOpen : Read → (Run → Type 0) → Type 0
IfOpen (Ended run) P = Unit {0}
IfOpen (Open run) P = P run
