-- What matches at the beginning of a text, which is a list of bytes: the text from a place on.
-- Where the place is inside a character, nothing does.
use Rattle.std.specs.Prelude.{◌≡◌, ℕ, ◌≤◌, ◌<◌, suc, true, false, List, ◌++◌, length, slice_get}
use Rattle.std.specs.Prelude.{Some, encode_utf8_all}
use Rattle.std.specs.List.{Contains}
use Rattle.std.specs.Char.{IsScalar}
use Rattle.ts_base.specs.Bytes.{Bytes}
use Rattle.ts_core.specs.declared.flat.FlatGrammar.{FlatGrammar}
use Rattle.ts_core.specs.declared.flat.TokenDef.{TokenDef}
use Rattle.ts_core.specs.declared.re.Re.{Re}
use Rattle.ts_core.specs.declared.symbol.Symbol.{Symbol}
use Rattle.spec_lexing.specs.Words.{Regular, Word, regular_of}

-- the text begins with the UTF-8 of these characters, which has so many bytes
pub record BeginsSpelled (rest : Bytes) (w : List ℕ) (n : ℕ) : Type 0 where
  pub scalar : (c : ℕ) → Contains w c → IsScalar c
  pub tail : Bytes
  pub is : rest ≡ encode_utf8_all w ++ tail
  pub size : n ≡ length (encode_utf8_all w)

-- the first so many bytes are a word of the expression. The empty word is no match: no token has
-- it.
pub record MatchesRe (p : Regular) (rest : Bytes) (n : ℕ) : Type 0 where
  pub some : 0 < n
  pub characters : List ℕ
  pub begins : BeginsSpelled rest characters n
  pub word : Word p characters

-- the expression matches with so many bytes, and with no more
pub record IsLongestMatch (p : Regular) (rest : Bytes) (n : ℕ) : Type 0 where
  pub matches : MatchesRe p rest n
  pub longest : (m : ℕ) → MatchesRe p rest m → m ≤ n

-- the token has this symbol; the first token has the symbol 1, since the end has 0
pub record IsTokenOf (g : FlatGrammar) (symbol : Symbol) (token : TokenDef) : Type 0 where
  pub place : ℕ
  pub number : symbol.0 ≡ suc place
  pub at : slice_get g.tokens place ≡ Some token

-- the token is the grammar's word token
pub record IsWordToken (g : FlatGrammar) (token : TokenDef) : Type 0 where
  pub symbol : Symbol
  pub word : g.word ≡ Some symbol
  pub is_token : IsTokenOf g symbol token

-- The token matches with so many bytes. A keyword does so exactly where the longest match of the
-- word token is a word of the keyword, and with that length alone.
pub data MatchesToken (g : FlatGrammar) (token : TokenDef) (rest : Bytes) (n : ℕ) : Type 0 where
  plainly : token.keyword ≡ false → MatchesRe (regular_of token.re) rest n
      → MatchesToken g token rest n
  as_keyword : token.keyword ≡ true → (word : TokenDef) → IsWordToken g word
      → IsLongestMatch (regular_of word.re) rest n → MatchesRe (regular_of token.re) rest n
      → MatchesToken g token rest n

-- some separator matches with so many bytes
pub record MatchesSeparator (g : FlatGrammar) (rest : Bytes) (n : ℕ) : Type 0 where
  pub place : ℕ
  pub separator : Re
  pub at : slice_get g.separators place ≡ Some separator
  pub matches : MatchesRe (regular_of separator) rest n
