-- What is read from which bytes, and what each refusal says.
use Rattle.std.specs.Prelude.{ℕ, ◌+◌, ◌-◌, ◌≤◌, ◌<◌, List, ◌∷◌, [], ◌++◌, length, take, drop, ⊤, IsUtf8}
use Rattle.std.specs.Str.{IsValidUpTo}
use Rattle.ts_base.specs.Bytes.{Bytes}
use Rattle.ts_ojson.specs.declared.value.OJson.{OJson}
use Rattle.ts_ojson.specs.declared.fault.OFault.{OFault}
use Rattle.ts_ojson.specs.declared.fault.OFault.TheVariants.{Syntax, Utf8, Deep, Duplicate, Memory}
use Rattle.ts_ojson.specs.Json.{Json, json_of, depth, most_deep, HasDistinctNames}
use Rattle.ts_ojson.specs.Characters.{Quoted}
use Rattle.ts_ojson.specs.Text.{IsJsonText}

-- arrays and objects nest no deeper than is read
abbrev pub IsShallow : Json → Type 0
IsShallow j = depth j ≤ most_deep

-- the bytes are a text of this value, in UTF-8
pub record Reads (v : OJson) (w : Bytes) : Type 0 where
  pub utf8 : IsUtf8 w
  pub text : IsJsonText (json_of v) w
  pub shallow : IsShallow (json_of v)
  pub distinct : HasDistinctNames (json_of v)

-- The bytes are a prefix of some text, of a value that is so. That a text is UTF-8 is asked of the
-- whole input, first of all.
abbrev pub Begins : (Json → Type 0) → Bytes → Type 0
Begins P u = (rest : Bytes) × (j : Json) × IsJsonText j (u ++ rest) × P j

-- any value
abbrev pub IsAny : Json → Type 0
IsAny j = ⊤

-- nothing in these bytes is too deep, and no name in them stands twice
abbrev pub IsKept : Bytes → Type 0
IsKept u = Begins (λ j. IsShallow j × HasDistinctNames j) u

-- the first p bytes are the longest prefix that begins a text, and the whole is none
pub record IsSyntaxFault (w : Bytes) (p : ℕ) : Type 0 where
  pub utf8 : IsUtf8 w
  pub within : p ≤ length w
  pub before : IsKept (take p w)
  pub longest : (q : ℕ) → p < q → q ≤ length w → Begins IsAny (take q w) → ⊥
  pub no_text : (j : Json) → IsJsonText j w → ⊥

-- with the byte at p the nesting passes what is read
pub record IsDeepFault (w : Bytes) (p : ℕ) : Type 0 where
  pub utf8 : IsUtf8 w
  pub within : p < length w
  pub before : IsKept (take p w)
  pub begins : Begins IsAny (take (p + 1) w)
  pub deep : Begins IsShallow (take (p + 1) w) → ⊥

-- From p to the quote at `close` a string stands, and no string is open before it, since a line
-- feed could stand there. With that quote a name stands twice.
pub record IsDuplicateFault (w : Bytes) (p : ℕ) : Type 0 where
  pub utf8 : IsUtf8 w
  pub close : ℕ
  pub within : (p < close) × (close < length w)
  pub name : Bytes
  pub string : Quoted name (take (close + 1 - p) (drop p w)) []
  pub starts : Begins IsAny (take p w ++ 10 ∷ [])
  pub before : IsKept (take close w)
  pub begins : Begins IsShallow (take (close + 1) w)
  pub twice : Begins HasDistinctNames (take (close + 1) w) → ⊥

-- the cause of each refusal; running out of memory has none
abbrev pub IsFault : OFault → Bytes → Type 0
IsFault (Syntax p) w = IsSyntaxFault w p
IsFault (Utf8 p) w = IsValidUpTo w p
IsFault (Deep p) w = IsDeepFault w p
IsFault (Duplicate p) w = IsDuplicateFault w p
IsFault Memory w = ⊤
