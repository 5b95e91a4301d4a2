-- The one spelling of each value in a language file. Numbers are big-endian.
use Rattle.std.specs.Prelude.{ℕ, ℤ, Bool, true, false, List, [], ◌∷◌, ◌++◌, length, Option, Some, None, nat_eq, if◌then◌else◌}
use Rattle.std.specs.Int.{w16, w32, to_be_bytes, cast_unsigned}
use Rattle.std.specs.List.{flat_map}
use Rattle.ts_base.specs.Bytes.{Bytes}
use Rattle.ts_core.specs.declared.flat.Alias.{Alias}
use Rattle.ts_core.specs.declared.flat.Assoc.{Assoc}
use Rattle.ts_core.specs.declared.flat.Entry.{Entry}
use Rattle.ts_core.specs.declared.flat.FlatGrammar.{FlatGrammar}
use Rattle.ts_core.specs.declared.flat.FlatRule.{FlatRule}
use Rattle.ts_core.specs.declared.flat.Prec.{Prec}
use Rattle.ts_core.specs.declared.flat.Production.{Production}
use Rattle.ts_core.specs.declared.flat.Step.{Step}
use Rattle.ts_core.specs.declared.flat.TokenDef.{TokenDef}
use Rattle.ts_core.specs.declared.re.Re.{Re}
use Rattle.ts_core.specs.declared.re.Re.TheOpen.{Re-F}
use Rattle.ts_core.specs.declared.re.Re.TheFolds.{fold-Re}
use Rattle.ts_core.specs.declared.symbol.Kind.{Kind}
use Rattle.ts_core.specs.declared.symbol.Symbol.{Symbol}

-- the parts one after another
abbrev pub joined : List Bytes → Bytes
joined [] = []
joined (part ∷ parts) = part ++ joined parts

-- ---- numbers, texts and lists

-- a number of 16 bits, in two bytes
abbrev pub number16 : ℕ → Bytes
number16 n = to_be_bytes w16 n

-- a number of 32 bits, in four bytes
abbrev pub number32 : ℕ → Bytes
number32 n = to_be_bytes w32 n

-- in two's complement
abbrev pub signed32 : ℤ → Bytes
signed32 z = to_be_bytes w32 (cast_unsigned w32 z)

-- 1 for true and 0 for false, in one byte
abbrev pub flag : Bool → Bytes
flag false = 0 ∷ []
flag true = 1 ∷ []

-- its length, and its bytes
abbrev pub text : Bytes → Bytes
text bytes = joined (number32 (length bytes) ∷ bytes ∷ [])

-- how many entries there are, and the entries
abbrev pub listed : {X : Type 0} → (X → Bytes) → List X → Bytes
listed entry xs = joined (number32 (length xs) ∷ flat_map entry xs ∷ [])

-- whether there is a value, and the value
abbrev pub optional : {X : Type 0} → (X → Bytes) → Option X → Bytes
optional value None = 0 ∷ []
optional value (Some x) = 1 ∷ value x

-- a symbol's number
abbrev pub symbol : Symbol → Bytes
symbol s = number16 s.0

-- ---- tokens

-- a kind, by its tag
abbrev pub kind : Kind → Bytes
kind Kind.Named = 0 ∷ []
kind Kind.Anonymous = 1 ∷ []
kind Kind.Hidden = 2 ∷ []

-- a range: its first and its last character
abbrev pub range : ℕ × ℕ → Bytes
range r = joined (number32 r.0 ∷ number32 r.1 ∷ [])

-- an expression whose parts are spelled already
abbrev pub re_step : Re-F Bytes → Bytes
re_step Re-F.Empty = 0 ∷ []
re_step (Re-F.Set ranges) = 1 ∷ listed range ranges
re_step (Re-F.Cat parts) = 2 ∷ listed (λ (part : Bytes). part) parts
re_step (Re-F.Alt parts) = 3 ∷ listed (λ (part : Bytes). part) parts
re_step (Re-F.Repeat inner least most) =
    4 ∷ joined (inner ∷ number32 least ∷ optional number32 most ∷ [])

-- an expression: its tag, and what stands behind it
abbrev pub re : Re → Bytes
re = fold-Re Bytes re_step

-- what stands behind a token's expression
abbrev pub marks : TokenDef → Bytes
marks d = joined (signed32 d.prec ∷ flag d.literal ∷ flag d.immediate ∷ flag d.keyword ∷ [])

-- a token: its name, its kind, its expression, and its marks
abbrev pub token : TokenDef → Bytes
token d = joined (text d.name ∷ kind d.kind ∷ re d.re ∷ signed32 d.prec ∷ flag d.literal
    ∷ flag d.immediate ∷ flag d.keyword ∷ [])

-- ---- rules

-- a precedence: its tag, and its value or the number of its name
abbrev pub prec : Prec → Bytes
prec Prec.Absent = 0 ∷ []
prec (Prec.Number value) = 1 ∷ signed32 value
prec (Prec.Name name) = 2 ∷ number16 name

-- an associativity, by its tag
abbrev pub assoc : Assoc → Bytes
assoc Assoc.Absent = 0 ∷ []
assoc Assoc.Left = 1 ∷ []
assoc Assoc.Right = 2 ∷ []

-- an alias: its name, and whether it is named
abbrev pub alias : Alias → Bytes
alias a = joined (text a.name ∷ flag a.named ∷ [])

-- a step: its symbol, precedence and associativity, and its alias and field, if it has them
abbrev pub step : Step → Bytes
step s = joined (symbol s.symbol ∷ prec s.prec ∷ assoc s.assoc ∷ optional alias s.alias
    ∷ optional number16 s.field ∷ [])

-- a production: its dynamic value, and its steps
abbrev pub production : Production → Bytes
production p = joined (signed32 p.dynamic ∷ listed step p.steps ∷ [])

-- a rule: its name, its kind, its owner, and its productions
abbrev pub rule : FlatRule → Bytes
rule r = joined (text r.name ∷ kind r.kind ∷ symbol r.owner ∷ listed production r.productions ∷ [])

-- ---- the whole

-- an entry of an ordering: its tag, and the number of the name or of the symbol
abbrev pub entry : Entry → Bytes
entry (Entry.Name name) = 0 ∷ number16 name
entry (Entry.Rule s) = 1 ∷ symbol s

-- TSLF
abbrev pub magic : Bytes
magic = 84 ∷ 83 ∷ 76 ∷ 70 ∷ []

-- the version that has supertypes, which is the one that is written
abbrev pub new_version : ℕ
new_version = 2

-- the version that has no supertypes
abbrev pub old_version : ℕ
old_version = 1

-- the supertypes, except in the version that has none
abbrev pub supertypes : ℕ → List Symbol → Bytes
supertypes version symbols = if nat_eq version old_version then [] else listed symbol symbols

-- up to the word
abbrev pub front : FlatGrammar → Bytes
front f = joined (text f.name ∷ listed token f.tokens ∷ listed rule f.rules
    ∷ listed re f.separators ∷ listed symbol f.extras ∷ optional symbol f.word ∷ [])

-- behind the word
abbrev pub back : ℕ → FlatGrammar → Bytes
back version f = joined (listed text f.fields ∷ listed text f.precs
    ∷ listed (listed symbol) f.conflicts ∷ listed (listed entry) f.precedences
    ∷ supertypes version f.supertypes ∷ [])

-- all that stands behind the version
abbrev pub fields : ℕ → FlatGrammar → Bytes
fields version f = joined (front f ∷ back version f ∷ [])

-- the file of a grammar in a version: the magic bytes, the version, and what stands behind it
abbrev pub file : ℕ → FlatGrammar → Bytes
file version f = joined (magic ∷ number16 version ∷ fields version f ∷ [])

-- the file that is written
abbrev pub spelling : FlatGrammar → Bytes
spelling f = file new_version f
