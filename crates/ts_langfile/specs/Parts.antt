-- The parts of a language file as they are read, with the points that have to hold of each.
use Rattle.std.specs.Prelude.{ℕ, zero, suc, ◌+◌, ◌-◌, ℤ, Bool, true, false, not, ◌&&◌, ◌||◌, nat_lt, nat_le, nat_eq, List, [], ◌∷◌, ◌++◌, length, map, slice_get, option_map, Option, Some, None, if◌then◌else◌}
use Rattle.std.specs.Int.{w16, w32, cast_signed}
use Rattle.std.specs.Str.{is_utf8}
use Rattle.ts_base.specs.Bytes.{Bytes}
use Rattle.ts_base.specs.Characters.{first_surrogate, past_surrogates, character_count}
use Rattle.ts_core.specs.declared.flat.Alias.{Alias}
use Rattle.ts_core.specs.declared.flat.Assoc.{Assoc}
use Rattle.ts_core.specs.declared.flat.Entry.{Entry}
use Rattle.ts_core.specs.declared.flat.FlatGrammar.{FlatGrammar}
use Rattle.ts_core.specs.declared.flat.FlatRule.{FlatRule}
use Rattle.ts_core.specs.declared.flat.Prec.{Prec}
use Rattle.ts_core.specs.declared.flat.Production.{Production}
use Rattle.ts_core.specs.declared.flat.Step.{Step}
use Rattle.ts_core.specs.declared.flat.TokenDef.{TokenDef}
use Rattle.ts_core.specs.declared.re.Re.{Re}
use Rattle.ts_core.specs.declared.re.Re.TheVariants as re
use Rattle.ts_core.specs.declared.symbol.Kind.{Kind}
use Rattle.ts_core.specs.declared.symbol.Symbol.{Symbol}
use Rattle.spec_tables.specs.Fit.{most_symbols, most_names, most_productions, most_steps}
use Rattle.ts_langfile.specs.declared.known.Known.{Known}
use Rattle.ts_langfile.specs.Reader.{Reader, ◌>>=◌, give, byte_at, bytes_at, number_at, tested, times, in_turn}

-- ---- numbers, texts and lists

-- a number of 16 bits
unfoldable pub number16_at : Reader ℕ
number16_at = number_at w16

-- a number of 32 bits
unfoldable pub number32_at : Reader ℕ
number32_at = number_at w32

-- a number of 32 bits in two's complement
unfoldable pub signed32_at : Reader ℤ
signed32_at = do
  n ← number32_at
  give (cast_signed w32 n)

-- a byte that is at most so great
unfoldable pub tag_at : ℕ → Reader ℕ
tag_at most = tested byte_at (λ tag. nat_le tag most)

-- a byte that is 1 for true and 0 for false
unfoldable pub flag_at : Reader Bool
flag_at = do
  tag ← tag_at 1
  give (nat_eq tag 1)

-- a length, and then a text of so many bytes, which is UTF-8
unfoldable pub text_at : Reader Bytes
text_at = do
  n ← number32_at
  tested (bytes_at n) is_utf8

-- a list's count that is at most so great
unfoldable pub count_at : ℕ → Reader ℕ
count_at most = tested number32_at (λ n. nat_le n most)

-- a list of parts of one kind, of any length
abbrev pub listed_at : {A : Type 0} → Reader A → Reader (List A)
listed_at part = do
  n ← number32_at
  times n part

-- a value that is there or not
abbrev pub optional_by : {A : Type 0} → Reader A → Bool → Reader (Option A)
optional_by part false = give None
optional_by part true = do
  x ← part
  give (Some x)

-- a flag, and then a value where the flag is set
abbrev pub optional_at : {A : Type 0} → Reader A → Reader (Option A)
optional_at part = do
  there ← flag_at
  optional_by part there

-- a symbol from the least on and below a bound
unfoldable pub symbol_at : ℕ → ℕ → Reader Symbol
symbol_at least bound = do
  n ← tested number16_at (λ n. nat_le least n && nat_lt n bound)
  give (record { 0 = n })

-- ---- expressions

-- a number that is a character: not above the greatest, and no surrogate
abbrev pub is_character : ℕ → Bool
is_character c = nat_lt c first_surrogate
    || (nat_le past_surrogates c && nat_lt c character_count)

-- the range does not fall, and lies on one side of the surrogates
abbrev pub ends_range : ℕ → ℕ → Bool
ends_range low high = is_character high && nat_le low high
    && (nat_lt high first_surrogate || nat_le past_surrogates low)

-- a range that begins at the least or above
unfoldable pub range_at : ℕ → Reader (ℕ × ℕ)
range_at least = do
  low ← tested number32_at (λ c. is_character c && nat_le least c)
  high ← tested number32_at (λ c. ends_range low c)
  give (low, high)

-- where the next range may begin: it does not touch this one
abbrev pub behind_range : ℕ → ℕ × ℕ → ℕ
behind_range least range = range.1 + 2

-- the ranges of a set, which rise and do not touch each other
abbrev pub ranges_at : Reader (List (ℕ × ℕ))
ranges_at = do
  n ← number32_at
  in_turn range_at behind_range n 0

-- the most times of a repeat, if there is a most
unfoldable pub most_at : ℕ → Reader (Option ℕ)
most_at least = optional_at (tested number32_at (λ most. nat_le least most))

-- what stands behind each tag, where `inner` reads an expression inside
abbrev pub re_by : Reader Re → ℕ → Reader Re
re_by inner zero = give re.Empty
re_by inner (suc zero) = do
  ranges ← ranges_at
  give (re.Set ranges)
re_by inner (suc (suc zero)) = do
  parts ← listed_at inner
  give (re.Cat parts)
re_by inner (suc (suc (suc zero))) = do
  parts ← listed_at inner
  give (re.Alt parts)
re_by inner (suc (suc (suc (suc tag)))) = do
  inside ← inner
  least ← number32_at
  most ← most_at least
  give (re.Repeat inside least most)

-- the tag of a repeat
abbrev pub repeat_tag : ℕ
repeat_tag = 4

-- how many expressions may stand in one another
abbrev pub most_levels : ℕ
most_levels = 512

-- an expression in which at most so many stand in one another, itself among them
unfoldable pub re_at : ℕ → Reader Re
re_at zero = do
  tag ← tested (tag_at 4) (λ tag. false)
  give re.Empty
re_at (suc room) = do
  tag ← tag_at 4
  re_by (re_at room) tag

-- ---- what later bytes tell

-- A point that rests on a later byte or count holds where that is not known.
abbrev pub may_name : Option ℕ → ℕ → Bool
may_name None name = true
may_name (Some count) name = nat_lt name count

-- whether there is a word, or that is not known
abbrev pub may_have_word : Option Bool → Bool
may_have_word None = true
may_have_word (Some has_word) = has_word

-- a keyword is literal, and there is one only where there is a word
abbrev pub may_be_keyword : Known → Bool → Bool → Bool
may_be_keyword known literal keyword = not keyword || (literal && may_have_word known.word)

-- ---- tokens

-- the kind that a tag stands for
abbrev pub kind_of : ℕ → Kind
kind_of zero = Kind.Named
kind_of (suc zero) = Kind.Anonymous
kind_of (suc (suc tag)) = Kind.Hidden

-- a kind, by its tag
unfoldable pub kind_at : Reader Kind
kind_at = do
  tag ← tag_at 2
  give (kind_of tag)

-- a token, where so much is known of the word
unfoldable pub token_at : Known → Reader TokenDef
token_at known = do
  name ← text_at
  kind ← kind_at
  re ← re_at most_levels
  prec ← signed32_at
  literal ← flag_at
  immediate ← flag_at
  keyword ← tested flag_at (may_be_keyword known literal)
  give (record {
    name = name;
    kind = kind;
    re = re;
    prec = prec;
    literal = literal;
    immediate = immediate;
    keyword = keyword;
  })

-- ---- rules

-- what stands behind each tag of a precedence
abbrev pub prec_by : Known → ℕ → Reader Prec
prec_by known zero = give Prec.Absent
prec_by known (suc zero) = do
  value ← signed32_at
  give (Prec.Number value)
prec_by known (suc (suc tag)) = do
  name ← tested number16_at (may_name known.precs)
  give (Prec.Name name)

-- a precedence: its tag, and what stands behind it
unfoldable pub prec_at : Known → Reader Prec
prec_at known = do
  tag ← tag_at 2
  prec_by known tag

-- the associativity that a tag stands for
abbrev pub assoc_of : ℕ → Assoc
assoc_of zero = Assoc.Absent
assoc_of (suc zero) = Assoc.Left
assoc_of (suc (suc tag)) = Assoc.Right

-- an associativity, by its tag
unfoldable pub assoc_at : Reader Assoc
assoc_at = do
  tag ← tag_at 2
  give (assoc_of tag)

-- an alias: its name, and whether it is named
unfoldable pub alias_at : Reader Alias
alias_at = do
  name ← text_at
  named ← flag_at
  give (record { name = name; named = named })

-- the number of a field name, where a step has a field
unfoldable pub field_at : Known → Reader (Option ℕ)
field_at known = optional_at (tested number16_at (may_name known.fields))

-- a step names a token or a rule, and never the end
unfoldable pub step_at : ℕ → Known → Reader Step
step_at symbols known = do
  symbol ← symbol_at 1 symbols
  prec ← prec_at known
  assoc ← assoc_at
  alias ← optional_at alias_at
  field ← field_at known
  give (record {
    symbol = symbol;
    prec = prec;
    assoc = assoc;
    alias = alias;
    field = field;
  })

-- a production: its dynamic value, and its steps, which are not too many
unfoldable pub production_at : ℕ → Known → Reader Production
production_at symbols known = do
  dynamic ← signed32_at
  count ← count_at most_steps
  steps ← times count (step_at symbols known)
  give (record { dynamic = dynamic; steps = steps })

-- a rule where so many more productions may come
unfoldable pub rule_at : ℕ → Known → ℕ → Reader FlatRule
rule_at symbols known left = do
  name ← text_at
  kind ← kind_at
  owner ← symbol_at 0 symbols
  count ← count_at left
  productions ← times count (production_at symbols known)
  give (record { name = name; kind = kind; owner = owner; productions = productions })

-- how many productions may come behind a rule
abbrev pub left_after : ℕ → FlatRule → ℕ
left_after left r = left - length r.productions

-- ---- lists of symbols

-- a list of symbols from the least on and below a bound
unfoldable pub symbols_at : ℕ → ℕ → Reader (List Symbol)
symbols_at least bound = listed_at (symbol_at least bound)

-- what stands behind each tag of an entry of an ordering
abbrev pub entry_by : ℕ → ℕ → ℕ → Reader Entry
entry_by symbols precs zero = do
  name ← tested number16_at (may_name (Some precs))
  give (Entry.Name name)
entry_by symbols precs (suc tag) = do
  symbol ← symbol_at 0 symbols
  give (Entry.Rule symbol)

-- an entry of an ordering: its tag, and what stands behind it
unfoldable pub entry_at : ℕ → ℕ → Reader Entry
entry_at symbols precs = do
  tag ← tag_at 1
  entry_by symbols precs tag

-- the kind of a symbol; the end has none
abbrev pub kind_there : List TokenDef → List FlatRule → ℕ → Option Kind
kind_there tokens rules zero = None
kind_there tokens rules (suc k) = if nat_lt k (length tokens)
    then option_map (λ (d : TokenDef). d.kind) (slice_get tokens k)
    else option_map (λ (r : FlatRule). r.kind) (slice_get rules (k - length tokens))

-- whether there is a kind, and it is hidden
abbrev pub is_hidden_kind : Option Kind → Bool
is_hidden_kind None = false
is_hidden_kind (Some Kind.Named) = false
is_hidden_kind (Some Kind.Anonymous) = false
is_hidden_kind (Some Kind.Hidden) = true

-- whether the symbol of a number is there, and hidden
abbrev pub is_hidden : List TokenDef → List FlatRule → ℕ → Bool
is_hidden tokens rules s = is_hidden_kind (kind_there tokens rules s)

-- a hidden symbol from the least on
unfoldable pub supertype_at : List TokenDef → List FlatRule → ℕ → Reader Symbol
supertype_at tokens rules least = do
  n ← tested number16_at (λ n. nat_le least n && is_hidden tokens rules n)
  give (record { 0 = n })

-- each is above the one before it
abbrev pub behind_symbol : ℕ → Symbol → ℕ
behind_symbol least s = s.0 + 1
