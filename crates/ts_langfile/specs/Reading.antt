-- A whole language file as it is read, and what its later bytes tell of its earlier ones.
use Rattle.std.specs.Prelude.{ℕ, zero, suc, ◌+◌, ◌-◌, Bool, true, false, ◌&&◌, ◌||◌, not, nat_lt, nat_le, nat_eq, List, [], ◌∷◌, length, take, drop, Option, Some, None, Result, Ok, Err, if◌then◌else◌}
use Rattle.std.specs.Str.{bytes_eq}
use Rattle.ts_base.specs.Bytes.{Bytes}
use Rattle.ts_core.specs.declared.flat.Entry.{Entry}
use Rattle.ts_core.specs.declared.flat.FlatGrammar.{FlatGrammar}
use Rattle.ts_core.specs.declared.flat.FlatRule.{FlatRule}
use Rattle.ts_core.specs.declared.flat.TokenDef.{TokenDef}
use Rattle.ts_core.specs.declared.symbol.Symbol.{Symbol}
use Rattle.spec_tables.specs.Fit.{most_symbols, most_names, most_productions}
use Rattle.ts_langfile.specs.declared.flaw.Flaw.{Flaw}
use Rattle.ts_langfile.specs.declared.known.Known.{Known}
use Rattle.ts_langfile.specs.declared.grammar.Head.{Head}
use Rattle.ts_langfile.specs.declared.grammar.ToFields.{ToFields}
use Rattle.ts_langfile.specs.declared.grammar.ToPrecs.{ToPrecs}
use Rattle.ts_langfile.specs.Spelling.{magic, new_version, old_version}
use Rattle.ts_langfile.specs.Reader.{SeenBytes, Reader, ◌>>=◌, give, tested, times, in_turn}
use Rattle.ts_langfile.specs.Parts.{number16_at, number32_at, flag_at, text_at, count_at, listed_at, optional_by, symbol_at, re_at, most_levels, token_at, rule_at, left_after, symbols_at, entry_at, supertype_at, behind_symbol}

-- ---- the grammar

-- the count of the rules, of which there is at least one
unfoldable pub rule_count_at : ℕ → Reader ℕ
rule_count_at tokens =
    tested number32_at (λ n. nat_lt 0 n && nat_le (suc (tokens + n)) most_symbols)

-- so many rules
abbrev pub rules_at : ℕ → Known → ℕ → Reader (List FlatRule)
rules_at symbols known n = in_turn (rule_at symbols known) left_after n most_productions

-- from the name to the byte that says whether there is a word
unfoldable pub head_at : Known → Reader Head
head_at known = do
  name ← text_at
  token_count ← count_at (most_symbols - 1)
  tokens ← times token_count (token_at known)
  rule_count ← rule_count_at token_count
  rules ← rules_at (suc (token_count + rule_count)) known rule_count
  separators ← listed_at (re_at most_levels)
  extras ← symbols_at 1 (suc token_count)
  has_word ← flag_at
  give (record {
    name = name;
    tokens = tokens;
    rules = rules;
    separators = separators;
    extras = extras;
    has_word = has_word;
  })

-- on to the count of field names
unfoldable pub to_fields_at : Known → Reader ToFields
to_fields_at known = do
  head ← head_at known
  word ← optional_by (symbol_at 1 (suc (length head.tokens))) head.has_word
  field_count ← count_at most_names
  give (record { head = head; word = word; field_count = field_count })

-- on to the count of precedence names
unfoldable pub to_precs_at : Known → Reader ToPrecs
to_precs_at known = do
  before ← to_fields_at known
  fields ← times before.field_count text_at
  prec_count ← count_at most_names
  give (record { before = before; fields = fields; prec_count = prec_count })

-- the supertypes, which the old version has not
unfoldable pub supertypes_at : ℕ → Head → Reader (List Symbol)
supertypes_at version head =
    if nat_eq version old_version then give []
    else (do
      n ← number32_at
      in_turn (supertype_at head.tokens head.rules) behind_symbol n 1)

-- how many symbols there are, the end among them
abbrev pub symbol_sum : Head → ℕ
symbol_sum head = suc (length head.tokens + length head.rules)

-- all that stands behind the version
unfoldable pub fields_at : ℕ → Known → Reader FlatGrammar
fields_at version known = do
  before ← to_precs_at known
  precs ← times before.prec_count text_at
  conflicts ← listed_at (symbols_at 0 (symbol_sum before.before.head))
  precedences ← listed_at (listed_at (entry_at (symbol_sum before.before.head) before.prec_count))
  supertypes ← supertypes_at version before.before.head
  give (record {
    name = before.before.head.name;
    tokens = before.before.head.tokens;
    rules = before.before.head.rules;
    separators = before.before.head.separators;
    extras = before.before.head.extras;
    word = before.before.word;
    fields = before.fields;
    precs = precs;
    conflicts = conflicts;
    precedences = precedences;
    supertypes = supertypes;
  })

-- ---- what later bytes tell

-- where no later byte is known
abbrev pub nothing_known : Known
nothing_known = record { word = None; fields = None; precs = None }

-- what is seen of a part, where there is no flaw in it or before it
abbrev pub seen_of : {A B : Type 0} → (A → B) → SeenBytes A → Option B
seen_of view (Ok x) = Some (view x.0)
seen_of view (Err flaw) = None

-- A later byte or count is known where no flaw that rests on no later byte stands before or at it.
unfoldable pub known_in : Bytes → Known
known_in bytes = record {
  word = seen_of (λ (head : Head). head.has_word) (head_at nothing_known bytes);
  fields = seen_of (λ (to : ToFields). to.field_count) (to_fields_at nothing_known bytes);
  precs = seen_of (λ (to : ToPrecs). to.prec_count) (to_precs_at nothing_known bytes);
}

-- the same where the count of precedence names is not known
abbrev pub without_precs : Known → Known
without_precs known = record { word = known.word; fields = known.fields; precs = None }

-- the fields of a grammar, each point judged by all that is known
abbrev pub judged_at : ℕ → Reader FlatGrammar
judged_at version bytes = fields_at version (known_in bytes) bytes
