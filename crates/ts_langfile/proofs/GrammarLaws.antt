-- The laws of a whole grammar.
use Rattle.std.proofs.Common.{◌≡◌, refl, sym, ◌∙◌, ap, subst, ℕ, zero, suc, ◌+◌, ◌-◌, ◌^◌, ◌<◌, ◌≤◌, Bool, true, false, cond, nat_le, nat_lt, nat_eq, ◌&&◌, List, [], ◌∷◌, ◌++◌, length, Option, Some, None, is_some, append_assoc, arith}
use Rattle.std.specs.List.{flat_map, AllByRecursion}
use Rattle.std.proofs.lemmas.List.{append-nil}
use Rattle.ts_base.specs.Bytes.{Bytes}
use Rattle.ts_core.specs.declared.flat.Entry.{Entry}
use Rattle.ts_core.specs.declared.flat.FlatGrammar.{FlatGrammar}
use Rattle.ts_core.specs.declared.flat.FlatRule.{FlatRule}
use Rattle.ts_core.specs.declared.flat.TokenDef.{TokenDef}
use Rattle.ts_core.specs.declared.re.Re.{Re}
use Rattle.ts_core.specs.declared.symbol.Symbol.{Symbol}
use Rattle.spec_tables.specs.Fit.{IfThere, most_symbols, most_names, most_productions}
use Rattle.ts_langfile.specs.declared.grammar.Head.{Head}
use Rattle.ts_langfile.specs.declared.grammar.ToFields.{ToFields}
use Rattle.ts_langfile.specs.declared.grammar.ToPrecs.{ToPrecs}
use Rattle.ts_langfile.specs.declared.known.Known.{Known}
use Rattle.ts_langfile.specs.Reader.{Reader, ◌>>=◌, give, tested, times, in_turn}
use Rattle.ts_langfile.specs.Spelling.{joined, number16, number32, flag, text, listed, optional, symbol, token, rule, re, entry, supertypes, front, back, fields, old_version}
use Rattle.ts_langfile.specs.Parts.{number16_at, number32_at, optional_by, symbol_at, is_hidden, supertype_at, behind_symbol, left_after, most_levels}
use Rattle.ts_langfile.specs.Reading.{rule_count_at, head_at, to_fields_at, to_precs_at, supertypes_at, symbol_sum, fields_at}
use Rattle.ts_langfile.specs.Right.{InTurn, IsShortText, IsBetween, RightRe, RightToken, RightRule, RightEntry, may_be_rules, IsSupertypeSymbol, RightSupertypes, Right}
use Rattle.ts_langfile.proofs.LawLemmas.{Law, then_law, after_law, as_law, spelled_law, alone_law, made_law, give_law, tested_law, times_law, turn_law, number16_law, number32_law}
use Rattle.ts_langfile.proofs.PartLaws.{IsThere, inner_of, optional_by_law, le_true, true_le, and_true, true_and, text_law, count_law, flag_law, listed_law, symbol_law, symbols_law}
use Rattle.ts_langfile.proofs.TokenLaws.{re_law, token_law}
use Rattle.ts_langfile.proofs.RuleLaws.{rule_law, entry_law}

-- ---- up to the word

rule_count_law : (tokens : ℕ) → Law (rule_count_at tokens) number32 (λ n. (n < 2 ^ 32) × (may_be_rules tokens n ≡ true))
unfolding rule_count_at
rule_count_law tokens = tested_law (may_be_rules tokens) number32_law

pub record RightHead (known : Known) (h : Head) : Type 0 where
  pub name : IsShortText h.name
  pub few_tokens : (length h.tokens < 2 ^ 32) × (length h.tokens ≤ most_symbols - 1)
  pub tokens : AllByRecursion (RightToken known) h.tokens
  pub few_rules : (length h.rules < 2 ^ 32) × (may_be_rules (length h.tokens) (length h.rules) ≡ true)
  pub rules : InTurn (λ (left : ℕ). RightRule (symbol_sum h) known left) left_after most_productions h.rules
  pub separators : (length h.separators < 2 ^ 32) × AllByRecursion (RightRe most_levels) h.separators
  pub extras : (length h.extras < 2 ^ 32) × AllByRecursion (IsBetween 1 (suc (length h.tokens))) h.extras

abbrev pub head_spelled : Head → Bytes
head_spelled h = joined (text h.name ∷ number32 (length h.tokens) ∷ flat_map token h.tokens ∷ number32 (length h.rules) ∷ flat_map rule h.rules ∷ listed re h.separators ∷ listed symbol h.extras ∷ flag h.has_word ∷ [])

abbrev head_of : Bytes → List TokenDef → List FlatRule → List Re → List Symbol → Bool → Head
head_of name tokens rules separators extras has_word = record { name = name; tokens = tokens; rules = rules; separators = separators; extras = extras; has_word = has_word }

pub head_law : (known : Known) → Law (head_at known) head_spelled (RightHead known)
unfolding head_at
head_law known = as_law
    (then_law (λ (h : Head). h.name) text_law (λ name r1. then_law (λ (h : Head). length h.tokens) (count_law (most_symbols - 1)) (λ n r2. then_law (λ (h : Head). h.tokens) (times_law (token_law known) n) (λ tokens r3.
    then_law (λ (h : Head). length h.rules) (rule_count_law n) (λ m r4. then_law (λ (h : Head). h.rules) (turn_law left_after (λ (left : ℕ). rule_law (suc (n + m)) known left) m most_productions) (λ rules r5.
    then_law (λ (h : Head). h.separators) (listed_law (re_law most_levels)) (λ separators r6. then_law (λ (h : Head). h.extras) (symbols_law 1 (suc n)) (λ extras r7. then_law (λ (h : Head). h.has_word) flag_law (λ has_word r8. give_law (head_of name tokens rules separators extras has_word))
    (λ has_word h right. ap (λ (h : Head). h.has_word) right)) (λ extras h right. ap (λ (h : Head). h.extras) right.1)) (λ separators h right. ap (λ (h : Head). h.separators) right.1.1)) (λ rules h right. ap (λ (h : Head). h.rules) right.1.1.1))
    (λ m h right. right.0.0)) (λ tokens h right. ap (λ (h : Head). h.tokens) right.1.1.1.1.1)) (λ n h right. right.0.0)) (λ name h right. ap (λ (h : Head). h.name) right.1.1.1.1.1.1.1))
    (λ h right. record { name = right.0; few_tokens = right.1.0; tokens = right.1.1.0.1; few_rules = right.1.1.1.0; rules = right.1.1.1.1.0.1; separators = right.1.1.1.1.1.0; extras = right.1.1.1.1.1.1.0 })
    (λ h right. (right.name, (right.few_tokens, ((refl, right.tokens), (right.few_rules, ((refl, right.rules), (right.separators, (right.extras, (tt, refl)))))))))

-- ---- up to the counts

pub record RightToFields (known : Known) (t : ToFields) : Type 0 where
  pub head : RightHead known t.head
  pub word : IsThere (IsBetween 1 (suc (length t.head.tokens))) t.head.has_word t.word
  pub count : (t.field_count < 2 ^ 32) × (t.field_count ≤ most_names)

abbrev pub to_fields_spelled : ToFields → Bytes
to_fields_spelled t = joined (head_spelled t.head ∷ inner_of symbol t.word ∷ number32 t.field_count ∷ [])

abbrev to_fields_of : Head → Option Symbol → ℕ → ToFields
to_fields_of head word count = record { head = head; word = word; field_count = count }

pub to_fields_law : (known : Known) → Law (to_fields_at known) to_fields_spelled (RightToFields known)
unfolding to_fields_at
to_fields_law known = as_law
    (then_law (λ (t : ToFields). t.head) (head_law known) (λ head r1. then_law (λ (t : ToFields). t.word) (optional_by_law (symbol_law 1 (suc (length head.tokens))) head.has_word) (λ word r2.
    then_law (λ (t : ToFields). t.field_count) (count_law most_names) (λ count r3. give_law (to_fields_of head word count))
    (λ count t right. ap (λ (t : ToFields). t.field_count) right)) (λ word t right. ap (λ (t : ToFields). t.word) right.1)) (λ head t right. ap (λ (t : ToFields). t.head) right.1.1))
    (λ t right. record { head = right.0; word = right.1.0; count = right.1.1.0 })
    (λ t right. (right.head, (right.word, (right.count, refl))))

pub record RightToPrecs (known : Known) (t : ToPrecs) : Type 0 where
  pub before : RightToFields known t.before
  pub fields : (length t.fields ≡ t.before.field_count) × AllByRecursion IsShortText t.fields
  pub count : (t.prec_count < 2 ^ 32) × (t.prec_count ≤ most_names)

abbrev pub to_precs_spelled : ToPrecs → Bytes
to_precs_spelled t = joined (to_fields_spelled t.before ∷ flat_map text t.fields ∷ number32 t.prec_count ∷ [])

abbrev to_precs_of : ToFields → List Bytes → ℕ → ToPrecs
to_precs_of before fields count = record { before = before; fields = fields; prec_count = count }

pub to_precs_law : (known : Known) → Law (to_precs_at known) to_precs_spelled (RightToPrecs known)
unfolding to_precs_at
to_precs_law known = as_law
    (then_law (λ (t : ToPrecs). t.before) (to_fields_law known) (λ before r1. then_law (λ (t : ToPrecs). t.fields) (times_law text_law before.field_count) (λ fields r2.
    then_law (λ (t : ToPrecs). t.prec_count) (count_law most_names) (λ count r3. give_law (to_precs_of before fields count))
    (λ count t right. ap (λ (t : ToPrecs). t.prec_count) right)) (λ fields t right. ap (λ (t : ToPrecs). t.fields) right.1)) (λ before t right. ap (λ (t : ToPrecs). t.before) right.1.1))
    (λ t right. record { before = right.0; fields = right.1.0; count = right.1.1.0 })
    (λ t right. (right.before, (right.fields, (right.count, refl))))

-- ---- supertypes

supertype_law : (tokens : List TokenDef) (rules : List FlatRule) (least : ℕ) → Law (supertype_at tokens rules least) symbol (IsSupertypeSymbol tokens rules least)
unfolding supertype_at
supertype_law tokens rules least = as_law (made_law made symbol (tested_law test number16_law) (λ n right. refl)) to (λ s right. (s.0, refl, right))
  where
    made : ℕ → Symbol
    made n = record { 0 = n }

    test : ℕ → Bool
    test n = nat_le least n && is_hidden tokens rules n

    to : (s : Symbol) → (n : ℕ) × (s ≡ made n) × ((n < 2 ^ 16) × (test n ≡ true)) → IsSupertypeSymbol tokens rules least s
    to s right = subst (IsSupertypeSymbol tokens rules least) (sym right.1) right.2

supertypes_law : (version : ℕ) (head : Head) → Law (supertypes_at version head) (supertypes version) (RightSupertypes (nat_eq version old_version) head.tokens head.rules)
unfolding supertypes_at
supertypes_law version head = by (nat_eq version old_version)
  where
    by : (b : Bool) → Law (cond b (give []) (number32_at >>= λ (n : ℕ). in_turn (supertype_at head.tokens head.rules) behind_symbol n 1)) (λ (xs : List Symbol). cond b [] (listed symbol xs)) (RightSupertypes b head.tokens head.rules)
    by true = give_law []
    by false = as_law
        (then_law (λ (xs : List Symbol). length xs) number32_law (λ n r1. alone_law (turn_law behind_symbol (supertype_law head.tokens head.rules) n 1)) (λ n xs right. right.0))
        (λ xs right. (right.0, right.1.1)) (λ xs right. (right.0, (refl, right.1)))

-- ---- all fields

abbrev pub head_in : FlatGrammar → Head
head_in f = head_of f.name f.tokens f.rules f.separators f.extras (is_some f.word)

abbrev pub to_fields_in : FlatGrammar → ToFields
to_fields_in f = to_fields_of (head_in f) f.word (length f.fields)

abbrev pub to_precs_in : FlatGrammar → ToPrecs
to_precs_in f = to_precs_of (to_fields_in f) f.fields (length f.precs)

abbrev grammar_of : ToPrecs → List Bytes → List (List Symbol) → List (List Entry) → List Symbol → FlatGrammar
grammar_of t precs conflicts precedences supertypes = record {
  name = t.before.head.name;
  tokens = t.before.head.tokens;
  rules = t.before.head.rules;
  separators = t.before.head.separators;
  extras = t.before.head.extras;
  word = t.before.word;
  fields = t.fields;
  precs = precs;
  conflicts = conflicts;
  precedences = precedences;
  supertypes = supertypes;
}

pub record RightGrammar (version : ℕ) (known : Known) (f : FlatGrammar) : Type 0 where
  pub before : RightToPrecs known (to_precs_in f)
  pub precs : AllByRecursion IsShortText f.precs
  pub conflicts : (length f.conflicts < 2 ^ 32) × AllByRecursion (λ (set : List Symbol). (length set < 2 ^ 32) × AllByRecursion (IsBetween 0 (symbol_sum (head_in f))) set) f.conflicts
  pub precedences : (length f.precedences < 2 ^ 32) × AllByRecursion (λ (es : List Entry). (length es < 2 ^ 32) × AllByRecursion (RightEntry (symbol_sum (head_in f)) (length f.precs)) es) f.precedences
  pub supertypes : RightSupertypes (nat_eq version old_version) f.tokens f.rules f.supertypes

same_word : (o : Option Symbol) → flag (is_some o) ++ inner_of symbol o ≡ optional symbol o
same_word None = refl
same_word (Some x) = refl

before_is : (known : Known) (t : ToPrecs) (precs : List Bytes) (conflicts : List (List Symbol)) (precedences : List (List Entry)) (supertypes : List Symbol) (f : FlatGrammar)
    → RightToPrecs known t → length precs ≡ t.prec_count → f ≡ grammar_of t precs conflicts precedences supertypes → to_precs_in f ≡ t
before_is known t precs conflicts precedences supertypes f right counted is =
    ap to_precs_in is ∙ (let there = right.before.word.0 in let many = right.fields.0 in rw (there, many, counted) refl)

unfoldable pub natural : ℕ → FlatGrammar → Bytes
natural version f = joined (to_precs_spelled (to_precs_in f) ∷ flat_map text f.precs ∷ listed (listed symbol) f.conflicts ∷ listed (listed entry) f.precedences ∷ supertypes version f.supertypes ∷ [])

regroup : (name tokens_n tokens rules_n rules separators extras there word fields_n fields precs_n precs conflicts precedences supertypes : Bytes)
    → joined (joined (joined (joined (name ∷ tokens_n ∷ tokens ∷ rules_n ∷ rules ∷ separators ∷ extras ∷ there ∷ []) ∷ word ∷ fields_n ∷ []) ∷ fields ∷ precs_n ∷ []) ∷ precs ∷ conflicts ∷ precedences ∷ supertypes ∷ [])
    ≡ joined (joined (name ∷ joined (tokens_n ∷ tokens ∷ []) ∷ joined (rules_n ∷ rules ∷ []) ∷ separators ∷ extras ∷ (there ++ word) ∷ []) ∷ joined (joined (fields_n ∷ fields ∷ []) ∷ joined (precs_n ∷ precs ∷ []) ∷ conflicts ∷ precedences ∷ supertypes ∷ []) ∷ [])
regroup name tokens_n tokens rules_n rules separators extras there word fields_n fields precs_n precs conflicts precedences supertypes = simp (append_assoc, append-nil)

pub regrouped : (version : ℕ) (f : FlatGrammar) → natural version f ≡ fields version f
unfolding natural
regrouped version f =
    regroup (text f.name) (number32 (length f.tokens)) (flat_map token f.tokens) (number32 (length f.rules)) (flat_map rule f.rules) (listed re f.separators) (listed symbol f.extras) (flag (is_some f.word)) (inner_of symbol f.word)
    (number32 (length f.fields)) (flat_map text f.fields) (number32 (length f.precs)) (flat_map text f.precs) (listed (listed symbol) f.conflicts) (listed (listed entry) f.precedences) (supertypes version f.supertypes)
    ∙ ap (λ (w : Bytes). joined (joined (text f.name ∷ listed token f.tokens ∷ listed rule f.rules ∷ listed re f.separators ∷ listed symbol f.extras ∷ w ∷ []) ∷ back version f ∷ [])) (same_word f.word)

natural_law : (version : ℕ) (known : Known) → Law (fields_at version known) (natural version) (RightGrammar version known)
unfolding fields_at natural
natural_law version known = as_law
    (after_law to_precs_in (to_precs_law known) (λ t r1. then_law (λ (f : FlatGrammar). f.precs) (times_law text_law t.prec_count) (λ precs r2. then_law (λ (f : FlatGrammar). f.conflicts) (listed_law (symbols_law 0 (symbol_sum t.before.head))) (λ conflicts r3.
    then_law (λ (f : FlatGrammar). f.precedences) (listed_law (listed_law (entry_law (symbol_sum t.before.head) t.prec_count))) (λ precedences r4. then_law (λ (f : FlatGrammar). f.supertypes) (supertypes_law version t.before.head) (λ supertypes r5. give_law (grammar_of t precs conflicts precedences supertypes))
    (λ supertypes f right. ap (λ (f : FlatGrammar). f.supertypes) right)) (λ precedences f right. ap (λ (f : FlatGrammar). f.precedences) right.1)) (λ conflicts f right. ap (λ (f : FlatGrammar). f.conflicts) right.1.1)) (λ precs f right. ap (λ (f : FlatGrammar). f.precs) right.1.1.1))
    (λ t f r1 right. before_is known t f.precs f.conflicts f.precedences f.supertypes f r1 right.0.0 right.1.1.1.1))
    (λ f right. record { before = right.0; precs = right.1.0.1; conflicts = right.1.1.0; precedences = right.1.1.1.0; supertypes = right.1.1.1.1.0 })
    (λ f right. (right.before, ((refl, right.precs), (right.conflicts, (right.precedences, (right.supertypes, refl))))))

pub fields_law : (version : ℕ) (known : Known) → Law (fields_at version known) (fields version) (RightGrammar version known)
fields_law version known = spelled_law (natural_law version known) (λ f right. regrouped version f)
