-- A grammar that is read has its form: what the fields tell is what a fit grammar needs, but for
-- the causes that no single field tells.
use Rattle.std.proofs.Common.{◌≡◌, refl, sym, ◌∙◌, ap, subst, ℕ, zero, suc, ◌+◌, ◌-◌, ◌^◌, ◌<◌, ◌≤◌, ◌⊎◌, inl, inr, Bool, true, false, cond, nat_le, nat_lt, nat_eq, ◌&&◌, ◌||◌, List, [], ◌∷◌, ◌++◌, map, length, sum, slice_get, option_map, Option, Some, None, is_some, All, arith}
use Rattle.std.specs.List.{flat_map, AllByRecursion}
use Rattle.std.proofs.lemmas.List.{length-map}
use Rattle.std.proofs.lemmas.List.Elements.{All-from_recursion, All-nil}
use Rattle.std.proofs.lemmas.List.Sums.{sum_by-cons}
use Rattle.ts_base.specs.Bytes.{Bytes}
use Rattle.ts_core.specs.declared.flat.Alias.{Alias}
use Rattle.ts_core.specs.declared.flat.Entry.{Entry}
use Rattle.ts_core.specs.declared.flat.FlatGrammar.{FlatGrammar}
use Rattle.ts_core.specs.declared.flat.FlatRule.{FlatRule}
use Rattle.ts_core.specs.declared.flat.Prec.{Prec}
use Rattle.ts_core.specs.declared.flat.Production.{Production}
use Rattle.ts_core.specs.declared.flat.Step.{Step}
use Rattle.ts_core.specs.declared.flat.TokenDef.{TokenDef}
use Rattle.ts_core.specs.declared.re.Re.{Re}
use Rattle.ts_core.specs.declared.re.Re.TheOpen.{Re-F}
use Rattle.ts_core.specs.declared.re.Re.TheVariants.{Empty, Set, Cat, Alt, Repeat}
use Rattle.ts_core.specs.declared.re.Re.TheVariants.{rolls-Empty, rolls-Set, rolls-Cat, rolls-Alt, rolls-Repeat}
use Rattle.ts_core.specs.declared.re.Re.TheFolds.{fold-roll-Re}
use Rattle.ts_core.specs.declared.symbol.Kind.{Kind}
use Rattle.ts_core.specs.declared.symbol.Symbol.{Symbol}
use Rattle.spec_lexing.specs.Words.{Regular, empty, never, one_of, both, either, repeat, all_of, any_of, regular_step, regular_of}
use Rattle.spec_tables.specs.Fit.{Never, IfThere, IsShort, AreShort, AreRising, AreApartRanges, IsCharacter, IsRange, IsSet, IsInOrder, IsFormed, IsFitRe, IsFitStep, IsFitProduction, IsFitEntry, IsHiddenSymbol, IsPrec, IsSymbol, IsToken, lengths, lengths_step, symbols_of, rule_symbol, productions_of, most_symbols, most_steps, most_productions}
use Rattle.ts_fit.specs.Misfits.{IsFormedToken, IsFormedRule, IsFormedGrammar}
use Rattle.ts_langfile.specs.declared.known.Known.{Known}
use Rattle.ts_langfile.specs.Spelling.{old_version}
use Rattle.ts_langfile.specs.Parts.{is_character, ends_range, behind_range, behind_symbol, left_after, kind_there, is_hidden_kind, is_hidden, most_levels, may_be_keyword}
use Rattle.ts_langfile.specs.Right.{InTurn, IsShortText, IsBetween, IsName, begins_range, RightRange, RightMost, ReBy, RightRe, RightToken, RightPrec, RightStep, RightProduction, RightRule, RightEntry, IsSupertypeSymbol, RightSupertypes, RightBy, known_of, Right}
use Rattle.ts_langfile.proofs.PartLaws.{le_true, lt_true, and_true}

or_true : (a b : Bool) → (a || b) ≡ true → (a ≡ true) ⊎ (b ≡ true)
or_true true b e = inl refl
or_true false b e = inr e

-- each in the list, by its place
by_place : {A : Type 0} (P Q : A → Type 0) → ((x : A) → P x → Q x) → (xs : List A) → AllByRecursion P xs → All Q xs
by_place P Q to xs all = All-from_recursion Q xs (mapped xs all)
  where
    mapped : (xs : List _) → AllByRecursion P xs → AllByRecursion Q xs
    mapped [] all = tt
    mapped (x ∷ xs) all = (to x all.0, mapped xs all.1)

each_of : {S A : Type 0} (P : S → A → Type 0) (Q : A → Type 0) (after : S → A → S) → ((s : S) (x : A) → P s x → Q x) → (s : S) (xs : List A) → InTurn P after s xs → AllByRecursion Q xs
each_of P Q after to s [] all = tt
each_of P Q after to s (x ∷ xs) all = (to s x all.0, each_of P Q after to (after s x) xs all.1)

if_there : {A : Type 0} (P Q : A → Type 0) → ((x : A) → P x → Q x) → (o : Option A) → IfThere P o → IfThere Q o
if_there P Q to None right = tt
if_there P Q to (Some x) right = to x right

-- ---- sets

character : (c : ℕ) → is_character c ≡ true → IsCharacter c
character c e = elim (or_true (nat_lt c 55296) (nat_le 57344 c && nat_lt c 1114112) e) [
  | inl h ↦ inl (lt_true c 55296 h)
  | inr h ↦ (let w = and_true (nat_le 57344 c) (nat_lt c 1114112) h in inr (le_true 57344 c w.0, lt_true c 1114112 w.1))
]

one_side : (low high : ℕ) → (nat_lt high 55296 || nat_le 57344 low) ≡ true → (high < 55296) ⊎ (57344 ≤ low)
one_side low high e = elim (or_true (nat_lt high 55296) (nat_le 57344 low) e) [
  | inl h ↦ inl (lt_true high 55296 h)
  | inr h ↦ inr (le_true 57344 low h)
]

range_right : (least : ℕ) (r : ℕ × ℕ) → RightRange least r → IsRange r
range_right least r right =
    let low = and_true (is_character r.0) (nat_le least r.0) right.0.1 in
    let high = and_true (is_character r.1 && nat_le r.0 r.1) (nat_lt r.1 55296 || nat_le 57344 r.0) right.1.1 in
    let order = and_true (is_character r.1) (nat_le r.0 r.1) high.0 in
    (le_true r.0 r.1 order.1, character r.0 low.0, character r.1 order.0, one_side r.0 r.1 high.1)

range_least : (least : ℕ) (r : ℕ × ℕ) → RightRange least r → least ≤ r.0
range_least least r right = let low = and_true (is_character r.0) (nat_le least r.0) right.0.1 in le_true least r.0 low.1

apart : (least : ℕ) (ranges : List (ℕ × ℕ)) → InTurn RightRange behind_range least ranges → AreApartRanges ranges
apart least [] right = tt
apart least (a ∷ []) right = tt
apart least (a ∷ b ∷ ranges) right =
    let below : a.1 + 2 ≤ b.0 = range_least (a.1 + 2) b right.1.0 in
    (omega arith, apart (behind_range least a) (b ∷ ranges) right.1)

set_right : (ranges : List (ℕ × ℕ)) → length ranges < 2 ^ 32 → InTurn RightRange behind_range 0 ranges → IsSet ranges
set_right ranges few right =
    (few, All-from_recursion IsRange ranges (each_of RightRange IsRange behind_range range_right 0 ranges right), apart 0 ranges right)

-- ---- expressions

regular_empty : regular_of Empty ≡ empty
regular_empty = ap regular_of (sym rolls-Empty) ∙ fold-roll-Re Regular regular_step Re-F.Empty

regular_set : (ranges : List (ℕ × ℕ)) → regular_of (Set ranges) ≡ one_of ranges
regular_set ranges = ap regular_of (sym (rolls-Set ranges)) ∙ fold-roll-Re Regular regular_step (Re-F.Set ranges)

regular_cat : (parts : List Re) → regular_of (Cat parts) ≡ all_of (map regular_of parts)
regular_cat parts = ap regular_of (sym (rolls-Cat parts)) ∙ fold-roll-Re Regular regular_step (Re-F.Cat parts)

regular_alt : (parts : List Re) → regular_of (Alt parts) ≡ any_of (map regular_of parts)
regular_alt parts = ap regular_of (sym (rolls-Alt parts)) ∙ fold-roll-Re Regular regular_step (Re-F.Alt parts)

regular_repeat : (inner : Re) (least : ℕ) (most : Option ℕ) → regular_of (Repeat inner least most) ≡ repeat (regular_of inner) least most
regular_repeat inner least most = ap regular_of (sym (rolls-Repeat inner least most)) ∙ fold-roll-Re Regular regular_step (Re-F.Repeat inner least most)

lengths_empty : lengths Empty ≡ []
lengths_empty = ap lengths (sym rolls-Empty) ∙ fold-roll-Re (List ℕ) lengths_step Re-F.Empty

lengths_set : (ranges : List (ℕ × ℕ)) → lengths (Set ranges) ≡ []
lengths_set ranges = ap lengths (sym (rolls-Set ranges)) ∙ fold-roll-Re (List ℕ) lengths_step (Re-F.Set ranges)

abbrev all_lengths : List Re → List ℕ
all_lengths parts = length (map lengths parts) ∷ flat_map (λ (part : List ℕ). part) (map lengths parts)

lengths_cat : (parts : List Re) → lengths (Cat parts) ≡ all_lengths parts
lengths_cat parts = ap lengths (sym (rolls-Cat parts)) ∙ fold-roll-Re (List ℕ) lengths_step (Re-F.Cat parts)

lengths_alt : (parts : List Re) → lengths (Alt parts) ≡ all_lengths parts
lengths_alt parts = ap lengths (sym (rolls-Alt parts)) ∙ fold-roll-Re (List ℕ) lengths_step (Re-F.Alt parts)

lengths_repeat : (inner : Re) (least : ℕ) (most : Option ℕ) → lengths (Repeat inner least most) ≡ lengths inner
lengths_repeat inner least most = ap lengths (sym (rolls-Repeat inner least most)) ∙ fold-roll-Re (List ℕ) lengths_step (Re-F.Repeat inner least most)

abbrev IsFew : ℕ → Type 0
IsFew n = n < 2 ^ 32

-- the same with lengths one after another
abbrev Formed : Re → Type 0
Formed r = IsFormed (regular_of r) × AllByRecursion IsFew (lengths r)

all_joined : (xs ys : List ℕ) → AllByRecursion IsFew xs → AllByRecursion IsFew ys → AllByRecursion IsFew (xs ++ ys)
all_joined [] ys all more = more
all_joined (x ∷ xs) ys all more = (all.0, all_joined xs ys all.1 more)

all_few : (parts : List Re) → AllByRecursion Formed parts → AllByRecursion IsFew (flat_map (λ (part : List ℕ). part) (map lengths parts))
all_few [] all = tt
all_few (r ∷ parts) all = all_joined (lengths r) (flat_map (λ (part : List ℕ). part) (map lengths parts)) all.0.1 (all_few parts all.1)

all_formed : (parts : List Re) → AllByRecursion Formed parts → IsFormed (all_of (map regular_of parts))
all_formed [] all = tt
all_formed (r ∷ parts) all = (all.0.0, all_formed parts all.1)

any_formed : (parts : List Re) → AllByRecursion Formed parts → IsFormed (any_of (map regular_of parts))
any_formed [] all = tt
any_formed (r ∷ parts) all = (all.0.0, any_formed parts all.1)

parts_few : (parts : List Re) → length parts < 2 ^ 32 → AllByRecursion Formed parts → AllByRecursion IsFew (all_lengths parts)
parts_few parts few all = (rw length-map few, all_few parts all)

in_order : (least : ℕ) (most : Option ℕ) → RightMost least most → IsInOrder least most
in_order least None right = tt
in_order least (Some most) right = le_true least most right.1

all_right : (Inner : Re → Type 0) → ((r : Re) → Inner r → Formed r) → (parts : List Re) → AllByRecursion Inner parts → AllByRecursion Formed parts
all_right Inner to [] all = tt
all_right Inner to (r ∷ parts) all = (to r all.0, all_right Inner to parts all.1)

formed_by : (Inner : Re → Type 0) → ((r : Re) → Inner r → Formed r) → (tag : ℕ) (r : Re) → ReBy Inner tag r → Formed r
formed_by Inner to zero r right = rw (right, regular_empty, lengths_empty) (tt, tt)
formed_by Inner to (suc zero) r right = rw (right.1, regular_set right.0, lengths_set right.0) (set_right right.0 right.2.0 right.2.1, tt)
formed_by Inner to (suc (suc zero)) r right =
    let all = all_right Inner to right.0 right.2.1 in
    rw (right.1, regular_cat right.0, lengths_cat right.0) (all_formed right.0 all, parts_few right.0 right.2.0 all)
formed_by Inner to (suc (suc (suc zero))) r right =
    let all = all_right Inner to right.0 right.2.1 in
    rw (right.1, regular_alt right.0, lengths_alt right.0) (any_formed right.0 all, parts_few right.0 right.2.0 all)
formed_by Inner to (suc (suc (suc (suc tag)))) r right =
    let inner = to right.0 right.4 in
    rw (right.3, regular_repeat right.0 right.1 right.2, lengths_repeat right.0 right.1 right.2) ((in_order right.1 right.2 right.6, inner.0), inner.1)

formed : (room : ℕ) (r : Re) → RightRe room r → Formed r
formed zero r right = absurd right
formed (suc room) r right = formed_by (RightRe room) (formed room) right.0 r right.2

fit_re : (room : ℕ) (r : Re) → RightRe room r → IsFitRe r
fit_re room r right = let both = formed room r right in (both.0, All-from_recursion IsFew (lengths r) both.1)

-- ---- tokens

is_literal : (word : Option Bool) (f : FlatGrammar) (literal keyword : Bool) → may_be_keyword (known_of f) literal keyword ≡ true → keyword ≡ true → (literal ≡ true) × (is_some f.word ≡ true)
is_literal word f literal false e h = absurd cc
is_literal word f literal true e h = and_true literal (is_some f.word) e

has_word : {A : Type 0} (o : Option A) → is_some o ≡ true → Never (o ≡ None)
has_word None e none = absurd cc
has_word (Some x) e none = absurd cc

token_formed : (f : FlatGrammar) (d : TokenDef) → RightToken (known_of f) d → IsFormedToken f d
token_formed f d right = record {
  name = right.name.0;
  re = fit_re most_levels d.re right.re;
  literal = λ h. let w = is_literal None f d.literal d.keyword right.keyword h in w.0;
  word = λ h. let w = is_literal None f d.literal d.keyword right.keyword h in has_word f.word w.1;
}

-- ---- rules

prec_formed : (f : FlatGrammar) (p : Prec) → RightPrec (known_of f) p → IsPrec f p
prec_formed f Prec.Absent right = tt
prec_formed f (Prec.Number value) right = tt
prec_formed f (Prec.Name name) right = lt_true name (length f.precs) right.1

step_formed : (f : FlatGrammar) (s : Step) → RightStep (symbols_of f) (known_of f) s → IsFitStep f s
step_formed f s right = record {
  symbol = right.symbol.2;
  not_end = let least : 1 ≤ s.symbol.0 = right.symbol.1 in omega arith;
  prec = prec_formed f s.prec right.prec;
  field = if_there (IsName (Some (length f.fields))) (λ (n : ℕ). n < length f.fields) (λ n named. lt_true n (length f.fields) named.1) s.field right.field;
  alias = if_there (λ (a : Alias). IsShortText a.name) (λ (a : Alias). IsShort a.name) (λ a named. named.0) s.alias right.alias;
}

production_formed : (f : FlatGrammar) (p : Production) → RightProduction (symbols_of f) (known_of f) p → IsFitProduction f p
production_formed f p right = record {
  few = right.1;
  steps = by_place (RightStep (symbols_of f) (known_of f)) (IsFitStep f) (step_formed f) p.steps right.2;
}

rule_formed : (f : FlatGrammar) (left : ℕ) (r : FlatRule) → RightRule (symbols_of f) (known_of f) left r → IsFormedRule f r
rule_formed f left r right = record {
  name = right.name.0;
  owner = right.owner.2;
  productions = by_place (RightProduction (symbols_of f) (known_of f)) (IsFitProduction f) (production_formed f) r.productions right.productions;
}

few_in_all : (symbols : ℕ) (known : Known) (left : ℕ) (rules : List FlatRule) → InTurn (RightRule symbols known) left_after left rules → sum (map (λ (r : FlatRule). length r.productions) rules) ≤ left
few_in_all symbols known left [] right = omega arith
few_in_all symbols known left (r ∷ rules) right =
    let here : length r.productions ≤ left = right.0.few.1 in
    let rest : sum (map (λ (r : FlatRule). length r.productions) rules) ≤ left - length r.productions = few_in_all symbols known (left - length r.productions) rules right.1 in
    let both : sum (map (λ (r : FlatRule). length r.productions) (r ∷ rules)) ≡ length r.productions + sum (map (λ (r : FlatRule). length r.productions) rules) = sum_by-cons (λ (n : ℕ). n) (length r.productions) (map (λ (r : FlatRule). length r.productions) rules) in
    omega (arith, both, here, rest)

-- ---- lists of symbols

entry_formed : (f : FlatGrammar) (e : Entry) → RightEntry (symbols_of f) (length f.precs) e → IsFitEntry f e
entry_formed f (Entry.Name name) right = lt_true name (length f.precs) right.1
entry_formed f (Entry.Rule s) right = right.2

some_there : {A B : Type 0} (view : A → B) (o : Option A) (P : Option B → Bool) → P None ≡ false → P (option_map view o) ≡ true → (x : A) × (o ≡ Some x) × (P (Some (view x)) ≡ true)
some_there view None P none e = absurd cc
some_there view (Some x) P none e = (x, refl, e)

hidden_kind : (k : Kind) → is_hidden_kind (Some k) ≡ true → k ≡ Kind.Hidden
hidden_kind Kind.Named e = absurd cc
hidden_kind Kind.Anonymous e = absurd cc
hidden_kind Kind.Hidden e = refl

abbrev symbol_of : ℕ → Symbol
symbol_of n = record { 0 = n }

symbol_is : (s : Symbol) (n : ℕ) → s.0 ≡ n → s ≡ symbol_of n
symbol_is s n e = ap (λ (n : ℕ). symbol_of n) e

hidden_symbol : (f : FlatGrammar) (s : Symbol) (n : ℕ) → s.0 ≡ n → is_hidden f.tokens f.rules n ≡ true → IsHiddenSymbol f s
hidden_symbol f s zero is e = absurd cc
hidden_symbol f s (suc k) is e = by (nat_lt k (length f.tokens)) refl e
  where
    by : (b : Bool) → nat_lt k (length f.tokens) ≡ b
        → is_hidden_kind (cond b (option_map (λ (d : TokenDef). d.kind) (slice_get f.tokens k)) (option_map (λ (r : FlatRule). r.kind) (slice_get f.rules (k - length f.tokens)))) ≡ true → IsHiddenSymbol f s
    by true below e =
        let d = some_there (λ (d : TokenDef). d.kind) (slice_get f.tokens k) is_hidden_kind refl e in
        inl (d.0, k, d.1, is, hidden_kind d.0.kind d.2)
    by false above e =
        let r = some_there (λ (r : FlatRule). r.kind) (slice_get f.rules (k - length f.tokens)) is_hidden_kind refl e in
        let le : length f.tokens ≤ k = grind arith in
        let number : s.0 ≡ suc (length f.tokens + (k - length f.tokens)) = omega arith in
        inr (r.0, (k - length f.tokens, r.1, symbol_is s (suc (length f.tokens + (k - length f.tokens))) number), hidden_kind r.0.kind r.2)

supertype_formed : (f : FlatGrammar) (least : ℕ) (s : Symbol) → IsSupertypeSymbol f.tokens f.rules least s → IsHiddenSymbol f s
supertype_formed f least s right =
    let w = and_true (nat_le least s.0) (is_hidden f.tokens f.rules s.0) right.1 in
    hidden_symbol f s s.0 refl w.1

supertype_least : (tokens : List TokenDef) (rules : List FlatRule) (least : ℕ) (s : Symbol) → IsSupertypeSymbol tokens rules least s → least ≤ s.0
supertype_least tokens rules least s right =
    let w = and_true (nat_le least s.0) (is_hidden tokens rules s.0) right.1 in
    le_true least s.0 w.0

all_above : (tokens : List TokenDef) (rules : List FlatRule) (least : ℕ) (xs : List Symbol) → InTurn (IsSupertypeSymbol tokens rules) behind_symbol least xs → (k : ℕ) (b : Symbol) → slice_get xs k ≡ Some b → least ≤ b.0
all_above tokens rules least [] right k b e = absurd cc
all_above tokens rules least (x ∷ xs) right zero b e =
    let is : x ≡ b = cc in subst (λ (b : Symbol). least ≤ b.0) is (supertype_least tokens rules least x right.0)
all_above tokens rules least (x ∷ xs) right (suc k) b e =
    let first = supertype_least tokens rules least x right.0 in
    let later : x.0 + 1 ≤ b.0 = all_above tokens rules (x.0 + 1) xs right.1 k b e in
    omega (arith, first, later)

rising : (tokens : List TokenDef) (rules : List FlatRule) (least : ℕ) (xs : List Symbol) → InTurn (IsSupertypeSymbol tokens rules) behind_symbol least xs → AreRising xs
rising tokens rules least [] right j k a b below one two = absurd cc
rising tokens rules least (x ∷ xs) right zero zero a b below one two = absurd (omega arith)
rising tokens rules least (x ∷ xs) right zero (suc k) a b below one two =
    let is : x ≡ a = cc in
    let later : x.0 + 1 ≤ b.0 = all_above tokens rules (x.0 + 1) xs right.1 k b two in
    subst (λ (a : Symbol). a.0 < b.0) is (omega (arith, later))
rising tokens rules least (x ∷ xs) right (suc j) zero a b below one two = absurd (omega arith)
rising tokens rules least (x ∷ xs) right (suc j) (suc k) a b below one two = rising tokens rules (x.0 + 1) xs right.1 j k a b (omega arith) one two

supertypes_formed : (f : FlatGrammar) (old : Bool) → RightSupertypes old f.tokens f.rules f.supertypes → All (IsHiddenSymbol f) f.supertypes × AreRising f.supertypes
supertypes_formed f true right = rw right (All-nil (IsHiddenSymbol f), rising f.tokens f.rules 1 [] tt)
supertypes_formed f false right =
    (All-from_recursion (IsHiddenSymbol f) f.supertypes (each_of (IsSupertypeSymbol f.tokens f.rules) (IsHiddenSymbol f) behind_symbol (supertype_formed f) 1 f.supertypes right.1), rising f.tokens f.rules 1 f.supertypes right.1)

-- ---- the whole

no_rules : (tokens : ℕ) (rules : List FlatRule) → (nat_lt 0 (length rules) && nat_le (suc (tokens + length rules)) most_symbols) ≡ true → Never (rules ≡ []) × (suc (tokens + length rules) ≤ most_symbols)
no_rules tokens rules e =
    let w = and_true (nat_lt 0 (length rules)) (nat_le (suc (tokens + length rules)) most_symbols) e in
    let some : 0 < length rules = lt_true 0 (length rules) w.0 in
    (λ none. let size : length rules ≡ 0 = ap length none in omega arith, le_true (suc (tokens + length rules)) most_symbols w.1)

is_token : (f : FlatGrammar) (s : Symbol) → IsBetween 1 (suc (length f.tokens)) s → IsToken f s
is_token f s right = let least : 1 ≤ s.0 = right.1 in let bound : s.0 < suc (length f.tokens) = right.2 in (omega arith, omega arith)

pub right_formed : (version : ℕ) (f : FlatGrammar) → Right version f → IsFormedGrammar f
right_formed version f right =
    let rules = no_rules (length f.tokens) f.rules right.few_rules.1 in
    record {
      name = right.name.0;
      some_rule = rules.0;
      few_symbols = rules.1;
      few_fields = right.few_fields.1;
      few_precs = right.few_precs.1;
      few_productions = few_in_all (symbols_of f) (known_of f) most_productions f.rules right.rules;
      tokens = by_place (RightToken (known_of f)) (IsFormedToken f) (token_formed f) f.tokens right.tokens;
      rules = All-from_recursion (IsFormedRule f) f.rules (each_of (λ (left : ℕ). RightRule (symbols_of f) (known_of f) left) (IsFormedRule f) left_after (rule_formed f) most_productions f.rules right.rules);
      separators = (right.separators.0, by_place (RightRe most_levels) IsFitRe (fit_re most_levels) f.separators right.separators.1);
      extras = (right.extras.0, by_place (IsBetween 1 (suc (length f.tokens))) (IsToken f) (is_token f) f.extras right.extras.1);
      word = if_there (IsBetween 1 (suc (length f.tokens))) (IsToken f) (is_token f) f.word right.word;
      fields = (right.few_fields.0, by_place IsShortText (λ (t : Bytes). IsShort t) (λ t named. named.0) f.fields right.fields);
      precs = (right.few_precs.0, by_place IsShortText (λ (t : Bytes). IsShort t) (λ t named. named.0) f.precs right.precs);
      conflicts = (
        (right.conflicts.0, by_place (λ (set : List Symbol). (length set < 2 ^ 32) × AllByRecursion (IsBetween 0 (symbols_of f)) set) (λ (set : List Symbol). IsShort set) (λ set is. is.0) f.conflicts right.conflicts.1),
        by_place (λ (set : List Symbol). (length set < 2 ^ 32) × AllByRecursion (IsBetween 0 (symbols_of f)) set) (λ (set : List Symbol). All (IsSymbol f) set) (λ set is. by_place (IsBetween 0 (symbols_of f)) (IsSymbol f) (λ s is. is.2) set is.1) f.conflicts right.conflicts.1,
      );
      precedences = (
        (right.precedences.0, by_place (λ (es : List Entry). (length es < 2 ^ 32) × AllByRecursion (RightEntry (symbols_of f) (length f.precs)) es) (λ (es : List Entry). IsShort es) (λ es is. is.0) f.precedences right.precedences.1),
        by_place (λ (es : List Entry). (length es < 2 ^ 32) × AllByRecursion (RightEntry (symbols_of f) (length f.precs)) es) (λ (es : List Entry). All (IsFitEntry f) es) (λ es is. by_place (RightEntry (symbols_of f) (length f.precs)) (IsFitEntry f) (entry_formed f) es is.1) f.precedences right.precedences.1,
      );
      supertypes = supertypes_formed f (nat_eq version old_version) right.supertypes;
    }
