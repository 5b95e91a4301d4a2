-- A grammar in normal form that is fit, typed and shallow is right in a language file.
use Rattle.std.proofs.Common.{◌≡◌, ap, refl, ℕ, suc, ◌+◌, ◌-◌, ◌<◌, ◌≤◌, ◌^◌, inl, inr, Bool, true, false, nat_lt, nat_le, List, [], ◌∷◌, map, length, sum, slice_get, Option, Some, None, is_some, All, arith}
use Rattle.std.specs.List.{Contains, AllByRecursion}
use Rattle.std.specs.Str.{IsUtf8}
use Rattle.std.proofs.lemmas.Str.{is_utf8-from_IsUtf8}
use Rattle.std.proofs.lemmas.List.Sums.{sum_by-cons}
use Rattle.std.proofs.lemmas.List.Elements.{All-contains}
use Rattle.std.proofs.lemmas.Option.{slice_get_within}
use Rattle.ts_base.specs.Bytes.{Bytes}
use Rattle.ts_core.specs.declared.flat.Alias.{Alias}
use Rattle.ts_core.specs.declared.flat.Entry.{Entry}
use Rattle.ts_core.specs.declared.flat.FlatGrammar.{FlatGrammar}
use Rattle.ts_core.specs.declared.flat.FlatRule.{FlatRule}
use Rattle.ts_core.specs.declared.flat.Prec.{Prec}
use Rattle.ts_core.specs.declared.flat.Production.{Production}
use Rattle.ts_core.specs.declared.flat.Step.{Step}
use Rattle.ts_core.specs.declared.flat.TokenDef.{TokenDef}
use Rattle.ts_core.specs.declared.symbol.Symbol.{Symbol}
use Rattle.spec_tables.specs.Fit.{AreRising, AreShort, Fit, IfThere, IsFitEntry, IsFitProduction, IsFitRe, IsFitRule, IsFitStep, IsFitToken, IsHiddenSymbol, IsPrec, IsShort, IsSymbol, IsToken, Never, most_names, most_productions, most_symbols, symbols_of}
use Rattle.ts_langfile.specs.Parts.{behind_symbol, is_hidden, left_after, may_be_keyword, most_levels}
use Rattle.ts_langfile.specs.Right.{InTurn, IsShortText, IsBetween, IsName, RightRe, RightToken, RightPrec, RightStep, RightProduction, RightRule, RightEntry, IsSupertypeSymbol, Right, known_of}
use Rattle.ts_langfile.specs.Spelling.{new_version}
use Rattle.ts_front.specs.Nesting.{AreShallow}
use Rattle.ts_front.specs.Typed.{IsTypedPrec, IsTypedProduction, IsTypedRule, IsTypedStep, IsTyped}
use Rattle.ts_front.proofs.MemberLemmas.{there, at_of, head_in, tail_in, each_so}
use Rattle.ts_front.proofs.ReRightLemmas.{re_right, true_and, true_le, true_lt}

-- ---- lists

if_there : {A : Type 0} (P Q : A → Type 0) → ((x : A) → P x → Q x) → (o : Option A) → IfThere P o → IfThere Q o
if_there P Q to None h = tt
if_there P Q to (Some x) h = to x h

-- of what is in the list: what is known of each, from two facts
each_of : {A : Type 0} (P Q : A → Type 0) (xs : List A) → All P xs → ((x : A) → Contains xs x → P x → Q x) → AllByRecursion Q xs
each_of P Q xs all to = each_so Q xs (λ x w. to x w (All-contains P xs x all w))

-- ---- texts, symbols and names

text_right : (t : Bytes) → IsShort t → IsUtf8 t → IsShortText t
text_right t short utf8 = (short, is_utf8-from_IsUtf8 t utf8)

texts_right : (ts : List Bytes) → AreShort ts → ((t : Bytes) → Contains ts t → IsUtf8 t) → AllByRecursion IsShortText ts
texts_right ts short utf8 = each_of (λ (t : Bytes). IsShort t) IsShortText ts short.1 (λ t w h. text_right t h (utf8 t w))

module _ (f : FlatGrammar) (fit : Fit f) where
  few : symbols_of f ≤ most_symbols
  few = fit.few_symbols

  token_right : (s : Symbol) → IsToken f s → IsBetween 1 (suc (length f.tokens)) s
  token_right s h =
      let above = h.0 in
      let below = h.1 in
      let bound = few in
      (omega (arith, below, bound), omega (arith, above), omega (arith, below))

  symbol_right : (s : Symbol) → IsSymbol f s → IsBetween 0 (symbols_of f) s
  symbol_right s h = let bound = few in (omega (arith, h, bound), omega arith, h)

  name_right : (count k : ℕ) → count ≤ most_names → k < count → IsName (Some count) k
  name_right count k bound lt = (omega (arith, lt, bound), true_lt k count lt)

  -- ---- tokens

  may_keyword : (literal keyword : Bool) → (keyword ≡ true → literal ≡ true) → (keyword ≡ true → Never (f.word ≡ None)) → may_be_keyword (known_of f) literal keyword ≡ true
  may_keyword literal false a b = refl
  may_keyword literal true a b = true_and literal (is_some f.word) (a refl) (has_word f.word (b refl))
    where
      has_word : {A : Type 0} (o : Option A) → Never (o ≡ None) → is_some o ≡ true
      has_word None h = absurd (h refl)
      has_word (Some x) h = refl

  -- ---- supertypes

  hidden_there : (s : Symbol) → IsHiddenSymbol f s → is_hidden f.tokens f.rules s.0 ≡ true
  hidden_there s (inl h) =
      let at = h.2 in
      let below : nat_lt h.1 (length f.tokens) ≡ true = true_lt h.1 (length f.tokens) (slice_get_within f.tokens h.1 h.0 at) in
      rw (h.3, below, at, h.4) refl
  hidden_there s (inr h) =
      let k = h.1.0 in
      let at = h.1.1 in
      let number : s.0 ≡ suc (length f.tokens + k) = ap (λ (z : Symbol). z.0) h.1.2 in
      let past : nat_lt (length f.tokens + k) (length f.tokens) ≡ false = grind arith in
      let place : length f.tokens + k - length f.tokens ≡ k = omega arith in
      rw (number, past, place, at, h.2) refl

  small_there : (s : Symbol) → IsHiddenSymbol f s → (0 < s.0) × (s.0 < symbols_of f)
  small_there s (inl h) =
      let number = h.3 in
      let lt = slice_get_within f.tokens h.1 h.0 h.2 in
      (omega (arith, number), omega (arith, number, lt))
  small_there s (inr h) =
      let k = h.1.0 in
      let number : s.0 ≡ suc (length f.tokens + k) = ap (λ (z : Symbol). z.0) h.1.2 in
      let lt = slice_get_within f.rules k h.0 h.1.1 in
      (omega (arith, number), omega (arith, number, lt))

  supertypes_right : (least : ℕ) (xs : List Symbol) → ((k : ℕ) (b : Symbol) → slice_get xs k ≡ Some b → least ≤ b.0) → ((b : Symbol) → Contains xs b → IsHiddenSymbol f b) → AreRising xs
      → InTurn (IsSupertypeSymbol f.tokens f.rules) behind_symbol least xs
  supertypes_right least [] above hidden rising = tt
  supertypes_right least (x ∷ xs) above hidden rising =
      let here = hidden x (head_in x xs) in
      let small = (small_there x here).1 in
      let bound = few in (
        (omega (arith, small, bound), true_and (nat_le least x.0) (is_hidden f.tokens f.rules x.0) (true_le least x.0 (above 0 x refl)) (hidden_there x here)),
        supertypes_right (behind_symbol least x) xs
            (λ k b at. let lt : x.0 < b.0 = rising 0 (suc k) x b (omega arith) refl at in omega (arith, lt))
            (λ b w. hidden b (tail_in x b xs w))
            (λ j k a b lt one two. rising (suc j) (suc k) a b (omega (arith, lt)) one two),
      )

  -- as they rise, there are no more of them than symbols
  few_rising : (least : ℕ) (xs : List Symbol) → ((k : ℕ) (b : Symbol) → slice_get xs k ≡ Some b → least ≤ b.0) → ((b : Symbol) → Contains xs b → IsHiddenSymbol f b) → AreRising xs → least ≤ most_symbols → length xs + least ≤ most_symbols
  few_rising least [] above hidden rising le = omega (arith, le)
  few_rising least (x ∷ xs) above hidden rising le =
      let small = (small_there x (hidden x (head_in x xs))).1 in
      let bound = few in
      let low = above 0 x refl in
      let rest = few_rising (x.0 + 1) xs
      (λ k b at. let lt : x.0 < b.0 = rising 0 (suc k) x b (omega arith) refl at in omega (arith, lt))
      (λ b w. hidden b (tail_in x b xs w))
      (λ j k a b lt one two. rising (suc j) (suc k) a b (omega (arith, lt)) one two)
      (omega (arith, small, bound)) in
      omega (arith, rest, low)

  module _ (typed : IsTyped f) (shallow : AreShallow f) where
    token_def_right : (d : TokenDef) → Contains f.tokens d → IsFitToken f d → RightToken (known_of f) d
    token_def_right d w h =
        let t = typed.tokens d w in
        record {
          name = text_right d.name h.name t.name;
          re = re_right d.re h.re t.counts (shallow.tokens d w);
          prec = t.prec;
          keyword = may_keyword d.literal d.keyword h.literal h.word;
        }

    -- ---- rules

    prec_right : (p : Prec) → IsTypedPrec p → IsPrec f p → RightPrec (known_of f) p
    prec_right Prec.Absent t h = tt
    prec_right (Prec.Number value) t h = t
    prec_right (Prec.Name name) t h = name_right (length f.precs) name fit.few_precs h

    alias_right : (o : Option Alias) → IfThere (λ (a : Alias). IsUtf8 a.name) o → IfThere (λ (a : Alias). IsShort a.name) o → IfThere (λ (a : Alias). IsShortText a.name) o
    alias_right None t h = tt
    alias_right (Some a) t h = text_right a.name h t

    step_right : (s : Step) → IsTypedStep s → IsFitStep f s → RightStep (symbols_of f) (known_of f) s
    step_right s t h =
        let below = h.symbol in
        let above = h.not_end in
        let bound = few in
        record {
          symbol = (omega (arith, below, bound), omega (arith, above), below);
          prec = prec_right s.prec t.prec h.prec;
          alias = alias_right s.alias t.alias h.alias;
          field = if_there (λ (k : ℕ). k < length f.fields) (IsName (Some (length f.fields))) (λ k lt. name_right (length f.fields) k fit.few_fields lt) s.field h.field;
        }

    production_right : (p : Production) → IsTypedProduction p → IsFitProduction f p → RightProduction (symbols_of f) (known_of f) p
    production_right p t h = (t.dynamic, h.few, each_of (IsFitStep f) (RightStep (symbols_of f) (known_of f)) p.steps h.steps (λ s w k. step_right s (t.steps s w) k))

    rule_right : (left k : ℕ) (r : FlatRule) → length r.productions ≤ left → left ≤ most_productions → IsTypedRule r → IsFitRule f k r → RightRule (symbols_of f) (known_of f) left r
    rule_right left k r le bound t h = record {
      name = text_right r.name h.name t.name;
      owner = symbol_right r.owner h.owner;
      few = (omega (arith, le, bound), le);
      productions = each_of (IsFitProduction f) (RightProduction (symbols_of f) (known_of f)) r.productions h.productions (λ p w k. production_right p (t.productions p w) k);
    }

    rules_right : (left : ℕ) (rules : List FlatRule) → left ≤ most_productions → sum (map (λ (r : FlatRule). length r.productions) rules) ≤ left
        → ((r : FlatRule) → Contains rules r → (k : ℕ) × IsFitRule f k r) → ((r : FlatRule) → Contains rules r → IsTypedRule r)
        → InTurn (λ (left : ℕ). RightRule (symbols_of f) (known_of f) left) left_after left rules
    rules_right left [] bound le fits types = tt
    rules_right left (r ∷ rules) bound le fits types =
        let rest : ℕ = sum (map (λ (r : FlatRule). length r.productions) rules) in
        let both : sum (map (λ (r : FlatRule). length r.productions) (r ∷ rules)) ≡ length r.productions + rest
        = sum_by-cons (λ (n : ℕ). n) (length r.productions) (map (λ (r : FlatRule). length r.productions) rules) in
        let h = fits r (head_in r rules) in (
          rule_right left h.0 r (omega (arith, le, both)) bound (types r (head_in r rules)) h.1,
          rules_right (left - length r.productions) rules (omega (arith, bound)) (omega (arith, le, both)) (λ q w. fits q (tail_in r q rules w)) (λ q w. types q (tail_in r q rules w)),
        )

    fit_at : (r : FlatRule) → Contains f.rules r → (k : ℕ) × IsFitRule f k r
    fit_at r w = (w.0, fit.rules w.0 r (place f.rules r w))
      where
        place : (xs : List FlatRule) (x : FlatRule) → (w : Contains xs x) → slice_get xs w.0 ≡ Some x
        place xs x w = at_of xs x w

    -- ---- the whole

    some : (rules : List FlatRule) → Never (rules ≡ []) → 0 < length rules
    some [] h = absurd (h refl)
    some (r ∷ rules) h = omega arith

    entry_right : (e : Entry) → IsFitEntry f e → RightEntry (symbols_of f) (length f.precs) e
    entry_right (Entry.Name name) h = name_right (length f.precs) name fit.few_precs h
    entry_right (Entry.Rule s) h = symbol_right s h

    pub form_right : Right new_version f
    form_right =
        let bound = few in
        let some_rule = some f.rules fit.some_rule in
        let names = fit.few_fields in
        let precs = fit.few_precs in
        let above : (k : ℕ) (b : Symbol) → slice_get f.supertypes k ≡ Some b → 1 ≤ b.0
        = λ k b at. let gt = (small_there b (All-contains (IsHiddenSymbol f) f.supertypes b fit.supertypes.0 (there f.supertypes k b at))).0 in omega (arith, gt) in
        let hidden : (b : Symbol) → Contains f.supertypes b → IsHiddenSymbol f b = λ b w. All-contains (IsHiddenSymbol f) f.supertypes b fit.supertypes.0 w in
        let length_is = few_rising 1 f.supertypes above hidden fit.supertypes.1 (omega arith) in
        record {
          name = text_right f.name fit.name typed.name;
          few_tokens = (omega (arith, bound), omega (arith, bound));
          tokens = each_of (IsFitToken f) (RightToken (known_of f)) f.tokens fit.tokens (λ d w h. token_def_right d w h);
          few_rules = (omega (arith, bound), true_and (nat_lt 0 (length f.rules)) (nat_le (suc (length f.tokens + length f.rules)) most_symbols) (true_lt 0 (length f.rules) some_rule) (true_le (suc (length f.tokens + length f.rules)) most_symbols bound));
          rules = rules_right most_productions f.rules (omega arith) fit.few_productions fit_at typed.rules;
          separators = (fit.separators.0, each_of IsFitRe (RightRe most_levels) f.separators fit.separators.1 (λ re w h. re_right re h (typed.separators re w) (shallow.separators re w)));
          extras = (fit.extras.0, each_of (IsToken f) (IsBetween 1 (suc (length f.tokens))) f.extras fit.extras.1 (λ s w h. token_right s h));
          word = if_there (IsToken f) (IsBetween 1 (suc (length f.tokens))) token_right f.word fit.word;
          few_fields = (fit.fields.0, names);
          fields = texts_right f.fields fit.fields typed.fields;
          few_precs = (fit.precs.0, precs);
          precs = texts_right f.precs fit.precs typed.precs;
          conflicts = (
            fit.conflicts.0.0,
            each_so (λ (set : List Symbol). (length set < 2 ^ 32) × AllByRecursion (IsBetween 0 (symbols_of f)) set) f.conflicts (λ set w. (
              All-contains (λ (xs : List Symbol). IsShort xs) f.conflicts set fit.conflicts.0.1 w,
              each_of (IsSymbol f) (IsBetween 0 (symbols_of f)) set (All-contains (λ (set : List Symbol). All (IsSymbol f) set) f.conflicts set fit.conflicts.1 w) (λ s v h. symbol_right s h),
            )),
          );
          precedences = (
            fit.precedences.0.0,
            each_so (λ (es : List Entry). (length es < 2 ^ 32) × AllByRecursion (RightEntry (symbols_of f) (length f.precs)) es) f.precedences (λ es w. (
              All-contains (λ (xs : List Entry). IsShort xs) f.precedences es fit.precedences.0.1 w,
              each_of (IsFitEntry f) (RightEntry (symbols_of f) (length f.precs)) es (All-contains (λ (list : List Entry). All (IsFitEntry f) list) f.precedences es fit.precedences.1 w) (λ e v h. entry_right e h),
            )),
          );
          supertypes = (omega (arith, length_is), supertypes_right 1 f.supertypes above hidden fit.supertypes.1);
        }
