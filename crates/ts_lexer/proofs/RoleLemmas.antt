-- What a part is for the valid tokens.
use Rattle.std.proofs.Common.{◌≡◌, ◌∙◌, sym, ap, refl, subst, ℕ, zero, suc, ◌+◌, ◌-◌, ◌≤◌, ◌<◌, ◌⊎◌, inl, inr, ◌&&◌, ◌||◌, not, Bool, true, false, List, [], ◌∷◌, length, get_or, slice_get, Option, Some, None, ◌↔◌, IsTrue, arith}
use Rattle.std.specs.List.{Contains}
use Rattle.std.specs.Option.{option_map}
use Rattle.std.proofs.lemmas.List.{length-map}
use Rattle.std.proofs.lemmas.Option.{slice_get_within, slice_get-map, slice_get_read}
use Rattle.ts_core.specs.declared.flat.FlatGrammar.{FlatGrammar}
use Rattle.ts_core.specs.declared.flat.TokenDef.{TokenDef}
use Rattle.ts_core.specs.declared.re.Re.{Re}
use Rattle.ts_core.specs.declared.symbol.Symbol.{Symbol}
use Rattle.ts_lexer.specs.declared.rules.Kind.{Kind}
use Rattle.ts_lexer.specs.declared.rules.Rules.{Rules}
use Rattle.ts_lexer.specs.declared.view.View.{View}
use Rattle.ts_lexer.specs.Rules.{kind_of, IsRules}
use Rattle.ts_lexer.specs.Views.{IsView, MayTake, IsRole}
use Rattle.ts_lexer.specs.Judged.{IsTokenPart, Wanted, valid_token, word_token, a_separator, IsSeparatorPart}

abbrev symbol_at : ℕ → Symbol
symbol_at k = record { 0 = suc k }

-- the token that has a kind
pub token_at : (g : FlatGrammar) (r : Rules) (k : ℕ) (kind : Kind) → IsRules g r → slice_get r.kinds.items k ≡ Some kind → (t : TokenDef) × (slice_get g.tokens k ≡ Some t) × (kind ≡ kind_of t)
token_at g r k kind is at = by (slice_get g.tokens k) refl
  where
    mapped : option_map kind_of (slice_get g.tokens k) ≡ Some kind
    mapped = sym (slice_get-map kind_of g.tokens k) ∙ sym (ap (λ (l : List Kind). slice_get l k) is.kinds) ∙ at

    by : (o : Option TokenDef) → slice_get g.tokens k ≡ o → (t : TokenDef) × (slice_get g.tokens k ≡ Some t) × (kind ≡ kind_of t)
    by None e = let f : None ≡ Some kind = sym (ap (option_map kind_of) e) ∙ mapped in cc
    by (Some t) e =
        let f : Some (kind_of t) ≡ Some kind = sym (ap (option_map kind_of) e) ∙ mapped in
        let h : kind ≡ kind_of t = cc in
        (t, e, h)

pub kind_count : (g : FlatGrammar) (r : Rules) → IsRules g r → length r.kinds.items ≡ length g.tokens
kind_count g r is = ap (λ (l : List Kind). length l) is.kinds ∙ length-map g.tokens kind_of

-- the kind of a token
pub kind_there : (g : FlatGrammar) (r : Rules) (k : ℕ) (t : TokenDef) → IsRules g r → slice_get g.tokens k ≡ Some t → slice_get r.kinds.items k ≡ Some (kind_of t)
kind_there g r k t is at = ap (λ (l : List Kind). slice_get l k) is.kinds ∙ slice_get-map kind_of g.tokens k ∙ ap (option_map kind_of) at

-- the kind that is read for a token
pub kind_within : (g : FlatGrammar) (r : Rules) (part : ℕ) (s : Symbol) (t : TokenDef) → IsRules g r → IsTokenPart g part s t → s.0 - 1 < length r.kinds.items
kind_within g r part s t is x = let w = slice_get_within g.tokens part t x.at in let c = kind_count g r is in let n = x.number in omega arith

pub kind_read : (g : FlatGrammar) (r : Rules) (part : ℕ) (s : Symbol) (t : TokenDef) (k : Kind) → IsRules g r → IsTokenPart g part s t → s.0 - 1 < length r.kinds.items → k ≡ get_or r.kinds.items (s.0 - 1) k → k ≡ kind_of t
kind_read g r part s t k is x below at =
    let j : s.0 - 1 ≡ part = (let n = x.number in omega arith) in
    let e : Some k ≡ Some (kind_of t) = sym (slice_get_read r.kinds.items (length r.kinds.items) (s.0 - 1) k refl below at) ∙ ap (λ (n : ℕ). slice_get r.kinds.items n) j ∙ kind_there g r part t is x.at in
    cc

or_and_from : (a k w : Bool) → IsTrue (a || (k && w)) → IsTrue a ⊎ (IsTrue k × IsTrue w)
or_and_from true k w x = inl refl
or_and_from false true true x = inr (refl, refl)
or_and_from false true false x = absurd (let e : false ≡ true = x in cc)
or_and_from false false w x = absurd (let e : false ≡ true = x in cc)

or_and_to : (a k w : Bool) → IsTrue a ⊎ (IsTrue k × IsTrue w) → IsTrue (a || (k && w))
or_and_to true k w x = refl
or_and_to false true true x = refl
or_and_to false true false (inl e) = absurd (let f : false ≡ true = e in cc)
or_and_to false true false (inr e) = absurd (let f : false ≡ true = e.1 in cc)
or_and_to false false w (inl e) = absurd (let f : false ≡ true = e in cc)
or_and_to false false w (inr e) = absurd (let f : false ≡ true = e.0 in cc)

-- a valid token that may stand at the place, of a kind
record May (b f i x : Bool) : Type 0 where
  valid : b ≡ true
  stands : i ≡ true → f ≡ true
  kind : x ≡ true

may_from : (b f i x : Bool) → IsTrue ((b && (f || not i)) && x) → May b f i x
may_from true true i true h = record { valid = refl; stands = λ _. refl; kind = refl }
may_from true false false true h = record { valid = refl; stands = λ e. (let g : false ≡ true = e in cc); kind = refl }
may_from true true i false h = absurd (let e : false ≡ true = h in cc)
may_from true false true x h = absurd (let e : false ≡ true = h in cc)
may_from true false false false h = absurd (let e : false ≡ true = h in cc)
may_from false f i x h = absurd (let e : false ≡ true = h in cc)

may_to : (b f i x : Bool) → May b f i x → IsTrue ((b && (f || not i)) && x)
may_to true true i true m = refl
may_to true false false true m = refl
may_to true true i false m = absurd (let e : false ≡ true = m.kind in cc)
may_to true false true x m = absurd (let e : false ≡ true = m.stands refl in cc)
may_to true false false false m = absurd (let e : false ≡ true = m.kind in cc)
may_to false f i x m = absurd (let e : false ≡ true = m.valid in cc)

no_of : (a : Bool) → not a ≡ true → a ≡ false
no_of true e = absurd (let f : false ≡ true = e in cc)
no_of false e = refl

of_no : (a : Bool) → a ≡ false → not a ≡ true
of_no true e = absurd (let f : true ≡ false = e in cc)
of_no false e = refl

module _ (g : FlatGrammar) (valid : List Symbol) (first : Bool) (r : Rules) (v : View) (is : IsRules g r) (view : IsView g valid v) where
  -- a part that is no token
  pub beyond_role : (part : ℕ) (b : Bool) → length r.kinds.items ≤ part → IsTrue b ↔ (part < r.parts)
      → IsRole g valid first part (record { wanted = b; plain = false; keyword = false; word = false; separator = b })
  beyond_role part b past test = record {
    wanted = ((λ x. let s = separator (test.0 x) in a_separator s.place s.separator s.number s.at), (λ w. test.1 (wanted w)));
    plain = ((λ x. absurd (no_true x)), (λ w. absurd (no_token w.0 w.1 w.2.is_token)));
    keyword = ((λ x. absurd (no_true x)), (λ w. absurd (no_token w.0 w.1 w.2.is_token)));
    word = ((λ x. absurd (no_true x)), (λ w. absurd (no_token w.symbol w.token w.is_token)));
    separator = ((λ x. separator (test.0 x)), (λ w. test.1 (within w.place w.separator w.number w.at)));
  }
    where
      no_true : IsTrue false → ⊥
      no_true x = cc

      no_token : (s : Symbol) (t : TokenDef) → IsTokenPart g part s t → ⊥
      no_token s t x = let w = slice_get_within g.tokens part t x.at in let c = kind_count g r is in omega arith

      within : (place : ℕ) (separator : Re) → part ≡ length g.tokens + place → slice_get g.separators place ≡ Some separator → part < r.parts
      within place separator number at = let w = slice_get_within g.separators place separator at in let p = is.parts in omega arith

      wanted : Wanted g valid part → part < r.parts
      wanted (valid_token s t _ x) = absurd (no_token s t x)
      wanted (word_token _ s t _ x) = absurd (no_token s t x)
      wanted (a_separator place separator number at) = within place separator number at

      find : (xs : List Re) (k : ℕ) → k < length xs → (x : Re) × (slice_get xs k ≡ Some x)
      find [] k lt = absurd (omega arith)
      find (x ∷ xs) zero lt = (x, refl)
      find (x ∷ xs) (suc k) lt = find xs k (omega arith)

      separator : part < r.parts → IsSeparatorPart g part
      separator lt =
          let c = kind_count g r is in
          let p = is.parts in
          let f = find g.separators (part - length g.tokens) (omega arith) in
          record { place = part - length g.tokens; separator = f.0; number = omega arith; at = f.1 }

  -- a part that is a token
  token_role_of : (part : ℕ) (kind : Kind) (b w : Bool) (t : TokenDef) → slice_get g.tokens part ≡ Some t → kind ≡ kind_of t → IsTrue b ↔ (slice_get v.marks.items part ≡ Some true)
      → IsTrue w ↔ ((s : Symbol) × (r.word ≡ Some s) × (s.0 ≡ suc part))
      → IsRole g valid first part (record {
        wanted = b || (v.keyworded && w);
        plain = (b && (first || not kind.immediate)) && not kind.keyword;
        keyword = (b && (first || not kind.immediate)) && kind.keyword;
        word = w;
        separator = false;
      })
  token_role_of part kind b w t at kind_is marked named = record {
    wanted = ((λ x. wanted (or_and_from b v.keyworded w x)), (λ x. or_and_to b v.keyworded w (counted x)));
    plain = (
      (λ x. taken false (not kind.keyword) (may_from b first kind.immediate (not kind.keyword) x) (λ e. sym kw ∙ no_of kind.keyword e)),
      (λ m. may_to b first kind.immediate (not kind.keyword) (offered false (not kind.keyword) m (λ e. of_no kind.keyword (kw ∙ e)))),
    );
    keyword = (
      (λ x. taken true kind.keyword (may_from b first kind.immediate kind.keyword x) (λ e. sym kw ∙ e)),
      (λ m. may_to b first kind.immediate kind.keyword (offered true kind.keyword m (λ e. kw ∙ e))),
    );
    word = (
      (λ x. let n = named.0 x in record { symbol = n.0; token = t; word = sym is.word ∙ n.1; is_token = record { number = n.2; at = at } }),
      (λ x. named.1 (x.symbol, is.word ∙ x.word, x.is_token.number)),
    );
    separator = ((λ x. absurd (let e : false ≡ true = x in cc)), (λ x. absurd (let w = slice_get_within g.tokens part t at in let n = x.number in omega arith)));
  }
    where
      kw : kind.keyword ≡ t.keyword
      kw = ap (λ (k : Kind). k.keyword) kind_is

      imm : kind.immediate ≡ t.immediate
      imm = ap (λ (k : Kind). k.immediate) kind_is

      below : part < length g.tokens
      below = slice_get_within g.tokens part t at

      in_valid : IsTrue b ↔ Contains valid (symbol_at part)
      in_valid = let m = view.marks part (symbol_at part) refl below in ((λ x. m.0 (marked.0 x)), (λ x. marked.1 (m.1 x)))

      here : IsTokenPart g part (symbol_at part) t
      here = record { number = refl; at = at }

      wanted : IsTrue b ⊎ (IsTrue v.keyworded × IsTrue w) → Wanted g valid part
      wanted (inl x) = valid_token (symbol_at part) t (in_valid.0 x) here
      wanted (inr x) = let n = named.0 x.1 in word_token (view.keyworded.0 x.0) n.0 t (sym is.word ∙ n.1) (record { number = n.2; at = at })

      symbol_is : (s : Symbol) → s.0 ≡ suc part → s ≡ symbol_at part
      symbol_is s e = ap {B = Symbol} (λ (n : ℕ). record { 0 = n }) e

      counted : Wanted g valid part → IsTrue b ⊎ (IsTrue v.keyworded × IsTrue w)
      counted (valid_token s u is_valid x) = inl (in_valid.1 (subst (λ (y : Symbol). Contains valid y) (symbol_is s x.number) is_valid))
      counted (word_token has s u word x) = inr (view.keyworded.1 has, named.1 (s, is.word ∙ word, x.number))
      counted (a_separator place separator number _) = absurd (let lt = below in omega arith)

      taken : (keyword x : Bool) → May b first kind.immediate x → (x ≡ true → t.keyword ≡ keyword) → MayTake g valid first keyword part
      taken keyword x m is_kind = (
        symbol_at part,
        t,
        record {
          is_valid = in_valid.0 m.valid;
          is_token = here;
          immediate = λ e. m.stands (imm ∙ e);
          kind = is_kind m.kind;
        },
      )

      offered : (keyword x : Bool) → MayTake g valid first keyword part → (t.keyword ≡ keyword → x ≡ true) → May b first kind.immediate x
      offered keyword x (s, u, o) is_kind =
          let e : Some u ≡ Some t = sym o.is_token.at ∙ at in
          let same : u ≡ t = cc in
          record {
            valid = in_valid.1 (subst (λ (y : Symbol). Contains valid y) (symbol_is s o.is_token.number) o.is_valid);
            stands = λ f. o.immediate (ap (λ (z : TokenDef). z.immediate) same ∙ sym imm ∙ f);
            kind = is_kind (ap (λ (z : TokenDef). z.keyword) (sym same) ∙ o.kind);
          }

  pub token_role : (part : ℕ) (kind : Kind) (b w : Bool) → slice_get r.kinds.items part ≡ Some kind → IsTrue b ↔ (slice_get v.marks.items part ≡ Some true)
      → IsTrue w ↔ ((s : Symbol) × (r.word ≡ Some s) × (s.0 ≡ suc part))
      → IsRole g valid first part (record {
        wanted = b || (v.keyworded && w);
        plain = (b && (first || not kind.immediate)) && not kind.keyword;
        keyword = (b && (first || not kind.immediate)) && kind.keyword;
        word = w;
        separator = false;
      })
  token_role part kind b w there marked named = let t = token_at g r part kind is there in token_role_of part kind b w t.0 t.1 t.2 marked named
