-- Marks for valid tokens.
use Rattle.std.proofs.Common.{◌≡◌, ◌∙◌, sym, ap, refl, subst, ℕ, suc, ◌+◌, ◌≤◌, ◌<◌, ◌⊎◌, inl, inr, ⊎_elim, ◌&&◌, IsTrue, Bool, true, false, List, [], ◌∷◌, ◌++◌, length, set, get_or, take, slice_get, Some, ◌↔◌, arith}
use Rattle.std.specs.List.{Contains}
use Rattle.std.proofs.lemmas.List.{length-set, take_more, take_all}
use Rattle.std.proofs.lemmas.List.Elements.{Contains-append_left, Contains-push, Contains-push_cases}
use Rattle.std.proofs.lemmas.Option.{slice_get_within, slice_get_read}
use Rattle.ts_base.proofs.PlaceLemmas.{set_here, set_there}
use Rattle.std.proofs.Math.Dec.{leb}
use Rattle.std.proofs.lemmas.Bool.Decides.{leb_tells}
use Rattle.ts_core.specs.declared.flat.FlatGrammar.{FlatGrammar}
use Rattle.ts_core.specs.declared.flat.TokenDef.{TokenDef}
use Rattle.ts_core.specs.declared.symbol.Symbol.{Symbol}
use Rattle.spec_lexing.specs.Seen.{HasKeyword}
use Rattle.ts_lexer.specs.declared.rules.Kind.{Kind}
use Rattle.ts_lexer.specs.declared.rules.Rules.{Rules}
use Rattle.ts_lexer.specs.Rules.{kind_of, IsRules}
use Rattle.ts_lexer.proofs.RoleLemmas.{token_at, kind_there, kind_count}
use Rattle.ts_lexer.specs.Marks.{AreMarks}

symbol_same : (s t : Symbol) → s.0 ≡ t.0 → s ≡ t
symbol_same s t e = ap {B = Symbol} (λ (n : ℕ). record { 0 = n }) e

-- the first so many marks are taken away
pub record Cleared (old new : List Bool) (k : ℕ) : Type 0 where
  pub size : length new ≡ length old
  pub none : (j : ℕ) → j < k → slice_get new j ≡ Some true → ⊥

pub cleared_none : (old : List Bool) → Cleared old old 0
cleared_none old = record { size = refl; none = λ j lt e. (omega arith) }

pub cleared_more : (old new : List Bool) (k : ℕ) → k < length new → Cleared old new k → Cleared old (set new k false) (k + 1)
cleared_more old new k below c = record {
  size = length-set new k false ∙ c.size;
  none = λ j lt e. by j lt e (leb_tells k j);
}
  where
    by : (j : ℕ) → j < k + 1 → slice_get (set new k false) j ≡ Some true → ((leb k j ≡ true) × (k ≤ j)) ⊎ ((leb k j ≡ false) × (j < k)) → ⊥
    by j lt e (inl (_, le)) =
        let same : j ≡ k = omega arith in
        let f : Some false ≡ Some true = sym (set_here new k false below) ∙ ap (λ (n : ℕ). slice_get (set new k false) n) (sym same) ∙ e in
        cc
    by j lt e (inr (_, less)) = c.none j less (sym (set_there new k j false (λ h. omega arith)) ∙ e)

pub marks_none : (n k : ℕ) (old new : List Bool) → length old ≡ n → length new ≤ k → Cleared old new k → AreMarks n [] new
marks_none n k old new size past c = record {
  size = c.size ∙ size;
  marked = λ j s e lt. ((λ h. absurd (c.none j (let w = slice_get_within new j true h in omega arith) h)), (λ h. absurd (let w = h.1 in omega arith)));
}

pub marks_one : (n : ℕ) (seen : List Symbol) (symbol : Symbol) (k : ℕ) (marks : List Bool) → symbol.0 ≡ suc k → k < length marks → AreMarks n seen marks → AreMarks n (seen ++ symbol ∷ []) (set marks k true)
marks_one n seen symbol k marks number below m = record {
  size = length-set marks k true ∙ m.size;
  marked = λ j s e lt. ((λ h. to j s e lt h (leb_tells k j) (leb_tells j k)), (λ h. back j s e lt (Contains-push_cases seen symbol s h)));
}
  where
    to : (j : ℕ) (s : Symbol) → s.0 ≡ suc j → j < n → slice_get (set marks k true) j ≡ Some true → ((leb k j ≡ true) × (k ≤ j)) ⊎ ((leb k j ≡ false) × (j < k))
        → ((leb j k ≡ true) × (j ≤ k)) ⊎ ((leb j k ≡ false) × (k < j)) → Contains (seen ++ symbol ∷ []) s
    to j s e lt h (inl (_, le)) (inl (_, ge)) =
        let same : j ≡ k = omega arith in
        subst (λ (t : Symbol). Contains (seen ++ symbol ∷ []) t) (symbol_same symbol s (number ∙ ap suc (sym same) ∙ sym e)) (Contains-push seen symbol)
    to j s e lt h (inl (_, le)) (inr (_, gt)) = Contains-append_left seen (symbol ∷ []) s ((m.marked j s e lt).0 (sym (set_there marks k j true (λ x. omega arith)) ∙ h))
    to j s e lt h (inr (_, less)) other = Contains-append_left seen (symbol ∷ []) s ((m.marked j s e lt).0 (sym (set_there marks k j true (λ x. omega arith)) ∙ h))

    kept : (j : ℕ) → j < n → slice_get marks j ≡ Some true → ((leb k j ≡ true) × (k ≤ j)) ⊎ ((leb k j ≡ false) × (j < k)) → ((leb j k ≡ true) × (j ≤ k)) ⊎ ((leb j k ≡ false) × (k < j)) → slice_get (set marks k true) j ≡ Some true
    kept j lt h (inl (_, le)) (inl (_, ge)) = let same : k ≡ j = omega arith in ap (λ (i : ℕ). slice_get (set marks k true) i) (sym same) ∙ set_here marks k true below
    kept j lt h (inl (_, le)) (inr (_, gt)) = set_there marks k j true (λ x. omega arith) ∙ h
    kept j lt h (inr (_, less)) other = set_there marks k j true (λ x. omega arith) ∙ h

    back : (j : ℕ) (s : Symbol) → s.0 ≡ suc j → j < n → Contains seen s ⊎ (symbol ≡ s) → slice_get (set marks k true) j ≡ Some true
    back j s e lt (inl old) = kept j lt ((m.marked j s e lt).1 old) (leb_tells k j) (leb_tells j k)
    back j s e lt (inr same) =
        let f = ap (λ (t : Symbol). t.0) same in
        let here : k ≡ j = omega arith in
        ap (λ (i : ℕ). slice_get (set marks k true) i) (sym here) ∙ set_here marks k true below

-- a symbol that has no mark
pub marks_other : (n : ℕ) (seen : List Symbol) (symbol : Symbol) (marks : List Bool) → ((k : ℕ) → symbol.0 ≡ suc k → k < n → ⊥) → AreMarks n seen marks → AreMarks n (seen ++ symbol ∷ []) marks
marks_other n seen symbol marks none m = record {
  size = m.size;
  marked = λ j s e lt. (
    (λ h. Contains-append_left seen (symbol ∷ []) s ((m.marked j s e lt).0 h)),
    (λ h. ⊎_elim (λ old. (m.marked j s e lt).1 old) (λ same. absurd (none j (ap (λ (t : Symbol). t.0) same ∙ e) lt)) (Contains-push_cases seen symbol s h)),
  );
}

-- no part before has a mark and is a keyword
abbrev pub NoKeyword : FlatGrammar → List Symbol → ℕ → Type 0
NoKeyword g valid n = (k : ℕ) (s : Symbol) (t : TokenDef) → k < n → s.0 ≡ suc k → slice_get g.tokens k ≡ Some t → Contains valid s → t.keyword ≡ true → ⊥

both_true : (x y : Bool) → x && y ≡ true → (x ≡ true) × (y ≡ true)
both_true true y e = (refl, e)
both_true false y e = absurd (let f : false ≡ true = e in cc)

pub keyword_found : (g : FlatGrammar) (r : Rules) (valid : List Symbol) (marks : List Bool) (part : ℕ) (kind : Kind) (b : Bool) → IsRules g r → AreMarks (length g.tokens) valid marks → part < length r.kinds.items
    → kind ≡ get_or r.kinds.items part kind → IsTrue b ↔ (slice_get marks part ≡ Some true) → kind.keyword && b ≡ true → HasKeyword g valid
keyword_found g r valid marks part kind b is m below at marks_it both =
    let two = both_true kind.keyword b both in
    let keyword = two.0 in
    let marked = marks_it.0 two.1 in
    let t = token_at g r part kind is (slice_get_read r.kinds.items (length r.kinds.items) part kind refl below at) in
    let s : Symbol = record { 0 = suc part } in
    record {
      symbol = s;
      token = t.0;
      is_valid = (m.marked part s refl (slice_get_within g.tokens part t.0 t.1)).0 marked;
      is_token = record { place = part; number = refl; at = t.1 };
      keyword = sym (ap (λ (k : Kind). k.keyword) t.2) ∙ keyword;
    }

pub keyword_not : (g : FlatGrammar) (r : Rules) (valid : List Symbol) (marks : List Bool) (part : ℕ) (kind : Kind) (b : Bool) → IsRules g r → AreMarks (length g.tokens) valid marks → part < length r.kinds.items
    → kind ≡ get_or r.kinds.items part kind → IsTrue b ↔ (slice_get marks part ≡ Some true) → kind.keyword && b ≡ false → NoKeyword g valid part → NoKeyword g valid (part + 1)
keyword_not g r valid marks part kind b is m below at marked none before k s t lt number has is_valid keyword = by (leb_tells part k)
  where
    all : (x : Bool) (y : Bool) → x ≡ true → y ≡ true → x && y ≡ false → ⊥
    all true true e f h = let z : true ≡ false = h in cc
    all true false e f h = let z : false ≡ true = f in cc
    all false y e f h = let z : false ≡ true = e in cc

    by : ((leb part k ≡ true) × (part ≤ k)) ⊎ ((leb part k ≡ false) × (k < part)) → ⊥
    by (inr (_, less)) = before k s t less number has is_valid keyword
    by (inl (_, le)) =
        let same : k ≡ part = omega arith in
        let there = kind_there g r k t is has in
        let read = slice_get_read r.kinds.items (length r.kinds.items) part kind refl below at in
        let e : Some kind ≡ Some (kind_of t) = sym read ∙ ap (λ (n : ℕ). slice_get r.kinds.items n) (sym same) ∙ there in
        let f : kind ≡ kind_of t = cc in
        let mark = marked.1 (subst (λ (n : ℕ). slice_get marks n ≡ Some true) same ((m.marked k s number (slice_get_within g.tokens k t has)).1 is_valid)) in
        all kind.keyword b (ap (λ (z : Kind). z.keyword) f ∙ keyword) mark none

pub keyword_none : (g : FlatGrammar) (r : Rules) (valid : List Symbol) (n : ℕ) → IsRules g r → length r.kinds.items ≤ n → NoKeyword g valid n → HasKeyword g valid → ⊥
keyword_none g r valid n is past none h =
    none h.is_token.place h.symbol h.token (let w = slice_get_within g.tokens h.is_token.place h.token h.is_token.at in let c = kind_count g r is in omega arith) h.is_token.number h.is_token.at h.is_valid h.keyword

-- one symbol more
pub marks_more : (n : ℕ) (valid : List Symbol) (i : ℕ) (d : Symbol) (old new : List Bool) → i < length valid
    → (AreMarks n (take i valid) old → AreMarks n (take i valid ++ get_or valid i d ∷ []) new) → AreMarks n (take i valid) old → AreMarks n (take (i + 1) valid) new
marks_more n valid i d old new below one before = subst (λ (l : List Symbol). AreMarks n l new) (sym (take_more valid i d below)) (one before)

pub marks_all : (n : ℕ) (valid : List Symbol) (i : ℕ) (marks : List Bool) → length valid ≤ i → AreMarks n (take i valid) marks → AreMarks n valid marks
marks_all n valid i marks past m = subst (λ (l : List Symbol). AreMarks n l marks) (take_all i valid past) m
