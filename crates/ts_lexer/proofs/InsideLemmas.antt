-- A place inside a character: nothing is there.
use Rattle.std.proofs.Common.{◌≡◌, ◌∙◌, ap, refl, subst, ℕ, suc, ◌+◌, ◌≤◌, ◌<◌, ◌⊎◌, inl, inr, cond, Bool, true, false, List, [], ◌∷◌, ◌++◌, length, get_or, drop, append_assoc, arith}
use Rattle.std.specs.List.{prefix_len}
use Rattle.std.specs.Char.{IsScalar}
use Rattle.std.specs.Str.{IsCharBoundary}
use Rattle.std.proofs.Math.Dec.{leb}
use Rattle.std.proofs.lemmas.Bool.Decides.{leb_tells}
use Rattle.std.proofs.Math.Seq.{drop-cons}
use Rattle.std.proofs.Math.Utf8.{encode, encodes}
use Rattle.std.proofs.lemmas.List.{get_or_append_left}
use Rattle.std.proofs.lemmas.Str.{length-encode, len_utf8_bounds, IsUtf8-encode, IsCharBoundary-start, IsCharBoundary-end}
use Rattle.ts_base.specs.Bytes.{Bytes}
use Rattle.ts_core.specs.declared.flat.FlatGrammar.{FlatGrammar}
use Rattle.ts_core.specs.declared.flat.TokenDef.{TokenDef}
use Rattle.ts_core.specs.declared.symbol.Symbol.{Symbol}
use Rattle.spec_lexing.specs.Words.{Regular, regular_of}
use Rattle.spec_lexing.specs.Matching.{BeginsSpelled, MatchesRe, MatchesToken, plainly, as_keyword, MatchesSeparator}
use Rattle.spec_lexing.specs.Lexing.{NoneMatches, absent, Lex, stops}
use Rattle.spec_lexing.specs.Seen.{is_inner, Seen, last}

not_inner : (b : ℕ) → is_inner b ≡ false → 128 ≤ b → 192 ≤ b
not_inner b is low = grind arith

inner_low : (b : ℕ) → is_inner b ≡ true → (128 ≤ b) × (b < 192)
inner_low b is = grind arith

-- the byte at a place that is no boundary
pub record Inside (text : Bytes) (place : ℕ) : Type 0 where
  pub byte : ℕ
  pub bytes : Bytes
  pub rest : drop place text ≡ byte ∷ bytes
  pub inner : is_inner byte ≡ true

pub inside : (text : Bytes) (place : ℕ) → place ≤ length text → (IsCharBoundary text place → ⊥) → Inside text place
inside text place le not_on = by (leb_tells (length text) place)
  where
    on_byte : place < length text → (b : Bool) → is_inner (get_or text place 0) ≡ b → Inside text place
    on_byte lt true is = record { byte = get_or text place 0; bytes = drop (suc place) text; rest = drop-cons text place 0 lt; inner = is }
    on_byte lt false is = absurd (not_on ((omega arith), (λ _ low. not_inner (get_or text place 0) is low)))

    by : ((leb (length text) place ≡ true) × (length text ≤ place)) ⊎ ((leb (length text) place ≡ false) × (place < length text)) → Inside text place
    by (inl (_, past)) = let e : length text ≡ place = omega arith in absurd (not_on (subst (λ (n : ℕ). IsCharBoundary text n) e (IsCharBoundary-end text)))
    by (inr (_, lt)) = on_byte lt (is_inner (get_or text place 0)) refl

-- no character begins with such a byte
inner_begins : (b c : ℕ) (bs tail : Bytes) → is_inner b ≡ true → IsScalar c → b ∷ bs ≡ encode c ++ tail → ⊥
inner_begins b c bs tail inner scalar_c e =
    let u = IsCharBoundary-start (encode c) (IsUtf8-encode c scalar_c) in
    let len = length-encode c in
    let some = len_utf8_bounds c in
    let same : b ≡ get_or (encode c) 0 0 = ap (λ (l : List ℕ). get_or l 0 0) e ∙ get_or_append_left (encode c) tail 0 0 (omega arith) in
    let low = inner_low b inner in
    let high = u.1 (omega arith) (omega arith) in
    omega (arith, high)

begins_none : (b : ℕ) (bs : Bytes) (w : List ℕ) (n : ℕ) → is_inner b ≡ true → BeginsSpelled (b ∷ bs) w n → n ≡ 0
begins_none b bs [] n inner x = x.size
begins_none b bs (c ∷ w) n inner x =
    absurd (inner_begins b c bs (encodes w ++ x.tail) inner (x.scalar c (0, (omega arith), refl)) (x.is ∙ append_assoc (encode c) (encodes w) x.tail))

matches_none : (p : Regular) (b : ℕ) (bs : Bytes) (n : ℕ) → is_inner b ≡ true → MatchesRe p (b ∷ bs) n → ⊥
matches_none p b bs n inner m = let e = begins_none b bs m.characters n inner m.begins in let s = m.some in omega arith

token_none : (g : FlatGrammar) (t : TokenDef) (b : ℕ) (bs : Bytes) (n : ℕ) → is_inner b ≡ true → MatchesToken g t (b ∷ bs) n → ⊥
token_none g t b bs n inner (plainly is m) = matches_none (regular_of t.re) b bs n inner m
token_none g t b bs n inner (as_keyword is word is_word longest m) = matches_none (regular_of t.re) b bs n inner m

module _ (g : FlatGrammar) (valid : List Symbol) (b : ℕ) (bs : Bytes) (inner : is_inner b ≡ true) where
  none : NoneMatches g valid true (b ∷ bs)
  none = record { tokens = λ t s n c. token_none g t b bs n inner c.matches; end = λ e _. (let f = ap (λ (l : Bytes). length l) e in omega arith) }

  lacks : (n : ℕ) → MatchesSeparator g (b ∷ bs) n → ⊥
  lacks n m = matches_none (regular_of m.separator) b bs n inner m.matches

  pub inside_lex : Lex g valid (b ∷ bs) (absent 0)
  inside_lex = stops true (b ∷ bs) none lacks

  pub inside_seen : Seen g valid (b ∷ bs) (suc (prefix_len is_inner bs))
  inside_seen = last true (b ∷ bs) (suc (prefix_len is_inner bs)) (λ n q. lacks n q.separator) (record {
    size = 0;
    front = inl refl;
    longest = λ n f. (let e = begins_none b bs f.characters n inner f.begins in omega arith);
    is = (let e : suc (prefix_len is_inner bs) ≡ 0 + suc (prefix_len is_inner bs) = omega arith in e);
  })

cond_true : (b : Bool) (n : ℕ) → b ≡ true → cond b (1 + n) 0 ≡ suc n
cond_true true n e = (let f : 1 + n ≡ suc n = omega arith in f)
cond_true false n e = absurd (let f : false ≡ true = e in cc)

-- how many bytes are left of the character
pub inside_extent : (text : Bytes) (place : ℕ) → (i : Inside text place) → prefix_len is_inner (drop place text) ≡ suc (prefix_len is_inner i.bytes)
inside_extent text place i = ap (λ (l : Bytes). prefix_len is_inner l) i.rest ∙ cond_true (is_inner i.byte) (prefix_len is_inner i.bytes) i.inner
