-- The places that are tried, one after another.
use Rattle.std.proofs.Common.{◌≡◌, ◌∙◌, sym, ap, refl, subst, ℕ, zero, suc, ◌+◌, ◌≤◌, ◌<◌, max, Bool, IsTrue, ◌↔◌, true, false, List, [], ◌∷◌, length, drop, encode_utf8_all, Option, Some, None, ◌⊎◌, inl, inr, length-drop, length-append, arith}
use Rattle.std.proofs.lemmas.List.Sums.{prefix_len-le-length}
use Rattle.std.specs.List.{Contains}
use Rattle.std.specs.Option.{MatchOption}
use Rattle.ts_base.specs.Bytes.{Bytes}
use Rattle.ts_core.specs.declared.flat.FlatGrammar.{FlatGrammar}
use Rattle.ts_core.specs.declared.flat.TokenDef.{TokenDef}
use Rattle.ts_core.specs.declared.symbol.Symbol.{Symbol}
use Rattle.spec_lexing.specs.Words.{Regular, regular_of}
use Rattle.spec_lexing.specs.Matching.{MatchesRe, MatchesToken, plainly, as_keyword, MatchesSeparator}
use Rattle.spec_lexing.specs.Lexing.{end_symbol, Candidate, IsBest, NoneMatches, Passes, Found, token, absent, behind, Lexes, takes, ends, passes, stops}
use Rattle.spec_lexing.specs.Seen.{HasFront, is_inner, one_character, IsReach, IsSeen, last, more}
use Rattle.ts_lexer.specs.declared.scanned.Match.{Match}
use Rattle.ts_lexer.specs.declared.scanned.Scanned.{Scanned}
use Rattle.ts_lexer.specs.Scanned.{IsScanned}

behind_none : (f : Found) → behind 0 f ≡ f
behind_none (token s pad size) = ap (λ (n : ℕ). token s n size) (let e : 0 + pad ≡ pad = omega arith in e)
behind_none (absent place) = ap (λ (n : ℕ). absent n) (let e : 0 + place ≡ place = omega arith in e)

behind_both : (m n : ℕ) (f : Found) → behind m (behind n f) ≡ behind (m + n) f
behind_both m n (token s pad size) = ap (λ (k : ℕ). token s k size) (let e : m + (n + pad) ≡ m + n + pad = omega arith in e)
behind_both m n (absent place) = ap (λ (k : ℕ). absent k) (let e : m + (n + place) ≡ m + n + place = omega arith in e)

-- what comes of a later place comes of the text, behind what was passed
pub record Passing (g : FlatGrammar) (valid : List Symbol) (text rest : Bytes) (first : Bool) (pad extent : ℕ) : Type 0 where
  pub lex : (f : Found) → Lexes g valid first rest f → Lexes g valid true text (behind pad f)
  pub seen : (n : ℕ) → IsSeen g valid first rest n → IsSeen g valid true text (max extent (pad + n))

pub passing_none : (g : FlatGrammar) (valid : List Symbol) (text : Bytes) → Passing g valid text text true 0 0
passing_none g valid text = record {
  lex = λ f x. subst (λ (y : Found). Lexes g valid true text y) (sym (behind_none f)) x;
  seen = λ n x. subst (λ (k : ℕ). IsSeen g valid true text k) (let e : n ≡ max 0 (0 + n) = omega arith in e) x;
}

-- what is taken ends in the text
pub best_within : (g : FlatGrammar) (valid : List Symbol) (first : Bool) (rest : Bytes) (s : Symbol) (n : ℕ) → IsBest g valid first rest s n → n ≤ length rest
best_within g valid first rest s n b = by b.candidate.matches
  where
    short : (p : Regular) → MatchesRe p rest n → n ≤ length rest
    short p m =
        let e = ap (λ (l : Bytes). length l) m.begins.is in
        let a = length-append (encode_utf8_all m.characters) m.begins.tail in
        let z = m.begins.size in
        omega arith

    by : MatchesToken g b.token rest n → n ≤ length rest
    by (plainly is m) = short (regular_of b.token.re) m
    by (as_keyword is word is_word longest m) = short (regular_of b.token.re) m

pub best_at : (g : FlatGrammar) (valid : List Symbol) (first : Bool) (rest : Bytes) (best : Option Match) (m : Match) → best ≡ Some m
    → MatchOption best ((t : TokenDef) (symbol : Symbol) (n : ℕ) → Candidate g valid first rest t symbol n → ⊥) (λ b. IsBest g valid first rest b.symbol b.size) → IsBest g valid first rest m.symbol m.size
best_at g valid first rest None m e h = cc
best_at g valid first rest (Some b) m e h = let same : b ≡ m = cc in subst (λ (x : Match). IsBest g valid first rest x.symbol x.size) same h

pub none_at : (g : FlatGrammar) (valid : List Symbol) (first : Bool) (rest : Bytes) (best : Option Match) → best ≡ None
    → MatchOption best ((t : TokenDef) (symbol : Symbol) (n : ℕ) → Candidate g valid first rest t symbol n → ⊥) (λ b. IsBest g valid first rest b.symbol b.size)
    → (t : TokenDef) (symbol : Symbol) (n : ℕ) → Candidate g valid first rest t symbol n → ⊥
none_at g valid first rest None e h = h
none_at g valid first rest (Some b) e h = cc

pub empty_of : (bytes : Bytes) → length bytes ≡ 0 → bytes ≡ []
empty_of [] e = refl
empty_of (b ∷ bs) e = absurd (omega arith)

-- something is left
pub some_left : (b : Bool) (n : ℕ) → b ≡ false → IsTrue b ↔ (n ≡ 0) → 0 < n
some_left b zero none tells = absurd (let e : false ≡ true = sym none ∙ tells.1 refl in cc)
some_left b (suc n) none tells = omega arith

one_within : (bytes : Bytes) → one_character bytes ≤ length bytes + 1
one_within [] = omega arith
one_within (b ∷ bs) = let l = prefix_len-le-length is_inner bs in omega arith

pub reach_within : (g : FlatGrammar) (valid : List Symbol) (rest : Bytes) (r : ℕ) → IsReach g valid rest r → r ≤ length rest + 1
reach_within g valid rest r x = by x.front
  where
    close : x.size ≤ length rest → r ≤ length rest + 1
    close le = let e = x.is in let o = one_within (drop x.size rest) in let d = length-drop x.size rest in omega arith

    by : (x.size ≡ 0) ⊎ HasFront g valid rest x.size → r ≤ length rest + 1
    by (inl e) = close (omega arith)
    by (inr f) = close (let e = ap (λ (l : Bytes). length l) f.begins.is in let a = length-append (encode_utf8_all f.characters) f.begins.tail in let s = f.begins.size in omega arith)

module _ (g : FlatGrammar) (valid : List Symbol) (text rest : Bytes) (first : Bool) (pad extent : ℕ) (p : Passing g valid text rest first pad extent) (s : Scanned) (x : IsScanned g valid first rest s) where
  no_pass : ((n : ℕ) → Passes g valid first rest n → ⊥) → IsSeen g valid true text (max extent (pad + s.reach))
  no_pass lack = p.seen s.reach (last first rest s.reach lack x.reach)

  pub take_lex : (m : Match) → IsBest g valid first rest m.symbol m.size → Lexes g valid true text (token m.symbol pad m.size)
  take_lex m b =
      let e : pad + 0 ≡ pad = omega arith in
      subst (λ (n : ℕ). Lexes g valid true text (token m.symbol n m.size)) e (p.lex (token m.symbol 0 m.size) (takes first rest m.symbol m.size b))

  pub take_seen : (m : Match) → IsBest g valid first rest m.symbol m.size → IsSeen g valid true text (max extent (pad + s.reach))
  take_seen m b = no_pass (λ n q. q.none.tokens b.token m.symbol m.size b.candidate)

  pub end_lex : rest ≡ [] → Contains valid end_symbol → Lexes g valid true text (token end_symbol pad 0)
  end_lex none is =
      let e : pad + 0 ≡ pad = omega arith in
      subst (λ (n : ℕ). Lexes g valid true text (token end_symbol n 0)) e
      (p.lex (token end_symbol 0 0) (subst (λ (l : Bytes). Lexes g valid first l (token end_symbol 0 0)) (sym none) (ends first is)))

  pub end_seen : rest ≡ [] → Contains valid end_symbol → IsSeen g valid true text (max extent (pad + s.reach))
  end_seen none is = no_pass (λ n q. q.none.end none is)

  -- no token matches
  module _ (no_token : (t : TokenDef) (symbol : Symbol) (n : ℕ) → Candidate g valid first rest t symbol n → ⊥) (no_end : rest ≡ [] → Contains valid end_symbol → ⊥) where
    none : NoneMatches g valid first rest
    none = record { tokens = no_token; end = no_end }

    lacks : s.separator ≡ 0 → (n : ℕ) → MatchesSeparator g rest n → ⊥
    lacks zero_is n h = let le = x.longest n h in let lt = h.matches.some in omega arith

    pub stop_lex : s.separator ≡ 0 → Lexes g valid true text (absent pad)
    stop_lex zero_is =
        let e : pad + 0 ≡ pad = omega arith in
        subst (λ (n : ℕ). Lexes g valid true text (absent n)) e (p.lex (absent 0) (stops first rest none (lacks zero_is)))

    pub stop_seen : s.separator ≡ 0 → IsSeen g valid true text (max extent (pad + s.reach))
    stop_seen zero_is = no_pass (λ n q. lacks zero_is n q.separator)

    pub passing_more : 0 < s.separator → Passing g valid text (drop s.separator rest) false (pad + s.separator) (max extent (pad + s.reach))
    passing_more above =
        let q : Passes g valid first rest s.separator = record { none = none; separator = x.separator above; longest = x.longest } in
        record {
          lex = λ f h. subst (λ (y : Found). Lexes g valid true text y) (behind_both pad s.separator f) (p.lex (behind s.separator f) (passes first rest s.separator f q h));
          seen = λ n h.
              let e : max extent (pad + max s.reach (s.separator + n)) ≡ max (max extent (pad + s.reach)) (pad + s.separator + n) = omega arith in
              subst (λ (k : ℕ). IsSeen g valid true text k) e (p.seen (max s.reach (s.separator + n)) (more first rest s.separator s.reach n q x.reach h));
        }
