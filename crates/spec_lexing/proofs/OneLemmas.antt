-- Lexing comes to one thing, and looks at one number of bytes.
use Rattle.std.proofs.Common.{◌≡◌, ◌∙◌, sym, ap, subst, refl, ℕ, ◌+◌, ◌≤◌, ◌<ℤ◌, ◌⊎◌, inl, inr, Bool, false, List, [], length, length-append, drop, max, arith}
use Rattle.std.specs.Int.Signed.{<ℤ_irrefl}
use Rattle.std.specs.Cmp.{int_chain}
use Rattle.std.proofs.Math.Utf8.{encodes}
use Rattle.ts_base.specs.Bytes.{Bytes}
use Rattle.ts_core.specs.declared.flat.FlatGrammar.{FlatGrammar}
use Rattle.ts_core.specs.declared.flat.TokenDef.{TokenDef}
use Rattle.ts_core.specs.declared.symbol.Symbol.{Symbol}
use Rattle.spec_lexing.specs.Words.{Regular, regular_of}
use Rattle.spec_lexing.specs.Matching.{MatchesRe, MatchesToken, plainly, as_keyword}
use Rattle.spec_lexing.specs.Lexing.{Precedes, Beats, IsBest, NoneMatches, Passes, Found, token, behind, Lexes, takes, ends, passes, stops}
use Rattle.spec_lexing.specs.Seen.{HasFront, one_character, IsReach, IsSeen, last, more}

-- two matches that beat each other have one length and one number
pub beats_both : (a b : TokenDef) (s t : Symbol) (m n : ℕ) → Beats a s m b t n → Beats b t n a s m → (m ≡ n) × (s.0 ≡ t.0)
beats_both a b s t m n (inl p) (inl q) = absurd (<ℤ_irrefl (int_chain b.prec a.prec b.prec p q))
beats_both a b s t m n (inl p) (inr (e, q)) = absurd (<ℤ_irrefl (subst (λ (x : _). x <ℤ a.prec) e p))
beats_both a b s t m n (inr (e, p)) (inl q) = absurd (<ℤ_irrefl (subst (λ (x : _). x <ℤ b.prec) e q))
beats_both a b s t m n (inr (e, inl p)) (inr (f, inl q)) = absurd (omega arith)
beats_both a b s t m n (inr (e, inl p)) (inr (f, inr (h, q))) = absurd (omega arith)
beats_both a b s t m n (inr (e, inr (h, p))) (inr (f, inl q)) = absurd (omega arith)
beats_both a b s t m n (inr (e, inr (same, p))) (inr (f, inr (_, q))) = (same, by p q)
  where
    by : Precedes a s b t → Precedes b t a s → s.0 ≡ t.0
    by (inl (x, y)) (inl (z, w)) = cc
    by (inl (x, y)) (inr (z, w)) = cc
    by (inr (z, w)) (inl (x, y)) = cc
    by (inr (x, l)) (inr (y, k)) = omega arith

symbol_same : (s t : Symbol) → s.0 ≡ t.0 → s ≡ t
symbol_same s t e = ap {B = Symbol} (λ (n : ℕ). record { 0 = n }) e

-- nothing matches where nothing is left
empty_matches : (p : Regular) (n : ℕ) → MatchesRe p [] n → ⊥
empty_matches p n x =
    let e = ap (λ (l : List ℕ). length l) x.begins.is in
    let f = length-append (encodes x.characters) x.begins.tail in
    let h = x.begins.size in
    let s = x.some in
    omega arith

empty_token : (g : FlatGrammar) (a : TokenDef) (n : ℕ) → MatchesToken g a [] n → ⊥
empty_token g a n (plainly is m) = empty_matches (regular_of a.re) n m
empty_token g a n (as_keyword is word is_word longest m) = empty_matches (regular_of a.re) n m

module _ (g : FlatGrammar) (valid : List Symbol) where
  pub one_best : (first : Bool) (rest : Bytes) (s t : Symbol) (m n : ℕ) → IsBest g valid first rest s m → IsBest g valid first rest t n → (s ≡ t) × (m ≡ n)
  one_best first rest s t m n x y =
      let b = beats_both x.token y.token s t m n (x.best y.token t n y.candidate) (y.best x.token s m x.candidate) in
      (symbol_same s t b.1, b.0)

  pub one_pass : (first : Bool) (rest : Bytes) (m n : ℕ) → Passes g valid first rest m → Passes g valid first rest n → m ≡ n
  one_pass first rest m n x y = let a = x.longest n y.separator in let b = y.longest m x.separator in omega arith

  best_matches : (first : Bool) (rest : Bytes) (s : Symbol) (n : ℕ) → IsBest g valid first rest s n → NoneMatches g valid first rest → ⊥
  best_matches first rest s n x none = none.tokens x.token s n x.candidate

  empty_best : (first : Bool) (s : Symbol) (n : ℕ) → IsBest g valid first [] s n → ⊥
  empty_best first s n x = empty_token g x.token n x.candidate.matches

  pub one_found : (first : Bool) (rest : Bytes) (f h : Found) → Lexes g valid first rest f → Lexes g valid first rest h → f ≡ h
  one_found _ _ _ _ (takes first rest s m x) (takes _ _ t n y) =
      let e = one_best first rest s t m n x y in
      ap (λ (u : Symbol). token u 0 m) e.0 ∙ ap (λ (k : ℕ). token t 0 k) e.1
  one_found _ _ _ _ (takes first _ s m x) (ends _ is) = absurd (empty_best first s m x)
  one_found _ _ _ _ (takes first rest s m x) (passes _ _ n found pass deep) = absurd (best_matches first rest s m x pass.none)
  one_found _ _ _ _ (takes first rest s m x) (stops _ _ none _) = absurd (best_matches first rest s m x none)
  one_found _ _ _ _ (ends first is) (takes _ _ t n y) = absurd (empty_best first t n y)
  one_found _ _ _ _ (ends first is) (ends _ _) = refl
  one_found _ _ _ _ (ends first is) (passes _ _ n found pass deep) = absurd (pass.none.end refl is)
  one_found _ _ _ _ (ends first is) (stops _ _ none _) = absurd (none.end refl is)
  one_found _ _ _ _ (passes first rest n found pass deep) (takes _ _ t m y) = absurd (best_matches first rest t m y pass.none)
  one_found _ _ _ _ (passes first _ n found pass deep) (ends _ is) = absurd (pass.none.end refl is)
  one_found _ _ _ _ (passes first rest n found pass deep) (passes _ _ m other way low) =
      let e = one_pass first rest n m pass way in
      ap (λ (k : ℕ). behind k found) e ∙ ap (λ (x : Found). behind m x) (one_found false (drop n rest) found other deep (subst (λ (k : ℕ). Lexes g valid false (drop k rest) other) (sym e) low))
  one_found _ _ _ _ (passes first rest n found pass deep) (stops _ _ none lack) = absurd (lack n pass.separator)
  one_found _ _ _ _ (stops first rest none lack) (takes _ _ t m y) = absurd (best_matches first rest t m y none)
  one_found _ _ _ _ (stops first _ none lack) (ends _ is) = absurd (none.end refl is)
  one_found _ _ _ _ (stops first rest none lack) (passes _ _ n found pass deep) = absurd (lack n pass.separator)
  one_found _ _ _ _ (stops first rest none lack) (stops _ _ _ _) = refl

  at_most : (rest : Bytes) (m n : ℕ) → (m ≡ 0) ⊎ HasFront g valid rest m → ((k : ℕ) → HasFront g valid rest k → k ≤ n) → m ≤ n
  at_most rest m n (inl e) longest = omega arith
  at_most rest m n (inr x) longest = longest m x

  one_reach : (rest : Bytes) (m n : ℕ) → IsReach g valid rest m → IsReach g valid rest n → m ≡ n
  one_reach rest m n x y =
      let a = at_most rest x.size y.size x.front y.longest in
      let b = at_most rest y.size x.size y.front x.longest in
      let e : x.size ≡ y.size = omega arith in
      x.is ∙ ap (λ (k : ℕ). k + one_character (drop k rest)) e ∙ sym y.is

  pub one_seen : (first : Bool) (rest : Bytes) (m n : ℕ) → IsSeen g valid first rest m → IsSeen g valid first rest n → m ≡ n
  one_seen _ _ _ _ (last first rest m lack x) (last _ _ n _ y) = one_reach rest m n x y
  one_seen _ _ _ _ (last first rest m lack x) (more _ _ n r s pass y deep) = absurd (lack n pass)
  one_seen _ _ _ _ (more first rest n r s pass x deep) (last _ _ _ lack y) = absurd (lack n pass)
  one_seen _ _ _ _ (more first rest n r s pass x deep) (more _ _ m q t way y low) =
      let e = one_pass first rest n m pass way in
      let f = one_reach rest r q x y in
      let h = one_seen false (drop n rest) s t deep (subst (λ (k : ℕ). IsSeen g valid false (drop k rest) t) (sym e) low) in
      ap (λ (k : ℕ). max k (n + s)) f ∙ ap (λ (k : ℕ). max q (k + s)) e ∙ ap (λ (k : ℕ). max q (m + k)) h
