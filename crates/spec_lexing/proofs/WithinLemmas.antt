-- Tokens end where the text was looked at, and fewer valid tokens.
use Rattle.std.proofs.Common.{◌≡◌, subst, refl, ℕ, ◌+◌, ◌≤◌, ◌<◌, Bool, false, List, [], length, drop, length-drop, arith}
use Rattle.std.proofs.Math.Nat.{le-max_left, le-max_right}
use Rattle.std.specs.List.{Contains}
use Rattle.ts_base.specs.Bytes.{Bytes}
use Rattle.ts_core.specs.declared.flat.FlatGrammar.{FlatGrammar}
use Rattle.ts_core.specs.declared.symbol.Symbol.{Symbol}
use Rattle.spec_lexing.specs.Lexing.{end_symbol, NoneMatches, Found, token, absent, behind, Lexes, takes, ends, passes, stops}
use Rattle.spec_lexing.specs.Seen.{IsReach, IsSeen, last, more}
use Rattle.spec_lexing.proofs.OneLemmas.{one_pass}
use Rattle.spec_lexing.proofs.BeginLemmas.{one_character_some, candidate_front, candidate_within, separator_within}

-- the place behind what was found
abbrev pub end_of : Found → ℕ
end_of (token symbol pad size) = pad + size
end_of (absent place) = place

pub end_behind : (n : ℕ) (f : Found) → end_of (behind n f) ≡ n + end_of f
end_behind n (token symbol pad size) = omega arith
end_behind n (absent place) = refl

-- a token was found
abbrev pub Names : Symbol → Found → Type 0
Names s (token symbol pad size) = s ≡ symbol
Names s (absent place) = ⊥

names_behind : (s : Symbol) (n : ℕ) (f : Found) → Names s (behind n f) → Names s f
names_behind s n (token symbol pad size) e = e
names_behind s n (absent place) e = e

module _ (g : FlatGrammar) (valid : List Symbol) where
  pub end_within : (first : Bool) (rest : Bytes) (f : Found) → Lexes g valid first rest f → end_of f ≤ length rest
  end_within _ _ _ (takes first rest s n x) = let w = candidate_within g valid first rest x.token s n x.candidate in let h = w.1 in omega arith
  end_within _ _ _ (ends first is) = omega arith
  end_within _ _ _ (passes first rest n f pass deep) =
      let h = end_within false (drop n rest) f deep in
      let l = length-drop n rest in
      let w = separator_within g rest n pass.separator in
      let k = w.1 in
      let e = end_behind n f in
      omega arith
  end_within _ _ _ (stops first rest none lack) = omega arith

  -- at some place the text was looked at so far
  pub seen_reach : (first : Bool) (rest : Bytes) (n : ℕ) → IsSeen g valid first rest n → (r : ℕ) × IsReach g valid rest r × (r ≤ n)
  seen_reach _ _ _ (last first rest r lack x) = (r, x, (omega arith))
  seen_reach _ _ _ (more first rest m r s pass x deep) = (r, x, le-max_left r (m + s))

  pub reach_some : (rest : Bytes) (r : ℕ) → IsReach g valid rest r → 1 ≤ r
  reach_some rest r x = let e = x.is in let o = one_character_some (drop x.size rest) in omega arith

  pub end_seen : (first : Bool) (rest : Bytes) (f : Found) (n : ℕ) → Lexes g valid first rest f → IsSeen g valid first rest n → end_of f < n
  end_seen _ _ _ m (takes first rest s n x) seen =
      let r = seen_reach first rest m seen in
      let le = r.1.longest n (candidate_front g valid first rest x.token s n x.candidate) in
      let e = r.1.is in
      let o = one_character_some (drop r.1.size rest) in
      let h = r.2 in
      omega arith
  end_seen _ _ _ m (ends first is) seen = let r = seen_reach first [] m seen in let s = reach_some [] r.0 r.1 in let h = r.2 in omega arith
  end_seen _ _ _ m (stops first rest none lack) seen = let r = seen_reach first rest m seen in let s = reach_some rest r.0 r.1 in let h = r.2 in omega arith
  end_seen _ _ _ _ (passes first rest n f pass deep) (last _ _ r lack x) = absurd (lack n pass)
  end_seen _ _ _ _ (passes first rest n f pass deep) (more _ _ m r s way x low) =
      let h = end_seen false (drop n rest) f s deep (subst (λ (k : ℕ). IsSeen g valid false (drop k rest) s) (one_pass g valid first rest m n way pass) low) in
      let e = end_behind n f in
      let l = le-max_right r (m + s) in
      let same = one_pass g valid first rest m n way pass in
      omega arith

module _ (g : FlatGrammar) (valid fewer : List Symbol) (subset : (t : Symbol) → Contains fewer t → Contains valid t) where
  none_fewer : (first : Bool) (rest : Bytes) → NoneMatches g valid first rest → NoneMatches g fewer first rest
  none_fewer first rest none = record {
    tokens = λ t s n x. none.tokens t s n (record { is_valid = subset s x.is_valid; is_token = x.is_token; immediate = x.immediate; matches = x.matches });
    end = λ e is. none.end e (subset end_symbol is);
  }

  pub found_fewer : (s : Symbol) → Contains fewer s → (first : Bool) (rest : Bytes) (f : Found) → Lexes g valid first rest f → Names s f → Lexes g fewer first rest f
  found_fewer s one _ _ _ (takes first rest t n x) e = takes first rest t n (record {
    token = x.token;
    candidate = record {
      is_valid = subst (λ (u : Symbol). Contains fewer u) e one;
      is_token = x.candidate.is_token;
      immediate = x.candidate.immediate;
      matches = x.candidate.matches;
    };
    best = λ other u m y. x.best other u m (record {
      is_valid = subset u y.is_valid;
      is_token = y.is_token;
      immediate = y.immediate;
      matches = y.matches;
    });
  })
  found_fewer s one _ _ _ (ends first is) e = ends first (subst (λ (u : Symbol). Contains fewer u) e one)
  found_fewer s one _ _ _ (passes first rest n f pass deep) e =
      passes first rest n f (record { none = none_fewer first rest pass.none; separator = pass.separator; longest = pass.longest }) (found_fewer s one false (drop n rest) f deep (names_behind s n f e))
  found_fewer s one _ _ _ (stops first rest none lack) e = absurd e
