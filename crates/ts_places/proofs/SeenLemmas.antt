-- The token that lexing finds, and how far it looks.
use Rattle.std.proofs.Common.{◌≡◌, ℕ, suc, ◌<◌, ◌≤◌, ◌⊎◌, inl, inr, Bool, true, false, List, [], ◌∷◌, length, drop, length-drop, arith}
use Rattle.std.proofs.Math.Nat.{max-le}
use Rattle.std.proofs.lemmas.List.Sums.{prefix_len-le-length}
use Rattle.std.specs.List.{Contains}
use Rattle.ts_base.specs.Bytes.{Bytes}
use Rattle.ts_core.specs.declared.flat.FlatGrammar.{FlatGrammar}
use Rattle.ts_core.specs.declared.flat.TokenDef.{TokenDef}
use Rattle.ts_core.specs.declared.symbol.Symbol.{Symbol}
use Rattle.spec_lexing.specs.Matching.{MatchesToken, plainly, as_keyword}
use Rattle.spec_lexing.specs.Lexing.{Found, token, absent, behind, Lexes, takes, ends, passes, stops}
use Rattle.spec_lexing.specs.Seen.{HasFront, IsReach, IsSeen, last, more, one_character, is_inner}
use Rattle.ts_places.specs.ShiftLaws.{LookLaws}

-- ---- the token that is found

-- it is valid, and has bytes if it is not the end
Names : List Symbol → Found → Type 0
Names valid (token s pad size) = Contains valid s × (0 < s.0 → 0 < size)
Names valid (absent n) = Unit {0}

names_behind : (valid : List Symbol) (n : ℕ) (f : Found) → Names valid f → Names valid (behind n f)
unfolding Names
names_behind valid n (token s pad size) h = h
names_behind valid n (absent m) h = h

matched : (g : FlatGrammar) (d : TokenDef) (rest : Bytes) (n : ℕ) → MatchesToken g d rest n → 0 < n
matched g d rest n (plainly k m) = m.some
matched g d rest n (as_keyword k word is longest m) = m.some

names_found : (g : FlatGrammar) (valid : List Symbol) (first : Bool) (rest : Bytes) (f : Found) → Lexes g valid first rest f → Names valid f
unfolding Names
names_found g valid _ _ _ (takes first rest s n best) = (best.candidate.is_valid, (λ some. matched g best.token rest n best.candidate.matches))
names_found g valid _ _ _ (ends first is) = (is, (λ some. some))
names_found g valid _ _ _ (passes first rest n f pass deep) = names_behind valid n f (names_found g valid false (drop n rest) f deep)
names_found g valid _ _ _ (stops first rest none lack) = tt

pub found_token : (g : FlatGrammar) (valid : List Symbol) (rest : Bytes) (s : Symbol) (pad size : ℕ) → Lexes g valid true rest (token s pad size) → Contains valid s × (0 < s.0 → 0 < size)
unfolding Names
found_token g valid rest s pad size l = names_found g valid true rest (token s pad size) l

-- ---- how far the text is looked at

one_within : (bytes : Bytes) → one_character bytes ≤ suc (length bytes)
one_within [] = omega arith
one_within (b ∷ bs) = omega (arith, prefix_len-le-length is_inner bs)

module _ (laws : LookLaws) (g : FlatGrammar) (valid : List Symbol) where
  reach_within : (rest : Bytes) (r : ℕ) → IsReach g valid rest r → r ≤ suc (length rest)
  reach_within rest r x = omega (arith, x.is, one_within (drop x.size rest), length-drop x.size rest, low x.front)
    where
      low : (x.size ≡ 0) ⊎ HasFront g valid rest x.size → x.size ≤ length rest
      low (inl e) = omega (arith, e)
      low (inr f) = laws.begins_within rest f.characters x.size f.begins

  pub seen_within : (first : Bool) (rest : Bytes) (n : ℕ) → IsSeen g valid first rest n → n ≤ suc (length rest)
  seen_within _ _ _ (last first rest r lack x) = reach_within rest r x
  seen_within _ _ _ (more first rest m r s pass x deep) =
      let low = laws.begins_within rest pass.separator.matches.characters m pass.separator.matches.begins in
      let inner = seen_within false (drop m rest) s deep in
      max-le (reach_within rest r x) (omega (arith, low, inner, length-drop m rest))
