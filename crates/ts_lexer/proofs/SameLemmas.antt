-- Lexing rests on the members of the list of valid tokens alone.
use Rattle.std.proofs.Common.{◌≡◌, ℕ, ◌⊎◌, inl, inr, Bool, false, List, drop}
use Rattle.std.specs.List.{Contains}
use Rattle.ts_base.specs.Bytes.{Bytes}
use Rattle.ts_core.specs.declared.flat.FlatGrammar.{FlatGrammar}
use Rattle.ts_core.specs.declared.flat.TokenDef.{TokenDef}
use Rattle.ts_core.specs.declared.symbol.Symbol.{Symbol}
use Rattle.spec_lexing.specs.Lexing.{end_symbol, Candidate, IsBest, NoneMatches, Passes, Found, Lexes, takes, ends, passes, stops}
use Rattle.spec_lexing.specs.Seen.{HasKeyword, CanBegin, a_token, the_word, a_separator, HasFront, IsReach, IsSeen, last, more}

module _ (g : FlatGrammar) (valid other : List Symbol) (to : (s : Symbol) → Contains valid s → Contains other s) where
  candidate : (first : Bool) (rest : Bytes) (token : TokenDef) (s : Symbol) (n : ℕ) → Candidate g valid first rest token s n → Candidate g other first rest token s n
  candidate first rest token s n c = record { is_valid = to s c.is_valid; is_token = c.is_token; immediate = c.immediate; matches = c.matches }

  keyword : HasKeyword g valid → HasKeyword g other
  keyword h = record { symbol = h.symbol; token = h.token; is_valid = to h.symbol h.is_valid; is_token = h.is_token; keyword = h.keyword }

  begins : (w : List ℕ) → CanBegin g valid w → CanBegin g other w
  begins w (a_token s token is_valid is front) = a_token s token (to s is_valid) is front
  begins w (the_word has word is front) = the_word (keyword has) word is front
  begins w (a_separator place separator at front) = a_separator place separator at front

  fronts : (rest : Bytes) (n : ℕ) → HasFront g valid rest n → HasFront g other rest n
  fronts rest n h = record { characters = h.characters; begins = h.begins; front = begins h.characters h.front }

module _ (g : FlatGrammar) (valid other : List Symbol) (to : (s : Symbol) → Contains valid s → Contains other s) (back : (s : Symbol) → Contains other s → Contains valid s) where
  best : (first : Bool) (rest : Bytes) (s : Symbol) (n : ℕ) → IsBest g valid first rest s n → IsBest g other first rest s n
  best first rest s n b = record {
    token = b.token;
    candidate = candidate g valid other to first rest b.token s n b.candidate;
    best = λ o t m c. b.best o t m (candidate g other valid back first rest o t m c);
  }

  none : (first : Bool) (rest : Bytes) → NoneMatches g valid first rest → NoneMatches g other first rest
  none first rest x = record {
    tokens = λ o t m c. x.tokens o t m (candidate g other valid back first rest o t m c);
    end = λ e c. x.end e (back end_symbol c);
  }

  passed : (first : Bool) (rest : Bytes) (n : ℕ) → Passes g valid first rest n → Passes g other first rest n
  passed first rest n p = record { none = none first rest p.none; separator = p.separator; longest = p.longest }

  pub same_lexes : (first : Bool) (rest : Bytes) (f : Found) → Lexes g valid first rest f → Lexes g other first rest f
  same_lexes _ _ _ (takes first rest s size b) = takes first rest s size (best first rest s size b)
  same_lexes _ _ _ (ends first c) = ends first (to end_symbol c)
  same_lexes _ _ _ (passes first rest n found p l) = passes first rest n found (passed first rest n p) (same_lexes false (drop n rest) found l)
  same_lexes _ _ _ (stops first rest x y) = stops first rest (none first rest x) y

  reach : (rest : Bytes) (n : ℕ) → IsReach g valid rest n → IsReach g other rest n
  reach rest n r = record { size = r.size; front = by r.front; longest = λ m h. r.longest m (fronts g other valid back rest m h); is = r.is }
    where
      by : (r.size ≡ 0) ⊎ HasFront g valid rest r.size → (r.size ≡ 0) ⊎ HasFront g other rest r.size
      by (inl e) = inl e
      by (inr h) = inr (fronts g valid other to rest r.size h)

module _ (g : FlatGrammar) (valid other : List Symbol) (to : (s : Symbol) → Contains valid s → Contains other s) (back : (s : Symbol) → Contains other s → Contains valid s) where
  pub same_seen : (first : Bool) (rest : Bytes) (n : ℕ) → IsSeen g valid first rest n → IsSeen g other first rest n
  same_seen _ _ _ (last first rest n never r) = last first rest n (λ m p. never m (passed g other valid back to first rest m p)) (reach g valid other to back rest n r)
  same_seen _ _ _ (more first rest m n seen p r s) = more first rest m n seen (passed g valid other to back first rest m p) (reach g valid other to back rest n r) (same_seen false (drop m rest) seen s)
