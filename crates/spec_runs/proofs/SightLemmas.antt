-- What lexing finds depends on the members of the list of valid tokens alone.
use Rattle.std.proofs.Common.{ℕ, ◌↔◌, Bool, false, List, drop}
use Rattle.std.specs.List.{Contains}
use Rattle.ts_base.specs.Bytes.{Bytes}
use Rattle.ts_core.specs.declared.flat.FlatGrammar.{FlatGrammar}
use Rattle.ts_core.specs.declared.flat.TokenDef.{TokenDef}
use Rattle.ts_core.specs.declared.symbol.Symbol.{Symbol}
use Rattle.spec_lexing.specs.Lexing.{Candidate, IsBest, NoneMatches, Passes, Found, Lexes, takes, ends, passes, stops, end_symbol}
use Rattle.spec_runs.specs.Configurations.{AreValidTokens}

module _ (g : FlatGrammar) (v w : List Symbol) (same : (s : Symbol) → Contains v s ↔ Contains w s) where
  there : (first : Bool) (rest : Bytes) (t : TokenDef) (s : Symbol) (n : ℕ) → Candidate g v first rest t s n → Candidate g w first rest t s n
  there first rest t s n c = record { is_valid = (same s).0 c.is_valid; is_token = c.is_token; immediate = c.immediate; matches = c.matches }

  back : (first : Bool) (rest : Bytes) (t : TokenDef) (s : Symbol) (n : ℕ) → Candidate g w first rest t s n → Candidate g v first rest t s n
  back first rest t s n c = record { is_valid = (same s).1 c.is_valid; is_token = c.is_token; immediate = c.immediate; matches = c.matches }

  best : (first : Bool) (rest : Bytes) (s : Symbol) (n : ℕ) → IsBest g v first rest s n → IsBest g w first rest s n
  best first rest s n b = record {
    token = b.token;
    candidate = there first rest b.token s n b.candidate;
    best = λ other t m c. b.best other t m (back first rest other t m c);
  }

  none_matches : (first : Bool) (rest : Bytes) → NoneMatches g v first rest → NoneMatches g w first rest
  none_matches first rest n = record {
    tokens = λ t s k c. n.tokens t s k (back first rest t s k c);
    end = λ e has. n.end e ((same end_symbol).1 has);
  }

  pass : (first : Bool) (rest : Bytes) (n : ℕ) → Passes g v first rest n → Passes g w first rest n
  pass first rest n p = record { none = none_matches first rest p.none; separator = p.separator; longest = p.longest }

  pub same_found : (first : Bool) (rest : Bytes) (f : Found) → Lexes g v first rest f → Lexes g w first rest f
  same_found _ _ _ (takes first rest s n b) = takes first rest s n (best first rest s n b)
  same_found _ _ _ (ends first has) = ends first ((same end_symbol).0 has)
  same_found _ _ _ (passes first rest n f p deep) = passes first rest n f (pass first rest n p) (same_found false (drop n rest) f deep)
  same_found _ _ _ (stops first rest none lack) = stops first rest (none_matches first rest none) lack

-- two lists of the valid tokens have the same members
pub same_valid : (g : FlatGrammar) (read : List ℕ) (v w : List Symbol) → AreValidTokens g read v → AreValidTokens g read w → (s : Symbol) → Contains v s ↔ Contains w s
same_valid g read v w a b s = ((λ h. (b s).1 ((a s).0 h)), (λ h. (a s).1 ((b s).0 h)))
