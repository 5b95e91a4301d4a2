-- The token that is found is valid.
use Rattle.std.proofs.Common.{◌≡◌, ℕ, ◌⊎◌, Bool, true, false, List, drop}
use Rattle.std.specs.List.{Contains}
use Rattle.ts_base.specs.Bytes.{Bytes}
use Rattle.ts_core.specs.declared.flat.FlatGrammar.{FlatGrammar}
use Rattle.ts_core.specs.declared.symbol.Symbol.{Symbol}
use Rattle.spec_grammar.specs.Symbols.{is_extra}
use Rattle.spec_lexing.specs.Lexing.{Found, token, absent, behind, Lexes, takes, ends, passes, stops}
use Rattle.spec_runs.specs.Configurations.{Configuration, stack_symbols, HasMove, NextIs}

-- the token is valid
Names : List Symbol → Found → Type 0
Names valid (token s pad size) = Contains valid s
Names valid (absent n) = Unit {0}

names_behind : (valid : List Symbol) (n : ℕ) (f : Found) → Names valid f → Names valid (behind n f)
unfolding Names
names_behind valid n (token s pad size) h = h
names_behind valid n (absent m) h = h

names_found : (g : FlatGrammar) (valid : List Symbol) (first : Bool) (rest : Bytes) (f : Found) → Lexes g valid first rest f → Names valid f
unfolding Names
names_found g valid _ _ _ (takes first rest s n best) = best.candidate.is_valid
names_found g valid _ _ _ (ends first is) = is
names_found g valid _ _ _ (passes first rest n f pass deep) = names_behind valid n f (names_found g valid false (drop n rest) f deep)
names_found g valid _ _ _ (stops first rest none lack) = tt

found_token : (g : FlatGrammar) (valid : List Symbol) (rest : Bytes) (s : Symbol) (pad size : ℕ) → Lexes g valid true rest (token s pad size) → Contains valid s
unfolding Names
found_token g valid rest s pad size l = names_found g valid true rest (token s pad size) l

-- what is seen has a move, or is an extra
pub next_valid : (g : FlatGrammar) (text : Bytes) (c : Configuration) (s : Symbol) (pad size : ℕ) → NextIs g text c (token s pad size) → HasMove g (stack_symbols c.stack) s.0 ⊎ (is_extra g s.0 ≡ true)
next_valid g text c s pad size n = (n.1 s).0 (found_token g n.0 (drop c.place text) s pad size n.2)
