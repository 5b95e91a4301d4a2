-- How a lexer's answer decides what is found.
use Rattle.std.proofs.Common.{◌≡◌, ℕ, ◌⊎◌, true, List}
use Rattle.ts_base.specs.Bytes.{Bytes}
use Rattle.ts_core.specs.declared.flat.FlatGrammar.{FlatGrammar}
use Rattle.ts_core.specs.declared.symbol.Symbol.{Symbol}
use Rattle.spec_grammar.specs.Symbols.{is_extra}
use Rattle.spec_lexing.specs.Lexing.{token, Lex}
use Rattle.spec_lexing.specs.Seen.{Agree}
use Rattle.spec_runs.specs.Configurations.{HasMove, AreValidTokens}
use Rattle.spec_forced.specs.Forced.{IsDecided}
use Rattle.spec_forced.specs.Laws.{ForcedLaws}

-- lists of the valid tokens have the same members
pub any_list : (laws : ForcedLaws) (g : FlatGrammar) (read : List ℕ) (rest : Bytes) (s : Symbol) (pad size e : ℕ) (valid : List Symbol) → AreValidTokens g read valid → HasMove g read s.0 ⊎ (is_extra g s.0 ≡ true)
    → ((other : Bytes) → Agree e rest other → (v : List Symbol) × AreValidTokens g read v × Lex g v other (token s pad size)) → IsDecided g read rest (token s pad size) e
any_list laws g read rest s pad size e valid are known h = (valid, are, λ other agree. one other (h other agree))
  where
    one : (other : Bytes) → (v : List Symbol) × AreValidTokens g read v × Lex g v other (token s pad size) → Lex g valid other (token s pad size)
    one other (v, same, lex) = laws.fewer_tokens g v valid other s pad size (λ t c. (same t).1 ((are t).0 c)) ((are s).1 known) lex
