-- What a grammar says of its tokens beside what they match.
use Rattle.std.specs.Prelude.{◌≡◌, ◌+◌, ◌-◌, ◌^◌, ◌≤◌, ◌<◌, ◌<ℤ◌, ◌⊎◌, true, false, length, map}
use Rattle.ts_core.specs.declared.flat.FlatGrammar.{FlatGrammar}
use Rattle.ts_core.specs.declared.flat.TokenDef.{TokenDef}
use Rattle.ts_core.specs.declared.symbol.Symbol.{Symbol}
use Rattle.ts_lexer.specs.declared.rules.Kind.{Kind}
use Rattle.ts_lexer.specs.declared.rules.Rules.{Rules}

-- the kind of a token
abbrev pub kind_of : TokenDef → Kind
kind_of token = record {
  prec = token.prec;
  literal = token.literal;
  immediate = token.immediate;
  keyword = token.keyword;
}

-- the tokens and the separators are so few that numbers for them do: a symbol has two bytes
pub record AreFew (g : FlatGrammar) : Type 0 where
  pub tokens : length g.tokens < 2 ^ 16 - 1
  pub separators : length g.separators < 2 ^ 32

-- the rules are those of the grammar
pub record IsRules (g : FlatGrammar) (r : Rules) : Type 0 where
  pub kinds : r.kinds.items ≡ map kind_of g.tokens
  pub word : r.word ≡ g.word
  pub parts : r.parts ≡ length g.tokens + length g.separators
  pub few : length g.tokens < 2 ^ 16 - 1

-- at one length, a token is taken before another, or is that one
abbrev pub Over : Kind → Symbol → Kind → Symbol → Type 0
Over a s b t =
    (b.prec <ℤ a.prec)
    ⊎ ((a.prec ≡ b.prec)
    × (((a.literal ≡ true) × (b.literal ≡ false)) ⊎ ((a.literal ≡ b.literal) × (s.0 ≤ t.0))))

-- of two tokens, this is the one that is taken
pub record IsBetter (a : Kind) (s : Symbol) (b : Kind) (t : Symbol) (taken : Symbol) : Type 0 where
  pub kept : Over a s b t → taken ≡ s
  pub changed : (Over a s b t → ⊥) → taken ≡ t
