-- Symbols and productions of a grammar in normal form.
use Rattle.std.specs.Prelude.{ℕ, zero, suc, ◌+◌, ◌-◌, Bool, true, false, not, nat_eq, nat_le, if◌then◌else◌, List, [], ◌∷◌, ◌++◌, length, map, sum, take, slice_get, Option, Some, None, unwrap_or, option_map}
use Rattle.ts_base.specs.Bytes.{Bytes}
use Rattle.ts_core.specs.declared.symbol.Symbol.{Symbol}
use Rattle.ts_core.specs.declared.symbol.Kind.{Kind}
use Rattle.ts_core.specs.declared.symbol.Kind.TheVariants.{Named, Anonymous, Hidden}
use Rattle.ts_core.specs.declared.flat.TokenDef.{TokenDef}
use Rattle.ts_core.specs.declared.flat.Production.{Production}
use Rattle.ts_core.specs.declared.flat.FlatRule.{FlatRule}
use Rattle.ts_core.specs.declared.flat.FlatGrammar.{FlatGrammar}

-- ---- symbols: 0 is the end of the text, then come the tokens, then the rules

-- the token that a symbol is
abbrev pub symbol_token : FlatGrammar → ℕ → Option TokenDef
symbol_token g zero = None
symbol_token g (suc number) = slice_get g.tokens number

-- the symbol of the start rule, which is the first
abbrev pub start_symbol : FlatGrammar → ℕ
start_symbol g = suc (length g.tokens)

-- how many symbols there are, the end among them
abbrev pub symbol_count : FlatGrammar → ℕ
symbol_count g = start_symbol g + length g.rules

-- the rule or repetition that a symbol is
abbrev pub symbol_rule : FlatGrammar → ℕ → Option FlatRule
symbol_rule g symbol =
    if nat_le (start_symbol g) symbol then slice_get g.rules (symbol - start_symbol g) else None

-- whether a rule, under its own symbol, is a repetition: another symbol owns it
abbrev pub is_owned : ℕ → FlatRule → Bool
is_owned symbol rule = not (nat_eq rule.owner.0 symbol)

-- whether a symbol is a repetition
abbrev pub is_repetition : FlatGrammar → ℕ → Bool
is_repetition g symbol = unwrap_or (option_map (is_owned symbol) (symbol_rule g symbol)) false

-- whether a symbol stands in a list
abbrev pub is_among : ℕ → List Symbol → Bool
is_among symbol [] = false
is_among symbol (s ∷ ss) = if nat_eq s.0 symbol then true else is_among symbol ss

-- whether a token is one of the extras
abbrev pub is_extra : FlatGrammar → ℕ → Bool
is_extra g symbol = is_among symbol g.extras

-- ---- productions, numbered from 0 in the order of their rules

-- how many productions rules have together
abbrev pub count_productions : List FlatRule → ℕ
count_productions rules = sum (map (λ rule. length rule.productions) rules)

-- the number of the first production of a rule
abbrev pub first_production : FlatGrammar → ℕ → ℕ
first_production g symbol = count_productions (take (symbol - start_symbol g) g.rules)

-- the productions of rules, the first of which has this symbol, each with its rule's symbol
abbrev pub productions_from : ℕ → List FlatRule → List (ℕ × Production)
productions_from symbol [] = []
productions_from symbol (rule ∷ rules) =
    map (λ production. (symbol, production)) rule.productions ++ productions_from (suc symbol) rules

-- all productions by their numbers, each with its rule's symbol
abbrev pub all_productions : FlatGrammar → List (ℕ × Production)
all_productions g = productions_from (start_symbol g) g.rules

-- the production of a number
abbrev pub production_at : FlatGrammar → ℕ → Option (ℕ × Production)
production_at g number = slice_get (all_productions g) number

-- half of a number, rounded down
abbrev pub half : ℕ → ℕ
half zero = 0
half (suc zero) = 0
half (suc (suc n)) = suc (half n)

-- How many alternatives the content of a repetition has. Each has two productions: alone, and
-- after the repetition.
abbrev pub alternative_count : FlatGrammar → ℕ → ℕ
alternative_count g symbol =
    unwrap_or (option_map (λ rule. half (length rule.productions)) (symbol_rule g symbol)) 0

-- ---- how nodes of a symbol show by themselves

-- the name of the end of the text: end
abbrev pub end_name : Bytes
end_name = 101 ∷ 110 ∷ 100 ∷ []

-- the name of a symbol's nodes, and of the end
abbrev pub node_name : FlatGrammar → ℕ → Bytes
node_name g zero = end_name
node_name g (suc number) =
    unwrap_or (option_map (λ token. token.name) (symbol_token g (suc number)))
    (unwrap_or (option_map (λ rule. rule.name) (symbol_rule g (suc number))) [])

-- the kind of a symbol's nodes; the end has none and does not show
abbrev pub node_kind : FlatGrammar → ℕ → Kind
node_kind g symbol =
    unwrap_or (option_map (λ token. token.kind) (symbol_token g symbol))
    (unwrap_or (option_map (λ rule. rule.kind) (symbol_rule g symbol)) Hidden)

-- nodes of this kind do not show by themselves
abbrev pub is_hidden_kind : Kind → Bool
is_hidden_kind Hidden = true
is_hidden_kind Named = false
is_hidden_kind Anonymous = false

-- nodes of this kind show under a rule's name
abbrev pub is_named_kind : Kind → Bool
is_named_kind Named = true
is_named_kind Anonymous = false
is_named_kind Hidden = false
