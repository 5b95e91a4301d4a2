-- Productions as the numbers of their symbols.
use Rattle.std.specs.Prelude.{◌≡◌, ℕ, List, map}
use Rattle.ts_core.specs.declared.flat.FlatGrammar.{FlatGrammar}
use Rattle.ts_core.specs.declared.flat.FlatRule.{FlatRule}
use Rattle.ts_core.specs.declared.flat.Production.{Production}
use Rattle.ts_core.specs.declared.flat.Step.{Step}
use Rattle.spec_grammar.specs.Symbols.{productions_from, all_productions}
use Rattle.spec_tables.specs.Items.{Line, line_steps}
use Rattle.ts_items.specs.declared.plain.Plain.{Plain}

-- the symbols of steps
abbrev pub symbols_of_steps : List Step → List ℕ
symbols_of_steps steps = map (λ step. step.symbol.0) steps

-- the symbols of the production of an item
abbrev pub right_of : FlatGrammar → Line → List ℕ
right_of g line = symbols_of_steps (line_steps g line)

-- a left side and the symbols on the right
abbrev pub plain : ℕ × Production → ℕ × List ℕ
plain p = (p.0, symbols_of_steps p.1.steps)

-- the productions of one rule, each as this left side and the symbols on the right
abbrev pub plain_rule : ℕ → List Production → List (ℕ × List ℕ)
plain_rule left productions = map (λ production. plain (left, production)) productions

-- the productions of rules, the first of which has this symbol
abbrev pub plain_rules : ℕ → List FlatRule → List (ℕ × List ℕ)
plain_rules first rules = map plain (productions_from first rules)

-- the productions of the code, each as a left side and the symbols on the right
abbrev pub seen_all : List Plain → List (ℕ × List ℕ)
seen_all productions = map (λ p. (p.left, p.right.items)) productions

-- these are the productions of the grammar, by their numbers
abbrev pub ArePlainOf : FlatGrammar → List Plain → Type 0
ArePlainOf g productions = seen_all productions ≡ map plain (all_productions g)
