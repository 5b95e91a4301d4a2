-- Valid LR(1) items, with no state numbers (Knuth). A viable prefix is a list of symbols, the last
-- one first.
use Rattle.std.specs.Prelude.{◌≡◌, ℕ, suc, ◌<◌, ◌≤◌, List, [], ◌∷◌, length, slice_get, Option, Some, None, option_map, unwrap_or}
use Rattle.ts_core.specs.declared.flat.FlatGrammar.{FlatGrammar}
use Rattle.ts_core.specs.declared.flat.Production.{Production}
use Rattle.ts_core.specs.declared.flat.Step.{Step}
use Rattle.ts_core.specs.declared.flat.Prec.TheVariants as prec
use Rattle.ts_core.specs.declared.flat.Assoc.TheVariants as assoc
use Rattle.spec_grammar.specs.Symbols.{production_at, start_symbol}

-- the production of an item: of the start item, whose only step is the start rule, or of the
-- grammar
abbrev pub Line : Type 0
Line = Option ℕ

-- a production, a dot before one of its steps or at its end, and a token that may come after it
pub record Item : Type 0 where
  pub line : Line
  pub dot : ℕ
  pub token : ℕ

-- the end of the text, as a token
abbrev pub end_token : ℕ
end_token = 0

-- a step without marks
abbrev pub plain_step : ℕ → Step
plain_step symbol = record {
  symbol = record { 0 = symbol };
  prec = prec.Absent;
  assoc = assoc.Absent;
  alias = None;
  field = None;
}

-- the steps of the start item, and of a production by its number
abbrev pub line_steps : FlatGrammar → Line → List Step
line_steps g None = plain_step (start_symbol g) ∷ []
line_steps g (Some number) = unwrap_or (option_map (λ p. p.1.steps) (production_at g number)) []

-- the production of this number is one of the symbol
abbrev pub IsProductionOf : FlatGrammar → ℕ → ℕ → Type 0
IsProductionOf g symbol number =
    (production : Production) × (production_at g number ≡ Some (symbol, production))

-- the dot stands before this step
abbrev pub IsBefore : FlatGrammar → Item → Step → Type 0
IsBefore g i step = slice_get (line_steps g i.line) i.dot ≡ Some step

-- the dot stands at the end
abbrev pub IsComplete : FlatGrammar → Item → Type 0
IsComplete g i = i.dot ≡ length (line_steps g i.line)

-- the symbol is a token
abbrev pub IsToken : FlatGrammar → ℕ → Type 0
IsToken g symbol = (0 < symbol) × (symbol ≤ length g.tokens)

-- The token can begin what the symbol derives: the least relation. Only the start rule may be
-- empty, and no step names it then, so no step derives the empty list.
pub data CanBeginWith (g : FlatGrammar) : ℕ → ℕ → Type 0 where
  itself : (token : ℕ) → IsToken g token → CanBeginWith g token token
  by_first : (symbol number token : ℕ) (step : Step) → IsProductionOf g symbol number
      → slice_get (line_steps g (Some number)) 0 ≡ Some step → CanBeginWith g step.symbol.0 token
      → CanBeginWith g symbol token

-- the token can begin what follows the step at the dot, with the item's token behind it all
abbrev pub MayStandBehind : FlatGrammar → Option Step → ℕ → ℕ → Type 0
MayStandBehind g None behind token = token ≡ behind
MayStandBehind g (Some step) behind token = CanBeginWith g step.symbol.0 token

-- the token can come after the step at the item's dot
abbrev pub MayFollow : FlatGrammar → Item → ℕ → Type 0
MayFollow g i token = MayStandBehind g (slice_get (line_steps g i.line) (suc i.dot)) i.token token

-- the item before whose symbol the dot stands asks for this one, which begins a production of the
-- symbol
pub record AsksFor (g : FlatGrammar) (i j : Item) : Type 0 where
  pub step : Step
  pub before : IsBefore g i step
  pub number : ℕ
  pub production : IsProductionOf g step.symbol.0 number
  pub line : j.line ≡ Some number
  pub begins : j.dot ≡ 0
  pub follows : MayFollow g i j.token

-- the start rule is still to come, and then the end
abbrev pub start_item : Item
start_item = record { line = None; dot = 0; token = end_token }

-- the item with its dot past one more step
abbrev pub advanced : Item → Item
advanced i = record i { dot = suc i.dot }

-- The item is valid after these symbols: the least family.
pub data Valid (g : FlatGrammar) : List ℕ → Item → Type 0 where
  begun : Valid g [] start_item
  asked : (read : List ℕ) (i j : Item) → Valid g read i → AsksFor g i j → Valid g read j
  advanced_past : (read : List ℕ) (i : Item) (step : Step) → Valid g read i → IsBefore g i step
      → Valid g (step.symbol.0 ∷ read) (advanced i)
