-- What the tables of a grammar say.
use Rattle.std.specs.Prelude.{◌≡◌, ℕ, suc, ◌*◌, ◌^◌, ◌<◌, List, [], ◌∷◌, length, slice_get, Some, ◌↔◌}
use Rattle.std.specs.Global.{Vec}
use Rattle.ts_core.specs.declared.flat.FlatGrammar.{FlatGrammar}
use Rattle.spec_grammar.specs.Symbols.{start_symbol, symbol_count}
use Rattle.ts_items.specs.declared.plain.Plain.{Plain}
use Rattle.ts_items.specs.declared.tables.Tables.{Tables}
use Rattle.ts_items.specs.Productions.{ArePlainOf}
use Rattle.ts_items.specs.Rows.{RowHas}
use Rattle.ts_items.specs.Edges.{IsAskEdge, AreEdges, AreInside, AreFirstSets}

-- a grammar, with tables
pub record GrammarTables : Type 0 where
  pub grammar : FlatGrammar
  pub tables : Tables

-- the line is of a production with this left side
pub record IsLineOf (ps : List Plain) (y line : ℕ) : Type 0 where
  pub number : ℕ
  pub is : line ≡ suc number
  pub production : Plain
  pub at : slice_get ps number ≡ Some production
  pub left : y ≡ production.left

-- for each symbol the lines of the productions that have it on the left
pub record AreLines (ps : List Plain) (count : ℕ) (lines : List (Vec ℕ)) : Type 0 where
  pub count_is : length lines ≡ count
  pub members : (y line : ℕ) → RowHas lines y line ↔ IsLineOf ps y line

-- these are the tables of the grammar
pub record IsTables (g : FlatGrammar) (t : Tables) : Type 0 where
  pub start : t.start.items ≡ start_symbol g ∷ []
  pub few : symbol_count g < 2 ^ 16
  pub some : start_symbol g < symbol_count g
  pub plain : ArePlainOf g t.productions.items
  pub inside : AreInside (symbol_count g) t.productions.items
  pub few_productions : length t.productions.items < 2 ^ 16
  pub lines : AreLines t.productions.items (symbol_count g) t.lines.items
  pub edges : AreEdges IsAskEdge t.productions.items (symbol_count g) t.edges.items
  pub firsts : AreFirstSets g t.width t.firsts.items
  pub room : 0 < t.width
  pub narrow : 64 * t.width < 2 ^ 64
