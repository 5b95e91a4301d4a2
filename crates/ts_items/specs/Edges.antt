-- Edges of productions, and what symbols can begin with.
use Rattle.std.specs.Prelude.{◌≡◌, ℕ, ◌<◌, ◌^◌, List, length, slice_get, Some, None, ◌↔◌}
use Rattle.std.specs.Global.{Vec}
use Rattle.std.specs.List.{Contains}
use Rattle.ts_core.specs.declared.flat.FlatGrammar.{FlatGrammar}
use Rattle.spec_grammar.specs.Symbols.{symbol_count}
use Rattle.spec_tables.specs.Items.{CanBeginWith}
use Rattle.ts_bits.specs.declared.set.BitSet.{BitSet}
use Rattle.ts_items.specs.declared.flow.Edge.{Edge}
use Rattle.ts_items.specs.declared.plain.Plain.{Plain}
use Rattle.ts_items.specs.Rows.{RowHas, FromOne}
use Rattle.ts_items.specs.Sets.{HasAt, AreWide}

-- the edge leads from the first symbol of a production to its left side, and hands tokens on
pub record IsFirstEdge (p : Plain) (y : ℕ) (e : Edge) : Type 0 where
  pub from : slice_get p.right.items 0 ≡ Some y
  pub to : e.to ≡ p.left
  pub behind : e.behind ≡ None

-- the edge leads from the left side of a production to its first symbol, behind which the second
-- one stands
pub record IsAskEdge (p : Plain) (y : ℕ) (e : Edge) : Type 0 where
  pub from : y ≡ p.left
  pub to : slice_get p.right.items 0 ≡ Some e.to
  pub behind : e.behind ≡ slice_get p.right.items 1

-- these are the edges that the productions make
pub record AreEdges (EdgeOf : Plain → ℕ → Edge → Type 0) (ps : List Plain) (count : ℕ)
    (edges : List (Vec Edge)) : Type 0 where
  pub count_is : length edges ≡ count
  pub members : (y : ℕ) (e : Edge) → RowHas edges y e ↔ FromOne EdgeOf ps y e

-- the symbols of the production are below the number of symbols, and a dot in it has 16 bits
pub record IsPlainInside (count : ℕ) (p : Plain) : Type 0 where
  pub left : p.left < count
  pub short : length p.right.items < 2 ^ 16
  pub right : (k x : ℕ) → slice_get p.right.items k ≡ Some x → x < count

-- so it is with each of the productions
abbrev pub AreInside : ℕ → List Plain → Type 0
AreInside count ps = (p : Plain) → Contains ps p → IsPlainInside count p

-- for each symbol the tokens with which it can begin
pub record AreFirstSets (g : FlatGrammar) (width : ℕ) (sets : List BitSet) : Type 0 where
  pub count : length sets ≡ symbol_count g
  pub wide : AreWide width sets
  pub members : (y t : ℕ) → HasAt sets y t ↔ CanBeginWith g y t
