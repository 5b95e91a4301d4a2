-- Tokens that spread over edges between symbols.
use Rattle.std.specs.Prelude.{◌≡◌, ℕ, ◌<◌, List, length, Option, Some, None, MatchOption, ⊤, ◌↔◌}
use Rattle.std.specs.Global.{Vec}
use Rattle.std.specs.List.{Contains}
use Rattle.ts_bits.specs.declared.set.BitSet.{BitSet}
use Rattle.ts_bits.specs.Members.{Has}
use Rattle.ts_items.specs.declared.flow.Edge.{Edge}
use Rattle.ts_items.specs.Sets.{HasAt, AreWide}
use Rattle.ts_items.specs.Rows.{RowHas}

-- the least relation of symbols and tokens that has these, and what each of its members brings
pub data Spread (Brings : ℕ → ℕ → ℕ → ℕ → Type 0) (From : ℕ → ℕ → Type 0) : ℕ → ℕ → Type 0 where
  given : (y t : ℕ) → From y t → Spread Brings From y t
  brought : (y t z u : ℕ) → Spread Brings From y t → Brings y t z u → Spread Brings From z u

-- over an edge goes the token itself, or each of those behind
abbrev pub Hands : List BitSet → Option ℕ → ℕ → ℕ → Type 0
Hands gives None t u = t ≡ u
Hands gives (Some x) t u = HasAt gives x u

-- an edge from the first symbol to the second brings, for the first token, the second
pub record Brings (edges : List (Vec Edge)) (gives : List BitSet) (y t z u : ℕ) : Type 0 where
  pub edge : Edge
  pub there : RowHas edges y edge
  pub to : edge.to ≡ z
  pub hands : Hands gives edge.behind t u

-- the same for all tokens of a set
abbrev pub HandsOn : List BitSet → BitSet → Option ℕ → ℕ → Type 0
HandsOn gives from None u = Has from u
HandsOn gives from (Some x) u = HasAt gives x u

-- the edge leads to the symbol and brings the token
abbrev pub Brought : List BitSet → BitSet → Edge → ℕ → ℕ → Type 0
Brought gives from edge z u = (z ≡ edge.to) × HandsOn gives from edge.behind u

-- the edge leads to one of so many symbols, and the set behind it is there
pub record IsEdge (gives : List BitSet) (count : ℕ) (e : Edge) : Type 0 where
  pub to : e.to < count
  pub behind : MatchOption e.behind ⊤ (λ x. x < length gives)

-- there are edges for each symbol
pub record IsNet (edges : List (Vec Edge)) (gives : List BitSet) (count : ℕ) : Type 0 where
  pub rows : length edges ≡ count
  pub each : (y : ℕ) (e : Edge) → RowHas edges y e → IsEdge gives count e

-- the queue has all symbols that have a token
pub record Queued (sets : List BitSet) (queue : List ℕ) : Type 0 where
  pub inside : (y : ℕ) → Contains queue y → y < length sets
  pub begun : (y t : ℕ) → HasAt sets y t → Contains queue y

-- the sets are the least ones that have what the edges bring
pub record Spreads (edges : List (Vec Edge)) (gives old new : List BitSet) : Type 0 where
  pub count : length new ≡ length old
  pub wide : (n : ℕ) → AreWide n old → AreWide n new
  pub members : (y t : ℕ) → HasAt new y t ↔ Spread (Brings edges gives) (HasAt old) y t
