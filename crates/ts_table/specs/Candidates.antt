-- The items that compete on a token, by their parts.
use Rattle.std.specs.Prelude.{◌≡◌, ℕ, ◌<◌, List, length, slice_get, Some}
use Rattle.std.specs.List.{Contains}
use Rattle.ts_core.specs.declared.flat.FlatGrammar.{FlatGrammar}
use Rattle.spec_tables.specs.Items.{Item}
use Rattle.spec_tables.specs.Actions.{Reduces}
use Rattle.ts_bits.specs.declared.set.BitSet.{BitSet}
use Rattle.ts_items.specs.declared.part.Part.{Part}
use Rattle.ts_items.specs.Productions.{right_of}
use Rattle.ts_items.specs.Parts.{line_of}
use Rattle.ts_items.specs.Sets.{HasAt}
use Rattle.ts_table.specs.declared.candidates.Candidate.{Candidate}
use Rattle.ts_table.specs.Marks.{weight_of}

-- what stands for the items of a part
abbrev pub candidate_of : FlatGrammar → Part → Candidate
candidate_of g q = record { line = q.line; weight = weight_of g (line_of q.line) q.dot }

-- the items of the part are complete items of the grammar
abbrev pub IsCompletePart : FlatGrammar → Part → Type 0
IsCompletePart g q = (0 < q.line) × (q.dot ≡ length (right_of g (line_of q.line)))

-- the items of the part are shift items on the token
abbrev pub IsShiftPart : FlatGrammar → List BitSet → ℕ → Part → Type 0
IsShiftPart g firsts token q = (0 < q.dot) × ((x : ℕ)
    × (slice_get (right_of g (line_of q.line)) q.dot ≡ Some x) × HasAt firsts x token)

-- the candidate is that of one of the parts for which this holds
abbrev pub PicksFrom : FlatGrammar → List Part → (Part → Type 0) → Candidate → Type 0
PicksFrom g parts P c = (q : Part) × Contains parts q × P q × (c ≡ candidate_of g q)

-- the token is among those that come after one of the parts
abbrev pub ComesAfter : List BitSet → List Part → ℕ → Type 0
ComesAfter pool parts t = (q : Part) × Contains parts q × HasAt pool q.tokens t

-- the candidate stands for the item
pub record StandsForItem (g : FlatGrammar) (c : Candidate) (i : Item) : Type 0 where
  pub line : i.line ≡ line_of c.line
  pub weight : c.weight ≡ weight_of g i.line i.dot

-- the candidates stand for the reductions on the token
pub record AreReductions (g : FlatGrammar) (read : List ℕ) (token : ℕ)
    (cs : List Candidate) : Type 0 where
  pub only : (c : Candidate) → Contains cs c → (i : Item) × Reduces g read token i
      × StandsForItem g c i
  pub all : (i : Item) → Reduces g read token i → (c : Candidate) × Contains cs c
      × StandsForItem g c i
