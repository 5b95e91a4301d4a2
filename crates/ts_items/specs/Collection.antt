-- Numbered sets of valid items.
use Rattle.std.specs.Prelude.{◌≡◌, ℕ, ◌*◌, ◌^◌, ◌<◌, ◌≤◌, List, [], ◌∷◌, length, slice_get, Some}
use Rattle.std.specs.List.{Contains}
use Rattle.ts_core.specs.declared.flat.FlatGrammar.{FlatGrammar}
use Rattle.spec_grammar.specs.Symbols.{all_productions, symbol_count}
use Rattle.spec_tables.specs.Items.{Item, Valid}
use Rattle.ts_bits.specs.declared.set.BitSet.{BitSet}
use Rattle.ts_bits.specs.Members.{IsWide}
use Rattle.ts_items.specs.declared.part.Items.{Items}
use Rattle.ts_items.specs.declared.part.Goto.{Goto}
use Rattle.ts_items.specs.declared.part.State.{State}
use Rattle.ts_items.specs.Parts.{In}
use Rattle.ts_items.specs.Closing.{SameItems, AreLineParts, HaveOneSetEach}
use Rattle.ts_items.specs.Edges.{AreFirstSets}

-- the most sets that there may be
abbrev pub most_states : ℕ
most_states = 65535

-- the number that a refusal names
abbrev pub too_many : ℕ
too_many = 65536

-- the item is in the set of this number
abbrev pub HoldsItem : Items → ℕ → Item → Type 0
HoldsItem items n i = (s : State) × (slice_get items.states.items n ≡ Some s)
    × In items.tokens.keys s.parts.items i

-- the set of the first number leads over the symbol to that of the second
abbrev pub IsGoto : Items → ℕ → ℕ → ℕ → Type 0
IsGoto items n symbol m = (s : State) × (slice_get items.states.items n ≡ Some s)
    × Contains s.gotos.items (record { symbol = symbol; state = m })

-- the number to which a list of symbols leads from the first set, the last symbol first
pub data IsReachedBy (items : Items) : List ℕ → ℕ → Type 0 where
  here : IsReachedBy items [] 0
  step : (read : List ℕ) (n symbol m : ℕ) → IsReachedBy items read n → IsGoto items n symbol m
      → IsReachedBy items (symbol ∷ read) m

-- parts with one production and dot are the same part, each has some token, and the gotos' symbols
-- rise
pub record IsLaidOut (g : FlatGrammar) (tokens : List BitSet) (s : State) : Type 0 where
  pub parts : AreLineParts (length (all_productions g)) tokens s.parts.items
  pub apart : HaveOneSetEach s.parts.items
  pub rise : (j k : ℕ) (a b : Goto) → j < k → slice_get s.gotos.items j ≡ Some a
      → slice_get s.gotos.items k ≡ Some b → a.symbol < b.symbol

-- the numbers stand one to one for the distinct sets of valid items that are not empty
pub record StandsFor (g : FlatGrammar) (items : Items) : Type 0 where
  -- a list of symbols after which some item is valid leads to a number
  pub complete : (read : List ℕ) (i : Item) → Valid g read i → (n : ℕ) × IsReachedBy items read n
  -- the set of a number to which it leads has just the items that are valid
  pub valid : (read : List ℕ) (n : ℕ) → IsReachedBy items read n
      → SameItems (HoldsItem items n) (Valid g read)
  -- some list of symbols leads to each number, and some item is valid after it
  pub reached : (n : ℕ) → n < length items.states.items
      → (read : List ℕ) × (i : Item) × IsReachedBy items read n × Valid g read i
  -- no two numbers have the same items
  pub distinct : (m n : ℕ) → m < length items.states.items → n < length items.states.items
      → SameItems (HoldsItem items m) (HoldsItem items n) → m ≡ n
  pub laid_out : (n : ℕ) (s : State) → slice_get items.states.items n ≡ Some s
      → IsLaidOut g items.tokens.keys s
  -- each goto is over a symbol of the grammar, and leads to a number
  pub inside : (n : ℕ) (s : State) (e : Goto) → slice_get items.states.items n ≡ Some s
      → Contains s.gotos.items e
      → (e.symbol < symbol_count g) × (e.state < length items.states.items)
  -- the sets of tokens have the width of so many words
  pub width : ℕ
  pub narrow : 64 * width < 2 ^ 64
  pub wide : (n : ℕ) (set : BitSet) → slice_get items.tokens.keys n ≡ Some set → IsWide width set
  -- what each symbol can begin with is kept beside
  pub firsts : AreFirstSets g width items.firsts.items
  pub few : length items.states.items ≤ most_states

-- lists of symbols after which different sets of items are valid, none of them empty
pub record AreDifferent (g : FlatGrammar) (reads : List (List ℕ)) : Type 0 where
  pub some : (n : ℕ) (read : List ℕ) → slice_get reads n ≡ Some read → (i : Item) × Valid g read i
  pub different : (m n : ℕ) (read other : List ℕ) → slice_get reads m ≡ Some read
      → slice_get reads n ≡ Some other → SameItems (Valid g read) (Valid g other) → m ≡ n

-- there are more such sets than there may be
abbrev pub AreTooManyStates : FlatGrammar → Type 0
AreTooManyStates g = (reads : List (List ℕ)) × AreDifferent g reads × (most_states < length reads)
