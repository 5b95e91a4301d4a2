-- Sets of items by the parts with which they begin, and where they lead.
use Rattle.std.specs.Prelude.{◌≡◌, ℕ, ◌+◌, ◌<◌, List, [], ◌∷◌, ◌++◌, length, slice_get, Some, ◌⊎◌, ◌↔◌}
use Rattle.std.specs.Global.{Vec}
use Rattle.std.specs.declared.cmp.Ordering.{Ordering}
use Rattle.std.specs.List.{Contains}
use Rattle.std.specs.List.Sorted.{IsStrictlySortedBy}
use Rattle.ts_core.specs.declared.flat.FlatGrammar.{FlatGrammar}
use Rattle.spec_tables.specs.Items.{Item, Valid, start_item}
use Rattle.ts_bits.specs.declared.set.BitSet.{BitSet}
use Rattle.ts_items.specs.declared.part.Part.{Part}
use Rattle.ts_items.specs.declared.part.Goto.{Goto}
use Rattle.ts_items.specs.declared.part.State.{State}
use Rattle.ts_items.specs.contracts.part.PartOrd.TheImpl as derived
use Rattle.ts_items.specs.Productions.{right_of}
use Rattle.ts_items.specs.Parts.{line_of, In}
use Rattle.ts_items.specs.Rows.{RowHas, FromOne}
use Rattle.ts_items.specs.Tables.{GrammarTables}
use Rattle.ts_items.specs.Closing.{AddsSets, AtDot, Closed, SameItems, MovesPast, AreLineParts, HaveOneSetEach, IsKernel, Closes}

-- the order of parts: by line, then by dot, then by the place of the set of tokens
abbrev pub part_cmp : Part → Part → Ordering
part_cmp = (derived.cmp-value).it

-- the part with its dot past the symbol
abbrev pub MovesTo : FlatGrammar → Part → ℕ → Part → Type 0
MovesTo g q y x = (slice_get (right_of g (line_of q.line)) q.dot ≡ Some y)
    × (x ≡ record q { dot = q.dot + 1 })

-- for each symbol the parts past it
abbrev pub AreMoved : FlatGrammar → List Part → List (Vec Part) → Type 0
AreMoved g parts rows = (y : ℕ) (x : Part) → RowHas rows y x ↔ FromOne (MovesTo g) parts y x

-- the same parts in order, each once
pub record IsOrdered (parts ordered : List Part) : Type 0 where
  pub members : (q : Part) → Contains ordered q ↔ Contains parts q
  pub order : IsStrictlySortedBy part_cmp ordered

-- no two places have the same parts
abbrev pub AreOnce : List (Vec Part) → Type 0
AreOnce kernels = (m n : ℕ) (a b : Vec Part) → slice_get kernels m ≡ Some a
    → slice_get kernels n ≡ Some b → a.items ≡ b.items → m ≡ n

-- the parts begin the set of the items that are valid after some list of symbols
pub record IsKernelOf (g : FlatGrammar) (lines : ℕ) (pool : List BitSet)
    (kernel : List Part) : Type 0 where
  pub read : List ℕ
  pub valid : SameItems (Closed g (In pool kernel)) (Valid g read)
  pub one : Part
  pub has : Contains kernel one
  pub parts : AreLineParts lines pool kernel
  pub kernel_is : IsKernel kernel
  pub order : IsStrictlySortedBy part_cmp kernel

-- each list of parts begins the set of the items that are valid after some list of symbols
abbrev pub AreStates : FlatGrammar → ℕ → List BitSet → List (Vec Part) → Type 0
AreStates g lines pool kernels = (n : ℕ) (k : Vec Part) → slice_get kernels n ≡ Some k
    → IsKernelOf g lines pool k.items

-- the parts of a set, and those past each symbol
pub record HasRows (g : FlatGrammar) (lines : ℕ) (pool : List BitSet) (parts : List Part)
    (rows : List (Vec Part)) : Type 0 where
  pub read : List ℕ
  pub valid : SameItems (In pool parts) (Valid g read)
  pub are : AreLineParts lines pool parts
  pub apart : HaveOneSetEach parts
  pub moved : AreMoved g parts rows

-- each leads to the set that begins with the items past the symbol, and there is one for each
-- symbol below this one before which a dot stands; the symbols rise
pub record AreGotos (g : FlatGrammar) (pool : List BitSet) (kernels : List (Vec Part))
    (parts : List Part) (below : ℕ) (gotos : List Goto) : Type 0 where
  pub leads : (e : Goto) → Contains gotos e → (k : Vec Part)
      × (slice_get kernels e.state ≡ Some k)
      × SameItems (In pool k.items) (MovesPast g (In pool parts) e.symbol)
  pub under : (e : Goto) → Contains gotos e → e.symbol < below
  pub all : (x : ℕ) (i : Item) → x < below → In pool parts i → AtDot g i x → (e : Goto)
      × Contains gotos e × (e.symbol ≡ x)
  pub rise : (j k : ℕ) (a b : Goto) → j < k → slice_get gotos j ≡ Some a
      → slice_get gotos k ≡ Some b → a.symbol < b.symbol

-- a kernel was put at the end where it is new
pub record Enters (parts : List Part) (old new : List (Vec Part)) : Type 0 where
  pub grows : AddsSets old new
  pub of : (n : ℕ) (k : Vec Part) → slice_get new n ≡ Some k → (slice_get old n ≡ Some k)
      ⊎ (IsOrdered parts k.items × ((parts ≡ [] → ⊥)))
  pub once : AreOnce old → AreOnce new

-- where some parts lead: nowhere where there is none
pub record EntersGoto (kernels : List (Vec Part)) (symbol : ℕ) (parts : List Part)
    (old new : List Goto) : Type 0 where
  pub none : parts ≡ [] → new ≡ old
  pub some : ((parts ≡ [] → ⊥)) → (n : ℕ) × (k : Vec Part) × (slice_get kernels n ≡ Some k)
      × IsOrdered parts k.items
      × (new ≡ old ++ record { symbol = symbol; state = n } ∷ [])

-- a set whose parts and whose gotos are there
pub record IsDone (g : FlatGrammar) (lines count : ℕ) (pool : List BitSet) (kernels : List
    (Vec Part)) (k : Vec Part) (s : State) : Type 0 where
  pub closes : Closes g lines pool k.items s.parts.items
  pub gotos : AreGotos g pool kernels s.parts.items count s.gotos.items

-- the sets that have been gone through, of those that are numbered
pub record Collecting (g : FlatGrammar) (lines count : ℕ) (pool : List BitSet) (kernels : List
    (Vec Part)) (states : List State) (next : ℕ) : Type 0 where
  pub first : Vec Part
  pub first_at : slice_get kernels 0 ≡ Some first
  pub start : SameItems (In pool first.items) (λ i. i ≡ start_item)
  pub are : AreStates g lines pool kernels
  pub once : AreOnce kernels
  pub size : length states ≡ next
  pub done : (n : ℕ) (s : State) (k : Vec Part) → slice_get states n ≡ Some s
      → slice_get kernels n ≡ Some k → IsDone g lines count pool kernels k s

-- the same with the numbers of lines and symbols that tables have
abbrev pub StatesBy : GrammarTables → List BitSet → List (Vec Part) → Type 0
StatesBy t pool kernels = AreStates t.grammar (length t.tables.productions.items) pool kernels

-- a set whose parts and whose gotos are there, by the numbers that tables have
abbrev pub DoneBy : GrammarTables → List BitSet → List (Vec Part) → Vec Part → State → Type 0
DoneBy t pool kernels k s =
    IsDone t.grammar (length t.tables.productions.items) (length t.tables.firsts.items) pool
    kernels k s

-- the sets that have been gone through, by the numbers that tables have
abbrev pub CollectedBy : GrammarTables → List BitSet → List (Vec Part) → List State → ℕ → Type 0
CollectedBy t pool kernels states next =
    Collecting t.grammar (length t.tables.productions.items) (length t.tables.firsts.items) pool
    kernels states next
