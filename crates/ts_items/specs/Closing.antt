-- The items that a set of items asks for, and the parts that stand for them.
use Rattle.std.specs.Prelude.{◌≡◌, ℕ, suc, ◌<◌, ◌≤◌, List, ◌++◌, length, slice_get, Option, Some, None, MatchOption, ◌⊎◌, ◌↔◌}
use Rattle.std.specs.Global.{Vec}
use Rattle.std.specs.List.{Contains}
use Rattle.ts_core.specs.declared.flat.FlatGrammar.{FlatGrammar}
use Rattle.spec_tables.specs.Items.{Item, IsProductionOf, CanBeginWith, advanced}
use Rattle.ts_bits.specs.declared.set.BitSet.{BitSet}
use Rattle.ts_bits.specs.Members.{Has, IsWide}
use Rattle.ts_items.specs.declared.part.Part.{Part}
use Rattle.ts_items.specs.Productions.{right_of}
use Rattle.ts_items.specs.Parts.{line_of, In}
use Rattle.ts_items.specs.Flow.{Spread}
use Rattle.ts_items.specs.Rows.{RowHas}
use Rattle.ts_items.specs.Sets.{HasAt}

-- the symbol stands at the dot of the item
abbrev pub AtDot : FlatGrammar → Item → ℕ → Type 0
AtDot g i x = slice_get (right_of g i.line) i.dot ≡ Some x

-- the token can begin what this symbol derives, or is the one behind where there is none
abbrev pub Behind : FlatGrammar → Option ℕ → ℕ → ℕ → Type 0
Behind g None behind token = token ≡ behind
Behind g (Some x) behind token = CanBeginWith g x token

-- an item of the set has its dot before the symbol, and the token can come after it
pub record Wants (g : FlatGrammar) (K : Item → Type 0) (y token : ℕ) : Type 0 where
  pub item : Item
  pub there : K item
  pub before : AtDot g item y
  pub follows : Behind g (slice_get (right_of g item.line) (suc item.dot)) item.token token

-- a production of the first symbol begins with the second, after which the token can come
pub record Turns (g : FlatGrammar) (y behind z token : ℕ) : Type 0 where
  pub number : ℕ
  pub production : IsProductionOf g y number
  pub first : slice_get (right_of g (Some number)) 0 ≡ Some z
  pub follows : Behind g (slice_get (right_of g (Some number)) 1) behind token

-- the symbol is asked for, with the token behind it
abbrev pub Asked : FlatGrammar → (Item → Type 0) → ℕ → ℕ → Type 0
Asked g K = Spread (Turns g) (Wants g K)

-- the item begins a production of a symbol that is asked for
pub record Begun (g : FlatGrammar) (K : Item → Type 0) (j : Item) : Type 0 where
  pub symbol : ℕ
  pub number : ℕ
  pub production : IsProductionOf g symbol number
  pub line : j.line ≡ Some number
  pub begins : j.dot ≡ 0
  pub asked : Asked g K symbol j.token

-- the items of a kernel, and all that they ask for
abbrev pub Closed : FlatGrammar → (Item → Type 0) → Item → Type 0
Closed g K j = K j ⊎ Begun g K j

-- the two sets have the same items
abbrev pub SameItems : (Item → Type 0) → (Item → Type 0) → Type 0
SameItems P Q = (i : Item) → P i ↔ Q i

-- an item of the set, with its dot past the symbol
pub record MovesPast (g : FlatGrammar) (S : Item → Type 0) (x : ℕ) (j : Item) : Type 0 where
  pub from : Item
  pub there : S from
  pub before : AtDot g from x
  pub is : j ≡ advanced from

-- the token can come after the step at the dot of a part
abbrev pub CanFollow : FlatGrammar → List BitSet → Part → ℕ → Type 0
CanFollow g pool q token =
    MatchOption (slice_get (right_of g (line_of q.line)) (suc q.dot))
    (HasAt pool q.tokens token) (λ x. CanBeginWith g x token)

-- a part asks for the symbol, with the token behind it
pub record AskedBy (g : FlatGrammar) (pool : List BitSet) (q : Part) (y token : ℕ) : Type 0 where
  pub before : slice_get (right_of g (line_of q.line)) q.dot ≡ Some y
  pub follows : CanFollow g pool q token

-- the part has one of so many lines, and a set of the pool that has some token
pub record IsLinePart (lines : ℕ) (pool : List BitSet) (q : Part) : Type 0 where
  pub line : q.line ≤ lines
  pub tokens : q.tokens < length pool
  pub some : (t : ℕ) × HasAt pool q.tokens t

-- each of the parts has one of so many lines, and a set of the pool that has some token
abbrev pub AreLineParts : ℕ → List BitSet → List Part → Type 0
AreLineParts lines pool parts = (q : Part) → Contains parts q → IsLinePart lines pool q

-- the list goes on with parts of this kind, and has them all
pub record AddsParts (P : Part → Type 0) (old new : List Part) : Type 0 where
  pub more : List Part
  pub is : new ≡ old ++ more
  pub members : (q : Part) → Contains more q ↔ P q

-- the part begins one of the lines with a set of the pool, which has these tokens
pub record BeginsLine (pool : List BitSet) (lines : List ℕ) (tokens : BitSet)
    (q : Part) : Type 0 where
  pub line : Contains lines q.line
  pub dot : q.dot ≡ 0
  pub inside : q.tokens < length pool
  pub same : (t : ℕ) → HasAt pool q.tokens t ↔ Has tokens t

-- where there is some token, the list goes on with a part for each of the lines
pub record AddsBegun (pool : List BitSet) (lines : List ℕ) (tokens : BitSet)
    (old new : List Part) : Type 0 where
  pub more : List Part
  pub is : new ≡ old ++ more
  pub only : (q : Part) → Contains more q → BeginsLine pool lines tokens q × ((t : ℕ)
      × Has tokens t)
  pub added : (line t : ℕ) → Contains lines line → Has tokens t → (q : Part) × Contains more q
      × (q.line ≡ line)

-- the part begins a line of the symbol, with a set of the pool, which has the tokens behind the
-- symbol
pub record BeginsAt (lines : List (Vec ℕ)) (asked pool : List BitSet) (y : ℕ)
    (q : Part) : Type 0 where
  pub line : RowHas lines y q.line
  pub dot : q.dot ≡ 0
  pub inside : q.tokens < length pool
  pub some : (t : ℕ) × HasAt asked y t
  pub same : (t : ℕ) → HasAt pool q.tokens t ↔ HasAt asked y t

-- the list goes on with a part for each line of each symbol below this one that has a token
pub record AreBegun (lines : List (Vec ℕ)) (asked pool : List BitSet) (below : ℕ)
    (old new : List Part) : Type 0 where
  pub more : List Part
  pub is : new ≡ old ++ more
  pub only : (q : Part) → Contains more q → (y : ℕ) × BeginsAt lines asked pool y q
  pub added : (y line t : ℕ) → y < below → RowHas lines y line → HasAt asked y t → (q : Part)
      × Contains more q × (q.line ≡ line)

-- sets were added at the end
pub record AddsSets {X : Type 0} (old new : List X) : Type 0 where
  pub more : List X
  pub is : new ≡ old ++ more

-- each set of the pool is of this width, and no two are the same
pub record IsPool (width : ℕ) (pool : List BitSet) : Type 0 where
  pub wide : (n : ℕ) (s : BitSet) → slice_get pool n ≡ Some s → IsWide width s
  pub one : (m n : ℕ) (s r : BitSet) → slice_get pool m ≡ Some s → slice_get pool n ≡ Some r
      → s.words.items ≡ r.words.items → m ≡ n

-- parts with one line and dot have one set of tokens, so that they are the same part
abbrev pub HaveOneSetEach : List Part → Type 0
HaveOneSetEach parts = (p q : Part) → Contains parts p → Contains parts q → p.line ≡ q.line
    → p.dot ≡ q.dot → p ≡ q

-- parts with which a set begins: their dots are past a step, or they begin the start item
pub record IsKernel (kernel : List Part) : Type 0 where
  pub dot : (q : Part) → Contains kernel q → (0 < q.dot) ⊎ (q.line ≡ 0)
  pub apart : HaveOneSetEach kernel

-- the parts stand for the closed set of those of the kernel
pub record Closes (g : FlatGrammar) (lines : ℕ) (pool : List BitSet)
    (kernel parts : List Part) : Type 0 where
  pub parts_are : AreLineParts lines pool parts
  pub items : SameItems (In pool parts) (Closed g (In pool kernel))
  pub apart : IsKernel kernel → HaveOneSetEach parts
