-- What one item adds to the ways of the items after it.
use Rattle.std.specs.Prelude.{◌≡◌, ℕ, ◌+◌, ◌-◌, ◌<◌, ◌≤◌, ◌⊎◌, ◌↔◌, List, [], ◌∷◌, ◌++◌, length, Option, Some, None, Bool, true, false}
use Rattle.std.specs.List.{Contains}
use Rattle.spec_matches.specs.declared.placing.Slot.{Slot}
use Rattle.ts_search.specs.declared.stand.Stand.{Stand}
use Rattle.ts_search.specs.declared.stand.Siblings.{Siblings}
use Rattle.ts_search.specs.declared.stand.Wanted.{Wanted}
use Rattle.ts_search.specs.declared.stand.Wanted.TheVariants.{All, Here, Captures}
use Rattle.spec_matches.specs.declared.found.Capture.{Capture}
use Rattle.spec_matches.specs.declared.placing.Run.{Run}
use Rattle.spec_matches.specs.declared.placing.Placing.{Placing}
use Rattle.ts_search.specs.Adding.{OfSome}
use Rattle.spec_matches.specs.Embedding.{offset, Rounds, Unnamed, IsItemRun, Placed, IsQuantified, Wider, Full, GivesCaptures, first_sibling_taken, near_of}
use Rattle.ts_search.specs.Table.{Takes}

-- the items after may follow a run that ends at x, where the first sibling that they take is known
abbrev pub Allows : List Bool → Bool → List Slot → ℕ → Option ℕ → Bool → Type 0
Allows named closed [] x first near = closed ≡ true → Unnamed named x (length named)
Allows named closed (i ∷ is) x None near = Unit {0}
Allows named closed (i ∷ is) x (Some h) near =
    (x ≤ h) × (near ≡ true → i.tied ≡ true → Unnamed named x h)

-- the item could take this run in place of what it took
pub record WidensBy (s : Siblings) (is : List Slot) (at : Stand) (taken : Option Run)
    (tail : Placing) (run : Run) : Type 0 where
  pub wider : Wider taken run
  pub placed : Placed (Takes s.table) s.named at.slot at.number at.lo at.beside run
  pub allowed : Allows s.named s.closed is run.past tail.first tail.near

-- a number in a range
abbrev pub SomeIn : (ℕ → Type 0) → ℕ → ℕ → Type 0
SomeIn P from to = (p : ℕ) × (from ≤ p) × (p < to) × P p

-- .. a run that begins at a place
abbrev pub SomeFrom : Siblings → List Slot → Stand → Option Run → Placing → ℕ → Type 0
SomeFrom s is at taken tail first =
    SomeIn (λ p. WidensBy s is at taken tail (record { first = first; past = p + 1 })) first
    (length s.named)

-- the item could take more than it took
pub record Widens (s : Siblings) (is : List Slot) (at : Stand) (taken : Option Run) (tail : Placing)
    : Type 0 where
  pub quantified : IsQuantified at.slot
  pub run : Run
  pub by : WidensBy s is at taken tail run

-- the item takes nothing before a tail
pub record NoneBefore (s : Siblings) (is : List Slot) (at : Stand) (tail f : Placing) : Type 0 where
  pub fixed : Widens s is at None tail → ⊥
  pub is_it : f ≡ record { first = tail.first; near = false; captures = tail.captures }

-- the item takes a sibling as the first of a round
abbrev pub TakesAt : Siblings → Stand → ℕ → Type 0
TakesAt s at p = (c : List Capture) × Takes s.table at.number 0 p c

-- no run of the item begins before a place
abbrev pub NoneTaken : Siblings → Stand → ℕ → Type 0
NoneTaken s at from = (p : ℕ) → at.lo ≤ p → p < from → TakesAt s at p → ⊥

-- an item takes any number of siblings, one by one
abbrev pub IsPlainMany : Slot → Type 0
IsPlainMany i = (i.many ≡ true) × (i.more ≡ 0)

-- .. and takes the sibling before a place as well
pub record BeginsLate (s : Siblings) (at : Stand) (first : ℕ) : Type 0 where
  pub many : IsPlainMany at.slot
  pub later : at.lo < first
  pub taken : TakesAt s at (first - 1)

-- .. and takes the sibling at a place as well
pub record GoesPast (s : Siblings) (at : Stand) (past : ℕ) : Type 0 where
  pub many : IsPlainMany at.slot
  pub inside : past < length s.named
  pub taken : TakesAt s at past

-- .. which the items after allow
pub record GrowsOn (s : Siblings) (is : List Slot) (at : Stand) (past : ℕ) (tail : Placing)
    : Type 0 where
  pub on : GoesPast s at past
  pub allowed : Allows s.named s.closed is (past + 1) tail.first tail.near

-- a group that is taken any number of times could take more than a run
pub record GroupWidens (s : Siblings) (is : List Slot) (at : Stand) (run : Run) (tail : Placing)
    : Type 0 where
  pub many : at.slot.many ≡ true
  pub group : at.slot.more ≡ 0 → ⊥
  pub widens : Widens s is at (Some run) tail

-- the item could take more than a run, told by the siblings beside that run
abbrev pub CanWiden : Siblings → List Slot → Stand → Run → Placing → Type 0
CanWiden s is at run tail =
    BeginsLate s at run.first ⊎ (GrowsOn s is at run.past tail ⊎ GroupWidens s is at run tail)

-- before one of some tails it could take no more
abbrev pub AnyStays : Siblings → List Slot → Stand → Run → List Placing → Type 0
AnyStays s is at run tails = (t : Placing) × Contains tails t × (CanWiden s is at run t → ⊥)

-- these tails tell enough behind a run that ends at a place
abbrev pub Suits : Siblings → Stand → ℕ → Wanted → Type 0
Suits s at past All = Unit {0}
Suits s at past Here = GoesPast s at past
Suits s at past Captures = at.slot.many ≡ false

-- one list before another
abbrev pub JoinedTo : List Capture → List Capture → List Capture → Type 0
JoinedTo back front c = c ≡ front ++ back

-- the captures of a run, one of some lists, and then those of a tail
pub record RunBefore (s : Siblings) (is : List Slot) (at : Stand) (run : Run)
    (fronts : List (List Capture)) (tail : Placing) (c : List Capture) : Type 0 where
  pub stays : CanWiden s is at run tail → ⊥
  pub some : OfSome (JoinedTo tail.captures) fronts c

-- a way with these captures
abbrev pub Shown : Option ℕ → Bool → List Capture → Placing → Type 0
Shown first near c f = f ≡ record { first = first; near = near; captures = c }

-- a way in which the first item takes this
pub record HeadWay (s : Siblings) (is : List Slot) (at : Stand) (head : Option Run) (f : Placing)
    : Type 0 where
  pub rest : List (Option Run)
  pub full : Full (Takes s.table) s.named s.closed (at.slot ∷ is) at.number at.lo at.beside
      (head ∷ rest)
  pub gives : GivesCaptures (Takes s.table) (at.slot ∷ is) at.number (head ∷ rest) f.captures
  pub first : f.first ≡ first_sibling_taken (head ∷ rest)
  pub near : f.near ≡ near_of (head ∷ rest)

-- a way in which the first item takes a run that begins at a place
abbrev pub HeadFrom : Siblings → List Slot → Stand → ℕ → Placing → Type 0
HeadFrom s is at first f =
    (past : ℕ) × HeadWay s is at (Some (record { first = first; past = past })) f

-- .. takes nothing, and where it is asked the ways begin right here
abbrev pub HeadNone : Siblings → List Slot → Stand → Bool → Placing → Type 0
HeadNone s is at here f = HeadWay s is at None f × (here ≡ true → f.first ≡ Some at.lo)

-- the captures of a way in which the first item takes a run
abbrev pub HeadTaken : Siblings → List Slot → Stand → Run → List Capture → Type 0
HeadTaken s is at run c =
    HeadWay s is at (Some run) (record { first = Some run.first; near = true; captures = c })

-- .. a run that begins at a place
abbrev pub TakenFrom : Siblings → List Slot → Stand → ℕ → List Capture → Type 0
TakenFrom s is at first c = (past : ℕ) × HeadTaken s is at (record { first = first; past = past }) c

-- the run of an item can go on at a place
abbrev pub GoesOn : Siblings → Stand → ℕ → ℕ → Type 0
GoesOn s at first end =
    (end < length s.named) × ((at.slot.many ≡ true) ⊎ (end < first + (at.slot.more + 1)))
    × (c : List Capture) × Takes s.table at.number (offset at.slot first end) end c

-- the runs of an item that begin at a place are those up to an end
abbrev pub Reaches : Siblings → Stand → ℕ → ℕ → Type 0
Reaches s at first end = (past : ℕ)
    → IsItemRun (Takes s.table) (length s.named) at.slot at.number
    (record { first = first; past = past })
    ↔ ((first < past) × (past ≤ end) × Rounds at.slot (past - first))

-- an item takes each sibling of a run up to a place in one way, with no captures
abbrev pub AreBare : List (List (List (List (List Capture)))) → ℕ → Slot → ℕ → ℕ → Type 0
AreBare table k i first past = (p : ℕ) → first ≤ p → p < past → (c : List Capture)
    → Takes table k (offset i first p) p c ↔ (c ≡ [])

-- one list after another
abbrev pub Joined : List Capture → List Capture → List Capture → Type 0
Joined front back c = c ≡ front ++ back

-- a list, and then one of some
abbrev pub Before : List (List Capture) → List Capture → List Capture → Type 0
Before backs front = OfSome (Joined front) backs

-- one of some lists, and then one of others
abbrev pub Joins : List (List Capture) → List (List Capture) → List Capture → Type 0
Joins fronts backs = OfSome (Before backs) fronts

-- captures of a sibling that an item takes, and then one of some lists
abbrev pub TakenBefore : List (List (List (List (List Capture)))) → ℕ → ℕ → ℕ
    → List (List Capture) → List Capture → Type 0
TakenBefore table k o p backs c = (u : List Capture) × Takes table k o p u × Before backs u c
