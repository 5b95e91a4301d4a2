-- The first key of a place, after some turn, at which a reduction is asked for.
use Rattle.std.specs.Prelude.{◌≡◌, ◌↔◌, ℕ, ◌<◌, ◌≤◌, ◌⊎◌, Bool, true, List, [], ◌++◌, Option, Some, None}
use Rattle.std.specs.List.{Contains}
use Rattle.ts_base.specs.Bytes.{Bytes}
use Rattle.ts_core.specs.declared.action.Action.{Action}
use Rattle.ts_core.specs.declared.action.Action.TheVariants.{Reduce}
use Rattle.spec_graph.specs.declared.graph.Link.{Link}
use Rattle.ts_graph.specs.declared.view.GraphView.{GraphView}
use Rattle.ts_table.specs.declared.view.ParseTable.{ParseTable}
use Rattle.ts_reductions.specs.declared.batch.Batch.{Batch}
use Rattle.ts_reductions.specs.declared.setting.Setting.{Setting}
use Rattle.ts_reductions.specs.declared.top.Top.{Top}
use Rattle.ts_reductions.specs.Sound.{Base}
use Rattle.ts_reductions.specs.Asking.{HasReduction, IsAsked, IsReadyAt, IsReady, ByNumber, ByTops}
use Rattle.ts_places.specs.declared.seeking.Seek.{Seek}
use Rattle.ts_places.specs.declared.seeking.First.{First}
use Rattle.ts_places.specs.declared.seeking.First.TheVariants.{Unknown, Nothing, Is}
use Rattle.ts_places.specs.declared.seeking.Due.{Due}
use Rattle.ts_places.specs.declared.seeking.Sought.{Sought}
use Rattle.ts_places.specs.Turns.{turn_of, past, IsSooner}

-- the batch of a key
abbrev pub batch_at : ℕ → ℕ → ℕ → Batch
batch_at look begins rank = record { look = look; begins = begins; rank = rank }

-- keys of a place after those from a turn on
abbrev pub seek_at : ℕ → ℕ → Seek
seek_at look below = record { look = look; below = below }

-- all that is known before keys are sought at a head; at all heads
abbrev pub CanSeekAt : ParseTable → Bytes → Setting → GraphView → Seek → Top → Type 0
CanSeekAt t text s g seek top = IsReadyAt t text s g (batch_at seek.look 0 0) top

abbrev pub CanSeek : ParseTable → Bytes → Base → Setting → GraphView → Seek → List Top → Type 0
CanSeek t text base s g seek tops = IsReady t text base s g (batch_at seek.look 0 0) tops

-- A reduction with this key is asked for, one of those that are meant. The key is one of the place,
-- after all from the turn on.
pub record IsSought (t : ParseTable) (g : GraphView) (seek : Seek)
    (meant : Top → ℕ → List Link → ℕ → Type 0) (k : Batch) : Type 0 where
  pub top : Top
  pub number : ℕ
  pub way : List Link
  pub b : ℕ
  pub means : meant top number way b
  pub asked : IsAsked t g k top number way b
  pub look_is : k.look ≡ seek.look
  pub after : turn_of k.begins k.rank < seek.below

-- the first of the keys that are sought and of the one that was found before
pub record Seeks (t : ParseTable) (g : GraphView) (seek : Seek)
    (meant : Top → ℕ → List Link → ℕ → Type 0) (old new : Option Batch) : Type 0 where
  pub more : past old ≤ past new
  pub all : (k : Batch) → IsSought t g seek meant k → turn_of k.begins k.rank < past new
  pub each : (k : Batch) → new ≡ Some k → (old ≡ Some k) ⊎ IsSought t g seek meant k

-- the first key at which one of the heads asks for a reduction, and none where there is none
abbrev pub IsNext : ParseTable → GraphView → Seek → List Top → Option Batch → Type 0
IsNext t g seek tops None = (k : Batch) → IsSought t g seek (ByTops tops) k → ⊥
IsNext t g seek tops (Some j) =
    IsSought t g seek (ByTops tops) j
    × ((k : Batch) → IsSought t g seek (ByTops tops) k
    → turn_of k.begins k.rank ≤ turn_of j.begins j.rank)

-- ---- reductions that are listed, with what is known of their keys

-- what is known of the first key of a reduction by a production that stays at a head
abbrev pub IsFirst : ParseTable → GraphView → Seek → Top → ℕ → First → Type 0
IsFirst t g seek top number Unknown = Unit {0}
IsFirst t g seek top number Nothing =
    (k : Batch) → IsSought t g seek (ByNumber top number) k → ⊥
IsFirst t g seek top number (Is j) =
    IsSought t g seek (ByNumber top number) j
    × ((k : Batch) → IsSought t g seek (ByNumber top number) k
    → turn_of k.begins k.rank ≤ turn_of j.begins j.rank)

-- something is known of it
abbrev pub IsKnown : First → Type 0
IsKnown Unknown = ⊥
IsKnown Nothing = Unit {0}
IsKnown (Is j) = Unit {0}

-- the reduction stays, and this is known of its first key
abbrev pub IsDue : ParseTable → GraphView → Seek → Due → Type 0
IsDue t g seek d = HasReduction t g d.top d.number × IsFirst t g seek d.top d.number d.first

-- those by one action, at one head, at all of these heads
abbrev pub OfAction : Top → Action → Top → ℕ → Type 0
OfAction top action = λ u n. (u ≡ top) × (action ≡ Reduce n)

abbrev pub OfTop : Top → Top → ℕ → Type 0
OfTop top = λ u n. u ≡ top

abbrev pub OfTops : List Top → Top → ℕ → Type 0
OfTops tops = λ u n. Contains tops u

-- those of these whose first key is known
abbrev pub OfKnown : List Due → Top → ℕ → List Link → ℕ → Type 0
OfKnown dues = λ u n w b. (d : Due) × Contains dues d × (d.top ≡ u) × (d.number ≡ n)
    × IsKnown d.first

-- All reductions that stay, of those that are meant, were put to others.
pub record AddsDue (t : ParseTable) (g : GraphView) (seek : Seek)
    (meant : Top → ℕ → Type 0) (old new : List Due) : Type 0 where
  pub more : List Due
  pub is : new ≡ old ++ more
  pub each : (d : Due) → Contains more d → meant d.top d.number × IsDue t g seek d
  pub all : (top : Top) (number : ℕ) → meant top number → HasReduction t g top number
      → (d : Due) × Contains more d × (d.top ≡ top) × (d.number ≡ number)

-- these are all reductions that stay at the heads
abbrev pub AreDue : ParseTable → GraphView → Seek → List Top → List Due → Type 0
AreDue t g seek tops dues = AddsDue t g seek (OfTops tops) [] dues

-- These were all reductions in an earlier graph, before some more keys were done. The ways down from
-- the heads are those of that graph, if they stay.
pub record WereDue (t : ParseTable) (old new : GraphView) (before seek : Seek) (tops : List Top)
    (stay : Bool) (dues : List Due) : Type 0 where
  pub look_is : before.look ≡ seek.look
  pub later : seek.below ≤ before.below
  pub due : AreDue t old before tops dues
  pub keeps : (top : Top) (number : ℕ) → Contains tops top
      → HasReduction t new top number ↔ HasReduction t old top number
  pub stays : stay ≡ true → (top : Top) (number : ℕ) (k : Batch) → Contains tops top
      → IsSought t new seek (ByNumber top number) k
      ↔ IsSought t old seek (ByNumber top number) k

-- the earlier of a key that was found and the first one of a reduction, if that is known
abbrev pub IsEarlierOf : ℕ → Option Batch → First → Option Batch → Type 0
IsEarlierOf below found Unknown new = new ≡ found
IsEarlierOf below found Nothing new = new ≡ found
IsEarlierOf below found (Is key) new = IsSooner below found key new

-- a reduction with what is known of its first key, and a key that was found
abbrev pub sought_with : Due → First → Option Batch → Sought
sought_with d first found = record {
  due = record { top = d.top; number = d.number; first = first };
  found = found;
}

-- The first key of a reduction was sought, and the first of its keys and of the one found before.
pub record SeeksDue (t : ParseTable) (g : GraphView) (seek : Seek) (d : Due)
    (before : Option Batch) (s : Sought) : Type 0 where
  pub top_is : s.due.top ≡ d.top
  pub number_is : s.due.number ≡ d.number
  pub first : IsFirst t g seek d.top d.number s.due.first
  pub seeks : Seeks t g seek (ByNumber d.top d.number) before s.found
