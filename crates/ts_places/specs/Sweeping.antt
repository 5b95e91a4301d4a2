-- All reductions of one place.
use Rattle.std.specs.Prelude.{◌≡◌, ℕ, ◌^◌, ◌<◌, ◌≤◌, ◌⊎◌, List, length, slice_get, Some}
use Rattle.std.specs.List.{Contains}
use Rattle.ts_base.specs.Bytes.{Bytes}
use Rattle.spec_graph.specs.declared.graph.Head.{Head}
use Rattle.spec_graph.specs.Keys.{Key}
use Rattle.spec_graph.specs.Links.{IsWholeTo}
use Rattle.spec_graph.specs.Outcomes.{GraphIsDeep}
use Rattle.ts_graph.specs.declared.view.GraphView.{GraphView}
use Rattle.ts_table.specs.declared.view.ParseTable.{ParseTable}
use Rattle.ts_table.specs.Ranks.{unit_rank}
use Rattle.ts_reductions.specs.SoundLinks.{bare_links}
use Rattle.ts_reductions.specs.Laying.{Grows, IsNewHead}
use Rattle.ts_reductions.specs.declared.reducing.Reduced.{Reduced}
use Rattle.ts_reductions.specs.declared.reducing.Reduced.TheVariants.{Done, TooDeep}
use Rattle.ts_reductions.specs.declared.setting.Setting.{Setting}
use Rattle.ts_reductions.specs.declared.top.Top.{Top}
use Rattle.ts_reductions.specs.Asking.{TakesSome}
use Rattle.ts_reductions.specs.Keeping.{KeepsTrees}
use Rattle.ts_reductions.specs.Lines.{IsSetting}
use Rattle.ts_reductions.specs.Reducing.{AreReduced}
use Rattle.ts_reductions.specs.Sound.{Base, parsing_from, IsSoundBy}
use Rattle.ts_places.specs.declared.sights.Sights.{Sights}
use Rattle.ts_places.specs.Shifting.{AreAllSights}
use Rattle.ts_places.specs.declared.sweeping.Swept.{Swept}
use Rattle.ts_places.specs.declared.sweeping.Swept.TheVariants.{Over, Through, Deep}
use Rattle.ts_places.specs.declared.seeking.Due.{Due}
use Rattle.ts_places.specs.Seeking.{seek_at, AreDue}
use Rattle.ts_places.specs.Turns.{turn_of}

-- ---- before

-- A sound graph, the setting of its table, and all that is seen at the heads of the place. No
-- reduction over nothing stays on a token that is seen.
pub record CanSweep (t : ParseTable) (text : Bytes) (base : Base) (s : Setting) (g : GraphView)
    (look : ℕ) (sights : Sights) : Type 0 where
  pub setting : IsSetting t (length text) s
  pub seen : AreAllSights t text base g look sights
  pub takes_some : (top : Top) → Contains sights.tops.items top → TakesSome t g top

-- the graph is whole up to the key, of all that runs lay which go on from the stack
abbrev pub IsWholeBy : ParseTable → Bytes → Base → GraphView → Key → Type 0
IsWholeBy t text base g k =
    IsWholeTo (parsing_from t text base) (unit_rank t.grammar) g.heads (bare_links g.links) k

-- ---- after

-- the last of all keys of a place
abbrev pub last_key : ℕ → Key
last_key look = record { look = look; begins = 0; rank = 0 }

-- the reductions of the key were done last, in a graph that was whole up to it
pub record IsDoneTo (t : ParseTable) (text : Bytes) (base : Base) (g : GraphView) (k : Key)
    : Type 0 where
  pub before : GraphView
  pub sound : IsSoundBy t text base before
  pub whole : IsWholeBy t text base before k
  pub reduced : AreReduced t text base before g k

-- The graph has grown, by trees such as a parser makes. Each new head stands at the place, or an
-- extra is passed there.
pub record HasMore (t : ParseTable) (text : Bytes) (base : Base) (old new : GraphView)
    (look : ℕ) : Type 0 where
  pub grows : Grows old new
  pub keeps : KeepsTrees t.grammar text base old new
  pub only : (h : ℕ) (head : Head) → slice_get new.heads h ≡ Some head
      → (slice_get old.heads h ≡ Some head)
      ⊎ IsNewHead (parsing_from t text base) new look h head

-- All reductions of the place were done, up to those of its last key, and these are all sights
-- there.
pub record AreSwept (t : ParseTable) (text : Bytes) (base : Base) (old new : GraphView)
    (look : ℕ) (sights : Sights) : Type 0 where
  pub seen : AreAllSights t text base new look sights
  pub more : HasMore t text base old new look
  pub done : IsDoneTo t text base new (last_key look)

-- The graph is sound, and some reduction in it would make a node that is too deep.
pub record IsTooDeep (t : ParseTable) (text : Bytes) (base : Base) (g : GraphView)
    : Type 0 where
  pub sound : IsSoundBy t text base g
  pub deep : GraphIsDeep (parsing_from t text base) (unit_rank t.grammar) g.heads
      (bare_links g.links)

-- what is said of the place, by the answer
abbrev pub Sweeps : ParseTable → Bytes → Base → GraphView → GraphView → ℕ → Sights → Reduced
    → Type 0
Sweeps t text base old new look sights Done = AreSwept t text base old new look sights
Sweeps t text base old new look sights TooDeep = IsTooDeep t text base new

-- ---- between two keys

-- a key of a node in a text: it begins at a place that a text may have, and ranks are small
abbrev pub IsSmall : ℕ → ℕ → Type 0
IsSmall begins rank = (begins < 2 ^ 32) × (rank ≤ 2 ^ 16)

-- the key of a place
abbrev pub key_at : ℕ → ℕ → ℕ → Key
key_at look begins rank = record { look = look; begins = begins; rank = rank }

-- the second of two keys of a place comes after the first
abbrev pub After : ℕ → ℕ → ℕ → ℕ → Type 0
After b r x i = (x < b) ⊎ ((x ≡ b) × (i < r))

-- The reductions up to some key of the place were done. The keys that come after it are those with
-- turns below this one.
pub record IsSweptTo (t : ParseTable) (text : Bytes) (base : Base) (most : ℕ)
    (start g : GraphView) (look below : ℕ) : Type 0 where
  pub more : HasMore t text base start g look
  pub begins : ℕ
  pub rank : ℕ
  pub done : IsDoneTo t text base g (key_at look begins rank)
  pub covers : (x i : ℕ) → IsSmall x i → After begins rank x i → turn_of x i < below
  pub back : (x i : ℕ) → IsSmall x i → x ≤ look → i < most → turn_of x i < below
      → After begins rank x i

-- what is said of the next key, by the answer
abbrev pub SweepsOne : ParseTable → Bytes → Base → Setting → ℕ → GraphView → GraphView → ℕ → ℕ
    → Sights → Swept → Type 0
SweepsOne t text base s most start new look below sights Over =
    AreSwept t text base start new look sights
SweepsOne t text base s most start new look below sights (Through next) =
    IsSweptTo t text base most start new look next
SweepsOne t text base s most start new look below sights Deep = IsTooDeep t text base new

-- what the next call may rest on, whatever was known of the graph before
abbrev pub GoesOn : ParseTable → Bytes → Base → Setting → GraphView → ℕ → ℕ → Sights → Swept
    → Type 0
GoesOn t text base s new look below sights Over = Unit {0}
GoesOn t text base s new look below sights (Through next) =
    CanSweep t text base s new look sights × (next < below)
GoesOn t text base s new look below sights Deep = Unit {0}

-- these are the reductions that stay, with the keys that are left
abbrev pub StayDue : ParseTable → GraphView → ℕ → List Top → List Due → Swept → Type 0
StayDue t new look tops dues Over = Unit {0}
StayDue t new look tops dues (Through next) = AreDue t new (seek_at look next) tops dues
StayDue t new look tops dues Deep = Unit {0}
