-- Embeddings of a list of items in a list of siblings, by the siblings' places.
use Rattle.std.specs.Prelude.{◌≡◌, ℕ, ◌+◌, ◌-◌, ◌%◌, zero, ◌<◌, ◌≤◌, suc, ◌⊎◌, List, [], ◌∷◌, ◌++◌, length, Option, Some, None, slice_get, Bool, true, false}
use Rattle.spec_matches.specs.declared.placing.Slot.{Slot}
use Rattle.spec_matches.specs.declared.found.Capture.{Capture}
use Rattle.spec_matches.specs.declared.placing.Run.{Run}
use Rattle.spec_matches.specs.declared.placing.Placing.{Placing}

-- no named sibling stands from a place up to another
abbrev pub Unnamed : List Bool → ℕ → ℕ → Type 0
Unnamed named from to = (p : ℕ) → from ≤ p → p < to → slice_get named p ≡ Some true → ⊥

-- the place in the round of a run that begins at `first`
abbrev pub offset : Slot → ℕ → ℕ → ℕ
offset i first p = (p - first) % (i.more + 1)

-- so many siblings are whole rounds, and one round but where more may be taken
abbrev pub Rounds : Slot → ℕ → Type 0
Rounds i d = (d % (i.more + 1) ≡ 0) × ((i.many ≡ true) ⊎ (d ≡ i.more + 1))

-- each sibling of a run is taken by the item
abbrev pub Covers : (ℕ → ℕ → ℕ → List Capture → Type 0) → ℕ → Slot → Run → Type 0
Covers takes k i r = (p : ℕ) → r.first ≤ p → p < r.past
    → (c : List Capture) × takes k (offset i r.first p) p c

-- an item's run: it isn't empty, lies inside the list, is of one sibling but where more may be
-- taken, and is covered
pub record IsItemRun (takes : ℕ → ℕ → ℕ → List Capture → Type 0) (n : ℕ) (i : Slot) (k : ℕ)
    (r : Run) : Type 0 where
  pub some : r.first < r.past
  pub inside : r.past ≤ n
  pub rounds : Rounds i (r.past - r.first)
  pub covers : Covers takes k i r

-- a run of the item may stand after the place `lo`; `beside` says whether the item just before
-- ends there, or the list begins
pub record Placed (takes : ℕ → ℕ → ℕ → List Capture → Type 0) (named : List Bool) (i : Slot)
    (k lo : ℕ) (beside : Bool) (r : Run) : Type 0 where
  pub fits : IsItemRun takes (length named) i k r
  pub after : lo ≤ r.first
  pub anchored : i.tied ≡ true → beside ≡ true → Unnamed named lo r.first

-- the items from number k on, in siblings from `lo` on, have these runs
abbrev pub Embeds : (ℕ → ℕ → ℕ → List Capture → Type 0) → List Bool → Bool → List Slot → ℕ → ℕ
    → Bool → List (Option Run) → Type 0
Embeds takes named closed [] k lo beside [] = closed ≡ true → beside ≡ true
    → Unnamed named lo (length named)
Embeds takes named closed [] k lo beside (r ∷ rs) = ⊥
Embeds takes named closed (i ∷ is) k lo beside [] = ⊥
Embeds takes named closed (i ∷ is) k lo beside (None ∷ rs) = (i.optional ≡ true)
    × Embeds takes named closed is (k + 1) lo false rs
Embeds takes named closed (i ∷ is) k lo beside (Some r ∷ rs) = Placed takes named i k lo beside r
    × Embeds takes named closed is (k + 1) r.past true rs

-- the item may take nothing, or more than one round
abbrev pub IsQuantified : Slot → Type 0
IsQuantified i = (i.optional ≡ true) ⊎ (i.many ≡ true)

-- a run properly contains what an item took
abbrev pub Wider : Option Run → Run → Type 0
Wider None s = Unit {0}
Wider (Some r) s = (s.first ≤ r.first) × (r.past ≤ s.past)
    × ((s.first < r.first) ⊎ (r.past < s.past))

-- the same runs but for one quantified item, whose run is wider
abbrev pub Widened : List Slot → List (Option Run) → List (Option Run) → Type 0
Widened [] rs ws = ⊥
Widened (i ∷ is) [] ws = ⊥
Widened (i ∷ is) (r ∷ rs) [] = ⊥
Widened (i ∷ is) (r ∷ rs) (w ∷ ws) =
    (IsQuantified i × (s : Run) × (w ≡ Some s) × Wider r s × (ws ≡ rs))
    ⊎ ((w ≡ r) × Widened is rs ws)

-- an embedding that no other one widens
pub record Full (takes : ℕ → ℕ → ℕ → List Capture → Type 0) (named : List Bool) (closed : Bool)
    (is : List Slot) (k lo : ℕ) (beside : Bool) (runs : List (Option Run)) : Type 0 where
  pub embeds : Embeds takes named closed is k lo beside runs
  pub widest : (ws : List (Option Run)) → Widened is runs ws
      → Embeds takes named closed is k lo beside ws → ⊥

-- captures of a number of siblings from p on, one after another
abbrev pub Along : (ℕ → ℕ → ℕ → List Capture → Type 0) → ℕ → Slot → ℕ → ℕ → ℕ → List Capture
    → Type 0
Along takes k i first zero p c = c ≡ []
Along takes k i first (suc n) p c = (u : List Capture) × (v : List Capture) × (c ≡ u ++ v)
    × takes k (offset i first p) p u × Along takes k i first n (p + 1) v

-- captures of an embedding
abbrev pub GivesCaptures : (ℕ → ℕ → ℕ → List Capture → Type 0) → List Slot → ℕ → List (Option Run)
    → List Capture → Type 0
GivesCaptures takes [] k rs c = c ≡ []
GivesCaptures takes (i ∷ is) k [] c = c ≡ []
GivesCaptures takes (i ∷ is) k (None ∷ rs) c = GivesCaptures takes is (k + 1) rs c
GivesCaptures takes (i ∷ is) k (Some r ∷ rs) c =
    (u : List Capture) × (v : List Capture) × (c ≡ u ++ v)
    × Along takes k i r.first (r.past - r.first) r.first u × GivesCaptures takes is (k + 1) rs v

-- the place of the first sibling taken
abbrev pub first_sibling_taken : List (Option Run) → Option ℕ
first_sibling_taken [] = None
first_sibling_taken (None ∷ rs) = first_sibling_taken rs
first_sibling_taken (Some r ∷ rs) = Some r.first

-- whether the first item takes any
abbrev pub near_of : List (Option Run) → Bool
near_of [] = false
near_of (None ∷ rs) = false
near_of (Some r ∷ rs) = true

-- a way to embed the items from number k on
pub record IsWayFrom (takes : ℕ → ℕ → ℕ → List Capture → Type 0) (named : List Bool) (closed : Bool)
    (is : List Slot) (k lo : ℕ) (beside : Bool) (f : Placing) : Type 0 where
  pub runs : List (Option Run)
  pub full : Full takes named closed is k lo beside runs
  pub gives : GivesCaptures takes is k runs f.captures
  pub first : f.first ≡ first_sibling_taken runs
  pub near : f.near ≡ near_of runs
