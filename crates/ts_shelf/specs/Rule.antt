-- The rule of a shelf, which holds between any two steps. It serves private clauses and proofs
-- alone.
use Rattle.std.specs.Prelude.{◌≡◌, ◌≢◌, ℕ, ◌+◌, ◌*◌, ◌<◌, ◌≤◌, ◌⊎◌, true, false, List, [], ◌∷◌, ◌++◌, Some, All}
use mathlib.Core.Option.{none, some}
use lib.ListN.{get_elem?}
use Rattle.atomic_table.specs.Table.{State}
use Rattle.ts_shelf.specs.declared.journal.Entry.{Entry}
use Rattle.ts_shelf.specs.declared.view.Knowledge.{Knowledge}
use Rattle.ts_shelf.specs.declared.view.View.{View}
use Rattle.ts_shelf.specs.Entries.{most_turns, occurrences, once_below, RisesWithin, Extends}
use Rattle.ts_shelf.specs.Views.{sum_over, IsLive}

-- what a pass knows agrees with a history of t turns
pub record FitsHistory {S I : Type 0} (t : ℕ) (history : List (Entry I))
    (k : Knowledge S I) : Type 0 where
  -- the entries that it has not seen
  pub rest : List (Entry I)
  -- it has seen a prefix of the history
  pub is : history ≡ k.seen ++ rest
  -- which has the entries with turns below its own
  pub early : RisesWithin 0 k.turn k.seen
  -- and the others have later turns
  pub late : RisesWithin k.turn t rest
  -- so many turns are over as it knows, and its turn is not above them
  pub reached : k.reached ≤ t
  pub known : k.turn ≤ k.reached
  -- it took only turns below its own
  pub taken : All (λ x. x < k.turn) k.taken

-- what is noted of a view
pub record Noted {S I : Type 0} (v : View S I) : Type 0 where
  -- only the first pass has others out
  pub rank : v.knows.first ≡ 0 → v.knows.out ≡ 0
  -- it counts once at most among the others
  pub single : v.notes.other ≤ 1
  -- a pass that was taken in has no turns and holds none
  pub spent : v.knows.first ≡ 0 → v.notes.other ≡ 0 → (v.knows.taken ≡ []) × (v.notes.holds ≡ false)
  -- at its last join it had seen a prefix of what it has now seen, and so had the other
  pub own : Extends v.notes.own_turn v.knows.turn v.knows.seen v.notes.own_seen
  pub others : Extends v.notes.other_turn v.knows.turn v.knows.seen v.notes.other_seen
  -- which left one pass fewer out
  pub fewer : v.notes.out_before ≡ v.notes.out_after + 1

module _ {J S I : Type 0} (entries : J → List (Entry I)) (room : J → ℕ) (opening : J → S)
    (fits : S → I → Type 0) where
  -- the word is even: the journal is at home, and no view holds a turn
  pub record IsHome (base : S) (t : ℕ) (history : List (Entry I))
      (s : State J (View S I)) : Type 0 where
    -- the word says that t turns are over
    pub words : s.words ≡ (2 * t) ∷ []
    -- the slot has the journal
    pub journal : J
    pub homes : s.homes ≡ some journal ∷ []
    -- whose entries are the history
    pub entries_are : entries journal ≡ history
    -- with the shelf's opening
    pub opens : opening journal ≡ base
    -- and room for all offers that are left
    pub offers : sum_over (λ v. v.knows.offers) s.views ≤ room journal
    -- nobody has a turn
    pub free : (k : ℕ) (v : View S I) → get_elem? s.views k ≡ some v → v.notes.holds ≡ false

  -- the word is odd: one view holds the turn t, and the journal is with it
  pub record IsOut (t : ℕ) (history : List (Entry I)) (s : State J (View S I)) : Type 0 where
    -- the word says that turn t is held
    pub words : s.words ≡ (2 * t + 1) ∷ []
    -- the slot is with the holder
    pub homes : s.homes ≡ none ∷ []
    -- the view that holds the turn
    pub holder : ℕ
    pub view : View S I
    pub there : get_elem? s.views holder ≡ some view
    -- it knows that the journal came with the history
    pub holds : (view.notes.holds ≡ true) × (view.notes.held_turn ≡ t)
        × (view.notes.held_entries ≡ history)
    -- and with room for all offers that are left
    pub offers : sum_over (λ v. v.knows.offers) s.views ≤ view.notes.held_room
    -- nobody else has a turn
    pub others : (k : ℕ) (v : View S I) → get_elem? s.views k ≡ some v → k ≢ holder
        → v.notes.holds ≡ false

  -- one history, in which each view has its place
  pub record IsShelf (s : State J (View S I)) : Type 0 where
    -- the shelf's opening
    pub base : S
    -- how many turns are over
    pub turn : ℕ
    -- the entries of those turns
    pub history : List (Entry I)
    -- each entry's item fits the opening
    pub all_fit : All (λ e. fits base e.item) history
    -- each pass that was not taken in knows the opening
    pub each_opens : (k : ℕ) (v : View S I) → get_elem? s.views k ≡ some v → IsLive v
        → v.knows.opening ≡ Some base
    -- there are no more turns than a shelf has
    pub few : turn ≤ most_turns
    -- the entries' turns rise, and are over
    pub rises : RisesWithin 0 turn history
    -- each view has seen the entries with turns below its own
    pub each : (k : ℕ) (v : View S I) → get_elem? s.views k ≡ some v
        → FitsHistory turn history v.knows
    pub noted : (k : ℕ) (v : View S I) → get_elem? s.views k ≡ some v → Noted v
    -- each turn that is over stands in the list of one view, once, and no other turn stands there
    pub once : (x : ℕ) → sum_over (λ v. occurrences x v.knows.taken) s.views ≡ once_below x turn
    -- one view is that of the first pass
    pub one_first : sum_over (λ v. v.knows.first) s.views ≡ 1
    -- the others are as many as the first pass has out
    pub others_out : sum_over (λ v. v.notes.other) s.views ≡ sum_over (λ v. v.knows.out) s.views
    -- the journal is at home, or out with one view
    pub place : IsHome base turn history s ⊎ IsOut turn history s
