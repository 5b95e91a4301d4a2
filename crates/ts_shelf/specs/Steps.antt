-- What each step on the word tells. These serve private clauses and proofs alone.
use Rattle.std.specs.Prelude.{◌≡◌, ℕ, ◌+◌, ◌*◌, ◌/◌, ◌<◌, ◌≤◌, true, ◌==◌, List, [], ◌∷◌, ◌++◌, Some, All, MatchBool}
use Rattle.atomic_table.specs.Table.{Step}
use Rattle.ts_shelf.specs.declared.journal.Entry.{Entry}
use Rattle.ts_shelf.specs.declared.view.View.{View}
use Rattle.ts_shelf.specs.Entries.{most_turns, occurrences, RisesWithin, Extends}
use Rattle.ts_shelf.specs.Views.{Seated, told_view, holding, after_turn, after_give_up, asking}
use Rattle.ts_shelf.specs.Passes.{IsPass}
use Rattle.ts_shelf.specs.Rule.{FitsHistory}

-- what the first pass has learned after a join
pub record HasJoined {S I : Type 0} (fits : S → I → Type 0) (v : View S I) : Type 0 where
  -- both passes had seen a prefix of what it has now seen
  pub own : Extends v.notes.own_turn v.knows.turn v.knows.seen v.notes.own_seen
  pub others : Extends v.notes.other_turn v.knows.turn v.knows.seen v.notes.other_seen
  -- one pass fewer is out
  pub fewer : v.notes.out_before ≡ v.notes.out_after + 1
  -- no turn stands twice in its list
  pub apart : (x : ℕ) → occurrences x v.knows.taken ≤ 1
  -- what holds of each pass
  pub pass : IsPass fits v.knows

module _ {J S I : Type 0} where
  -- a load: so many turns are over, which are no fewer than were known before
  abbrev pub Loads : Step J → Seated J S I → ℕ → Seated J S I → Type 0
  Loads s m n w = (w ≡ (told_view m.0 (n / 2), [])) × (n ≤ 2 * most_turns + 1)
      × (m.0.knows.reached ≤ n / 2)

  -- after the journal that is given back, with so many offers used
  abbrev pub GivesBack : (J → List (Entry I)) → ℕ → Step J → Seated J S I → ℕ → Seated J S I
      → Type 0
  GivesBack entries used s m n w = (j : J) → m.1 ≡ (0, j) ∷ []
      → w ≡ (after_turn m.0 (entries j) used, [])

  -- the turn is given up
  abbrev pub GivesUp : Step J → Seated J S I → ℕ → Seated J S I → Type 0
  GivesUp s m n w = w ≡ (after_give_up m.0, [])

  -- before a split: how many offers it is to give
  abbrev pub AsksBeforeSplit : Step J → Seated J S I → ℕ → Seated J S I → Type 0
  AsksBeforeSplit s m n w = w ≡ (asking m.0 s.first, [])

  -- a load after a join: nothing changes, and the pass knows what it has learned
  abbrev pub Learns : (S → I → Type 0) → Step J → Seated J S I → ℕ → Seated J S I → Type 0
  Learns fits s m n w = (w ≡ (m.0, [])) × HasJoined fits m.0

  module _ (entries : J → List (Entry I)) (room : J → ℕ) (opening : J → S)
      (fits : S → I → Type 0) where
    -- the pass has the turn t, and the journal with it
    pub record HasTurn (v : View S I) (t : ℕ) (w : Seated J S I) : Type 0 where
      pub journal : J
      pub carried : w.1 ≡ (0, journal) ∷ []
      pub view : w.0 ≡ holding v t (entries journal) (room journal)
      pub few : t < most_turns
      pub rises : RisesWithin 0 t (entries journal)
      pub opens : v.knows.opening ≡ Some (opening journal)
      pub all_fit : All (λ e. fits (opening journal) e.item) (entries journal)
      pub agrees : FitsHistory t (entries journal) v.knows
      pub offers : v.knows.offers ≤ room journal

    -- an exchange of the word 2t by 2t + 1: where it was found, turn t is held
    abbrev pub Tries : Step J → Seated J S I → ℕ → Seated J S I → Type 0
    Tries s m n w = MatchBool (n == s.first) ((t : ℕ) × (s.first ≡ 2 * t) × HasTurn m.0 t w) (w ≡ m)

    -- the pass holds the turn t, and carries the journal as it came
    pub record HasLooked (t : ℕ) (m : Seated J S I) : Type 0 where
      pub holds : (m.0.notes.holds ≡ true) × (m.0.notes.held_turn ≡ t) × (t < most_turns)
      pub journal : J
      pub carried : m.1 ≡ (0, journal) ∷ []
      pub same : entries journal ≡ m.0.notes.held_entries
      pub opens : m.0.knows.opening ≡ Some (opening journal)
      pub room_left : m.0.notes.held_room ≤ room journal

    -- the pass holds the turn t for an offer, and carries the journal with at most one entry more,
    -- of this turn
    pub record HasOffered (t : ℕ) (m : Seated J S I) : Type 0 where
      pub holds : (m.0.notes.holds ≡ true) × (m.0.notes.held_turn ≡ t) × (t < most_turns)
      pub journal : J
      pub carried : m.1 ≡ (0, journal) ∷ []
      pub more : List (Entry I)
      pub is : entries journal ≡ m.0.notes.held_entries ++ more
      pub opens : m.0.knows.opening ≡ Some (opening journal)
      pub new_fit : All (λ e. fits (opening journal) e.item) more
      pub late : RisesWithin t (t + 1) more
      pub offers : 0 < m.0.knows.offers
      pub room_left : m.0.notes.held_room ≤ room journal + 1
