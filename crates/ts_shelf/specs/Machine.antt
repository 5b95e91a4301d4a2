-- One turn on a journal, whoever runs it: threads on a shelf, or one thread with the journal in
-- hand.
use Rattle.std.specs.Prelude.{◌≡◌, ℕ, ◌+◌, ◌<◌, List, [], ◌∷◌, ◌++◌, length}
use Rattle.ts_shelf.specs.declared.journal.Entry.{Entry}
use Rattle.ts_shelf.specs.Entries.{RisesWithin}

-- what is asked for at a turn: a look, or that an item is added if there are just so many entries
pub data Event (I : Type 0) : Type 0 where
  look : Event I
  offer : ℕ → I → Event I

-- what is answered, with a number of entries
pub data Response : Type 0 where
  shown : ℕ → Response
  added : ℕ → Response
  overtaken : ℕ → Response

module _ {I : Type 0} where
  -- how many offers an event uses up
  abbrev pub used_by : Event I → ℕ
  used_by look = 0
  used_by (offer base item) = 1

  -- a look answers how many entries there are, and changes nothing
  pub record LookShows (before : List (Entry I)) (number : ℕ)
      (after : List (Entry I)) : Type 0 where
    pub number_is : number ≡ length before
    pub same : after ≡ before

  -- there are just `base` entries, and the item is added with this turn, as the entry of the next
  -- number
  pub record OfferAdds (turn : ℕ) (before : List (Entry I)) (base : ℕ) (item : I) (number : ℕ)
      (after : List (Entry I)) : Type 0 where
    pub had : length before ≡ base
    pub number_is : number ≡ base + 1
    pub adds : after ≡ before ++ record { turn = turn; item = item } ∷ []

  -- there are more than `base` entries: the answer is how many there are, and nothing changes
  pub record OfferOvertaken (before : List (Entry I)) (base number : ℕ)
      (after : List (Entry I)) : Type 0 where
    pub more : base < length before
    pub number_is : number ≡ length before
    pub same : after ≡ before

  -- what an event answers, and which entries it leaves; an offer with too great a base is no event
  abbrev pub Does : ℕ → List (Entry I) → Event I → Response → List (Entry I) → Type 0
  Does turn before look (shown number) after = LookShows before number after
  Does turn before look (added number) after = ⊥
  Does turn before look (overtaken number) after = ⊥
  Does turn before (offer base item) (shown number) after = ⊥
  Does turn before (offer base item) (added number) after =
      OfferAdds turn before base item number after
  Does turn before (offer base item) (overtaken number) after =
      OfferOvertaken before base number after

  -- one event at this turn on a journal, all of whose entries have smaller turns
  pub record IsTurn (turn : ℕ) (before : List (Entry I)) (event : Event I) (response : Response)
      (after : List (Entry I)) : Type 0 where
    pub smaller : RisesWithin 0 turn before
    pub done : Does turn before event response after
