-- What contracts see of a pass.
use Rattle.std.specs.Prelude.{◌≡◌, ℕ, ◌<◌, ◌≤◌, [], Some, All}
use Rattle.atomic_table.specs.Seated.{TableId}
use Rattle.ts_shelf.specs.declared.view.Knowledge.{Knowledge}
use Rattle.ts_shelf.specs.Entries.{most_turns, RisesWithin}

-- which shelf a pass is of, and what it knows
pub record Known (S I : Type 0) : Type 0 where
  pub shelf : TableId
  pub knows : Knowledge S I

module _ {S I : Type 0} (fits : S → I → Type 0) where
  -- what holds of each pass in hand
  pub record IsPass (k : Knowledge S I) : Type 0 where
    -- it knows the shelf's opening
    pub opening : S
    pub opens : k.opening ≡ Some opening
    -- each entry that it has seen fits it
    pub fit : All (λ e. fits opening e.item) k.seen
    -- the turns of the entries that it has seen rise, and are below its turn
    pub rises : RisesWithin 0 k.turn k.seen
    -- the turns that it took are below its turn
    pub taken : All (λ x. x < k.turn) k.taken
    -- its turn is at most the number of turns that it knows to be over
    pub known : k.turn ≤ k.reached
    -- which are no more than a shelf has
    pub few : k.reached ≤ most_turns

  -- the item fits the opening that the pass knows
  abbrev pub FitsOpening : Knowledge S I → I → Type 0
  FitsOpening k item = (opening : S) → k.opening ≡ Some opening → fits opening item

module _ {S I : Type 0} where
  -- it is the first pass of its shelf
  abbrev pub IsFirst : Knowledge S I → Type 0
  IsFirst k = k.first ≡ 1

  -- it is another pass, which came from a split
  abbrev pub IsOther : Knowledge S I → Type 0
  IsOther k = k.first ≡ 0

  -- the first pass of a shelf with this opening, which may make so many offers
  abbrev pub first_pass : S → ℕ → Knowledge S I
  first_pass opening offers = record {
    opening = Some opening;
    seen = [];
    taken = [];
    turn = 0;
    reached = 0;
    offers = offers;
    first = 1;
    out = 0;
  }
