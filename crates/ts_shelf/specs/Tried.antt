-- What one try to take a turn leaves. These serve private clauses and proofs alone.
use Rattle.std.specs.Prelude.{◌≡◌, ℕ, ◌≤◌, List, []}
use Rattle.ts_shelf.specs.declared.journal.Entry.{Entry}
use Rattle.ts_shelf.specs.declared.view.View.{View}
use Rattle.ts_shelf.specs.declared.turnstile.Attempt.{Attempt}
use Rattle.ts_shelf.specs.declared.turnstile.Attempt.TheVariants.{Spent, Took, Again}
use Rattle.ts_shelf.specs.Entries.{most_turns}
use Rattle.ts_shelf.specs.Steps.{HasTurn}
use Rattle.ts_shelf.specs.Views.{Seated, told_view}

module _ {J S I : Type 0} where
  -- nothing changed but that more turns may be known to be over
  abbrev pub Waited : View S I → Seated J S I → Type 0
  Waited v m = (r : ℕ) × (v.knows.reached ≤ r) × (m ≡ (told_view v r, []))

  -- all turns are over
  abbrev pub Ended : View S I → Seated J S I → Type 0
  Ended v m = (v.knows.reached ≤ most_turns) × (m ≡ (told_view v most_turns, []))

  module _ (entries : J → List (Entry I)) (room : J → ℕ) (opening : J → S)
      (fits : S → I → Type 0) where
    -- the turn was taken, and more turns may be known to be over
    abbrev pub TookTurn : View S I → ℕ → Seated J S I → Type 0
    TookTurn v t m = (r : ℕ) × (v.knows.reached ≤ r)
        × HasTurn entries room opening fits (told_view v r) t m

    -- what each answer of a try says
    abbrev pub Tried : View S I → Seated J S I → Attempt → Type 0
    Tried v m Spent = Ended v m
    Tried v m (Took t) = TookTurn v t m
    Tried v m Again = Waited v m
