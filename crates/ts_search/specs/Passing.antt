-- Items that are passed over: nothing is captured by them, and they take the first siblings that
-- they can.
use Rattle.std.specs.Prelude.{◌≡◌, ◌↔◌, ℕ, ◌≤◌, List, [], ◌∷◌, length, Some, slice_get, Bool, true, false}
use Rattle.spec_matches.specs.declared.placing.Placing.{Placing}
use Rattle.spec_matches.specs.declared.placing.Slot.{Slot}
use Rattle.ts_search.specs.declared.stand.Key.{Key}
use Rattle.ts_search.specs.declared.stand.Siblings.{Siblings}
use Rattle.ts_search.specs.declared.stand.Wanted.TheVariants.{Here}
use Rattle.ts_search.specs.Memory.{TellsOf}

-- an item takes one sibling, and no anchor stands before it
pub record IsLoose (i : Slot) : Type 0 where
  pub one : i.optional ≡ false
  pub few : i.many ≡ false
  pub alone : i.more ≡ 0
  pub free : i.tied ≡ false

-- so does the first of some items; behind no item stands no anchor
abbrev pub AreLoose : Bool → List Slot → Type 0
AreLoose closed [] = closed ≡ false
AreLoose closed (i ∷ is) = IsLoose i

-- no anchor stands before an item that takes one sibling, nor behind it
pub record IsFree (s : Siblings) (i : Slot) (is : List Slot) : Type 0 where
  pub loose : IsLoose i
  pub rest : AreLoose s.closed is

-- an item may be passed over
pub record MayPass (s : Siblings) (i : Slot) (is : List Slot) (k : ℕ) : Type 0 where
  pub free : IsFree s i is
  pub silent : slice_get s.silent k ≡ Some true

-- a key asks for the same from the first sibling on that its item takes
pub record MayMove (i : Slot) (key : Key) : Type 0 where
  pub free : i.tied ≡ true → key.beside ≡ true → ⊥
  pub some : i.optional ≡ false
  pub anywhere : key.wanted ≡ Here → ⊥

-- a later key asks for the same
pub record Settles (s : Siblings) (all : List Slot) (from to : Key) : Type 0 where
  pub later : from.number ≤ to.number
  pub inside : to.number ≤ length all
  pub same : (t : Placing) → TellsOf s all from t ↔ TellsOf s all to t
