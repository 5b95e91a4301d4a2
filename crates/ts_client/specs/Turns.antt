-- Turns that a pass took, one after the other.
use Rattle.std.specs.Prelude.{◌≡◌, ℕ, ◌+◌, ◌<◌, ◌≤◌, List, ◌++◌, length, slice_get, Some}
use Rattle.ts_shelf.specs.declared.journal.Entry.{Entry}
use Rattle.ts_shelf.specs.declared.view.Knowledge.{Knowledge}
use Rattle.ts_shelf.specs.Entries.{most_turns, occurrences, RisesWithin, Extends}

module _ {S I : Type 0} where
  -- the pass took these turns, each of which left the entries as they were
  pub record TakesIdle (old new : Knowledge S I) (turns : List ℕ) : Type 0 where
    -- what came since has turns from its old turn on
    pub extends : Extends old.turn new.turn new.seen old.seen
    pub taken : new.taken ≡ old.taken ++ turns
    -- they came after its old turn, each after the one before
    pub within : (turn : ℕ) → 0 < occurrences turn turns
        → (old.turn ≤ turn) × (turn < new.turn)
    pub apart : old.turn + length turns ≤ new.turn
    -- no entry has one of them
    pub idle : (place : ℕ) (e : Entry I) → slice_get new.seen place ≡ Some e
        → 0 < occurrences e.turn turns → ⊥

  -- at the last of these turns there were so many entries, all with smaller turns
  pub record LooksUntil (old new : Knowledge S I) (turns : List ℕ) (turn number : ℕ)
      : Type 0 where
    pub idle : TakesIdle old new turns
    pub last : 0 < occurrences turn turns
    pub next : new.turn ≡ turn + 1
    pub smaller : RisesWithin 0 turn new.seen
    pub number_is : number ≡ length new.seen

  -- the pass knows that all turns of its shelf are over, after it took these
  pub record RunsOut (old new : Knowledge S I) (turns : List ℕ) : Type 0 where
    pub idle : TakesIdle old new turns
    pub over : new.reached ≡ most_turns

  -- the pass is of the same rank, and of a shelf with the same opening
  pub record SamePass (old new : Knowledge S I) : Type 0 where
    pub first : new.first ≡ old.first
    pub out : new.out ≡ old.out
    pub opening : new.opening ≡ old.opening
