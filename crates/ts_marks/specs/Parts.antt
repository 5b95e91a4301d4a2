-- The parts of an edit that have been passed, told by numbers alone. For private clauses and proofs
-- alone.
use Rattle.std.specs.Prelude.{◌≡◌, ℕ, ◌+◌, ◌≤◌, List, [], ◌∷◌, drop}
use Rattle.std.specs.Coded.{×_prop, Unit-prop, le_prop}
use Rattle.ts_text.specs.declared.edit.Edit.{Edit}
use Rattle.ts_text.specs.declared.edit.Part.{Part}
use Rattle.spec_reuse.specs.Changes.{is_met, moved_from}

-- parts that begin from a place on, each after the one before it ends
abbrev pub AreOrdered : ℕ → List Part → Type 0
AreOrdered from [] = Unit {0}
AreOrdered from (p ∷ ps) = (from ≤ p.start) × ((p.start ≤ p.end) × AreOrdered p.end ps)

-- there is one proof of that at most
pub AreOrdered-prop : (from : ℕ) (ps : List Part) → IsProp (AreOrdered from ps)
AreOrdered-prop from [] = Unit-prop
AreOrdered-prop from (p ∷ ps) = ×_prop le_prop (×_prop le_prop (AreOrdered-prop p.end ps))

-- The parts before the one of this number were passed: they end where the next may begin. From
-- there on places move, and parts are met, as by the parts that are left.
pub record IsPassed (edit : Edit) (next from to : ℕ) : Type 0 where
  pub whole : AreOrdered 0 edit.parts
  pub left : AreOrdered from (drop next edit.parts)
  pub moves : (place : ℕ) → from ≤ place
      → moved_from 0 edit.parts place ≡ to + moved_from from (drop next edit.parts) place
  pub meets : (place extent : ℕ) → from ≤ place
      → is_met edit.parts place extent ≡ is_met (drop next edit.parts) place extent
