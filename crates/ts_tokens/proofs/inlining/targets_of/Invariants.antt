use Rattle.std.proofs.Common.{ℕ, List, ◌↔◌, take}
use Rattle.std.specs.List.{Contains}
use Rattle.ts_base.specs.Bytes.{Bytes}
use Rattle.ts_rules.specs.Names.{told}
use Rattle.ts_tokens.specs.Inlining.{ArePlaces, NamesApart, IsTarget}
use Rattle.ts_tokens.proofs.inlining.targets_of.Given as goal

abbrev pub invariant-loop-name : goal.invariant-loop-name
invariant-loop-name l = (names inline : List Bytes) → ArePlaces names inline l.places → NamesApart names
    → (k : ℕ) → Contains l.targets.items k ↔ IsTarget names inline (told (take l.name-index l.name-items)) k
