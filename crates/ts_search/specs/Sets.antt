-- Captures of which only the set counts.
use Rattle.std.specs.Prelude.{◌≡◌, ◌↔◌, List}
use Rattle.std.specs.List.{Contains}
use Rattle.spec_matches.specs.declared.found.Capture.{Capture}
use Rattle.spec_matches.specs.declared.placing.Placing.{Placing}

-- two lists have the same members
abbrev pub SameMembers : List Capture → List Capture → Type 0
SameMembers c d = (x : Capture) → Contains c x ↔ Contains d x

-- two ways begin at one place, and capture the same
pub record SameWay (f g : Placing) : Type 0 where
  pub first : f.first ≡ g.first
  pub near : f.near ≡ g.near
  pub captures : SameMembers f.captures g.captures
