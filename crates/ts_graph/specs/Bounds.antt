-- How low links lead down, for private clauses and proofs.
use Rattle.std.specs.Prelude.{◌≡◌, ℕ, ◌<◌, ◌≤◌, List, slice_get, Option, Some, None}
use Rattle.spec_graph.specs.declared.graph.Head.{Head}
use Rattle.spec_graph.specs.declared.graph.Link.{Link}
use Rattle.ts_graph.specs.Down.{place_at}
use Rattle.ts_graph.specs.Parts.{wanting_past}

-- no link down from a head leads below a place
abbrev pub LeadNoLower : List Head → List Link → ℕ → ℕ → Type 0
LeadNoLower heads links above low = (j : ℕ) (l : Link) → slice_get links j ≡ Some l
    → l.above ≡ above → low ≤ place_at heads l.below

-- none of them up to a number does
abbrev pub IsBound : List Head → List Link → ℕ → ℕ → ℕ → Type 0
IsBound heads links k above low = (j : ℕ) (l : Link) → slice_get links j ≡ Some l
    → l.above ≡ above → j ≤ k → low ≤ place_at heads l.below

-- All links down from the head of one, up to this one, lead past a place, with no tree wanting
-- where so many were before them.
abbrev pub AllPast : List Head → List Link → ℕ → ℕ → ℕ → Type 0
AllPast heads links place wanting k =
    (m : Link) → slice_get links k ≡ Some m
    → (j : ℕ) (l : Link) → slice_get links j ≡ Some l → l.above ≡ m.above → j ≤ k
    → (place < place_at heads l.below) × (wanting_past links wanting j ≡ 0)

-- the same of a place where ways are to end, where one is given
abbrev pub NoneLeads : List Head → List Link → Option ℕ → ℕ → ℕ → Type 0
NoneLeads heads links None wanting k = ⊥
NoneLeads heads links (Some place) wanting k = AllPast heads links place wanting k
