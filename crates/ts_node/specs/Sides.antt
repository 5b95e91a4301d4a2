-- The part of a run in which a child and an element lie.
use Rattle.std.specs.Prelude.{◌<◌, ◌≤◌, ℕ}
use Rattle.ts_node.specs.declared.node.Counts.{Counts}
use Rattle.ts_node.specs.declared.run.Side.{Side}
use Rattle.ts_node.specs.declared.run.Side.TheVariants as side

-- where a child and an element lie, by what is counted of the left part
abbrev pub IsSideOf : Counts → ℕ → ℕ → Side → Type 0
IsSideOf c k e side.Left = (k < c.children) × (e < c.elements)
IsSideOf c k e side.Right = (c.children ≤ k) × (c.elements ≤ e)
IsSideOf c k e side.Both = Unit {0}
