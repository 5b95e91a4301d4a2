use Rattle.std.proofs.Common.{List, ◌≡◌, ◌-◌, Some, slice_get, subst, ◌<◌, length, sym}
use Rattle.ts_gss.specs.declared.graph.Cell.{Cell}
use Rattle.ts_gss.proofs.CellLemmas.{head_some, head_within, cell_stack, cell_lower}
use Rattle.ts_gss.proofs.graph.Graph.cell.Goals as goal

pub cell_at-requires-clause-some : goal.cell_at-requires-clause-some
cell_at-requires-clause-some c = head_some c.self.inside.cells.items c.args.self.now c.self.view_is c.args.head c.requires.some

pub cell_at-requires-clause-within : goal.cell_at-requires-clause-within
cell_at-requires-clause-within c =
    subst (λ (cs : List Cell). c.args.head - 1 < length cs) (sym c.as_slice.ensures.value)
    (head_within c.self.inside.cells.items c.args.self.now c.self.view_is c.args.head c.requires.there (head_some c.self.inside.cells.items c.args.self.now c.self.view_is c.args.head c.requires.some))

pub returns-clause-stack : goal.returns-clause-stack
returns-clause-stack c =
    cell_stack c.self.inside.cells.items c.args.self.now c.self.view_is c.args.head c.cell_at.result.now c.self.invariant.0 (head_some c.self.inside.cells.items c.args.self.now c.self.view_is c.args.head c.requires.some)
    (subst (λ (cs : List Cell). slice_get cs (c.args.head - 1) ≡ Some c.cell_at.result.now) c.as_slice.ensures.value c.cell_at.ensures)

pub returns-clause-below : goal.returns-clause-below
returns-clause-below c =
    cell_lower c.self.inside.cells.items c.args.self.now c.self.view_is c.args.head c.cell_at.result.now c.self.invariant.0 (head_some c.self.inside.cells.items c.args.self.now c.self.view_is c.args.head c.requires.some)
    (subst (λ (cs : List Cell). slice_get cs (c.args.head - 1) ≡ Some c.cell_at.result.now) c.as_slice.ensures.value c.cell_at.ensures)
