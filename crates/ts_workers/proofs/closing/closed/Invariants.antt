use Rattle.std.proofs.Common.{◌≤◌, length, map, vec_capacity}
use Rattle.atomic_table.specs.Seated.{TableId}
use Rattle.ts_workers.specs.declared.front.Front.{Front}
use Rattle.ts_workers.specs.Joins.{AreClosed}
use Rattle.ts_workers.proofs.closing.closed.Given as goal

abbrev pub invariant-loop-shelf : goal.invariant-loop-shelf
invariant-loop-shelf l = record {
  closed : AreClosed (map (λ (p : TableId × Front). p.1) l.yielded) l.books.items;
  room : length l.fn.shelves.items ≤ vec_capacity l.books;
}
