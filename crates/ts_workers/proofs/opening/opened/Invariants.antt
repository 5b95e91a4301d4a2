use Rattle.std.proofs.Common.{◌≡◌, length}
use Rattle.ts_workers.specs.Openings.{AreOpened, AreLeft}
use Rattle.ts_workers.proofs.opening.opened.Given as goal

abbrev pub invariant-loop-parsed : goal.invariant-loop-parsed
invariant-loop-parsed g l = record {
  count : length l.fronts.items ≡ length l.yielded;
  fronts : AreOpened l.table l.plan l.shelves.items l.fronts.items l.yielded;
  lexers : AreLeft l.table l.lexers.items l.yielded;
}
