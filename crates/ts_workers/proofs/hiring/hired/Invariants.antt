use Rattle.std.proofs.Common.{List, take}
use Rattle.ts_base.specs.Bytes.{Bytes}
use Rattle.ts_workers.specs.Fronts.{AreFronts, versions_of}
use Rattle.ts_workers.specs.Openings.{AreLexersOf}
use Rattle.ts_workers.specs.Workers.{AreHired}
use Rattle.ts_workers.proofs.hiring.hired.Given as goal

abbrev pub invariant-loop-steps : goal.invariant-loop-steps
invariant-loop-steps l = record {
  hired : AreHired l.table l.shelves (versions_of l.fronts) (take l.steps-index l.plan.clients) l.workers.items;
  fronts : (openings : List Bytes) → AreFronts l.plan l.table openings l.shelves 0 l.initial.fronts
      → AreFronts l.plan l.table openings l.shelves l.steps-index l.fronts;
  lexers : AreLexersOf l.table l.lexers.items;
}
