use Rattle.std.proofs.Common.{take}
use Rattle.ts_fit.specs.Searches.{Adds}
use Rattle.ts_fit.proofs.CyclicLemmas.{LedBy}
use Rattle.ts_fit.proofs.cyclic.expand.Given as goal

abbrev pub invariant-loop-production : goal.invariant-loop-production
invariant-loop-production l = Adds (LedBy l.grammar (take l.production-index l.production-items)) l.fn.found.keys l.found.keys
