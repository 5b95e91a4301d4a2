use Rattle.std.proofs.Common.{◌≡◌, ◌++◌, map}
use Rattle.spec_matches.specs.declared.placing.Placing.{Placing}
use Rattle.ts_search.proofs.once.captures_of.Given as goal

abbrev pub invariant-loop-one : goal.invariant-loop-one
invariant-loop-one l = l.out.items ++ map (λ (f : Placing). f.captures) l.one-iterator.rest.items ≡ map (λ (f : Placing). f.captures) l.fn.found.items
