use Rattle.std.proofs.Common.{true, drop}
use Rattle.spec_runs.specs.Configurations.{stack_symbols}
use Rattle.spec_runs.proofs.SightLemmas.{same_valid, same_found}
use Rattle.spec_runs.proofs.laws.one_sight.Goals as goal

pub returns : goal.returns
returns c g text at f h x y =
    c.one_answer.ensures.lex g y.0 (drop at.place text) f h (same_found g x.0 y.0 (same_valid g (stack_symbols at.stack) x.0 y.0 x.1 y.1) true (drop at.place text) f x.2) y.2
