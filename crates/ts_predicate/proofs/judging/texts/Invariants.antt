use Rattle.std.proofs.Common.{◌≡◌, take}
use Rattle.ts_predicate.specs.Predicates.{texts_of}
use Rattle.ts_predicate.proofs.judging.texts.Given as goal

abbrev pub invariant-loop-capture : goal.invariant-loop-capture
invariant-loop-capture l = l.texts.items ≡ texts_of l.text l.name (take l.capture-index l.captures)
