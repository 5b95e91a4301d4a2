use Rattle.std.proofs.Common.{◌≡◌, ℕ, length}
use Rattle.ts_io.specs.Outside.{Files}
use Rattle.ts_session.specs.Firsts.{AreFirsts}
use Rattle.ts_session.proofs.FirstLemmas.{AreTexts}
use Rattle.ts_session.proofs.openings.openings_of.Given as goal

abbrev pub invariant-loop-number : goal.invariant-loop-number
invariant-loop-number l = (length l.texts.items ≡ l.number) × ((files : Files) → AreFirsts files l.documents l.firsts → AreTexts files l.documents l.texts.items)
