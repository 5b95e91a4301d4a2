use Rattle.std.proofs.Common.{◌≡◌, map, take}
use Rattle.spec_history.specs.Queries.{shown_capture}
use Rattle.ts_answers.proofs.showing.captures_shown.Given as goal

abbrev pub invariant-loop-capture : goal.invariant-loop-capture
invariant-loop-capture l = l.shown ≡ map (shown_capture l.query) (take l.capture-index l.captures)
