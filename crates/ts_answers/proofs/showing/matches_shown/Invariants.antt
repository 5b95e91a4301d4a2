use Rattle.std.proofs.Common.{◌≡◌, map, take}
use Rattle.spec_history.specs.Queries.{shown_match}
use Rattle.ts_answers.proofs.showing.matches_shown.Given as goal

abbrev pub invariant-loop-found : goal.invariant-loop-found
invariant-loop-found l = l.shown ≡ map (shown_match l.query) (take l.found-index l.matches)
