use Rattle.ts_places.proofs.FrontierLemmas.{AddsUpTo}
use Rattle.ts_places.proofs.frontier.add_past.Given as goal

abbrev pub invariant-loop-number : goal.invariant-loop-number
invariant-loop-number l = AddsUpTo l.graph l.from l.number l.place l.initial.heads.items l.heads.items
