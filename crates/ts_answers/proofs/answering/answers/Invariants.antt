use Rattle.std.proofs.Common.{take}
use Rattle.spec_history.specs.Queries.{AreResults}
use Rattle.ts_predicate.specs.Predicates.{AnswersOf}
use Rattle.ts_answers.proofs.answering.answers.Given as goal

abbrev pub invariant-loop-number : goal.invariant-loop-number
invariant-loop-number g l = AreResults l.grammar l.queries (AnswersOf (g.H.Hosts.called l.hosts) (g.H.Hosts.accepts l.hosts)) l.text l.root (take l.number-index l.numbers) l.results
