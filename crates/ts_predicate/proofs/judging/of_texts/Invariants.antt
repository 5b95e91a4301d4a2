use Rattle.std.proofs.Common.{take}
use Rattle.ts_predicate.specs.Asking.{AllLeaveOpen, HasMatcher}
use Rattle.ts_predicate.specs.Predicates.{IsAs, AnswersOf, texts_of}
use Rattle.ts_predicate.proofs.judging.of_texts.Given as goal

abbrev pub invariant-loop-capture : goal.invariant-loop-capture
invariant-loop-capture g l = record {
  matcher : HasMatcher l.matcher l.predicate.asked;
  left_open : AllLeaveOpen l.predicate.some l.predicate.negated (IsAs (AnswersOf (g.H.Hosts.called l.hosts) (g.H.Hosts.accepts l.hosts)) l.predicate.asked) (texts_of l.text l.predicate.capture (take l.capture-index l.captures));
}
