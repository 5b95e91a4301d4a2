use Rattle.std.proofs.Common.{◌≡◌, Contains, take}
use Rattle.ts_query_syntax.specs.declared.read_query.Predicate.{Predicate}
use Rattle.ts_predicate.specs.Predicates.{AnswersOf, Holds}
use Rattle.ts_predicate.proofs.judge.Judges.hold.Given as goal

abbrev pub invariant-loop-k : goal.invariant-loop-k
invariant-loop-k g l = record {
  number : l.self.number ≡ l.fn.self.number;
  same : l.self.all.items ≡ l.fn.self.all.items;
  held : (p : Predicate) → Contains (take l.k l.fn.self.all.items) p
      → Holds (AnswersOf (g.H.Hosts.called l.hosts) (g.H.Hosts.accepts l.hosts)) l.text l.captures p;
}
