use Rattle.std.proofs.Common.{rules, ◌≡◌, ◌∙◌, ◌↔◌, ◌<◌, ap, subst, IsTrue, List, length, vec_len, arith}
use Rattle.ts_query_syntax.specs.declared.read_query.Predicate.{Predicate}
use Rattle.ts_predicate.specs.Predicates.{AnswersOf, Holds}
use Rattle.ts_predicate.proofs.KeepLemmas.{lost, held_more, all_held, set_same}
use Rattle.ts_predicate.proofs.judge.Judges.hold.Goals as goal

pub returns-then-not-branch-clause-hold : goal.returns-then-not-branch-clause-hold
returns-then-not-branch-clause-hold g c =
    let count : vec_len c.args.self.now.all ≡ length c.args.self.now.all.items = search rules in
    let low : c.loop-k.k < length c.loop-k.self.all.items = omega (arith, c.loop-k-test.true, c.len-k-end.ensures, count, ap (λ (l : List Predicate). length l) c.loop-k.invariant.same) in
    lost c.loop-k.self.all.items c.args.self.now.all.items c.loop-k.k c.index_mut.result.now (Holds (AnswersOf (g.H.Hosts.called c.args.hosts.now) (g.H.Hosts.accepts c.args.hosts.now)) c.args.text.now c.args.captures.now) c.in_ok-holds.field-0
    c.loop-k.invariant.same low (subst (λ (p : Predicate). IsTrue c.in_ok-holds.field-0 ↔ Holds (AnswersOf (g.H.Hosts.called c.args.hosts.now) (g.H.Hosts.accepts c.args.hosts.now)) c.args.text.now c.args.captures.now p) c.index_mut.ensures.value c.in_ok-holds.ensures.holds) c.if-not-branch.true

pub loop-k-preserved : goal.loop-k-preserved
loop-k-preserved g c =
    let count : vec_len c.args.self.now.all ≡ length c.args.self.now.all.items = search rules in
    let low : c.loop-k.k < length c.loop-k.self.all.items = omega (arith, c.loop-k-test.true, c.len-k-end.ensures, count, ap (λ (l : List Predicate). length l) c.loop-k.invariant.same) in
    record {
      number = c.loop-k.invariant.number;
      same = set_same c.loop-k.self.all.items c.loop-k.k c.index_mut.result.now c.index_mut.result.now c.holds.new.self c.index_mut.ensures.value c.holds.ensures.same ∙ c.loop-k.invariant.same;
      held = held_more c.loop-k.self.all.items c.args.self.now.all.items c.loop-k.k c.index_mut.result.now (Holds (AnswersOf (g.H.Hosts.called c.args.hosts.now) (g.H.Hosts.accepts c.args.hosts.now)) c.args.text.now c.args.captures.now) c.in_ok-holds.field-0
          c.loop-k.invariant.same low (subst (λ (p : Predicate). IsTrue c.in_ok-holds.field-0 ↔ Holds (AnswersOf (g.H.Hosts.called c.args.hosts.now) (g.H.Hosts.accepts c.args.hosts.now)) c.args.text.now c.args.captures.now p) c.index_mut.ensures.value c.in_ok-holds.ensures.holds) c.if-not-branch.false c.loop-k.invariant.held;
    }

pub returns-clause-hold : goal.returns-clause-hold
returns-clause-hold g c =
    let count : vec_len c.args.self.now.all ≡ length c.args.self.now.all.items = search rules in
    all_held c.loop-k.self.all.items c.args.self.now.all.items c.loop-k.k (Holds (AnswersOf (g.H.Hosts.called c.args.hosts.now) (g.H.Hosts.accepts c.args.hosts.now)) c.args.text.now c.args.captures.now)
    c.loop-k.invariant.same (omega (arith, c.loop-k-test.false, c.len-k-end.ensures, count, ap (λ (l : List Predicate). length l) c.loop-k.invariant.same)) c.loop-k.invariant.held
