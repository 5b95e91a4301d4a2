use Rattle.std.proofs.Common.{◌≡◌, ◌↔◌, sym, subst, IsTrue, false, List, [], slice_get, get_or, Some, arith}
use Rattle.std.proofs.lemmas.Option.{slice_get-get_or}
use Rattle.std.specs.List.{Contains}
use Rattle.ts_query_syntax.specs.declared.read_query.Pattern.{Pattern}
use Rattle.ts_query_syntax.specs.declared.read_query.Predicate.{Predicate}
use Rattle.spec_matches.specs.declared.found.Capture.{Capture}
use Rattle.ts_predicate.specs.Judges.{predicates_of}
use Rattle.ts_predicate.specs.Predicates.{AnswersOf, Holds, IsKept, IsCaptureIn}
use Rattle.ts_predicate.proofs.KeepLemmas.{map_ok, kept_is}
use Rattle.ts_predicate.proofs.predicates.PredicatesKeep.keeps.Goals as goal

untrue : IsTrue false → ⊥
untrue e = cc

none : Pattern
none = record { items = []; closed = false; predicates = [] }

pub returns-then-not-are_inside-clause-keeps : goal.returns-then-not-are_inside-clause-keeps
returns-then-not-are_inside-clause-keeps g c = rw (← c.self.view_is) (
  (λ t. absurd (untrue t)),
  (λ k. subst IsTrue c.if-not-are_inside.true (c.are_inside.ensures.1 (λ x w. k.captures x (subst (λ (l : List Capture). Contains l x) c.as_slice-captures.ensures w)))),
)

pub all_hold-requires : goal.all_hold-requires
all_hold-requires g c = record { within = (c.self.inside.query.now, c.are_inside.ensures.0 c.if-not-are_inside.false) }

pub returns-clause-keeps : goal.returns-clause-keeps
returns-clause-keeps g c =
    let query = c.self.inside.query.now in
    let text = c.self.inside.text.now in
    let found = c.args.found.now in
    let host = AnswersOf (g.H.Hosts.called c.self.inside.hosts.now) (g.H.Hosts.accepts c.self.inside.hosts.now) in
    let pattern : Pattern = get_or query.patterns found.pattern none in
    let at : slice_get query.patterns found.pattern ≡ Some pattern = slice_get-get_or query.patterns found.pattern none (omega (arith, c.if-number-len.false, c.len.ensures)) in
    let inside : (x : Capture) → Contains found.captures x → IsCaptureIn query text x =
    λ x w. c.are_inside.ensures.0 c.if-not-are_inside.false x (subst (λ (l : List Capture). Contains l x) (sym c.as_slice-captures.ensures) w) in
    let same : predicates_of c.ready.new.judges ≡ pattern.predicates = c.ready.ensures.are found.pattern pattern c.in_ok-ready.ensures.ready at in
    rw (← c.self.view_is) (map_ok c.all_hold.result
    (λ b. IsTrue b ↔ ((p : Predicate) → Contains (predicates_of c.ready.new.judges) p → Holds host text c.as_slice-captures.result.now p))
    (λ b. IsTrue b ↔ IsKept host query text found)
    (λ b h. kept_is host query text found pattern at inside b
    (subst (λ (l : List Predicate). IsTrue b ↔ ((p : Predicate) → Contains l p → Holds host text found.captures p)) same
    (subst (λ (l : List Capture). IsTrue b ↔ ((p : Predicate) → Contains (predicates_of c.ready.new.judges) p → Holds host text l p)) c.as_slice-captures.ensures h)))
    c.all_hold.ensures.hold)
