use Rattle.std.proofs.Common.{length, arith}
use Rattle.std.proofs.lemmas.Option.{slice_get_within}
use Rattle.spec_tables.specs.Fit.{IsEmptyRule}
use Rattle.ts_fit.proofs.ListLemmas.{first_found, first_more, first_none}
use Rattle.ts_fit.proofs.empty.first_empty_rule.Goals as goal

pub returns-then-is_empty_rule : goal.returns-then-is_empty_rule
returns-then-is_empty_rule c =
    first_found (IsEmptyRule c.args.grammar.now) c.loop-place.place c.is_empty_rule.result c.if-is_empty_rule.true c.is_empty_rule.ensures c.loop-place.invariant

pub loop-place-preserved : goal.loop-place-preserved
loop-place-preserved c =
    first_more (IsEmptyRule c.args.grammar.now) c.loop-place.place c.is_empty_rule.result c.if-is_empty_rule.false c.is_empty_rule.ensures c.loop-place.invariant

pub returns : goal.returns
returns c =
    first_none (IsEmptyRule c.args.grammar.now) c.loop-place.place (length c.args.grammar.now.rules) (omega (arith, c.len-place-end.ensures, c.loop-place-test.false))
    (λ k h. slice_get_within c.args.grammar.now.rules k h.0 h.1) c.loop-place.invariant
