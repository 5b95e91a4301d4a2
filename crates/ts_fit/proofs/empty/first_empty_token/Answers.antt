use Rattle.std.proofs.Common.{length, arith}
use Rattle.std.proofs.lemmas.Option.{slice_get_within}
use Rattle.ts_fit.specs.Misfits.{IsEmptyToken}
use Rattle.ts_fit.proofs.ListLemmas.{first_found, first_more, first_none}
use Rattle.ts_fit.proofs.empty.first_empty_token.Goals as goal

pub returns-then-is_empty_token : goal.returns-then-is_empty_token
returns-then-is_empty_token c =
    first_found (IsEmptyToken c.args.grammar.now) c.loop-place.place c.is_empty_token.result c.if-is_empty_token.true c.is_empty_token.ensures c.loop-place.invariant

pub loop-place-preserved : goal.loop-place-preserved
loop-place-preserved c =
    first_more (IsEmptyToken c.args.grammar.now) c.loop-place.place c.is_empty_token.result c.if-is_empty_token.false c.is_empty_token.ensures c.loop-place.invariant

pub returns : goal.returns
returns c =
    first_none (IsEmptyToken c.args.grammar.now) c.loop-place.place (length c.args.grammar.now.tokens) (omega (arith, c.len-place-end.ensures, c.loop-place-test.false))
    (λ k h. slice_get_within c.args.grammar.now.tokens k h.0 h.1) c.loop-place.invariant
