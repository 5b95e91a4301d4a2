use Rattle.std.proofs.Common.{arith}
use Rattle.ts_fit.proofs.PlaceLemmas.{rule_there, no_rule_above}
use Rattle.ts_fit.proofs.places.rule_place.Goals as goal

pub returns-then-place-len : goal.returns-then-place-len
returns-then-place-len c =
    rule_there c.args.grammar.now c.args.symbol _ (omega (arith, c.if-place-len.true, c.len.ensures)) (omega (arith, c.from-number.ensures, c.len-tokens.ensures, c.if-number-tokens.false))

pub returns-else-place-len : goal.returns-else-place-len
returns-else-place-len c =
    no_rule_above c.args.grammar.now c.args.symbol (omega (arith, c.from-number.ensures, c.len-tokens.ensures, c.if-number-tokens.false, c.if-place-len.false, c.len.ensures))
