use Rattle.std.proofs.Common.{arith}
use Rattle.ts_bits.proofs.BitLemmas.{lowest_from, none_from}
use Rattle.ts_bits.proofs.set.lowest.Goals as goal

pub returns-clause-some : goal.returns-clause-some
returns-clause-some c = lowest_from c.args.from c.args.word c.requires c.ranges.word.fits (omega (arith, c.if-rest-eq0.false))

pub returns-then-rest-eq0-clause-none : goal.returns-then-rest-eq0-clause-none
returns-then-rest-eq0-clause-none c = none_from c.args.from c.args.word c.if-rest-eq0.true
