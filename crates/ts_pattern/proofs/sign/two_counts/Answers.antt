use Rattle.std.proofs.Common.{◌+◌, sym, subst}
use Rattle.ts_pattern.specs.Characters.{AreDecimal}
use Rattle.ts_pattern.proofs.NumberLemmas.{run_decimal}
use Rattle.ts_pattern.proofs.sign.two_counts.Goals as goal

pub is_below-requires-clause-lower : goal.is_below-requires-clause-lower
is_below-requires-clause-lower c = subst AreDecimal (sym c.part.ensures) (run_decimal c.args.text.now c.args.start c.args.most c.requires.most)

pub is_below-requires-clause-upper : goal.is_below-requires-clause-upper
is_below-requires-clause-upper c = subst AreDecimal (sym c.part-2.ensures) (run_decimal c.args.text.now (c.args.at + 1) c.args.least c.requires.least)
