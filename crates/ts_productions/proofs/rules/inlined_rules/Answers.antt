use Rattle.ts_productions.proofs.LimitLemmas.{are_many, are_few, some_long, all_short, few_not_many, short_not_long}
use Rattle.ts_productions.proofs.rules.inlined_rules.Goals as goal

pub returns-in-Many-clause-many : goal.returns-in-Many-clause-many
returns-in-Many-clause-many c = λ _.
    are_many c.args.sources.now c.requires c.size_before-before.result c.size_after-after.result c.size_before-before.ensures.many c.size_before-before.ensures.longest c.size_after-after.ensures c.in-Many.ensures

pub returns-in-Many-clause-accepts : goal.returns-in-Many-clause-accepts
returns-in-Many-clause-accepts c = λ w.
    absurd (few_not_many c.args.sources.now c.requires w.0
    (are_many c.args.sources.now c.requires c.size_before-before.result c.size_after-after.result c.size_before-before.ensures.many c.size_before-before.ensures.longest c.size_after-after.ensures c.in-Many.ensures))

pub returns-in-Long-clause-long : goal.returns-in-Long-clause-long
returns-in-Long-clause-long c = λ _. (
  are_few c.args.sources.now c.requires c.size_before-before.result c.size_after-after.result c.size_before-before.ensures.many c.size_before-before.ensures.longest c.size_after-after.ensures c.in-Long.ensures.0 c.in-Long.ensures.1,
  some_long c.args.sources.now c.requires c.size_before-before.result c.size_after-after.result c.size_before-before.ensures.many c.size_before-before.ensures.longest c.size_after-after.ensures c.in-Long.ensures.2,
)

pub returns-in-Long-clause-accepts : goal.returns-in-Long-clause-accepts
returns-in-Long-clause-accepts c = λ w.
    absurd (short_not_long c.args.sources.now c.requires w.1
    (some_long c.args.sources.now c.requires c.size_before-before.result c.size_after-after.result c.size_before-before.ensures.many c.size_before-before.ensures.longest c.size_after-after.ensures c.in-Long.ensures.2))

pub returns-in_ok-full-in-Fits-clause-fits : goal.returns-in_ok-full-in-Fits-clause-fits
returns-in_ok-full-in-Fits-clause-fits c = (
  are_few c.args.sources.now c.requires c.size_before-before.result c.size_after-after.result c.size_before-before.ensures.many c.size_before-before.ensures.longest c.size_after-after.ensures c.in-Fits.ensures.0 c.in-Fits.ensures.1,
  all_short c.args.sources.now c.requires c.size_before-before.result c.size_after-after.result c.size_before-before.ensures.many c.size_before-before.ensures.longest c.size_after-after.ensures c.in-Fits.ensures.2 c.in-Fits.ensures.3,
)
