use Rattle.ts_productions.proofs.FormLemmas.{few, rule_short, content_short}
use Rattle.ts_productions.proofs.laws.few_productions.Goals as goal

pub returns-clause-few : goal.returns-clause-few
returns-clause-few c n x s own repeated of ordered fits are_own are_repeated = few n x s of ordered own repeated fits are_own are_repeated

pub returns-clause-short : goal.returns-clause-short
returns-clause-short c n x s rule found p of ordered short here have w = rule_short n x s of ordered rule found p short here have w

pub returns-clause-repeated_short : goal.returns-clause-repeated_short
returns-clause-repeated_short c n x s content found p of ordered short here have w = content_short n x s of ordered content found p short here have w
