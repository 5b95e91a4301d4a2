use Rattle.std.proofs.Common.{subst}
use Rattle.ts_rules.specs.Alternatives.{Alternatives}
use Rattle.ts_rules.specs.Productions.{AllBecome, IsInner}
use Rattle.ts_productions.specs.Roots.{roots_of}
use Rattle.ts_productions.proofs.BecomeLemmas.{expand_all}
use Rattle.ts_productions.proofs.GrammarLemmas.{many_same, long_same, become_of, roots_same}
use Rattle.ts_productions.proofs.LimitLemmas.{few_not_many, short_not_long, gives, table}
use Rattle.ts_productions.proofs.laws.limits_of_sources.Goals as goal

pub returns-clause-many : goal.returns-clause-many
returns-clause-many c n x s of = many_same n x s of

pub returns-clause-long : goal.returns-clause-long
returns-clause-long c n x s of = long_same n x s of

pub returns-clause-becomes : goal.returns-clause-becomes
returns-clause-becomes c n x s of ordered =
    let all : Alternatives = expand_all (table s ordered) (roots_of s) in
    (all, subst (λ (xs : Alternatives). AllBecome (IsInner n x) xs all) (roots_same n x s of) (become_of n x s of (roots_of s) all (gives s ordered (roots_of s))))

pub returns-clause-few : goal.returns-clause-few
returns-clause-few c s ordered few many = few_not_many s ordered few many

pub returns-clause-short : goal.returns-clause-short
returns-clause-short c s ordered short long = short_not_long s ordered short long
