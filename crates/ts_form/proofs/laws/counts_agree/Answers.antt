use Rattle.ts_form.proofs.CountLemmas.{counts_many, counts_long}
use Rattle.ts_form.proofs.laws.counts_agree.Goals as goal

pub returns-clause-many : goal.returns-clause-many
returns-clause-many c g n x defined lists numbers h = counts_many g n x defined lists numbers h

pub returns-clause-long : goal.returns-clause-long
returns-clause-long c g n x defined lists numbers h = counts_long g n x defined lists numbers h
