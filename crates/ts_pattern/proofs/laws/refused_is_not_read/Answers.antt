use Rattle.ts_pattern.proofs.LawLemmas.{fault_or_read}
use Rattle.ts_pattern.proofs.laws.refused_is_not_read.Goals as goal

pub returns : goal.returns
returns c e r w ignore_case m g h = fault_or_read e r w ignore_case m g h
