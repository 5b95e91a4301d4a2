use Rattle.ts_pattern.proofs.LawLemmas.{one_read}
use Rattle.ts_pattern.proofs.laws.one_pattern.Goals as goal

pub returns : goal.returns
returns c r q w ignore_case g h = one_read r q w ignore_case g h
