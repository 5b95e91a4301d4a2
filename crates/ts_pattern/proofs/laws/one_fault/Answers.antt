use Rattle.ts_pattern.proofs.LawLemmas as law
use Rattle.ts_pattern.proofs.laws.one_fault.Goals as goal

pub returns : goal.returns
returns c e f w ignore_case m n g h = law.one_fault e f w ignore_case m n g h
