use Rattle.ts_ojson.proofs.LawLemmas as law
use Rattle.ts_ojson.proofs.laws.one_fault.Goals as goal

pub returns : goal.returns
returns c e f w m n g h = law.one_fault e f w m n g h
