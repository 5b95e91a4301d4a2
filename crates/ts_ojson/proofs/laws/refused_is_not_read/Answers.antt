use Rattle.ts_ojson.proofs.LawLemmas.{refused_not_read}
use Rattle.ts_ojson.proofs.laws.refused_is_not_read.Goals as goal

pub returns : goal.returns
returns c e v w m f h = refused_not_read e v w m f h
