use Rattle.ts_ojson.proofs.CodeLemmas.{leading_is}
use Rattle.ts_ojson.proofs.gathered.leading_bytes.Goals as goal

pub returns : goal.returns
returns c = leading_is c.args.bytes.now _ _ _ _ _ _ _ _ _ c.byte_or_zero.ensures c.byte_or_zero-2.ensures c.byte_or_zero-3.ensures c.byte_or_zero-4.ensures c.byte_or_zero-5.ensures c.byte_or_zero-6.ensures c.byte_or_zero-7.ensures c.byte_or_zero-8.ensures c.from_be_bytes.ensures
