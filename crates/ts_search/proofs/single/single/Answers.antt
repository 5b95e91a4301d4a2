use Rattle.std.proofs.Common.{arith}
use Rattle.ts_search.proofs.SingleLemmas.{only_one}
use Rattle.ts_search.proofs.single.single.Goals as goal

pub returns : goal.returns
returns c = record {
  is_it = only_one c.args.pattern.now.items c.get-item.result.now (omega (arith, c.len.ensures, c.if-len-ne1.false)) c.get-item.ensures;
  unclosed = c.if-pattern.false;
  single = c.is_single.ensures c.if-not-is_single.false;
}
