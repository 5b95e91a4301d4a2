use Rattle.std.proofs.Common.{arith, refl}
use Rattle.std.proofs.lemmas.Option.{slice_get_read}
use Rattle.ts_search.proofs.SingleLemmas.{only_one}
use Rattle.ts_search.proofs.taking.lone.Goals as goal

pub returns : goal.returns
returns c = record {
  item = c.index-items-0.result;
  is_it = only_one c.args.items.now c.index-items-0.result (omega (arith, c.if-items-ne1.false)) (slice_get_read c.args.items.now _ 0 c.index-items-0.result refl (omega (arith, c.if-items-ne1.false)) c.index-items-0.is);
  once = c.is_once.ensures c.if-not-is_once.false;
  behind = refl;
}
