use Rattle.std.proofs.Common.{get_or, length, ◌-◌, arith}
use Rattle.std.proofs.lemmas.Option.{slice_get-get_or}
use Rattle.ts_search.proofs.index.last_of.Goals as goal

pub returns : goal.returns
returns c = (
  get_or c.args.groups.now (length c.args.groups.now - 1) c.index-groups-count.result,
  slice_get-get_or c.args.groups.now (length c.args.groups.now - 1) c.index-groups-count.result (omega (arith, c.if-count-eq0.false)),
  c.is_same.ensures c.if-not-is_same.false,
)
