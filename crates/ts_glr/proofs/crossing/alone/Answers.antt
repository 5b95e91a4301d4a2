use Rattle.ts_glr.proofs.CrossLemmas.{only_head}
use Rattle.ts_glr.proofs.crossing.alone.Goals as goal

pub returns-then-is_alone : goal.returns-then-is_alone
returns-then-is_alone c = (
  only_head c.args.spread.now.frontier.heads.items c.index.result.now (c.is_alone.ensures.one c.if-is_alone.true) c.index.ensures,
  c.is_alone.ensures.none c.if-is_alone.true,
  c.is_alone.ensures.past c.if-is_alone.true,
)
