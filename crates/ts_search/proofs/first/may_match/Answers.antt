use Rattle.std.proofs.Common.{refl}
use Rattle.ts_search.proofs.FirstLemmas.{by_first}
use Rattle.ts_search.proofs.first.may_match.Goals as goal

pub returns-in-Some : goal.returns-in-Some
returns-in-Some c = by_first c.args.sight.now c.args.pattern.now c.args.n c.in-Some.item.now c.may_take_child.result c.in-Some.ensures c.may_take_child.ensures

pub returns-in-None : goal.returns-in-None
returns-in-None c = λ children f kids embeds. refl
