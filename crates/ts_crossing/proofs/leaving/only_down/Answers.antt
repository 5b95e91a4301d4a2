use Rattle.std.proofs.Common.{Some, None}
use Rattle.std.proofs.lemmas.Option.{slice_get_within}
use Rattle.ts_crossing.proofs.NumberLemmas.{first_found}
use Rattle.ts_crossing.proofs.DownLemmas.{none_first, none_alone, only_alone, first_at}
use Rattle.ts_crossing.proofs.leaving.only_down.Goals as goal

pub returns-in-None : goal.returns-in-None
returns-in-None c = none_first c.args.graph.now.links c.args.head (first_at c.args.graph.now.links c.args.head c.first_down.result None c.in-None.is c.first_down.ensures)

pub is_alone-requires : goal.is_alone-requires
is_alone-requires c =
    let f = first_found c.args.graph.now.links c.args.head c.in-Some.link (first_at c.args.graph.now.links c.args.head c.first_down.result (Some c.in-Some.link) c.in-Some.is c.first_down.ensures) in
    slice_get_within c.args.graph.now.links c.in-Some.link f.0 f.1

pub returns-then-is_alone : goal.returns-then-is_alone
returns-then-is_alone c = only_alone c.args.graph.now.links c.args.head c.in-Some.link (first_at c.args.graph.now.links c.args.head c.first_down.result (Some c.in-Some.link) c.in-Some.is c.first_down.ensures) (c.is_alone.ensures.yes c.if-is_alone.true)

pub returns-else-is_alone : goal.returns-else-is_alone
returns-else-is_alone c = none_alone c.args.graph.now.links c.args.head c.in-Some.link (first_at c.args.graph.now.links c.args.head c.first_down.result (Some c.in-Some.link) c.in-Some.is c.first_down.ensures) (c.is_alone.ensures.no c.if-is_alone.false)
