use Rattle.std.proofs.Common.{◌-◌}
use Rattle.spec_matches.specs.Embedding.{Along}
use Rattle.ts_search.specs.Table.{Takes}
use Rattle.ts_search.proofs.AlongLemmas.{along_none}
use Rattle.ts_search.proofs.GainLemmas.{finds_exact}
use Rattle.ts_search.proofs.products.along.Goals as goal

pub returns-then-are_bare : goal.returns-then-are_bare
returns-then-are_bare c =
    finds_exact (Along (Takes c.args.table.now) c.args.k c.args.slot c.args.run.first (c.args.run.past - c.args.run.first) c.args.run.first) _ c.in_ok-none.none.items
    (along_none (Takes c.args.table.now) c.args.k c.args.slot c.args.run.first c.args.run.past c.in_ok-none.none.items c.requires c.in_ok-none.ensures (c.are_bare.ensures c.if-are_bare.true))
