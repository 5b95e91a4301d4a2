use Rattle.ts_search.proofs.NodeLemmas.{not_taken}
use Rattle.ts_search.proofs.listing.add_node.Goals as goal

pub returns-then-not-may_take-clause-adds : goal.returns-then-not-may_take-clause-adds
returns-then-not-may_take-clause-adds g c =
    not_taken c.args.sight.now (g.K.Keep.kept c.args.keep.now) c.args.number c.args.item.now c.args.pattern.now c.requires.alone c.args.n c.may_take.result c.may_take.ensures c.if-not-may_take.true _
