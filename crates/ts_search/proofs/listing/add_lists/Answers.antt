use Rattle.ts_search.proofs.VisitLemmas.{beside}
use Rattle.ts_search.proofs.listing.add_lists.Goals as goal

pub returns-clause-adds : goal.returns-clause-adds
returns-clause-adds g c =
    beside c.args.sight.now (g.K.Keep.kept c.args.keep.now) c.args.number c.args.pattern.now c.args.n _ _ _ c.in_ok-add_root.ensures.adds (rw c.in_ok-add_root.ensures.same at c.in_ok-add_children.ensures.adds)
