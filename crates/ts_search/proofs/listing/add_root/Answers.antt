use Rattle.ts_search.proofs.VisitLemmas.{root_none, root_some}
use Rattle.ts_search.proofs.listing.add_root.Goals as goal

pub returns-then-n-gt0-clause-adds : goal.returns-then-n-gt0-clause-adds
returns-then-n-gt0-clause-adds g c = root_none c.args.sight.now (g.K.Keep.kept c.args.keep.now) c.args.number c.args.pattern.now c.args.n _ c.if-n-gt0.true

pub returns-clause-adds : goal.returns-clause-adds
returns-clause-adds g c = root_some c.args.sight.now (g.K.Keep.kept c.args.keep.now) c.args.number c.args.pattern.now c.args.n _ _ c.if-n-gt0.false c.in_ok-add_siblings.ensures.adds
