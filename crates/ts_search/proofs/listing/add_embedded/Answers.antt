use Rattle.ts_search.proofs.LimitLemmas.{hits_in}
use Rattle.ts_search.proofs.listing.add_embedded.Goals as goal

pub returns-clause-adds : goal.returns-clause-adds
returns-clause-adds g c = hits_in c.args.sight.now (g.K.Keep.kept c.args.keep.now) c.args.number c.args.pattern.now c.args.siblings.now _ _ c.in_ok-found.found.items _ _ (rw c.as_slice.ensures at c.in_ok-found.ensures) c.in_ok-add_matches.ensures.adds
