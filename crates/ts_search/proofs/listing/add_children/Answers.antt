use Rattle.ts_search.proofs.FirstLemmas.{not_under}
use Rattle.ts_search.proofs.HitLemmas.{hits_under}
use Rattle.ts_search.proofs.listing.add_children.Goals as goal

pub returns-then-not-may_match-clause-adds : goal.returns-then-not-may_match-clause-adds
returns-then-not-may_match-clause-adds g c =
    not_under c.args.sight.now c.args.pattern.now c.args.n (g.K.Keep.kept c.args.keep.now) c.args.number c.may_match.result c.may_match.ensures c.if-not-may_match.true _

pub returns-clause-adds : goal.returns-clause-adds
returns-clause-adds g c =
    hits_under c.args.sight.now (g.K.Keep.kept c.args.keep.now) c.args.number c.args.pattern.now c.args.n c.in_ok-children.children.items _ _ c.in_ok-children.ensures (rw c.as_slice.ensures.value at c.in_ok-add_siblings.ensures.adds)
