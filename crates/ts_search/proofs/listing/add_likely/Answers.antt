use Rattle.ts_search.specs.Rows.{seen_row}
use Rattle.ts_search.proofs.VisitLemmas.{unlikely}
use Rattle.std.proofs.lemmas.Option.{slice_get_within}
use Rattle.ts_search.proofs.listing.add_likely.Goals as goal

pub returns-then-not-may_be-clause-adds : goal.returns-then-not-may_be-clause-adds
returns-then-not-may_be-clause-adds g c =
    unlikely c.args.sight.now (g.K.Keep.kept c.args.keep.now) c.args.patterns.now c.args.group.now c.args.n (seen_row c.args.row) c.requires.roots c.requires.node (λ may. let t = c.may_be.ensures.1 may in let f = c.if-not-may_be.true in cc) _

pub add_group-requires-clause-inside : goal.add_group-requires-clause-inside
add_group-requires-clause-inside g c = slice_get_within c.args.sight.now.nodes c.args.n (seen_row c.args.row) c.requires.node
