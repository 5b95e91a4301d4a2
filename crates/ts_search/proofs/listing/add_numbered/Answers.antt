use Rattle.std.proofs.Common.{refl}
use Rattle.std.proofs.lemmas.Option.{slice_get_read, slice_get_within}
use Rattle.ts_search.proofs.IndexLemmas.{root_at}
use Rattle.ts_search.proofs.VisitLemmas.{of_number}
use Rattle.ts_search.proofs.listing.add_numbered.Goals as goal

pub add_pattern-requires-clause-root : goal.add_pattern-requires-clause-root
add_pattern-requires-clause-root g c =
    root_at c.args.patterns.now c.args.root c.args.number c.index-patterns-number.result c.requires.root (slice_get_read c.args.patterns.now _ c.args.number c.index-patterns-number.result refl (slice_get_within c.args.patterns.now c.args.number c.requires.root.0 c.requires.root.1) c.index-patterns-number.is)

pub returns-clause-adds : goal.returns-clause-adds
returns-clause-adds g c =
    of_number c.args.sight.now (g.K.Keep.kept c.args.keep.now) c.args.patterns.now c.args.root c.args.n c.args.number c.index-patterns-number.result _ _
    (slice_get_read c.args.patterns.now _ c.args.number c.index-patterns-number.result refl (slice_get_within c.args.patterns.now c.args.number c.requires.root.0 c.requires.root.1) c.index-patterns-number.is) c.in_ok-add_pattern.ensures.adds
