use Rattle.std.proofs.Common.{get_or}
use Rattle.std.proofs.lemmas.Option.{slice_get-get_or}
use Rattle.ts_rules.specs.declared.tree.Tree.{Tree}
use Rattle.ts_productions.proofs.ProductionLemmas.{once_few, again_few, content_is}
use Rattle.ts_productions.proofs.productions.repetition_productions.Goals as goal

pub content_productions-requires-clause-once : goal.content_productions-requires-clause-once
content_productions-requires-clause-once c =
    let tree : Tree = get_or c.args.sources.now.contents.now c.args.place c.index-sources-place.result in
    once_few c.args.sources.now c.requires.ordered c.requires.fits c.args.place tree (slice_get-get_or c.args.sources.now.contents.now c.args.place c.index-sources-place.result c.requires.place)

pub content_productions-requires-clause-again : goal.content_productions-requires-clause-again
content_productions-requires-clause-again c =
    let tree : Tree = get_or c.args.sources.now.contents.now c.args.place c.index-sources-place.result in
    again_few c.args.sources.now c.requires.ordered c.requires.fits c.args.place c.repetition_number-number.result tree
    (slice_get-get_or c.args.sources.now.contents.now c.args.place c.index-sources-place.result c.requires.place) c.repetition_number-number.ensures

pub returns : goal.returns
returns c n x content of there =
    let tree : Tree = get_or c.args.sources.now.contents.now c.args.place c.index-sources-place.result in
    content_is n x c.args.sources.now of c.args.place c.repetition_number-number.result tree content c.in_ok-found.found
    (slice_get-get_or c.args.sources.now.contents.now c.args.place c.index-sources-place.result c.requires.place) there c.repetition_number-number.ensures c.in_ok-found.ensures
