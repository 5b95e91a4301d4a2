use Rattle.std.proofs.Common.{slice_index_or}
use Rattle.std.proofs.lemmas.List.Elements.{Contains-get_or}
use Rattle.spec_matches.specs.declared.found.Capture.{Capture}
use Rattle.ts_predicate.proofs.judging.texts.Goals as goal

abbrev none : Capture
none = record { node = 0; name = 0; start = 0; end = 0 }

pub slice-requires-clause-ordered : goal.slice-requires-clause-ordered
slice-requires-clause-ordered c =
    (c.requires.within.1 (slice_index_or c.args.captures.now c.loop-capture.capture-index none) (Contains-get_or c.args.captures.now c.loop-capture.capture-index none c.loop-capture-test.true)).ordered

pub slice-requires-clause-from : goal.slice-requires-clause-from
slice-requires-clause-from c =
    (c.requires.within.1 (slice_index_or c.args.captures.now c.loop-capture.capture-index none) (Contains-get_or c.args.captures.now c.loop-capture.capture-index none c.loop-capture-test.true)).start_on

pub slice-requires-clause-to : goal.slice-requires-clause-to
slice-requires-clause-to c =
    (c.requires.within.1 (slice_index_or c.args.captures.now c.loop-capture.capture-index none) (Contains-get_or c.args.captures.now c.loop-capture.capture-index none c.loop-capture-test.true)).end_on
