use Rattle.std.proofs.Common.{arith, map}
use Rattle.ts_core.specs.declared.flat.FlatGrammar.{FlatGrammar}
use Rattle.ts_docs.specs.Books.{as_entry}
use Rattle.spec_history.specs.Printed.{TellsEach}
use Rattle.ts_transcript.specs.Told.{TellsEntry, TellsAccepted}
use Rattle.ts_transcript.proofs.LineLemmas.{tells_as_well}
use Rattle.ts_transcript.proofs.PieceLemmas.{add_none, add_more, add_all, told_mapped}
use Rattle.ts_transcript.proofs.told.add_entries.Goals as goal

pub loop-number-init : goal.loop-number-init
loop-number-init c = add_none (λ g. TellsAccepted g c.args.document) c.args.accepted.now c.args.out.now.items

pub loop-number-preserved : goal.loop-number-preserved
loop-number-preserved c =
    add_more (λ g. TellsAccepted g c.args.document) c.args.accepted.now c.loop-number.number c.index-accepted-number.result c.args.out.now.items c.loop-number.out.items c.add_entry.new.out.items
    c.loop-number-test.true c.index-accepted-number.is c.in_ok-add_entry.ensures c.loop-number.invariant

pub returns : goal.returns
returns c =
    let list = c.args.accepted.now in
    let Kept = λ (g : FlatGrammar). TellsAccepted g c.args.document in
    let Entered = λ (g : FlatGrammar). TellsEntry g c.args.document in
    tells_as_well (λ g. TellsEach (Kept g) list) (λ g. TellsEach (Entered g) (map as_entry list)) c.args.out.now.items c.loop-number.out.items
    (λ g bytes told. told_mapped (Kept g) (Entered g) as_entry list bytes (λ n x piece here told. told) told)
    (add_all Kept list c.loop-number.number c.args.out.now.items c.loop-number.out.items (omega (arith, c.loop-number-test.false)) c.loop-number.invariant)
