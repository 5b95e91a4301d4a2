use Rattle.std.proofs.Common.{arith}
use Rattle.ts_transcript.specs.Told.{TellsOpening}
use Rattle.ts_transcript.proofs.PieceLemmas.{add_none, add_more, add_all}
use Rattle.ts_transcript.proofs.told.add_openings.Goals as goal

pub loop-document-init : goal.loop-document-init
loop-document-init c = add_none TellsOpening c.args.books.now c.args.out.now.items

pub loop-document-preserved : goal.loop-document-preserved
loop-document-preserved c =
    add_more TellsOpening c.args.books.now c.loop-document.document c.index-books-document.result c.args.out.now.items c.loop-document.out.items c.add_opening.new.out.items
    c.loop-document-test.true c.index-books-document.is c.in_ok-add_opening.ensures c.loop-document.invariant

pub returns : goal.returns
returns c = add_all TellsOpening c.args.books.now c.loop-document.document c.args.out.now.items c.loop-document.out.items (omega (arith, c.loop-document-test.false)) c.loop-document.invariant
