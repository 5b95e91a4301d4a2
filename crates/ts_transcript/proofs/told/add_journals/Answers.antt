use Rattle.std.proofs.Common.{arith}
use Rattle.ts_transcript.specs.Told.{TellsJournal}
use Rattle.ts_transcript.proofs.PieceLemmas.{add_none, add_more, add_all}
use Rattle.ts_transcript.proofs.told.add_journals.Goals as goal

pub loop-document-init : goal.loop-document-init
loop-document-init c = add_none TellsJournal c.args.books.now c.args.out.now.items

pub loop-document-preserved : goal.loop-document-preserved
loop-document-preserved c =
    add_more TellsJournal c.args.books.now c.loop-document.document c.index-books-document.result c.args.out.now.items c.loop-document.out.items c.add_journal.new.out.items
    c.loop-document-test.true c.index-books-document.is c.in_ok-add_journal.ensures c.loop-document.invariant

pub returns : goal.returns
returns c = add_all TellsJournal c.args.books.now c.loop-document.document c.args.out.now.items c.loop-document.out.items (omega (arith, c.loop-document-test.false)) c.loop-document.invariant
