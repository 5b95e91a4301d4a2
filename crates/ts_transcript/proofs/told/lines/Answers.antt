use Rattle.std.proofs.Common.{subst, List, []}
use Rattle.spec_history.specs.Printed.{TellsEach}
use Rattle.ts_transcript.specs.declared.line.RunLine.{RunLine}
use Rattle.ts_transcript.specs.Told.{AddsLines, TellsOpening}
use Rattle.ts_transcript.proofs.RunLemmas.{run_told}
use Rattle.ts_transcript.proofs.told.lines.Goals as goal

pub returns : goal.returns
returns c =
    let books = c.args.books.now in
    let first = c.add_openings.new.out.items in
    let opened : AddsLines (λ g. TellsEach (TellsOpening g) books) [] first =
    subst (λ (start : List RunLine). AddsLines (λ g. TellsEach (TellsOpening g) books) start first) c.new-out.ensures.items c.in_ok-add_openings.ensures in
    run_told books c.args.replies.now first c.add_journals.new.out.items c.add_clients.new.out.items opened c.in_ok-add_journals.ensures c.in_ok-add_clients.ensures
