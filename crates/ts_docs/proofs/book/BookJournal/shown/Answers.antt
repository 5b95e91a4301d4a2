use Rattle.std.proofs.Common.{◌≡◌, ◌∙◌, ap, sym, subst, suc, ◌-◌, length, List, map, Some, IfOk, arith}
use Rattle.std.specs.List.{slice_get}
use Rattle.ts_docs.proofs.LatestLemmas.{latest_of_last}
use Rattle.ts_docs.specs.Books.{pages, as_entry}
use Rattle.ts_docs.specs.Steps.{newest}
use Rattle.ts_docs.specs.declared.parsed.ParsedText.{ParsedText}
use Rattle.ts_docs.specs.declared.parsed.Pages.{Pages}
use Rattle.ts_docs.specs.declared.book.Accepted.{Accepted}
use Rattle.ts_docs.proofs.book.BookJournal.shown.Goals as goal

-- src/book.rt:115:5
pub returns-in-Some : goal.returns-in-Some
returns-in-Some c =
    let xs = c.as_slice.result.now in
    let last : Some c.in-Some.last.now ≡ slice_get xs (length xs - 1) = c.in-Some.ensures.value in
    let count : suc (length xs - 1) ≡ length xs = omega (arith, c.in-Some.ensures.item.3.0) in
    let on_slice = latest_of_last c.self.inside.opening xs (length xs - 1) c.in-Some.last.now count last in
    let on_items = ap (λ (ys : List Accepted). newest (pages c.self.inside.opening (map as_entry ys)
    c.self.inside.room)) c.as_slice.ensures.value in
    let same = ap (λ (b : Pages). newest b) c.self.view_is in
    subst (λ (v : ParsedText). IfOk c.try_clone.result (λ s. s ≡ v)) (sym on_slice ∙ on_items ∙ same)
    c.try_clone.ensures
