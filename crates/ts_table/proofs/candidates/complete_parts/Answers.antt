use Rattle.std.proofs.Common.{◌≡◌, true, false, rules}
use Rattle.std.proofs.lemmas.List.{take_all}
use Rattle.std.proofs.lemmas.List.Elements.{Contains-get_or}
use Rattle.ts_table.specs.Candidates.{IsCompletePart}
use Rattle.ts_table.proofs.ListLemmas.{some_yes, some_no, some_all, false_not_true}
use Rattle.std.proofs.Common.{◌∙◌, sym}
use Rattle.ts_table.proofs.candidates.complete_parts.Goals as goal
use Rattle.ts_table.proofs.candidates.complete_parts.Goals.{then-is_complete+in_ok-push, else-is_complete}

pub is_complete-requires : goal.is_complete-requires
is_complete-requires c = c.requires _ (Contains-get_or c.args.parts.now c.loop-part.part-index _ c.loop-part-test.true)

pub loop-part-preserved : goal.loop-part-preserved
loop-part-preserved c g are = elim c.if-is_complete.branch [
  | then-is_complete+in_ok-push w ↦
      let test : c.is_complete.result ≡ true = search (rules, w.if-is_complete.true) in
      rw (w.complete-is, w.in_ok-push.ensures.items)
      (some_yes (IsCompletePart g) c.args.parts.now c.loop-part.complete.items c.loop-part.part-index _ c.loop-part-test.true ((c.is_complete.ensures g are).0 test) (c.loop-part.invariant g are))
  | else-is_complete w ↦
      let test : c.is_complete.result ≡ false = search (rules, w.if-is_complete.false) in
      rw w.complete-is
      (some_no (IsCompletePart g) c.args.parts.now c.loop-part.complete.items c.loop-part.part-index _ c.loop-part-test.true (λ h. false_not_true (sym test ∙ (c.is_complete.ensures g are).1 h)) (c.loop-part.invariant g are))
]

pub returns : goal.returns
returns c g are = some_all (IsCompletePart g) c.args.parts.now c.loop-part.complete.items c.loop-part.part-index (take_all _ _ c.loop-part-test.false) (c.loop-part.invariant g are)
