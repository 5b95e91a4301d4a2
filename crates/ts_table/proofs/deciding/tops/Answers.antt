use Rattle.std.proofs.Common.{◌≡◌, ◌∙◌, sym, true, false, rules}
use Rattle.std.proofs.lemmas.List.{take_all}
use Rattle.ts_table.specs.Deciding.{IsTopOf}
use Rattle.ts_table.proofs.ListLemmas.{some_yes, some_no, some_all, false_not_true}
use Rattle.ts_table.proofs.deciding.tops.Goals as goal
use Rattle.ts_table.proofs.deciding.tops.Goals.{then-is_top+in_ok-push, else-is_top}

pub loop-candidate-preserved : goal.loop-candidate-preserved
loop-candidate-preserved c = elim c.if-is_top.branch [
  | then-is_top+in_ok-push w ↦
      let test : c.is_top.result ≡ true = search (rules, w.if-is_top.true) in
      rw (w.kept-is, w.in_ok-push.ensures.items)
      (some_yes (IsTopOf c.args.grammar.now c.args.reductions.now) c.args.reductions.now c.loop-candidate.kept.items c.loop-candidate.candidate-index _ c.loop-candidate-test.true (c.is_top.ensures.0 test) c.loop-candidate.invariant)
  | else-is_top w ↦
      let test : c.is_top.result ≡ false = search (rules, w.if-is_top.false) in
      rw w.kept-is
      (some_no (IsTopOf c.args.grammar.now c.args.reductions.now) c.args.reductions.now c.loop-candidate.kept.items c.loop-candidate.candidate-index _ c.loop-candidate-test.true (λ h. false_not_true (sym test ∙ c.is_top.ensures.1 h)) c.loop-candidate.invariant)
]

pub returns : goal.returns
returns c = some_all (IsTopOf c.args.grammar.now c.args.reductions.now) c.args.reductions.now c.loop-candidate.kept.items c.loop-candidate.candidate-index (take_all _ _ c.loop-candidate-test.false) c.loop-candidate.invariant
