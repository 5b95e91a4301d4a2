use Rattle.std.proofs.Common.{◌≡◌, ◌∙◌, sym, true, false, rules}
use Rattle.std.proofs.lemmas.List.{take_all}
use Rattle.std.proofs.lemmas.List.Elements.{Contains-get_or}
use Rattle.ts_table.specs.Candidates.{candidate_of, IsShiftPart}
use Rattle.ts_table.proofs.ListLemmas.{made_yes, made_no, made_all, false_not_true}
use Rattle.ts_table.proofs.candidates.shift_items.Goals as goal
use Rattle.ts_table.proofs.candidates.shift_items.Goals.{then-is_shift+in_ok-push, else-is_shift}

pub is_shift-requires : goal.is_shift-requires
is_shift-requires c = c.requires _ (Contains-get_or c.args.parts.now c.loop-part.part-index _ c.loop-part-test.true)

pub candidate_at-requires : goal.candidate_at-requires
candidate_at-requires c = c.requires _ (Contains-get_or c.args.parts.now c.loop-part.part-index _ c.loop-part-test.true)

pub loop-part-preserved : goal.loop-part-preserved
loop-part-preserved c g are = elim c.if-is_shift.branch [
  | then-is_shift+in_ok-push w ↦
      let test : c.is_shift.result ≡ true = search (rules, w.if-is_shift.true) in
      rw (w.found-is, w.in_ok-push.ensures.items)
      (made_yes (candidate_of g) (IsShiftPart g c.args.firsts.now c.args.token) c.args.parts.now c.loop-part.found.items c.loop-part.part-index _ w.candidate_at.result c.loop-part-test.true ((c.is_shift.ensures g are).0 test) (w.candidate_at.ensures g are) (c.loop-part.invariant g are))
  | else-is_shift w ↦
      let test : c.is_shift.result ≡ false = search (rules, w.if-is_shift.false) in
      rw w.found-is
      (made_no (candidate_of g) (IsShiftPart g c.args.firsts.now c.args.token) c.args.parts.now c.loop-part.found.items c.loop-part.part-index _ c.loop-part-test.true (λ h. false_not_true (sym test ∙ (c.is_shift.ensures g are).1 h)) (c.loop-part.invariant g are))
]

pub returns : goal.returns
returns c g are = made_all (candidate_of g) (IsShiftPart g c.args.firsts.now c.args.token) c.args.parts.now c.loop-part.found.items c.loop-part.part-index (take_all _ _ c.loop-part-test.false) (c.loop-part.invariant g are)
