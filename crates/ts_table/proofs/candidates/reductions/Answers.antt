use Rattle.std.proofs.Common.{◌≡◌, ◌∙◌, sym, true, false, rules}
use Rattle.std.proofs.lemmas.List.{take_all}
use Rattle.std.proofs.lemmas.List.Elements.{Contains-get_or}
use Rattle.ts_items.specs.declared.part.Part.{Part}
use Rattle.ts_items.specs.Sets.{HasAt}
use Rattle.ts_table.specs.Candidates.{candidate_of}
use Rattle.ts_table.proofs.ListLemmas.{made_yes, made_no, made_all, false_not_true}
use Rattle.ts_table.proofs.candidates.reductions.Goals as goal
use Rattle.ts_table.proofs.candidates.reductions.Goals.{then-pool_has+in_ok-push, else-pool_has}

pub candidate_at-requires : goal.candidate_at-requires
candidate_at-requires c = c.requires _ (Contains-get_or c.args.complete.now c.loop-part.part-index _ c.loop-part-test.true)

pub loop-part-preserved : goal.loop-part-preserved
loop-part-preserved c g are = elim c.if-pool_has.branch [
  | then-pool_has+in_ok-push w ↦
      let test : c.pool_has.result ≡ true = search (rules, w.if-pool_has.true) in
      rw (w.found-is, w.in_ok-push.ensures.items)
      (made_yes (candidate_of g) (λ (q : Part). HasAt c.args.pool.now.keys q.tokens c.args.token) c.args.complete.now c.loop-part.found.items c.loop-part.part-index _ w.candidate_at.result c.loop-part-test.true (c.pool_has.ensures.0 test) (w.candidate_at.ensures g are) (c.loop-part.invariant g are))
  | else-pool_has w ↦
      let test : c.pool_has.result ≡ false = search (rules, w.if-pool_has.false) in
      rw w.found-is
      (made_no (candidate_of g) (λ (q : Part). HasAt c.args.pool.now.keys q.tokens c.args.token) c.args.complete.now c.loop-part.found.items c.loop-part.part-index _ c.loop-part-test.true (λ h. false_not_true (sym test ∙ c.pool_has.ensures.1 h)) (c.loop-part.invariant g are))
]

pub returns : goal.returns
returns c g are = made_all (candidate_of g) (λ (q : Part). HasAt c.args.pool.now.keys q.tokens c.args.token) c.args.complete.now c.loop-part.found.items c.loop-part.part-index (take_all _ _ c.loop-part-test.false) (c.loop-part.invariant g are)
