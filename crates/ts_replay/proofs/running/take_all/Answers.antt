use Rattle.std.proofs.Common.{◌≡◌, ◌∙◌, ap, subst, ℕ, suc, ◌+◌, ◌<◌, List, ◌∷◌, length, drop, get_or, arith, rules}
use Rattle.std.proofs.Math.Seq.{drop-cons}
use Rattle.ts_replay.specs.Running.{IsRunAt}
use Rattle.ts_replay.proofs.running.take_all.Goals as goal

pub loop-client-preserved : goal.loop-client-preserved
loop-client-preserved g c = record {
  lexer = c.take_next.ensures.lexer;
  kept = c.take_next.ensures.kept;
  can = c.take_next.ensures.can;
  runs = λ plan openings at.
      let there : c.loop-client.client-index < length c.args.order.now = search rules in
      let one : suc c.loop-client.client-index ≡ c.loop-client.client-index + 1 = omega arith in
      c.take_next.ensures.runs plan openings c.args.order.now (drop (c.loop-client.client-index + 1) c.args.order.now)
      (subst (λ (l : List ℕ). IsRunAt (g.F.Finder.finds c.args.finder.now) plan openings c.args.order.now l c.args.table.now c.loop-client.documents.items c.loop-client.clients.items)
      (drop-cons c.args.order.now c.loop-client.client-index 0 there
      ∙ ap (λ (n : ℕ). get_or c.args.order.now c.loop-client.client-index 0 ∷ drop n c.args.order.now) one)
      (c.loop-client.invariant.runs plan openings at));
}
