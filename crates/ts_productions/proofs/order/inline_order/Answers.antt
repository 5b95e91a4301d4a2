use Rattle.std.proofs.Common.{◌∙◌, sym, subst, ap, List, ℕ, map}
use Rattle.ts_productions.specs.Grammars.{IsInlineOrder}
use Rattle.ts_productions.specs.Orders.{place_of}
use Rattle.ts_productions.proofs.RankLemmas.{inline_order}
use Rattle.ts_productions.proofs.order.inline_order.Goals as goal

pub returns : goal.returns
returns c x lists fall =
    subst (λ (places : List ℕ). IsInlineOrder c.args.grammar.now x places) (ap (map place_of) (sym c.as_slice.ensures.value) ∙ sym c.in_ok-places.ensures)
    (inline_order c.args.grammar.now x c.args.ranks.now c.in_ok-rules.rules.items c.sort_by_rank.new.rules.items lists fall c.in_ok-rules.ensures.ranks c.in_ok-rules.ensures.placed c.sort_by_rank.ensures.same c.sort_by_rank.ensures.sorted)
