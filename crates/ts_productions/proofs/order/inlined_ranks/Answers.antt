use Rattle.std.proofs.Common.{◌≡◌, ◌∙◌, sym, ap, subst, length, List, [], take, get_or, slice_get, Some, ◌<◌, ◌≤◌, ◌+◌, arith}
use Rattle.std.proofs.lemmas.Option.{slice_get-get_or}
use Rattle.ts_rules.specs.Names.{told}
use Rattle.ts_rules.specs.Sights.{NamedRule}
use Rattle.ts_productions.specs.declared.order.Ranked.{Ranked}
use Rattle.ts_productions.specs.Orders.{ArePlaced, AreRanksAmong}
use Rattle.ts_productions.proofs.RankLemmas.{ranks_begin, placed_begin, ranks_step, ranks_end, placed_step}
use Rattle.ts_productions.proofs.order.inlined_ranks.Goals as goal

pub loop-at-init : goal.loop-at-init
loop-at-init c = record {
  ranks = subst (λ (fs : List Ranked). AreRanksAmong c.args.grammar.now [] [] fs) (sym c.new-found.ensures.items) (ranks_begin c.args.grammar.now);
  placed = subst ArePlaced (sym c.new-found.ensures.items) placed_begin;
}

pub loop-at-preserved : goal.loop-at-preserved
loop-at-preserved c =
    let rule : NamedRule = get_or c.as_slice-rules.result.now c.loop-at.at c.index-rules-at.result in
    let lt : c.loop-at.at < length c.args.grammar.now.rules = subst (λ (rules : List NamedRule). c.loop-at.at < length rules) c.as_slice-rules.ensures c.loop-at-test.true in
    let is : slice_get c.args.grammar.now.rules c.loop-at.at ≡ Some rule =
    ap (λ (rules : List NamedRule). slice_get rules c.loop-at.at) (sym c.as_slice-rules.ensures) ∙ slice_get-get_or c.as_slice-rules.result.now c.loop-at.at c.index-rules-at.result c.loop-at-test.true in
    let below : c.loop-at.at < length c.args.ranks.now = (let same = c.requires.ranks in omega (arith, lt, same)) in
    record {
      ranks = subst (λ (fs : List Ranked). AreRanksAmong c.args.grammar.now (take (c.loop-at.at + 1) c.args.grammar.now.rules) (take (c.loop-at.at + 1) c.args.ranks.now) fs) (sym c.in_ok-push_ranked.ensures)
          (ranks_step c.args.grammar.now c.args.ranks.now c.loop-at.at rule (get_or c.args.ranks.now c.loop-at.at 0) c.loop-at.found.items lt c.requires.ranks is (slice_get-get_or c.args.ranks.now c.loop-at.at 0 below)
          (told c.args.inline.now.keys) c.is_among-inlined.result (length c.loop-at.found.items) c.is_among-inlined.ensures c.requires.inline c.loop-at.invariant.ranks);
      placed = subst ArePlaced (sym c.in_ok-push_ranked.ensures) (placed_step c.loop-at.found.items c.is_among-inlined.result (get_or c.args.ranks.now c.loop-at.at 0) c.loop-at.invariant.placed);
    }

pub returns-clause-ranks : goal.returns-clause-ranks
returns-clause-ranks c = ranks_end c.args.grammar.now c.args.ranks.now c.loop-at.at c.loop-at.found.items
    (subst (λ (rules : List NamedRule). length rules ≤ c.loop-at.at) c.as_slice-rules.ensures c.loop-at-test.false) c.requires.ranks c.loop-at.invariant.ranks
