use Rattle.std.proofs.Common.{◌∙◌, sym, ap, refl, subst, List, ◌∷◌, [], length, Option, length-append, arith}
use Rattle.ts_lexer.specs.declared.ahead.RowPair.{RowPair}
use Rattle.ts_lexer.specs.declared.rules.Rules.{Rules}
use Rattle.ts_lexer.specs.Ahead.{contents_of, HavePairs}
use Rattle.ts_lexer.specs.Rules.{IsRules}
use Rattle.ts_lexer.proofs.AheadLemmas.{more_none, more_both, pairs_none, pairs_more}
use Rattle.ts_lexer.proofs.ahead.pairs_of.Goals as goal

pub loop-at-init : goal.loop-at-init
loop-at-init c = record {
  marks = refl;
  count = ap (λ (l : List (Option RowPair)). length l) c.new-pairs.ensures.items;
  more = more_none c.args.tables.now;
  pairs = λ g rules marks. subst (λ (l : List (Option RowPair)). HavePairs g c.args.tables.now (contents_of c.args.lists.now.keys) l) (sym c.new-pairs.ensures.items)
      (pairs_none g c.args.tables.now (contents_of c.args.lists.now.keys));
}

pub loop-at-preserved : goal.loop-at-preserved
loop-at-preserved c =
    let inv = c.loop-at.invariant in
    let grows = c.in_ok-pair.ensures.grows in
    record {
      marks = c.look.ensures.marks ∙ inv.marks;
      count = (
          let e = ap (λ (l : List (Option RowPair)). length l) c.in_ok-push.ensures.items in
          let f = length-append c.loop-at.pairs.items (c.in_ok-pair.pair ∷ []) in
          let n = inv.count in
          omega arith
          );
      more = more_both c.args.tables.now c.loop-at.tables c.pair_of.new.tables inv.more grows;
      pairs = λ g rules marks.
          let here = subst (λ (r : Rules). IsRules g r) (sym inv.more.rules) rules in
          let seen = c.look.ensures.view g here (inv.marks ∙ marks) in
          subst (λ (l : List (Option RowPair)). HavePairs g c.pair_of.new.tables (contents_of c.args.lists.now.keys) l) (sym c.in_ok-push.ensures.items)
          (pairs_more g c.loop-at.tables c.pair_of.new.tables (contents_of c.args.lists.now.keys) c.loop-at.pairs.items c.loop-at.at c.list_at.result.now c.in_ok-pair.pair inv.count grows c.list_at.ensures
          (λ p e. c.in_ok-pair.ensures.pair g c.list_at.result.now p e here seen) (inv.pairs g rules marks));
    }
