use Rattle.std.proofs.Common.{◌≡◌, ◌∙◌, sym, ap, subst, ℕ, length, rules}
use Rattle.std.proofs.lemmas.Iterator.Adapters.{YieldsList-from_vec}
use Rattle.std.proofs.lemmas.Iterator.Consumers.{YieldsList-end}
use Rattle.std.specs.Vec.Iter.{into_iter_len}
use Rattle.ts_workers.specs.Fronts.{IsLent}
use Rattle.ts_workers.specs.Openings.{AreParsed}
use Rattle.ts_workers.proofs.OpenLemmas.{both_grow, none_opened, opened_more, none_left, left_more, map_same}
use Rattle.ts_workers.proofs.opening.opened.Goals as goal

pub loop-parsed-init : goal.loop-parsed-init
loop-parsed-init g c = record {
  count = ap (λ l. length l) c.in_ok-fronts.ensures.items;
  fronts = none_opened c.args.table.now c.args.plan.now c.in_ok-shelves.shelves.items c.in_ok-fronts.fronts.items c.in_ok-shelves.ensures.items c.in_ok-fronts.ensures.items;
  lexers = none_left c.args.table.now c.in_ok-lexers.lexers.items c.in_ok-lexers.ensures.items;
}

pub loop-parsed-preserved : goal.loop-parsed-preserved
loop-parsed-preserved g c =
    let number : c.len-number.result ≡ length c.loop-parsed.fronts.items = c.len-number.ensures ∙ c.loop-parsed.fronts.ok.0 in
    record {
      count = both_grow c.loop-parsed.fronts.items _ c.in_ok-shelf.front c.loop-parsed.yielded c.in-Some.parsed c.in_ok-push-2.ensures.items c.loop-parsed.invariant.count;
      fronts = opened_more c.args.table.now c.args.plan.now c.loop-parsed.shelves.items _ c.loop-parsed.fronts.items _ c.loop-parsed.yielded c.in-Some.parsed c.in_ok-lexer.field-0 c.in_ok-shelf.shelf c.in_ok-shelf.front
          c.in_ok-push.ensures.items c.in_ok-push-2.ensures.items c.in_ok-lexer.was c.loop-parsed.invariant.fronts
          (λ text. c.in_ok-shelf.ensures.front c.args.table.now text)
          (subst (λ (n : ℕ). IsLent c.args.plan.now n 0 c.in_ok-shelf.front.pass.knows) number c.in_ok-shelf.ensures.lent);
      lexers = left_more c.args.table.now c.loop-parsed.lexers.items _ c.loop-parsed.yielded c.in-Some.parsed c.in_ok-lexer.field-0 c.in_ok-push-3.ensures.items c.in_ok-lexer.was c.loop-parsed.invariant.lexers;
    }

pub returns-clause-fronts : goal.returns-clause-fronts
returns-clause-fronts g c =
    let len : into_iter_len c.into_iter-parsed-iterator.result ≡ length c.in_ok-all.all.items = search rules in
    let road = YieldsList-from_vec c.in_ok-all.all.items c.into_iter-parsed-iterator.ensures.into_iter_gives.0 len in
    let end = YieldsList-end road c.loop-parsed.yielded c.loop-parsed.parsed-iterator c.loop-parsed.yielded_by c.next.result c.next.new.self c.in-None.is c.next.ensures.steps in
    let whole : c.loop-parsed.yielded ≡ c.in_ok-all.all.items = sym (map_same c.loop-parsed.yielded) ∙ end.0 in
    c.loop-parsed.invariant.fronts c.args.openings.items (subst (λ l. AreParsed c.args.table.now c.args.openings.items l) (sym whole) c.in_ok-all.ensures)

pub returns-clause-lexers : goal.returns-clause-lexers
returns-clause-lexers g c =
    let len : into_iter_len c.into_iter-parsed-iterator.result ≡ length c.in_ok-all.all.items = search rules in
    let road = YieldsList-from_vec c.in_ok-all.all.items c.into_iter-parsed-iterator.ensures.into_iter_gives.0 len in
    let end = YieldsList-end road c.loop-parsed.yielded c.loop-parsed.parsed-iterator c.loop-parsed.yielded_by c.next.result c.next.new.self c.in-None.is c.next.ensures.steps in
    let whole : c.loop-parsed.yielded ≡ c.in_ok-all.all.items = sym (map_same c.loop-parsed.yielded) ∙ end.0 in
    c.loop-parsed.invariant.lexers c.args.openings.items (subst (λ l. AreParsed c.args.table.now c.args.openings.items l) (sym whole) c.in_ok-all.ensures)
