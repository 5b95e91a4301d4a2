use Rattle.std.proofs.Common.{◌≡◌, ◌+◌, sym, subst, ℕ, List, [], true, rules, arith}
use Rattle.std.proofs.lemmas.Option.{slice_get_within}
use Rattle.spec_grammar.specs.Symbols.{start_symbol}
use Rattle.ts_table.specs.Rows.{HoldsList, AreListPlaces, IsLeastTo}
use Rattle.ts_table.proofs.BuildLemmas.{holds_grown, grows_not, grows_both, places_begin, places_more, list_on, least_more}
use Rattle.ts_table.proofs.IdleLemmas.{idle_row, idle_least}
use Rattle.ts_table.proofs.building.token_row.Goals as goal

pub loop-token-init : goal.loop-token-init
loop-token-init c = record {
  grows = grows_not c.place_of_list.new.lists.keys;
  row = places_begin c.args.grammar.now c.args.items.now c.args.set.now.at c.place_of_list.new.lists.keys c.new-row.result.items c.new-row.ensures.items;
  least = λ h. h;
  idle = subst (HoldsList c.place_of_list.new.lists.keys c.in_ok-idle.idle) c.new.ensures.items c.in_ok-idle.ensures.place;
}

pub loop-token-preserved-then-is_idle : goal.loop-token-preserved-then-is_idle
loop-token-preserved-then-is_idle c =
    let g = c.args.grammar.now in
    let m = c.args.marks.now in
    let items = c.args.items.now in
    let set = c.args.set.now in
    let t = c.loop-token.token in
    let inv = c.loop-token.invariant in
    let source = c.requires.source in
    let ready = c.requires.ready in
    let test : c.is_idle.result ≡ true = search (rules, c.if-is_idle.true) in
    let idle = c.is_idle.ensures.0 test in
    record {
      grows = inv.grows;
      row = subst (λ (r : List ℕ). AreListPlaces g items set.at c.loop-token.lists.keys (t + 1) r) (sym c.in_ok-push.ensures.items)
          (idle_row g m items set t source ready idle c.loop-token.lists.keys c.loop-token.row.items c.in_ok-idle.idle inv.row inv.idle);
      least = λ h. idle_least g m items set t source ready idle c.loop-token.least (inv.least h);
      idle = inv.idle;
    }

pub loop-token-preserved : goal.loop-token-preserved
loop-token-preserved c =
    let g = c.args.grammar.now in
    let items = c.args.items.now in
    let n = c.args.set.now.at in
    let t = c.loop-token.token in
    let inv = c.loop-token.invariant in
    let ready = c.requires.ready in
    let before = c.loop-token.lists.keys in
    let after = c.place_of_list-in-loop-token.new.lists.keys in
    let grown = c.place_of_list-in-loop-token.ensures.grows in
    record {
      grows = grows_both c.place_of_list.new.lists.keys before after inv.grows grown;
      row = subst (λ (r : List ℕ). AreListPlaces g items n after (t + 1) r) (sym c.in_ok-push-2.ensures.items)
          (places_more g items n t before after c.loop-token.row.items c.in_ok-place.place c.in_ok-found.found.actions.items grown inv.row c.in_ok-place.ensures.place
          (list_on g items n t c.in_ok-found.found c.in_ok-found.ensures.entry c.in_ok-found.ensures.once));
      least = λ h. least_more g items c.requires.source.sets n t (slice_get_within items.states.items n ready.state ready.at) c.loop-token.least c.in_ok-found.found.refused c.with_entry-least.result
          (λ read reach. (c.in_ok-found.ensures.entry read reach).refused) c.with_entry-least.ensures (inv.least h);
      idle = holds_grown before after c.in_ok-idle.idle [] grown inv.idle;
    }

pub returns-clause-row : goal.returns-clause-row
returns-clause-row c =
    let e : c.loop-token.token ≡ start_symbol c.args.grammar.now = (let a = c.loop-token-test.false in let b = c.loop-token.auto.token-end in let s = c.requires.source.marks.start in omega (arith, a, b, s)) in
    subst (λ (k : ℕ). AreListPlaces c.args.grammar.now c.args.items.now c.args.set.now.at c.loop-token.lists.keys k c.loop-token.row.items) e c.loop-token.invariant.row

pub returns-clause-least : goal.returns-clause-least
returns-clause-least c h =
    let e : c.loop-token.token ≡ start_symbol c.args.grammar.now = (let a = c.loop-token-test.false in let b = c.loop-token.auto.token-end in let s = c.requires.source.marks.start in omega (arith, a, b, s)) in
    subst (λ (k : ℕ). IsLeastTo c.args.grammar.now c.args.items.now c.args.set.now.at k c.loop-token.least) e (c.loop-token.invariant.least h)
