use Rattle.std.proofs.Common.{◌≡◌, suc, ◌+◌, refl, subst, ℕ, length, arith}
use Rattle.ts_table.specs.Rows.{AreRowsTo, IsLeastTo}
use Rattle.ts_table.proofs.BuildLemmas.{rows_begin, least_begins}
use Rattle.ts_table.proofs.building.build.Goals as goal

pub loop-at-init : goal.loop-at-init
loop-at-init c = record {
  rows = rows_begin c.args.grammar.now c.args.items.now _ c.new.ensures.items;
  least = least_begins c.args.grammar.now c.args.items.now _ refl;
}

pub loop-at-preserved : goal.loop-at-preserved
loop-at-preserved c =
    let e : suc c.loop-at.at ≡ c.loop-at.at + 1 = omega arith in
    record {
      rows = subst (AreRowsTo c.args.grammar.now c.args.items.now c.add_state.new.arrays) e c.in_ok-least.ensures.rows;
      least = subst (λ (n : ℕ). IsLeastTo c.args.grammar.now c.args.items.now n 0 c.in_ok-least.least) e (c.in_ok-least.ensures.least c.loop-at.invariant.least);
    }

pub returns-clause-rows : goal.returns-clause-rows
returns-clause-rows c =
    let e : c.loop-at.at ≡ length c.args.items.now.states.items = (let a = c.loop-at-test.false in let b = c.loop-at.auto.at-end in omega (arith, a, b, c.args.items.now.states.ok.0, c.len-at-end.ensures)) in
    subst (AreRowsTo c.args.grammar.now c.args.items.now c.loop-at.arrays) e c.loop-at.invariant.rows

pub returns-clause-least : goal.returns-clause-least
returns-clause-least c =
    let e : c.loop-at.at ≡ length c.args.items.now.states.items = (let a = c.loop-at-test.false in let b = c.loop-at.auto.at-end in omega (arith, a, b, c.args.items.now.states.ok.0, c.len-at-end.ensures)) in
    subst (λ (n : ℕ). IsLeastTo c.args.grammar.now c.args.items.now n 0 c.loop-at.least) e c.loop-at.invariant.least
