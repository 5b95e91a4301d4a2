use Rattle.std.proofs.Common.{◌≡◌, length, refl, arith}
use Rattle.ts_items.proofs.ListLemmas.{read_at}
use Rattle.ts_items.proofs.PartLemmas.{grows_both}
use Rattle.ts_items.proofs.GotoLemmas.{states_step, gotos_none, gotos_step, gotos_end}
use Rattle.ts_items.proofs.PoolLemmas.{grows_same}
use Rattle.ts_items.proofs.numbering.gotos_of.Goals as goal

pub loop-symbol-init : goal.loop-symbol-init
loop-symbol-init c = record {
  grows = grows_same c.args.kernels.now.keys c.args.kernels.now.keys refl;
  once = λ o. o;
  few = λ f. f;
  states = λ g lines pool parts over a. a;
  gotos = λ g lines pool parts over. gotos_none g pool c.args.kernels.now.keys parts c.new-gotos.result.items c.new-gotos.ensures.items;
}

pub loop-symbol-preserved : goal.loop-symbol-preserved
loop-symbol-preserved c =
    let x = c.loop-symbol.symbol in
    let e = c.in_ok-add_goto.ensures in
    let inv = c.loop-symbol.invariant in
    let at = read_at c.args.moved.now x c.index-moved-symbol.result c.loop-symbol-test.true c.index-moved-symbol.is in
    record {
      grows = grows_both c.args.kernels.now.keys c.loop-symbol.kernels.keys c.add_goto.new.kernels.keys inv.grows e.enters.grows;
      once = λ o. e.enters.once (inv.once o);
      few = λ f. e.few (inv.few f);
      states = λ g lines pool parts over a. states_step g lines x pool parts c.args.moved.now c.loop-symbol.kernels.keys c.add_goto.new.kernels.keys c.index-moved-symbol.result c.as_slice.result.now over at c.as_slice.ensures.value e.enters (inv.states g lines pool parts over a);
      gotos = λ g lines pool parts over. gotos_step g lines x pool parts c.args.moved.now c.loop-symbol.kernels.keys c.add_goto.new.kernels.keys c.index-moved-symbol.result c.as_slice.result.now over at c.as_slice.ensures.value e.enters c.loop-symbol.gotos.items c.add_goto.new.gotos.items e.goto (inv.gotos g lines pool parts over);
    }

pub returns-clause-gotos : goal.returns-clause-gotos
returns-clause-gotos c g lines pool parts over =
    let e : c.loop-symbol.symbol ≡ length c.args.moved.now = let a = c.loop-symbol-test.false in let b = c.loop-symbol.auto.symbol-end in omega arith in
    gotos_end g pool c.loop-symbol.kernels.keys parts c.loop-symbol.symbol (length c.args.moved.now) c.loop-symbol.gotos.items e (c.loop-symbol.invariant.gotos g lines pool parts over)

pub returns-in_err-add_goto-clause-states : goal.returns-in_err-add_goto-clause-states
returns-in_err-add_goto-clause-states c g lines pool parts over a =
    let x = c.loop-symbol.symbol in
    let at = read_at c.args.moved.now x c.index-moved-symbol.result c.loop-symbol-test.true c.index-moved-symbol.is in
    states_step g lines x pool parts c.args.moved.now c.loop-symbol.kernels.keys c.add_goto.new.kernels.keys c.index-moved-symbol.result c.as_slice.result.now over at c.as_slice.ensures.value c.add_goto.ensures.enters (c.loop-symbol.invariant.states g lines pool parts over a)
