use Rattle.ts_automata.proofs.AddsLemmas.{adds_two}
use Rattle.ts_automata.proofs.closing.add_two.Goals as goal

pub returns : goal.returns
returns c = adds_two c.args.left c.args.right _ _ _ c.in_ok-add.ensures c.in_ok-add-2.ensures
