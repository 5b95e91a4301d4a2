use Rattle.std.proofs.Common.{drop}
use Rattle.spec_runs.specs.Configurations.{stack_symbols}
use Rattle.spec_reuse.proofs.AgainLemmas.{left_so, fewer}
use Rattle.spec_reuse.proofs.laws.same_token_again.Goals as goal

pub returns : goal.returns
returns c g fit text at s pad size number node after valid next act reduction are one =
    let ends = c.moves_have_their_place.ensures.reduce g (stack_symbols at.stack) s.0 number act in
    let l = left_so (λ t. let k = c.bare_trees.ensures.keeps t in (k.symbol, k.extra)) g number at.stack node after reduction ends in
    let subset = fewer g (c.some_move_stays.ensures g) (λ n left t p earlier at move. c.no_new_tokens.ensures g fit n left t p earlier at move) number at.stack after l next.0 valid next.1 are in
    (valid, are, c.fewer_tokens.ensures g next.0 valid (drop at.place text) s pad size subset one next.2)
