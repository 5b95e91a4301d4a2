use Rattle.std.proofs.Common.{◌≡◌, refl, true, false, rules}
use Rattle.ts_table.proofs.ListLemmas.{false_not_true}
use Rattle.ts_table.proofs.DecidingLemmas.{top_from, top_not}
use Rattle.ts_table.proofs.deciding.is_top.Goals as goal

pub returns-then-some_above : goal.returns-then-some_above
returns-then-some_above c =
    let test : c.some_above.result ≡ true = search (rules, c.if-some_above.true) in
    ((λ t. absurd (false_not_true t)), (λ top. absurd (top_not c.args.grammar.now c.args.reductions.now c.args.candidate c.some_above.result test c.some_above.ensures top)))

pub returns : goal.returns
returns c =
    let test : c.some_above.result ≡ false = search (rules, c.if-some_above.false) in
    ((λ t. top_from c.args.grammar.now c.args.reductions.now c.args.candidate c.some_above.result test c.some_above.ensures), (λ h. refl))
