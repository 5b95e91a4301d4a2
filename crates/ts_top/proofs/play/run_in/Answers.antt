use Rattle.std.proofs.Common.{rules, ◌≡◌, codes}
use Rattle.ts_top.proofs.ReadLemmas.{three_texts}
use Rattle.ts_top.proofs.play.run_in.Goals as goal

pub returns-then-eq-clause-some : goal.returns-then-eq-clause-some
returns-then-eq-clause-some c =
    let three = three_texts c.args.words.now c.index-words-0.result c.index-words-1.result c.index-words-2.result c.if-words-eq3.true c.index-words-0.is c.index-words-1.is c.index-words-2.is in
    let word : c.as_str.result.now ≡ codes "run" = search rules in
    cc (three, word, c.as_str.ensures.value, c.as_str-then-eq.ensures.value, c.as_str-then-eq-2.ensures.value)
