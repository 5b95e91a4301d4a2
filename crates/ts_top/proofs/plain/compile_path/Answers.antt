use Rattle.std.proofs.Common.{rules, ◌≡◌, codes}
use Rattle.ts_top.proofs.ReadLemmas.{two_texts}
use Rattle.ts_top.proofs.plain.compile_path.Goals as goal

pub returns-then-eq-clause-some : goal.returns-then-eq-clause-some
returns-then-eq-clause-some c =
    let two = two_texts c.args.words.now c.index-words-0.result c.index-words-1.result c.if-words-eq2.true c.index-words-0.is c.index-words-1.is in
    let word : c.as_str.result.now ≡ codes "compile" = search rules in
    cc (two, word, c.as_str.ensures.value, c.as_str-then-eq.ensures.value)
