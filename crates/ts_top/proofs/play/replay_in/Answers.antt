use Rattle.std.proofs.Common.{rules, ◌≡◌, codes}
use Rattle.std.proofs.lemmas.Option.{MatchOption-at_some}
use Rattle.ts_top.proofs.ReadLemmas.{four_texts}
use Rattle.ts_top.proofs.play.replay_in.Goals as goal

pub returns-in-Some : goal.returns-in-Some
returns-in-Some c =
    let four = four_texts c.args.words.now c.index-words-0.result c.index-words-1.result c.index-words-2.result c.index-words-3.result c.if-words-eq4.true c.index-words-0.is c.index-words-1.is c.index-words-2.is c.index-words-3.is in
    let word : c.as_str.result.now ≡ codes "replay" = search rules in
    record { word = c.as_str-then-eq.result.now; words_are = cc (four, word, c.as_str.ensures.value, c.as_str-then-eq.ensures.value, c.as_str-in-Some.ensures.value, c.as_str-in-Some-2.ensures.value); spells = MatchOption-at_some _ _ c.in-Some.order c.in-Some.is c.in_ok-order.ensures.spells }
