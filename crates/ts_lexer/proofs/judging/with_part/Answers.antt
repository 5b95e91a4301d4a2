use Rattle.ts_lexer.proofs.JudgeLemmas.{judges_more}
use Rattle.ts_lexer.proofs.judging.with_part.Goals as goal

pub returns : goal.returns
returns c g valid first T owners seen node rules role owner end h =
    let plain = rw c.both_hold-plain_ends.ensures at c.picked-plain.ensures in
    let keyword = rw c.both_hold-keyword_ends.ensures at c.picked-keyword.ensures in
    rw (c.either_holds-word.ensures, c.both_hold-word_ends.ensures, c.either_holds-separator.ensures, c.both_hold-separator_ends.ensures, c.either_holds-lives.ensures)
    (judges_more g valid first T owners seen node c.args.part c.args.ends c.args.role.now c.args.old c.picked-plain.result c.picked-keyword.result rules.few role owner end
    (record { out = plain.out; first = plain.first; more = λ j s t a b e f x y. plain.more g j s t a b e f rules x y })
    (record { out = keyword.out; first = keyword.first; more = λ j s t a b e f x y. keyword.more g j s t a b e f rules x y }) h)
