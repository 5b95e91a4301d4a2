use Rattle.ts_lexer.proofs.choosing.scanned.Goals as goal

pub returns : goal.returns
returns c g valid first rest rules all =
    let o = c.chosen.ensures in
    all c.chosen.result (record { plain = o.plain; keyword = o.keyword; both = λ j k x s a b e f p q. o.both g j k x s a b e f rules p q })
