use Rattle.std.proofs.Common.{◌∙◌, sym, refl}
use Rattle.std.proofs.lemmas.Bool.{false≢true}
use Rattle.ts_lexer.specs.Judged.{PartWord, PartFront}
use Rattle.ts_lexer.specs.Scanned.{PartMatches}
use Rattle.ts_lexer.proofs.SofarLemmas.{sofar_next}
use Rattle.ts_lexer.proofs.progress.advance.Goals as goal

pub returns-clause-sofar : goal.returns-clause-sofar
returns-clause-sofar c g valid first rest bound w rules step knows sofar =
    let l = c.note_plain.ensures in
    let s = c.size_of-progress.ensures in
    let k = c.keyword_of-progress.ensures in
    let p = c.size_of-progress-2.ensures in
    sofar_next g valid first (PartMatches g rest) (PartWord g w) bound c.args.size step.rises step.from step.now (PartFront g w) c.args.verdict.now c.args.progress.now
    c.note_plain.new.plain c.size_of-progress.result c.keyword_of-progress.result c.size_of-progress-2.result knows
    (record { none = l.none; first = l.first; more = λ j n m t a b e f x y. l.more g j n m t a b e f rules x y })
    (record { yes = s.yes; no = s.no }) (record { yes = k.yes; no = k.no }) (record { yes = p.yes; no = p.no }) sofar

pub returns-then-is_plain-clause-sofar : goal.returns-then-is_plain-clause-sofar
returns-then-is_plain-clause-sofar c g valid first rest bound w rules step knows sofar =
    let l = c.note_plain.ensures in
    let no_word = c.is_plain.ensures.word c.if-is_plain.true in
    let no_separator = c.is_plain.ensures.separator c.if-is_plain.true in
    let p = c.args.progress.now in
    sofar_next g valid first (PartMatches g rest) (PartWord g w) bound c.args.size step.rises step.from step.now (PartFront g w) c.args.verdict.now p
    c.note_plain.new.plain p.word p.keyword p.separator knows
    (record { none = l.none; first = l.first; more = λ j n m t a b e f x y. l.more g j n m t a b e f rules x y })
    (record { yes = λ e. absurd (false≢true (sym no_word ∙ e)); no = λ e. refl }) (record { yes = λ e. absurd (false≢true (sym no_word ∙ e)); no = λ e. refl })
    (record { yes = λ e. absurd (false≢true (sym no_separator ∙ e)); no = λ e. refl }) sofar
