use Rattle.std.proofs.Common.{refl}
use Rattle.ts_search.specs.Rows.{seen_row}
use Rattle.ts_search.proofs.PassLemmas.{takes_field, takes_look, takes_some}
use Rattle.ts_search.proofs.taking.may_take.Goals as goal

pub returns-then-is_round : goal.returns-then-is_round
returns-then-is_round c = λ ways h. refl

pub returns-in_default : goal.returns-in_default
returns-in_default c = λ ways h. absurd (takes_some c.args.sight.now c.args.item.now c.args.n (λ e. let y = c.is_round.ensures.1 e in let f = c.if-is_round.false in cc) ways h c.in_default.ensures)

pub returns-then-not-looks : goal.returns-then-not-looks
returns-then-not-looks c = λ ways h. absurd (let y = c.looks.ensures.1 (takes_look c.args.sight.now c.args.item.now c.args.n (λ e. let y = c.is_round.ensures.1 e in let f = c.if-is_round.false in cc) ways h (seen_row c.in-Some.row) c.in-Some.ensures) in let f = c.if-not-looks.true in cc)

pub returns : goal.returns
returns c = λ ways h. c.has_field.ensures.1 (takes_field c.args.sight.now c.args.item.now c.args.n (λ e. let y = c.is_round.ensures.1 e in let f = c.if-is_round.false in cc) ways h (seen_row c.in-Some.row) c.in-Some.ensures)
