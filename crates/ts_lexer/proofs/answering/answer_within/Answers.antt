use Rattle.std.proofs.Common.{◌≡◌, ◌∙◌, sym, ap, subst, ℕ, ◌-◌, ◌++◌, length, length-append, length-drop, drop, arith}
use Rattle.ts_base.specs.Bytes.{Bytes}
use Rattle.spec_lexing.specs.Seen.{Seen}
use Rattle.ts_lexer.specs.Passed.{found_by, IsWithinText}
use Rattle.ts_lexer.specs.Within.{IsFoundIn}
use Rattle.ts_lexer.proofs.WayLemmas.{rows_on}
use Rattle.ts_lexer.proofs.answering.answer_within.Goals as goal

pub pass_within-requires-clause-size : goal.pass_within-requires-clause-size
pass_within-requires-clause-size c =
    let whole = ap (λ (l : Bytes). length l) (c.split.ensures.whole ∙ c.in-Some-rest_at.ensures.0) in
    let sum = length-append c.split.result.0.now c.split.result.1 in
    let left = length-drop c.args.place c.args.text.now in
    let size = c.len.ensures in
    omega arith

pub pass_within-requires-clause-ready : goal.pass_within-requires-clause-ready
pass_within-requires-clause-ready c =
    let r = c.requires.ready in
    let rows = rows_on r.0 r.1 c.args.way.now c.args.pair c.in-Tables.tables c.in-Some.pair c.in-Tables.is c.in-Some.is r.2 in
    (r.0, r.1, rows.0, rows.1)

pub told-requires-clause-within : goal.told-requires-clause-within
told-requires-clause-within c =
    let r = c.requires.ready in
    let rows = rows_on r.0 r.1 c.args.way.now c.args.pair c.in-Tables.tables c.in-Some.pair c.in-Tables.is c.in-Some.is r.2 in
    let whole : c.split.result.0.now ++ c.split.result.1 ≡ drop c.args.place c.args.text.now = c.split.ensures.whole ∙ c.in-Some-rest_at.ensures.0 in
    let found = subst (λ (l : Bytes). IsFoundIn r.0 r.1 l c.in-Some-pass_within.passed) whole (c.in-Some-pass_within.ensures r.0 r.1 c.split.result.1 rows.0 rows.1 c.split.ensures.utf8) in
    let size : length (drop c.args.place c.args.text.now) ≡ c.len.result - c.args.place = (let left = length-drop c.args.place c.args.text.now in let all = c.len.ensures in omega arith) in
    subst (λ (n : ℕ). IsWithinText n c.in-Some-pass_within.passed) size found.1

pub returns-clause-answer : goal.returns-clause-answer
returns-clause-answer c g valid has =
    let rows = rows_on g valid c.args.way.now c.args.pair c.in-Tables.tables c.in-Some.pair c.in-Tables.is c.in-Some.is has in
    let whole : c.split.result.0.now ++ c.split.result.1 ≡ drop c.args.place c.args.text.now = c.split.ensures.whole ∙ c.in-Some-rest_at.ensures.0 in
    let found = subst (λ (l : Bytes). IsFoundIn g valid l c.in-Some-pass_within.passed) whole (c.in-Some-pass_within.ensures g valid c.split.result.1 rows.0 rows.1 c.split.ensures.utf8) in
    record {
      found = found_by c.in-Some-pass_within.passed.found c.in-Some-pass_within.passed.pad;
      lex = found.0.lex;
      says = c.told.ensures.says;
      seen = subst (λ (n : ℕ). Seen g valid (drop c.args.place c.args.text.now) n) (sym c.told.ensures.extent) found.0.seen;
    }
