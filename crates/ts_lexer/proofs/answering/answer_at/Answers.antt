use Rattle.std.proofs.Common.{◌≡◌, sym, subst, ℕ, drop}
use Rattle.ts_base.specs.Bytes.{Bytes}
use Rattle.spec_lexing.specs.Lexing.{Lex}
use Rattle.spec_lexing.specs.Seen.{Seen}
use Rattle.ts_lexer.specs.Passed.{found_by}
use Rattle.ts_lexer.proofs.answering.answer_at.Goals as goal

pub returns-clause-answer : goal.returns-clause-answer
returns-clause-answer c g ready =
    let p = c.pass-passed.ensures.passed g ready in
    let rest : c.in-Some.rest ≡ drop c.args.place c.args.text.now = c.in-Some.ensures.0 in
    record {
      found = found_by c.pass-passed.result.found c.pass-passed.result.pad;
      lex = subst (λ (l : Bytes). Lex g c.args.valid.now l (found_by c.pass-passed.result.found c.pass-passed.result.pad)) rest p.lex;
      says = c.told.ensures.says;
      seen = subst (λ (n : ℕ). Seen g c.args.valid.now (drop c.args.place c.args.text.now) n) (sym c.told.ensures.extent)
          (subst (λ (l : Bytes). Seen g c.args.valid.now l c.pass-passed.result.extent) rest p.seen);
    }
