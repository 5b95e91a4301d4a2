use Rattle.std.proofs.Common.{◌≢◌, rules, arith}
use Rattle.ts_grammar_json.proofs.PointerLemmas.{plain}
use Rattle.ts_grammar_json.proofs.pointer.push_escaped.Goals as goal

pub returns-in_default : goal.returns-in_default
returns-in_default c =
    let tilde : c.args.c ≢ 126 = λ e. absurd (omega arith) in
    let slash : c.args.c ≢ 47 = λ e. absurd (omega arith) in
    rw (plain c.args.c tilde slash) (search rules)
