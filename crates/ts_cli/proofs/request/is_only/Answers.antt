use Rattle.std.proofs.Common.{rules, ◌≡◌, ◌↔◌, IsTrue}
use Rattle.ts_cli.proofs.WordLemmas.{only_text}
use Rattle.ts_cli.proofs.request.is_only.Goals as goal

pub returns-then-words-eq1 : goal.returns-then-words-eq1
returns-then-words-eq1 c =
    let word = c.index-words-0.result in
    let only = only_text c.args.words.now word c.if-words-eq1.true c.index-words-0.is in
    let same : IsTrue c.eq.result ↔ (c.as_str.result.now ≡ c.args.word.now) = search rules in
    let text = c.as_str.ensures.value in
    (λ t. let e = same.0 t in cc, λ e. same.1 cc)
