use Rattle.std.proofs.Common.{◌+◌, sym, ap, ◌∙◌, arith}
use Rattle.ts_pattern.specs.declared.sight.Sight.TheVariants.{Sees}
use Rattle.ts_pattern.specs.declared.sign.Sign.{Sign}
use Rattle.ts_pattern.specs.Signs.{char}
use Rattle.ts_pattern.proofs.SignLemmas.{plain_char}
use Rattle.ts_pattern.proofs.sign.plain.Goals as goal

pub returns-in_ok-char-in_default-clause-value : goal.returns-in_ok-char-in_default-clause-value
returns-in_ok-char-in_default-clause-value c =
    let here = c.peek.ensures.value in
    ap (λ (s : Sign). Sees s (c.args.at + 1)) (c.in_ok-char-in_default.ensures ∙ ap char here)
    ∙ sym (plain_char c.args.text.now c.args.at (λ e. omega (arith, here, e)) (λ e. omega (arith, here, e)) (λ e. omega (arith, here, e)) (λ e. omega (arith, here, e))
    (λ e. omega (arith, here, e)) (λ e. omega (arith, here, e)) (λ e. omega (arith, here, e)) (λ e. omega (arith, here, e)) (λ e. omega (arith, here, e)) (λ e. omega (arith, here, e)) (λ e. omega (arith, here, e)))
