use Rattle.std.proofs.Common.{◌≡◌, ◌≤◌, ℕ, length, ap, Err, arith}
use Rattle.std.specs.Str.{IsValidUpTo}
use Rattle.ts_text.specs.declared.text.TextFault.TheVariants.{Utf8}
use Rattle.ts_text.proofs.TextLemmas.{whole_breaks_nowhere, breaks_once}
use Rattle.ts_text.specs.Text.{most_bytes}
use Rattle.ts_text.proofs.text.Text.from_bytes.Goals as goal

pub returns-in-Ok-text_of-clause-utf8 : goal.returns-in-Ok-text_of-clause-utf8
returns-in-Ok-text_of-clause-utf8 c = λ n.
    (λ e. cc, λ broken. absurd (whole_breaks_nowhere _ n c.in-Ok.ensures.cases.1 broken))

pub returns-in-Err-text_of-clause-utf8 : goal.returns-in-Err-text_of-clause-utf8
returns-in-Err-text_of-clause-utf8 c = λ n.
    (λ e. cc, λ broken. absurd (whole_breaks_nowhere _ n c.in-Ok.ensures.cases.1 broken))

pub returns-in-Err-clause-utf8 : goal.returns-in-Err-clause-utf8
returns-in-Err-clause-utf8 c =
    let within : length c.args.bytes.now ≤ most_bytes = omega (arith, c.if-bytes.false) in
    let breaks : IsValidUpTo c.args.bytes.now c.valid_up_to.result =
    rw c.valid_up_to.ensures c.in-Err.ensures.cases.1 in
    λ n. (
      λ e.
          let same : c.valid_up_to.result ≡ n = cc in
          record { within = within; breaks = rw (← same) breaks },
      λ broken. ap (λ (k : ℕ). Err (Utf8 k)) (breaks_once _ _ n breaks broken.breaks),
    )
