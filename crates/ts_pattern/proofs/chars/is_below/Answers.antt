use Rattle.std.proofs.Common.{◌≡◌, sym, ap₂, ◌∙◌, arith, nat_lt}
use Rattle.ts_pattern.proofs.NumberLemmas.{padded_start, padded_next, told, same_below}
use Rattle.ts_pattern.proofs.chars.is_below.Goals as goal

pub places-init : goal.places-init
places-init c =
    padded_start c.args.lower.now c.args.upper.now c.max-width.result (omega (arith, c.max-width.ensures)) (omega (arith, c.max-width.ensures))

pub places-preserved : goal.places-preserved
places-preserved c =
    padded_next c.args.lower.now c.args.upper.now c.max-width.result c.places.at (omega (arith, c.max-width.ensures)) (omega (arith, c.max-width.ensures)) (omega arith) c.places.invariant
    (sym c.digit_at-low.ensures ∙ omega arith ∙ c.digit_at-high.ensures)

pub returns-then-low-high : goal.returns-then-low-high
returns-then-low-high c =
    ap₂ nat_lt c.digit_at-low.ensures c.digit_at-high.ensures
    ∙ told c.args.lower.now c.args.upper.now c.max-width.result c.places.at (omega (arith, c.max-width.ensures)) (omega (arith, c.max-width.ensures)) c.requires.lower c.requires.upper (omega arith) c.places.invariant
    (λ e. omega (arith, c.digit_at-low.ensures, c.digit_at-high.ensures, e))

pub returns : goal.returns
returns c =
    let ended : c.places.at ≡ c.max-width.result = omega arith in
    same_below c.args.lower.now c.args.upper.now c.max-width.result c.places.at ended (omega (arith, c.max-width.ensures)) (omega (arith, c.max-width.ensures)) c.places.invariant
