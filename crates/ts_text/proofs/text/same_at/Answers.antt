use Rattle.std.proofs.Common.{◌≡◌, ◌+◌, ◌≤◌, length, min, true, arith}
use Rattle.ts_text.specs.Text.{most_bytes}
use Rattle.ts_text.proofs.PlaceLemmas.{same_more}
use Rattle.ts_text.proofs.text.same_at.Goals as goal

pub overflow_cast-result : goal.overflow_cast-result
overflow_cast-result c =
    let within : c.args.place + length c.stretch-bytes.result.now ≤ length c.args.one.now = c.stretch-bytes.ensures.within in
    let few : c.min-count.result ≡ min (length c.stretch-bytes.result.now) (length c.stretch-others.result.now) = c.min-count.ensures in
    let small : length c.args.one.now ≤ most_bytes = c.requires.few in
    record { fits = omega arith }

pub returns-then-are_equal : goal.returns-then-are_equal
returns-then-are_equal c =
    let few : c.min-count.result ≡ min (length c.stretch-bytes.result.now) (length c.stretch-others.result.now) = c.min-count.ensures in
    let same : c.are_equal.result ≡ true = c.if-are_equal.true in
    same_more c.args.one.now c.args.other.now c.stretch-bytes.result.now c.stretch-others.result.now c.split_at.result.0.now c.split_at-2.result.0.now
    c.args.place c.min-count.result c.stretch-bytes.ensures.bytes c.stretch-others.ensures.bytes c.stretch-bytes.ensures.some c.stretch-others.ensures.some
    c.stretch-bytes.ensures.within few c.split_at.ensures.front c.split_at-2.ensures.front (c.are_equal.ensures.0 same)
