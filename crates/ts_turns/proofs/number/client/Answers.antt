use Rattle.std.proofs.Common.{◌≡◌, ◌∙◌, sym, ◌<◌, ◌≤◌, inl, inr, slice_index_or, arith}
use Rattle.ts_turns.proofs.NumeralLemmas.{reads_one, reads_two, numeral_is}
use Rattle.ts_turns.proofs.number.client.Goals as goal
use Rattle.ts_turns.proofs.number.client.Goals.{else-bytes-eq1-via-then-bytes-eq1+then-bytes-ge48+else-bytes-le57, else-bytes-eq1-via-then-bytes-eq1+else-bytes-ge48, else-bytes-eq1-via-else-bytes-eq1}
use Rattle.ts_turns.proofs.number.client.Goals.{else-bytes-eq2-via-then-bytes-eq2+then-bytes-eq49+then-bytes-ge48-2+else-bytes-le53, else-bytes-eq2-via-then-bytes-eq2+then-bytes-eq49+else-bytes-ge48-2, else-bytes-eq2-via-then-bytes-eq2+else-bytes-eq49, else-bytes-eq2-via-else-bytes-eq2}

pub returns-then-bytes-le57-clause-some : goal.returns-then-bytes-le57-clause-some
returns-then-bytes-le57-clause-some c =
    let bs = c.as_bytes-bytes.result.now in
    let low : 48 ≤ slice_index_or bs 0 0 = c.if-bytes-ge48.true in
    let high : slice_index_or bs 0 0 ≤ 57 = c.if-bytes-le57.true in
    let is = reads_one bs c.from.result c.if-bytes-eq1.true low high c.from.ensures in
    (omega (arith, low, high, c.from.ensures), sym c.as_bytes-bytes.ensures.value ∙ is)

pub returns-then-bytes-le53-clause-some : goal.returns-then-bytes-le53-clause-some
returns-then-bytes-le53-clause-some c =
    let bs = c.as_bytes-bytes.result.now in
    let one : slice_index_or bs 0 0 ≡ 49 = c.if-bytes-eq49.true in
    let low : 48 ≤ slice_index_or bs 1 0 = c.if-bytes-ge48-2.true in
    let high : slice_index_or bs 1 0 ≤ 53 = c.if-bytes-le53.true in
    let is = reads_two bs c.from-then-bytes-le53.result c.if-bytes-eq2.true one low high c.from-then-bytes-le53.ensures in
    (omega (arith, low, high, c.from-then-bytes-le53.ensures), sym c.as_bytes-bytes.ensures.value ∙ is)

pub returns-else-bytes-eq2-clause-none : goal.returns-else-bytes-eq2-clause-none
returns-else-bytes-eq2-clause-none c = λ n h e. elim (numeral_is c.as_bytes-bytes.result.now n h (c.as_bytes-bytes.ensures.value ∙ e)) [
  | inl one ↦ elim c.else-bytes-eq1.branch [
    | else-bytes-eq1-via-then-bytes-eq1+then-bytes-ge48+else-bytes-le57 w ↦ let past : 57 < slice_index_or c.as_bytes-bytes.result.now 0 0 = w.if-bytes-le57.false in let most = one.high in absurd (omega (arith, past, most))
    | else-bytes-eq1-via-then-bytes-eq1+else-bytes-ge48 w ↦ let below : slice_index_or c.as_bytes-bytes.result.now 0 0 < 48 = w.if-bytes-ge48.false in let least = one.low in absurd (omega (arith, below, least))
    | else-bytes-eq1-via-else-bytes-eq1 w ↦ absurd (w.if-bytes-eq1.false one.len)
  ]
  | inr two ↦ elim c.else-bytes-eq2.branch [
    | else-bytes-eq2-via-then-bytes-eq2+then-bytes-eq49+then-bytes-ge48-2+else-bytes-le53 w ↦ let past : 53 < slice_index_or c.as_bytes-bytes.result.now 1 0 = w.if-bytes-le53.false in let most = two.high in absurd (omega (arith, past, most))
    | else-bytes-eq2-via-then-bytes-eq2+then-bytes-eq49+else-bytes-ge48-2 w ↦ let below : slice_index_or c.as_bytes-bytes.result.now 1 0 < 48 = w.if-bytes-ge48-2.false in let least = two.low in absurd (omega (arith, below, least))
    | else-bytes-eq2-via-then-bytes-eq2+else-bytes-eq49 w ↦ absurd (w.if-bytes-eq49.false two.one)
    | else-bytes-eq2-via-else-bytes-eq2 w ↦ absurd (w.if-bytes-eq2.false two.len)
  ]
]
