use Rattle.std.proofs.Common.{◌≡◌, ◌≤◌, ◌<◌, ◌+◌, length, get_or, Some, subst, arith}
use Rattle.ts_ojson.specs.Machine.{word_bytes}
use Rattle.ts_ojson.specs.States.{word}
use Rattle.ts_ojson.specs.Places.{byte_there, Reaches}
use Rattle.ts_ojson.proofs.PlaceLemmas.{byte_here, word_more, word_stuck, word_ends}
use Rattle.ts_ojson.proofs.word.Word.read.Goals as goal

pub returns-then-ne-clause-err : goal.returns-then-ne-clause-err
returns-then-ne-clause-err c k h =
    let w = c.args.text.now in
    let at = c.args.from + c.loop-read.read in
    let x = c.args.self in
    let i = c.loop-read.read in
    let lt : i < length (word_bytes x) = grind arith in
    let differ : byte_there w at ≡ Some (get_or (word_bytes x) i 0) → ⊥ = grind arith in
    word_stuck w at x i k lt differ (c.loop-read.invariant.reaches k h)

pub loop-read-preserved : goal.loop-read-preserved
loop-read-preserved c =
    let w = c.args.text.now in
    let at = c.args.from + c.loop-read.read in
    let x = c.args.self in
    let i = c.loop-read.read in
    let lt : i < length (word_bytes x) = grind arith in
    let same : byte_there w at ≡ Some (get_or (word_bytes x) i 0) = grind arith in
    let here = byte_here w at (get_or (word_bytes x) i 0) same in
    let on : at + 1 ≡ c.args.from + (i + 1) = omega arith in
    record {
      within = (omega arith, omega (arith, here.0), grind arith);
      reaches = λ k h. subst (λ n. Reaches w n (word x (i + 1)) k) on (word_more w at x i k lt same (c.loop-read.invariant.reaches k h));
    }

pub returns-clause-ok : goal.returns-clause-ok
returns-clause-ok c k h =
    let le : length (word_bytes c.args.self) ≤ c.loop-read.read = grind arith in
    rw c.value.ensures (word_ends c.args.text.now (c.args.from + c.loop-read.read) c.args.self c.loop-read.read k le (c.loop-read.invariant.reaches k h))
