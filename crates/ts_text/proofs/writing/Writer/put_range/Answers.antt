use Rattle.std.proofs.Common.{◌≡◌, ◌∙◌, ap, ℕ, ◌+◌, ◌-◌, ◌<◌, ◌≤◌, length, min, arith}
use Rattle.ts_text.specs.Written.{written}
use Rattle.ts_text.proofs.WriterLemmas.{far_goes_on, part_is, written_more}
use Rattle.ts_text.proofs.writing.Writer.put_range.Goals as goal

pub put_part-requires-clause-part : goal.put_part-requires-clause-part
put_part-requires-clause-part c =
    let lasts : c.min-last.result ≡ min (c.index-pieces-next.result.start + length c.index-pieces-next.result.content) c.args.to =
    c.min-last.ensures ∙ ap (λ (n : ℕ). min n c.args.to) c.end.ensures in
    part_is c.args.text.now (written c.args.self.now) (written c.loop-place.self) c.pieces-pieces.result.now (length c.args.text.now) c.args.from c.args.to
    c.loop-place.place c.loop-place.next c.min-last.result c.index-pieces-next.result
    c.pieces-pieces.ensures.whole c.pieces-pieces.ensures.pieces c.requires.to c.loop-place.invariant c.loop-place-test.true c.index-pieces-next.is lasts

pub loop-place-smaller : goal.loop-place-smaller
loop-place-smaller c =
    let lasts : c.min-last.result ≡ min (c.index-pieces-next.result.start + length c.index-pieces-next.result.content) c.args.to =
    c.min-last.ensures ∙ ap (λ (n : ℕ). min n c.args.to) c.end.ensures in
    let on : c.loop-place.place < c.min-last.result =
    far_goes_on c.args.text.now (written c.args.self.now) (written c.loop-place.self) c.pieces-pieces.result.now (length c.args.text.now) c.args.from c.args.to
    c.loop-place.place c.loop-place.next c.min-last.result c.index-pieces-next.result
    c.pieces-pieces.ensures.whole c.pieces-pieces.ensures.pieces c.requires.to c.loop-place.invariant c.loop-place-test.true c.index-pieces-next.is lasts in
    let less : c.args.to - c.min-last.result < c.args.to - c.loop-place.place = omega (arith, lasts, on) in
    less

pub loop-place-preserved : goal.loop-place-preserved
loop-place-preserved c =
    let lasts : c.min-last.result ≡ min (c.index-pieces-next.result.start + length c.index-pieces-next.result.content) c.args.to =
    c.min-last.ensures ∙ ap (λ (n : ℕ). min n c.args.to) c.end.ensures in
    written_more c.args.text.now (written c.args.self.now) (written c.loop-place.self) (written c.put_part.new.self) c.pieces-pieces.result.now
    (length c.args.text.now) c.args.from c.args.to c.loop-place.place c.loop-place.next c.min-last.result c.index-pieces-next.result
    c.pieces-pieces.ensures.whole c.pieces-pieces.ensures.pieces c.requires.to c.loop-place.invariant c.loop-place-test.true c.index-pieces-next.is lasts
    c.in_ok-put_part.ensures
