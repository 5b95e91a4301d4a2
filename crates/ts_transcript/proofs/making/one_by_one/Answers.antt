use Rattle.std.proofs.Common.{◌∙◌, sym, ap, subst, ◌+◌, ◌++◌, take}
use Rattle.ts_base.specs.Bytes.{Bytes}
use Rattle.ts_transcript.specs.Told.{AreLines}
use Rattle.ts_transcript.proofs.LineLemmas.{line_next}
use Rattle.ts_transcript.proofs.making.one_by_one.Goals as goal

pub loop-line-preserved : goal.loop-line-preserved
loop-line-preserved c =
    let grammar = c.args.grammar.now in
    let lines = c.args.lines.now in
    let before = c.loop-line.out.items in
    let added = c.in_ok-extend_from_slice.ensures.items ∙ ap (λ (bytes : Bytes). before ++ bytes) c.as_slice.ensures.value in
    subst (λ (all : Bytes). AreLines grammar (take (c.loop-line.line-index + 1) lines) all) (sym added)
    (line_next grammar lines c.loop-line.line-index c.line-item.result before c.in_ok-bytes.bytes.items c.loop-line-test.true c.line-item.is c.in_ok-bytes.ensures c.loop-line.invariant)
