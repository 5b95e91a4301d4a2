use Rattle.std.proofs.Common.{◌≡◌, [], length, refl, arith}
use Rattle.std.proofs.lemmas.Result.{err_from_is_err_and}
use Rattle.ts_ojson.proofs.FinalLemmas.{starts_whole, ends_whole}
use Rattle.ts_ojson.proofs.PlaceLemmas.{pass_value, pass_end, starts_value, whole_stuck}
use Rattle.ts_ojson.proofs.reader.whole.Goals as goal

pub returns-in_err-value-clause-err : goal.returns-in_err-value-clause-err
returns-in_err-value-clause-err c =
    let w = c.args.text.now in
    let b = c.blanks_end-at in
    let p = err_from_is_err_and c.from_residual.result c.from_residual.ensures.1 in
    rw (p.1, p.2) (c.in_err-value.ensures.err [] refl (starts_value w b.result [] b.ensures.stop (pass_value w 0 b.result [] b.ensures.within.0 b.ensures.blanks (starts_whole w))))

pub returns-then-end-text-clause-err : goal.returns-then-end-text-clause-err
returns-then-end-text-clause-err c =
    let w = c.args.text.now in
    let b = c.blanks_end-at in
    let m = c.blanks_end-end in
    let starts = starts_value w b.result [] b.ensures.stop (pass_value w 0 b.result [] b.ensures.within.0 b.ensures.blanks (starts_whole w)) in
    let ends = c.in_ok-value.ensures.ok [] refl starts in
    whole_stuck w m.result c.in_ok-value.value (pass_end w c.in_ok-value.end m.result c.in_ok-value.value [] m.ensures.within.0 m.ensures.blanks ends) m.ensures.stop (grind arith)

pub returns-clause-ok : goal.returns-clause-ok
returns-clause-ok c =
    let w = c.args.text.now in
    let b = c.blanks_end-at in
    let m = c.blanks_end-end in
    let starts = starts_value w b.result [] b.ensures.stop (pass_value w 0 b.result [] b.ensures.within.0 b.ensures.blanks (starts_whole w)) in
    let ends = c.in_ok-value.ensures.ok [] refl starts in
    let here : m.result ≡ length w = grind arith in
    ends_whole w m.result c.in_ok-value.value c.utf8.text here (pass_end w c.in_ok-value.end m.result c.in_ok-value.value [] m.ensures.within.0 m.ensures.blanks ends)
