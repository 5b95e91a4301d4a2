use Rattle.std.proofs.Common.{arith}
use Rattle.std.proofs.lemmas.Result.{err_from_is_err_and}
use Rattle.ts_script.proofs.DraftLemmas.{goes_on, goes_wrong}
use Rattle.ts_script.proofs.reader.drafted.Goals as goal

pub returns-in_err-read-clause-refused : goal.returns-in_err-read-clause-refused
returns-in_err-read-clause-refused c =
    let p = err_from_is_err_and c.from_residual.result c.from_residual.ensures.1 in
    rw (p.1, p.2) (λ other. goes_wrong c.args.bytes.now c.loop-rest.rest.now _ _ c.loop-rest.number c.loop-rest.draft _ c.requires c.first_line.ensures.cut c.loop-rest.invariant.1 (c.in_err-read.ensures.refused other))

pub loop-rest-preserved : goal.loop-rest-preserved
loop-rest-preserved c =
    let bound = c.loop-rest.invariant.0 in
    let shorter = c.first_line.ensures.shorter in
    (omega (arith, bound, shorter), goes_on c.args.bytes.now c.loop-rest.rest.now _ _ c.loop-rest.number c.loop-rest.draft c.read.new.self c.first_line.ensures.cut c.loop-rest.invariant.1 c.in_ok-read.ensures.ok)
