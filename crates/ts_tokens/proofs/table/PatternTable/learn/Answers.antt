use Rattle.std.proofs.Common.{subst}
use Rattle.std.proofs.lemmas.Result.{err_from_is_err_and}
use Rattle.ts_base.specs.Bytes.{Bytes}
use Rattle.ts_tokens.specs.Patterns.{IsRefusal}
use Rattle.ts_tokens.proofs.table.PatternTable.learn.Goals as goal

pub returns-in_err-re-clause-refused : goal.returns-in_err-re-clause-refused
returns-in_err-re-clause-refused c =
    let p = err_from_is_err_and c.from_residual.result c.from_residual.ensures.1 in
    rw (p.1, p.2) (λ told. subst (λ (text : Bytes). IsRefusal (text, c.args.source.ignore_case) c.in_err-re.field-0.0) c.text.ensures (c.in_err-re.ensures.refused, c.in_err-re.ensures.complete told))
