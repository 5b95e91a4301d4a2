use Rattle.std.proofs.Common.{sym, subst}
use Rattle.std.proofs.lemmas.Result.{err_from_is_err_and}
use Rattle.ts_base.specs.Bytes.{Bytes}
use Rattle.ts_text.specs.Edit.{IsOver}
use Rattle.ts_docs.proofs.RefusedLemmas.{same_error}
use Rattle.ts_docs.specs.declared.preparing.Refused.TheVariants as refused
use Rattle.ts_docs.proofs.preparing.prepare.Goals as goal

pub returns-in_err-text-clause-size : goal.returns-in_err-text-clause-size
returns-in_err-text-clause-size g c = λ n.
    let p = err_from_is_err_and c.from_residual.result c.from_residual.ensures.1 in
    let s = c.in_err-text.ensures.size n in
    rw (p.1, p.2) (
      λ e. subst (λ (t : Bytes). IsOver t c.args.edit.now n) c.text.ensures
          (s.0 (same_error c.in_err-text.field-0.0 (refused.Size n) e)),
      λ over. same_error c.in_err-text.field-0.0 (refused.Size n)
          (s.1 (subst (λ (t : Bytes). IsOver t c.args.edit.now n) (sym c.text.ensures) over)),
    )
