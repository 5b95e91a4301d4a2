use Rattle.std.proofs.Common.{◌≡◌, []}
use Rattle.ts_script.proofs.FormLemmas.{empty_list}
use Rattle.ts_script.proofs.form.listed.Goals as goal

pub returns-then-is_empty : goal.returns-then-is_empty
returns-then-is_empty c =
    let none : c.in_ok-values.values.items ≡ [] = c.is_empty.ensures.0 c.if-is_empty.true in
    λ list some h. empty_list _ _ _ _ c.in_ok-values.ensures none list some h
