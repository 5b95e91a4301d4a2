use Rattle.ts_script.proofs.FormLemmas.{no_numbers}
use Rattle.ts_script.proofs.form.query.Goals as goal

pub returns-in-None-2 : goal.returns-in-None-2
returns-in-None-2 c =
    let none = rw c.in-None-2.is at c.in_ok-numbers-in-Some.ensures in
    λ act f h. no_numbers _ c.in-Some.values.items c.in-Some.ensures.1 none act f h
