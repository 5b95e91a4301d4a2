use Rattle.ts_script.proofs.FormLemmas.{no_parts, no_pieces}
use Rattle.ts_script.proofs.form.changes.Goals as goal

pub returns-in-None-2 : goal.returns-in-None-2
returns-in-None-2 c =
    let none = rw c.in-None-2.is at c.in_ok-pieces-in-Some.ensures in
    λ act f h. no_pieces _ c.in-Some.values.items c.in-Some.ensures.1 none act f h

pub returns-in-None : goal.returns-in-None
returns-in-None c = λ act f h. no_parts _ c.in-None.ensures act f h
