use Rattle.ts_docs.proofs.RefusedLemmas.{same_size, same_refusal}
use Rattle.ts_docs.proofs.preparing.edited.Goals as goal

pub returns-in-Err-Size-clause-size : goal.returns-in-Err-Size-clause-size
returns-in-Err-Size-clause-size g c = λ n.
    let s = c.in-Err-Size.ensures.size n in (
      λ e. s.0 (same_size c.in-Err-Size.field-0 c.in-Err-Size.size n c.in-Err-Size.field-0-is e),
      λ over. same_refusal c.in-Err-Size.field-0 c.in-Err-Size.size n c.in-Err-Size.field-0-is (s.1 over),
    )
