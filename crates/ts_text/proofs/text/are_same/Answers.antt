use Rattle.ts_text.proofs.text.are_same.Goals as goal

pub same_at-requires-clause-few : goal.same_at-requires-clause-few
same_at-requires-clause-few c = c.len-length.ensures.text.within
