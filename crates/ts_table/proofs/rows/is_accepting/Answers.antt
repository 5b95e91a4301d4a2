use Rattle.ts_table.proofs.rows.is_accepting.Goals as goal

pub returns : goal.returns
returns c = ((λ t. (c.if-part-ne0.false, c.if-part-ne1.false, c.pool_has.ensures.0 t)), (λ w. c.pool_has.ensures.1 w.2))
