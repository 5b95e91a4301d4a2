use Rattle.std.proofs.Common.{arith}
use Rattle.ts_langfile.proofs.VerdictLemmas.{reads_from, formed_from, fault_from, fields_fault}
use Rattle.ts_langfile.proofs.reader.fields.Goals as goal

pub returns-clause-ok : goal.returns-clause-ok
returns-clause-ok c = reads_from c.args.bytes.now c.judged_fields.result (λ i. omega (arith, c.type_inv.bytes i)) c.judged_fields.ensures

pub returns-clause-formed : goal.returns-clause-formed
returns-clause-formed c = formed_from c.args.bytes.now c.judged_fields.result (λ i. omega (arith, c.type_inv.bytes i)) c.judged_fields.ensures

pub returns-clause-refused : goal.returns-clause-refused
returns-clause-refused c = fault_from c.args.bytes.now c.judged_fields.result c.judged_fields.ensures

pub returns-clause-unasked : goal.returns-clause-unasked
returns-clause-unasked c = fields_fault c.args.bytes.now c.judged_fields.result c.judged_fields.ensures
