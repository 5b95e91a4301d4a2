use Rattle.ts_top.proofs.JudgeLemmas.{text_faults}
use Rattle.ts_top.proofs.judge.read_text.Goals as goal

pub returns-in-Bytes-clause-fault : goal.returns-in-Bytes-clause-fault
returns-in-Bytes-clause-fault c =
    text_faults c.from_bytes.result c.args.file.now c.in-Bytes.bytes c.as_slice.result.now c.in-Bytes.is c.as_slice.ensures.value c.from_bytes.ensures.size c.from_bytes.ensures.utf8
