use Rattle.std.proofs.Common.{◌≡◌, Result, Ok, Err, Some}
use Rattle.ts_base.specs.Bytes.{Bytes}
use Rattle.ts_session.proofs.JudgeLemmas.{text_fault, of_bytes}
use Rattle.ts_session.proofs.openings.text_in.Goals as goal

pub returns-in-Err : goal.returns-in-Err
returns-in-Err c =
    of_bytes c.refused.result c.args.path.now c.args.bytes.now c.in-Err.fault (text_fault c.from_bytes.result c.args.bytes.now c.in-Err.fault c.in-Err.is c.from_bytes.ensures.size c.from_bytes.ensures.utf8) c.refused.ensures
