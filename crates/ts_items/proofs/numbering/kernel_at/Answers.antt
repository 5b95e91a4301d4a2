use Rattle.std.proofs.Common.{sym}
use Rattle.ts_items.proofs.numbering.kernel_at.Goals as goal

pub returns : goal.returns
returns c = (c.in-Some.kernel.now, sym c.in-Some.ensures.key, c.as_slice.ensures.value)
