use Rattle.ts_rules.specs.Numbers.{outermost, unnumbered}
use Rattle.ts_entries.proofs.contents.is_repeated.Goals as goal

pub returns : goal.returns
returns c = let h = c.shape_of.ensures unnumbered in h.filled outermost
