use Rattle.ts_front.proofs.LineLemmas.{conflict_has_none}
use Rattle.ts_front.proofs.fault_lines.conflict.Goals as goal

pub line-requires : goal.line-requires
line-requires c = conflict_has_none _ _ _ _ c.in_ok-names.ensures c.in_ok-conflict_value.ensures
