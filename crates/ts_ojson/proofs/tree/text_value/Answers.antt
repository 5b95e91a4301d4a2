use Rattle.std.proofs.Common.{arith}
use Rattle.ts_ojson.specs.Roles as role
use Rattle.ts_ojson.proofs.PlaceLemmas.{after_byte, text_ends}
use Rattle.ts_ojson.proofs.tree.text_value.Goals as goal

pub string-requires-clause-boundary : goal.string-requires-clause-boundary
string-requires-clause-boundary c = after_byte c.args.text.now c.args.at 34 c.utf8.text c.requires (omega arith)

pub returns-clause-ok : goal.returns-clause-ok
returns-clause-ok c k h =
    let s = c.in_ok-text.ensures in
    text_ends c.args.text.now c.in_ok-text.end c.in_ok-text.text k (s.ok role.value k h) s.quote
