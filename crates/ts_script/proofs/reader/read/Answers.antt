use Rattle.std.proofs.Common.{◌≤◌, ◌<◌, length, rules}
use Rattle.ts_script.specs.Rules.{most_script_bytes}
use Rattle.ts_script.specs.Script.{too_large}
use Rattle.ts_script.proofs.DraftLemmas.{is_script}
use Rattle.ts_script.proofs.reader.read.Goals as goal

pub returns-then-bytes-gt-MOST_SCRIPT_BYTES-clause-refused : goal.returns-then-bytes-gt-MOST_SCRIPT_BYTES-clause-refused
returns-then-bytes-gt-MOST_SCRIPT_BYTES-clause-refused c =
    let over : most_script_bytes < length c.args.bytes.now = search rules in
    λ other. too_large over

pub returns-clause-ok : goal.returns-clause-ok
returns-clause-ok c =
    let small : length c.args.bytes.now ≤ most_script_bytes = search rules in
    let w = c.in_ok-draft.ensures.ok in
    is_script c.args.bytes.now w.0 _ _ small w.1 c.into_plan.ensures
