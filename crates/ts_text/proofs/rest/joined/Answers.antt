use Rattle.std.proofs.Common.{◌≡◌, length, min, string_bytes}
use Rattle.ts_text.proofs.PieceLemmas.{joined_more}
use Rattle.ts_text.proofs.rest.joined.Goals as goal

pub loop-wanting-preserved : goal.loop-wanting-preserved
loop-wanting-preserved c =
    let few : c.min-now.result ≡ min c.loop-wanting.wanting (length c.split-later.result.0.now) = c.min-now.ensures in
    joined_more c.args.rest.now (string_bytes c.loop-wanting.made) c.loop-wanting.left c.split-later.result.0.now c.split-later.result.1 c.split_at.result.0.now
    (string_bytes c.push_str.new.self) c.args.count c.loop-wanting.wanting c.min-now.result
    c.loop-wanting.invariant c.split-later.ensures.whole c.split-later.ensures.utf8 few c.split_at.ensures.front c.in_ok-push_str.ensures.bytes
