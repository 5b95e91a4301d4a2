use Rattle.std.proofs.Common.{Bor, Bool}
use Rattle.ts_base.specs.Bytes.{Bytes}
use Rattle.ts_rules.specs.Sights.{alias}
use Rattle.ts_numbering.specs.Places.{same_alias}
use Rattle.ts_numbering.proofs.FirstSightLemmas.{key_seen}
use Rattle.ts_numbering.proofs.SameLemmas.{alias_same, alias_itself}
use Rattle.ts_numbering.proofs.gather.first_aliases.Goals as goal

pub loop-alias-preserved : goal.loop-alias-preserved
loop-alias-preserved c =
    key_seen (λ (entry : Bor Bytes × Bool). alias entry.0.now entry.1) same_alias alias_same alias_itself c.args.seen.now c.loop-alias.found.keys c.insert.new.self.keys c.loop-alias.alias-index c.alias-item.result c.loop-alias-test.true c.alias-item.is c.in_ok-insert.ensures.keys c.loop-alias.invariant
