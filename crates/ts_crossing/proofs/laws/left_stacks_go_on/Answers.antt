use Rattle.std.proofs.Common.{sym, subst, map}
use Rattle.spec_packing.specs.Packing.{PackedStack}
use Rattle.spec_crossing.specs.Resting.{PackedRests}
use Rattle.ts_reductions.specs.SoundLinks.{bare_link, bare_links}
use Rattle.ts_table.specs.Ranks.{unit_rank}
use Rattle.ts_reductions.specs.Sound.{parsing_from}
use Rattle.ts_crossing.proofs.LeftLemmas.{reads, head_at_place, layers_is, left_own, left_stand}
use Rattle.ts_crossing.proofs.laws.left_stacks_go_on.Goals as goal

pub returns-clause-rests : goal.returns-clause-rests
returns-clause-rests c t text base g h numbers foot stacks k sound there s left start begun most ranked n whole early alone before stuck account r =
    let laws = c.leave_laws_hold.ensures in
    let at = head_at_place laws t text base g sound h there numbers foot stacks k s left in
    subst (λ (j : PackedStack). PackedRests t.grammar text stuck j) (sym (layers_is laws t text base g sound h there numbers foot stacks k s left))
    (c.followed_graphs_pack.ensures.leaves (parsing_from t text base) sound.laid.parsed.fit sound.laid.parsed.states start begun (unit_rank t.grammar) most ranked g.heads (bare_links g.links)
    sound.laid.graph n whole early before stuck account r h k.place (reads laws t text base g sound h there numbers foot stacks k s left).0 (map bare_link s.way)
    at alone s.only s.token)

pub returns-clause-own : goal.returns-clause-own
returns-clause-own c t text base g h numbers foot stacks k sound there s left own = left_own c.leave_laws_hold.ensures t text base g sound h there numbers foot stacks k s left own

pub returns-clause-stand : goal.returns-clause-stand
returns-clause-stand c t text base g h numbers foot stacks k sound there s left table states named st = left_stand c.leave_laws_hold.ensures t text base g sound h there numbers foot stacks k s left table states named st
