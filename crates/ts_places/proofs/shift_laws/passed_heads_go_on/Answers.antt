use Rattle.ts_places.proofs.ExtraLemmas.{passed_stops, passed_moves}
use Rattle.ts_places.proofs.shift_laws.passed_heads_go_on.Goals as goal

pub returns-clause-stops : goal.returns-clause-stops
returns-clause-stops c t text base g h sound p look stop s = passed_stops c.look_laws_hold.ensures t text base g sound h p look stop s

pub returns-clause-moves : goal.returns-clause-moves
returns-clause-moves c t text base g h sound p read place symbol pad size at sees move = passed_moves c.look_laws_hold.ensures t text base g sound h p read place at symbol pad size sees move
