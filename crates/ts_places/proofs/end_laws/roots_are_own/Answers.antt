use Rattle.ts_places.proofs.OwnLemmas.{root_own, root_sound}
use Rattle.ts_places.proofs.end_laws.roots_are_own.Goals as goal

pub returns-clause-own : goal.returns-clause-own
returns-clause-own c t text base g h b sound accepts root all = root_own c.root_laws_hold.ensures t text base g sound h accepts b root all

pub returns-clause-sound : goal.returns-clause-sound
returns-clause-sound c t text base g h b sound accepts root table states named all st = root_sound c.root_laws_hold.ensures t text base g sound h accepts b root table states named all st
