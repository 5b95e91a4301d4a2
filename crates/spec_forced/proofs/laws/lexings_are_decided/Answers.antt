use Rattle.spec_forced.proofs.DecidedLemmas.{any_list}
use Rattle.spec_forced.proofs.laws.lexings_are_decided.Goals as goal

pub returns-clause-seen : goal.returns-clause-seen
returns-clause-seen c g read text place extent f valid utf8 are seen lex =
    (valid, are, λ other agree. c.seen_decides.ensures g valid text other place 0 extent f utf8 seen agree lex)

pub returns-clause-lists : goal.returns-clause-lists
returns-clause-lists c g read rest s pad size extent valid are known h = any_list c.laws_hold.ensures g read rest s pad size extent valid are known h
