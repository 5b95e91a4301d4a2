use Rattle.ts_places.proofs.OutcomeLemmas.{ends_still, ends_passed}
use Rattle.ts_places.proofs.end_laws.ends_stay.Goals as goal

pub returns-clause-grows : goal.returns-clause-grows
returns-clause-grows c t text old new from to ends base sound keep later e =
    ends_still t text base old new keep from to ends later (λ h passed. c.passed_heads_go_on.ensures.stops t text base new h sound passed) (λ h passed. c.passed_heads_go_on.ensures.moves t text base new h sound passed) e

pub returns-clause-passes : goal.returns-clause-passes
returns-clause-passes c t text g from to next ends none le e = ends_passed t text g from to next ends none le e
