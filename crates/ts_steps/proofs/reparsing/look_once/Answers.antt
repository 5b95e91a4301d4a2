use Rattle.ts_steps.proofs.reparsing.look_once.Goals as goal

pub returns-in-Some-clause-sees : goal.returns-in-Some-clause-sees
returns-in-Some-clause-sees g c = c.requires.known c.in-Some.found c.in-Some.is
