use Rattle.spec_history.proofs.laws.found_one_by_one.Goals as goal

pub returns : goal.returns
returns g c = g.met.F.Finder.one_by_one c.args._finder.now
