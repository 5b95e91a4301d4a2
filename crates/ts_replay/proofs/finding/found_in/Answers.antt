use Rattle.std.proofs.Common.{sym, subst}
use Rattle.ts_core.specs.declared.flat.FlatGrammar.{FlatGrammar}
use Rattle.ts_replay.specs.Sights.{StandsFor}
use Rattle.ts_replay.proofs.finding.found_in.Goals as goal

pub sight_of-requires-clause-kept : goal.sight_of-requires-clause-kept
sight_of-requires-clause-kept g c =
    subst (λ (f : FlatGrammar). StandsFor f c.take.result) (sym c.grammar.ensures)
    (subst (StandsFor (g.F.Finder.form c.args.finder.now)) (sym c.take.ensures.value) c.requires.kept)
