use Rattle.ts_query_names.proofs.FitLemmas.{kinds_fit, captures_fit, patterns_fit}
use Rattle.ts_query_names.proofs.laws.names_fit.Goals as goal

pub returns-clause-kinds : goal.returns-clause-kinds
returns-clause-kinds c x w h = kinds_fit c.signs_fit.ensures x w h

pub returns-clause-captures : goal.returns-clause-captures
returns-clause-captures c x w h = captures_fit c.signs_fit.ensures x w h

pub returns-clause-patterns : goal.returns-clause-patterns
returns-clause-patterns c x w h = patterns_fit c.signs_fit.ensures x w h
