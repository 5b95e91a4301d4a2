use Rattle.std.proofs.Common.{refl}
use Rattle.ts_query_names.specs.Given.{names_told}
use Rattle.ts_query_syntax.proofs.BuiltLemmas.{form_none, form_asks}
use Rattle.ts_query_syntax.proofs.JudgeLemmas.{out_at_once}
use Rattle.ts_query_syntax.proofs.asked.asked.Goals as goal

pub returns-in_err-asked-in-Text-clause-runs : goal.returns-in_err-asked-in-Text-clause-runs
returns-in_err-asked-in-Text-clause-runs g c = out_at_once _ _ _ c.from_residual.ensures.1

pub returns-in_err-asked-in-OneOf-clause-runs : goal.returns-in_err-asked-in-OneOf-clause-runs
returns-in_err-asked-in-OneOf-clause-runs g c = out_at_once _ _ _ c.from_residual-in_err-asked-in-OneOf.ensures.1

pub returns-in_ok-asked-in-Text-clause-runs : goal.returns-in_ok-asked-in-Text-clause-runs
returns-in_ok-asked-in-Text-clause-runs g c = form_none _ _ c.in-Text.is _ refl

pub returns-in-Pair-clause-runs : goal.returns-in-Pair-clause-runs
returns-in-Pair-clause-runs g c = form_none _ _ c.in-Pair.is _ refl

pub returns-in_ok-asked-in-OneOf-clause-runs : goal.returns-in_ok-asked-in-OneOf-clause-runs
returns-in_ok-asked-in-OneOf-clause-runs g c = form_none _ _ c.in-OneOf.is _ refl

pub returns-in_ok-search-in-Found-clause-is : goal.returns-in_ok-search-in-Found-clause-is
returns-in_ok-search-in-Found-clause-is g c = form_asks _ _ c.in-Found.is (names_told c.args.numbers.now) _ (c.in_ok-search-in-Found.search, refl, c.in_ok-search-in-Found.ensures.is)

pub returns-in-Host-clause-runs : goal.returns-in-Host-clause-runs
returns-in-Host-clause-runs g c = form_none _ _ c.in-Host.is _ refl
