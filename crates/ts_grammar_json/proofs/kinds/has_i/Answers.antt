use Rattle.std.proofs.Common.{rules, tests}
use Rattle.std.proofs.lemmas.Iterator.{YieldsList-from_slice}
use Rattle.std.proofs.lemmas.Iterator.Search.{any_from_yields_List}
use Rattle.ts_grammar_json.specs.Kinds.{is_i}
use Rattle.ts_grammar_json.proofs.kinds.has_i.Goals as goal

pub returns : goal.returns
returns c = any_from_yields_List is_i _ _ _ c.any.ensures.ran (YieldsList-from_slice c.args.bytes.now cc) (λ x b q k. search (rules, tests))
