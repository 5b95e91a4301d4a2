use Rattle.std.proofs.Common.{◌∙◌, ap, Bor, Bool}
use Rattle.ts_base.specs.Bytes.{Bytes}
use Rattle.ts_rules.specs.Sights.{alias}
use Rattle.ts_numbering.specs.Places.{number_or, same_alias}
use Rattle.ts_numbering.proofs.NumberLemmas.{place_map, from_none}
use Rattle.ts_numbering.proofs.trees.alias_number.Goals as goal

pub returns-in-Some : goal.returns-in-Some
returns-in-Some c = from_none _ _ (c.in-Some.ensures.index ∙ place_map (λ (e : Bor Bytes × Bool). alias e.0.now e.1) same_alias (alias c.args.name.now c.args.named) c.args.numbering.now.aliases.keys)

pub returns-in-None : goal.returns-in-None
returns-in-None c = ap (number_or 0 0) (c.in-None.ensures.index ∙ place_map (λ (e : Bor Bytes × Bool). alias e.0.now e.1) same_alias (alias c.args.name.now c.args.named) c.args.numbering.now.aliases.keys)
