use Rattle.std.proofs.Common.{◌∙◌, Bor}
use Rattle.std.specs.Str.{bytes_eq}
use Rattle.ts_base.specs.Bytes.{Bytes}
use Rattle.ts_query_names.proofs.KindLemmas.{position_map}
use Rattle.ts_query_names.proofs.lookup.capture_place.Goals as goal

pub returns-clause-place : goal.returns-clause-place
returns-clause-place c = c.get_index_of.ensures.index ∙ position_map (λ (name : Bor Bytes). name.now) bytes_eq c.args.name.now c.args.captures.now.keys
