use Rattle.std.proofs.Common.{◌∙◌, Bor}
use Rattle.std.specs.Str.{bytes_eq}
use Rattle.ts_base.specs.Bytes.{Bytes}
use Rattle.ts_query_names.proofs.KindLemmas.{any_map}
use Rattle.ts_query_names.proofs.judging.is_own.Goals as goal

pub returns : goal.returns
returns c = c.contains.ensures ∙ any_map (λ (name : Bor Bytes). name.now) bytes_eq c.args.name.now c.args.own.now.keys
