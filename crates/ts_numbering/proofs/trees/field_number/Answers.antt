use Rattle.std.proofs.Common.{◌∙◌, ap, Bor}
use Rattle.ts_base.specs.Bytes.{Bytes}
use Rattle.std.specs.Str.{bytes_eq}
use Rattle.ts_numbering.specs.Places.{number_or}
use Rattle.ts_numbering.proofs.NumberLemmas.{place_map}
use Rattle.ts_numbering.proofs.trees.field_number.Goals as goal

pub returns : goal.returns
returns c = c.number_or_other.ensures ∙ ap (number_or 0 0) (c.get_index_of.ensures.index ∙ place_map (λ (t : Bor Bytes). t.now) bytes_eq c.args.name.now c.args.numbering.now.fields.keys)
