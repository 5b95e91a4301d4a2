use Rattle.std.proofs.Common.{◌∙◌, sym, arith}
use Rattle.std.proofs.lemmas.List.{nil_from_length}
use Rattle.ts_reductions.proofs.asking.list_of.Goals as goal

pub returns-then-is_empty : goal.returns-then-is_empty
returns-then-is_empty c =
    c.new.ensures ∙ sym (nil_from_length c.args.nodes.now.items (grind (arith, c.if-is_empty.true, c.is_empty.ensures, c.args.nodes.now.ok)))
