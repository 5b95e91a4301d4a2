use Rattle.std.proofs.Common.{◌≡◌, Some, IsTrue}
use Rattle.std.specs.List.{Contains}
use Rattle.ts_rules.specs.Names.{told}
use Rattle.ts_rules.specs.Numbers.{start_of, NamesSome}
use Rattle.ts_tokens.proofs.BoolLemmas.{either_second, both_ways}
use Rattle.ts_tokens.proofs.inlining.is_direct.Goals as goal

pub returns-else-is_start : goal.returns-else-is_start
returns-else-is_start c =
    let g = c.args.grammar.now in
    let name = c.args.name.now in
    let start = rw c.as_slice.ensures at c.is_start.ensures in
    either_second (start_of g.rules ≡ Some name) (NamesSome g name) c.is_start.result c.is_among.result c.if-is_start.false start
    (both_ways (IsTrue c.is_among.result) (Contains (told c.args.token_names.now.keys) name) (NamesSome g name) c.is_among.ensures (c.requires name))
