use Rattle.std.proofs.Common.{◌+◌, sym, ◌∙◌, arith}
use Rattle.ts_query_tree.proofs.WordLemmas.{byte_there, boundary_behind, quoted_within}
use Rattle.ts_query_tree.proofs.sight.text_at.Goals as goal

pub quoted-requires-clause-boundary : goal.quoted-requires-clause-boundary
quoted-requires-clause-boundary c = boundary_behind c.args.text.now c.args.at 34 c.utf8.text c.requires.quote (omega arith)

pub returns-in-Some-clause-within : goal.returns-in-Some-clause-within
returns-in-Some-clause-within c =
    let there = byte_there c.args.text.now c.args.at 34 c.requires.quote in
    let l = quoted_within c.args.text.now (c.args.at + 1) (c.in-Some.inner, c.in-Some.end) (omega (arith, there.0)) (sym c.in-Some.is ∙ c.in_ok-quoted.ensures) in
    (omega (arith, l.0), l.1)
