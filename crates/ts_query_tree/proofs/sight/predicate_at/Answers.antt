use Rattle.std.proofs.Common.{sym, ap, ◌∙◌, arith}
use Rattle.ts_query_tree.specs.Signs.{is_predicate_mark}
use Rattle.ts_query_tree.proofs.WordLemmas.{boundary_here, mark_there}
use Rattle.ts_query_tree.proofs.sight.predicate_at.Goals as goal

pub written-requires-clause-to : goal.written-requires-clause-to
written-requires-clause-to c =
    (mark_there c.args.text.now c.name_end-end.result c.utf8.text (ap is_predicate_mark (sym c.byte_at.ensures) ∙ sym c.if-is_predicate_mark.ensures)).1

pub returns-then-is_predicate_mark-clause-within : goal.returns-then-is_predicate_mark-clause-within
returns-then-is_predicate_mark-clause-within c =
    let m = mark_there c.args.text.now c.name_end-end.result c.utf8.text (ap is_predicate_mark (sym c.byte_at.ensures) ∙ sym c.if-is_predicate_mark.ensures) in
    (omega (arith, c.gap_end-from.ensures.within.0, c.name_end-end.ensures.within.0), omega (arith, m.0))

pub written-requires-2-clause-from : goal.written-requires-2-clause-from
written-requires-2-clause-from c = boundary_here c.args.text.now c.args.at 35 c.requires.predicate (omega arith)

pub written-requires-2-clause-to : goal.written-requires-2-clause-to
written-requires-2-clause-to c = boundary_here c.args.text.now c.args.at 35 c.requires.predicate (omega arith)
