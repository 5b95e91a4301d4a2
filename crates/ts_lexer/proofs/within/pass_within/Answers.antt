use Rattle.std.proofs.Common.{sym, subst, ℕ, ◌+◌, ◌-◌, ◌<◌, ◌++◌, [], true, false, Some, None, length, drop, arith}
use Rattle.std.proofs.lemmas.Str.{IsUtf8-nil}
use Rattle.ts_lexer.specs.Within.{IsFoundIn}
use Rattle.ts_lexer.proofs.PassLemmas.{Passing, passing_none}
use Rattle.ts_lexer.proofs.WithinLemmas.{passed_more, reach_near, separator_utf8, separator_within, stopped, taken}
use Rattle.ts_lexer.proofs.within.pass_within.Goals as goal

pub row_for-row-requires : goal.row_for-row-requires
row_for-row-requires c = (c.requires.ready.0, c.requires.ready.1, c.requires.ready.3)

pub row_for-row-requires-in-passing : goal.row_for-row-requires-in-passing
row_for-row-requires-in-passing c = (c.requires.ready.0, c.requires.ready.1, c.requires.ready.3)

pub passing-init : goal.passing-init
passing-init c = record {
  count = (c.row_for-row.ensures c.requires.ready.0 c.requires.ready.1 c.requires.ready.3).count;
  within = omega arith;
  utf8 = c.utf8.piece;
  near = omega arith;
  passing = λ g valid tail made has utf8. (true, c.row_for-row.ensures g valid has, passing_none g valid (c.args.piece.now ++ tail));
}

pub farther-extent-requires : goal.farther-extent-requires
farther-extent-requires c =
    let inv = c.passing.invariant in
    let r = c.requires.ready in
    let k = inv.passing r.0 r.1 [] r.2 r.3 IsUtf8-nil in
    let x = c.in-Some.ensures.scanned r.0 r.1 k.0 [] r.2.rules k.1 r.2.automaton IsUtf8-nil in
    let close = reach_near r.0 r.1 c.args.piece.now k.0 c.passing.pad c.passing.extent inv.within c.in-Some.here x in
    let small = c.requires.size in
    omega arith

pub overflow_add-pad : goal.overflow_add-pad
overflow_add-pad c =
    let inv = c.passing.invariant in
    let r = c.requires.ready in
    let k = inv.passing r.0 r.1 [] r.2 r.3 IsUtf8-nil in
    let x = c.in-Some.ensures.scanned r.0 r.1 k.0 [] r.2.rules k.1 r.2.automaton IsUtf8-nil in
    let above : 0 < c.in-Some.here.separator = (let z = c.if-here-eq0.false in omega arith) in
    let inside = separator_within r.0 r.1 c.args.piece.now k.0 c.passing.pad c.passing.extent inv.within c.in-Some.here x inv.utf8 above in
    let size = c.requires.size in
    omega arith

pub passing-smaller : goal.passing-smaller
passing-smaller c =
    let inv = c.passing.invariant in
    let r = c.requires.ready in
    let k = inv.passing r.0 r.1 [] r.2 r.3 IsUtf8-nil in
    let x = c.in-Some.ensures.scanned r.0 r.1 k.0 [] r.2.rules k.1 r.2.automaton IsUtf8-nil in
    let above : 0 < c.in-Some.here.separator = (let z = c.if-here-eq0.false in omega arith) in
    let inside = separator_within r.0 r.1 c.args.piece.now k.0 c.passing.pad c.passing.extent inv.within c.in-Some.here x inv.utf8 above in
    let smaller : length c.args.piece.now - (c.passing.pad + c.in-Some.here.separator) < length c.args.piece.now - c.passing.pad = omega arith in
    smaller

pub passing-preserved : goal.passing-preserved
passing-preserved c =
    let inv = c.passing.invariant in
    let r = c.requires.ready in
    let piece = c.args.piece.now in
    let here = c.in-Some.here in
    let k = inv.passing r.0 r.1 [] r.2 r.3 IsUtf8-nil in
    let x = c.in-Some.ensures.scanned r.0 r.1 k.0 [] r.2.rules k.1 r.2.automaton IsUtf8-nil in
    let above : 0 < here.separator = (let z = c.if-here-eq0.false in omega arith) in
    let inside = separator_within r.0 r.1 piece k.0 c.passing.pad c.passing.extent inv.within here x inv.utf8 above in
    let close = reach_near r.0 r.1 piece k.0 c.passing.pad c.passing.extent inv.within here x in
    record {
      count = (c.row_for-row-in-passing.ensures r.0 r.1 r.3).count;
      within = inside;
      utf8 = separator_utf8 r.0 r.1 piece k.0 c.passing.pad c.passing.extent inv.within here x inv.utf8 above;
      near = (let near = inv.near in let far = c.farther-extent.ensures in omega arith);
      passing = λ g valid tail made has utf8.
          let q = inv.passing g valid tail made has utf8 in
          let y = c.in-Some.ensures.scanned g valid q.0 tail made.rules q.1 made.automaton utf8 in (
            false,
            c.row_for-row-in-passing.ensures g valid has,
            subst (λ (n : ℕ). Passing g valid (piece ++ tail) (drop (c.passing.pad + here.separator) piece ++ tail) false (c.passing.pad + here.separator) n) (sym c.farther-extent.ensures)
                (passed_more g valid piece q.0 c.passing.pad c.passing.extent inv.within here tail inv.near close q.2 y c.in-None.is c.in-Some.ensures.some above inside),
          );
    }

pub returns-in-Some-best : goal.returns-in-Some-best
returns-in-Some-best c g valid tail made has utf8 =
    let inv = c.passing.invariant in
    let r = c.requires.ready in
    let piece = c.args.piece.now in
    let here = c.in-Some.here in
    let k = inv.passing r.0 r.1 [] r.2 r.3 IsUtf8-nil in
    let x = c.in-Some.ensures.scanned r.0 r.1 k.0 [] r.2.rules k.1 r.2.automaton IsUtf8-nil in
    let close = reach_near r.0 r.1 piece k.0 c.passing.pad c.passing.extent inv.within here x in
    let q = inv.passing g valid tail made has utf8 in
    let y = c.in-Some.ensures.scanned g valid q.0 tail made.rules q.1 made.automaton utf8 in
    subst (λ (n : ℕ). IsFoundIn g valid (piece ++ tail) (record { found = Some c.in-Some-best.found; pad = c.passing.pad; extent = n })) (sym c.farther-extent.ensures)
    (taken g valid piece q.0 c.passing.pad c.passing.extent inv.within here tail inv.near close q.2 y c.in-Some-best.found c.in-Some-best.is)

pub returns-then-here-eq0 : goal.returns-then-here-eq0
returns-then-here-eq0 c g valid tail made has utf8 =
    let inv = c.passing.invariant in
    let r = c.requires.ready in
    let piece = c.args.piece.now in
    let here = c.in-Some.here in
    let k = inv.passing r.0 r.1 [] r.2 r.3 IsUtf8-nil in
    let x = c.in-Some.ensures.scanned r.0 r.1 k.0 [] r.2.rules k.1 r.2.automaton IsUtf8-nil in
    let close = reach_near r.0 r.1 piece k.0 c.passing.pad c.passing.extent inv.within here x in
    let q = inv.passing g valid tail made has utf8 in
    let y = c.in-Some.ensures.scanned g valid q.0 tail made.rules q.1 made.automaton utf8 in
    subst (λ (n : ℕ). IsFoundIn g valid (piece ++ tail) (record { found = None; pad = c.passing.pad; extent = n })) (sym c.farther-extent.ensures)
    (stopped g valid piece q.0 c.passing.pad c.passing.extent inv.within here tail inv.near close q.2 y c.in-None.is c.in-Some.ensures.some c.if-here-eq0.true)
