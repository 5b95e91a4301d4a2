use Rattle.std.proofs.Common.{◌≡◌, refl, List}
use Rattle.std.specs.List.{Contains}
use Rattle.ts_table.specs.declared.candidates.Candidate.{Candidate}
use Rattle.ts_table.specs.declared.deciding.Verdict.TheVariants.{Shift, Reduce}
use Rattle.ts_table.specs.Deciding.{ShiftWins, ReduceWins}
use Rattle.ts_table.proofs.ContestLemmas.{cell_shift, cell_reduce, cell_both, iff_at}
use Rattle.ts_table.proofs.cells.contest.Goals as goal

pub returns-in-Shift : goal.returns-in-Shift
returns-in-Shift c = cell_shift c.args.grammar.now c.args.next c.args.shifts.items c.args.kept.items c.judge.result c.requires
    (iff_at (c.judge.result ≡ Shift) (λ (x y : List Candidate). ShiftWins c.args.grammar.now (Contains x) (Contains y)) _ _ _ _ c.as_slice.ensures.value c.as_slice-2.ensures.value c.judge.ensures.shift)
    (iff_at (c.judge.result ≡ Reduce) (λ (x y : List Candidate). ReduceWins c.args.grammar.now (Contains x) (Contains y)) _ _ _ _ c.as_slice.ensures.value c.as_slice-2.ensures.value c.judge.ensures.reduce) _ c.in-Shift.is refl c.new.ensures.items refl

pub returns-in-Reduce : goal.returns-in-Reduce
returns-in-Reduce c = cell_reduce c.args.grammar.now c.args.next c.args.shifts.items c.args.kept.items c.judge.result c.requires
    (iff_at (c.judge.result ≡ Shift) (λ (x y : List Candidate). ShiftWins c.args.grammar.now (Contains x) (Contains y)) _ _ _ _ c.as_slice.ensures.value c.as_slice-2.ensures.value c.judge.ensures.shift)
    (iff_at (c.judge.result ≡ Reduce) (λ (x y : List Candidate). ReduceWins c.args.grammar.now (Contains x) (Contains y)) _ _ _ _ c.as_slice.ensures.value c.as_slice-2.ensures.value c.judge.ensures.reduce) _ c.in-Reduce.is refl refl c.new-in-Reduce.ensures.items

pub returns-in-Both : goal.returns-in-Both
returns-in-Both c = cell_both c.args.grammar.now c.args.next c.args.shifts.items c.args.kept.items c.judge.result c.requires
    (iff_at (c.judge.result ≡ Shift) (λ (x y : List Candidate). ShiftWins c.args.grammar.now (Contains x) (Contains y)) _ _ _ _ c.as_slice.ensures.value c.as_slice-2.ensures.value c.judge.ensures.shift)
    (iff_at (c.judge.result ≡ Reduce) (λ (x y : List Candidate). ReduceWins c.args.grammar.now (Contains x) (Contains y)) _ _ _ _ c.as_slice.ensures.value c.as_slice-2.ensures.value c.judge.ensures.reduce) _ c.in-Both.is refl refl refl
