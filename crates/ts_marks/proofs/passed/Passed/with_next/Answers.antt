use Rattle.std.proofs.Common.{◌≡◌, ℕ, ◌+◌, ◌-◌, ap, sym, subst, refl, slice_get, Some}
use Rattle.ts_text.specs.declared.edit.Part.{Part}
use Rattle.ts_marks.specs.Parts.{IsPassed}
use Rattle.ts_marks.proofs.PassedLemmas.{there_is, passed_next}
use Rattle.ts_marks.proofs.passed.Passed.with_next.Goals as goal

pub invariant_of-result : goal.invariant_of-result
invariant_of-result c =
    let a = c.args.self in
    let p : Part = c.index-as_slice-self.result in
    let there : slice_get a.edit.now.parts a.next ≡ Some p = there_is a.edit.now.parts c.as_slice.result.now a.next c.requires.part p c.as_slice.ensures c.requires.there c.index-as_slice-self.is in
    record {
      passed = subst (λ (n : ℕ). IsPassed a.edit.now (a.next + 1) p.end (a.to + ((p.start - a.from) + n))) (sym c.len.ensures.count)
          (passed_next a.edit.now a.next a.from a.to p a.passed there);
    }

pub returns : goal.returns
returns c =
    let a = c.args.self in
    let p : Part = c.index-as_slice-self.result in
    record {
      part = p;
      there = there_is a.edit.now.parts c.as_slice.result.now a.next c.requires.part p c.as_slice.ensures c.requires.there c.index-as_slice-self.is;
      edit = refl;
      next = refl;
      from = refl;
      to = ap (λ (n : ℕ). a.to + ((p.start - a.from) + n)) c.len.ensures.count;
    }
