use Rattle.std.proofs.Common.{◌≡◌, ◌+◌, subst, refl, List, length, nat_lt, slice_get, Some}
use Rattle.std.proofs.lemmas.Option.{slice_get_read}
use Rattle.ts_text.specs.declared.edit.Part.{Part}
use Rattle.spec_reuse.specs.Changes.{is_met}
use Rattle.ts_marks.proofs.PassedLemmas.{met_left, test_is}
use Rattle.ts_marks.proofs.passed.Passed.meets.Goals as goal

pub returns-then-self-parts : goal.returns-then-self-parts
returns-then-self-parts c =
    let p : Part = c.index-parts-self.result in
    let at : slice_get c.as_slice-parts.result.now c.args.self.next ≡ Some p = slice_get_read c.as_slice-parts.result.now (length c.as_slice-parts.result.now) c.args.self.next p refl c.if-self-parts.true c.index-parts-self.is in
    let there : slice_get c.args.self.edit.now.parts c.args.self.next ≡ Some p = subst (λ (ps : List Part). slice_get ps c.args.self.next ≡ Some p) c.as_slice-parts.ensures at in
    let m = met_left c.args.self c.args.place c.args.extent p c.requires.from c.requires.behind there in
    subst (λ (q : Part). nat_lt q.start (c.args.place + c.args.extent) ≡ is_met c.args.self.edit.now.parts c.args.place c.args.extent) c.index-parts-self.is
    (test_is p.start (c.args.place + c.args.extent) (is_met c.args.self.edit.now.parts c.args.place c.args.extent) m.0 m.1)
