use Rattle.std.proofs.Common.{◌≡◌, ◌∙◌, sym, Bool, true, false}
use Rattle.std.proofs.lemmas.Result.{err_from_is_err_and}
use Rattle.ts_script.specs.Script.{blank, no_line}
use Rattle.ts_script.specs.Lines.{IsBlankLine}
use Rattle.ts_script.proofs.DraftLemmas.{accepted, refused}
use Rattle.ts_script.proofs.draft.Draft.read.Goals as goal

pub returns-then-is_blank-clause-ok : goal.returns-then-is_blank-clause-ok
returns-then-is_blank-clause-ok c = λ before is. (before, blank (c.is_blank.ensures.0 c.if-is_blank.true), is)

pub returns-in_err-judge-in-Some-clause-refused : goal.returns-in_err-judge-in-Some-clause-refused
returns-in_err-judge-in-Some-clause-refused c =
    let filled : IsBlankLine c.args.line.now → ⊥ = λ h. let e : false ≡ true = sym c.if-is_blank.false ∙ c.is_blank.ensures.1 h in cc in
    let read = rw c.in-Some.is at c.in_ok-said.ensures in
    let p = err_from_is_err_and c.from_residual-in_err-judge-in-Some.result c.from_residual-in_err-judge-in-Some.ensures.1 in
    rw (p.1, p.2) (λ other before is. refused before c.args.line.now c.in-Some.said c.args.number _ filled read (c.in_err-judge-in-Some.ensures.refused other before is))

pub returns-in_ok-judge-in-Some-clause-ok : goal.returns-in_ok-judge-in-Some-clause-ok
returns-in_ok-judge-in-Some-clause-ok c =
    let filled : IsBlankLine c.args.line.now → ⊥ = λ h. let e : false ≡ true = sym c.if-is_blank.false ∙ c.is_blank.ensures.1 h in cc in
    let read = rw c.in-Some.is at c.in_ok-said.ensures in
    λ before is. accepted before c.args.line.now c.in-Some.said c.args.self.now c.judge.new.self filled read is c.in_ok-judge-in-Some.ensures.ok

pub returns-in-None-clause-refused : goal.returns-in-None-clause-refused
returns-in-None-clause-refused c =
    let filled : IsBlankLine c.args.line.now → ⊥ = λ h. let e : false ≡ true = sym c.if-is_blank.false ∙ c.is_blank.ensures.1 h in cc in
    λ other before is. no_line filled (rw c.in-None.is at c.in_ok-said.ensures)
