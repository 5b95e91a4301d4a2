use Rattle.std.proofs.Common.{◌≡◌, ◌+◌, sym, subst, inl, inr, refl, take, drop, rules}
use Rattle.ts_base.specs.Bytes.{Bytes}
use Rattle.ts_script.specs.Lines.{BeginsWithLine}
use Rattle.ts_script.proofs.LineLemmas.{cut_at, cut_nowhere}
use Rattle.ts_script.proofs.cut.first_line.Goals as goal

pub returns-in-Some-clause-cut : goal.returns-in-Some-clause-cut
returns-in-Some-clause-cut c =
    let after : c.split_at.result.1.now ≡ drop (c.in-Some.at + 1) c.args.bytes.now = search rules in
    inl (subst (λ (x : Bytes). BeginsWithLine c.args.bytes.now (take c.in-Some.at c.args.bytes.now) x) (sym after)
    (cut_at _ _ c.in-Some.ensures.0 c.in-Some.ensures.1))

pub returns-in-None-clause-cut : goal.returns-in-None-clause-cut
returns-in-None-clause-cut c =
    inr (record { cut = cut_nowhere _ c.in-None.ensures; whole = refl; some_byte = c.requires }, search rules)
