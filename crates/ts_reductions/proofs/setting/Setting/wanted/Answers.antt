use Rattle.std.proofs.Common.{◌≡◌, ◌∙◌, sym, ap, ℕ, length, Option, Some, arith}
use Rattle.std.proofs.lemmas.Option.{slice_get_within}
use Rattle.ts_core.specs.declared.flat.Production.{Production}
use Rattle.spec_grammar.specs.Symbols.{all_productions}
use Rattle.ts_table.specs.Ranks.{unit_rank}
use Rattle.ts_reductions.proofs.LineLemmas.{left_low}
use Rattle.ts_reductions.proofs.setting.Setting.wanted.Goals as goal

pub get-line-requires : goal.get-line-requires
get-line-requires c =
    let r = c.requires in
    let m = r.4.lines.many in
    let n = slice_get_within (all_productions r.0.grammar) c.args.number (r.2, r.3) r.5 in
    omega (arith, m, n)

pub get-rank-requires : goal.get-rank-requires
get-rank-requires c =
    let r = c.requires in
    let n = r.4.lines.each c.args.number c.get-line.result.now c.get-line.ensures in
    let m = r.4.ranks.many in
    let w = left_low r.0.grammar c.args.number c.get-line.result.now.left.0 n.production n.at in
    let e = c.from.ensures in
    omega (arith, m, w, e)

pub returns : goal.returns
returns c = λ t size left p is at.
    let n = is.lines.each c.args.number c.get-line.result.now c.get-line.ensures in
    let f : ◌≡◌ {A = Option (ℕ × Production)} (Some (c.get-line.result.now.left.0, n.production)) (Some (left, p)) = sym n.at ∙ at in
    let both : ◌≡◌ {A = ℕ × Production} (c.get-line.result.now.left.0, n.production) (left, p) = cc in
    record {
      steps = n.steps ∙ ap (λ (x : ℕ × Production). length x.1.steps) both;
      rank = is.ranks.each c.from.result c.get-rank.result.now c.get-rank.ensures ∙ ap (unit_rank t.grammar) (c.from.ensures ∙ ap (λ (x : ℕ × Production). x.0) both);
    }
