use Rattle.std.proofs.Common.{◌≡◌, ℕ, ◌+◌, ◌/◌, arith, subst, length, not, nat_eq}
use Rattle.std.specs.Prelude.{if◌then◌else◌}
use Rattle.std.proofs.lemmas.Int.{ints}
use Rattle.spec_grammar.specs.Symbols.{start_symbol}
use Rattle.spec_trees.specs.Made.{repetition_form, of_rule}
use Rattle.ts_reductions.specs.Lines.{lengthens_by}
use Rattle.ts_reductions.proofs.LineLemmas.{line_is}
use Rattle.ts_reductions.proofs.lines.line_at.Goals as goal

pub returns : goal.returns
returns c =
    let l : c.len.result ≡ length c.args.flat.now.tokens = c.len.ensures in
    let k : c.len-count.result ≡ length c.args.rule.now.productions = c.len-count.ensures in
    let n : c.len.result + 1 + c.args.r ≡ start_symbol c.args.flat.now + c.args.r = omega (arith, l) in
    let f : lengthens_by (if not (nat_eq c.args.rule.now.owner.0 (c.len.result + 1 + c.args.r)) then repetition_form (c.len-count.result / 2) c.args.i else of_rule) ≡ c.lengthens.result = c.lengthens.ensures in
    let f1 : lengthens_by (if not (nat_eq c.args.rule.now.owner.0 (start_symbol c.args.flat.now + c.args.r)) then repetition_form (c.len-count.result / 2) c.args.i else of_rule) ≡ c.lengthens.result =
    subst (λ (s : ℕ). lengthens_by (if not (nat_eq c.args.rule.now.owner.0 s) then repetition_form (c.len-count.result / 2) c.args.i else of_rule) ≡ c.lengthens.result) n f in
    let f2 : lengthens_by (if not (nat_eq c.args.rule.now.owner.0 (start_symbol c.args.flat.now + c.args.r)) then repetition_form (length c.args.rule.now.productions / 2) c.args.i else of_rule) ≡ c.lengthens.result =
    subst (λ (m : ℕ). lengthens_by (if not (nat_eq c.args.rule.now.owner.0 (start_symbol c.args.flat.now + c.args.r)) then repetition_form (m / 2) c.args.i else of_rule) ≡ c.lengthens.result) k f1 in
    line_is c.args.flat.now c.args.r c.args.i c.args.rule.now c.get-production.result.now _ c.requires.rule c.get-production.ensures n f2 (omega (arith, ints))
