use Rattle.std.proofs.Common.{◌≡◌, ◌∙◌, ◌-◌, ap, sym, get_or, map, List, length, Bor, ℕ}
use Rattle.std.proofs.lemmas.List.{length-map}
use Rattle.ts_core.specs.declared.flat.Step.{Step}
use Rattle.ts_core.specs.declared.flat.FlatGrammar.{FlatGrammar}
use Rattle.spec_grammar.specs.Symbols.{first_production}
use Rattle.ts_cursor.proofs.NumberLemmas.{first_read}
use Rattle.ts_cursor.proofs.steps.Steps.first.Goals as goal

pub returns : goal.returns
returns c =
    let g : FlatGrammar = c.self.inside.grammar.now in
    let f : c.as_slice.result.now ≡ c.self.inside.firsts.items = c.as_slice.ensures.value in
    let s : c.as_slice-2.result.now ≡ c.self.inside.steps.items = c.as_slice-2.ensures.value in
    let n : length c.as_slice-2.result.now ≡ length (map (λ x. x.now) c.self.inside.steps.items) = ap (λ (xs : List (Bor (List Step))). length xs) s ∙ sym (length-map c.self.inside.steps.items (λ x. x.now)) in
    let r : c.saturating_sub-rule.result ≡ c.args.symbol.0 - length g.tokens - 1 = c.saturating_sub-rule.ensures ∙ ap (λ (m : ℕ). m - 1) (c.saturating_sub.ensures ∙ ap (λ (m : ℕ). c.args.symbol.0 - m) c.len.ensures) in
    c.first_of.ensures
    ∙ ap (λ (xs : List ℕ). get_or xs c.saturating_sub-rule.result (length c.as_slice-2.result.now)) f
    ∙ ap (λ (k : ℕ). get_or c.self.inside.firsts.items k (length c.as_slice-2.result.now)) r
    ∙ ap (λ (k : ℕ). get_or c.self.inside.firsts.items (c.args.symbol.0 - length g.tokens - 1) k) n
    ∙ first_read g c.self.inside.firsts.items (map (λ x. x.now) c.self.inside.steps.items) c.args.symbol.0 c.self.invariant
    ∙ ap (λ (h : FlatGrammar). first_production h c.args.symbol.0) c.self.view_is
