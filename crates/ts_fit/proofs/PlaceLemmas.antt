-- Rules by their symbols.
use Rattle.std.proofs.Common.{◌≡◌, ap, ℕ, suc, ◌+◌, ◌<◌, ◌≤◌, length, Some, None, arith}
use Rattle.std.proofs.lemmas.Option.{slice_get_within}
use Rattle.ts_core.specs.declared.flat.FlatGrammar.{FlatGrammar}
use Rattle.ts_core.specs.declared.symbol.Symbol.{Symbol}
use Rattle.spec_tables.specs.Fit.{rule_symbol}
use Rattle.ts_fit.specs.Searches.{IsRuleAt}
use Rattle.ts_fit.proofs.ListLemmas.{some_at}

pub rule_there : (f : FlatGrammar) (s : Symbol) (place : ℕ) → place < length f.rules → s.0 ≡ suc (length f.tokens + place) → IsRuleAt f s (Some place)
rule_there f s place below is =
    let at = some_at f.rules place below in
    (at.0, at.1, ap (λ (n : ℕ). record { 0 = n }) is)

number_of : (f : FlatGrammar) (s : Symbol) (place : ℕ) → s ≡ rule_symbol f place → s.0 ≡ suc (length f.tokens + place)
number_of f s place e = ap (λ (t : Symbol). t.0) e

pub no_rule_above : (f : FlatGrammar) (s : Symbol) → suc (length f.tokens + length f.rules) ≤ s.0 → IsRuleAt f s None
no_rule_above f s high r h = let e = number_of f s h.0 h.2 in let lt = slice_get_within f.rules h.0 r h.1 in absurd (omega arith)
