-- The production of a number: its rule, its place there, and its form.
use Rattle.std.proofs.Common.{◌≡◌, ℕ, zero, suc, ◌+◌, ◌-◌, ◌/◌, ◌<◌, ◌≤◌, ◌^◌, sym, ap, ◌∙◌, refl, arith, true, List, [], ◌∷◌, ◌++◌, length, map, take, slice_get, Some, length-append, subst}
use Rattle.ts_base.proofs.PlaceLemmas.{in_prefix, push_cases}
use Rattle.std.proofs.lemmas.List.{length-map}
use Rattle.std.proofs.lemmas.List.Sums.{sum_by-cons}
use Rattle.std.proofs.lemmas.List.Elements.{Contains-append_cases}
use Rattle.std.specs.List.{Contains}
use Rattle.ts_reductions.specs.declared.lines.Line.{Line}
use Rattle.ts_reductions.proofs.SmallLemmas.{contained_at, contained_map, none_contained}
use Rattle.ts_reductions.specs.Lines.{lengthens_by, IsLine, AreLinesUpTo}
use Rattle.std.specs.Prelude.{option_map, nat_le, if◌then◌else◌, ◌⊎◌}
use Rattle.std.proofs.Common.{◌⊎◌, inl, inr}
use Rattle.std.proofs.lemmas.Option.{slice_get_within, slice_get-map}
use Rattle.ts_core.specs.declared.flat.Production.{Production}
use Rattle.ts_core.specs.declared.flat.FlatRule.{FlatRule}
use Rattle.ts_core.specs.declared.flat.FlatGrammar.{FlatGrammar}
use Rattle.spec_grammar.specs.Symbols.{start_symbol, symbol_rule, is_owned, count_productions, productions_from, all_productions, production_at, symbol_count, half}
use Rattle.spec_tables.specs.Fit.{Fit}
use Rattle.spec_trees.specs.Made.{form_of, repetition_form, of_rule}

-- ---- sums of productions

count_cons : (x : FlatRule) (rules : List FlatRule) → count_productions (x ∷ rules) ≡ length x.productions + count_productions rules
count_cons x rules = sum_by-cons (λ (n : ℕ). n) (length x.productions) (map (λ (rule : FlatRule). length rule.productions) rules)

no_rule : {P : Type 0} (r : ℕ) (rule : FlatRule) → slice_get [] r ≡ Some rule → P
no_rule r rule e = let f : ⊥ = omega (arith, slice_get_within [] r rule e) in elim f [ ]

pub count_step : (rules : List FlatRule) (r : ℕ) (rule : FlatRule) → slice_get rules r ≡ Some rule → count_productions (take (suc r) rules) ≡ count_productions (take r rules) + length rule.productions
count_step [] r rule e = no_rule r rule e
count_step (x ∷ rules) zero rule e =
    let h : Some x ≡ Some rule = e in
    let k : length x.productions ≡ length rule.productions = cc in
    omega (arith, k, count_cons x [])
count_step (x ∷ rules) (suc r) rule e =
    let u : count_productions (take (suc (suc r)) (x ∷ rules)) ≡ length x.productions + count_productions (take (suc r) rules) = count_cons x (take (suc r) rules) in
    let v : count_productions (take (suc r) (x ∷ rules)) ≡ length x.productions + count_productions (take r rules) = count_cons x (take r rules) in
    omega (arith, u, v, count_step rules r rule e)

pub count_within : (rules : List FlatRule) (r : ℕ) (rule : FlatRule) → slice_get rules r ≡ Some rule → count_productions (take r rules) + length rule.productions ≤ count_productions rules
count_within [] r rule e = no_rule r rule e
count_within (x ∷ rules) zero rule e =
    let h : Some x ≡ Some rule = e in
    let k : length x.productions ≡ length rule.productions = cc in
    omega (arith, k, count_cons x rules)
count_within (x ∷ rules) (suc r) rule e =
    let v : count_productions (take (suc r) (x ∷ rules)) ≡ length x.productions + count_productions (take r rules) = count_cons x (take r rules) in
    omega (arith, count_cons x rules, v, count_within rules r rule e)

-- a production with its rule's symbol
abbrev owned_by : ℕ → Production → ℕ × Production
owned_by symbol p = (symbol, p)

count_from : (symbol : ℕ) (rules : List FlatRule) → length (productions_from symbol rules) ≡ count_productions rules
count_from symbol [] = refl
count_from symbol (x ∷ rules) =
    omega (arith, count_cons x rules, length-append (map (owned_by symbol) x.productions) (productions_from (suc symbol) rules), length-map x.productions (owned_by symbol), count_from (suc symbol) rules)

pub count_all : (g : FlatGrammar) → length (all_productions g) ≡ count_productions g.rules
count_all g = count_from (start_symbol g) g.rules

-- ---- the production of a number

get-right : {X : Type 0} (xs ys : List X) (i : ℕ) → slice_get (xs ++ ys) (length xs + i) ≡ slice_get ys i
get-right {X = X} [] ys i = let n : length {A = X} [] + i ≡ i = omega arith in ap (slice_get ys) n
get-right (x ∷ xs) ys i = let n : length (x ∷ xs) + i ≡ suc (length xs + i) = omega arith in ap (slice_get (x ∷ (xs ++ ys))) n ∙ get-right xs ys i

from_is : (symbol : ℕ) (rules : List FlatRule) (r i : ℕ) (rule : FlatRule) (p : Production) → slice_get rules r ≡ Some rule → slice_get rule.productions i ≡ Some p → slice_get (productions_from symbol rules) (count_productions (take r rules) + i) ≡ Some (owned_by (symbol + r) p)
from_is symbol [] r i rule p e f = no_rule r rule e
from_is symbol (x ∷ rules) zero i rule p e f =
    let h : Some x ≡ Some rule = e in
    let k : slice_get x.productions i ≡ Some p = cc in
    let n : count_productions [] + i ≡ i = omega arith in
    let s : symbol ≡ symbol + 0 = omega arith in
    ap (slice_get (productions_from symbol (x ∷ rules))) n
    ∙ in_prefix (map (owned_by symbol) x.productions) (productions_from (suc symbol) rules) i (omega (arith, slice_get_within x.productions i p k, length-map x.productions (owned_by symbol)))
    ∙ slice_get-map (owned_by symbol) x.productions i
    ∙ ap (option_map (owned_by symbol)) k
    ∙ ap (λ (m : ℕ). Some (owned_by m p)) s
from_is symbol (x ∷ rules) (suc r) i rule p e f =
    let v : count_productions (take (suc r) (x ∷ rules)) ≡ length x.productions + count_productions (take r rules) = count_cons x (take r rules) in
    let n : count_productions (take (suc r) (x ∷ rules)) + i ≡ length (map (owned_by symbol) x.productions) + (count_productions (take r rules) + i) = omega (arith, v, length-map x.productions (owned_by symbol)) in
    let s : suc symbol + r ≡ symbol + suc r = omega arith in
    ap (slice_get (productions_from symbol (x ∷ rules))) n
    ∙ get-right (map (owned_by symbol) x.productions) (productions_from (suc symbol) rules) (count_productions (take r rules) + i)
    ∙ from_is (suc symbol) rules r i rule p e f
    ∙ ap (λ (m : ℕ). Some (owned_by m p)) s

pub production_is : (g : FlatGrammar) (r i : ℕ) (rule : FlatRule) (p : Production) → slice_get g.rules r ≡ Some rule → slice_get rule.productions i ≡ Some p → production_at g (count_productions (take r g.rules) + i) ≡ Some (owned_by (start_symbol g + r) p)
production_is g r i rule p e f = from_is (start_symbol g) g.rules r i rule p e f

-- ---- its form

half_is : (n : ℕ) → half n ≡ n / 2
half_is zero = refl
half_is (suc zero) = refl
half_is (suc (suc n)) = omega (arith, half_is n)

rule_is : (g : FlatGrammar) (r : ℕ) (rule : FlatRule) → slice_get g.rules r ≡ Some rule → symbol_rule g (start_symbol g + r) ≡ Some rule
rule_is g r rule e =
    let a : nat_le (start_symbol g) (start_symbol g + r) ≡ true = grind arith in
    let b : start_symbol g + r - start_symbol g ≡ r = omega arith in
    rw (a, b) e

pub form_is_of : (g : FlatGrammar) (r i : ℕ) (rule : FlatRule) → slice_get g.rules r ≡ Some rule
    → form_of g (start_symbol g + r) (count_productions (take r g.rules) + i)
    ≡ (if is_owned (start_symbol g + r) rule then repetition_form (length rule.productions / 2) i else of_rule)
form_is_of g r i rule e =
    let a : symbol_rule g (start_symbol g + r) ≡ Some rule = rule_is g r rule e in
    let b : start_symbol g + r - start_symbol g ≡ r = omega arith in
    let c : count_productions (take r g.rules) + i - count_productions (take r g.rules) ≡ i = omega arith in
    rw (a, b, c, half_is (length rule.productions)) refl

-- ---- lines

pub push_line : (g : FlatGrammar) (n : ℕ) (ls : List Line) (l : Line) → AreLinesUpTo g n ls → IsLine g n l → AreLinesUpTo g (n + 1) (ls ++ l ∷ [])
push_line g n ls l are is = record {
  many = omega (arith, are.many, length-append ls (l ∷ []));
  each = λ k z h. by k z (push_cases ls l k z h);
}
  where
    by : (k : ℕ) (z : Line) → ((k < length ls) × (slice_get ls k ≡ Some z)) ⊎ ((k ≡ length ls) × (l ≡ z)) → IsLine g k z
    by k z (inl w) = are.each k z w.1
    by k z (inr w) =
        let m : n ≡ k = sym (w.0 ∙ are.many) in
        subst (λ (x : Line). IsLine g k x) w.1 (subst (λ (x : ℕ). IsLine g x l) m is)

pub line_is : (g : FlatGrammar) (r i : ℕ) (rule : FlatRule) (p : Production) (l : Line) → slice_get g.rules r ≡ Some rule → slice_get rule.productions i ≡ Some p
    → l.left.0 ≡ start_symbol g + r
    → lengthens_by (if is_owned (start_symbol g + r) rule then repetition_form (length rule.productions / 2) i else of_rule) ≡ l.lengthens
    → l.steps ≡ length p.steps
    → IsLine g (count_productions (take r g.rules) + i) l
line_is g r i rule p l at in_rule left form steps =
    let is : production_at g (count_productions (take r g.rules) + i) ≡ Some (owned_by (start_symbol g + r) p) = production_is g r i rule p at in_rule in
    record {
      production = p;
      at = is ∙ ap (λ (n : ℕ). Some (owned_by n p)) (sym left);
      steps = steps;
      lengthens = ap lengthens_by (ap (λ (n : ℕ). form_of g n (count_productions (take r g.rules) + i)) left ∙ form_is_of g r i rule at) ∙ form;
    }

-- ---- a grammar that is fit has few of both

pub few_symbols : (g : FlatGrammar) → Fit g → symbol_count g ≤ 2 ^ 16
few_symbols g fit = let f = fit.few_symbols in omega arith

pub few_productions : (g : FlatGrammar) → Fit g → length (all_productions g) < 2 ^ 32
few_productions g fit = let f = fit.few_productions in let e = count_all g in omega arith

-- ---- the rule of a production is one of the symbols

left_from : (symbol : ℕ) (rules : List FlatRule) (left : ℕ) (p : Production) → Contains (productions_from symbol rules) (left, p) → left < symbol + length rules
left_from symbol [] left p h = absurd (none_contained (left, p) h)
left_from symbol (x ∷ rules) left p h = by (Contains-append_cases (map (owned_by symbol) x.productions) (productions_from (suc symbol) rules) (left, p) h) (λ w. left_from (suc symbol) rules left p w)
  where
    by : Contains (map (owned_by symbol) x.productions) (left, p) ⊎ Contains (productions_from (suc symbol) rules) (left, p) → (Contains (productions_from (suc symbol) rules) (left, p) → left < suc symbol + length rules) → left < symbol + suc (length rules)
    by (inl w) rest =
        let m = contained_map (owned_by symbol) x.productions (left, p) w in
        let e : symbol ≡ left = ap (λ (q : ℕ × Production). q.0) m.2 in
        omega (arith, e)
    by (inr w) rest = let r = rest w in omega (arith, r)

pub left_low : (g : FlatGrammar) (number left : ℕ) (p : Production) → production_at g number ≡ Some (left, p) → left < symbol_count g
left_low g number left p is = left_from (start_symbol g) g.rules left p (contained_at (all_productions g) number (left, p) is)
