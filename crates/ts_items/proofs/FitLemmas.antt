-- The productions of a fit grammar.
use Rattle.std.proofs.Common.{◌≡◌, ◌∙◌, sym, ap, refl, subst, ℕ, suc, ◌+◌, ◌<◌, ◌^◌, ⊎_elim, List, [], ◌∷◌, length, length-append, map, slice_get, Option, Some, None, arith, All}
use Rattle.std.specs.Prelude.{unwrap_or, option_map, sum, fold}
use Rattle.std.proofs.lemmas.List.{length-map}
use Rattle.std.proofs.lemmas.Option.{slice_get-map, slice_get_within, get_or_from_slice_get}
use Rattle.ts_core.specs.declared.flat.FlatGrammar.{FlatGrammar}
use Rattle.ts_core.specs.declared.flat.FlatRule.{FlatRule}
use Rattle.ts_core.specs.declared.flat.Production.{Production}
use Rattle.ts_core.specs.declared.flat.Step.{Step}
use Rattle.spec_grammar.specs.Symbols.{all_productions, productions_from, start_symbol, symbol_count}
use Rattle.spec_tables.specs.Fit.{Fit, IsFitProduction, IsFitStep}
use Rattle.ts_items.specs.declared.plain.Plain.{Plain}
use Rattle.ts_items.specs.Productions.{symbols_of_steps, plain, ArePlainOf, right_of}
use Rattle.ts_items.specs.Edges.{AreInside}
use Rattle.ts_items.proofs.ListLemmas.{append_at, at_of}
use Rattle.ts_items.proofs.PlainLemmas.{plain_at, step_at}

pub all_at : {X : Type 0} (P : X → Type 0) (xs : List X) (k : ℕ) (x : X) → All P xs → slice_get xs k ≡ Some x → P x
all_at P xs k x all at = subst P (get_or_from_slice_get xs k x x at) (all k x (slice_get_within xs k x at))

record FromRule (first : ℕ) (rules : List FlatRule) (y : ℕ) (d : Production) : Type 0 where
  number : ℕ
  rule : FlatRule
  at : slice_get rules number ≡ Some rule
  left : y ≡ first + number
  place : ℕ
  there : slice_get rule.productions place ≡ Some d

of_first : (first n y : ℕ) (ds : List Production) (d : Production) → slice_get {X = ℕ × Production} (map (λ (p : Production). (first, p)) ds) n ≡ Some (y, d) → (y ≡ first) × (slice_get ds n ≡ Some d)
of_first first n y ds d h = by (slice_get ds n) refl (let f : Production → ℕ × Production = λ p. (first, p) in sym (slice_get-map f ds n) ∙ h)
  where
    by : (o : Option Production) → slice_get ds n ≡ o → option_map {U = ℕ × Production} (λ (p : Production). (first, p)) o ≡ Some (y, d) → (y ≡ first) × (slice_get ds n ≡ Some d)
    by None e h = absurd (let x : ◌≡◌ {A = Option (ℕ × Production)} None (Some (y, d)) = h in cc)
    by (Some c) e h = (
      sym (ap (λ (o : Option (ℕ × Production)). (unwrap_or o (y, d)).0) h),
      e ∙ ap Some (ap (λ (o : Option (ℕ × Production)). (unwrap_or o (y, d)).1) h),
    )

from_at : (first : ℕ) (rules : List FlatRule) (n y : ℕ) (d : Production) → slice_get {X = ℕ × Production} (productions_from first rules) n ≡ Some (y, d) → FromRule first rules y d
from_at first [] n y d h = absurd (let w = slice_get_within [] n (y, d) h in omega (arith, w))
from_at first (r ∷ rs) n y d h = ⊎_elim
    (λ w. let e = of_first first n y r.productions d w in record { number = 0; rule = r; at = refl; left = (let a = e.0 in omega (arith, a)); place = n; there = e.1 })
    (λ w.
    let f = from_at (suc first) rs w.0 y d w.1 in
    record { number = suc f.number; rule = f.rule; at = f.at; left = (let a = f.left in omega (arith, a)); place = f.place; there = f.there })
    (append_at (map (λ (p : Production). (first, p)) r.productions) (productions_from (suc first) rs) n (y, d) h)

pub plain_inside : (g : FlatGrammar) (ps : List Plain) → Fit g → ArePlainOf g ps → AreInside (symbol_count g) ps
plain_inside g ps fit are p h =
    let at = plain_at g ps h.0 p are (at_of ps p h) in
    let d = at.production.0 in
    let f = from_at (start_symbol g) g.rules h.0 p.left d at.production.1 in
    let good : IsFitProduction g d = all_at (IsFitProduction g) f.rule.productions f.place d (fit.rules f.number f.rule f.at).productions f.there in
    let same : right_of g (Some h.0) ≡ symbols_of_steps d.steps = ap (λ (o : Option (ℕ × Production)). symbols_of_steps (unwrap_or (option_map (λ (q : ℕ × Production). q.1.steps) o) [])) at.production.1 in
    record {
      left = (let w = slice_get_within g.rules f.number f.rule f.at in let e = f.left in omega (arith, w, e));
      short = (let few = good.few in let a = length-map d.steps (λ (s : Step). s.symbol.0) in let b = ap (λ (l : List ℕ). length l) (sym same ∙ at.right) in omega (arith, few, a, b));
      right = λ k x is.
          let s = step_at d.steps k x (ap (λ (l : List ℕ). slice_get l k) (sym same ∙ at.right) ∙ is) in
          let q = (all_at (IsFitStep g) d.steps k s.0 good.steps s.1).symbol in
          let e = s.2 in
          omega (arith, q, e);
    }

fold_from : (a : ℕ) (xs : List ℕ) → fold ◌+◌ a xs ≡ a + sum xs
fold_from a [] = omega arith
fold_from a (x ∷ xs) = let e = fold_from (a + x) xs in let f = fold_from (0 + x) xs in omega (arith, e, f)

counted : (first : ℕ) (rules : List FlatRule) → length (productions_from first rules) ≡ sum (map (λ (r : FlatRule). length r.productions) rules)
counted first [] = refl
counted first (r ∷ rs) =
    let a = length-append (map {B = ℕ × Production} (λ (p : Production). (first, p)) r.productions) (productions_from (suc first) rs) in
    let b = length-map {B = ℕ × Production} r.productions (λ (p : Production). (first, p)) in
    let c = counted (suc first) rs in
    let d = fold_from (0 + length r.productions) (map (λ (q : FlatRule). length q.productions) rs) in
    omega (arith, a, b, c, d)

pub few_plain : (g : FlatGrammar) (ps : List Plain) → Fit g → ArePlainOf g ps → length ps < 2 ^ 16
few_plain g ps fit are =
    let a = length-map {B = ℕ × List ℕ} ps (λ (p : Plain). (p.left, p.right.items)) in
    let b = ap (λ (l : List (ℕ × List ℕ)). length l) are in
    let c = length-map (all_productions g) plain in
    let d = counted (start_symbol g) g.rules in
    let e = fit.few_productions in
    omega (arith, a, b, c, d, e)

pub inside_both : (m n : ℕ) (ps qs : List Plain) → n ≡ m → qs ≡ ps → AreInside m ps → AreInside n qs
inside_both m n ps qs same rows inside = subst (λ (k : ℕ). AreInside k qs) (sym same) (subst (AreInside m) (sym rows) inside)

pub some_rule : (g : FlatGrammar) → Fit g → start_symbol g < symbol_count g
some_rule g fit = by g.rules fit.some_rule
  where
    by : (rules : List FlatRule) → ((rules ≡ []) → ⊥) → start_symbol g < start_symbol g + length rules
    by [] f = absurd (f refl)
    by (r ∷ rs) f = omega arith
