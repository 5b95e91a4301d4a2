-- The rule of a production, in a fit grammar.
use Rattle.std.proofs.Common.{◌≡◌, ◌∙◌, sym, ap, refl, subst, ℕ, zero, suc, ◌+◌, ◌-◌, ◌/◌, ◌<◌, ◌≤◌, ◌⊎◌, inl, inr, ⊎_elim, Bool, true, false, true≢false, not, nat_eq, nat_le, nat_lt, if◌then◌else◌, List, [], ◌∷◌, ◌++◌, length, length-append, map, take, slice_get, Option, Some, None, unwrap_or, option_map, Contains, arith}
use Rattle.std.proofs.lemmas.List.{length-map}
use Rattle.std.proofs.lemmas.List.Sums.{sum_by-cons}
use Rattle.std.proofs.lemmas.Option.{slice_get-map, slice_get_within, get_or_from_slice_get}
use Rattle.ts_base.proofs.PlaceLemmas.{in_prefix}
use Rattle.ts_core.specs.declared.flat.FlatGrammar.{FlatGrammar}
use Rattle.ts_core.specs.declared.flat.FlatRule.{FlatRule}
use Rattle.ts_core.specs.declared.flat.Production.{Production}
use Rattle.ts_core.specs.declared.flat.Step.{Step}
use Rattle.ts_core.specs.declared.symbol.Symbol.{Symbol}
use Rattle.spec_grammar.specs.Symbols.{start_symbol, symbol_rule, is_owned, is_repetition, count_productions, productions_from, production_at, half}
use Rattle.spec_tables.specs.Fit.{Fit, again_after, rule_symbol, HasEmpty, IsUsed}
use Rattle.spec_trees.specs.Made.{of_rule, of_first, of_next, form_of, repetition_form, step_symbols}
use Rattle.spec_runs.specs.Moves.{RepeatsItself, IsUnused}

-- the production is one of this rule
pub record FromRule (first : ℕ) (rules : List FlatRule) (n left : ℕ) (p : Production) : Type 0 where
  pub number : ℕ
  pub rule : FlatRule
  pub at : slice_get rules number ≡ Some rule
  pub left_is : left ≡ first + number
  pub place : ℕ
  pub there : slice_get rule.productions place ≡ Some p
  pub number_is : n ≡ count_productions (take number rules) + place

in_either : {X : Type 0} (xs ys : List X) (n : ℕ) (x : X) → slice_get (xs ++ ys) n ≡ Some x → (slice_get xs n ≡ Some x) ⊎ ((m : ℕ) × (slice_get ys m ≡ Some x) × (n ≡ length xs + m))
in_either [] ys n x h = inr (n, h, (omega arith))
in_either (z ∷ xs) ys zero x h = inl h
in_either (z ∷ xs) ys (suc n) x h = ⊎_elim (λ w. inl w) (λ w. inr (w.0, w.1, (omega (arith, w.2)))) (in_either xs ys n x h)

abbrev owned_by : ℕ → Production → ℕ × Production
owned_by symbol p = (symbol, p)

of_own : (first n left : ℕ) (ps : List Production) (p : Production) → slice_get (map (owned_by first) ps) n ≡ Some (owned_by left p) → (left ≡ first) × (slice_get ps n ≡ Some p)
of_own first n left ps p h = by (slice_get ps n) refl (sym (slice_get-map (owned_by first) ps n) ∙ h)
  where
    by : (o : Option Production) → slice_get ps n ≡ o → option_map (owned_by first) o ≡ Some (owned_by left p) → (left ≡ first) × (slice_get ps n ≡ Some p)
    by None e h = absurd (let x : ◌≡◌ {A = Option (ℕ × Production)} None (Some (owned_by left p)) = h in cc)
    by (Some c) e h = (
      sym (ap (λ (o : Option (ℕ × Production)). (unwrap_or o (owned_by left p)).0) h),
      e ∙ ap Some (ap (λ (o : Option (ℕ × Production)). (unwrap_or o (owned_by left p)).1) h),
    )

count_cons : (r : FlatRule) (rs : List FlatRule) (k : ℕ) → count_productions (take (suc k) (r ∷ rs)) ≡ length r.productions + count_productions (take k rs)
count_cons r rs k = sum_by-cons (λ (n : ℕ). n) (length r.productions) (map (λ (rule : FlatRule). length rule.productions) (take k rs))

pub from_rule : (first : ℕ) (rules : List FlatRule) (n left : ℕ) (p : Production) → slice_get (productions_from first rules) n ≡ Some (owned_by left p) → FromRule first rules n left p
from_rule first [] n left p h = absurd (let w = slice_get_within [] n (owned_by left p) h in omega (arith, w))
from_rule first (r ∷ rs) n left p h = ⊎_elim
    (λ w.
    let e = of_own first n left r.productions p w in
    record { number = 0; rule = r; at = refl; left_is = (let a = e.0 in omega (arith, a)); place = n; there = e.1; number_is = omega arith })
    (λ w.
    let f = from_rule (suc first) rs w.0 left p w.1 in
    record {
      number = suc f.number;
      rule = f.rule;
      at = f.at;
      left_is = (let a = f.left_is in omega (arith, a));
      place = f.place;
      there = f.there;
      number_is = omega (arith, w.2, f.number_is, length-map r.productions (owned_by first), count_cons r rs f.number);
    })
    (in_either (map (owned_by first) r.productions) (productions_from (suc first) rs) n (owned_by left p) h)

pub has : {X : Type 0} (xs : List X) (k : ℕ) (x : X) → slice_get xs k ≡ Some x → Contains xs x
has xs k x at = (k, slice_get_within xs k x at, get_or_from_slice_get xs k x x at)

-- only the start rule has an empty production, and then no step names it
pub empty_starts : (g : FlatGrammar) → Fit g → (n left : ℕ) (p : Production) → production_at g n ≡ Some (owned_by left p) → p.steps ≡ [] → (left ≡ start_symbol g) × (IsUsed g (rule_symbol g 0) → ⊥)
empty_starts g fit n left p at none =
    let f = from_rule (start_symbol g) g.rules n left p at in
    let filled = (fit.rules f.number f.rule f.at).filled in
    let e : HasEmpty f.rule = (p, has f.rule.productions f.place p f.there, none) in
    let first : f.number ≡ 0 = at_start f.number (λ above. filled (f.rule, f.at, e, inl above)) in
    ((let a = f.left_is in omega arith), (λ used. filled (f.rule, f.at, e, inr (subst (λ (k : ℕ). IsUsed g (rule_symbol g k)) (sym first) used))))
  where
    at_start : (k : ℕ) → (0 < k → ⊥) → k ≡ 0
    at_start zero h = refl
    at_start (suc k) h = absurd (h (omega arith))

-- a symbol of some steps is that of one of them
step_with : (steps : List Step) (xs : List ℕ) (x : ℕ) (ys : List ℕ) → map (λ (step : Step). step.symbol.0) steps ≡ xs ++ x ∷ ys → (k : ℕ) × (step : Step) × (slice_get steps k ≡ Some step) × (step.symbol.0 ≡ x)
step_with [] [] x ys e = absurd (let h : [] ≡ x ∷ ys = e in cc)
step_with [] (y ∷ xs) x ys e = absurd (let h : [] ≡ y ∷ (xs ++ x ∷ ys) = e in cc)
step_with (s ∷ steps) [] x ys e = (0, s, refl, (let h : s.symbol.0 ∷ map (λ (step : Step). step.symbol.0) steps ≡ x ∷ ys = e in cc))
step_with (s ∷ steps) (y ∷ xs) x ys e =
    let h : s.symbol.0 ∷ map (λ (step : Step). step.symbol.0) steps ≡ y ∷ (xs ++ x ∷ ys) = e in
    let t : map (λ (step : Step). step.symbol.0) steps ≡ xs ++ x ∷ ys = cc in
    let r = step_with steps xs x ys t in
    (suc r.0, r.1, r.2, r.3)

same_symbol : (s : Symbol) (n : ℕ) → s.0 ≡ n → s ≡ record { 0 = n }
same_symbol s n e = ap {B = Symbol} (λ (m : ℕ). record { 0 = m }) e

pub empty_start : (g : FlatGrammar) → Fit g → (n left : ℕ) (p : Production) → production_at g n ≡ Some (owned_by left p) → p.steps ≡ [] → left ≡ start_symbol g
empty_start g fit n left p at none = (empty_starts g fit n left p at none).0

-- the rule of an empty production is no step
pub empty_unused : (g : FlatGrammar) → Fit g → (n left : ℕ) (p : Production) → production_at g n ≡ Some (owned_by left p) → p.steps ≡ [] → IsUnused g left
empty_unused g fit n left p at none m l q there xs ys names =
    let e = empty_starts g fit n left p at none in
    let f = from_rule (start_symbol g) g.rules m l q there in
    let s = step_with q.steps xs left ys names in
    let is : s.1.symbol.0 ≡ suc (length g.tokens + 0) = s.3 ∙ e.0 ∙ omega arith in
    e.1 (f.rule, q, s.1, has g.rules f.number f.rule f.at, has f.rule.productions f.place q f.there, has q.steps s.0 s.1 s.2, same_symbol s.1.symbol (suc (length g.tokens + 0)) is)

-- ---- repetitions

half_is : (n : ℕ) → half n ≡ n / 2
half_is zero = refl
half_is (suc zero) = refl
half_is (suc (suc n)) = omega (arith, half_is n)

rule_is : (g : FlatGrammar) (r : ℕ) (rule : FlatRule) → slice_get g.rules r ≡ Some rule → symbol_rule g (start_symbol g + r) ≡ Some rule
rule_is g r rule e =
    let a : nat_le (start_symbol g) (start_symbol g + r) ≡ true = grind arith in
    let b : start_symbol g + r - start_symbol g ≡ r = omega arith in
    rw (a, b) e

form_at : (g : FlatGrammar) (r i : ℕ) (rule : FlatRule) → slice_get g.rules r ≡ Some rule
    → form_of g (start_symbol g + r) (count_productions (take r g.rules) + i)
    ≡ (if is_owned (start_symbol g + r) rule then repetition_form (length rule.productions / 2) i else of_rule)
form_at g r i rule e =
    let a : symbol_rule g (start_symbol g + r) ≡ Some rule = rule_is g r rule e in
    let b : start_symbol g + r - start_symbol g ≡ r = omega arith in
    let c : count_productions (take r g.rules) + i - count_productions (take r g.rules) ≡ i = omega arith in
    rw (a, b, c, half_is (length rule.productions)) refl

-- the owner of a repetition is another symbol
owned_elsewhere : (g : FlatGrammar) (k : ℕ) (rule : FlatRule) → is_owned (start_symbol g + k) rule ≡ true → rule.owner ≡ rule_symbol g k → ⊥
owned_elsewhere g k rule o e =
    let same : rule.owner.0 ≡ start_symbol g + k = ap (λ (s : Symbol). s.0) e ∙ omega arith in
    let t : nat_eq rule.owner.0 (start_symbol g + k) ≡ true = grind arith in
    true≢false (sym o ∙ ap not t)

-- a form that lengthens is that of a repetition's second half
second_half : (owned : Bool) (count place a : ℕ) → (if owned then repetition_form count place else of_rule) ≡ of_next a → (owned ≡ true) × (count ≤ place)
second_half false count place a e = absurd (let h : of_rule ≡ of_next a = e in cc)
second_half true count place a e = (refl, by (nat_lt place count) refl e)
  where
    by : (b : Bool) → nat_lt place count ≡ b → (if b then of_first place else of_next (place - count)) ≡ of_next a → count ≤ place
    by true t h = absurd (let k : of_first place ≡ of_next a = h in cc)
    by false t h = grind arith

some_steps : (steps : List Step) → (steps ≡ [] → ⊥) → (x : ℕ) × (xs : List ℕ) × (map (λ (step : Step). step.symbol.0) steps ≡ x ∷ xs)
some_steps [] h = absurd (h refl)
some_steps (s ∷ steps) h = (s.symbol.0, map (λ (step : Step). step.symbol.0) steps, refl)

again_is : (g : FlatGrammar) (k : ℕ) (c : Production) → step_symbols (again_after (rule_symbol g k) c) ≡ (start_symbol g + k) ∷ step_symbols c
again_is g k c = ap (λ (n : ℕ). n ∷ step_symbols c) (let e : suc (length g.tokens + k) ≡ suc (length g.tokens) + k = omega arith in e)

-- a production in the second half of a repetition's is one of the first half after the symbol
in_second : (g : FlatGrammar) (k place left : ℕ) (ps contents : List Production) (p : Production) → left ≡ start_symbol g + k → slice_get ps place ≡ Some p → length ps / 2 ≤ place
    → ps ≡ contents ++ map (again_after (rule_symbol g k)) contents → ((c : Production) (j : ℕ) → slice_get ps j ≡ Some c → c.steps ≡ [] → ⊥) → RepeatsItself left p
in_second g k place left ps contents p left_is there above all filled =
    let many = length-append contents (map (again_after (rule_symbol g k)) contents) in
    let half_many = length-map contents (again_after (rule_symbol g k)) in
    let size : length ps ≡ length (contents ++ map (again_after (rule_symbol g k)) contents) = ap (λ (l : List Production). length l) all in
    ⊎_elim
    (λ w. absurd (let low = slice_get_within contents place p w in omega (arith, low, many, half_many, size, above)))
    (λ w. by w.0 (slice_get contents w.0) refl (sym (slice_get-map (again_after (rule_symbol g k)) contents w.0) ∙ w.1))
    (in_either contents (map (again_after (rule_symbol g k)) contents) place p (subst (λ (l : List Production). slice_get l place ≡ Some p) all there))
  where
    by : (j : ℕ) (o : Option Production) → slice_get contents j ≡ o → option_map (again_after (rule_symbol g k)) o ≡ Some p → RepeatsItself left p
    by j None at e = absurd (let x : ◌≡◌ {A = Option Production} None (Some p) = e in cc)
    by j (Some c) at e =
        let low = slice_get_within contents j c at in
        let there : slice_get ps j ≡ Some c = ap (λ (l : List Production). slice_get l j) all ∙ in_prefix contents (map (again_after (rule_symbol g k)) contents) j low ∙ at in
        let some = some_steps c.steps (λ none. filled c j there none) in
        let made : again_after (rule_symbol g k) c ≡ p = let h : Some (again_after (rule_symbol g k) c) ≡ Some p = e in cc in
        record {
          next = some.0;
          others = some.1;
          steps_are = sym (ap step_symbols made) ∙ again_is g k c ∙ ap (λ (n : ℕ). n ∷ step_symbols c) (sym left_is) ∙ ap (λ (l : List ℕ). left ∷ l) some.2;
        }

pub repeated : (g : FlatGrammar) → Fit g → (n left a : ℕ) (p : Production) → production_at g n ≡ Some (owned_by left p) → form_of g left n ≡ of_next a → RepeatsItself left p
repeated g fit n left a p at form =
    let f = from_rule (start_symbol g) g.rules n left p at in
    let fits = fit.rules f.number f.rule f.at in
    let here : form_of g (start_symbol g + f.number) (count_productions (take f.number g.rules) + f.place) ≡ of_next a =
    subst (λ (m : ℕ). form_of g (start_symbol g + f.number) m ≡ of_next a) f.number_is (subst (λ (l : ℕ). form_of g l n ≡ of_next a) f.left_is form) in
    let s = second_half (is_owned (start_symbol g + f.number) f.rule) (length f.rule.productions / 2) f.place a (sym (form_at g f.number f.place f.rule f.at) ∙ here) in
    let rep = fits.repetition (owned_elsewhere g f.number f.rule s.0) in
    in_second g f.number f.place left f.rule.productions rep.contents p f.left_is f.there s.1 rep.productions
    (λ c j there none. fits.filled (f.rule, f.at, (c, has f.rule.productions j c there, none), inl rep.not_start))

-- ---- the start rule

start_at : (g : FlatGrammar) → symbol_rule g (start_symbol g) ≡ slice_get g.rules 0
start_at g =
    let a : nat_le (start_symbol g) (start_symbol g) ≡ true = grind arith in
    let b : start_symbol g - start_symbol g ≡ 0 = omega arith in
    rw (a, b) refl

start_owned : (g : FlatGrammar) → Fit g → (r : FlatRule) → slice_get g.rules 0 ≡ Some r → (b : Bool) → is_owned (start_symbol g + 0) r ≡ b → b ≡ false
start_owned g fit r at false e = refl
start_owned g fit r at true e = absurd (let low = ((fit.rules 0 r at).repetition (owned_elsewhere g 0 r e)).not_start in omega arith)

-- the start rule is no repetition
pub start_plain : (g : FlatGrammar) → Fit g → is_repetition g (start_symbol g) ≡ false
start_plain g fit = by (symbol_rule g (start_symbol g)) refl
  where
    none : start_symbol g + 0 ≡ start_symbol g
    none = omega arith

    by : (o : Option FlatRule) → symbol_rule g (start_symbol g) ≡ o → is_repetition g (start_symbol g) ≡ false
    by None e = ap (λ (x : Option FlatRule). unwrap_or (option_map (is_owned (start_symbol g)) x) false) e
    by (Some r) e =
        ap (λ (x : Option FlatRule). unwrap_or (option_map (is_owned (start_symbol g)) x) false) e
        ∙ ap (λ (n : ℕ). is_owned n r) (sym none)
        ∙ start_owned g fit r (sym (start_at g) ∙ e) (is_owned (start_symbol g + 0) r) refl
