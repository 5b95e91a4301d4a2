-- Productions as the numbers of their symbols, and what stands at a dot.
use Rattle.std.proofs.Common.{◌≡◌, ◌∙◌, sym, ap, refl, subst, ℕ, suc, ◌+◌, ◌<◌, List, [], ◌∷◌, ◌++◌, length, map, slice_get, Option, Some, None, arith, append_assoc, get_or, take}
use Rattle.std.specs.Prelude.{unwrap_or, option_map}
use Rattle.std.proofs.lemmas.Option.{slice_get-map}
use Rattle.std.proofs.lemmas.List.{append-nil, take_more, length-take-le}
use Rattle.ts_core.specs.declared.flat.FlatGrammar.{FlatGrammar}
use Rattle.ts_core.specs.declared.flat.FlatRule.{FlatRule}
use Rattle.ts_core.specs.declared.flat.Production.{Production}
use Rattle.ts_core.specs.declared.flat.Step.{Step}
use Rattle.spec_grammar.specs.Symbols.{production_at, all_productions, productions_from}
use Rattle.spec_tables.specs.Items.{Item, line_steps, IsProductionOf, IsBefore, MayFollow, MayStandBehind}
use Rattle.ts_items.specs.declared.plain.Plain.{Plain}
use Rattle.ts_items.specs.Productions.{symbols_of_steps, right_of, plain, ArePlainOf, plain_rule, plain_rules}
use Rattle.ts_items.proofs.ListLemmas.{map_append}
use Rattle.ts_items.specs.Closing.{AtDot, Behind}

-- the production of this number is the plain one
pub record PlainAt (g : FlatGrammar) (n : ℕ) (p : Plain) : Type 0 where
  pub production : IsProductionOf g p.left n
  pub right : right_of g (Some n) ≡ p.right.items

abbrev seen : Plain → ℕ × List ℕ
seen p = (p.left, p.right.items)

both_in : (y z : ℕ) (v w : List ℕ) → ◌≡◌ {A = Option (ℕ × List ℕ)} (Some (y, v)) (Some (z, w)) → (y ≡ z) × (v ≡ w)
both_in y z v w h = (ap (λ (o : Option (ℕ × List ℕ)). (unwrap_or o (z, w)).0) h, ap (λ (o : Option (ℕ × List ℕ)). (unwrap_or o (z, w)).1) h)

pub plain_at : (g : FlatGrammar) (ps : List Plain) (n : ℕ) (p : Plain) → ArePlainOf g ps → slice_get ps n ≡ Some p → PlainAt g n p
plain_at g ps n p are at = by (production_at g n) refl (sym (slice_get-map plain (all_productions g) n) ∙ ap (λ (l : List (ℕ × List ℕ)). slice_get l n) (sym are) ∙ slice_get-map seen ps n ∙ ap (option_map seen) at)
  where
    by : (o : Option (ℕ × Production)) → production_at g n ≡ o → option_map plain o ≡ Some (p.left, p.right.items) → PlainAt g n p
    by None e h = absurd (let x : ◌≡◌ {A = Option (ℕ × List ℕ)} None (Some (p.left, p.right.items)) = h in cc)
    by (Some (y, d)) e h =
        let m = both_in y p.left (symbols_of_steps d.steps) p.right.items h in
        record {
          production = subst (λ (k : ℕ). IsProductionOf g k n) m.0 (d, e);
          right = ap (λ (o : Option (ℕ × Production)). symbols_of_steps (unwrap_or (option_map (λ (q : ℕ × Production). q.1.steps) o) [])) e ∙ m.1;
        }

pub at_plain : (g : FlatGrammar) (ps : List Plain) (y n : ℕ) → ArePlainOf g ps → IsProductionOf g y n → (p : Plain) × (slice_get ps n ≡ Some p) × (p.left ≡ y)
at_plain g ps y n are (d, e) = by (slice_get ps n) refl (sym (slice_get-map seen ps n) ∙ ap (λ (l : List (ℕ × List ℕ)). slice_get l n) are ∙ slice_get-map plain (all_productions g) n ∙ ap (option_map plain) e)
  where
    by : (o : Option Plain) → slice_get ps n ≡ o → option_map seen o ≡ Some (y, symbols_of_steps d.steps) → (p : Plain) × (slice_get ps n ≡ Some p) × (p.left ≡ y)
    by None e h = absurd (let x : ◌≡◌ {A = Option (ℕ × List ℕ)} None (Some (y, symbols_of_steps d.steps)) = h in cc)
    by (Some p) e h = (p, e, (both_in p.left y p.right.items (symbols_of_steps d.steps) h).0)

-- what stands at a dot, as a step and as a symbol
pub dot_of : (g : FlatGrammar) (i : Item) (step : Step) → IsBefore g i step → AtDot g i step.symbol.0
dot_of g i step h = slice_get-map (λ (s : Step). s.symbol.0) (line_steps g i.line) i.dot ∙ ap (option_map (λ (s : Step). s.symbol.0)) h

pub step_at : (steps : List Step) (k x : ℕ) → slice_get (symbols_of_steps steps) k ≡ Some x → (step : Step) × (slice_get steps k ≡ Some step) × (step.symbol.0 ≡ x)
step_at steps k x h = by (slice_get steps k) refl (sym (slice_get-map (λ (s : Step). s.symbol.0) steps k) ∙ h)
  where
    by : (o : Option Step) → slice_get steps k ≡ o → option_map (λ (s : Step). s.symbol.0) o ≡ Some x → (step : Step) × (slice_get steps k ≡ Some step) × (step.symbol.0 ≡ x)
    by None e h = absurd (let z : ◌≡◌ {A = Option ℕ} None (Some x) = h in cc)
    by (Some s) e h = (s, e, (let z : Some s.symbol.0 ≡ Some x = h in cc))

behind_to : (g : FlatGrammar) (o : Option Step) (b t : ℕ) → MayStandBehind g o b t → Behind g (option_map (λ (s : Step). s.symbol.0) o) b t
behind_to g None b t h = h
behind_to g (Some s) b t h = h

behind_from : (g : FlatGrammar) (o : Option Step) (b t : ℕ) → Behind g (option_map (λ (s : Step). s.symbol.0) o) b t → MayStandBehind g o b t
behind_from g None b t h = h
behind_from g (Some s) b t h = h

pub follow_to : (g : FlatGrammar) (i : Item) (t : ℕ) → MayFollow g i t → Behind g (slice_get (right_of g i.line) (suc i.dot)) i.token t
follow_to g i t h = subst (λ (o : Option ℕ). Behind g o i.token t) (sym (slice_get-map (λ (s : Step). s.symbol.0) (line_steps g i.line) (suc i.dot))) (behind_to g (slice_get (line_steps g i.line) (suc i.dot)) i.token t h)

pub follow_from : (g : FlatGrammar) (i : Item) (t : ℕ) → Behind g (slice_get (right_of g i.line) (suc i.dot)) i.token t → MayFollow g i t
follow_from g i t h = behind_from g (slice_get (line_steps g i.line) (suc i.dot)) i.token t (subst (λ (o : Option ℕ). Behind g o i.token t) (slice_get-map (λ (s : Step). s.symbol.0) (line_steps g i.line) (suc i.dot)) h)

-- ---- making them

from_append : (first : ℕ) (xs : List FlatRule) (x : FlatRule) → productions_from first (xs ++ x ∷ []) ≡ productions_from first xs ++ map (λ (p : Production). (first + length xs, p)) x.productions
from_append first [] x =
    let zero : first ≡ first + 0 = omega arith in
    append-nil (map (λ (p : Production). (first, p)) x.productions) ∙ ap (λ (n : ℕ). map (λ (p : Production). (n, p)) x.productions) zero
from_append first (y ∷ ys) x =
    let next : suc first + length ys ≡ first + length (y ∷ ys) = omega arith in
    ap (λ (l : List (ℕ × Production)). map (λ (p : Production). (first, p)) y.productions ++ l) (from_append (suc first) ys x)
    ∙ sym (append_assoc (map (λ (p : Production). (first, p)) y.productions) (productions_from (suc first) ys) (map (λ (p : Production). (suc first + length ys, p)) x.productions))
    ∙ ap (λ (n : ℕ). (map (λ (p : Production). (first, p)) y.productions ++ productions_from (suc first) ys) ++ map (λ (p : Production). (n, p)) x.productions) next

map_map : {X Y Z : Type 0} (f : X → Y) (h : Y → Z) (xs : List X) → map h (map f xs) ≡ map (λ (x : X). h (f x)) xs
map_map f h [] = refl
map_map {X} {Y} {Z} f h (x ∷ xs) = ap (λ (l : List Z). h (f x) ∷ l) (map_map f h xs)

pub rules_more : (first left k : ℕ) (rules : List FlatRule) (rule : FlatRule) (old now new : List (ℕ × List ℕ)) → k < length rules → rule ≡ get_or rules k rule → left ≡ first + k → new ≡ now ++ plain_rule left rule.productions
    → now ≡ old ++ plain_rules first (take k rules) → new ≡ old ++ plain_rules first (take (k + 1) rules)
rules_more first left k rules rule old now new below is place more before =
    let size : length (take k rules) ≡ k = length-take-le k rules (omega (arith, below)) in
    let rest : plain_rules first (take k rules) ++ plain_rule left rule.productions ≡ plain_rules first (take (k + 1) rules) =
    ap (λ (n : ℕ). plain_rules first (take k rules) ++ plain_rule n rule.productions) (place ∙ ap (λ (m : ℕ). first + m) (sym size))
    ∙ ap (λ (l : List (ℕ × List ℕ)). plain_rules first (take k rules) ++ l) (sym (map_map (λ (p : Production). (first + length (take k rules), p)) plain rule.productions))
    ∙ sym (map_append plain (productions_from first (take k rules)) (map (λ (p : Production). (first + length (take k rules), p)) rule.productions))
    ∙ ap (map plain) (sym (from_append first (take k rules) rule))
    ∙ ap (λ (r : FlatRule). plain_rules first (take k rules ++ r ∷ [])) is
    ∙ ap (plain_rules first) (sym (take_more rules k rule below)) in
    more ∙ ap (λ (l : List (ℕ × List ℕ)). l ++ plain_rule left rule.productions) before ∙ append_assoc old (plain_rules first (take k rules)) (plain_rule left rule.productions) ∙ ap (λ (l : List (ℕ × List ℕ)). old ++ l) rest
