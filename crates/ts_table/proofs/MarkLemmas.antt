-- Productions by their marks, and the weights of items.
use Rattle.std.proofs.Common.{◌≡◌, ◌∙◌, sym, ap, refl, ℕ, zero, suc, ◌+◌, ◌-◌, ◌<◌, ◌≤◌, List, [], ◌∷◌, ◌++◌, length, map, slice_get, Option, Some, None, arith, append_assoc, get_or, take}
use Rattle.std.specs.Prelude.{unwrap_or, option_map}
use Rattle.std.proofs.lemmas.Option.{slice_get-map, slice_get_read}
use Rattle.ts_core.specs.declared.flat.Prec.TheVariants as prec
use Rattle.ts_core.specs.declared.flat.Assoc.TheVariants as assoc
use Rattle.std.proofs.lemmas.List.{append-nil, take_more, length-take-le, length-map}
use Rattle.ts_core.specs.declared.flat.FlatGrammar.{FlatGrammar}
use Rattle.ts_core.specs.declared.flat.FlatRule.{FlatRule}
use Rattle.ts_core.specs.declared.flat.Production.{Production}
use Rattle.ts_core.specs.declared.flat.Step.{Step}
use Rattle.spec_grammar.specs.Symbols.{production_at, all_productions, productions_from, start_symbol}
use Rattle.spec_tables.specs.Items.{line_steps}
use Rattle.spec_tables.specs.Actions.{rule_in}
use Rattle.ts_items.specs.Productions.{symbols_of_steps, right_of}
use Rattle.ts_items.specs.Parts.{line_of}
use Rattle.ts_table.specs.declared.marks.Mark.{Mark}
use Rattle.ts_table.specs.declared.marks.Marked.{Marked}
use Rattle.ts_table.specs.declared.marks.Marks.{Marks}
use Rattle.ts_table.specs.declared.marks.Weight.{Weight}
use Rattle.ts_table.specs.Marks.{mark_of, marks_in, marked, marked_rule, marked_rules, AreMarksOf, mark_before, symbol_of_mark, weight_by, weight_of}

-- ---- making them

map_append : {X Y : Type 0} (f : X → Y) (xs ys : List X) → map f (xs ++ ys) ≡ map f xs ++ map f ys
map_append f [] ys = refl
map_append f (x ∷ xs) ys = ap (λ (l : List _). f x ∷ l) (map_append f xs ys)

from_append : (first : ℕ) (xs : List FlatRule) (x : FlatRule) → productions_from first (xs ++ x ∷ []) ≡ productions_from first xs ++ map (λ (p : Production). (first + length xs, p)) x.productions
from_append first [] x =
    let zero : first ≡ first + 0 = omega arith in
    append-nil (map (λ (p : Production). (first, p)) x.productions) ∙ ap (λ (n : ℕ). map (λ (p : Production). (n, p)) x.productions) zero
from_append first (y ∷ ys) x =
    let next : suc first + length ys ≡ first + length (y ∷ ys) = omega arith in
    ap (λ (l : List (ℕ × Production)). map (λ (p : Production). (first, p)) y.productions ++ l) (from_append (suc first) ys x)
    ∙ sym (append_assoc (map (λ (p : Production). (first, p)) y.productions) (productions_from (suc first) ys) (map (λ (p : Production). (suc first + length ys, p)) x.productions))
    ∙ ap (λ (n : ℕ). (map (λ (p : Production). (first, p)) y.productions ++ productions_from (suc first) ys) ++ map (λ (p : Production). (n, p)) x.productions) next

map_map : {X Y Z : Type 0} (f : X → Y) (h : Y → Z) (xs : List X) → map h (map f xs) ≡ map (λ (x : X). h (f x)) xs
map_map f h [] = refl
map_map {X} {Y} {Z} f h (x ∷ xs) = ap (λ (l : List Z). h (f x) ∷ l) (map_map f h xs)

pub rules_more : (first left k : ℕ) (rules : List FlatRule) (rule : FlatRule) (old now new : List (ℕ × List Mark)) → k < length rules → rule ≡ get_or rules k rule → left ≡ first + k → new ≡ now ++ marked_rule left rule.productions
    → now ≡ old ++ marked_rules first (take k rules) → new ≡ old ++ marked_rules first (take (k + 1) rules)
rules_more first left k rules rule old now new below is place more before =
    let size : length (take k rules) ≡ k = length-take-le k rules (omega (arith, below)) in
    let rest : marked_rules first (take k rules) ++ marked_rule left rule.productions ≡ marked_rules first (take (k + 1) rules) =
    ap (λ (n : ℕ). marked_rules first (take k rules) ++ marked_rule n rule.productions) (place ∙ ap (λ (m : ℕ). first + m) (sym size))
    ∙ ap (λ (l : List (ℕ × List Mark)). marked_rules first (take k rules) ++ l) (sym (map_map (λ (p : Production). (first + length (take k rules), p)) marked rule.productions))
    ∙ sym (map_append marked (productions_from first (take k rules)) (map (λ (p : Production). (first + length (take k rules), p)) rule.productions))
    ∙ ap (map marked) (sym (from_append first (take k rules) rule))
    ∙ ap (λ (r : FlatRule). marked_rules first (take k rules ++ r ∷ [])) is
    ∙ ap (marked_rules first) (sym (take_more rules k rule below)) in
    more ∙ ap (λ (l : List (ℕ × List Mark)). l ++ marked_rule left rule.productions) before ∙ append_assoc old (marked_rules first (take k rules)) (marked_rule left rule.productions) ∙ ap (λ (l : List (ℕ × List Mark)). old ++ l) rest

-- ---- what they say

-- the production of this number, by its marks
pub record MarkedAt (g : FlatGrammar) (n : ℕ) (p : Marked) : Type 0 where
  pub steps : marks_in (line_steps g (Some n)) ≡ p.steps.items
  pub left : rule_in g (Some n) ≡ p.left

abbrev seen : Marked → ℕ × List Mark
seen p = (p.left, p.steps.items)

both_in : (y z : ℕ) (v w : List Mark) → ◌≡◌ {A = Option (ℕ × List Mark)} (Some (y, v)) (Some (z, w)) → (y ≡ z) × (v ≡ w)
both_in y z v w h = (ap (λ (o : Option (ℕ × List Mark)). (unwrap_or o (z, w)).0) h, ap (λ (o : Option (ℕ × List Mark)). (unwrap_or o (z, w)).1) h)

pub marked_at : (g : FlatGrammar) (m : Marks) (n : ℕ) (p : Marked) → AreMarksOf g m → slice_get m.productions.items n ≡ Some p → MarkedAt g n p
marked_at g m n p are at = by (production_at g n) refl (sym (slice_get-map marked (all_productions g) n) ∙ ap (λ (l : List (ℕ × List Mark)). slice_get l n) (sym are.productions) ∙ slice_get-map seen m.productions.items n ∙ ap (option_map seen) at)
  where
    by : (o : Option (ℕ × Production)) → production_at g n ≡ o → option_map marked o ≡ Some (p.left, p.steps.items) → MarkedAt g n p
    by None e h = absurd (let x : ◌≡◌ {A = Option (ℕ × List Mark)} None (Some (p.left, p.steps.items)) = h in cc)
    by (Some (y, d)) e h =
        let w = both_in y p.left (marks_in d.steps) p.steps.items h in
        record {
          steps = ap (λ (o : Option (ℕ × Production)). marks_in (unwrap_or (option_map (λ (q : ℕ × Production). q.1.steps) o) [])) e ∙ w.1;
          left = ap (λ (o : Option (ℕ × Production)). unwrap_or (option_map (λ (q : ℕ × Production). q.0) o) 0) e ∙ w.0;
        }

-- the mark of the step before a dot
before_is : (steps : List Step) (marks : List Mark) (dot : ℕ) → marks_in steps ≡ marks → mark_before marks (suc dot) ≡ option_map mark_of (slice_get steps dot)
before_is steps marks dot e = ap (λ (l : List Mark). slice_get l dot) (sym e) ∙ slice_get-map mark_of steps dot

weight_is : (o : Option Step) (b : Option Mark) (r s : ℕ) (w : Weight) → b ≡ option_map mark_of o → r ≡ s → w ≡ weight_by (option_map mark_of o) s → weight_by b r ≡ w
weight_is o b r s w eb er ew = ap (λ (c : Option Mark). weight_by c r) eb ∙ ap (weight_by (option_map mark_of o)) er ∙ sym ew

weight_from : (o : Option Step) (s : ℕ) (w : Weight) → w ≡ record { prec = unwrap_or (option_map (λ (step : Step). step.prec) o) (prec.Absent); assoc = unwrap_or (option_map (λ (step : Step). step.assoc) o) (assoc.Absent); rule = s } → w ≡ weight_by (option_map mark_of o) s
weight_from None s w e = e
weight_from (Some step) s w e = e

pub weight_at : (g : FlatGrammar) (m : Marks) (n dot : ℕ) (p : Marked) → AreMarksOf g m → slice_get m.productions.items n ≡ Some p → weight_by (mark_before p.steps.items dot) p.left ≡ weight_of g (Some n) dot
weight_at g m n zero p are at = let w = marked_at g m n p are at in ap (weight_by None) (sym w.left)
weight_at g m n (suc dot) p are at =
    let w = marked_at g m n p are at in
    weight_is (slice_get (line_steps g (Some n)) dot) (mark_before p.steps.items (suc dot)) p.left (rule_in g (Some n)) (weight_of g (Some n) (suc dot))
    (before_is (line_steps g (Some n)) p.steps.items dot w.steps) (sym w.left)
    (weight_from (slice_get (line_steps g (Some n)) dot) (rule_in g (Some n)) (weight_of g (Some n) (suc dot)) refl)

start_weight : (g : FlatGrammar) (dot : ℕ) → weight_by None (start_symbol g) ≡ weight_of g None dot
start_weight g zero = refl
start_weight g (suc zero) = refl
start_weight g (suc (suc dot)) = refl

-- the production of a line, as it is indexed
at_line : (m : Marks) (line from : ℕ) (p : Marked) → (line ≡ 0 → ⊥) → from ≡ line → line ≤ length m.productions.items → p ≡ get_or m.productions.items (from - 1) p → (n : ℕ) × (line ≡ suc n) × (slice_get m.productions.items n ≡ Some p)
at_line m zero from p some is le at = absurd (some refl)
at_line m (suc n) from p some is le at =
    let k : from - 1 ≡ n = omega (arith, is) in
    (n, refl, slice_get_read m.productions.items (length m.productions.items) n p refl (omega (arith, le)) (at ∙ ap (λ (j : ℕ). get_or m.productions.items j p) k))

pub line_weight : (g : FlatGrammar) (m : Marks) (line from dot : ℕ) (p : Marked) (b : Option Mark) (w : Weight) → AreMarksOf g m → (line ≡ 0 → ⊥) → from ≡ line → line ≤ length m.productions.items → p ≡ get_or m.productions.items (from - 1) p
    → b ≡ mark_before p.steps.items dot → w ≡ weight_by b p.left → w ≡ weight_of g (line_of line) dot
line_weight g m line from dot p b w are some is le at eb ew =
    let k = at_line m line from p some is le at in
    ew ∙ ap (λ (c : Option Mark). weight_by c p.left) eb ∙ weight_at g m k.0 dot p are k.2 ∙ ap (λ (l : ℕ). weight_of g (line_of l) dot) (sym k.1)

pub first_weight : (g : FlatGrammar) (m : Marks) (line dot : ℕ) (w : Weight) → AreMarksOf g m → line ≡ 0 → w ≡ weight_by None m.start → w ≡ weight_of g (line_of line) dot
first_weight g m line dot w are none ew = ew ∙ ap (weight_by None) are.start ∙ start_weight g dot ∙ ap (λ (l : ℕ). weight_of g (line_of l) dot) (sym none)

symbols_are : (steps : List Step) → map (λ (mark : Mark). mark.symbol) (marks_in steps) ≡ symbols_of_steps steps
symbols_are steps = map_map mark_of (λ (mark : Mark). mark.symbol) steps

pub right_is : (g : FlatGrammar) (m : Marks) (line from : ℕ) (p : Marked) → AreMarksOf g m → (line ≡ 0 → ⊥) → from ≡ line → line ≤ length m.productions.items → p ≡ get_or m.productions.items (from - 1) p
    → map (λ (mark : Mark). mark.symbol) p.steps.items ≡ right_of g (line_of line)
right_is g m line from p are some is le at =
    let k = at_line m line from p some is le at in
    let w = marked_at g m k.0 p are k.2 in
    ap (map (λ (mark : Mark). mark.symbol)) (sym w.steps) ∙ symbols_are (line_steps g (Some k.0)) ∙ ap (λ (l : ℕ). right_of g (line_of l)) (sym k.1)

pub right_size : (g : FlatGrammar) (m : Marks) (line from n : ℕ) (p : Marked) → AreMarksOf g m → (line ≡ 0 → ⊥) → from ≡ line → line ≤ length m.productions.items → p ≡ get_or m.productions.items (from - 1) p
    → n ≡ length p.steps.items → n ≡ length (right_of g (line_of line))
right_size g m line from n p are some is le at en = en ∙ sym (length-map p.steps.items (λ (mark : Mark). mark.symbol)) ∙ ap (λ (l : List ℕ). length l) (right_is g m line from p are some is le at)

pub right_symbol : (g : FlatGrammar) (m : Marks) (line from dot : ℕ) (p : Marked) (o : Option ℕ) → AreMarksOf g m → (line ≡ 0 → ⊥) → from ≡ line → line ≤ length m.productions.items → p ≡ get_or m.productions.items (from - 1) p
    → o ≡ symbol_of_mark p.steps.items dot → o ≡ slice_get (right_of g (line_of line)) dot
right_symbol g m line from dot p o are some is le at eo = eo ∙ sym (slice_get-map (λ (mark : Mark). mark.symbol) p.steps.items dot) ∙ ap (λ (l : List ℕ). slice_get l dot) (right_is g m line from p are some is le at)

pub start_past : (g : FlatGrammar) (line dot : ℕ) → line ≡ 0 → 0 < dot → None ≡ slice_get (right_of g (line_of line)) dot
start_past g zero zero e h = absurd (omega (arith, h))
start_past g zero (suc dot) e h = refl
start_past g (suc line) dot e h = absurd (omega (arith, e))
