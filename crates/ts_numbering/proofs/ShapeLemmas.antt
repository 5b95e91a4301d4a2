-- Whether a rule tree may be empty and whether it has steps, by its type.
use Rattle.std.proofs.Common.{◌≡◌, ◌∙◌, sym, ap, subst, refl, ℕ, ℤ, ◌+◌, ◌<◌, ◌≤◌, arith, Bool, true, false, ◌&&◌, ◌||◌, not, if◌then◌else◌, List, [], ◌∷◌, ◌++◌, map, length, get_or, drop}
use Rattle.std.specs.List.{list_any}
use Rattle.std.proofs.lemmas.List.{drop_more}
use Rattle.std.proofs.lemmas.List.Folds.{list_any-append}
use Rattle.ts_core.specs.declared.flat.Assoc.{Assoc}
use Rattle.ts_core.specs.declared.flat.Prec.{Prec}
use Rattle.ts_core.specs.declared.rule.Rule.{Rule}
use Rattle.ts_rules.specs.Alternatives.{Alternatives, alternatives_of, joins, followed, sequence, alternatives_each, choice_of, is_last, in_sequence, in_field, in_alias, in_dynamic, in_group, group, left, last_left, single}
use Rattle.ts_rules.specs.Numbers.{Numbers, tree_of, is_blank, has_steps, has_blank, where_so, any_times, many_times, outermost}
use Rattle.ts_rules.specs.declared.tree.Alternative.{Alternative}
use Rattle.ts_rules.specs.declared.tree.Around.{Around}
use Rattle.ts_rules.specs.declared.tree.NumberedStep.{NumberedStep}
use Rattle.ts_rules.specs.declared.tree.Tree.{Tree}
use Rattle.ts_rules.specs.declared.tree.Tree.TheVariants as tree
use Rattle.ts_numbering.specs.Shapes.{some_blank, some_filled, join_filled, joins_of, branches_of, IsShapeOf}
use Rattle.ts_numbering.specs.declared.shape.Shape.{Shape}
use Rattle.ts_numbering.proofs.TreeLemmas.{at_blank, at_step, at_field, at_alias, at_group, at_dynamic, at_seq, at_choice}

-- ---- joins

blank_append : (ss ts : List NumberedStep) → is_blank (ss ++ ts) ≡ is_blank ss && is_blank ts
blank_append [] ts = refl
blank_append (s ∷ ss) ts = refl

and_false : (a : Bool) → false ≡ a && false
and_false true = refl
and_false false = refl

spread : (a b c : Bool) → (a && b) || (a && c) ≡ a && (b || c)
spread true b c = refl
spread false b c = refl

-- an alternative before each of a list
pub blank_before : (x : Alternative) (ys : Alternatives) → some_blank (map (λ y. followed x y) ys) ≡ is_blank x.steps && some_blank ys
blank_before x [] = and_false (is_blank x.steps)
blank_before x (y ∷ ys) =
    ap (λ (b : Bool). b || some_blank (map (λ y. followed x y) ys)) (blank_append x.steps y.steps)
    ∙ ap (λ (b : Bool). (is_blank x.steps && is_blank y.steps) || b) (blank_before x ys)
    ∙ spread (is_blank x.steps) (is_blank y.steps) (some_blank ys)

filled_step : (a b c d : Bool) → not (a && b) || ((not a && (c || d)) || (a && d)) ≡ (not a && ((b || c) || (not b || d))) || (a && (not b || d))
filled_step true true c d = refl
filled_step true false c d = refl
filled_step false true c d = refl
filled_step false false true d = refl
filled_step false false false d = refl

filled_none : (a : Bool) → false ≡ (not a && false) || (a && false)
filled_none true = refl
filled_none false = refl

pub filled_before : (x : Alternative) (ys : Alternatives) → some_filled (map (λ y. followed x y) ys) ≡ join_filled (is_blank x.steps) (not (is_blank x.steps)) (some_blank ys) (some_filled ys)
filled_before x [] = filled_none (is_blank x.steps)
filled_before x (y ∷ ys) =
    ap (λ (b : Bool). not b || some_filled (map (λ y. followed x y) ys)) (blank_append x.steps y.steps)
    ∙ ap (λ (b : Bool). not (is_blank x.steps && is_blank y.steps) || b) (filled_before x ys)
    ∙ filled_step (is_blank x.steps) (is_blank y.steps) (some_blank ys) (some_filled ys)

spread_first : (a b c : Bool) → (a && c) || (b && c) ≡ (a || b) && c
spread_first true b true = refl
spread_first true true false = refl
spread_first true false false = refl
spread_first false b c = refl

pub blank_joins : (xs ys : Alternatives) → some_blank (joins xs ys) ≡ some_blank xs && some_blank ys
blank_joins [] ys = refl
blank_joins (x ∷ xs) ys =
    list_any-append (λ (z : Alternative). is_blank z.steps) (map (λ y. followed x y) ys) (joins xs ys)
    ∙ ap (λ (b : Bool). b || some_blank (joins xs ys)) (blank_before x ys)
    ∙ ap (λ (b : Bool). (is_blank x.steps && some_blank ys) || b) (blank_joins xs ys)
    ∙ spread_first (is_blank x.steps) (some_blank xs) (some_blank ys)

joined_first : (a c d e f : Bool) → join_filled a (not a) e f || join_filled c d e f ≡ join_filled (a || c) (not a || d) e f
joined_first true true true true true = refl
joined_first true true true true false = refl
joined_first true true true false true = refl
joined_first true true true false false = refl
joined_first true true false e true = refl
joined_first true true false e false = refl
joined_first true false true true true = refl
joined_first true false true true false = refl
joined_first true false true false true = refl
joined_first true false true false false = refl
joined_first true false false e true = refl
joined_first true false false e false = refl
joined_first false c d true f = refl
joined_first false c d false true = refl
joined_first false true true false false = refl
joined_first false true false false false = refl
joined_first false false true false false = refl
joined_first false false false false false = refl

pub filled_joins : (xs ys : Alternatives) → some_filled (joins xs ys) ≡ join_filled (some_blank xs) (some_filled xs) (some_blank ys) (some_filled ys)
filled_joins [] ys = refl
filled_joins (x ∷ xs) ys =
    list_any-append (λ (z : Alternative). not (is_blank z.steps)) (map (λ y. followed x y) ys) (joins xs ys)
    ∙ ap (λ (b : Bool). b || some_filled (joins xs ys)) (filled_before x ys)
    ∙ ap (λ (b : Bool). join_filled (is_blank x.steps) (not (is_blank x.steps)) (some_blank ys) (some_filled ys) || b) (filled_joins xs ys)
    ∙ joined_first (is_blank x.steps) (some_blank xs) (some_filled xs) (some_blank ys) (some_filled ys)

-- ---- groups

last_blank : (around : Around) (steps : List NumberedStep) → is_blank (last_left around steps) ≡ is_blank steps
last_blank around [] = refl
last_blank around (s ∷ []) = refl
last_blank around (s ∷ t ∷ ss) = refl

left_any : (f : Bool → Bool) (around : Around) (xs : Alternatives) → list_any (λ (x : Alternative). f (is_blank x.steps)) (map (left around) xs) ≡ list_any (λ (x : Alternative). f (is_blank x.steps)) xs
left_any f around [] = refl
left_any f around (x ∷ xs) =
    ap (λ (b : Bool). f b || list_any (λ (x : Alternative). f (is_blank x.steps)) (map (left around) xs)) (last_blank around x.steps)
    ∙ ap (λ (b : Bool). f (is_blank x.steps) || b) (left_any f around xs)

group_any : (f : Bool → Bool) (at_end : Bool) (around : Around) (xs : Alternatives) → list_any (λ (x : Alternative). f (is_blank x.steps)) (if at_end then xs else map (left around) xs) ≡ list_any (λ (x : Alternative). f (is_blank x.steps)) xs
group_any f true around xs = refl
group_any f false around xs = left_any f around xs

-- ---- the shape of a tree

abbrev Shaped : Tree → Shape → Type 0
Shaped t = IsShapeOf (alternatives_of t)

by_alternatives : (f g : Around → Alternatives) (shape : Shape) → ((a : Around) → f a ≡ g a) → IsShapeOf g shape → IsShapeOf f shape
by_alternatives f g shape e h = record {
  blank = λ a. h.blank a ∙ ap some_blank (sym (e a));
  filled = λ a. h.filled a ∙ ap some_filled (sym (e a));
}

pub of_blank : (t : Tree) (shape : Shape) → shape.blank ≡ true → shape.filled ≡ false → t ≡ tree.Blank → Shaped t shape
of_blank t shape b f e = record {
  blank = λ a. b ∙ ap some_blank (sym (at_blank a) ∙ ap (λ (u : Tree). alternatives_of u a) (sym e));
  filled = λ a. f ∙ ap some_filled (sym (at_blank a) ∙ ap (λ (u : Tree). alternatives_of u a) (sym e));
}

pub of_step : (t : Tree) (shape : Shape) (symbol : ℕ) → shape.blank ≡ false → shape.filled ≡ true → t ≡ tree.Step symbol → Shaped t shape
of_step t shape symbol b f e = record {
  blank = λ a. b ∙ ap some_blank (sym (at_step symbol a) ∙ ap (λ (u : Tree). alternatives_of u a) (sym e));
  filled = λ a. f ∙ ap some_filled (sym (at_step symbol a) ∙ ap (λ (u : Tree). alternatives_of u a) (sym e));
}

at_tree : (t u : Tree) (a : Around) → t ≡ u → alternatives_of t a ≡ alternatives_of u a
at_tree t u a e = ap (λ (v : Tree). alternatives_of v a) e

pub of_seq : (t : Tree) (ts : List Tree) (shape : Shape) → t ≡ tree.Seq ts → IsShapeOf (λ a. sequence (alternatives_each ts a)) shape → Shaped t shape
of_seq t ts shape e h = by_alternatives (alternatives_of t) (λ a. sequence (alternatives_each ts a)) shape (λ a. at_tree t (tree.Seq ts) a e ∙ at_seq ts a) h

pub of_choice : (t : Tree) (ts : List Tree) (shape : Shape) → t ≡ tree.Choice ts → IsShapeOf (choice_of ts) shape → Shaped t shape
of_choice t ts shape e h = by_alternatives (alternatives_of t) (choice_of ts) shape (λ a. at_tree t (tree.Choice ts) a e ∙ at_choice ts a) h

pub of_field : (t inner : Tree) (number : ℕ) (shape : Shape) → t ≡ tree.Field number inner → Shaped inner shape → Shaped t shape
of_field t inner number shape e h = by_alternatives (alternatives_of t) (λ a. alternatives_of inner (in_field number a)) shape
    (λ a. at_tree t (tree.Field number inner) a e ∙ at_field number inner a)
    (record { blank = λ a. h.blank (in_field number a); filled = λ a. h.filled (in_field number a) })

pub of_alias : (t inner : Tree) (number : ℕ) (shape : Shape) → t ≡ tree.Alias number inner → Shaped inner shape → Shaped t shape
of_alias t inner number shape e h = by_alternatives (alternatives_of t) (λ a. alternatives_of inner (in_alias number a)) shape
    (λ a. at_tree t (tree.Alias number inner) a e ∙ at_alias number inner a)
    (record { blank = λ a. h.blank (in_alias number a); filled = λ a. h.filled (in_alias number a) })

pub of_dynamic : (t inner : Tree) (value : ℤ) (shape : Shape) → t ≡ tree.Dynamic value inner → Shaped inner shape → Shaped t shape
of_dynamic t inner value shape e h = by_alternatives (alternatives_of t) (λ a. alternatives_of inner (in_dynamic value a)) shape
    (λ a. at_tree t (tree.Dynamic value inner) a e ∙ at_dynamic value inner a)
    (record { blank = λ a. h.blank (in_dynamic value a); filled = λ a. h.filled (in_dynamic value a) })

pub of_group : (t inner : Tree) (prec : Prec) (assoc : Assoc) (shape : Shape) → t ≡ tree.Group prec assoc inner → Shaped inner shape → Shaped t shape
of_group t inner prec assoc shape e h = by_alternatives (alternatives_of t) (λ a. group a (alternatives_of inner (in_group prec assoc a))) shape
    (λ a. at_tree t (tree.Group prec assoc inner) a e ∙ at_group prec assoc inner a)
    (record {
      blank = λ a. h.blank (in_group prec assoc a) ∙ sym (group_any (λ b. b) a.at_end a (alternatives_of inner (in_group prec assoc a)));
      filled = λ a. h.filled (in_group prec assoc a) ∙ sym (group_any not a.at_end a (alternatives_of inner (in_group prec assoc a)));
    })

-- ---- repetitions

step_or_blank : (step blank : Bool) (number : ℕ) (a : Around)
    → (some_blank (choice_of (where_so step (tree.Step number) ++ where_so blank tree.Blank) a) ≡ blank)
    × (some_filled (choice_of (where_so step (tree.Step number) ++ where_so blank tree.Blank) a) ≡ step)
step_or_blank true true number a = (
  ap (λ (xs : Alternatives). some_blank (xs ++ (alternatives_of tree.Blank a ++ []))) (at_step number a) ∙ ap (λ (xs : Alternatives). some_blank (single number a ∷ (xs ++ []))) (at_blank a),
  ap (λ (xs : Alternatives). some_filled (xs ++ (alternatives_of tree.Blank a ++ []))) (at_step number a),
)
step_or_blank true false number a =
    (ap (λ (xs : Alternatives). some_blank (xs ++ [])) (at_step number a), ap (λ (xs : Alternatives). some_filled (xs ++ [])) (at_step number a))
step_or_blank false true number a =
    (ap (λ (xs : Alternatives). some_blank (xs ++ [])) (at_blank a), ap (λ (xs : Alternatives). some_filled (xs ++ [])) (at_blank a))
step_or_blank false false number a = (refl, refl)

pub of_any_times : (t content : Tree) (number : ℕ) (shape inner : Shape) → t ≡ any_times number content → Shaped content inner
    → shape.blank ≡ true → shape.filled ≡ inner.filled → Shaped t shape
of_any_times t content number shape inner e h b f =
    of_choice t (where_so (has_steps content) (tree.Step number) ++ where_so true tree.Blank) shape e
    (record {
      blank = λ a. b ∙ sym (step_or_blank (has_steps content) true number a).0;
      filled = λ a. f ∙ h.filled outermost ∙ sym (step_or_blank (has_steps content) true number a).1;
    })

pub of_many_times : (t content : Tree) (number : ℕ) (shape : Shape) → t ≡ many_times number content → Shaped content shape → Shaped t shape
of_many_times t content number shape e h =
    of_choice t (where_so (has_steps content) (tree.Step number) ++ where_so (has_blank content) tree.Blank) shape e
    (record {
      blank = λ a. h.blank outermost ∙ sym (step_or_blank (has_steps content) (has_blank content) number a).0;
      filled = λ a. h.filled outermost ∙ sym (step_or_blank (has_steps content) (has_blank content) number a).1;
    })

-- ---- lists

-- one more member before the rest
joins_before : (n : Numbers) (member : Rule) (rest : List Rule) (here now new : Shape)
    → Shaped (tree_of n member) here → new.blank ≡ here.blank && now.blank → new.filled ≡ join_filled here.blank here.filled now.blank now.filled
    → IsShapeOf (joins_of n rest) now → IsShapeOf (joins_of n (member ∷ rest)) new
joins_before n member rest here now new h b f before = record {
  blank = λ a.
      let first = alternatives_of (tree_of n member) (in_sequence (is_last (map (tree_of n) rest)) a) in
      b ∙ ap (λ (x : Bool). x && now.blank) (h.blank (in_sequence (is_last (map (tree_of n) rest)) a))
      ∙ ap (λ (x : Bool). some_blank first && x) (before.blank a)
      ∙ sym (blank_joins first (joins_of n rest a));
  filled = λ a.
      let around = in_sequence (is_last (map (tree_of n) rest)) a in
      let first = alternatives_of (tree_of n member) around in
      f ∙ ap (λ (x : Bool). join_filled x here.filled now.blank now.filled) (h.blank around)
      ∙ ap (λ (x : Bool). join_filled (some_blank first) x now.blank now.filled) (h.filled around)
      ∙ ap (λ (x : Bool). join_filled (some_blank first) (some_filled first) x now.filled) (before.blank a)
      ∙ ap (λ (x : Bool). join_filled (some_blank first) (some_filled first) (some_blank (joins_of n rest a)) x) (before.filled a)
      ∙ sym (filled_joins first (joins_of n rest a));
}

branches_before : (n : Numbers) (member : Rule) (rest : List Rule) (here now new : Shape)
    → Shaped (tree_of n member) here → new.blank ≡ here.blank || now.blank → new.filled ≡ here.filled || now.filled
    → IsShapeOf (branches_of n rest) now → IsShapeOf (branches_of n (member ∷ rest)) new
branches_before n member rest here now new h b f before = record {
  blank = λ a.
      let first = alternatives_of (tree_of n member) a in
      b ∙ ap (λ (x : Bool). x || now.blank) (h.blank a) ∙ ap (λ (x : Bool). some_blank first || x) (before.blank a)
      ∙ sym (list_any-append (λ (z : Alternative). is_blank z.steps) first (branches_of n rest a));
  filled = λ a.
      let first = alternatives_of (tree_of n member) a in
      f ∙ ap (λ (x : Bool). x || now.filled) (h.filled a) ∙ ap (λ (x : Bool). some_filled first || x) (before.filled a)
      ∙ sym (list_any-append (λ (z : Alternative). not (is_blank z.steps)) first (branches_of n rest a));
}

pub joins_more : (n : Numbers) (all : List Rule) (i k : ℕ) (member : Rule) (here now new : Shape) → i < length all → k ≡ i + 1 → member ≡ get_or all i member
    → Shaped (tree_of n member) here → new.blank ≡ here.blank && now.blank → new.filled ≡ join_filled here.blank here.filled now.blank now.filled
    → IsShapeOf (joins_of n (drop k all)) now → IsShapeOf (joins_of n (drop i all)) new
joins_more n all i k member here now new lt e at h b f before =
    subst (λ (rest : List Rule). IsShapeOf (joins_of n rest) new) (ap (λ (m : Rule). m ∷ drop (i + 1) all) at ∙ sym (drop_more all i member lt))
    (joins_before n member (drop (i + 1) all) here now new h b f (subst (λ (j : ℕ). IsShapeOf (joins_of n (drop j all)) now) e before))

pub branches_more : (n : Numbers) (all : List Rule) (i k : ℕ) (member : Rule) (here now new : Shape) → i < length all → k ≡ i + 1 → member ≡ get_or all i member
    → Shaped (tree_of n member) here → new.blank ≡ here.blank || now.blank → new.filled ≡ here.filled || now.filled
    → IsShapeOf (branches_of n (drop k all)) now → IsShapeOf (branches_of n (drop i all)) new
branches_more n all i k member here now new lt e at h b f before =
    subst (λ (rest : List Rule). IsShapeOf (branches_of n rest) new) (ap (λ (m : Rule). m ∷ drop (i + 1) all) at ∙ sym (drop_more all i member lt))
    (branches_before n member (drop (i + 1) all) here now new h b f (subst (λ (j : ℕ). IsShapeOf (branches_of n (drop j all)) now) e before))

pub joins_whole : (n : Numbers) (all : List Rule) (i : ℕ) (shape : Shape) → i ≤ 0 → IsShapeOf (joins_of n (drop i all)) shape → IsShapeOf (joins_of n all) shape
joins_whole n all i shape low h = let e : i ≡ 0 = omega arith in subst (λ (k : ℕ). IsShapeOf (joins_of n (drop k all)) shape) e h

pub branches_whole : (n : Numbers) (all : List Rule) (i : ℕ) (shape : Shape) → i ≤ 0 → IsShapeOf (branches_of n (drop i all)) shape → IsShapeOf (branches_of n all) shape
branches_whole n all i shape low h = let e : i ≡ 0 = omega arith in subst (λ (k : ℕ). IsShapeOf (branches_of n (drop k all)) shape) e h
