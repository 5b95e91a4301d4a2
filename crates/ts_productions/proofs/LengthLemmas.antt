-- How many steps the alternatives of a rule tree have does not depend on the numbers.
use Rattle.std.proofs.Common.{◌≡◌, ◌∙◌, sym, ap, subst, refl, ℕ, ℤ, zero, suc, ◌+◌, Bool, true, false, not, ◌||◌, if◌then◌else◌, List, [], ◌∷◌, ◌++◌, map, length}
use Rattle.std.specs.List.{list_any}
use Rattle.std.proofs.lemmas.List.{map-append, length-append}
use Rattle.ts_core.specs.declared.flat.Assoc.{Assoc}
use Rattle.ts_core.specs.declared.flat.Prec.{Prec}
use Rattle.ts_core.specs.declared.rule.Rule.{Rule}
use Rattle.ts_core.specs.declared.rule.Rule.TheBlock.{the_family, member-Rule}
use Rattle.ts_core.specs.declared.rule.Rule.TheFolds.{ind-Rule, map-Rule, claims, para-roll-Rule}
use Rattle.ts_core.specs.declared.rule.Rule.TheOpen.{Rule-F}
use Rattle.ts_core.specs.declared.rule.Rule.TheVariants as rule
use Rattle.ts_core.specs.declared.rule.Rule.TheViews.{roll-Rule}
use Rattle.ts_rules.specs.declared.tree.Alternative.{Alternative}
use Rattle.ts_rules.specs.declared.tree.Around.{Around}
use Rattle.ts_rules.specs.declared.tree.NumberedStep.{NumberedStep}
use Rattle.ts_rules.specs.declared.tree.Tree.{Tree}
use Rattle.ts_rules.specs.declared.tree.Tree.TheVariants as tree
use Rattle.ts_rules.specs.Alternatives.{Alternatives, alternatives_of, blank, single, followed, joins, sequence, choice_of, alternatives_each, in_field, in_alias, in_dynamic, in_group, in_sequence, is_last, left, last_left, group}
use Rattle.ts_rules.specs.FirstSights.{Each, end, both}
use Rattle.ts_rules.specs.Numbers.{Numbers, Numbered, inner_trees, tree_of, tree_step, outermost, is_blank, has_blank, has_steps, where_so, any_times, many_times, prec_of}
use Rattle.ts_rules.specs.Sights.{alias}
use Rattle.ts_productions.proofs.TreeLemmas.{alternatives_blank, alternatives_step, alternatives_field, alternatives_alias, alternatives_group, alternatives_dynamic, alternatives_seq, alternatives_choice}
use denote.Hole.Holds.{Such}

abbrev pub lengths : Alternatives → List ℕ
lengths = map (λ (p : Alternative). length p.steps)

lengths_append : (xs ys : Alternatives) → lengths (xs ++ ys) ≡ lengths xs ++ lengths ys
lengths_append xs ys = map-append (λ (p : Alternative). length p.steps) xs ys

abbrev sums : List ℕ → List ℕ → List ℕ
sums [] js = []
sums (i ∷ is) js = map (λ (j : ℕ). i + j) js ++ sums is js

abbrev all_sums : List (List ℕ) → List ℕ
all_sums [] = 0 ∷ []
all_sums (is ∷ rest) = sums is (all_sums rest)

lengths_followed : (x : Alternative) (ys : Alternatives) → lengths (map (λ y. followed x y) ys) ≡ map (λ (j : ℕ). length x.steps + j) (lengths ys)
lengths_followed x [] = refl
lengths_followed x (y ∷ ys) =
    ap (λ (k : ℕ). k ∷ lengths (map (λ z. followed x z) ys)) (length-append x.steps y.steps)
    ∙ ap (λ (ks : List ℕ). (length x.steps + length y.steps) ∷ ks) (lengths_followed x ys)

lengths_joins : (xs ys : Alternatives) → lengths (joins xs ys) ≡ sums (lengths xs) (lengths ys)
lengths_joins [] ys = refl
lengths_joins (x ∷ xs) ys =
    lengths_append (map (λ y. followed x y) ys) (joins xs ys)
    ∙ ap (λ (ks : List ℕ). ks ++ lengths (joins xs ys)) (lengths_followed x ys)
    ∙ ap (λ (ks : List ℕ). map (λ (j : ℕ). length x.steps + j) (lengths ys) ++ ks) (lengths_joins xs ys)

lengths_sequence : (parts : List Alternatives) → lengths (sequence parts) ≡ all_sums (map lengths parts)
lengths_sequence [] = refl
lengths_sequence (xs ∷ rest) = lengths_joins xs (sequence rest) ∙ ap (sums (lengths xs)) (lengths_sequence rest)

last_left_length : (a : Around) (steps : List NumberedStep) → length (last_left a steps) ≡ length steps
last_left_length a [] = refl
last_left_length a (s ∷ []) = refl
last_left_length a (s ∷ t ∷ steps) = ap suc (last_left_length a (t ∷ steps))

lengths_left : (a : Around) (xs : Alternatives) → lengths (map (left a) xs) ≡ lengths xs
lengths_left a [] = refl
lengths_left a (x ∷ xs) = ap (λ (k : ℕ). k ∷ lengths (map (left a) xs)) (last_left_length a x.steps) ∙ ap (λ (ks : List ℕ). length x.steps ∷ ks) (lengths_left a xs)

lengths_group : (a : Around) (xs : Alternatives) → lengths (group a xs) ≡ lengths xs
lengths_group a xs = by a.at_end
  where
    by : (b : Bool) → lengths (if b then xs else map (left a) xs) ≡ lengths xs
    by true = refl
    by false = lengths_left a xs

-- ---- trees

abbrev pub Same : Tree → Tree → Type 0
Same t u = (a b : Around) → lengths (alternatives_of t a) ≡ lengths (alternatives_of u b)

carried : (xs ys vs ws : Alternatives) → vs ≡ xs → ws ≡ ys → lengths xs ≡ lengths ys → lengths vs ≡ lengths ws
carried xs ys vs ws e f h = ap lengths e ∙ h ∙ ap lengths (sym f)

blank_tree : Same tree.Blank tree.Blank
blank_tree a b = carried (blank ∷ []) (blank ∷ []) (alternatives_of tree.Blank a) (alternatives_of tree.Blank b) (alternatives_blank a) (alternatives_blank b) refl

step_tree : (k l : ℕ) → Same (tree.Step k) (tree.Step l)
step_tree k l a b = carried (single k a ∷ []) (single l b ∷ []) (alternatives_of (tree.Step k) a) (alternatives_of (tree.Step l) b) (alternatives_step k a) (alternatives_step l b) refl

field_tree : (f g : ℕ) (t u : Tree) → Same t u → Same (tree.Field f t) (tree.Field g u)
field_tree f g t u h a b = carried (alternatives_of t (in_field f a)) (alternatives_of u (in_field g b)) (alternatives_of (tree.Field f t) a) (alternatives_of (tree.Field g u) b)
    (alternatives_field f t a) (alternatives_field g u b) (h (in_field f a) (in_field g b))

alias_tree : (k l : ℕ) (t u : Tree) → Same t u → Same (tree.Alias k t) (tree.Alias l u)
alias_tree k l t u h a b = carried (alternatives_of t (in_alias k a)) (alternatives_of u (in_alias l b)) (alternatives_of (tree.Alias k t) a) (alternatives_of (tree.Alias l u) b)
    (alternatives_alias k t a) (alternatives_alias l u b) (h (in_alias k a) (in_alias l b))

dynamic_tree : (value : ℤ) (t u : Tree) → Same t u → Same (tree.Dynamic value t) (tree.Dynamic value u)
dynamic_tree value t u h a b = carried (alternatives_of t (in_dynamic value a)) (alternatives_of u (in_dynamic value b)) (alternatives_of (tree.Dynamic value t) a) (alternatives_of (tree.Dynamic value u) b)
    (alternatives_dynamic value t a) (alternatives_dynamic value u b) (h (in_dynamic value a) (in_dynamic value b))

group_tree : (p q : Prec) (assoc : Assoc) (t u : Tree) → Same t u → Same (tree.Group p assoc t) (tree.Group q assoc u)
group_tree p q assoc t u h a b =
    carried (group a (alternatives_of t (in_group p assoc a))) (group b (alternatives_of u (in_group q assoc b))) (alternatives_of (tree.Group p assoc t) a) (alternatives_of (tree.Group q assoc u) b)
    (alternatives_group p assoc t a) (alternatives_group q assoc u b)
    (lengths_group a (alternatives_of t (in_group p assoc a)) ∙ h (in_group p assoc a) (in_group q assoc b) ∙ sym (lengths_group b (alternatives_of u (in_group q assoc b))))

members_same : (ts us : List Tree) → Each Same ts us → (a b : Around) → map lengths (alternatives_each ts a) ≡ map lengths (alternatives_each us b)
members_same _ _ end a b = refl
members_same _ _ (both t u ts us h rest) a b =
    ap (λ (ks : List ℕ). ks ∷ map lengths (alternatives_each ts a)) (h (in_sequence (is_last ts) a) (in_sequence (is_last us) b))
    ∙ ap (λ (kss : List (List ℕ)). lengths (alternatives_of u (in_sequence (is_last us) b)) ∷ kss) (members_same ts us rest a b)

seq_tree : (ts us : List Tree) → Each Same ts us → Same (tree.Seq ts) (tree.Seq us)
seq_tree ts us all a b = carried (sequence (alternatives_each ts a)) (sequence (alternatives_each us b)) (alternatives_of (tree.Seq ts) a) (alternatives_of (tree.Seq us) b) (alternatives_seq ts a) (alternatives_seq us b)
    (lengths_sequence (alternatives_each ts a) ∙ ap all_sums (members_same ts us all a b) ∙ sym (lengths_sequence (alternatives_each us b)))

branches_same : (ts us : List Tree) → Each Same ts us → (a b : Around) → lengths (choice_of ts a) ≡ lengths (choice_of us b)
branches_same _ _ end a b = refl
branches_same _ _ (both t u ts us h rest) a b =
    lengths_append (alternatives_of t a) (choice_of ts a)
    ∙ ap (λ (ks : List ℕ). ks ++ lengths (choice_of ts a)) (h a b)
    ∙ ap (λ (ks : List ℕ). lengths (alternatives_of u b) ++ ks) (branches_same ts us rest a b)
    ∙ sym (lengths_append (alternatives_of u b) (choice_of us b))

choice_tree : (ts us : List Tree) → Each Same ts us → Same (tree.Choice ts) (tree.Choice us)
choice_tree ts us all a b = carried (choice_of ts a) (choice_of us b) (alternatives_of (tree.Choice ts) a) (alternatives_of (tree.Choice us) b) (alternatives_choice ts a) (alternatives_choice us b)
    (branches_same ts us all a b)

-- ---- repetitions

abbrev no_steps : ℕ → Bool
no_steps zero = true
no_steps (suc k) = false

any_lengths : (f : Bool → Bool) (xs : Alternatives) → list_any (λ (x : Alternative). f (is_blank x.steps)) xs ≡ list_any (λ (k : ℕ). f (no_steps k)) (lengths xs)
any_lengths f [] = refl
any_lengths f (x ∷ xs) =
    ap (λ (b : Bool). f b || list_any (λ (y : Alternative). f (is_blank y.steps)) xs) (blank_length x.steps)
    ∙ ap (λ (b : Bool). f (no_steps (length x.steps)) || b) (any_lengths f xs)
  where
    blank_length : (steps : List NumberedStep) → is_blank steps ≡ no_steps (length steps)
    blank_length [] = refl
    blank_length (s ∷ steps) = refl

any_same : (f : Bool → Bool) (t u : Tree) → Same t u → list_any (λ (x : Alternative). f (is_blank x.steps)) (alternatives_of t outermost) ≡ list_any (λ (x : Alternative). f (is_blank x.steps)) (alternatives_of u outermost)
any_same f t u h = any_lengths f (alternatives_of t outermost) ∙ ap (list_any (λ (k : ℕ). f (no_steps k))) (h outermost outermost) ∙ sym (any_lengths f (alternatives_of u outermost))

steps_same : (t u : Tree) → Same t u → has_steps t ≡ has_steps u
steps_same t u h = any_same not t u h

blank_same : (t u : Tree) → Same t u → has_blank t ≡ has_blank u
blank_same t u h = any_same (λ (b : Bool). b) t u h

where_same : (c d : Bool) (t u : Tree) → c ≡ d → Same t u → Each Same (where_so c t) (where_so d u)
where_same true true t u e h = both t u [] [] h end
where_same true false t u e h = absurd (let f : true ≡ false = e in cc)
where_same false true t u e h = absurd (let f : false ≡ true = e in cc)
where_same false false t u e h = end

each_append : (xs vs ys ws : List Tree) → Each Same xs ys → Each Same vs ws → Each Same (xs ++ vs) (ys ++ ws)
each_append _ vs _ ws end more = more
each_append _ vs _ ws (both x y xs ys h rest) more = both x y (xs ++ vs) (ys ++ ws) h (each_append xs vs ys ws rest more)

any_tree : (k l : ℕ) (t u : Tree) → Same t u → Same (any_times k t) (any_times l u)
any_tree k l t u h =
    choice_tree (where_so (has_steps t) (tree.Step k) ++ tree.Blank ∷ []) (where_so (has_steps u) (tree.Step l) ++ tree.Blank ∷ [])
    (each_append (where_so (has_steps t) (tree.Step k)) (tree.Blank ∷ []) (where_so (has_steps u) (tree.Step l)) (tree.Blank ∷ [])
    (where_same (has_steps t) (has_steps u) (tree.Step k) (tree.Step l) (steps_same t u h) (step_tree k l)) (both tree.Blank tree.Blank [] [] blank_tree end))

many_tree : (k l : ℕ) (t u : Tree) → Same t u → Same (many_times k t) (many_times l u)
many_tree k l t u h =
    choice_tree (where_so (has_steps t) (tree.Step k) ++ where_so (has_blank t) tree.Blank) (where_so (has_steps u) (tree.Step l) ++ where_so (has_blank u) tree.Blank)
    (each_append (where_so (has_steps t) (tree.Step k)) (where_so (has_blank t) tree.Blank) (where_so (has_steps u) (tree.Step l)) (where_so (has_blank u) tree.Blank)
    (where_same (has_steps t) (has_steps u) (tree.Step k) (tree.Step l) (steps_same t u h) (step_tree k l))
    (where_same (has_blank t) (has_blank u) tree.Blank tree.Blank (blank_same t u h) blank_tree))

-- ---- rule trees

abbrev IsSame : Rule → Type 0
IsSame t = (n m : Numbers) → Same (tree_of n t) (tree_of m t)

abbrev Child : Type 0
Child = Such the_family (claims IsSame) member-Rule

abbrev inner : Child → Rule
inner child = child.0

same_of : (e : Child) (n m : Numbers) → Same (tree_of n (inner e)) (tree_of m (inner e))
same_of e = let k : IsSame e.0 = e.1 in k

abbrev numbered : Numbers → Rule → Numbered
numbered o r = (r, tree_of o r)

module _ (n m : Numbers) where
  all_same : (es : List Child) → Each Same (inner_trees (map (numbered n) (map inner es))) (inner_trees (map (numbered m) (map inner es)))
  all_same [] = end
  all_same (e ∷ es) = both (tree_of n (inner e)) (tree_of m (inner e)) (inner_trees (map (numbered n) (map inner es))) (inner_trees (map (numbered m) (map inner es))) (same_of e n m) (all_same es)

  layer_same : (y : Rule-F Child) → Same (tree_step n (map-Rule Rule Numbered (numbered n) (map-Rule Child Rule inner y))) (tree_step m (map-Rule Rule Numbered (numbered m) (map-Rule Child Rule inner y)))
  layer_same Rule-F.Blank = blank_tree
  layer_same (Rule-F.Literal text) = step_tree (n.token (rule.Literal text)) (m.token (rule.Literal text))
  layer_same (Rule-F.Pattern value ignore_case) = step_tree (n.token (rule.Pattern value ignore_case)) (m.token (rule.Pattern value ignore_case))
  layer_same (Rule-F.Symbol name) = step_tree (n.rule name) (m.rule name)
  layer_same (Rule-F.Seq es) = seq_tree (inner_trees (map (numbered n) (map inner es))) (inner_trees (map (numbered m) (map inner es))) (all_same es)
  layer_same (Rule-F.Choice es) = choice_tree (inner_trees (map (numbered n) (map inner es))) (inner_trees (map (numbered m) (map inner es))) (all_same es)
  layer_same (Rule-F.Repeat e) = any_tree (n.repetition (inner e)) (m.repetition (inner e)) (tree_of n (inner e)) (tree_of m (inner e)) (same_of e n m)
  layer_same (Rule-F.Repeat1 e) = many_tree (n.repetition (inner e)) (m.repetition (inner e)) (tree_of n (inner e)) (tree_of m (inner e)) (same_of e n m)
  layer_same (Rule-F.Token e) = step_tree (n.token (rule.Token (inner e))) (m.token (rule.Token (inner e)))
  layer_same (Rule-F.ImmediateToken e) = step_tree (n.token (rule.ImmediateToken (inner e))) (m.token (rule.ImmediateToken (inner e)))
  layer_same (Rule-F.Field name e) = field_tree (n.field name) (m.field name) (tree_of n (inner e)) (tree_of m (inner e)) (same_of e n m)
  layer_same (Rule-F.Alias e named value) = alias_tree (n.alias (alias value named)) (m.alias (alias value named)) (tree_of n (inner e)) (tree_of m (inner e)) (same_of e n m)
  layer_same (Rule-F.Prec value e) = group_tree (prec_of n value) (prec_of m value) Assoc.Absent (tree_of n (inner e)) (tree_of m (inner e)) (same_of e n m)
  layer_same (Rule-F.PrecLeft value e) = group_tree (prec_of n value) (prec_of m value) Assoc.Left (tree_of n (inner e)) (tree_of m (inner e)) (same_of e n m)
  layer_same (Rule-F.PrecRight value e) = group_tree (prec_of n value) (prec_of m value) Assoc.Right (tree_of n (inner e)) (tree_of m (inner e)) (same_of e n m)
  layer_same (Rule-F.PrecDynamic value e) = dynamic_tree value (tree_of n (inner e)) (tree_of m (inner e)) (same_of e n m)

  rolled_same : (y : Rule-F Child) → Same (tree_of n (roll-Rule (map-Rule Child Rule inner y))) (tree_of m (roll-Rule (map-Rule Child Rule inner y)))
  rolled_same y =
      let x = map-Rule Child Rule inner y in
      subst (λ (t : Tree). Same t (tree_of m (roll-Rule x))) (sym (para-roll-Rule Tree (tree_step n) x))
      (subst (λ (t : Tree). Same (tree_step n (map-Rule Rule Numbered (numbered n) x)) t) (sym (para-roll-Rule Tree (tree_step m) x)) (layer_same y))

pub tree_same : (t : Rule) (n m : Numbers) → Same (tree_of n t) (tree_of m t)
tree_same t = ind-Rule IsSame (λ x y e. subst (λ (z : Rule-F Rule). IsSame (roll-Rule z)) e (λ n m. rolled_same n m y)) t

-- whether an alternative has steps does not depend on the numbers
pub same_steps : (n m : Numbers) (t : Rule) → has_steps (tree_of n t) ≡ has_steps (tree_of m t)
same_steps n m t = steps_same (tree_of n t) (tree_of m t) (tree_same t n m)
