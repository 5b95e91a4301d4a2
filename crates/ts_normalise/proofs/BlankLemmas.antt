-- Which alternatives of a rule tree have no step: this does not depend on its numbers.
use Rattle.std.proofs.Common.{◌≡◌, ◌∙◌, sym, ap, subst, refl, ℕ, ℤ, Bool, true, false, not, ◌||◌, if◌then◌else◌, List, [], ◌∷◌, ◌++◌, map}
use Rattle.std.specs.Prelude.{◌&&◌}
use Rattle.std.specs.List.{list_any}
use Rattle.std.proofs.lemmas.List.{map-append}
use Rattle.ts_core.specs.declared.flat.Assoc.{Assoc}
use Rattle.ts_core.specs.declared.flat.Prec.{Prec}
use Rattle.ts_core.specs.declared.rule.Rule.{Rule}
use Rattle.ts_core.specs.declared.rule.Rule.TheBlock.{the_family, member-Rule}
use Rattle.ts_core.specs.declared.rule.Rule.TheFolds.{ind-Rule, map-Rule, claims, para-roll-Rule}
use Rattle.ts_core.specs.declared.rule.Rule.TheOpen.{Rule-F}
use Rattle.ts_core.specs.declared.rule.Rule.TheVariants as rule
use Rattle.ts_core.specs.declared.rule.Rule.TheViews.{roll-Rule}
use Rattle.ts_rules.specs.declared.tree.Alternative.{Alternative}
use Rattle.ts_rules.specs.declared.tree.Around.{Around}
use Rattle.ts_rules.specs.declared.tree.NumberedStep.{NumberedStep}
use Rattle.ts_rules.specs.declared.tree.Tree.{Tree}
use Rattle.ts_rules.specs.declared.tree.Tree.TheVariants as tree
use Rattle.ts_rules.specs.Alternatives.{Alternatives, alternatives_of, followed, joins, sequence, choice_of, alternatives_each, in_field, in_alias, in_dynamic, in_group, in_sequence, is_last, left, last_left, group}
use Rattle.ts_rules.specs.FirstSights.{Each, end, both}
use Rattle.ts_rules.specs.Numbers.{Numbers, Numbered, inner_trees, tree_of, tree_step, outermost, is_blank, has_blank, has_steps, where_so, any_times, many_times, prec_of}
use Rattle.ts_rules.specs.Sights.{alias}
use Rattle.ts_normalise.proofs.TreeLemmas.{at_blank, at_step, at_field, at_alias, at_group, at_dynamic, at_seq, at_choice}
use denote.Hole.Holds.{Such}

abbrev is_empty : Alternative → Bool
is_empty x = is_blank x.steps

-- of each alternative, whether it has no step
abbrev blanks : Alternatives → List Bool
blanks = map is_empty

abbrev Same : Tree → Tree → Type 0
Same t u = (a b : Around) → blanks (alternatives_of t a) ≡ blanks (alternatives_of u b)

-- ---- joins and groups

blank_append : {X : Type 0} (xs ys : List X) → is_blank (xs ++ ys) ≡ (is_blank xs && is_blank ys)
blank_append [] ys = refl
blank_append (x ∷ xs) ys = refl

abbrev blanks_joined : List Bool → List Bool → List Bool
blanks_joined [] cs = []
blanks_joined (b ∷ bs) cs = map (λ c. b && c) cs ++ blanks_joined bs cs

blanks_followed : (x : Alternative) (ys : Alternatives) → blanks (map (λ y. followed x y) ys) ≡ map (λ c. is_empty x && c) (blanks ys)
blanks_followed x [] = refl
blanks_followed x (y ∷ ys) =
    ap (λ (b : Bool). b ∷ blanks (map (λ z. followed x z) ys)) (blank_append x.steps y.steps)
    ∙ ap (λ (bs : List Bool). (is_empty x && is_empty y) ∷ bs) (blanks_followed x ys)

blanks_joins : (xs ys : Alternatives) → blanks (joins xs ys) ≡ blanks_joined (blanks xs) (blanks ys)
blanks_joins [] ys = refl
blanks_joins (x ∷ xs) ys =
    map-append is_empty (map (λ y. followed x y) ys) (joins xs ys)
    ∙ ap (λ (bs : List Bool). bs ++ blanks (joins xs ys)) (blanks_followed x ys)
    ∙ ap (λ (bs : List Bool). map (λ c. is_empty x && c) (blanks ys) ++ bs) (blanks_joins xs ys)

blanks_group : (a : Around) (xs : Alternatives) → blanks (group a xs) ≡ blanks xs
blanks_group a xs = by a.at_end
  where
    last_blank : (ss : List NumberedStep) → is_blank (last_left a ss) ≡ is_blank ss
    last_blank [] = refl
    last_blank (s ∷ []) = refl
    last_blank (s ∷ t ∷ ss) = refl

    blanks_left : (ys : Alternatives) → blanks (map (left a) ys) ≡ blanks ys
    blanks_left [] = refl
    blanks_left (y ∷ ys) =
        ap (λ (b : Bool). b ∷ blanks (map (left a) ys)) (last_blank y.steps) ∙ ap (λ (bs : List Bool). is_empty y ∷ bs) (blanks_left ys)

    by : (b : Bool) → blanks (if b then xs else map (left a) xs) ≡ blanks xs
    by true = refl
    by false = blanks_left xs

-- ---- trees

blank_tree : Same tree.Blank tree.Blank
blank_tree a b = ap blanks (at_blank a) ∙ sym (ap blanks (at_blank b))

step_tree : (k l : ℕ) → Same (tree.Step k) (tree.Step l)
step_tree k l a b = ap blanks (at_step k a) ∙ sym (ap blanks (at_step l b))

field_tree : (f g : ℕ) (t u : Tree) → Same t u → Same (tree.Field f t) (tree.Field g u)
field_tree f g t u h a b = ap blanks (at_field f t a) ∙ h (in_field f a) (in_field g b) ∙ sym (ap blanks (at_field g u b))

alias_tree : (k l : ℕ) (t u : Tree) → Same t u → Same (tree.Alias k t) (tree.Alias l u)
alias_tree k l t u h a b = ap blanks (at_alias k t a) ∙ h (in_alias k a) (in_alias l b) ∙ sym (ap blanks (at_alias l u b))

dynamic_tree : (value : ℤ) (t u : Tree) → Same t u → Same (tree.Dynamic value t) (tree.Dynamic value u)
dynamic_tree value t u h a b = ap blanks (at_dynamic value t a) ∙ h (in_dynamic value a) (in_dynamic value b) ∙ sym (ap blanks (at_dynamic value u b))

group_tree : (p q : Prec) (assoc : Assoc) (t u : Tree) → Same t u → Same (tree.Group p assoc t) (tree.Group q assoc u)
group_tree p q assoc t u h a b =
    ap blanks (at_group p assoc t a) ∙ blanks_group a (alternatives_of t (in_group p assoc a)) ∙ h (in_group p assoc a) (in_group q assoc b)
    ∙ sym (ap blanks (at_group q assoc u b) ∙ blanks_group b (alternatives_of u (in_group q assoc b)))

seq_tree : (ts us : List Tree) → Each Same ts us → Same (tree.Seq ts) (tree.Seq us)
seq_tree ts us all a b = ap blanks (at_seq ts a) ∙ members_same ts us all ∙ sym (ap blanks (at_seq us b))
  where
    members_same : (ts us : List Tree) → Each Same ts us → blanks (sequence (alternatives_each ts a)) ≡ blanks (sequence (alternatives_each us b))
    members_same _ _ end = refl
    members_same _ _ (both t u ts us h rest) =
        let one : Alternatives = alternatives_of t (in_sequence (is_last ts) a) in
        let two : Alternatives = alternatives_of u (in_sequence (is_last us) b) in
        blanks_joins one (sequence (alternatives_each ts a))
        ∙ ap (λ (bs : List Bool). blanks_joined bs (blanks (sequence (alternatives_each ts a)))) (h (in_sequence (is_last ts) a) (in_sequence (is_last us) b))
        ∙ ap (blanks_joined (blanks two)) (members_same ts us rest)
        ∙ sym (blanks_joins two (sequence (alternatives_each us b)))

choice_tree : (ts us : List Tree) → Each Same ts us → Same (tree.Choice ts) (tree.Choice us)
choice_tree ts us all a b = ap blanks (at_choice ts a) ∙ branches_same ts us all ∙ sym (ap blanks (at_choice us b))
  where
    branches_same : (ts us : List Tree) → Each Same ts us → blanks (choice_of ts a) ≡ blanks (choice_of us b)
    branches_same _ _ end = refl
    branches_same _ _ (both t u ts us h rest) =
        map-append is_empty (alternatives_of t a) (choice_of ts a)
        ∙ ap (λ (bs : List Bool). bs ++ blanks (choice_of ts a)) (h a b)
        ∙ ap (λ (bs : List Bool). blanks (alternatives_of u b) ++ bs) (branches_same ts us rest)
        ∙ sym (map-append is_empty (alternatives_of u b) (choice_of us b))

-- ---- repetitions

any_blanks : (f : Bool → Bool) (xs : Alternatives) → list_any (λ (x : Alternative). f (is_blank x.steps)) xs ≡ list_any f (blanks xs)
any_blanks f [] = refl
any_blanks f (x ∷ xs) = ap (λ (b : Bool). f (is_empty x) || b) (any_blanks f xs)

any_same : (f : Bool → Bool) (t u : Tree) → Same t u
    → list_any (λ (x : Alternative). f (is_blank x.steps)) (alternatives_of t outermost) ≡ list_any (λ (x : Alternative). f (is_blank x.steps)) (alternatives_of u outermost)
any_same f t u h = any_blanks f (alternatives_of t outermost) ∙ ap (list_any f) (h outermost outermost) ∙ sym (any_blanks f (alternatives_of u outermost))

steps_same : (t u : Tree) → Same t u → has_steps t ≡ has_steps u
steps_same t u h = any_same not t u h

blank_same : (t u : Tree) → Same t u → has_blank t ≡ has_blank u
blank_same t u h = any_same (λ (b : Bool). b) t u h

each_append : (ts us vs ws : List Tree) → Each Same ts us → Each Same vs ws → Each Same (ts ++ vs) (us ++ ws)
each_append _ _ vs ws end more = more
each_append _ _ vs ws (both t u ts us h rest) more = both t u (ts ++ vs) (us ++ ws) h (each_append ts us vs ws rest more)

where_same : (c d : Bool) (t u : Tree) → c ≡ d → Same t u → Each Same (where_so c t) (where_so d u)
where_same c d t u e h = subst (λ (z : Bool). Each Same (where_so c t) (where_so z u)) e (by c)
  where
    by : (z : Bool) → Each Same (where_so z t) (where_so z u)
    by true = both t u [] [] h end
    by false = end

any_tree : (k l : ℕ) (t u : Tree) → Same t u → Same (any_times k t) (any_times l u)
any_tree k l t u h =
    let some : Each Same (where_so (has_steps t) (tree.Step k)) (where_so (has_steps u) (tree.Step l))
    = where_same (has_steps t) (has_steps u) (tree.Step k) (tree.Step l) (steps_same t u h) (step_tree k l) in
    choice_tree (where_so (has_steps t) (tree.Step k) ++ tree.Blank ∷ []) (where_so (has_steps u) (tree.Step l) ++ tree.Blank ∷ [])
    (each_append (where_so (has_steps t) (tree.Step k)) (where_so (has_steps u) (tree.Step l)) (tree.Blank ∷ []) (tree.Blank ∷ []) some (both tree.Blank tree.Blank [] [] blank_tree end))

many_tree : (k l : ℕ) (t u : Tree) → Same t u → Same (many_times k t) (many_times l u)
many_tree k l t u h =
    let some : Each Same (where_so (has_steps t) (tree.Step k)) (where_so (has_steps u) (tree.Step l))
    = where_same (has_steps t) (has_steps u) (tree.Step k) (tree.Step l) (steps_same t u h) (step_tree k l) in
    choice_tree (where_so (has_steps t) (tree.Step k) ++ where_so (has_blank t) tree.Blank) (where_so (has_steps u) (tree.Step l) ++ where_so (has_blank u) tree.Blank)
    (each_append (where_so (has_steps t) (tree.Step k)) (where_so (has_steps u) (tree.Step l)) (where_so (has_blank t) tree.Blank) (where_so (has_blank u) tree.Blank)
    some (where_same (has_blank t) (has_blank u) tree.Blank tree.Blank (blank_same t u h) blank_tree))

-- ---- rule trees

module _ (n m : Numbers) where
  abbrev IsSame : Rule → Type 0
  IsSame t = Same (tree_of n t) (tree_of m t)

  abbrev Child : Type 0
  Child = Such the_family (claims IsSame) member-Rule

  abbrev inner : Child → Rule
  inner child = child.0

  same : (e : Child) → Same (tree_of n (inner e)) (tree_of m (inner e))
  same e = let k : IsSame e.0 = e.1 in k

  abbrev numbered : Numbers → Rule → Numbered
  numbered o r = (r, tree_of o r)

  all_same : (es : List Child) → Each Same (inner_trees (map (numbered n) (map inner es))) (inner_trees (map (numbered m) (map inner es)))
  all_same [] = end
  all_same (e ∷ es) =
      both (tree_of n (inner e)) (tree_of m (inner e)) (inner_trees (map (numbered n) (map inner es))) (inner_trees (map (numbered m) (map inner es))) (same e) (all_same es)

  layer_same : (y : Rule-F Child) → Same (tree_step n (map-Rule Rule Numbered (numbered n) (map-Rule Child Rule inner y))) (tree_step m (map-Rule Rule Numbered (numbered m) (map-Rule Child Rule inner y)))
  layer_same Rule-F.Blank = blank_tree
  layer_same (Rule-F.Literal text) = step_tree (n.token (rule.Literal text)) (m.token (rule.Literal text))
  layer_same (Rule-F.Pattern value ignore_case) = step_tree (n.token (rule.Pattern value ignore_case)) (m.token (rule.Pattern value ignore_case))
  layer_same (Rule-F.Symbol name) = step_tree (n.rule name) (m.rule name)
  layer_same (Rule-F.Seq es) = seq_tree (inner_trees (map (numbered n) (map inner es))) (inner_trees (map (numbered m) (map inner es))) (all_same es)
  layer_same (Rule-F.Choice es) = choice_tree (inner_trees (map (numbered n) (map inner es))) (inner_trees (map (numbered m) (map inner es))) (all_same es)
  layer_same (Rule-F.Repeat e) = any_tree (n.repetition (inner e)) (m.repetition (inner e)) (tree_of n (inner e)) (tree_of m (inner e)) (same e)
  layer_same (Rule-F.Repeat1 e) = many_tree (n.repetition (inner e)) (m.repetition (inner e)) (tree_of n (inner e)) (tree_of m (inner e)) (same e)
  layer_same (Rule-F.Token e) = step_tree (n.token (rule.Token (inner e))) (m.token (rule.Token (inner e)))
  layer_same (Rule-F.ImmediateToken e) = step_tree (n.token (rule.ImmediateToken (inner e))) (m.token (rule.ImmediateToken (inner e)))
  layer_same (Rule-F.Field name e) = field_tree (n.field name) (m.field name) (tree_of n (inner e)) (tree_of m (inner e)) (same e)
  layer_same (Rule-F.Alias e named value) = alias_tree (n.alias (alias value named)) (m.alias (alias value named)) (tree_of n (inner e)) (tree_of m (inner e)) (same e)
  layer_same (Rule-F.Prec value e) = group_tree (prec_of n value) (prec_of m value) Assoc.Absent (tree_of n (inner e)) (tree_of m (inner e)) (same e)
  layer_same (Rule-F.PrecLeft value e) = group_tree (prec_of n value) (prec_of m value) Assoc.Left (tree_of n (inner e)) (tree_of m (inner e)) (same e)
  layer_same (Rule-F.PrecRight value e) = group_tree (prec_of n value) (prec_of m value) Assoc.Right (tree_of n (inner e)) (tree_of m (inner e)) (same e)
  layer_same (Rule-F.PrecDynamic value e) = dynamic_tree value (tree_of n (inner e)) (tree_of m (inner e)) (same e)

  rolled_same : (y : Rule-F Child) → IsSame (roll-Rule (map-Rule Child Rule inner y))
  rolled_same y =
      let x = map-Rule Child Rule inner y in
      subst (λ (t : Tree). Same t (tree_of m (roll-Rule x))) (sym (para-roll-Rule Tree (tree_step n) x))
      (subst (λ (t : Tree). Same (tree_step n (map-Rule Rule Numbered (numbered n) x)) t) (sym (para-roll-Rule Tree (tree_step m) x)) (layer_same y))

  -- whether some alternative has a step does not depend on the numbers
  pub same_steps : (t : Rule) → has_steps (tree_of n t) ≡ has_steps (tree_of m t)
  same_steps t = steps_same (tree_of n t) (tree_of m t) (ind-Rule IsSame (λ x y e. subst (λ (z : Rule-F Rule). IsSame (roll-Rule z)) e (rolled_same y)) t)
