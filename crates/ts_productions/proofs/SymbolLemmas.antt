-- The symbols in the alternatives of a rule tree by numbers: each is below a bound, or it is that of a
-- rule to which the tree steps.
use Rattle.std.proofs.Common.{◌≡◌, sym, ap, subst, refl, ℕ, ℤ, ◌<◌, ◌⊎◌, inl, inr, ⊎_elim, Bool, true, false, if◌then◌else◌, List, [], ◌∷◌, ◌++◌, map}
use Rattle.std.specs.List.{Contains}
use Rattle.std.proofs.lemmas.List.Elements.{Contains-append_left, Contains-append_right, Contains-append_cases}
use Rattle.ts_base.specs.Bytes.{Bytes}
use Rattle.ts_core.specs.declared.flat.Assoc.{Assoc}
use Rattle.ts_core.specs.declared.flat.Prec.{Prec}
use Rattle.ts_core.specs.declared.rule.Rule.{Rule}
use Rattle.ts_core.specs.declared.rule.Rule.TheBlock.{the_family, member-Rule}
use Rattle.ts_core.specs.declared.rule.Rule.TheFolds.{ind-Rule, map-Rule, claims, para-roll-Rule, fold-roll-Rule}
use Rattle.ts_core.specs.declared.rule.Rule.TheOpen.{Rule-F}
use Rattle.ts_core.specs.declared.rule.Rule.TheVariants as rule
use Rattle.ts_core.specs.declared.rule.Rule.TheViews.{roll-Rule, out-Rule, out-roll-Rule}
use Rattle.ts_rules.specs.declared.tree.Alternative.{Alternative}
use Rattle.ts_rules.specs.declared.tree.Around.{Around}
use Rattle.ts_rules.specs.declared.tree.NumberedStep.{NumberedStep}
use Rattle.ts_rules.specs.declared.tree.Tree.{Tree}
use Rattle.ts_rules.specs.declared.tree.Tree.TheVariants as tree
use Rattle.ts_rules.specs.Alternatives.{Alternatives, alternatives_of, blank, single, step_at, followed, joins, sequence, choice_of, alternatives_each, in_field, in_alias, in_dynamic, in_group, in_sequence, is_last, left, left_by, last_left, group}
use Rattle.ts_rules.specs.Causes.{uses, uses_step, merged}
use Rattle.ts_rules.specs.Numbers.{Numbers, Numbered, inner_trees, tree_of, tree_step, has_blank, has_steps, where_so, any_times, many_times, prec_of}
use Rattle.ts_rules.specs.Sights.{Sight, SeenBelow, seen_all, below, below_step, sights, alias}
use Rattle.ts_productions.proofs.MemberLemmas.{none_in, head_in, tail_in, member_cases}
use Rattle.ts_productions.proofs.TreeLemmas.{alternatives_blank, alternatives_step, alternatives_field, alternatives_alias, alternatives_group, alternatives_dynamic, alternatives_seq, alternatives_choice}
use denote.Hole.Holds.{Such}

-- each symbol of the alternatives has the property
abbrev pub Only : (ℕ → Type 0) → Alternatives → Type 0
Only P xs = (p : Alternative) (s : NumberedStep) → Contains xs p → Contains p.steps s → P s.symbol

abbrev pub TreeOnly : (ℕ → Type 0) → Tree → Type 0
TreeOnly P t = (a : Around) → Only P (alternatives_of t a)

only_wider : (P Q : ℕ → Type 0) → ((k : ℕ) → P k → Q k) → (t : Tree) → TreeOnly P t → TreeOnly Q t
only_wider P Q wider t h a p s w v = wider s.symbol (h a p s w v)

module _ (P : ℕ → Type 0) where
  only_append : (xs ys : Alternatives) → Only P xs → Only P ys → Only P (xs ++ ys)
  only_append xs ys h k p s w v = ⊎_elim (λ u. h p s u v) (λ u. k p s u v) (Contains-append_cases xs ys p w)

  only_followed : (x : Alternative) (ys : Alternatives) → ((s : NumberedStep) → Contains x.steps s → P s.symbol) → Only P ys → Only P (map (λ y. followed x y) ys)
  only_followed x [] h k p s w v = absurd (none_in p w)
  only_followed x (y ∷ ys) h k p s w v = ⊎_elim
      (λ e. ⊎_elim (λ u. h s u) (λ u. k y s (head_in y ys) u) (Contains-append_cases x.steps y.steps s (subst (λ (q : Alternative). Contains q.steps s) e v)))
      (λ u. only_followed x ys h (λ q t a b. k q t (tail_in y q ys a) b) p s u v)
      (member_cases (followed x y) p (map (λ z. followed x z) ys) w)

  only_joins : (xs ys : Alternatives) → Only P xs → Only P ys → Only P (joins xs ys)
  only_joins [] ys h k = λ p s w v. absurd (none_in p w)
  only_joins (x ∷ xs) ys h k = only_append (map (λ y. followed x y) ys) (joins xs ys)
      (only_followed x ys (λ s v. h x s (head_in x xs) v) k) (only_joins xs ys (λ q t a b. h q t (tail_in x q xs a) b) k)

  only_blank : Only P (blank ∷ [])
  only_blank p s w v = ⊎_elim (λ e. absurd (none_in s (subst (λ (q : Alternative). Contains q.steps s) e v))) (λ u. absurd (none_in p u)) (member_cases blank p [] w)

  only_single : (k : ℕ) (a : Around) → P k → Only P (single k a ∷ [])
  only_single k a h p s w v = ⊎_elim
      (λ e. ⊎_elim
      (λ f. subst P (sym (ap (λ (t : NumberedStep). t.symbol) f)) h)
      (λ u. absurd (none_in s u))
      (member_cases (step_at k a) s [] (subst (λ (q : Alternative). Contains q.steps s) e v)))
      (λ u. absurd (none_in p u))
      (member_cases (single k a) p [] w)

  last_left_in : (a : Around) (steps : List NumberedStep) (s : NumberedStep) → Contains (last_left a steps) s → (r : NumberedStep) × Contains steps r × (s.symbol ≡ r.symbol)
  last_left_in a [] s w = absurd (none_in s w)
  last_left_in a (x ∷ []) s w = ⊎_elim
      (λ e. (x, head_in x [], ap (λ (t : NumberedStep). t.symbol) e))
      (λ u. absurd (none_in s u))
      (member_cases (left_by a x) s [] w)
  last_left_in a (x ∷ y ∷ ys) s w = ⊎_elim
      (λ e. (x, head_in x (y ∷ ys), ap (λ (t : NumberedStep). t.symbol) e))
      (λ u. let r = last_left_in a (y ∷ ys) s u in (r.0, tail_in x r.0 (y ∷ ys) r.1, r.2))
      (member_cases x s (last_left a (y ∷ ys)) w)

  only_left : (a : Around) (xs : Alternatives) → Only P xs → Only P (map (left a) xs)
  only_left a [] h p s w v = absurd (none_in p w)
  only_left a (x ∷ xs) h p s w v = ⊎_elim
      (λ e. let r = last_left_in a x.steps s (subst (λ (q : Alternative). Contains q.steps s) e v) in subst P (sym r.2) (h x r.0 (head_in x xs) r.1))
      (λ u. only_left a xs (λ q t b c. h q t (tail_in x q xs b) c) p s u v)
      (member_cases (left a x) p (map (left a) xs) w)

  only_group : (a : Around) (xs : Alternatives) → Only P xs → Only P (group a xs)
  only_group a xs h = by a.at_end
    where
      by : (b : Bool) → Only P (if b then xs else map (left a) xs)
      by true = h
      by false = only_left a xs h

  -- ---- trees

  blank_only : TreeOnly P tree.Blank
  blank_only a = subst (Only P) (sym (alternatives_blank a)) only_blank

  step_only : (k : ℕ) → P k → TreeOnly P (tree.Step k)
  step_only k h a = subst (Only P) (sym (alternatives_step k a)) (only_single k a h)

  field_only : (f : ℕ) (t : Tree) → TreeOnly P t → TreeOnly P (tree.Field f t)
  field_only f t h a = subst (Only P) (sym (alternatives_field f t a)) (h (in_field f a))

  alias_only : (k : ℕ) (t : Tree) → TreeOnly P t → TreeOnly P (tree.Alias k t)
  alias_only k t h a = subst (Only P) (sym (alternatives_alias k t a)) (h (in_alias k a))

  dynamic_only : (value : ℤ) (t : Tree) → TreeOnly P t → TreeOnly P (tree.Dynamic value t)
  dynamic_only value t h a = subst (Only P) (sym (alternatives_dynamic value t a)) (h (in_dynamic value a))

  group_only : (q : Prec) (assoc : Assoc) (t : Tree) → TreeOnly P t → TreeOnly P (tree.Group q assoc t)
  group_only q assoc t h a = subst (Only P) (sym (alternatives_group q assoc t a)) (only_group a (alternatives_of t (in_group q assoc a)) (h (in_group q assoc a)))

  abbrev AllOnly : List Tree → Type 0
  AllOnly ts = (t : Tree) → Contains ts t → TreeOnly P t

  only_members : (ts : List Tree) → AllOnly ts → (a : Around) → Only P (sequence (alternatives_each ts a))
  only_members [] h a = only_blank
  only_members (t ∷ ts) h a = only_joins (alternatives_of t (in_sequence (is_last ts) a)) (sequence (alternatives_each ts a))
      (h t (head_in t ts) (in_sequence (is_last ts) a)) (only_members ts (λ u w. h u (tail_in t u ts w)) a)

  seq_only : (ts : List Tree) → AllOnly ts → TreeOnly P (tree.Seq ts)
  seq_only ts h a = subst (Only P) (sym (alternatives_seq ts a)) (only_members ts h a)

  only_branches : (ts : List Tree) → AllOnly ts → (a : Around) → Only P (choice_of ts a)
  only_branches [] h a = λ p s w v. absurd (none_in p w)
  only_branches (t ∷ ts) h a = only_append (alternatives_of t a) (choice_of ts a) (h t (head_in t ts) a) (only_branches ts (λ u w. h u (tail_in t u ts w)) a)

  choice_only : (ts : List Tree) → AllOnly ts → TreeOnly P (tree.Choice ts)
  choice_only ts h a = subst (Only P) (sym (alternatives_choice ts a)) (only_branches ts h a)

  where_only : (b : Bool) (t : Tree) → (b ≡ true → TreeOnly P t) → AllOnly (where_so b t)
  where_only true t h u w = ⊎_elim (λ e. subst (TreeOnly P) (sym e) (h refl)) (λ none. absurd (none_in u none)) (member_cases t u [] w)
  where_only false t h u w = absurd (none_in u w)

  both_only : (ts us : List Tree) → AllOnly ts → AllOnly us → TreeOnly P (tree.Choice (ts ++ us))
  both_only ts us h k = choice_only (ts ++ us) (λ t w. ⊎_elim (λ u. h t u) (λ u. k t u) (Contains-append_cases ts us t w))

  any_only : (k : ℕ) (t : Tree) → (has_steps t ≡ true → P k) → TreeOnly P (any_times k t)
  any_only k t h = both_only (where_so (has_steps t) (tree.Step k)) (tree.Blank ∷ [])
      (where_only (has_steps t) (tree.Step k) (λ so. step_only k (h so))) (where_only true tree.Blank (λ so. blank_only))

  many_only : (k : ℕ) (t : Tree) → (has_steps t ≡ true → P k) → TreeOnly P (many_times k t)
  many_only k t h = both_only (where_so (has_steps t) (tree.Step k)) (where_so (has_blank t) tree.Blank)
      (where_only (has_steps t) (tree.Step k) (λ so. step_only k (h so))) (where_only (has_blank t) tree.Blank (λ so. blank_only))

-- ---- rule trees

module _ (n : Numbers) (top : ℕ) (Known : Bytes → Type 0) where
  -- what a rule type holds itself is below the bound, or is a known name
  abbrev pub Bounded : Rule-F Rule → Type 0
  Bounded Rule-F.Blank = Unit {0}
  Bounded (Rule-F.Literal text) = n.token (rule.Literal text) < top
  Bounded (Rule-F.Pattern value ignore_case) = n.token (rule.Pattern value ignore_case) < top
  Bounded (Rule-F.Symbol name) = Known name
  Bounded (Rule-F.Seq members) = Unit {0}
  Bounded (Rule-F.Choice members) = Unit {0}
  Bounded (Rule-F.Repeat content) = has_steps (tree_of n content) ≡ true → n.repetition content < top
  Bounded (Rule-F.Repeat1 content) = has_steps (tree_of n content) ≡ true → n.repetition content < top
  Bounded (Rule-F.Token content) = n.token (rule.Token content) < top
  Bounded (Rule-F.ImmediateToken content) = n.token (rule.ImmediateToken content) < top
  Bounded (Rule-F.Field name content) = Unit {0}
  Bounded (Rule-F.Alias content named value) = Unit {0}
  Bounded (Rule-F.Prec value content) = Unit {0}
  Bounded (Rule-F.PrecLeft value content) = Unit {0}
  Bounded (Rule-F.PrecRight value content) = Unit {0}
  Bounded (Rule-F.PrecDynamic value content) = Unit {0}

  abbrev pub BoundedAll : List Sight → Type 0
  BoundedAll all = (s : Sight) → Contains all s → s.inside ≡ false → Bounded (out-Rule s.tree)

  -- the symbol is below the bound, or that of one of the names
  abbrev pub Stands : List Bytes → ℕ → Type 0
  Stands names symbol = (symbol < top) ⊎ ((name : Bytes) × Contains names name × Known name × (symbol ≡ n.rule name))

  stands_wider : (names more : List Bytes) → ((name : Bytes) → Contains names name → Contains more name) → (t : Tree) → TreeOnly (Stands names) t → TreeOnly (Stands more) t
  stands_wider names more wider t h =
      only_wider (Stands names) (Stands more) (λ k stands. ⊎_elim (λ lt. inl lt) (λ w. inr (w.0, wider w.0 w.1, w.2, w.3)) stands) t h

  abbrev IsTold : Rule → Type 0
  IsTold t = BoundedAll (sights t) → TreeOnly (Stands (uses t)) (tree_of n t)

  abbrev Child : Type 0
  Child = Such the_family (claims IsTold) member-Rule

  abbrev inner : Child → Rule
  inner child = child.0

  told_of : (e : Child) → BoundedAll (sights (inner e)) → TreeOnly (Stands (uses (inner e))) (tree_of n (inner e))
  told_of e h = let k : IsTold e.0 = e.1 in k h

  abbrev numbered : Rule → Numbered
  numbered r = (r, tree_of n r)

  abbrev seen_below : Rule → SeenBelow
  seen_below r = (r, below r)

  all_told : (es : List Child) → BoundedAll (seen_all (map seen_below (map inner es)) false)
      → (t : Tree) → Contains (inner_trees (map numbered (map inner es))) t → TreeOnly (Stands (merged (map uses (map inner es)))) t
  all_told [] h t w = absurd (none_in t w)
  all_told (e ∷ es) h t w = ⊎_elim
      (λ is. subst (TreeOnly (Stands (merged (map uses (map inner (e ∷ es)))))) (sym is)
      (stands_wider (uses (inner e)) (merged (map uses (map inner (e ∷ es)))) (λ name u. Contains-append_left (uses (inner e)) (merged (map uses (map inner es))) name u) (tree_of n (inner e))
      (told_of e (λ s v. h s (Contains-append_left (sights (inner e)) (seen_all (map seen_below (map inner es)) false) s v)))))
      (λ later. stands_wider (merged (map uses (map inner es))) (merged (map uses (map inner (e ∷ es)))) (λ name u. Contains-append_right (uses (inner e)) (merged (map uses (map inner es))) name u) t
      (all_told es (λ s v. h s (Contains-append_right (sights (inner e)) (seen_all (map seen_below (map inner es)) false) s v)) t later))
      (member_cases (tree_of n (inner e)) t (inner_trees (map numbered (map inner es))) w)

  abbrev names_in : Rule-F Child → List Bytes
  names_in y = uses_step (map-Rule Rule (List Bytes) uses (map-Rule Child Rule inner y))

  layer_told : (y : Rule-F Child) → Bounded (map-Rule Child Rule inner y) → BoundedAll (below_step (map-Rule Rule SeenBelow seen_below (map-Rule Child Rule inner y)) false)
      → TreeOnly (Stands (names_in y)) (tree_step n (map-Rule Rule Numbered numbered (map-Rule Child Rule inner y)))
  layer_told Rule-F.Blank h k = blank_only (Stands [])
  layer_told (Rule-F.Literal text) h k = step_only (Stands []) (n.token (rule.Literal text)) (inl h)
  layer_told (Rule-F.Pattern value ignore_case) h k = step_only (Stands []) (n.token (rule.Pattern value ignore_case)) (inl h)
  layer_told (Rule-F.Symbol name) h k = step_only (Stands (name ∷ [])) (n.rule name) (inr (name, head_in name [], h, refl))
  layer_told (Rule-F.Seq es) h k = seq_only (Stands (names_in (Rule-F.Seq es))) (inner_trees (map numbered (map inner es))) (all_told es k)
  layer_told (Rule-F.Choice es) h k = choice_only (Stands (names_in (Rule-F.Choice es))) (inner_trees (map numbered (map inner es))) (all_told es k)
  layer_told (Rule-F.Repeat e) h k = any_only (Stands []) (n.repetition (inner e)) (tree_of n (inner e)) (λ so. inl (h so))
  layer_told (Rule-F.Repeat1 e) h k = many_only (Stands []) (n.repetition (inner e)) (tree_of n (inner e)) (λ so. inl (h so))
  layer_told (Rule-F.Token e) h k = step_only (Stands []) (n.token (rule.Token (inner e))) (inl h)
  layer_told (Rule-F.ImmediateToken e) h k = step_only (Stands []) (n.token (rule.ImmediateToken (inner e))) (inl h)
  layer_told (Rule-F.Field name e) h k = field_only (Stands (uses (inner e))) (n.field name) (tree_of n (inner e)) (told_of e k)
  layer_told (Rule-F.Alias e named value) h k = alias_only (Stands (uses (inner e))) (n.alias (alias value named)) (tree_of n (inner e)) (told_of e k)
  layer_told (Rule-F.Prec value e) h k = group_only (Stands (uses (inner e))) (prec_of n value) Assoc.Absent (tree_of n (inner e)) (told_of e k)
  layer_told (Rule-F.PrecLeft value e) h k = group_only (Stands (uses (inner e))) (prec_of n value) Assoc.Left (tree_of n (inner e)) (told_of e k)
  layer_told (Rule-F.PrecRight value e) h k = group_only (Stands (uses (inner e))) (prec_of n value) Assoc.Right (tree_of n (inner e)) (told_of e k)
  layer_told (Rule-F.PrecDynamic value e) h k = dynamic_only (Stands (uses (inner e))) value (tree_of n (inner e)) (told_of e k)

  rolled_told : (y : Rule-F Child) → IsTold (roll-Rule (map-Rule Child Rule inner y))
  rolled_told y h =
      let x = map-Rule Child Rule inner y in
      let seen : sights (roll-Rule x) ≡ record { tree = roll-Rule x; inside = false } ∷ below_step (map-Rule Rule SeenBelow seen_below x) false
      = ap (λ (f : Bool → List Sight). record { tree = roll-Rule x; inside = false } ∷ f false) (para-roll-Rule (Bool → List Sight) below_step x) in
      let top : Sight = record { tree = roll-Rule x; inside = false } in
      let here : Bounded x
      = subst (λ (z : Rule-F Rule). Bounded z) (out-roll-Rule x) (h top (head_in top (below (roll-Rule x) false)) refl) in
      let rest : BoundedAll (below_step (map-Rule Rule SeenBelow seen_below x) false)
      = λ v w. h v (subst (λ (all : List Sight). Contains all v) (sym seen) (tail_in top v (below_step (map-Rule Rule SeenBelow seen_below x) false) w)) in
      subst (λ (names : List Bytes). TreeOnly (Stands names) (tree_of n (roll-Rule x))) (sym (fold-roll-Rule (List Bytes) uses_step x))
      (subst (TreeOnly (Stands (names_in y))) (sym (para-roll-Rule Tree (tree_step n) x)) (layer_told y here rest))

  -- each symbol of the tree's alternatives is below the bound, or that of a rule to which it steps
  pub rule_told : (t : Rule) → BoundedAll (sights t) → TreeOnly (Stands (uses t)) (tree_of n t)
  rule_told t = ind-Rule IsTold (λ x y e. subst (λ (z : Rule-F Rule). IsTold (roll-Rule z)) e (rolled_told y)) t
