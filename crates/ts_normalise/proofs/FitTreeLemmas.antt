-- The steps in the alternatives of a rule tree by numbers: each has a symbol in range, and its marks
-- name what is there.
use Rattle.std.proofs.Common.{◌≡◌, sym, ap, subst, refl, ℕ, ℤ, ◌<◌, ⊎_elim, Bool, true, false, if◌then◌else◌, List, [], ◌∷◌, ◌++◌, map, length, Option}
use Rattle.std.specs.List.{Contains}
use Rattle.std.proofs.lemmas.List.Elements.{Contains-append_left, Contains-append_right, Contains-append_cases}
use Rattle.ts_core.specs.declared.flat.Assoc.{Assoc}
use Rattle.ts_core.specs.declared.flat.FlatGrammar.{FlatGrammar}
use Rattle.ts_core.specs.declared.flat.Prec.{Prec}
use Rattle.ts_core.specs.declared.rule.Rule.{Rule}
use Rattle.ts_core.specs.declared.rule.Rule.TheBlock.{the_family, member-Rule}
use Rattle.ts_core.specs.declared.rule.Rule.TheFolds.{ind-Rule, map-Rule, claims, para-roll-Rule}
use Rattle.ts_core.specs.declared.rule.Rule.TheOpen.{Rule-F}
use Rattle.ts_core.specs.declared.rule.Rule.TheVariants as rule
use Rattle.ts_core.specs.declared.rule.Rule.TheViews.{roll-Rule, out-Rule, out-roll-Rule}
use Rattle.spec_tables.specs.Fit.{IfThere, IsPrec, IsShort}
use Rattle.ts_rules.specs.declared.tree.Alternative.{Alternative}
use Rattle.ts_rules.specs.declared.tree.Around.{Around}
use Rattle.ts_rules.specs.declared.tree.NumberedStep.{NumberedStep}
use Rattle.ts_rules.specs.declared.tree.Tree.{Tree}
use Rattle.ts_rules.specs.declared.tree.Tree.TheVariants as tree
use Rattle.ts_rules.specs.Alternatives.{Alternatives, alternatives_of, blank, single, step_at, followed, joins, sequence, choice_of, alternatives_each, in_field, in_alias, in_dynamic, in_group, in_sequence, is_last, left, left_by, last_left, group}
use Rattle.ts_rules.specs.Numbers.{Numbers, Numbered, inner_trees, tree_of, tree_step, has_blank, has_steps, where_so, any_times, many_times, prec_of, outermost, alts}
use Rattle.ts_rules.specs.Sights.{Sight, SeenBelow, seen_all, below, below_step, sights, alias}
use Rattle.ts_normalise.proofs.ListLemmas.{none_in, head_in, tail_in, member_cases}
use Rattle.ts_normalise.proofs.TreeLemmas.{at_blank, at_step, at_field, at_alias, at_group, at_dynamic, at_seq, at_choice}
use denote.Hole.Holds.{Such}

module _ (n : Numbers) (f : FlatGrammar) (top : ℕ) where
  -- a symbol of a step that is not the end
  abbrev pub InRange : ℕ → Type 0
  InRange k = (0 < k) × (k < top)

  abbrev pub HasField : Option ℕ → Type 0
  HasField field = IfThere (λ (k : ℕ). k < length f.fields) field

  abbrev pub HasAlias : Option ℕ → Type 0
  HasAlias a = IfThere (λ (k : ℕ). IsShort (n.alias_at k).name) a

  pub record IsSound (s : NumberedStep) : Type 0 where
    pub symbol : InRange s.symbol
    pub prec : IsPrec f s.prec
    pub field : HasField s.field
    pub alias : HasAlias s.alias

  pub record IsRound (a : Around) : Type 0 where
    pub prec : IsPrec f a.prec
    pub field : HasField a.field
    pub alias : HasAlias a.alias

  abbrev pub AreSound : Alternatives → Type 0
  AreSound xs = (p : Alternative) (s : NumberedStep) → Contains xs p → Contains p.steps s → IsSound s

  abbrev pub IsSoundTree : Tree → Type 0
  IsSoundTree t = (a : Around) → IsRound a → AreSound (alternatives_of t a)

  -- ---- lists of alternatives

  pub sound_append : (xs ys : Alternatives) → AreSound xs → AreSound ys → AreSound (xs ++ ys)
  sound_append xs ys h k p s w v = ⊎_elim (λ u. h p s u v) (λ u. k p s u v) (Contains-append_cases xs ys p w)

  sound_followed : (x : Alternative) (ys : Alternatives) → ((s : NumberedStep) → Contains x.steps s → IsSound s) → AreSound ys → AreSound (map (λ y. followed x y) ys)
  sound_followed x [] h k p s w v = absurd (none_in p w)
  sound_followed x (y ∷ ys) h k p s w v = ⊎_elim
      (λ e. ⊎_elim (λ u. h s u) (λ u. k y s (head_in y ys) u) (Contains-append_cases x.steps y.steps s (subst (λ (q : Alternative). Contains q.steps s) e v)))
      (λ u. sound_followed x ys h (λ q t a b. k q t (tail_in y q ys a) b) p s u v)
      (member_cases (followed x y) p (map (λ z. followed x z) ys) w)

  sound_joins : (xs ys : Alternatives) → AreSound xs → AreSound ys → AreSound (joins xs ys)
  sound_joins [] ys h k = λ p s w v. absurd (none_in p w)
  sound_joins (x ∷ xs) ys h k = sound_append (map (λ y. followed x y) ys) (joins xs ys)
      (sound_followed x ys (λ s v. h x s (head_in x xs) v) k) (sound_joins xs ys (λ q t a b. h q t (tail_in x q xs a) b) k)

  sound_blank : AreSound (blank ∷ [])
  sound_blank p s w v = ⊎_elim (λ e. absurd (none_in s (subst (λ (q : Alternative). Contains q.steps s) e v))) (λ u. absurd (none_in p u)) (member_cases blank p [] w)

  sound_step : (k : ℕ) (a : Around) → InRange k → IsRound a → IsSound (step_at k a)
  sound_step k a h r = record { symbol = h; prec = r.prec; field = r.field; alias = r.alias }

  sound_single : (k : ℕ) (a : Around) → InRange k → IsRound a → AreSound (single k a ∷ [])
  sound_single k a h r p s w v = ⊎_elim
      (λ e. ⊎_elim
      (λ i. subst IsSound (sym i) (sound_step k a h r))
      (λ u. absurd (none_in s u))
      (member_cases (step_at k a) s [] (subst (λ (q : Alternative). Contains q.steps s) e v)))
      (λ u. absurd (none_in p u))
      (member_cases (single k a) p [] w)

  left_sound : (a : Around) (steps : List NumberedStep) → IsRound a → ((s : NumberedStep) → Contains steps s → IsSound s) → (s : NumberedStep) → Contains (last_left a steps) s → IsSound s
  left_sound a [] r h s w = absurd (none_in s w)
  left_sound a (x ∷ []) r h s w = ⊎_elim
      (λ e. subst IsSound (sym e) (let k = h x (head_in x []) in record { symbol = k.symbol; prec = r.prec; field = k.field; alias = k.alias }))
      (λ u. absurd (none_in s u))
      (member_cases (left_by a x) s [] w)
  left_sound a (x ∷ y ∷ ys) r h s w = ⊎_elim
      (λ e. subst IsSound (sym e) (h x (head_in x (y ∷ ys))))
      (λ u. left_sound a (y ∷ ys) r (λ t v. h t (tail_in x t (y ∷ ys) v)) s u)
      (member_cases x s (last_left a (y ∷ ys)) w)

  sound_left : (a : Around) (xs : Alternatives) → IsRound a → AreSound xs → AreSound (map (left a) xs)
  sound_left a [] r h p s w v = absurd (none_in p w)
  sound_left a (x ∷ xs) r h p s w v = ⊎_elim
      (λ e. left_sound a x.steps r (λ t u. h x t (head_in x xs) u) s (subst (λ (q : Alternative). Contains q.steps s) e v))
      (λ u. sound_left a xs r (λ q t b c. h q t (tail_in x q xs b) c) p s u v)
      (member_cases (left a x) p (map (left a) xs) w)

  sound_group : (a : Around) (xs : Alternatives) → IsRound a → AreSound xs → AreSound (group a xs)
  sound_group a xs r h = by a.at_end
    where
      by : (b : Bool) → AreSound (if b then xs else map (left a) xs)
      by true = h
      by false = sound_left a xs r h

  -- ---- trees

  blank_sound : IsSoundTree tree.Blank
  blank_sound a r = subst AreSound (sym (at_blank a)) sound_blank

  step_sound : (k : ℕ) → InRange k → IsSoundTree (tree.Step k)
  step_sound k h a r = subst AreSound (sym (at_step k a)) (sound_single k a h r)

  field_sound : (k : ℕ) (t : Tree) → k < length f.fields → IsSoundTree t → IsSoundTree (tree.Field k t)
  field_sound k t lt h a r = subst AreSound (sym (at_field k t a)) (h (in_field k a) (record { prec = r.prec; field = lt; alias = r.alias }))

  alias_sound : (k : ℕ) (t : Tree) → IsShort (n.alias_at k).name → IsSoundTree t → IsSoundTree (tree.Alias k t)
  alias_sound k t short h a r = subst AreSound (sym (at_alias k t a)) (h (in_alias k a) (record { prec = r.prec; field = r.field; alias = short }))

  dynamic_sound : (value : ℤ) (t : Tree) → IsSoundTree t → IsSoundTree (tree.Dynamic value t)
  dynamic_sound value t h a r = subst AreSound (sym (at_dynamic value t a)) (h (in_dynamic value a) (record { prec = r.prec; field = r.field; alias = r.alias }))

  group_sound : (q : Prec) (assoc : Assoc) (t : Tree) → IsPrec f q → IsSoundTree t → IsSoundTree (tree.Group q assoc t)
  group_sound q assoc t k h a r = subst AreSound (sym (at_group q assoc t a))
      (sound_group a (alternatives_of t (in_group q assoc a)) r (h (in_group q assoc a) (record { prec = k; field = r.field; alias = r.alias })))

  abbrev AllSound : List Tree → Type 0
  AllSound ts = (t : Tree) → Contains ts t → IsSoundTree t

  in_turn : (last : Bool) (a : Around) → IsRound a → IsRound (in_sequence last a)
  in_turn last a r = record { prec = r.prec; field = r.field; alias = r.alias }

  members_sound : (ts : List Tree) → AllSound ts → (a : Around) → IsRound a → AreSound (sequence (alternatives_each ts a))
  members_sound [] h a r = sound_blank
  members_sound (t ∷ ts) h a r = sound_joins (alternatives_of t (in_sequence (is_last ts) a)) (sequence (alternatives_each ts a))
      (h t (head_in t ts) (in_sequence (is_last ts) a) (in_turn (is_last ts) a r)) (members_sound ts (λ u w. h u (tail_in t u ts w)) a r)

  seq_sound : (ts : List Tree) → AllSound ts → IsSoundTree (tree.Seq ts)
  seq_sound ts h a r = subst AreSound (sym (at_seq ts a)) (members_sound ts h a r)

  branches_sound : (ts : List Tree) → AllSound ts → (a : Around) → IsRound a → AreSound (choice_of ts a)
  branches_sound [] h a r = λ p s w v. absurd (none_in p w)
  branches_sound (t ∷ ts) h a r = sound_append (alternatives_of t a) (choice_of ts a) (h t (head_in t ts) a r) (branches_sound ts (λ u w. h u (tail_in t u ts w)) a r)

  choice_sound : (ts : List Tree) → AllSound ts → IsSoundTree (tree.Choice ts)
  choice_sound ts h a r = subst AreSound (sym (at_choice ts a)) (branches_sound ts h a r)

  where_sound : (b : Bool) (t : Tree) → (b ≡ true → IsSoundTree t) → AllSound (where_so b t)
  where_sound true t h u w = ⊎_elim (λ e. subst IsSoundTree (sym e) (h refl)) (λ none. absurd (none_in u none)) (member_cases t u [] w)
  where_sound false t h u w = absurd (none_in u w)

  both_sound : (ts us : List Tree) → AllSound ts → AllSound us → IsSoundTree (tree.Choice (ts ++ us))
  both_sound ts us h k = choice_sound (ts ++ us) (λ t w. ⊎_elim (λ u. h t u) (λ u. k t u) (Contains-append_cases ts us t w))

  any_sound : (k : ℕ) (t : Tree) → (has_steps t ≡ true → InRange k) → IsSoundTree (any_times k t)
  any_sound k t h = both_sound (where_so (has_steps t) (tree.Step k)) (tree.Blank ∷ [])
      (where_sound (has_steps t) (tree.Step k) (λ so. step_sound k (h so))) (where_sound true tree.Blank (λ so. blank_sound))

  many_sound : (k : ℕ) (t : Tree) → (has_steps t ≡ true → InRange k) → IsSoundTree (many_times k t)
  many_sound k t h = both_sound (where_so (has_steps t) (tree.Step k)) (where_so (has_blank t) tree.Blank)
      (where_sound (has_steps t) (tree.Step k) (λ so. step_sound k (h so))) (where_sound (has_blank t) tree.Blank (λ so. blank_sound))

  -- ---- rule trees

  -- what a rule type holds itself is in range
  abbrev pub IsBounded : Rule-F Rule → Type 0
  IsBounded Rule-F.Blank = Unit {0}
  IsBounded (Rule-F.Literal text) = InRange (n.token (rule.Literal text))
  IsBounded (Rule-F.Pattern value ignore_case) = InRange (n.token (rule.Pattern value ignore_case))
  IsBounded (Rule-F.Symbol name) = InRange (n.rule name)
  IsBounded (Rule-F.Seq members) = Unit {0}
  IsBounded (Rule-F.Choice members) = Unit {0}
  IsBounded (Rule-F.Repeat content) = has_steps (tree_of n content) ≡ true → InRange (n.repetition content)
  IsBounded (Rule-F.Repeat1 content) = has_steps (tree_of n content) ≡ true → InRange (n.repetition content)
  IsBounded (Rule-F.Token content) = InRange (n.token (rule.Token content))
  IsBounded (Rule-F.ImmediateToken content) = InRange (n.token (rule.ImmediateToken content))
  IsBounded (Rule-F.Field name content) = n.field name < length f.fields
  IsBounded (Rule-F.Alias content named value) = IsShort (n.alias_at (n.alias (alias value named))).name
  IsBounded (Rule-F.Prec value content) = IsPrec f (prec_of n value)
  IsBounded (Rule-F.PrecLeft value content) = IsPrec f (prec_of n value)
  IsBounded (Rule-F.PrecRight value content) = IsPrec f (prec_of n value)
  IsBounded (Rule-F.PrecDynamic value content) = Unit {0}

  abbrev pub AreBounded : List Sight → Type 0
  AreBounded all = (s : Sight) → Contains all s → s.inside ≡ false → IsBounded (out-Rule s.tree)

  abbrev IsTold : Rule → Type 0
  IsTold t = AreBounded (sights t) → IsSoundTree (tree_of n t)

  abbrev Child : Type 0
  Child = Such the_family (claims IsTold) member-Rule

  abbrev inner : Child → Rule
  inner child = child.0

  told_of : (e : Child) → AreBounded (sights (inner e)) → IsSoundTree (tree_of n (inner e))
  told_of e h = let k : IsTold e.0 = e.1 in k h

  abbrev numbered : Rule → Numbered
  numbered r = (r, tree_of n r)

  abbrev seen_below : Rule → SeenBelow
  seen_below r = (r, below r)

  all_told : (es : List Child) → AreBounded (seen_all (map seen_below (map inner es)) false) → AllSound (inner_trees (map numbered (map inner es)))
  all_told [] h t w = absurd (none_in t w)
  all_told (e ∷ es) h t w = ⊎_elim
      (λ is. subst IsSoundTree (sym is) (told_of e (λ s v. h s (Contains-append_left (sights (inner e)) (seen_all (map seen_below (map inner es)) false) s v))))
      (λ later. all_told es (λ s v. h s (Contains-append_right (sights (inner e)) (seen_all (map seen_below (map inner es)) false) s v)) t later)
      (member_cases (tree_of n (inner e)) t (inner_trees (map numbered (map inner es))) w)

  layer_told : (y : Rule-F Child) → IsBounded (map-Rule Child Rule inner y) → AreBounded (below_step (map-Rule Rule SeenBelow seen_below (map-Rule Child Rule inner y)) false)
      → IsSoundTree (tree_step n (map-Rule Rule Numbered numbered (map-Rule Child Rule inner y)))
  layer_told Rule-F.Blank h k = blank_sound
  layer_told (Rule-F.Literal text) h k = step_sound (n.token (rule.Literal text)) h
  layer_told (Rule-F.Pattern value ignore_case) h k = step_sound (n.token (rule.Pattern value ignore_case)) h
  layer_told (Rule-F.Symbol name) h k = step_sound (n.rule name) h
  layer_told (Rule-F.Seq es) h k = seq_sound (inner_trees (map numbered (map inner es))) (all_told es k)
  layer_told (Rule-F.Choice es) h k = choice_sound (inner_trees (map numbered (map inner es))) (all_told es k)
  layer_told (Rule-F.Repeat e) h k = any_sound (n.repetition (inner e)) (tree_of n (inner e)) h
  layer_told (Rule-F.Repeat1 e) h k = many_sound (n.repetition (inner e)) (tree_of n (inner e)) h
  layer_told (Rule-F.Token e) h k = step_sound (n.token (rule.Token (inner e))) h
  layer_told (Rule-F.ImmediateToken e) h k = step_sound (n.token (rule.ImmediateToken (inner e))) h
  layer_told (Rule-F.Field name e) h k = field_sound (n.field name) (tree_of n (inner e)) h (told_of e k)
  layer_told (Rule-F.Alias e named value) h k = alias_sound (n.alias (alias value named)) (tree_of n (inner e)) h (told_of e k)
  layer_told (Rule-F.Prec value e) h k = group_sound (prec_of n value) Assoc.Absent (tree_of n (inner e)) h (told_of e k)
  layer_told (Rule-F.PrecLeft value e) h k = group_sound (prec_of n value) Assoc.Left (tree_of n (inner e)) h (told_of e k)
  layer_told (Rule-F.PrecRight value e) h k = group_sound (prec_of n value) Assoc.Right (tree_of n (inner e)) h (told_of e k)
  layer_told (Rule-F.PrecDynamic value e) h k = dynamic_sound value (tree_of n (inner e)) (told_of e k)

  rolled_told : (y : Rule-F Child) → IsTold (roll-Rule (map-Rule Child Rule inner y))
  rolled_told y h =
      let x = map-Rule Child Rule inner y in
      let seen : sights (roll-Rule x) ≡ record { tree = roll-Rule x; inside = false } ∷ below_step (map-Rule Rule SeenBelow seen_below x) false
      = ap (λ (g : Bool → List Sight). record { tree = roll-Rule x; inside = false } ∷ g false) (para-roll-Rule (Bool → List Sight) below_step x) in
      let top_sight : Sight = record { tree = roll-Rule x; inside = false } in
      let here : IsBounded x
      = subst (λ (z : Rule-F Rule). IsBounded z) (out-roll-Rule x) (h top_sight (head_in top_sight (below (roll-Rule x) false)) refl) in
      let rest : AreBounded (below_step (map-Rule Rule SeenBelow seen_below x) false)
      = λ v w. h v (subst (λ (all : List Sight). Contains all v) (sym seen) (tail_in top_sight v (below_step (map-Rule Rule SeenBelow seen_below x) false) w)) in
      subst IsSoundTree (sym (para-roll-Rule Tree (tree_step n) x)) (layer_told y here rest)

  tree_told : (t : Rule) → AreBounded (sights t) → IsSoundTree (tree_of n t)
  tree_told t = ind-Rule IsTold (λ x y e. subst (λ (z : Rule-F Rule). IsTold (roll-Rule z)) e (rolled_told y)) t

  -- each step of the tree's alternatives is sound
  pub alts_sound : (t : Rule) → AreBounded (sights t) → AreSound (alts n t)
  alts_sound t h = tree_told t h outermost (record { prec = tt; field = tt; alias = tt })
