-- Each rule tree of a file grammar has an alternative, and inlining leaves one.
use Rattle.std.proofs.Common.{◌≡◌, ◌∙◌, sym, ap, subst, refl, ℕ, ⊎_elim, Bool, true, false, not, ◌||◌, if◌then◌else◌, List, [], ◌∷◌, ◌++◌, map}
use Rattle.std.specs.List.{Contains, list_any}
use Rattle.std.proofs.lemmas.List.Elements.{Contains-append_left, Contains-append_right}
use Rattle.ts_core.specs.declared.flat.Assoc.{Assoc}
use Rattle.ts_core.specs.declared.flat.Prec.{Prec}
use Rattle.ts_core.specs.declared.rule.Rule.{Rule}
use Rattle.ts_core.specs.declared.rule.Rule.TheBlock.{the_family, member-Rule}
use Rattle.ts_core.specs.declared.rule.Rule.TheFolds.{ind-Rule, map-Rule, claims, para-roll-Rule}
use Rattle.ts_core.specs.declared.rule.Rule.TheOpen.{Rule-F}
use Rattle.ts_core.specs.declared.rule.Rule.TheVariants as rule
use Rattle.ts_core.specs.declared.rule.Rule.TheViews.{roll-Rule, out-roll-Rule}
use Rattle.ts_rules.specs.declared.tree.Alternative.{Alternative}
use Rattle.ts_rules.specs.declared.tree.Around.{Around}
use Rattle.ts_rules.specs.declared.tree.NumberedStep.{NumberedStep}
use Rattle.ts_rules.specs.declared.tree.Tree.{Tree}
use Rattle.ts_rules.specs.declared.tree.Tree.TheVariants as tree
use Rattle.ts_rules.specs.Alternatives.{Alternatives, alternatives_of, blank, single, followed, joins, sequence, choice_of, alternatives_each, in_field, in_alias, in_dynamic, in_group, in_sequence, is_last, left, group}
use Rattle.ts_rules.specs.FileGrammar.{IsSmallLayer, IsSmallSight}
use Rattle.ts_rules.specs.FirstSights.{Not}
use Rattle.ts_rules.specs.Numbers.{Numbers, Numbered, inner_trees, tree_of, tree_step, is_blank, has_blank, has_steps, where_so, any_times, many_times, prec_of, outermost, alts}
use Rattle.ts_rules.specs.Productions.{Becomes, stays, replaced, AllBecome, none_left, one_more, replaced_by, filled, unless_blank}
use Rattle.ts_rules.specs.Sights.{Sight, SeenBelow, seen_all, below, below_step, sights, alias}
use Rattle.ts_normalise.proofs.ListLemmas.{none_in, head_in, tail_in, member_cases}
use Rattle.ts_normalise.proofs.TreeLemmas.{at_blank, at_step, at_field, at_alias, at_group, at_dynamic, at_seq, at_choice}
use Rattle.ts_normalise.proofs.FitSightLemmas.{in_mapped}
use denote.Hole.Holds.{Such}

-- there is one
abbrev pub HasSome : {X : Type 0} → List X → Type 0
HasSome {X = X} xs = (x : X) × Contains xs x

abbrev HasSomeTree : Tree → Type 0
HasSomeTree t = (a : Around) → HasSome (alternatives_of t a)

some_left : {X : Type 0} (xs ys : List X) → HasSome xs → HasSome (xs ++ ys)
some_left xs ys h = (h.0, Contains-append_left xs ys h.0 h.1)

some_right : {X : Type 0} (xs ys : List X) → HasSome ys → HasSome (xs ++ ys)
some_right xs ys h = (h.0, Contains-append_right xs ys h.0 h.1)

some_mapped : {X Y : Type 0} (f : X → Y) (xs : List X) → HasSome xs → HasSome (map f xs)
some_mapped f xs h = (f h.0, in_mapped f xs h.0 h.1)

some_joins : (xs ys : Alternatives) → HasSome xs → HasSome ys → HasSome (joins xs ys)
some_joins [] ys h k = absurd (none_in h.0 h.1)
some_joins (x ∷ xs) ys h k = some_left (map (λ y. followed x y) ys) (joins xs ys) (some_mapped (λ y. followed x y) ys k)

some_group : (a : Around) (xs : Alternatives) → HasSome xs → HasSome (group a xs)
some_group a xs h = by a.at_end
  where
    by : (b : Bool) → HasSome (if b then xs else map (left a) xs)
    by true = h
    by false = some_mapped (left a) xs h

some_members : (ts : List Tree) → ((t : Tree) → Contains ts t → HasSomeTree t) → (a : Around) → HasSome (sequence (alternatives_each ts a))
some_members [] h a = (blank, head_in blank [])
some_members (t ∷ ts) h a = some_joins (alternatives_of t (in_sequence (is_last ts) a)) (sequence (alternatives_each ts a))
    (h t (head_in t ts) (in_sequence (is_last ts) a)) (some_members ts (λ u w. h u (tail_in t u ts w)) a)

some_choice : (ts : List Tree) (t : Tree) → Contains ts t → (a : Around) → HasSome (alternatives_of t a) → HasSome (choice_of ts a)
some_choice [] t w a h = absurd (none_in t w)
some_choice (u ∷ ts) t w a h = ⊎_elim
    (λ e. some_left (alternatives_of u a) (choice_of ts a) (subst (λ (z : Tree). HasSome (alternatives_of z a)) e h))
    (λ later. some_right (alternatives_of u a) (choice_of ts a) (some_choice ts t later a h))
    (member_cases u t ts w)

choice_some : (ts : List Tree) (t : Tree) → Contains ts t → HasSomeTree t → HasSomeTree (tree.Choice ts)
choice_some ts t w h a = subst (λ (xs : Alternatives). HasSome xs) (sym (at_choice ts a)) (some_choice ts t w a (h a))

blank_some : HasSomeTree tree.Blank
blank_some a = subst (λ (xs : Alternatives). HasSome xs) (sym (at_blank a)) (blank, head_in blank [])

step_some : (k : ℕ) → HasSomeTree (tree.Step k)
step_some k a = subst (λ (xs : Alternatives). HasSome xs) (sym (at_step k a)) (single k a, head_in (single k a) [])

any_some : (k : ℕ) (t : Tree) → HasSomeTree (any_times k t)
any_some k t = choice_some (where_so (has_steps t) (tree.Step k) ++ tree.Blank ∷ []) tree.Blank
    (Contains-append_right (where_so (has_steps t) (tree.Step k)) (tree.Blank ∷ []) tree.Blank (head_in tree.Blank [])) blank_some

-- ---- an alternative has a step or has none

pub any_true : {X : Type 0} (q : X → Bool) (xs : List X) (x : X) → Contains xs x → q x ≡ true → list_any q xs ≡ true
any_true q [] x w h = absurd (none_in x w)
any_true {X = X} q (z ∷ xs) x w h = ⊎_elim
    (λ e. ap (λ (b : Bool). b || list_any q xs) (ap q (sym e) ∙ h))
    (λ later. ap (λ (b : Bool). q z || b) (any_true q xs x later h) ∙ or_right (q z))
    (member_cases z x xs w)
  where
    or_right : (b : Bool) → (b || true) ≡ true
    or_right true = refl
    or_right false = refl

many_some : (k : ℕ) (t : Tree) → HasSome (alternatives_of t outermost) → HasSomeTree (many_times k t)
many_some k t h = by (is_blank h.0.steps) refl
  where
    by : (b : Bool) → is_blank h.0.steps ≡ b → HasSomeTree (many_times k t)
    by true e =
        let has : has_blank t ≡ true = any_true (λ (x : Alternative). is_blank x.steps) (alternatives_of t outermost) h.0 h.1 e in
        choice_some (where_so (has_steps t) (tree.Step k) ++ where_so (has_blank t) tree.Blank) tree.Blank
        (Contains-append_right (where_so (has_steps t) (tree.Step k)) (where_so (has_blank t) tree.Blank) tree.Blank
        (subst (λ (z : Bool). Contains (where_so z tree.Blank) tree.Blank) (sym has) (head_in tree.Blank []))) blank_some
    by false e =
        let has : has_steps t ≡ true = any_true (λ (x : Alternative). not (is_blank x.steps)) (alternatives_of t outermost) h.0 h.1 (ap not e) in
        choice_some (where_so (has_steps t) (tree.Step k) ++ where_so (has_blank t) tree.Blank) (tree.Step k)
        (Contains-append_left (where_so (has_steps t) (tree.Step k)) (where_so (has_blank t) tree.Blank) (tree.Step k)
        (subst (λ (z : Bool). Contains (where_so z (tree.Step k)) (tree.Step k)) (sym has) (head_in (tree.Step k) []))) (step_some k)

-- ---- rule trees

abbrev pub AreSmall : List Sight → Type 0
AreSmall all = (s : Sight) → Contains all s → IsSmallSight s

module _ (n : Numbers) where
  abbrev IsTold : Rule → Type 0
  IsTold t = AreSmall (sights t) → HasSomeTree (tree_of n t)

  abbrev Child : Type 0
  Child = Such the_family (claims IsTold) member-Rule

  abbrev inner : Child → Rule
  inner child = child.0

  told_of : (e : Child) → AreSmall (sights (inner e)) → HasSomeTree (tree_of n (inner e))
  told_of e h = let k : IsTold e.0 = e.1 in k h

  abbrev numbered : Rule → Numbered
  numbered r = (r, tree_of n r)

  abbrev seen_below : Rule → SeenBelow
  seen_below r = (r, below r)

  all_told : (es : List Child) → AreSmall (seen_all (map seen_below (map inner es)) false) → (t : Tree) → Contains (inner_trees (map numbered (map inner es))) t → HasSomeTree t
  all_told [] h t w = absurd (none_in t w)
  all_told (e ∷ es) h t w = ⊎_elim
      (λ is. subst HasSomeTree (sym is) (told_of e (λ s v. h s (Contains-append_left (sights (inner e)) (seen_all (map seen_below (map inner es)) false) s v))))
      (λ later. all_told es (λ s v. h s (Contains-append_right (sights (inner e)) (seen_all (map seen_below (map inner es)) false) s v)) t later)
      (member_cases (tree_of n (inner e)) t (inner_trees (map numbered (map inner es))) w)

  branches_told : (es : List Child) → Not (map inner es ≡ []) → AreSmall (seen_all (map seen_below (map inner es)) false) → HasSomeTree (tree.Choice (inner_trees (map numbered (map inner es))))
  branches_told [] some h = absurd (some refl)
  branches_told (e ∷ es) some h =
      let first : Tree = tree_of n (inner e) in
      choice_some (first ∷ inner_trees (map numbered (map inner es))) first (head_in first (inner_trees (map numbered (map inner es))))
      (told_of e (λ s v. h s (Contains-append_left (sights (inner e)) (seen_all (map seen_below (map inner es)) false) s v)))

  group_told : (q : Prec) (assoc : Assoc) (e : Child) → AreSmall (sights (inner e)) → HasSomeTree (tree.Group q assoc (tree_of n (inner e)))
  group_told q assoc e k a = subst (λ (xs : Alternatives). HasSome xs) (sym (at_group q assoc (tree_of n (inner e)) a)) (some_group a (alternatives_of (tree_of n (inner e)) (in_group q assoc a)) (told_of e k (in_group q assoc a)))

  layer_told : (y : Rule-F Child) → IsSmallLayer (map-Rule Child Rule inner y) → AreSmall (below_step (map-Rule Rule SeenBelow seen_below (map-Rule Child Rule inner y)) false)
      → HasSomeTree (tree_step n (map-Rule Rule Numbered numbered (map-Rule Child Rule inner y)))
  layer_told Rule-F.Blank h k = blank_some
  layer_told (Rule-F.Literal text) h k = step_some (n.token (rule.Literal text))
  layer_told (Rule-F.Pattern value ignore_case) h k = step_some (n.token (rule.Pattern value ignore_case))
  layer_told (Rule-F.Symbol name) h k = step_some (n.rule name)
  layer_told (Rule-F.Seq es) h k = λ a. subst (λ (xs : Alternatives). HasSome xs) (sym (at_seq (inner_trees (map numbered (map inner es))) a)) (some_members (inner_trees (map numbered (map inner es))) (all_told es k) a)
  layer_told (Rule-F.Choice es) h k = branches_told es h.1 k
  layer_told (Rule-F.Repeat e) h k = any_some (n.repetition (inner e)) (tree_of n (inner e))
  layer_told (Rule-F.Repeat1 e) h k = many_some (n.repetition (inner e)) (tree_of n (inner e)) (told_of e k outermost)
  layer_told (Rule-F.Token e) h k = step_some (n.token (rule.Token (inner e)))
  layer_told (Rule-F.ImmediateToken e) h k = step_some (n.token (rule.ImmediateToken (inner e)))
  layer_told (Rule-F.Field name e) h k = λ a. subst (λ (xs : Alternatives). HasSome xs) (sym (at_field (n.field name) (tree_of n (inner e)) a)) (told_of e k (in_field (n.field name) a))
  layer_told (Rule-F.Alias e named value) h k = λ a. subst (λ (xs : Alternatives). HasSome xs) (sym (at_alias (n.alias (alias value named)) (tree_of n (inner e)) a)) (told_of e k (in_alias (n.alias (alias value named)) a))
  layer_told (Rule-F.Prec value e) h k = group_told (prec_of n value) Assoc.Absent e k
  layer_told (Rule-F.PrecLeft value e) h k = group_told (prec_of n value) Assoc.Left e k
  layer_told (Rule-F.PrecRight value e) h k = group_told (prec_of n value) Assoc.Right e k
  layer_told (Rule-F.PrecDynamic value e) h k = λ a. subst (λ (xs : Alternatives). HasSome xs) (sym (at_dynamic value (tree_of n (inner e)) a)) (told_of e k (in_dynamic value a))

  rolled_told : (y : Rule-F Child) → IsTold (roll-Rule (map-Rule Child Rule inner y))
  rolled_told y h =
      let x = map-Rule Child Rule inner y in
      let seen : sights (roll-Rule x) ≡ record { tree = roll-Rule x; inside = false } ∷ below_step (map-Rule Rule SeenBelow seen_below x) false
      = ap (λ (g : Bool → List Sight). record { tree = roll-Rule x; inside = false } ∷ g false) (para-roll-Rule (Bool → List Sight) below_step x) in
      let top : Sight = record { tree = roll-Rule x; inside = false } in
      let here : IsSmallLayer x
      = subst (λ (z : Rule-F Rule). IsSmallLayer z) (out-roll-Rule x) (h top (head_in top (below (roll-Rule x) false))) in
      let rest : AreSmall (below_step (map-Rule Rule SeenBelow seen_below x) false)
      = λ v w. h v (subst (λ (all : List Sight). Contains all v) (sym seen) (tail_in top v (below_step (map-Rule Rule SeenBelow seen_below x) false) w)) in
      subst HasSomeTree (sym (para-roll-Rule Tree (tree_step n) x)) (layer_told y here rest)

  -- each rule tree has an alternative
  pub some_alternative : (t : Rule) → AreSmall (sights t) → HasSome (alts n t)
  some_alternative t h = ind-Rule IsTold (λ x y e. subst (λ (z : Rule-F Rule). IsTold (roll-Rule z)) e (rolled_told y)) t h outermost

-- ---- inlining

module _ (Inner : ℕ → Alternatives → Type 0) (some_inner : (k : ℕ) (xs : Alternatives) → Inner k xs → HasSome xs) where
  mutual
    become_some : (p : Alternative) (all : Alternatives) → Becomes Inner p all → HasSome all
    become_some _ _ (stays p stay) = (p, head_in p [])
    become_some _ _ (replaced dynamic before step after inner all stay is become) =
        all_some (map (replaced_by dynamic before step after) inner) all (some_mapped (replaced_by dynamic before step after) inner (some_inner step.symbol inner is)) become

    pub all_some : (ps all : Alternatives) → HasSome ps → AllBecome Inner ps all → HasSome all
    all_some _ _ h none_left = absurd (none_in h.0 h.1)
    all_some _ _ h (one_more p ps qs rs one more) = some_left qs rs (become_some p qs one)

-- ---- filled alternatives

any_there : {X : Type 0} (q : X → Bool) (xs : List X) → list_any q xs ≡ true → (x : X) × Contains xs x × (q x ≡ true)
any_there q [] h = absurd (let e : false ≡ true = h in cc)
any_there {X = X} q (z ∷ xs) h = by (q z) refl (λ later. any_there q xs later)
  where
    by : (b : Bool) → q z ≡ b → (list_any q xs ≡ true → (x : X) × Contains xs x × (q x ≡ true)) → (x : X) × Contains (z ∷ xs) x × (q x ≡ true)
    by true e rest = (z, head_in z xs, e)
    by false e rest = let r = rest (ap (λ (b : Bool). b || list_any q xs) (sym e) ∙ h) in (r.0, tail_in z r.0 xs r.1, r.2)

filled_there : (ps : Alternatives) (p : Alternative) → Contains ps p → not (is_blank p.steps) ≡ true → Contains (filled ps) p
filled_there [] p w h = absurd (none_in p w)
filled_there (q ∷ ps) p w h = ⊎_elim
    (λ e. Contains-append_left (unless_blank q q.steps) (filled ps) p (subst (λ (z : Alternative). Contains (unless_blank z z.steps) p) e (unless p.steps h)))
    (λ later. Contains-append_right (unless_blank q q.steps) (filled ps) p (filled_there ps p later h))
    (member_cases q p ps w)
  where
    unless : (ss : List NumberedStep) → not (is_blank ss) ≡ true → Contains (unless_blank p ss) p
    unless [] k = absurd (let e : false ≡ true = k in cc)
    unless (s ∷ ss) k = head_in p []

pub some_filled : (n : Numbers) (t : Rule) → has_steps (tree_of n t) ≡ true → HasSome (filled (alts n t))
some_filled n t h = let r = any_there (λ (x : Alternative). not (is_blank x.steps)) (alts n t) h in (r.0, filled_there (alts n t) r.0 r.1 r.2)
