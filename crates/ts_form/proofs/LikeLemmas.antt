-- The alternatives of a rule tree by two numberings: alike, where the numberings agree on what stands
-- in the tree, and in any case as many, with steps in the same places.
use Rattle.std.proofs.Common.{◌≡◌, ◌∙◌, sym, ap, subst, refl, ℕ, ℤ, Bool, true, false, not, ◌||◌, if◌then◌else◌, List, [], ◌∷◌, ◌++◌, map, Some}
use Rattle.std.specs.Prelude.{◌&&◌}
use Rattle.std.specs.List.{Contains, list_any}
use Rattle.std.proofs.lemmas.List.Elements.{Contains-append_left, Contains-append_right}
use Rattle.ts_core.specs.declared.flat.Alias.{Alias}
use Rattle.ts_core.specs.declared.flat.Assoc.{Assoc}
use Rattle.ts_core.specs.declared.flat.Prec.{Prec}
use Rattle.ts_core.specs.declared.flat.Step.{Step}
use Rattle.ts_core.specs.declared.rule.Rule.{Rule}
use Rattle.ts_core.specs.declared.rule.Rule.TheBlock.{the_family, member-Rule}
use Rattle.ts_core.specs.declared.rule.Rule.TheFolds.{ind-Rule, map-Rule, claims, para-roll-Rule}
use Rattle.ts_core.specs.declared.rule.Rule.TheOpen.{Rule-F}
use Rattle.ts_core.specs.declared.rule.Rule.TheVariants as rule
use Rattle.ts_core.specs.declared.rule.Rule.TheViews.{roll-Rule, out-Rule, out-roll-Rule}
use Rattle.ts_rules.specs.declared.tree.Alternative.{Alternative}
use Rattle.ts_rules.specs.declared.tree.Around.{Around}
use Rattle.ts_rules.specs.declared.tree.NumberedStep.{NumberedStep}
use Rattle.ts_rules.specs.declared.tree.Tree.{Tree}
use Rattle.ts_rules.specs.declared.tree.Tree.TheVariants as tree
use Rattle.ts_rules.specs.Alternatives.{Alternatives, alternatives_of, blank, single, step_at, followed, joins, sequence, choice_of, alternatives_each, stronger, in_field, in_alias, in_dynamic, in_group, in_sequence, inner_assoc, is_last, left, left_by, last_left, group}
use Rattle.ts_rules.specs.FirstSights.{Each, end, both}
use Rattle.ts_rules.specs.Numbers.{Numbers, Numbered, inner_trees, tree_of, tree_step, outermost, is_blank, has_blank, has_steps, where_so, any_times, many_times, prec_of, alts}
use Rattle.ts_rules.specs.Productions.{symbol, flat_step}
use Rattle.ts_rules.specs.Sights.{Sight, SeenBelow, seen_all, below, below_step, sights, alias}
use Rattle.ts_form.proofs.ListLemmas.{tail_in, head_in}
use Rattle.ts_form.proofs.TreeLemmas.{at_blank, at_step, at_field, at_alias, at_group, at_dynamic, at_seq, at_choice}
use denote.Hole.Holds.{Such}

-- ---- lists that are related place by place

module _ {X Y : Type 0} (R : X → Y → Type 0) where
  pub each_append : (xs vs : List X) (ys ws : List Y) → Each R xs ys → Each R vs ws → Each R (xs ++ vs) (ys ++ ws)
  each_append _ vs _ ws end more = more
  each_append _ vs _ ws (both x y xs ys h rest) more = both x y (xs ++ vs) (ys ++ ws) h (each_append xs vs ys ws rest more)

  pub each_map : {A B : Type 0} (S : A → B → Type 0) (f : A → X) (g : B → Y) → ((a : A) (b : B) → S a b → R (f a) (g b))
      → (cs : List A) (bs : List B) → Each S cs bs → Each R (map f cs) (map g bs)
  each_map S f g h _ _ end = end
  each_map S f g h _ _ (both a b cs bs s rest) = both (f a) (g b) (map f cs) (map g bs) (h a b s) (each_map S f g h cs bs rest)

-- ---- flat steps

abbrev put_symbol : ℕ → Step → Step
put_symbol number s = record s { symbol = symbol number }

abbrev put_group : Prec → Assoc → Step → Step
put_group prec assoc s = record s { prec = prec; assoc = inner_assoc assoc s.assoc }

abbrev put_alias : Alias → Step → Step
put_alias a s = record s { alias = Some a }

abbrev put_field : ℕ → Step → Step
put_field field s = record s { field = Some field }

abbrev put_marks : Step → Step → Step
put_marks marks s = record s { prec = marks.prec; assoc = marks.assoc }

-- what stands round a place, as marks of a step
abbrev marks_of : Numbers → Around → Step
marks_of n a = flat_step n (step_at 0 a)

-- ---- what is alike

abbrev pub StepLike : Type 0 → Numbers → Numbers → NumberedStep → NumberedStep → Type 0
StepLike strict n m s t = strict → flat_step n s ≡ flat_step m t

pub record AltLike (strict : Type 0) (n m : Numbers) (p q : Alternative) : Type 0 where
  pub dynamic : strict → p.dynamic ≡ q.dynamic
  pub steps : Each (StepLike strict n m) p.steps q.steps

pub record AroundLike (strict : Type 0) (n m : Numbers) (a b : Around) : Type 0 where
  pub at_end : a.at_end ≡ b.at_end
  pub dynamic : strict → a.dynamic ≡ b.dynamic
  pub marks : strict → marks_of n a ≡ marks_of m b

abbrev pub AltsLike : Type 0 → Numbers → Numbers → Alternatives → Alternatives → Type 0
AltsLike strict n m = Each (AltLike strict n m)

abbrev pub TreeLike : Type 0 → Numbers → Numbers → Tree → Tree → Type 0
TreeLike strict n m t u = (a b : Around) → AroundLike strict n m a b → AltsLike strict n m (alternatives_of t a) (alternatives_of u b)

-- the numberings agree on what a rule type holds itself
abbrev pub AgreesLayer : Numbers → Numbers → Rule-F Rule → Type 0
AgreesLayer n m Rule-F.Blank = Unit {0}
AgreesLayer n m (Rule-F.Literal text) = n.token (rule.Literal text) ≡ m.token (rule.Literal text)
AgreesLayer n m (Rule-F.Pattern value ignore_case) = n.token (rule.Pattern value ignore_case) ≡ m.token (rule.Pattern value ignore_case)
AgreesLayer n m (Rule-F.Symbol name) = n.rule name ≡ m.rule name
AgreesLayer n m (Rule-F.Seq members) = Unit {0}
AgreesLayer n m (Rule-F.Choice members) = Unit {0}
AgreesLayer n m (Rule-F.Repeat content) = has_steps (tree_of n content) ≡ true → n.repetition content ≡ m.repetition content
AgreesLayer n m (Rule-F.Repeat1 content) = has_steps (tree_of n content) ≡ true → n.repetition content ≡ m.repetition content
AgreesLayer n m (Rule-F.Token content) = n.token (rule.Token content) ≡ m.token (rule.Token content)
AgreesLayer n m (Rule-F.ImmediateToken content) = n.token (rule.ImmediateToken content) ≡ m.token (rule.ImmediateToken content)
AgreesLayer n m (Rule-F.Field name content) = n.field name ≡ m.field name
AgreesLayer n m (Rule-F.Alias content named value) = n.alias_at (n.alias (alias value named)) ≡ m.alias_at (m.alias (alias value named))
AgreesLayer n m (Rule-F.Prec value content) = prec_of n value ≡ prec_of m value
AgreesLayer n m (Rule-F.PrecLeft value content) = prec_of n value ≡ prec_of m value
AgreesLayer n m (Rule-F.PrecRight value content) = prec_of n value ≡ prec_of m value
AgreesLayer n m (Rule-F.PrecDynamic value content) = Unit {0}

abbrev pub AgreesAll : Numbers → Numbers → List Sight → Type 0
AgreesAll n m all = (s : Sight) → Contains all s → s.inside ≡ false → AgreesLayer n m (out-Rule s.tree)

-- the numberings agree on all that stands in a rule tree outside its tokens
abbrev pub Agrees : Numbers → Numbers → Rule → Type 0
Agrees n m t = AgreesAll n m (sights t)

module _ (strict : Type 0) (n m : Numbers) where
  abbrev Steps : NumberedStep → NumberedStep → Type 0
  Steps = StepLike strict n m

  abbrev Alts : Alternative → Alternative → Type 0
  Alts = AltLike strict n m

  abbrev Rounds : Around → Around → Type 0
  Rounds = AroundLike strict n m

  -- ---- lists of alternatives

  pub followed_like : (x y z w : Alternative) → Alts x z → Alts y w → Alts (followed x y) (followed z w)
  followed_like x y z w h k = record {
    dynamic = λ s. ap (λ (d : ℤ). stronger d y.dynamic) (h.dynamic s) ∙ ap (stronger z.dynamic) (k.dynamic s);
    steps = each_append Steps x.steps y.steps z.steps w.steps h.steps k.steps;
  }

  before_like : (x z : Alternative) (ys ws : Alternatives) → Alts x z → Each Alts ys ws → Each Alts (map (λ y. followed x y) ys) (map (λ y. followed z y) ws)
  before_like x z ys ws h all = each_map Alts Alts (λ y. followed x y) (λ y. followed z y) (λ y w k. followed_like x y z w h k) ys ws all

  joins_like : (xs zs ys ws : Alternatives) → Each Alts xs zs → Each Alts ys ws → Each Alts (joins xs ys) (joins zs ws)
  joins_like _ _ ys ws end all = end
  joins_like _ _ ys ws (both x z xs zs h rest) all =
      each_append Alts (map (λ y. followed x y) ys) (joins xs ys) (map (λ y. followed z y) ws) (joins zs ws) (before_like x z ys ws h all) (joins_like xs zs ys ws rest all)

  blank_like : Each Alts (blank ∷ []) (blank ∷ [])
  blank_like = both blank blank [] [] (record { dynamic = λ s. refl; steps = end }) end

  sequence_like : (xs ys : List Alternatives) → Each (Each Alts) xs ys → Each Alts (sequence xs) (sequence ys)
  sequence_like _ _ end = blank_like
  sequence_like _ _ (both x y xs ys h rest) = joins_like x y (sequence xs) (sequence ys) h (sequence_like xs ys rest)

  any_like : (f : Bool → Bool) (xs ys : Alternatives) → Each Alts xs ys
      → list_any (λ (x : Alternative). f (is_blank x.steps)) xs ≡ list_any (λ (x : Alternative). f (is_blank x.steps)) ys
  any_like f _ _ end = refl
  any_like f _ _ (both x y xs ys h rest) =
      ap (λ (b : Bool). f b || list_any (λ (z : Alternative). f (is_blank z.steps)) xs) (blank_same x.steps y.steps h.steps)
      ∙ ap (λ (b : Bool). f (is_blank y.steps) || b) (any_like f xs ys rest)
    where
      blank_same : (ss ts : List NumberedStep) → Each Steps ss ts → is_blank ss ≡ is_blank ts
      blank_same _ _ end = refl
      blank_same _ _ (both s t ss ts h rest) = refl

  -- ---- groups

  left_by_like : (a b : Around) (s t : NumberedStep) → Rounds a b → Steps s t → Steps (left_by a s) (left_by b t)
  left_by_like a b s t r h k = ap (λ (x : Step). put_marks x (flat_step n s)) (r.marks k) ∙ ap (put_marks (marks_of m b)) (h k)

  last_left_like : (a b : Around) (ss ts : List NumberedStep) → Rounds a b → Each Steps ss ts → Each Steps (last_left a ss) (last_left b ts)
  last_left_like a b _ _ r end = end
  last_left_like a b _ _ r (both s t _ _ h end) = both (left_by a s) (left_by b t) [] [] (left_by_like a b s t r h) end
  last_left_like a b _ _ r (both s t _ _ h (both u v ss ts k rest)) =
      both s t (last_left a (u ∷ ss)) (last_left b (v ∷ ts)) h (last_left_like a b (u ∷ ss) (v ∷ ts) r (both u v ss ts k rest))

  left_like : (a b : Around) (x y : Alternative) → Rounds a b → Alts x y → Alts (left a x) (left b y)
  left_like a b x y r h = record { dynamic = h.dynamic; steps = last_left_like a b x.steps y.steps r h.steps }

  group_like : (a b : Around) (xs ys : Alternatives) → Rounds a b → Each Alts xs ys → Each Alts (group a xs) (group b ys)
  group_like a b xs ys r all = by a.at_end b.at_end r.at_end
    where
      by : (c d : Bool) → c ≡ d → Each Alts (if c then xs else map (left a) xs) (if d then ys else map (left b) ys)
      by true true e = all
      by true false e = absurd (let f : true ≡ false = e in cc)
      by false true e = absurd (let f : false ≡ true = e in cc)
      by false false e = each_map Alts Alts (left a) (left b) (λ x y h. left_like a b x y r h) xs ys all

  -- ---- what stands round

  pub outermost_like : Rounds outermost outermost
  outermost_like = record { at_end = refl; dynamic = λ s. refl; marks = λ s. refl }

  field_round : (f g : ℕ) (a b : Around) → (strict → f ≡ g) → Rounds a b → Rounds (in_field f a) (in_field g b)
  field_round f g a b e r = record {
    at_end = r.at_end;
    dynamic = r.dynamic;
    marks = λ s. ap (λ (k : ℕ). put_field k (marks_of n a)) (e s) ∙ ap (put_field g) (r.marks s);
  }

  alias_round : (k l : ℕ) (a b : Around) → (strict → n.alias_at k ≡ m.alias_at l) → Rounds a b → Rounds (in_alias k a) (in_alias l b)
  alias_round k l a b e r = record {
    at_end = r.at_end;
    dynamic = r.dynamic;
    marks = λ s. ap (λ (x : Alias). put_alias x (marks_of n a)) (e s) ∙ ap (put_alias (m.alias_at l)) (r.marks s);
  }

  dynamic_round : (value : ℤ) (a b : Around) → Rounds a b → Rounds (in_dynamic value a) (in_dynamic value b)
  dynamic_round value a b r = record { at_end = r.at_end; dynamic = λ s. ap (λ (d : ℤ). stronger d value) (r.dynamic s); marks = r.marks }

  group_round : (p q : Prec) (assoc : Assoc) (a b : Around) → (strict → p ≡ q) → Rounds a b → Rounds (in_group p assoc a) (in_group q assoc b)
  group_round p q assoc a b e r = record {
    at_end = r.at_end;
    dynamic = r.dynamic;
    marks = λ s. ap (λ (x : Prec). put_group x assoc (marks_of n a)) (e s) ∙ ap (put_group q assoc) (r.marks s);
  }

  sequence_round : (c d : Bool) (a b : Around) → c ≡ d → Rounds a b → Rounds (in_sequence c a) (in_sequence d b)
  sequence_round c d a b e r = record {
    at_end = ap (λ (x : Bool). x && c) r.at_end ∙ ap (λ (x : Bool). b.at_end && x) e;
    dynamic = r.dynamic;
    marks = r.marks;
  }

  -- ---- trees

  abbrev Trees : Tree → Tree → Type 0
  Trees = TreeLike strict n m

  carried : (xs ys vs ws : Alternatives) → vs ≡ xs → ws ≡ ys → Each Alts xs ys → Each Alts vs ws
  carried xs ys vs ws e f h = subst (λ (zs : Alternatives). Each Alts zs ws) (sym e) (subst (λ (zs : Alternatives). Each Alts xs zs) (sym f) h)

  blank_tree : Trees tree.Blank tree.Blank
  blank_tree a b r = carried (blank ∷ []) (blank ∷ []) (alternatives_of tree.Blank a) (alternatives_of tree.Blank b) (at_blank a) (at_blank b) blank_like

  step_tree : (k l : ℕ) → (strict → k ≡ l) → Trees (tree.Step k) (tree.Step l)
  step_tree k l e a b r = carried (single k a ∷ []) (single l b ∷ []) (alternatives_of (tree.Step k) a) (alternatives_of (tree.Step l) b) (at_step k a) (at_step l b)
      (both (single k a) (single l b) [] [] (record { dynamic = r.dynamic; steps = both (step_at k a) (step_at l b) [] [] step end }) end)
    where
      step : Steps (step_at k a) (step_at l b)
      step s = ap (λ (x : ℕ). put_symbol x (marks_of n a)) (e s) ∙ ap (put_symbol l) (r.marks s)

  field_tree : (f g : ℕ) (t u : Tree) → (strict → f ≡ g) → Trees t u → Trees (tree.Field f t) (tree.Field g u)
  field_tree f g t u e h a b r = carried (alternatives_of t (in_field f a)) (alternatives_of u (in_field g b)) (alternatives_of (tree.Field f t) a) (alternatives_of (tree.Field g u) b)
      (at_field f t a) (at_field g u b) (h (in_field f a) (in_field g b) (field_round f g a b e r))

  alias_tree : (k l : ℕ) (t u : Tree) → (strict → n.alias_at k ≡ m.alias_at l) → Trees t u → Trees (tree.Alias k t) (tree.Alias l u)
  alias_tree k l t u e h a b r = carried (alternatives_of t (in_alias k a)) (alternatives_of u (in_alias l b)) (alternatives_of (tree.Alias k t) a) (alternatives_of (tree.Alias l u) b)
      (at_alias k t a) (at_alias l u b) (h (in_alias k a) (in_alias l b) (alias_round k l a b e r))

  dynamic_tree : (value : ℤ) (t u : Tree) → Trees t u → Trees (tree.Dynamic value t) (tree.Dynamic value u)
  dynamic_tree value t u h a b r = carried (alternatives_of t (in_dynamic value a)) (alternatives_of u (in_dynamic value b)) (alternatives_of (tree.Dynamic value t) a) (alternatives_of (tree.Dynamic value u) b)
      (at_dynamic value t a) (at_dynamic value u b) (h (in_dynamic value a) (in_dynamic value b) (dynamic_round value a b r))

  group_tree : (p q : Prec) (assoc : Assoc) (t u : Tree) → (strict → p ≡ q) → Trees t u → Trees (tree.Group p assoc t) (tree.Group q assoc u)
  group_tree p q assoc t u e h a b r =
      carried (group a (alternatives_of t (in_group p assoc a))) (group b (alternatives_of u (in_group q assoc b))) (alternatives_of (tree.Group p assoc t) a) (alternatives_of (tree.Group q assoc u) b)
      (at_group p assoc t a) (at_group q assoc u b)
      (group_like a b (alternatives_of t (in_group p assoc a)) (alternatives_of u (in_group q assoc b)) r (h (in_group p assoc a) (in_group q assoc b) (group_round p q assoc a b e r)))

  seq_tree : (ts us : List Tree) → Each Trees ts us → Trees (tree.Seq ts) (tree.Seq us)
  seq_tree ts us all a b r = carried (sequence (alternatives_each ts a)) (sequence (alternatives_each us b)) (alternatives_of (tree.Seq ts) a) (alternatives_of (tree.Seq us) b) (at_seq ts a) (at_seq us b)
      (sequence_like (alternatives_each ts a) (alternatives_each us b) (members_like ts us all))
    where
      last_same : (ts us : List Tree) → Each Trees ts us → is_last ts ≡ is_last us
      last_same _ _ end = refl
      last_same _ _ (both t u ts us h rest) = refl

      members_like : (ts us : List Tree) → Each Trees ts us → Each (Each Alts) (alternatives_each ts a) (alternatives_each us b)
      members_like _ _ end = end
      members_like _ _ (both t u ts us h rest) =
          both (alternatives_of t (in_sequence (is_last ts) a)) (alternatives_of u (in_sequence (is_last us) b)) (alternatives_each ts a) (alternatives_each us b)
          (h (in_sequence (is_last ts) a) (in_sequence (is_last us) b) (sequence_round (is_last ts) (is_last us) a b (last_same ts us rest) r))
          (members_like ts us rest)

  choice_tree : (ts us : List Tree) → Each Trees ts us → Trees (tree.Choice ts) (tree.Choice us)
  choice_tree ts us all a b r = carried (choice_of ts a) (choice_of us b) (alternatives_of (tree.Choice ts) a) (alternatives_of (tree.Choice us) b) (at_choice ts a) (at_choice us b) (choice_like ts us all)
    where
      choice_like : (ts us : List Tree) → Each Trees ts us → Each Alts (choice_of ts a) (choice_of us b)
      choice_like _ _ end = end
      choice_like _ _ (both t u ts us h rest) = each_append Alts (alternatives_of t a) (choice_of ts a) (alternatives_of u b) (choice_of us b) (h a b r) (choice_like ts us rest)

  -- ---- repetitions

  steps_same : (t u : Tree) → Trees t u → has_steps t ≡ has_steps u
  steps_same t u h = any_like not (alternatives_of t outermost) (alternatives_of u outermost) (h outermost outermost outermost_like)

  blank_same : (t u : Tree) → Trees t u → has_blank t ≡ has_blank u
  blank_same t u h = any_like (λ (b : Bool). b) (alternatives_of t outermost) (alternatives_of u outermost) (h outermost outermost outermost_like)

  where_like : (c d : Bool) (t u : Tree) → c ≡ d → (c ≡ true → Trees t u) → Each Trees (where_so c t) (where_so d u)
  where_like true true t u e h = both t u [] [] (h refl) end
  where_like true false t u e h = absurd (let f : true ≡ false = e in cc)
  where_like false true t u e h = absurd (let f : false ≡ true = e in cc)
  where_like false false t u e h = end

  repetition_where : (k l : ℕ) (t u : Tree) → (strict → has_steps t ≡ true → k ≡ l) → Trees t u → Each Trees (where_so (has_steps t) (tree.Step k)) (where_so (has_steps u) (tree.Step l))
  repetition_where k l t u e h = where_like (has_steps t) (has_steps u) (tree.Step k) (tree.Step l) (steps_same t u h) (λ so. step_tree k l (λ s. e s so))

  any_tree : (k l : ℕ) (t u : Tree) → (strict → has_steps t ≡ true → k ≡ l) → Trees t u → Trees (any_times k t) (any_times l u)
  any_tree k l t u e h =
      choice_tree (where_so (has_steps t) (tree.Step k) ++ tree.Blank ∷ []) (where_so (has_steps u) (tree.Step l) ++ tree.Blank ∷ [])
      (each_append Trees (where_so (has_steps t) (tree.Step k)) (tree.Blank ∷ []) (where_so (has_steps u) (tree.Step l)) (tree.Blank ∷ []) (repetition_where k l t u e h) (both tree.Blank tree.Blank [] [] blank_tree end))

  many_tree : (k l : ℕ) (t u : Tree) → (strict → has_steps t ≡ true → k ≡ l) → Trees t u → Trees (many_times k t) (many_times l u)
  many_tree k l t u e h =
      choice_tree (where_so (has_steps t) (tree.Step k) ++ where_so (has_blank t) tree.Blank) (where_so (has_steps u) (tree.Step l) ++ where_so (has_blank u) tree.Blank)
      (each_append Trees (where_so (has_steps t) (tree.Step k)) (where_so (has_blank t) tree.Blank) (where_so (has_steps u) (tree.Step l)) (where_so (has_blank u) tree.Blank)
      (repetition_where k l t u e h) (where_like (has_blank t) (has_blank u) tree.Blank tree.Blank (blank_same t u h) (λ so. blank_tree)))

  -- ---- rule trees

  abbrev IsLike : Rule → Type 0
  IsLike t = (strict → Agrees n m t) → Trees (tree_of n t) (tree_of m t)

  abbrev Child : Type 0
  Child = Such the_family (claims IsLike) member-Rule

  abbrev inner : Child → Rule
  inner child = child.0

  like : (e : Child) → (strict → Agrees n m (inner e)) → Trees (tree_of n (inner e)) (tree_of m (inner e))
  like e h = let k : IsLike e.0 = e.1 in k h

  abbrev numbered : Numbers → Rule → Numbered
  numbered o r = (r, tree_of o r)

  abbrev seen_below : Rule → SeenBelow
  seen_below r = (r, below r)

  all_like : (es : List Child) → (strict → AgreesAll n m (seen_all (map seen_below (map inner es)) false))
      → Each Trees (inner_trees (map (numbered n) (map inner es))) (inner_trees (map (numbered m) (map inner es)))
  all_like [] h = end
  all_like (e ∷ es) h =
      both (tree_of n (inner e)) (tree_of m (inner e)) (inner_trees (map (numbered n) (map inner es))) (inner_trees (map (numbered m) (map inner es)))
      (like e (λ s x w. h s x (Contains-append_left (sights (inner e)) (seen_all (map seen_below (map inner es)) false) x w)))
      (all_like es (λ s x w. h s x (Contains-append_right (sights (inner e)) (seen_all (map seen_below (map inner es)) false) x w)))

  layer_like : (y : Rule-F Child) → (strict → AgreesLayer n m (map-Rule Child Rule inner y)) → (strict → AgreesAll n m (below_step (map-Rule Rule SeenBelow seen_below (map-Rule Child Rule inner y)) false))
      → Trees (tree_step n (map-Rule Rule Numbered (numbered n) (map-Rule Child Rule inner y))) (tree_step m (map-Rule Rule Numbered (numbered m) (map-Rule Child Rule inner y)))
  layer_like Rule-F.Blank h k = blank_tree
  layer_like (Rule-F.Literal text) h k = step_tree (n.token (rule.Literal text)) (m.token (rule.Literal text)) h
  layer_like (Rule-F.Pattern value ignore_case) h k = step_tree (n.token (rule.Pattern value ignore_case)) (m.token (rule.Pattern value ignore_case)) h
  layer_like (Rule-F.Symbol name) h k = step_tree (n.rule name) (m.rule name) h
  layer_like (Rule-F.Seq es) h k = seq_tree (inner_trees (map (numbered n) (map inner es))) (inner_trees (map (numbered m) (map inner es))) (all_like es k)
  layer_like (Rule-F.Choice es) h k = choice_tree (inner_trees (map (numbered n) (map inner es))) (inner_trees (map (numbered m) (map inner es))) (all_like es k)
  layer_like (Rule-F.Repeat e) h k = any_tree (n.repetition (inner e)) (m.repetition (inner e)) (tree_of n (inner e)) (tree_of m (inner e)) h (like e k)
  layer_like (Rule-F.Repeat1 e) h k = many_tree (n.repetition (inner e)) (m.repetition (inner e)) (tree_of n (inner e)) (tree_of m (inner e)) h (like e k)
  layer_like (Rule-F.Token e) h k = step_tree (n.token (rule.Token (inner e))) (m.token (rule.Token (inner e))) h
  layer_like (Rule-F.ImmediateToken e) h k = step_tree (n.token (rule.ImmediateToken (inner e))) (m.token (rule.ImmediateToken (inner e))) h
  layer_like (Rule-F.Field name e) h k = field_tree (n.field name) (m.field name) (tree_of n (inner e)) (tree_of m (inner e)) h (like e k)
  layer_like (Rule-F.Alias e named value) h k = alias_tree (n.alias (alias value named)) (m.alias (alias value named)) (tree_of n (inner e)) (tree_of m (inner e)) h (like e k)
  layer_like (Rule-F.Prec value e) h k = group_tree (prec_of n value) (prec_of m value) Assoc.Absent (tree_of n (inner e)) (tree_of m (inner e)) h (like e k)
  layer_like (Rule-F.PrecLeft value e) h k = group_tree (prec_of n value) (prec_of m value) Assoc.Left (tree_of n (inner e)) (tree_of m (inner e)) h (like e k)
  layer_like (Rule-F.PrecRight value e) h k = group_tree (prec_of n value) (prec_of m value) Assoc.Right (tree_of n (inner e)) (tree_of m (inner e)) h (like e k)
  layer_like (Rule-F.PrecDynamic value e) h k = dynamic_tree value (tree_of n (inner e)) (tree_of m (inner e)) (like e k)

  rolled_like : (y : Rule-F Child) → IsLike (roll-Rule (map-Rule Child Rule inner y))
  rolled_like y h =
      let x = map-Rule Child Rule inner y in
      let seen : sights (roll-Rule x) ≡ record { tree = roll-Rule x; inside = false } ∷ below_step (map-Rule Rule SeenBelow seen_below x) false
      = ap (λ (f : Bool → List Sight). record { tree = roll-Rule x; inside = false } ∷ f false) (para-roll-Rule (Bool → List Sight) below_step x) in
      let top : Sight = record { tree = roll-Rule x; inside = false } in
      let here : strict → AgreesLayer n m x
      = λ s. subst (λ (z : Rule-F Rule). AgreesLayer n m z) (out-roll-Rule x) (h s top (head_in top (below (roll-Rule x) false)) refl) in
      let rest : strict → AgreesAll n m (below_step (map-Rule Rule SeenBelow seen_below x) false)
      = λ s v w. h s v (subst (λ (all : List Sight). Contains all v) (sym seen) (tail_in top v (below_step (map-Rule Rule SeenBelow seen_below x) false) w)) in
      subst (λ (t : Tree). Trees t (tree_of m (roll-Rule x))) (sym (para-roll-Rule Tree (tree_step n) x))
      (subst (λ (t : Tree). Trees (tree_step n (map-Rule Rule Numbered (numbered n) x)) t) (sym (para-roll-Rule Tree (tree_step m) x)) (layer_like y here rest))

  -- where the numberings agree, the alternatives are alike
  pub tree_like : (t : Rule) → (strict → Agrees n m t) → TreeLike strict n m (tree_of n t) (tree_of m t)
  tree_like t = ind-Rule IsLike (λ x y e. subst (λ (z : Rule-F Rule). IsLike (roll-Rule z)) e (rolled_like y)) t

  pub alts_like : (t : Rule) → (strict → Agrees n m t) → AltsLike strict n m (alts n t) (alts m t)
  alts_like t h = tree_like t h outermost outermost outermost_like

-- whether an alternative has steps does not depend on the numbers
pub same_steps : (n m : Numbers) (t : Rule) → has_steps (tree_of n t) ≡ has_steps (tree_of m t)
same_steps n m t = steps_same ⊥ n m (tree_of n t) (tree_of m t) (tree_like ⊥ n m t (λ s. absurd s))
