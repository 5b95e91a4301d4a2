-- Lists of alternatives without some of those that stand earlier too.
use Rattle.std.proofs.Common.{◌≡◌, ◌∙◌, sym, ap, subst, refl, ⊎_elim, Bool, true, false, if◌then◌else◌, List, [], ◌∷◌, ◌++◌, map, append_assoc, append-nil, ℕ, ℤ, ◌+◌, ◌<◌, ◌≤◌, length, take, get_or}
use Rattle.std.specs.List.{Contains, flat_map}
use Rattle.std.proofs.lemmas.List.Elements.{Contains-append_left, Contains-append_right, Contains-append_cases}
use Rattle.std.proofs.lemmas.List.{take_more, take_all}
use Rattle.ts_core.specs.declared.flat.Assoc.{Assoc}
use Rattle.ts_core.specs.declared.flat.Prec.{Prec}
use Rattle.ts_core.specs.declared.flat.Production.{Production}
use Rattle.ts_rules.specs.declared.tree.Alternative.{Alternative}
use Rattle.ts_rules.specs.declared.tree.Around.{Around}
use Rattle.ts_rules.specs.declared.tree.Tree.{Tree}
use Rattle.ts_rules.specs.declared.tree.Tree.TheVariants as tree
use Rattle.ts_rules.specs.Numbers.{outermost}
use Rattle.ts_rules.specs.Alternatives.{Alternatives, alternative, alternatives_of, step_at, blank, followed, joins, sequence, choice_of, alternatives_each, in_field, in_alias, in_dynamic, in_group, in_sequence, is_last, left, group}
use Rattle.ts_rules.specs.FirstSights.{AreFirstSights, Each, end, both}
use Rattle.ts_rules.specs.Productions.{filled, unless_blank, again}
use Rattle.ts_productions.specs.Thin.{IsThin, AreOnlyBlank, IsThinTree, IsBlankTree, AreBlankTrees, AreThinBranches, HasBlankBranch, AreBranches}
use Rattle.ts_productions.specs.declared.prune.Branches.{Branches}
use Rattle.ts_productions.proofs.DropLemmas.{sights_drop}
use Rattle.ts_productions.proofs.MemberLemmas.{none_in, head_in, tail_in, member_cases, flat_in, in_flat}
use Rattle.ts_productions.proofs.SpreadLemmas.{flat_append, flat_flat}
use Rattle.ts_productions.proofs.TreeLemmas.{alternatives_blank, alternatives_field, alternatives_alias, alternatives_group, alternatives_dynamic, alternatives_seq, alternatives_choice}

abbrev Sights : List Production → List Production → Type 0
Sights seen found = AreFirstSights seen found

-- what stands between two lists, apart
apart : (a x w b : List Production) → a ++ ((x ++ w) ++ b) ≡ (a ++ x) ++ (w ++ b)
apart a x w b = ap (λ (ys : List Production). a ++ ys) (append_assoc x w b) ∙ sym (append_assoc a x (w ++ b))

pub thin_refl : (xs : Alternatives) → IsThin xs xs
thin_refl xs = record { same = λ f a b found h. h; has = λ x w. w }

pub thin_after : (xs ys zs : Alternatives) → IsThin xs ys → IsThin ys zs → IsThin xs zs
thin_after xs ys zs one two = record { same = λ f a b found h. one.same f a b found (two.same f a b found h); has = λ x w. one.has x (two.has x w) }

pub thin_append : (xs ys vs ws : Alternatives) → IsThin xs ys → IsThin vs ws → IsThin (xs ++ vs) (ys ++ ws)
thin_append xs ys vs ws one two = record {
  same = λ f a b found h.
      let k : Sights (a ++ (flat_map f ys ++ (flat_map f ws ++ b))) found =
      subst (λ (seen : List Production). Sights seen found)
      (ap (λ (zs : List Production). a ++ (zs ++ b)) (flat_append f ys ws) ∙ ap (λ (zs : List Production). a ++ zs) (append_assoc (flat_map f ys) (flat_map f ws) b)) h in
      let l : Sights (a ++ (flat_map f xs ++ (flat_map f ws ++ b))) found = one.same f a (flat_map f ws ++ b) found k in
      let m : Sights ((a ++ flat_map f xs) ++ (flat_map f ws ++ b)) found = subst (λ (seen : List Production). Sights seen found) (sym (append_assoc a (flat_map f xs) (flat_map f ws ++ b))) l in
      let n : Sights ((a ++ flat_map f xs) ++ (flat_map f vs ++ b)) found = two.same f (a ++ flat_map f xs) b found m in
      subst (λ (seen : List Production). Sights seen found) (sym (apart a (flat_map f xs) (flat_map f vs) b) ∙ ap (λ (zs : List Production). a ++ (zs ++ b)) (sym (flat_append f xs vs))) n;
  has = λ x w. ⊎_elim (λ v. Contains-append_left xs vs x (one.has x v)) (λ v. Contains-append_right xs vs x (two.has x v)) (Contains-append_cases ys ws x w);
}

-- what stands earlier too is left out
pub thin_drop : (xs ys ds : Alternatives) → IsThin xs ys → ((p : Alternative) → Contains ds p → Contains ys p) → IsThin (xs ++ ds) ys
thin_drop xs ys ds one known = record {
  same = λ f a b found h.
      let k : Sights ((a ++ flat_map f xs) ++ b) found = subst (λ (seen : List Production). Sights seen found) (sym (append_assoc a (flat_map f xs) b)) (one.same f a b found h) in
      let again : (z : Production) → Contains (flat_map f ds) z → Contains (a ++ flat_map f xs) z =
      λ z w. let r = in_flat f ds z w in Contains-append_right a (flat_map f xs) z (flat_in f xs r.0 z (one.has r.0 (known r.0 r.1)) r.2) in
      subst (λ (seen : List Production). Sights seen found) (sym (apart a (flat_map f xs) (flat_map f ds) b) ∙ ap (λ (zs : List Production). a ++ (zs ++ b)) (sym (flat_append f xs ds)))
      (sights_drop (a ++ flat_map f xs) (flat_map f ds) b again found k);
  has = λ x w. Contains-append_left xs ds x (one.has x w);
}

-- ---- what comes of each alternative

pub thin_flat : (g : Alternative → Alternatives) (xs ys : Alternatives) → IsThin xs ys → IsThin (flat_map g xs) (flat_map g ys)
thin_flat g xs ys one = record {
  same = λ f a b found h.
      subst (λ (zs : List Production). Sights (a ++ (zs ++ b)) found) (flat_flat g f xs)
      (one.same (λ (x : Alternative). flat_map f (g x)) a b found (subst (λ (zs : List Production). Sights (a ++ (zs ++ b)) found) (sym (flat_flat g f ys)) h));
  has = λ x w. let r = in_flat g ys x w in flat_in g xs r.0 x (one.has r.0 r.1) r.2;
}

map_flat_same : (g : Alternative → Alternative) (xs : Alternatives) → map g xs ≡ flat_map (λ (x : Alternative). g x ∷ []) xs
map_flat_same g [] = refl
map_flat_same g (x ∷ xs) = ap (λ (zs : Alternatives). g x ∷ zs) (map_flat_same g xs)

carried : (xs ys vs ws : Alternatives) → vs ≡ xs → ws ≡ ys → IsThin xs ys → IsThin vs ws
carried xs ys vs ws e f h = subst (λ (zs : Alternatives). IsThin zs ws) (sym e) (subst (λ (zs : Alternatives). IsThin xs zs) (sym f) h)

pub thin_map : (g : Alternative → Alternative) (xs ys : Alternatives) → IsThin xs ys → IsThin (map g xs) (map g ys)
thin_map g xs ys h = carried (flat_map (λ (x : Alternative). g x ∷ []) xs) (flat_map (λ (x : Alternative). g x ∷ []) ys) (map g xs) (map g ys)
    (map_flat_same g xs) (map_flat_same g ys) (thin_flat (λ (x : Alternative). g x ∷ []) xs ys h)

thin_each : (g k : Alternative → Alternatives) → ((x : Alternative) → IsThin (g x) (k x)) → (xs : Alternatives) → IsThin (flat_map g xs) (flat_map k xs)
thin_each g k h [] = thin_refl []
thin_each g k h (x ∷ xs) = thin_append (g x) (k x) (flat_map g xs) (flat_map k xs) (h x) (thin_each g k h xs)

filled_flat : (xs : Alternatives) → filled xs ≡ flat_map (λ (x : Alternative). unless_blank x x.steps) xs
filled_flat [] = refl
filled_flat (x ∷ xs) = ap (λ (zs : Alternatives). unless_blank x x.steps ++ zs) (filled_flat xs)

pub thin_filled : (xs ys : Alternatives) → IsThin xs ys → IsThin (filled xs) (filled ys)
thin_filled xs ys h =
    carried (flat_map (λ (x : Alternative). unless_blank x x.steps) xs) (flat_map (λ (x : Alternative). unless_blank x x.steps) ys) (filled xs) (filled ys)
    (filled_flat xs) (filled_flat ys) (thin_flat (λ (x : Alternative). unless_blank x x.steps) xs ys h)

pub filled_same : (xs : Alternatives) → flat_map (λ (p : Alternative). unless_blank p p.steps) xs ≡ filled xs
filled_same xs = sym (filled_flat xs)

pub thin_again : (number : ℕ) (xs ys : Alternatives) → IsThin xs ys → IsThin (again number xs) (again number ys)
thin_again number xs ys h = thin_map (λ (p : Alternative). alternative p.dynamic (step_at number outermost ∷ p.steps)) xs ys h

-- the same first sights
pub thin_sights : (f : Alternative → List Production) (xs ys : Alternatives) (found : List Production) → IsThin xs ys → AreFirstSights (flat_map f ys) found → AreFirstSights (flat_map f xs) found
thin_sights f xs ys found h firsts =
    subst (λ (seen : List Production). Sights seen found) (append-nil (flat_map f xs))
    (h.same f [] [] found (subst (λ (seen : List Production). Sights seen found) (sym (append-nil (flat_map f ys))) firsts))

-- ---- joins

joins_flat : (xs ys : Alternatives) → joins xs ys ≡ flat_map (λ (x : Alternative). map (λ y. followed x y) ys) xs
joins_flat [] ys = refl
joins_flat (x ∷ xs) ys = ap (λ (zs : Alternatives). map (λ y. followed x y) ys ++ zs) (joins_flat xs ys)

thin_joins : (xs vs ys ws : Alternatives) → IsThin xs vs → IsThin ys ws → IsThin (joins xs ys) (joins vs ws)
thin_joins xs vs ys ws one two =
    carried (flat_map (λ (x : Alternative). map (λ y. followed x y) ys) xs) (flat_map (λ (x : Alternative). map (λ y. followed x y) ws) vs) (joins xs ys) (joins vs ws) (joins_flat xs ys) (joins_flat vs ws)
    (thin_after (flat_map (λ (x : Alternative). map (λ y. followed x y) ys) xs) (flat_map (λ (x : Alternative). map (λ y. followed x y) ys) vs) (flat_map (λ (x : Alternative). map (λ y. followed x y) ws) vs)
    (thin_flat (λ (x : Alternative). map (λ y. followed x y) ys) xs vs one)
    (thin_each (λ (x : Alternative). map (λ y. followed x y) ys) (λ (x : Alternative). map (λ y. followed x y) ws) (λ x. thin_map (λ y. followed x y) ys ws two) vs))

-- ---- trees

last_same : (ts us : List Tree) → Each IsThinTree ts us → is_last ts ≡ is_last us
last_same _ _ end = refl
last_same _ _ (both t u ts us h rest) = refl

thin_members : (ts us : List Tree) → Each IsThinTree ts us → (a : Around) → IsThin (sequence (alternatives_each ts a)) (sequence (alternatives_each us a))
thin_members _ _ end a = thin_refl (blank ∷ [])
thin_members _ _ (both t u ts us h rest) a =
    let one : IsThin (alternatives_of t (in_sequence (is_last ts) a)) (alternatives_of u (in_sequence (is_last us) a)) =
    subst (λ (b : Bool). IsThin (alternatives_of t (in_sequence b a)) (alternatives_of u (in_sequence (is_last us) a))) (sym (last_same ts us rest)) (h (in_sequence (is_last us) a)) in
    thin_joins (alternatives_of t (in_sequence (is_last ts) a)) (alternatives_of u (in_sequence (is_last us) a)) (sequence (alternatives_each ts a)) (sequence (alternatives_each us a))
    one (thin_members ts us rest a)

pub thin_seq : (ts us : List Tree) → Each IsThinTree ts us → IsThinTree (tree.Seq ts) (tree.Seq us)
thin_seq ts us all a = carried (sequence (alternatives_each ts a)) (sequence (alternatives_each us a)) (alternatives_of (tree.Seq ts) a) (alternatives_of (tree.Seq us) a) (alternatives_seq ts a) (alternatives_seq us a) (thin_members ts us all a)

pub thin_choice : (ts us : List Tree) → AreThinBranches ts us → IsThinTree (tree.Choice ts) (tree.Choice us)
thin_choice ts us h a = carried (choice_of ts a) (choice_of us a) (alternatives_of (tree.Choice ts) a) (alternatives_of (tree.Choice us) a) (alternatives_choice ts a) (alternatives_choice us a) (h a)

grouped : (a : Around) (xs ys : Alternatives) → IsThin xs ys → IsThin (group a xs) (group a ys)
grouped a xs ys h = by a.at_end
  where
    by : (b : Bool) → IsThin (if b then xs else map (left a) xs) (if b then ys else map (left a) ys)
    by true = h
    by false = thin_map (left a) xs ys h

pub thin_group : (prec : Prec) (assoc : Assoc) (t u : Tree) → IsThinTree t u → IsThinTree (tree.Group prec assoc t) (tree.Group prec assoc u)
thin_group prec assoc t u h a = carried (group a (alternatives_of t (in_group prec assoc a))) (group a (alternatives_of u (in_group prec assoc a))) (alternatives_of (tree.Group prec assoc t) a) (alternatives_of (tree.Group prec assoc u) a)
    (alternatives_group prec assoc t a) (alternatives_group prec assoc u a) (grouped a (alternatives_of t (in_group prec assoc a)) (alternatives_of u (in_group prec assoc a)) (h (in_group prec assoc a)))

pub each_more : (ts us : List Tree) (t u : Tree) → Each IsThinTree ts us → IsThinTree t u → Each IsThinTree (ts ++ t ∷ []) (us ++ u ∷ [])
each_more _ _ t u end h = both t u [] [] h end
each_more _ _ t u (both v w vs ws k rest) h = both v w (vs ++ t ∷ []) (ws ++ u ∷ []) k (each_more vs ws t u rest h)

-- ---- empty alternatives

-- of empty alternatives alone the first is enough
pub thin_blank : (xs : Alternatives) → AreOnlyBlank xs → IsThin xs (blank ∷ [])
thin_blank [] h = absurd (none_in blank h.some)
thin_blank (x ∷ xs) h =
    let is : x ≡ blank = h.only x (head_in x xs) in
    subst (λ (p : Alternative). IsThin (p ∷ xs) (blank ∷ [])) (sym is)
    (thin_drop (blank ∷ []) (blank ∷ []) xs (thin_refl (blank ∷ []))
    (λ p w. subst (λ (q : Alternative). Contains (blank ∷ []) q) (sym (h.only p (tail_in x p xs w))) (head_in blank [])))

pub thin_empty : (t : Tree) → IsBlankTree t → IsThinTree t tree.Blank
thin_empty t h a = subst (λ (zs : Alternatives). IsThin (alternatives_of t a) zs) (sym (alternatives_blank a)) (thin_blank (alternatives_of t a) (h a))

blank_one : AreOnlyBlank (blank ∷ [])
blank_one = record {
  some = head_in blank [];
  only = λ x w. ⊎_elim (λ e. e) (λ none. absurd (none_in x none)) (member_cases blank x [] w);
}

blank_append : (xs ys : Alternatives) → AreOnlyBlank xs → AreOnlyBlank ys → AreOnlyBlank (xs ++ ys)
blank_append xs ys one two = record {
  some = Contains-append_left xs ys blank one.some;
  only = λ x w. ⊎_elim (λ v. one.only x v) (λ v. two.only x v) (Contains-append_cases xs ys x w);
}

mapped : (g : Alternative → Alternative) (xs : Alternatives) → g blank ≡ blank → AreOnlyBlank xs → AreOnlyBlank (map g xs)
mapped g xs is h = subst AreOnlyBlank (sym (map_flat_same g xs)) (record {
  some = flat_in (λ (x : Alternative). g x ∷ []) xs blank blank h.some (subst (λ (p : Alternative). Contains (g blank ∷ []) p) is (head_in (g blank) []));
  only = λ x w.
      let r = in_flat (λ (y : Alternative). g y ∷ []) xs x w in
      ⊎_elim (λ e. e ∙ ap g (h.only r.0 r.1) ∙ is) (λ none. absurd (none_in x none)) (member_cases (g r.0) x [] r.2);
})

blank_joins : (xs ys : Alternatives) → AreOnlyBlank xs → AreOnlyBlank ys → AreOnlyBlank (joins xs ys)
blank_joins xs ys one two = subst AreOnlyBlank (sym (joins_flat xs ys)) (record {
  some = flat_in (λ (x : Alternative). map (λ y. followed x y) ys) xs blank blank one.some (joined blank refl).some;
  only = λ x w.
      let r = in_flat (λ (y : Alternative). map (λ z. followed y z) ys) xs x w in
      (joined r.0 (one.only r.0 r.1)).only x r.2;
})
  where
    joined : (x : Alternative) → x ≡ blank → AreOnlyBlank (map (λ y. followed x y) ys)
    joined x e = subst (λ (p : Alternative). AreOnlyBlank (map (λ y. followed p y) ys)) (sym e) (mapped (λ y. followed blank y) ys refl two)

blank_members : (ts : List Tree) → AreBlankTrees ts → (a : Around) → AreOnlyBlank (sequence (alternatives_each ts a))
blank_members [] h a = blank_one
blank_members (t ∷ ts) h a = blank_joins (alternatives_of t (in_sequence (is_last ts) a)) (sequence (alternatives_each ts a))
    (h t (head_in t ts) (in_sequence (is_last ts) a)) (blank_members ts (λ u w. h u (tail_in t u ts w)) a)

pub blank_seq : (ts : List Tree) → AreBlankTrees ts → IsBlankTree (tree.Seq ts)
blank_seq ts h a = subst AreOnlyBlank (sym (alternatives_seq ts a)) (blank_members ts h a)

blank_branches : (t : Tree) (ts : List Tree) → AreBlankTrees (t ∷ ts) → (a : Around) → AreOnlyBlank (choice_of (t ∷ ts) a)
blank_branches t [] h a = subst AreOnlyBlank (sym (append-nil (alternatives_of t a))) (h t (head_in t []) a)
blank_branches t (u ∷ ts) h a = blank_append (alternatives_of t a) (choice_of (u ∷ ts) a) (h t (head_in t (u ∷ ts)) a) (blank_branches u ts (λ v w. h v (tail_in t v (u ∷ ts) w)) a)

pub blank_choice : (ts : List Tree) → (ts ≡ [] → ⊥) → AreBlankTrees ts → IsBlankTree (tree.Choice ts)
blank_choice [] some h a = absurd (some refl)
blank_choice (t ∷ ts) some h a = subst AreOnlyBlank (sym (alternatives_choice (t ∷ ts) a)) (blank_branches t ts h a)

pub blank_field : (field : ℕ) (t : Tree) → IsBlankTree t → IsBlankTree (tree.Field field t)
blank_field field t h a = subst AreOnlyBlank (sym (alternatives_field field t a)) (h (in_field field a))

pub blank_alias : (number : ℕ) (t : Tree) → IsBlankTree t → IsBlankTree (tree.Alias number t)
blank_alias number t h a = subst AreOnlyBlank (sym (alternatives_alias number t a)) (h (in_alias number a))

pub blank_dynamic : (value : ℤ) (t : Tree) → IsBlankTree t → IsBlankTree (tree.Dynamic value t)
blank_dynamic value t h a = subst AreOnlyBlank (sym (alternatives_dynamic value t a)) (h (in_dynamic value a))

blank_grouped : (a : Around) (xs : Alternatives) → AreOnlyBlank xs → AreOnlyBlank (group a xs)
blank_grouped a xs h = by a.at_end
  where
    by : (b : Bool) → AreOnlyBlank (if b then xs else map (left a) xs)
    by true = h
    by false = mapped (left a) xs refl h

pub blank_group : (prec : Prec) (assoc : Assoc) (t : Tree) → IsBlankTree t → IsBlankTree (tree.Group prec assoc t)
blank_group prec assoc t h a = subst AreOnlyBlank (sym (alternatives_group prec assoc t a)) (blank_grouped a (alternatives_of t (in_group prec assoc a)) (h (in_group prec assoc a)))

-- ---- branches

choice_append : (ts : List Tree) (t : Tree) (a : Around) → choice_of (ts ++ t ∷ []) a ≡ choice_of ts a ++ alternatives_of t a
choice_append [] t a = append-nil (alternatives_of t a)
choice_append (u ∷ ts) t a = ap (λ (zs : Alternatives). alternatives_of u a ++ zs) (choice_append ts t a) ∙ sym (append_assoc (alternatives_of u a) (choice_of ts a) (alternatives_of t a))

pub branch_more : (ts us : List Tree) (t u : Tree) → AreThinBranches ts us → IsThinTree t u → AreThinBranches (ts ++ t ∷ []) (us ++ u ∷ [])
branch_more ts us t u h k a = carried (choice_of ts a ++ alternatives_of t a) (choice_of us a ++ alternatives_of u a) (choice_of (ts ++ t ∷ []) a) (choice_of (us ++ u ∷ []) a)
    (choice_append ts t a) (choice_append us u a) (thin_append (choice_of ts a) (choice_of us a) (alternatives_of t a) (alternatives_of u a) (h a) (k a))

-- an empty branch is left out, where an empty alternative is there
pub branch_dropped : (ts us : List Tree) (t : Tree) → AreThinBranches ts us → IsBlankTree t → HasBlankBranch us → AreThinBranches (ts ++ t ∷ []) us
branch_dropped ts us t h empty there a = subst (λ (zs : Alternatives). IsThin zs (choice_of us a)) (sym (choice_append ts t a))
    (thin_drop (choice_of ts a) (choice_of us a) (alternatives_of t a) (h a) (λ p w. subst (λ (q : Alternative). Contains (choice_of us a) q) (sym ((empty a).only p w)) (there a)))

pub branch_blank : (us : List Tree) → HasBlankBranch (us ++ tree.Blank ∷ [])
branch_blank us a = subst (λ (zs : Alternatives). Contains zs blank) (sym (choice_append us tree.Blank a))
    (Contains-append_right (choice_of us a) (alternatives_of tree.Blank a) blank (subst (λ (zs : Alternatives). Contains zs blank) (sym (alternatives_blank a)) (head_in blank [])))

pub branch_kept : (us : List Tree) (u : Tree) → HasBlankBranch us → HasBlankBranch (us ++ u ∷ [])
branch_kept us u h a = subst (λ (zs : Alternatives). Contains zs blank) (sym (choice_append us u a)) (Contains-append_left (choice_of us a) (alternatives_of u a) blank (h a))

-- ---- as the code goes

taken : (ts : List Tree) (i : ℕ) (t : Tree) → i < length ts → t ≡ get_or ts i t → take (i + 1) ts ≡ take i ts ++ t ∷ []
taken ts i t lt at = take_more ts i t lt ∙ ap (λ (u : Tree). take i ts ++ u ∷ []) (sym at)

-- all before, and the next
pub blank_next : (ts : List Tree) (i : ℕ) (t : Tree) → i < length ts → t ≡ get_or ts i t → AreBlankTrees (take i ts) → IsBlankTree t → AreBlankTrees (take (i + 1) ts)
blank_next ts i t lt at before here = subst AreBlankTrees (sym (taken ts i t lt at))
    (λ u w. ⊎_elim (λ v. before u v) (λ v. ⊎_elim (λ e. subst IsBlankTree (sym e) here) (λ none. absurd (none_in u none)) (member_cases t u [] v)) (Contains-append_cases (take i ts) (t ∷ []) u w))

pub blank_all : (ts : List Tree) (i : ℕ) → length ts ≤ i → AreBlankTrees (take i ts) → AreBlankTrees ts
blank_all ts i past before = subst AreBlankTrees (take_all i ts past) before

pub each_next : (ts us : List Tree) (i : ℕ) (t u : Tree) → i < length ts → t ≡ get_or ts i t → Each IsThinTree (take i ts) us → IsThinTree t u → Each IsThinTree (take (i + 1) ts) (us ++ u ∷ [])
each_next ts us i t u lt at before here = subst (λ (vs : List Tree). Each IsThinTree vs (us ++ u ∷ [])) (sym (taken ts i t lt at)) (each_more (take i ts) us t u before here)

pub each_all : (ts us : List Tree) (i : ℕ) → length ts ≤ i → Each IsThinTree (take i ts) us → Each IsThinTree ts us
each_all ts us i past before = subst (λ (vs : List Tree). Each IsThinTree vs us) (take_all i ts past) before

pub branches_begin : (b : Branches) → b.found ≡ [] → b.has_blank ≡ false → AreBranches [] b
branches_begin b none no_blank = record {
  thin = λ a. subst (λ (us : List Tree). IsThin [] (choice_of us a)) (sym none) (thin_refl []);
  blank = λ so. absurd (let f : false ≡ true = sym no_blank ∙ so in cc);
}

pub branches_next : (ts : List Tree) (i : ℕ) (t : Tree) (old new : Branches) → i < length ts → t ≡ get_or ts i t → AreBranches (take i ts) old
    → ((vs : List Tree) → AreBranches vs old → AreBranches (vs ++ t ∷ []) new) → AreBranches (take (i + 1) ts) new
branches_next ts i t old new lt at before step = subst (λ (vs : List Tree). AreBranches vs new) (sym (taken ts i t lt at)) (step (take i ts) before)

pub branches_all : (ts : List Tree) (b : Branches) (i : ℕ) → length ts ≤ i → AreBranches (take i ts) b → AreThinBranches ts b.found
branches_all ts b i past before = subst (λ (vs : List Tree). AreThinBranches vs b.found) (take_all i ts past) before.thin

-- a branch that is not empty
pub branch_pushed : (ts : List Tree) (t u : Tree) (old new : Branches) → AreBranches ts old → IsThinTree t u → new.found ≡ old.found ++ u ∷ [] → new.has_blank ≡ old.has_blank → AreBranches (ts ++ t ∷ []) new
branch_pushed ts t u old new before thin found kept = record {
  thin = subst (λ (us : List Tree). AreThinBranches (ts ++ t ∷ []) us) (sym found) (branch_more ts old.found t u before.thin thin);
  blank = λ so. subst HasBlankBranch (sym found) (branch_kept old.found u (before.blank (sym kept ∙ so)));
}

-- an empty branch behind an empty one
pub branch_skipped : (ts : List Tree) (t : Tree) (b : Branches) → AreBranches ts b → IsBlankTree t → b.has_blank ≡ true → AreBranches (ts ++ t ∷ []) b
branch_skipped ts t b before empty there_ = record { thin = branch_dropped ts b.found t before.thin empty (before.blank there_); blank = before.blank }

-- the first empty branch
pub branch_first : (ts : List Tree) (t : Tree) (old new : Branches) → AreBranches ts old → IsBlankTree t → new.found ≡ old.found ++ tree.Blank ∷ [] → AreBranches (ts ++ t ∷ []) new
branch_first ts t old new before empty found = record {
  thin = subst (λ (us : List Tree). AreThinBranches (ts ++ t ∷ []) us) (sym found) (branch_more ts old.found t tree.Blank before.thin (thin_empty t empty));
  blank = λ so. subst HasBlankBranch (sym found) (branch_blank old.found);
}
