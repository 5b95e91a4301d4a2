-- Bounds that are collected.
use Rattle.std.proofs.Common.{◌≡◌, ◌∙◌, sym, refl, subst, ℕ, zero, suc, ◌+◌, ◌-◌, ◌^◌, ◌≤◌, ◌<◌, ◌⊎◌, inl, inr, ⊎_elim, List, [], ◌∷◌, ◌++◌, length, take, get_or, slice_get, Some, IsPermutation, nat_eq, arith, rules}
use Rattle.std.specs.List.{Contains, dedup}
use Rattle.std.specs.Ordering.{nat_cmp, eq_by_cmp}
use Rattle.std.specs.List.Sorted.{IsStrictlySortedBy}
use Rattle.std.proofs.lemmas.List.{take_more}
use Rattle.std.proofs.lemmas.List.Elements.{Contains-append_left, Contains-push, Contains-push_cases}
use Rattle.std.proofs.lemmas.List.Sorted.{Contains-permutation}
use Rattle.std.proofs.lemmas.List.Kept.{Contains-dedup}
use Rattle.std.proofs.lemmas.Option.{slice_get_within}
use Rattle.ts_automata.specs.declared.node.Node.{Node}
use Rattle.ts_automata.specs.declared.node.Node.TheVariants.{Take}
use Rattle.ts_base.proofs.PlaceLemmas.{in_prefix}
use Rattle.ts_automata.proofs.SetLemmas.{at_last}
use Rattle.ts_automata.proofs.NumberLemmas.{same_nat, nat_equiv}
use Rattle.ts_automata.specs.Classes.{IsCut, Bounded, HasBounds, OfNode, OfNodes}

pub bounded_more : (range : ℕ × ℕ) (a b : List ℕ) → ((x : ℕ) → Contains a x → Contains b x) → Bounded range a → Bounded range b
bounded_more range a b more h = (more range.0 h.0, (λ lt. more (range.1 + 1) (h.1 lt)))

pub has_none : (Q : ℕ × ℕ → Type 0) (a : List ℕ) → ((range : ℕ × ℕ) → Q range → ⊥) → HasBounds Q a a
has_none Q a none = record { kept = λ b h. h; each = λ range q. absurd (none range q) }

pub has_both : (Q R S : ℕ × ℕ → Type 0) (a b c : List ℕ) → ((range : ℕ × ℕ) → S range → Q range ⊎ R range) → HasBounds Q a b → HasBounds R b c → HasBounds S a c
has_both Q R S a b c split one two = record {
  kept = λ x h. two.kept x (one.kept x h);
  each = λ range s. ⊎_elim (λ q. bounded_more range b c two.kept (one.each range q)) (λ r. two.each range r) (split range s);
}

pub has_same : (Q S : ℕ × ℕ → Type 0) (a b : List ℕ) → ((range : ℕ × ℕ) → S range → Q range) → HasBounds Q a b → HasBounds S a b
has_same Q S a b to h = record { kept = h.kept; each = λ range s. h.each range (to range s) }

-- one range
pub has_one : (range : ℕ × ℕ) (a b c : List ℕ) → b ≡ a ++ range.0 ∷ [] → ((x : ℕ) → Contains b x → Contains c x) → (range.1 < 2 ^ 32 - 1 → Contains c (range.1 + 1)) → HasBounds (λ r. r ≡ range) a c
has_one range a b c is more high = record {
  kept = λ x h. more x (subst (λ (l : List ℕ). Contains l x) (sym is) (Contains-append_left a (range.0 ∷ []) x h));
  each = λ r e. subst (λ (q : ℕ × ℕ). Bounded q c) (sym e) (more range.0 (subst (λ (l : List ℕ). Contains l range.0) (sym is) (Contains-push a range.0)), high);
}

pub pushed_keeps : (a b : List ℕ) (y : ℕ) → b ≡ a ++ y ∷ [] → (x : ℕ) → Contains a x → Contains b x
pushed_keeps a b y is x h = subst (λ (l : List ℕ). Contains l x) (sym is) (Contains-append_left a (y ∷ []) x h)

pub pushed_has : (a b : List ℕ) (y : ℕ) → b ≡ a ++ y ∷ [] → Contains b y
pushed_has a b y is = subst (λ (l : List ℕ). Contains l y) (sym is) (Contains-push a y)

none_taken : {X : Type 0} (xs : List X) (x : X) → Contains (take 0 xs) x → ⊥
none_taken xs x h = let lt = h.1 in omega arith

pub ranges_none : (ranges : List (ℕ × ℕ)) (a : List ℕ) → HasBounds (Contains (take 0 ranges)) a a
ranges_none ranges a = has_none (Contains (take 0 ranges)) a (λ r h. none_taken ranges r h)

pub ranges_more : (ranges : List (ℕ × ℕ)) (i : ℕ) (d : ℕ × ℕ) (a b c : List ℕ) → i < length ranges → HasBounds (Contains (take i ranges)) a b → HasBounds (λ r. r ≡ get_or ranges i d) b c
    → HasBounds (Contains (take (i + 1) ranges)) a c
ranges_more ranges i d a b c below before one =
    let x : ℕ × ℕ = get_or ranges i d in
    rw (take_more ranges i d below)
    (has_both (Contains (take i ranges)) (λ r. r ≡ x) (Contains (take i ranges ++ x ∷ [])) a b c (λ r h. ⊎_elim (λ w. inl w) (λ e. inr (sym e)) (Contains-push_cases (take i ranges) x r h)) before one)

pub nodes_none : (T : List Node) (a : List ℕ) → HasBounds (OfNodes (take 0 T)) a a
nodes_none T a = has_none (OfNodes (take 0 T)) a (λ r h. let w = slice_get_within (take 0 T) h.place h.node h.at in omega arith)

pub nodes_more : (T : List Node) (i : ℕ) (node : Node) (a b c : List ℕ) → i < length T → node ≡ get_or T i node → HasBounds (OfNodes (take i T)) a b → HasBounds (OfNode node) b c
    → HasBounds (OfNodes (take (i + 1) T)) a c
nodes_more T i node a b c below is before one =
    rw (take_more T i node below)
    (subst (λ (x : Node). HasBounds (OfNodes (take i T ++ x ∷ [])) a c) is
    (has_both (OfNodes (take i T)) (OfNode node) (OfNodes (take i T ++ node ∷ [])) a b c (λ r h. which r h) before one))
  where
    cases : (m n : ℕ) → (m < n) ⊎ (n ≤ m)
    cases zero zero = inr (omega arith)
    cases zero (suc n) = inl (omega arith)
    cases (suc m) zero = inr (omega arith)
    cases (suc m) (suc n) = ⊎_elim (λ h. inl (omega arith)) (λ h. inr (omega arith)) (cases m n)

    which : (r : ℕ × ℕ) → OfNodes (take i T ++ node ∷ []) r → OfNodes (take i T) r ⊎ OfNode node r
    which r h = ⊎_elim
        (λ lt. inl (record { place = h.place; node = h.node; at = sym (in_prefix (take i T) (node ∷ []) h.place lt) ∙ h.at; of_node = h.of_node }))
        (λ past. let e = at_last (take i T) node h.node h.place past h.at in inr (subst (λ (x : Node). OfNode x r) e.1 h.of_node))
        (cases h.place (length (take i T)))

pub ties : (x y : ℕ) → nat_eq x y ≡ eq_by_cmp nat_cmp x y
ties x y = search rules

pub is_cut : (T : List Node) (all sorted kept : List ℕ) → HasBounds (OfNodes T) (0 ∷ []) all → IsPermutation all sorted → kept ≡ dedup nat_eq sorted → IsStrictlySortedBy nat_cmp kept → IsCut T kept
is_cut T all sorted kept h moved is order = record {
  sorted = order;
  zero_in = there 0 (h.kept 0 (Contains-push [] 0));
  low = λ s a ranges range at member. there range.0 (h.each range (of s a ranges range at member)).0;
  high = λ s a ranges range at member lt. there (range.1 + 1) ((h.each range (of s a ranges range at member)).1 lt);
}
  where
    there : (b : ℕ) → Contains all b → Contains kept b
    there b h = subst (λ (l : List ℕ). Contains l b) (sym is) (Contains-dedup nat_equiv same_nat sorted b (Contains-permutation all sorted b moved h))

    of : (s a : ℕ) (ranges : List (ℕ × ℕ)) (range : ℕ × ℕ) → slice_get T s ≡ Some (Take ranges a) → Contains ranges range → OfNodes T range
    of s a ranges range at member = record { place = s; node = Take ranges a; at = at; of_node = record { ranges = ranges; to = a; is = refl; member = member } }
