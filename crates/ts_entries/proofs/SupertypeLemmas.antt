-- The numbers of supertypes in a set, and their symbols in order.
use Rattle.std.proofs.Common.{◌≡◌, ◌∙◌, sym, ap, subst, refl, ℕ, zero, suc, ◌+◌, ◌<◌, ◌≤◌, ⊎_elim, List, [], ◌∷◌, map, length, get_or, take, slice_get, Some, None, IsTrue, ◌↔◌, true, cond, arith, Ordering, Less, Equal, Greater}
use Rattle.std.specs.Ordering.{nat_cmp, is_eq, MatchOrdering}
use Rattle.std.specs.List.{AllByRecursion}
use Rattle.std.specs.Cmp.{ranks}
use Rattle.std.specs.BTreeSet.{BTreeSet, contains}
use Rattle.std.specs.List.{Contains}
use Rattle.std.specs.List.Sorted.{IsStrictlySortedBy}
use Rattle.std.proofs.lemmas.Cmp.{nat_cmp_total}
use Rattle.std.proofs.lemmas.List.{take_all}
use Rattle.std.proofs.lemmas.List.Elements.{Contains-append_left, Contains-push, Contains-push_cases}
use Rattle.std.proofs.lemmas.Map.Views.{btree_set_contains_iff}
use Rattle.ts_base.specs.Bytes.{Bytes}
use Rattle.ts_core.specs.declared.rule.Grammar.{Grammar}
use Rattle.ts_core.specs.declared.symbol.Symbol.{Symbol}
use Rattle.ts_rules.specs.FirstSights.{Not}
use Rattle.ts_rules.specs.Normal.{IsSupertype, Rising}
use Rattle.ts_rules.specs.Numbers.{Numbers, IsInlined}
use Rattle.ts_rules.specs.Productions.{symbol}
use Rattle.ts_entries.specs.Supertypes.{IsNumberAmong, AreSupertypes}
use Rattle.ts_entries.proofs.MemberLemmas.{one_more, map_in, in_map}

-- ---- the set

rank_by : (j k : ℕ) (r : Ordering) → nat_cmp j k ≡ r → MatchOrdering r (j < k) (j ≡ k) (k < j)
rank_by j k r e = subst (λ (o : Ordering). MatchOrdering o (j < k) (j ≡ k) (k < j)) e (ranks j k)

module _ (g : Grammar) (n : Numbers) where
  pub numbers_left : (s : BTreeSet ℕ) (names : List Bytes) (i : ℕ) (name : Bytes) → i < length names → name ≡ get_or names i name → IsInlined g name
      → AreSupertypes g n (take i names) s → AreSupertypes g n (take (i + 1) names) s
  numbers_left s names i name lt at inlined before = λ q. (λ t. wider q ((before q).0 t), λ h. (before q).1 (narrower q h))
    where
      wider : (q : ℕ) → IsNumberAmong g n (take i names) q → IsNumberAmong g n (take (i + 1) names) q
      wider q h = (h.0, subst (λ (xs : List Bytes). Contains xs h.0) (sym (one_more names i name lt at)) (Contains-append_left (take i names) (name ∷ []) h.0 h.1), h.2, h.3)

      narrower : (q : ℕ) → IsNumberAmong g n (take (i + 1) names) q → IsNumberAmong g n (take i names) q
      narrower q h = ⊎_elim (λ w. (h.0, w, h.2, h.3)) (λ e. absurd (h.2 (subst (λ (x : Bytes). IsInlined g x) e inlined)))
          (Contains-push_cases (take i names) name h.0 (subst (λ (xs : List Bytes). Contains xs h.0) (one_more names i name lt at) h.1))

  pub numbers_more : (s new : BTreeSet ℕ) (names : List Bytes) (i : ℕ) (name : Bytes) (k : ℕ) → i < length names → name ≡ get_or names i name → Not (IsInlined g name) → k ≡ n.rule name
      → ((q : ℕ) → contains nat_cmp new q ≡ cond (is_eq (nat_cmp k q)) true (contains nat_cmp s q))
      → AreSupertypes g n (take i names) s → AreSupertypes g n (take (i + 1) names) new
  numbers_more s new names i name k lt at kept made updates before = λ q. (forward q (nat_cmp k q) refl, backward q)
    where
      told : (q : ℕ) (r : Ordering) → nat_cmp k q ≡ r → contains nat_cmp new q ≡ cond (is_eq r) true (contains nat_cmp s q)
      told q r e = updates q ∙ ap (λ (o : Ordering). cond (is_eq o) true (contains nat_cmp s q)) e

      wider : (q : ℕ) → IsNumberAmong g n (take i names) q → IsNumberAmong g n (take (i + 1) names) q
      wider q h = (h.0, subst (λ (xs : List Bytes). Contains xs h.0) (sym (one_more names i name lt at)) (Contains-append_left (take i names) (name ∷ []) h.0 h.1), h.2, h.3)

      forward : (q : ℕ) (r : Ordering) → nat_cmp k q ≡ r → IsTrue (contains nat_cmp new q) → IsNumberAmong g n (take (i + 1) names) q
      forward q Less e t = wider q ((before q).0 (sym (told q Less e) ∙ t))
      forward q Greater e t = wider q ((before q).0 (sym (told q Greater e) ∙ t))
      forward q Equal e t =
          let same : k ≡ q = rank_by k q Equal e in
          (name, subst (λ (xs : List Bytes). Contains xs name) (sym (one_more names i name lt at)) (Contains-push (take i names) name), kept, sym same ∙ made)

      kept_true : (q : ℕ) (r : Ordering) → nat_cmp k q ≡ r → contains nat_cmp s q ≡ true → contains nat_cmp new q ≡ true
      kept_true q Less e t = told q Less e ∙ t
      kept_true q Greater e t = told q Greater e ∙ t
      kept_true q Equal e t = told q Equal e

      new_true : (q : ℕ) (r : Ordering) → nat_cmp k q ≡ r → k ≡ q → contains nat_cmp new q ≡ true
      new_true q Less e same = absurd (let lt : k < q = rank_by k q Less e in omega (arith, same))
      new_true q Greater e same = absurd (let lt : q < k = rank_by k q Greater e in omega (arith, same))
      new_true q Equal e same = told q Equal e

      backward : (q : ℕ) → IsNumberAmong g n (take (i + 1) names) q → IsTrue (contains nat_cmp new q)
      backward q h = ⊎_elim
          (λ w. kept_true q (nat_cmp k q) refl ((before q).1 (h.0, w, h.2, h.3)))
          (λ e. new_true q (nat_cmp k q) refl (made ∙ ap n.rule e ∙ sym h.3))
          (Contains-push_cases (take i names) name h.0 (subst (λ (xs : List Bytes). Contains xs h.0) (one_more names i name lt at) h.1))

  pub numbers_all : (s : BTreeSet ℕ) (names : List Bytes) (i : ℕ) → length names ≤ i → AreSupertypes g n (take i names) s → AreSupertypes g n names s
  numbers_all s names i past before = subst (λ (xs : List Bytes). AreSupertypes g n xs s) (take_all i names past) before

  -- ---- the symbols

  pub symbols_are : (s : BTreeSet ℕ) (found : List Symbol) → AreSupertypes g n g.supertypes s → found ≡ map symbol s.keys → (x : Symbol) → Contains found x ↔ IsSupertype g n x
  symbols_are s found are is x = (forward, backward)
    where
      iff : (k : ℕ) → IsTrue (contains nat_cmp s k) ↔ Contains s.keys k
      iff k = btree_set_contains_iff nat_cmp_total (λ a b e. rank_by a b Equal e) s k

      forward : Contains found x → IsSupertype g n x
      forward w =
          let r = in_map symbol s.keys x (subst (λ (xs : List Symbol). Contains xs x) is w) in
          let h = (are r.0).0 ((iff r.0).1 r.1) in
          (h.0, h.1, h.2, sym r.2 ∙ ap symbol h.3)

      backward : IsSupertype g n x → Contains found x
      backward h =
          let w = (iff (n.rule h.0)).0 ((are (n.rule h.0)).1 (h.0, h.1, h.2, refl)) in
          subst (λ (xs : List Symbol). Contains xs x) (sym is) (subst (λ (y : Symbol). Contains (map symbol s.keys) y) (sym h.3) (map_in symbol s.keys (n.rule h.0) w))

all_at : {X : Type 0} (P : X → Type 0) (xs : List X) (k : ℕ) (x : X) → AllByRecursion P xs → slice_get xs k ≡ Some x → P x
all_at P [] k x all e = absurd (let f : None ≡ Some x = e in cc)
all_at P (y ∷ xs) zero x all e = let f : Some y ≡ Some x = e in let g : y ≡ x = cc in subst P g all.0
all_at P (y ∷ xs) (suc k) x all e = all_at P xs k x all.1 e

rising_keys : (ks : List ℕ) → IsStrictlySortedBy nat_cmp ks → (j k a b : ℕ) → j < k → slice_get ks j ≡ Some a → slice_get ks k ≡ Some b → a < b
unfolding IsStrictlySortedBy
rising_keys [] s j k a b lt e f = absurd (let g : None ≡ Some a = e in cc)
rising_keys (x ∷ xs) s j zero a b lt e f = absurd (omega arith)
rising_keys (x ∷ xs) s zero (suc k) a b lt e f =
    let g : Some x ≡ Some a = e in
    let h : x ≡ a = cc in
    let l : x < b = rank_by x b Less (all_at (λ (y : ℕ). nat_cmp x y ≡ Less) xs k b s.0 f) in
    omega (arith, h)
rising_keys (x ∷ xs) s (suc j) (suc k) a b lt e f = rising_keys xs s.1 j k a b (omega arith) e f

pub symbols_rise : (s : BTreeSet ℕ) (found : List Symbol) → IsStrictlySortedBy nat_cmp s.keys → found ≡ map symbol s.keys → Rising found
symbols_rise s found ordered is j k a b lt e f =
    let v = at s.keys j a (subst (λ (xs : List Symbol). slice_get xs j ≡ Some a) is e) in
    let w = at s.keys k b (subst (λ (xs : List Symbol). slice_get xs k ≡ Some b) is f) in
    let l : v.0 < w.0 = rising_keys s.keys ordered j k v.0 w.0 lt v.1 w.1 in
    subst (λ (x : Symbol). x.0 < b.0) v.2 (subst (λ (y : Symbol). v.0 < y.0) w.2 l)
  where
    at : (ks : List ℕ) (i : ℕ) (x : Symbol) → slice_get (map symbol ks) i ≡ Some x → (q : ℕ) × (slice_get ks i ≡ Some q) × (symbol q ≡ x)
    at [] i x e = absurd (let g : None ≡ Some x = e in cc)
    at (q ∷ ks) zero x e = (q, refl, let g : Some (symbol q) ≡ Some x = e in cc)
    at (q ∷ ks) (suc i) x e = at ks i x e
