-- Sets that are numbered once each.
use Rattle.std.proofs.Common.{◌≡◌, ◌∙◌, sym, ap, refl, subst, ℕ, zero, suc, ◌||◌, ◌⊎◌, inl, inr, ⊎_elim, Bool, true, false, true≢false, List, [], ◌∷◌, ◌++◌, get_or, slice_get, Some, arith, ◌↔◌, if◌then◌else◌, nat_eq}
use Rattle.std.specs.Global.{Vec}
use Rattle.std.specs.Bool.{Decides}
use Rattle.std.specs.List.{list_any, position}
use lib.Pointwise.{pointwise}
use Rattle.std.proofs.lemmas.List.{append-nil}
use Rattle.std.proofs.lemmas.List.Quantifiers.{position-Some}
use Rattle.std.proofs.lemmas.Option.{slice_get_within, slice_get-get_or}
use Rattle.std.proofs.lemmas.Slice.Eq.{slice_eq-Decides}
use Rattle.std.proofs.lemmas.Bool.Decides.{nat_tests}
use Rattle.indexmap.specs.IndexSet.{insert_key}
use Rattle.ts_bits.specs.declared.set.BitSet.{BitSet}
use Rattle.ts_bits.specs.Members.{Marked, Has, IsWide}
use Rattle.ts_bits.specs.contracts.set.BitSetPartialEq.TheImpl as derived
use Rattle.ts_items.specs.declared.part.Part.{Part}
use Rattle.ts_items.specs.Numbers.{AreOnce as Kernels}
use Rattle.ts_items.specs.Sets.{HasAt}
use Rattle.ts_items.specs.Closing.{AddsSets, IsPool}
use Rattle.ts_items.proofs.ListLemmas.{snoc_at}
use Rattle.ts_items.proofs.OrderLemmas.{part_eq, part_decides}
use Rattle.ts_items.proofs.GainLemmas.{has_at}
use Rattle.ts_items.proofs.FlowLemmas.{wide_same}

none_any : {X : Type 0} (p : X → Bool) (xs : List X) (k : ℕ) (x : X) → list_any p xs ≡ false → slice_get xs k ≡ Some x → p x ≡ true → ⊥
none_any p [] k x none at holds = let w = slice_get_within [] k x at in omega (arith, w)
none_any p (y ∷ ys) zero x none at holds = let e : Some y ≡ Some x = at in let f : y ≡ x = cc in either (p y) (ap p f ∙ holds) none
  where
    either : (b : Bool) → b ≡ true → (b || list_any p ys) ≡ false → ⊥
    either true e n = true≢false n
    either false e n = true≢false (sym e)
none_any p (y ∷ ys) (suc k) x none at holds = none_any p ys k x (rest (p y) none) at holds
  where
    rest : (b : Bool) → (b || list_any p ys) ≡ false → list_any p ys ≡ false
    rest true n = absurd (true≢false n)
    rest false n = n

-- no two places have the same
abbrev pub AreOnce : {X Y : Type 0} → (X → Y) → List X → Type 0
AreOnce {X} {Y} f xs = (m n : ℕ) (a b : X) → slice_get xs m ≡ Some a → slice_get xs n ≡ Some b → f a ≡ f b → m ≡ n

module _ {X Y : Type 0} (f : X → Y) (eq : X → X → Bool) (to : (a b : X) → eq a b ≡ true → f a ≡ f b) (from : (a b : X) → f a ≡ f b → eq a b ≡ true) where
  pub grows_insert : (old new : List X) (x : X) → new ≡ insert_key eq old x → AddsSets old new
  grows_insert old new x is = by (list_any (eq x) old) is
    where
      by : (b : Bool) → new ≡ (if b then old else old ++ x ∷ []) → AddsSets old new
      by true e = record { more = []; is = e ∙ sym (append-nil old) }
      by false e = record { more = x ∷ []; is = e }

  -- each element is an old one or the new one
  pub of_insert : (old new : List X) (x : X) → new ≡ insert_key eq old x → (k : ℕ) (y : X) → slice_get new k ≡ Some y → (slice_get old k ≡ Some y) ⊎ (x ≡ y)
  of_insert old new x is k y at = by (list_any (eq x) old) is
    where
      by : (b : Bool) → new ≡ (if b then old else old ++ x ∷ []) → (slice_get old k ≡ Some y) ⊎ (x ≡ y)
      by true e = inl (subst (λ (l : List X). slice_get l k ≡ Some y) e at)
      by false e = ⊎_elim (λ w. inl w) (λ w. inr w.1) (snoc_at old x y k (subst (λ (l : List X). slice_get l k ≡ Some y) e at))

  pub once_insert : (old new : List X) (x : X) → new ≡ insert_key eq old x → AreOnce f old → AreOnce f new
  once_insert old new x is once m n a b am bn same = by (list_any (eq x) old) refl is
    where
      by : (c : Bool) → list_any (eq x) old ≡ c → new ≡ (if c then old else old ++ x ∷ []) → m ≡ n
      by true h e = once m n a b (subst (λ (l : List X). slice_get l m ≡ Some a) e am) (subst (λ (l : List X). slice_get l n ≡ Some b) e bn) same
      by false h e = ⊎_elim
          (λ v. ⊎_elim (λ w. once m n a b v w same) (λ w. absurd (none_any (eq x) old m a h v (from x a (ap f w.1 ∙ sym same)))) (snoc_at old x b n (subst (λ (l : List X). slice_get l n ≡ Some b) e bn)))
          (λ v. ⊎_elim (λ w. absurd (none_any (eq x) old n b h w (from x b (ap f v.1 ∙ same)))) (λ w. v.0 ∙ sym w.0) (snoc_at old x b n (subst (λ (l : List X). slice_get l n ≡ Some b) e bn)))
          (snoc_at old x a m (subst (λ (l : List X). slice_get l m ≡ Some a) e am))

-- ---- sets of tokens

itself : (x : ℕ) → nat_eq x x ≡ true
itself x = grind (arith, nat_tests)

same_nat : (x y : ℕ) → nat_eq x y ≡ true → x ≡ y
same_nat x y h = grind (arith, nat_tests)

nat_decides : (x y : ℕ) → Decides (nat_eq x y) (x ≡ y)
nat_decides x y = (same_nat x y, (λ e. subst (λ (z : ℕ). nat_eq x z ≡ true) e (itself x)))

words_decide : (xs ys : List ℕ) → Decides (pointwise nat_eq xs ys) (xs ≡ ys)
words_decide xs ys = slice_eq-Decides nat_decides xs ys (pointwise nat_eq xs ys) refl

abbrev pub set_eq : BitSet → BitSet → Bool
set_eq = (derived.eq-value).it

abbrev words_of : BitSet → List ℕ
words_of s = s.words.items

pub words_same : (a b : BitSet) → set_eq a b ≡ true → a.words.items ≡ b.words.items
words_same a b h = (words_decide a.words.items b.words.items).0 h

same_set : (a b : BitSet) → a.words.items ≡ b.words.items → set_eq a b ≡ true
same_set a b h = (words_decide a.words.items b.words.items).1 h

pub pool_grows : (old new : List BitSet) (x : BitSet) → new ≡ insert_key set_eq old x → AddsSets old new
pool_grows = grows_insert words_of set_eq words_same same_set

pub pool_insert : (n : ℕ) (old new : List BitSet) (set copy : BitSet) → copy.words.items ≡ set.words.items → new ≡ insert_key set_eq old copy → IsPool n old → IsWide n set → IsPool n new
pool_insert n old new set copy same is pool wide = record {
  wide = λ k s at. ⊎_elim (λ w. pool.wide k s w) (λ e. subst (IsWide n) e (wide_same n set copy same wide)) (of_insert words_of set_eq words_same same_set old new copy is k s at);
  one = once_insert words_of set_eq words_same same_set old new copy is pool.one;
}

pub pool_begins : (n : ℕ) → IsPool n []
pool_begins n = record { wide = λ k s at. absurd (let w = slice_get_within [] k s at in omega (arith, w)); one = λ k m s r at. absurd (let w = slice_get_within [] k s at in omega (arith, w)) }

-- the set at a place has the same words
pub same_place : (pool : List BitSet) (place : ℕ) (s set : BitSet) → slice_get pool place ≡ Some s → s.words.items ≡ set.words.items → (t : ℕ) → HasAt pool place t ↔ Has set t
same_place pool place s set at same t = (
  (λ h. subst (λ (l : List ℕ). Marked l t) same ((has_at pool place s at t).0 h)),
  (λ h. (has_at pool place s at t).1 (subst (λ (l : List ℕ). Marked l t) (sym same) h)),
)

pub found_place : (pool : List BitSet) (place : ℕ) (set : BitSet) → Some place ≡ position (set_eq set) pool → (t : ℕ) → HasAt pool place t ↔ Has set t
found_place pool place set is =
    let p = position-Some (set_eq set) pool place set (sym is) in
    same_place pool place (get_or pool place set) set (slice_get-get_or pool place set p.0) (sym (words_same set (get_or pool place set) p.1))

-- ---- kernels

abbrev pub kernel_eq : Vec Part → Vec Part → Bool
kernel_eq x y = pointwise part_eq x.items y.items

parts_decide : (xs ys : List Part) → Decides (pointwise part_eq xs ys) (xs ≡ ys)
parts_decide xs ys = slice_eq-Decides part_decides xs ys (pointwise part_eq xs ys) refl

abbrev parts_in : Vec Part → List Part
parts_in v = v.items

pub kernels_same : (a b : Vec Part) → kernel_eq a b ≡ true → a.items ≡ b.items
kernels_same a b h = (parts_decide a.items b.items).0 h

same_kernel : (a b : Vec Part) → a.items ≡ b.items → kernel_eq a b ≡ true
same_kernel a b h = (parts_decide a.items b.items).1 h

pub kernel_grows : (old new : List (Vec Part)) (x : Vec Part) → new ≡ insert_key kernel_eq old x → AddsSets old new
kernel_grows = grows_insert parts_in kernel_eq kernels_same same_kernel

pub kernel_of : (old new : List (Vec Part)) (x : Vec Part) → new ≡ insert_key kernel_eq old x → (n : ℕ) (k : Vec Part) → slice_get new n ≡ Some k → (slice_get old n ≡ Some k) ⊎ (k.items ≡ x.items)
kernel_of old new x is n k at = ⊎_elim (λ w. inl w) (λ e. inr (ap parts_in (sym e))) (of_insert parts_in kernel_eq kernels_same same_kernel old new x is n k at)

pub kernel_once : (old new : List (Vec Part)) (x : Vec Part) → new ≡ insert_key kernel_eq old x → Kernels old → Kernels new
kernel_once = once_insert parts_in kernel_eq kernels_same same_kernel

pub grows_same : {X : Type 0} (old new : List X) → new ≡ old → AddsSets old new
grows_same old new e = record { more = []; is = e ∙ sym (append-nil old) }
