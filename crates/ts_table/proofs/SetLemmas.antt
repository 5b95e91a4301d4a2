-- A token in a set of a list.
use Rattle.std.proofs.Common.{◌≡◌, sym, subst, ℕ, ◌+◌, ◌<◌, ◌⊎◌, inl, inr, ⊎_elim, List, [], ◌∷◌, length, take, get_or, slice_get, Some, ◌↔◌, Bool}
use Rattle.std.specs.Bool.{IsTrue}
use Rattle.ts_bits.specs.declared.set.BitSet.{BitSet}
use Rattle.ts_bits.specs.Members.{Has}
use Rattle.ts_items.specs.Sets.{HasAt}
use Rattle.std.proofs.lemmas.List.{take_more}
use Rattle.std.proofs.lemmas.List.Elements.{Contains-append_left, Contains-push, Contains-push_cases}
use Rattle.ts_items.specs.declared.part.Part.{Part}
use Rattle.ts_table.specs.Candidates.{ComesAfter}
use Rattle.ts_table.proofs.ListLemmas.{one_at, read_at, none_in}

pub has_at_found : (sets : List BitSet) (y t u : ℕ) (s : BitSet) (b : Bool) → slice_get sets y ≡ Some s → u ≡ t → IsTrue b ↔ Has s u → IsTrue b ↔ HasAt sets y t
has_at_found sets y t u s b at e test = (
  (λ h. record { set = s; at = at; has = subst (Has s) e (test.0 h) }),
  (λ h. test.1 (subst (Has s) (sym e) (subst (λ (z : BitSet). Has z t) (one_at sets y h.set s h.at at) h.has))),
)

pub has_at_place : (sets : List BitSet) (y k t u : ℕ) (s : BitSet) (b : Bool) → k ≡ y → u ≡ t → k < length sets → s ≡ get_or sets k s → IsTrue b ↔ Has s u → IsTrue b ↔ HasAt sets y t
has_at_place sets y k t u s b ek eu lt is test = has_at_found sets y t u s b (subst (λ (j : ℕ). slice_get sets j ≡ Some s) ek (read_at sets k s lt is)) eu test

-- ---- the union of the sets of parts

has_here : (pool : List BitSet) (at t : ℕ) (set : BitSet) → slice_get pool at ≡ Some set → HasAt pool at t → Has set t
has_here pool at t set is h = subst (λ (z : BitSet). Has z t) (one_at pool at h.set set h.at is) h.has

pub union_has : (pool : List BitSet) (at : ℕ) (set old new : BitSet) → slice_get pool at ≡ Some set → ((t : ℕ) → Has new t ↔ (Has old t ⊎ Has set t)) → (t : ℕ) → Has new t ↔ (Has old t ⊎ HasAt pool at t)
union_has pool at set old new is members t = (
  (λ h. ⊎_elim (λ a. inl a) (λ b. inr (record { set = set; at = is; has = b })) ((members t).0 h)),
  (λ h. (members t).1 (⊎_elim (λ a. inl a) (λ b. inr (has_here pool at t set is b)) h)),
)

pub after_none : (pool : List BitSet) (parts : List Part) (found : BitSet) → ((t : ℕ) → Has found t → ⊥) → (t : ℕ) → Has found t ↔ ComesAfter pool (take 0 parts) t
after_none pool parts found empty t = ((λ h. absurd (empty t h)), (λ w. absurd (none_in w.0 w.1)))

pub after_more : (pool : List BitSet) (parts : List Part) (k : ℕ) (d : Part) (old new : BitSet) → k < length parts → ((t : ℕ) → Has new t ↔ (Has old t ⊎ HasAt pool (get_or parts k d).tokens t))
    → ((t : ℕ) → Has old t ↔ ComesAfter pool (take k parts) t) → (t : ℕ) → Has new t ↔ ComesAfter pool (take (k + 1) parts) t
after_more pool parts k d old new below members so_far t = rw (take_more parts k d below) (
  (λ h. ⊎_elim
      (λ a. let w = (so_far t).0 a in (w.0, Contains-append_left (take k parts) (get_or parts k d ∷ []) w.0 w.1, w.2))
      (λ b. (get_or parts k d, Contains-push (take k parts) (get_or parts k d), b))
      ((members t).0 h)),
  (λ w. (members t).1 (⊎_elim
      (λ a. inl ((so_far t).1 (w.0, a, w.2)))
      (λ e. inr (subst (λ (q : Part). HasAt pool q.tokens t) (sym e) w.2))
      (Contains-push_cases (take k parts) (get_or parts k d) w.0 w.1))),
)

pub after_all : (pool : List BitSet) (parts : List Part) (found : BitSet) (k : ℕ) → take k parts ≡ parts → ((t : ℕ) → Has found t ↔ ComesAfter pool (take k parts) t) → (t : ℕ) → Has found t ↔ ComesAfter pool parts t
after_all pool parts found k e so_far t = subst (λ (l : List Part). Has found t ↔ ComesAfter pool l t) e (so_far t)
