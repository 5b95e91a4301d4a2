-- What is kept of a search.
use Rattle.std.proofs.Common.{◌≡◌, ◌∙◌, sym, ap, refl, subst, ℕ, ◌+◌, ◌-◌, ◌*◌, ◌<◌, ◌≤◌, length, List, ◌∷◌, drop, Option, Some, Bool, true, false, cond, arith}
use Rattle.std.proofs.lemmas.Bool.Decides.{nat_tests}
use Rattle.std.proofs.lemmas.List.{drop-drop, length-drop}
use Rattle.spec_matches.specs.declared.placing.Slot.{Slot}
use Rattle.ts_search.specs.declared.stand.Key.{Key}
use Rattle.ts_search.specs.declared.stand.Siblings.{Siblings}
use Rattle.spec_matches.specs.declared.placing.Placing.{Placing}
use Rattle.ts_search.specs.Adding.{FindsMost}
use Rattle.ts_search.specs.Memory.{IsMemo, IsThere, Told, WaysOf, key_eq}
use Rattle.ts_search.proofs.GainLemmas.{finds_later}

same_key : (x y : Key) → key_eq x y ≡ true → x ≡ y
same_key x y h = grind (arith, nat_tests)

some_is : (a b : List Placing) → Some a ≡ Some b → a ≡ b
some_is a b e = cc

module _ (s : Siblings) (all : List Slot) where
  -- these are ways that a key asks for
  abbrev pub Exact : List Slot → Key → Bool → Bool → List Placing → Type 0
  Exact slots key u v found = FindsMost (Told key.wanted key.lo (WaysOf s slots key.number key.lo key.beside)) u v found

  -- what is left out later
  pub memo_later : (u v : Bool) (look : Key → Option (List Placing)) → (v ≡ false → u ≡ false) → IsMemo s all u look → IsMemo s all v look
  memo_later u v look step before key found e = finds_later (Told key.wanted key.lo (WaysOf s (drop key.number all) key.number key.lo key.beside)) u u v found (before key found e) step

  pub memo_more : (u v : Bool) (old new : Key → Option (List Placing)) (key : Key) (found : List Placing) → ((q : Key) → new q ≡ cond (key_eq key q) (Some found) (old q))
      → Exact (drop key.number all) key u v found → IsMemo s all v old → IsMemo s all v new
  memo_more u v old new key found updates exact before q w e = by (key_eq key q) refl
    where
      by : (b : Bool) → key_eq key q ≡ b → Exact (drop q.number all) q v v w
      by true t =
          let same : found ≡ w = some_is found w (sym (ap (λ (b : Bool). cond b (Some found) (old q)) t) ∙ sym (updates q) ∙ e) in
          let settled = finds_later (Told key.wanted key.lo (WaysOf s (drop key.number all) key.number key.lo key.beside)) u v v found exact (λ f. f) in
          subst (λ (k : Key). Exact (drop k.number all) k v v w) (same_key key q t) (subst (λ (l : List Placing). Exact (drop key.number all) key v v l) same settled)
      by false t = before q w (sym (ap (λ (b : Bool). cond b (Some found) (old q)) t) ∙ sym (updates q) ∙ e)

  pub exact_of : (slots : List Slot) (key : Key) (u v : Bool) (found : List Placing) → slots ≡ drop key.number all → Exact slots key u v found → Exact (drop key.number all) key u v found
  exact_of slots key u v found e exact = subst (λ (l : List Slot). Exact l key u v found) e exact

-- what is left after the first
pub rest_is : (all slots rest : List Slot) (i : Slot) (n : ℕ) → slots ≡ drop n all → slots ≡ i ∷ rest → rest ≡ drop (n + 1) all
rest_is all slots rest i n e f = tail_of all rest i n (sym f ∙ e)
  where
    tail_of : (all rest : List Slot) (i : Slot) (n : ℕ) → i ∷ rest ≡ drop n all → rest ≡ drop (n + 1) all
    tail_of all rest i n e = ap (drop 1) e ∙ drop-drop 1 n all

-- what was just kept is there
pub there_now : (old new : Key → Option (List Placing)) (key : Key) (found : List Placing) → ((q : Key) → new q ≡ cond (key_eq key q) (Some found) (old q)) → IsThere new key
there_now old new key found updates = (found, updates key ∙ ap (λ (b : Bool). cond b (Some found) (old key)) (itself key))
  where
    itself : (k : Key) → key_eq k k ≡ true
    itself k = grind (arith, nat_tests)

-- how many items are left
pub as_long : (all slots : List Slot) (n : ℕ) → slots ≡ drop n all → 10 * length slots + 2 < 10 * (length all - n) + 4
as_long all slots n e = let l : length slots ≡ length all - n = ap length e ∙ length-drop n all in omega (arith, l)

pub shorter : (all rest : List Slot) (n m : ℕ) → rest ≡ drop n all → n ≤ m → 10 * (length all - m) + 4 < 10 * length rest + 5
shorter all rest n m e le = let l : length rest ≡ length all - n = ap length e ∙ length-drop n all in omega (arith, l, le)
