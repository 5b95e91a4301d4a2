-- Where the numbers suffice, there are not too many sets.
use Rattle.std.proofs.Common.{◌≡◌, refl, subst, ℕ, zero, suc, ◌<◌, ◌≤◌, List, [], ◌∷◌, length, slice_get, Some, arith}
use Rattle.std.proofs.lemmas.Option.{slice_get_within}
use Rattle.indexmap.proofs.IndexTableLemmas.Probe.{pigeonhole}
use Rattle.ts_core.specs.declared.flat.FlatGrammar.{FlatGrammar}
use Rattle.spec_tables.specs.Items.{Item, Valid}
use Rattle.ts_items.specs.declared.part.Items.{Items}
use Rattle.ts_items.specs.Collection.{most_states, HoldsItem, IsReachedBy, StandsFor, AreTooManyStates}
use Rattle.ts_items.proofs.StateLemmas.{same_both, same_back}

abbrev AreSome : FlatGrammar → List (List ℕ) → Type 0
AreSome g reads = (n : ℕ) (read : List ℕ) → slice_get reads n ≡ Some read → (i : Item) × Valid g read i

module _ (g : FlatGrammar) (items : Items) (stands : StandsFor g items) where
  -- the number to which each list leads
  numbers : (reads : List (List ℕ)) → AreSome g reads → ℕ → ℕ
  numbers [] some k = 0
  numbers (r ∷ rs) some zero = (stands.complete r (some 0 r refl).0 (some 0 r refl).1).0
  numbers (r ∷ rs) some (suc k) = numbers rs (λ n read at. some (suc n) read at) k

  record Led (reads : List (List ℕ)) (k n : ℕ) : Type 0 where
    read : List ℕ
    at : slice_get reads k ≡ Some read
    leads : IsReachedBy items read n
    item : Item
    valid : Valid g read item

  led : (reads : List (List ℕ)) (some : AreSome g reads) (k : ℕ) → k < length reads → Led reads k (numbers reads some k)
  unfolding numbers
  led [] some k lt = absurd (omega (arith, lt))
  led (r ∷ rs) some zero lt = record { read = r; at = refl; leads = (stands.complete r (some 0 r refl).0 (some 0 r refl).1).1; item = (some 0 r refl).0; valid = (some 0 r refl).1 }
  led (r ∷ rs) some (suc k) lt =
      let l = led rs (λ n read at. some (suc n) read at) k (omega (arith, lt)) in
      record { read = l.read; at = l.at; leads = l.leads; item = l.item; valid = l.valid }

  pub fits : length items.states.items ≤ most_states → AreTooManyStates g → ⊥
  fits few (reads, different, many) =
      let le = pigeonhole (length reads) (length items.states.items) (numbers reads different.some) into one in
      omega (arith, le, few, many)
    where
      into : (k : ℕ) → k < length reads → numbers reads different.some k < length items.states.items
      into k lt =
          let l = led reads different.some k lt in
          let h = (stands.valid l.read (numbers reads different.some k) l.leads l.item).1 l.valid in
          slice_get_within items.states.items (numbers reads different.some k) h.0 h.1

      one : (i j : ℕ) → i < length reads → j < length reads → numbers reads different.some i ≡ numbers reads different.some j → i ≡ j
      one i j li lj same =
          let a = led reads different.some i li in
          let b = led reads different.some j lj in
          let n = numbers reads different.some j in
          let va = stands.valid a.read n (subst (IsReachedBy items a.read) same a.leads) in
          let vb = stands.valid b.read n b.leads in
          different.different i j a.read b.read a.at b.at (same_both (Valid g a.read) (HoldsItem items n) (Valid g b.read) (same_back (HoldsItem items n) (Valid g a.read) va) vb)
