-- Lists of entries whose turns rise, and which of two such lists is a prefix of the other.
use Rattle.std.proofs.Common.{◌≡◌, ◌∙◌, sym, ap, refl, subst, ℕ, ◌+◌, ◌≤◌, List, [], ◌∷◌, ◌++◌, length, All, append_assoc, arith}
use Rattle.std.proofs.lemmas.List.{append-nil}
use Rattle.std.proofs.lemmas.List.Elements.{All-take}
use Rattle.std.proofs.Math.Seq.{take-append_seam}
use Rattle.ts_shelf.specs.declared.journal.Entry.{Entry}
use Rattle.ts_shelf.specs.Entries.{RisesWithin, Extends}

module _ {I : Type 0} where
  pub rises_le : (low high : ℕ) (es : List (Entry I)) → RisesWithin low high es → low ≤ high
  rises_le low high [] h = h
  rises_le low high (e ∷ es) h = let a = h.0 in let b = h.1 in omega arith

  pub rises_append : (low mid high : ℕ) (xs ys : List (Entry I)) → RisesWithin low mid xs
      → RisesWithin mid high ys
      → RisesWithin low high (xs ++ ys)
  rises_append low mid high [] ys h k = rises_lower low mid high ys h k
    where
      rises_lower : (low mid high : ℕ) (ys : List (Entry I)) → low ≤ mid → RisesWithin mid high ys
          → RisesWithin low high ys
      rises_lower low mid high [] le k = let k' : mid ≤ high = k in omega arith
      rises_lower low mid high (y ∷ ys) le k = let a = k.0 in (omega arith, k.1, k.2)
  rises_append low mid high (x ∷ xs) ys h k =
      let a = h.1 in
      let b = rises_le mid high ys k in
      (h.0, omega arith, rises_append (x.turn + 1) mid high xs ys h.2 k)

  pub rises_one : (t : ℕ) (item : I) → RisesWithin t (t + 1) (record { turn = t; item = item } ∷ [])
  rises_one t item = (omega arith, omega arith, omega arith)

  -- no turn is from t on and below t
  pub rises_none : (t : ℕ) (es : List (Entry I)) → RisesWithin t t es → es ≡ []
  rises_none t [] h = refl
  rises_none t (e ∷ es) h = absurd (let a = h.0 in let b = h.1 in omega arith)

  pub extends_more : (low mid high : ℕ) (all seen more : List (Entry I)) → Extends low mid all seen
      → RisesWithin mid high more → Extends low high (all ++ more) seen
  extends_more low mid high all seen more e late = (
    e.0 ++ more,
    ap (λ (l : List (Entry I)). l ++ more) e.1 ∙ append_assoc seen e.0 more,
    rises_append low mid high e.0 more e.2 late,
  )

  pub extends_self : (t : ℕ) (xs : List (Entry I)) → Extends t t xs xs
  extends_self t xs = ([], sym (append-nil xs), le t)
    where
      le : (t : ℕ) → t ≤ t
      le t = omega arith

  rises_prefix : (low a b t : ℕ) (ys ry : List (Entry I)) → RisesWithin a t (ys ++ ry)
      → RisesWithin low b ys → a ≤ b
      → RisesWithin a b ys
  rises_prefix low a b t [] ry h k le = le
  rises_prefix low a b t (y ∷ ys) ry h k le = (h.0, k.1, k.2)

  -- of two that have seen all up to their turns, the later one has seen what the other has, and
  -- then later entries
  pub seen_by_turn : (low a b t : ℕ) (xs rx ys ry : List (Entry I)) → xs ++ rx ≡ ys ++ ry
      → RisesWithin low a xs
      → RisesWithin a t rx → RisesWithin low b ys → RisesWithin b t ry → a ≤ b → Extends a b ys xs
  seen_by_turn low a b t [] rx ys ry same early after early' late le =
      (ys, refl, rises_prefix low a b t ys ry (subst (RisesWithin a t) same after) early' le)
  seen_by_turn low a b t (x ∷ xs) rx [] ry same early after early' late le =
      absurd (let r = subst (RisesWithin b t) (sym same) late in let p = r.0 in
      let q = early.1 in omega arith)
  seen_by_turn low a b t (x ∷ xs) rx (y ∷ ys) ry same early after early' late le =
      let head : x ≡ y = cc in
      let tail : xs ++ rx ≡ ys ++ ry = cc in
      let below = subst (λ (e : Entry I). RisesWithin (e.turn + 1) b ys) (sym head) early'.2 in
      let s = seen_by_turn (x.turn + 1) a b t xs rx ys ry tail early.2 after below late le in (
        s.0,
        ap (λ (l : List (Entry I)). y ∷ l) s.1
            ∙ ap (λ (e : Entry I). e ∷ (xs ++ s.0)) (sym head),
        s.2,
      )

  pub all_prefix : (P : Entry I → Type 0) (xs ys : List (Entry I)) → All P (xs ++ ys) → All P xs
  all_prefix P xs ys h =
      subst (All P) (take-append_seam xs ys) (All-take P (length xs) (xs ++ ys) h)
