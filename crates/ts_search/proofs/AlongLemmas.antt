-- Captures of siblings, one after another.
use Rattle.std.proofs.Common.{◌≡◌, ◌∙◌, sym, ap, refl, subst, ℕ, zero, suc, ◌+◌, ◌-◌, ◌<◌, ◌≤◌, ⊎_elim, List, [], ◌∷◌, ◌++◌, append_assoc, Bool, arith, ◌↔◌}
use Rattle.std.specs.List.{Contains}
use Rattle.spec_matches.specs.declared.found.Capture.{Capture}
use Rattle.ts_search.specs.Adding.{FindsMost}
use Rattle.ts_search.specs.Steps.{AreBare, Before, Joins}
use Rattle.ts_search.specs.Table.{Takes}
use Rattle.spec_matches.specs.Embedding.{Along, offset}
use Rattle.spec_matches.specs.declared.placing.Slot.{Slot}
use Rattle.ts_search.proofs.PlaceLemmas.{cases_lt_or_eq}
use Rattle.ts_search.proofs.AddLemmas.{one_in, in_one}
use Rattle.ts_search.proofs.GainLemmas.{finds_nothing, finds_same}

module _ (takes : ℕ → ℕ → ℕ → List Capture → Type 0) (k : ℕ) where
  -- a sibling that is taken, and then one of some lists
  abbrev TakenFirst : ℕ → ℕ → List (List Capture) → List Capture → Type 0
  TakenFirst o p backs c = (u : List Capture) × takes k o p u × Before backs u c

  pub longer_none : (o p : ℕ) (backs : List (List Capture)) (w : Bool) (cs : List (List Capture)) → cs ≡ [] → ((c : List Capture) → takes k o p c → ⊥) → FindsMost (TakenFirst o p backs) w w cs
  longer_none o p backs w cs e nothing = finds_nothing (TakenFirst o p backs) w cs e (λ c h. nothing h.0 h.1)

  pub longer_some : (o p : ℕ) (fronts backs : List (List Capture)) (u v : Bool) (cs : List (List Capture)) → FindsMost (Joins fronts backs) u v cs → ((c : List Capture) → takes k o p c ↔ Contains fronts c)
      → FindsMost (TakenFirst o p backs) u v cs
  longer_some o p fronts backs u v cs finds are =
      finds_same (Joins fronts backs) (TakenFirst o p backs) u v cs finds (λ c h. (h.0, (are h.0).1 h.1, h.2)) (λ c h. (h.0, (are h.0).0 h.1, h.2))

module _ (takes : ℕ → ℕ → ℕ → List Capture → Type 0) (k : ℕ) (i : Slot) (first : ℕ) where
  -- captures of some siblings, and then of those after them
  pub along_join : (n m p : ℕ) (u v : List Capture) → Along takes k i first n p u → Along takes k i first m (p + n) v → Along takes k i first (n + m) p (u ++ v)
  along_join zero m p u v a b =
      let z : 0 + m ≡ m = omega arith in
      let q : p + 0 ≡ p = omega arith in
      subst (λ (l : List Capture). Along takes k i first (0 + m) p (l ++ v)) (sym a)
      (subst (λ (n : ℕ). Along takes k i first n p v) (sym z) (subst (λ (r : ℕ). Along takes k i first m r v) q b))
  along_join (suc n) m p u v (x, y, e, t, rest) b =
      let z : suc n + m ≡ suc (n + m) = omega arith in
      let q : p + suc n ≡ (p + 1) + n = omega arith in
      subst (λ (r : ℕ). Along takes k i first r p (u ++ v)) (sym z)
      (x, y ++ v, ap (λ (l : List Capture). l ++ v) e ∙ append_assoc x y v, t, along_join n m (p + 1) y v rest (subst (λ (r : ℕ). Along takes k i first m r v) q b))

  pub along_split : (n m p : ℕ) (c : List Capture) → Along takes k i first (n + m) p c
      → (u : List Capture) × (v : List Capture) × (c ≡ u ++ v) × Along takes k i first n p u × Along takes k i first m (p + n) v
  along_split zero m p c a =
      let z : 0 + m ≡ m = omega arith in
      let q : p + 0 ≡ p = omega arith in
      ([], c, refl, refl, subst (λ (r : ℕ). Along takes k i first m r c) (sym q) (subst (λ (n : ℕ). Along takes k i first n p c) z a))
  along_split (suc n) m p c a =
      let z : suc n + m ≡ suc (n + m) = omega arith in
      let q : p + suc n ≡ (p + 1) + n = omega arith in
      one (subst (λ (r : ℕ). Along takes k i first r p c) z a) q (λ y rest. along_split n m (p + 1) y rest)
    where
      one : Along takes k i first (suc (n + m)) p c → p + suc n ≡ (p + 1) + n
          → ((y : List Capture) → Along takes k i first (n + m) (p + 1) y
          → (u : List Capture) × (v : List Capture) × (y ≡ u ++ v) × Along takes k i first n (p + 1) u × Along takes k i first m (p + 1 + n) v)
          → (u : List Capture) × (v : List Capture) × (c ≡ u ++ v) × Along takes k i first (suc n) p u × Along takes k i first m (p + suc n) v
      one (x, y, e, t, rest) q again =
          let w = again y rest in (
            x ++ w.0,
            w.1,
            e ∙ ap (λ (l : List Capture). x ++ l) w.2 ∙ sym (append_assoc x w.0 w.1),
            (x, w.0, refl, t, w.3),
            subst (λ (r : ℕ). Along takes k i first m r w.1) (sym q) w.4,
          )

  pub along_halves : (from middle to : ℕ) (u v w x : Bool) (fronts backs cs : List (List Capture)) → from ≤ middle → middle ≤ to
      → FindsMost (Along takes k i first (middle - from) from) u v fronts → FindsMost (Along takes k i first (to - middle) middle) v w backs
      → FindsMost (Joins fronts backs) w x cs → FindsMost (Along takes k i first (to - from) from) u x cs
  along_halves from middle to u v w x fronts backs cs low high one two joins =
      let sum : to - from ≡ (middle - from) + (to - middle) = omega arith in
      let place : from + (middle - from) ≡ middle = omega arith in
      subst (λ (n : ℕ). FindsMost (Along takes k i first n from) u x cs) (sym sum) (record {
        only = λ c h.
            let j = joins.only c h in
            subst (λ (l : List Capture). Along takes k i first ((middle - from) + (to - middle)) from l) (sym j.2.2)
            (along_join (middle - from) (to - middle) from j.0 j.2.0 (one.only j.0 j.1) (subst (λ (r : ℕ). Along takes k i first (to - middle) r j.2.0) (sym place) (two.only j.2.0 j.2.1)));
        earlier = λ e. one.earlier (two.earlier (joins.earlier e));
        all = λ e c h.
            let y = along_split (middle - from) (to - middle) from c h in
            joins.all e c (
              y.0,
              one.all (two.earlier (joins.earlier e)) y.0 y.3,
              (y.1, two.all (joins.earlier e) y.1 (subst (λ (r : ℕ). Along takes k i first (to - middle) r y.1) place y.4), y.2),
            );
      })

  pub along_one : (p : ℕ) (lists : List (List Capture)) (u v : Bool) (cs : List (List Capture)) → lists ≡ [] ∷ []
      → FindsMost (λ (c : List Capture). (u : List Capture) × takes k (offset i first p) p u × Before lists u c) u v cs → FindsMost (Along takes k i first 1 p) u v cs
  along_one p lists u v cs e finds =
      finds_same (λ (c : List Capture). (u : List Capture) × takes k (offset i first p) p u × Before lists u c) (Along takes k i first 1 p) u v cs finds
      (λ c w. (w.0, w.2.0, w.2.2, w.1, one_in [] w.2.0 (subst (λ (l : List (List Capture)). Contains l w.2.0) e w.2.1)))
      (λ c h. (h.0, h.3, (h.1, subst (λ (l : List (List Capture)). Contains l h.1) (sym e) (in_one [] h.1 h.4), h.2)))

  pub along_at : (n m p : ℕ) (u v : Bool) (cs : List (List Capture)) → n ≡ m → FindsMost (Along takes k i first m p) u v cs → FindsMost (Along takes k i first n p) u v cs
  along_at n m p u v cs e h = subst (λ (j : ℕ). FindsMost (Along takes k i first j p) u v cs) (sym e) h

  pub along_zero : (n p : ℕ) (cs : List (List Capture)) → n ≡ 0 → cs ≡ [] ∷ [] → (c : List Capture) → Contains cs c ↔ Along takes k i first n p c
  along_zero n p cs z e c =
      subst (λ (n : ℕ). Contains cs c ↔ Along takes k i first n p c) (sym z)
      ((λ h. one_in [] c (subst (λ (l : List (List Capture)). Contains l c) e h)), (λ h. subst (λ (l : List (List Capture)). Contains l c) (sym e) (in_one [] c h)))

  -- siblings that are taken in one way, with no captures
  pub along_bare : (n p : ℕ) → ((q : ℕ) → p ≤ q → q < p + n → (c : List Capture) → takes k (offset i first q) q c ↔ (c ≡ [])) → (c : List Capture) → Along takes k i first n p c ↔ (c ≡ [])
  along_bare zero p bare c = ((λ h. h), (λ h. h))
  along_bare (suc n) p bare c =
      let here = bare p (omega arith) (omega arith) in
      let rest = along_bare n (p + 1) (λ q low below. bare q (omega arith) (omega arith)) in (
        (λ h. h.2 ∙ ap (λ (u : List Capture). u ++ h.1) ((here h.0).0 h.3) ∙ (rest h.1).0 h.4),
        (λ h. ([], [], h, (here []).1 refl, (rest []).1 refl)),
      )

  pub along_none : (past : ℕ) (cs : List (List Capture)) → first ≤ past → cs ≡ [] ∷ [] → ((p : ℕ) → first ≤ p → p < past → (c : List Capture) → takes k (offset i first p) p c ↔ (c ≡ []))
      → (c : List Capture) → Contains cs c ↔ Along takes k i first (past - first) first c
  along_none past cs order e bare c =
      let all = along_bare (past - first) first (λ q low below. bare q low (omega arith)) c in
      ((λ h. all.1 (one_in [] c (subst (λ (l : List (List Capture)). Contains l c) e h))), (λ h. subst (λ (l : List (List Capture)). Contains l c) (sym e) (in_one [] c (all.0 h))))

pub bare_ways : (ways : List (List Capture)) → ways ≡ [] ∷ [] → (T : List Capture → Type 0) → ((c : List Capture) → T c ↔ Contains ways c) → (c : List Capture) → T c ↔ (c ≡ [])
bare_ways ways e T are c = (
  (λ h. one_in [] c (subst (λ (l : List (List Capture)). Contains l c) e ((are c).0 h))),
  (λ h. (are c).1 (subst (λ (l : List (List Capture)). Contains l c) (sym e) (in_one [] c h))),
)

pub bare_more : (table : List (List (List (List (List Capture))))) (k : ℕ) (i : Slot) (first p : ℕ) → AreBare table k i first p → ((c : List Capture) → Takes table k (offset i first p) p c ↔ (c ≡ []))
    → AreBare table k i first (p + 1)
bare_more table k i first p before one q low below c = ⊎_elim (λ lt. before q low lt c) (λ e. subst (λ (r : ℕ). Takes table k (offset i first r) r c ↔ (c ≡ [])) (sym e) (one c)) (cases_lt_or_eq q p below)
