-- Marks of nodes, and the list of those that are marked.
use Rattle.std.proofs.Common.{◌≡◌, ◌∙◌, sym, ap, refl, subst, ℕ, zero, suc, ◌<◌, ◌≢◌, ◌⊎◌, inl, inr, ⊎_elim, Bool, true, false, List, [], ◌∷◌, ◌++◌, length, length-append, slice_get, Some, arith, ◌↔◌, take, nat_eq}
use Rattle.std.proofs.Common.{Result, Ok, Err, OnErr, is_ok}
use Rattle.std.proofs.Math.ListN.{set, replicate}
use Rattle.std.specs.List.{Contains, IsDistinct, list_any}
use Rattle.std.proofs.lemmas.List.{length-set, append-nil, get_or-replicate, length-replicate}
use Rattle.std.proofs.lemmas.List.Elements.{Contains-append_left, Contains-push, Contains-push_cases}
use Rattle.std.proofs.lemmas.Option.{slice_get_within, get_or_from_slice_get}
use Rattle.std.proofs.lemmas.Map.Keys.{IsDistinct-push}
use Rattle.std.proofs.lemmas.Map.Views.{list_any-from_Contains}
use Rattle.std.proofs.lemmas.Map.Steps.{length-le_from_distinct_below}
use Rattle.indexmap.proofs.CallerLemmas.{Contains-list_any}
use Rattle.ts_automata.specs.Sets.{Adds}
use Rattle.ts_automata.specs.Marked.{AreMarked, InRoom, TellMembers}
use Rattle.ts_automata.proofs.NumberLemmas.{same_nat, nat_equiv}
use Rattle.ts_automata.proofs.AddsLemmas.{one_in}

none_in : (x : ℕ) → Contains [] x → ⊥
none_in x (k, below, _) = omega arith

at_set : {X : Type 0} (xs : List X) (k : ℕ) (y : X) → k < length xs → slice_get (set xs k y) k ≡ Some y
at_set [] k y h = absurd (omega arith)
at_set (x ∷ xs) zero y h = refl
at_set (x ∷ xs) (suc k) y h = at_set xs k y (omega arith)

at_other : {X : Type 0} (xs : List X) (k j : ℕ) (y : X) → j ≢ k → slice_get (set xs k y) j ≡ slice_get xs j
at_other [] k j y h = refl
at_other (x ∷ xs) zero zero y h = absurd (h refl)
at_other (x ∷ xs) zero (suc j) y h = refl
at_other (x ∷ xs) (suc k) zero y h = refl
at_other (x ∷ xs) (suc k) (suc j) y h = at_other xs k j y (λ e. h (ap suc e))

same_or_not : (j k : ℕ) → (j ≡ k) ⊎ (j ≢ k)
same_or_not zero zero = inl refl
same_or_not zero (suc k) = inr (λ e. omega arith)
same_or_not (suc j) zero = inr (λ e. omega arith)
same_or_not (suc j) (suc k) = ⊎_elim (λ e. inl (ap suc e)) (λ n. inr (λ e. n (omega arith))) (same_or_not j k)

false_or_true : {A : Type 0} → Some false ≡ Some true → A
false_or_true e = absurd (let f : Some false ≡ Some true = e in cc)

pub are_marked : (marks : List Bool) (members : List ℕ) → TellMembers marks members → IsDistinct nat_eq members → AreMarked marks members
are_marked marks members tell distinct = record {
  marked = λ k. ((λ h. Contains-list_any nat_eq same_nat members k ((tell k).0 h)), (λ h. (tell k).1 (list_any-from_Contains nat_equiv k members h)));
  distinct = distinct;
}

pub tell_members : (marks : List Bool) (members : List ℕ) → AreMarked marks members → TellMembers marks members
tell_members marks members is k = ((λ h. list_any-from_Contains nat_equiv k members ((is.marked k).0 h)), (λ h. (is.marked k).1 (Contains-list_any nat_eq same_nat members k h)))

none_distinct : IsDistinct nat_eq []
unfolding IsDistinct
none_distinct = tt

none_marked : (n k : ℕ) → slice_get (replicate n false) k ≡ Some true → ⊥
none_marked n k at =
    let lt = slice_get_within (replicate n false) k true at in
    let below : k < n = omega (arith, length-replicate n false) in
    let e : false ≡ true = sym (get_or-replicate n k false true below) ∙ get_or_from_slice_get (replicate n false) k true true at in
    cc

pub no_marks : (n : ℕ) (marks : List Bool) (members : List ℕ) → marks ≡ replicate n false → members ≡ [] → AreMarked marks members
no_marks n marks members marks_are members_are = rw (marks_are, members_are) (record {
  marked = λ k. ((λ h. absurd (none_marked n k h)), (λ h. absurd (none_in k h)));
  distinct = none_distinct;
})

-- a node that is not marked is not in the list
module _ (marks : List Bool) (members : List ℕ) (is : AreMarked marks members) (node : ℕ) (new : slice_get marks node ≡ Some false) where
  not_there : Contains members node → ⊥
  not_there h = false_or_true (sym new ∙ (is.marked node).1 h)

  any_no : (b : Bool) → list_any (nat_eq node) members ≡ b → b ≡ false
  any_no true e = absurd (not_there (Contains-list_any nat_eq same_nat members node e))
  any_no false e = refl

  pub distinct_more : IsDistinct nat_eq (members ++ node ∷ [])
  distinct_more = IsDistinct-push nat_equiv members node is.distinct (any_no (list_any (nat_eq node) members) refl)

  marked_more : (k : ℕ) → (slice_get (set marks node true) k ≡ Some true) ↔ Contains (members ++ node ∷ []) k
  marked_more k = ⊎_elim
      (λ e. (
        (λ h. subst (Contains (members ++ node ∷ [])) (sym e) (Contains-push members node)),
        (λ h. subst (λ (j : ℕ). slice_get (set marks node true) j ≡ Some true) (sym e) (at_set marks node true (slice_get_within marks node false new))),
      ))
      (λ n. (
        (λ h. Contains-append_left members (node ∷ []) k ((is.marked k).0 (sym (at_other marks node k true n) ∙ h))),
        (λ h. at_other marks node k true n ∙ (is.marked k).1 (⊎_elim (λ w. w) (λ e. absurd (n (sym e))) (Contains-push_cases members node k h))),
      ))
      (same_or_not k node)

  pub mark_more : AreMarked (set marks node true) (members ++ node ∷ [])
  mark_more = record { marked = marked_more; distinct = distinct_more }

  -- so there is room for it
  pub room_left : length members < length marks
  room_left =
      let most = length-le_from_distinct_below (members ++ node ∷ []) (length marks) distinct_more
      (λ q h. let w = Contains-list_any nat_eq same_nat (members ++ node ∷ []) q h in
      let at = (marked_more q).1 w in
      let lt = slice_get_within (set marks node true) q true at in
      let e = length-set marks node true in
      omega arith) in
      omega (arith, most, length-append members (node ∷ []))

  pub adds_new : (n : ℕ) → n ≡ length marks → Adds (InRoom n (λ i. i ≡ node)) members (members ++ node ∷ [])
  adds_new n size = record {
    more = node ∷ [];
    is = refl;
    only = λ i h. (one_in node i h, (let e = one_in node i h in let w = slice_get_within marks node false new in omega arith));
    added = λ i h. subst (Contains (members ++ node ∷ [])) (sym h.0) (Contains-push members node);
  }

-- a push that finds room succeeds
pub pushed : {E : Type 0} (r : Result (Unit {0}) E) (P : Type 0) → OnErr r P → (P → ⊥) → is_ok r ≡ true
pushed (Ok x) P h out = refl
pushed (Err e) P h out = absurd (out h)

-- a node that has a mark already, or no room
pub adds_old : (marks : List Bool) (members : List ℕ) (node n : ℕ) → n ≡ length marks → AreMarked marks members → (slice_get marks node ≡ Some false → ⊥)
    → Adds (InRoom n (λ i. i ≡ node)) members members
adds_old marks members node n size is old = record {
  more = [];
  is = sym (append-nil members);
  only = λ i h. absurd (none_in i h);
  added = λ i h. subst (Contains members) (sym h.0) ((is.marked node).0 (let e = h.0 in let lt = h.1 in by marks node old (omega arith)));
}
  where
    by : (bs : List Bool) (k : ℕ) → (slice_get bs k ≡ Some false → ⊥) → k < length bs → slice_get bs k ≡ Some true
    by [] k out lt = absurd (omega arith)
    by (true ∷ bs) zero out lt = refl
    by (false ∷ bs) zero out lt = absurd (out refl)
    by (b ∷ bs) (suc k) out lt = by bs k out (omega arith)

-- ---- marks that are taken away

pub record Unmarked (old new : List Bool) (done : List ℕ) : Type 0 where
  pub count : length new ≡ length old
  pub left : (k : ℕ) → slice_get new k ≡ Some true → (slice_get old k ≡ Some true) × (Contains done k → ⊥)

pub unmarked_none : (old : List Bool) (members : List ℕ) → Unmarked old old (take 0 members)
unmarked_none old members = record { count = refl; left = λ k h. (h, (λ w. none_in k w)) }

pub unmarked_all : (old new : List Bool) (members : List ℕ) → AreMarked old members → Unmarked old new members → AreMarked new []
unmarked_all old new members is all = record {
  marked = λ k. ((λ h. let b = all.left k h in absurd (b.1 ((is.marked k).0 b.0))), (λ h. absurd (none_in k h)));
  distinct = none_distinct;
}
