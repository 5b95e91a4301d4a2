-- Sound trees, and stacks whose trees stand.
use Rattle.std.proofs.Common.{◌≡◌, ◌∙◌, sym, ap, refl, subst, ℕ, ◌+◌, ◌⊎◌, inl, inr, ⊎_elim, true, List, [], ◌∷◌, ◌++◌, append_assoc, reverse, drop, Option, Some, unwrap_or, arith}
use Rattle.std.proofs.lemmas.List.{drop-drop, reverse-append}
use Rattle.ts_base.specs.Bytes.{Bytes}
use Rattle.ts_core.specs.declared.flat.FlatGrammar.{FlatGrammar}
use Rattle.spec_trees.specs.declared.tree.Tree.{Tree}
use Rattle.spec_trees.specs.Trees.{is_settled, state_of, node_extent, children_of, span_of, all_spans}
use Rattle.spec_runs.specs.Configurations.{stack_symbols}
use Rattle.spec_reuse.specs.Places.{IsIn, here, inside, later, lead_of}
use Rattle.spec_reuse.specs.Offered.{IsTopmost}
use Rattle.spec_forced.specs.Forced.{HaveSameItems, Stands, StandInTurn}
use Rattle.spec_forced.specs.Sound.{States, IsStateAfter, StandsForState, IsSoundNode, AllSound, IsSound, IsHonest, EachHasState, StandOnStack}
use Rattle.spec_forced.proofs.ItemLemmas.{same_back}
use Rattle.spec_forced.proofs.SeenLemmas.{agree_self}
use Rattle.spec_forced.proofs.ForcedLemmas.{stands_again}
use Rattle.spec_forced.proofs.StackLemmas.{filling_append}

-- ---- states

pub stands_for : (g : FlatGrammar) (states : States) (text : Bytes) (place state : ℕ) (t : Tree) (read : List ℕ) → IsStateAfter g states state read → Stands g read (drop place text) t (node_extent t) → StandsForState g states text place state t
stands_for g states text place state t read s h = record {
  way = s.way;
  at = s.at;
  stands = stands_again g read s.way (drop place text) (drop place text) t (node_extent t) (same_back g s.way read s.same) (agree_self (node_extent t) (drop place text)) h;
}

pub stands_after : (g : FlatGrammar) (states : States) (text : Bytes) (place state : ℕ) (t : Tree) (read : List ℕ) → IsStateAfter g states state read → StandsForState g states text place state t → Stands g read (drop place text) t (node_extent t)
stands_after g states text place state t read s f =
    let e : ◌≡◌ {A = Option (List ℕ)} (Some f.way) (Some s.way) = sym f.at ∙ s.at in
    let same : f.way ≡ s.way = ap (λ (o : Option (List ℕ)). unwrap_or o f.way) e in
    stands_again g f.way read (drop place text) (drop place text) t (node_extent t) (subst (λ (l : List ℕ). HaveSameItems g l read) (sym same) s.same) (agree_self (node_extent t) (drop place text)) f.stands

-- ---- nodes in nodes

pub in_cons : (t : Tree) (ts xs : List Tree) (place : ℕ) (u : Tree) (at : ℕ) → IsIn xs place u at → xs ≡ t ∷ ts → ((u ≡ t) × (at ≡ place)) ⊎ (IsIn (children_of t) place u at ⊎ IsIn ts (place + span_of t) u at)
in_cons t ts _ place _ _ (here x xs _) is = inl ((let e : x ≡ t = cc in e), refl)
in_cons t ts _ place u at (inside x xs _ _ _ h) is =
    let e : x ≡ t = cc in inr (inl (subst (λ (y : Tree). IsIn (children_of y) place u at) e h))
in_cons t ts _ place u at (later x xs _ _ _ h) is =
    let e : x ≡ t = cc in
    let r : xs ≡ ts = cc in
    inr (inr (subst (λ (y : Tree). IsIn ts (place + span_of y) u at) e (subst (λ (l : List Tree). IsIn l (place + span_of x) u at) r h)))

pub in_none : (xs : List Tree) (place : ℕ) (u : Tree) (at : ℕ) → IsIn xs place u at → xs ≡ [] → ⊥
in_none _ place _ _ (here x xs _) is = let e : x ∷ xs ≡ [] = is in cc
in_none _ place u at (inside x xs _ _ _ h) is = let e : x ∷ xs ≡ [] = is in cc
in_none _ place u at (later x xs _ _ _ h) is = let e : x ∷ xs ≡ [] = is in cc

pub in_append : (xs ys : List Tree) (place : ℕ) (u : Tree) (at : ℕ) → IsIn (xs ++ ys) place u at → IsIn xs place u at ⊎ IsIn ys (place + all_spans xs) u at
in_append [] ys place u at h = inr (subst (λ (n : ℕ). IsIn ys n u at) (let e : place ≡ place + 0 = omega arith in e) h)
in_append (x ∷ xs) ys place u at h = ⊎_elim
    (λ w. inl (subst (λ (y : Tree). IsIn (x ∷ xs) place y at) (sym w.0) (subst (λ (n : ℕ). IsIn (x ∷ xs) place x n) (sym w.1) (here x xs place))))
    (λ w. ⊎_elim
    (λ k. inl (inside x xs place u at k))
    (λ k. ⊎_elim
    (λ l. inl (later x xs place u at l))
    (λ l. inr (subst (λ (n : ℕ). IsIn ys n u at) (let e : place + span_of x + all_spans xs ≡ place + all_spans (x ∷ xs) = omega arith in e) l))
    (in_append xs ys (place + span_of x) u at k))
    w)
    (in_cons x (xs ++ ys) (x ∷ (xs ++ ys)) place u at h refl)

-- what is in a node that is alone is in it where others follow
in_first : (t : Tree) (ts : List Tree) (place : ℕ) (u : Tree) (at : ℕ) → IsIn (t ∷ []) place u at → IsIn (t ∷ ts) place u at
in_first t ts place u at h = ⊎_elim
    (λ w. subst (λ (y : Tree). IsIn (t ∷ ts) place y at) (sym w.0) (subst (λ (n : ℕ). IsIn (t ∷ ts) place t n) (sym w.1) (here t ts place)))
    (λ w. ⊎_elim (λ k. inside t ts place u at k) (λ k. absurd (in_none [] (place + span_of t) u at k refl)) w)
    (in_cons t [] (t ∷ []) place u at h refl)

pub in_in : (xs : List Tree) (place : ℕ) (t u : Tree) (at deep : ℕ) → IsIn xs place t at → IsIn (t ∷ []) at u deep → IsIn xs place u deep
in_in _ _ _ u _ deep (here t ts place) h = in_first t ts place u deep h
in_in _ _ _ u _ deep (inside x xs place t at k) h = inside x xs place u deep (in_in (children_of x) place t u at deep k h)
in_in _ _ _ u _ deep (later x xs place t at k) h = later x xs place u deep (in_in xs (place + span_of x) t u at deep k h)

-- ---- sound lists

module _ (g : FlatGrammar) (states : States) (text : Bytes) where
  pub sound_none : (place : ℕ) → AllSound g states text [] place
  sound_none place u at state h = absurd (in_none [] place u at h refl)

  pub sound_one : (t : Tree) (place : ℕ) → ((state : ℕ) → state_of t ≡ Some state → IsSoundNode g states text place state t) → AllSound g states text (children_of t) place → AllSound g states text (t ∷ []) place
  sound_one t place own kids u at state h has = ⊎_elim
      (λ w.
      let f = own state (ap state_of (sym w.0) ∙ has) in
      subst (λ (n : ℕ). IsSoundNode g states text n state u) (sym w.1) (subst (λ (y : Tree). IsSoundNode g states text place state y) (sym w.0) f))
      (λ w. ⊎_elim (λ k. kids u at state k has) (λ k. absurd (in_none [] (place + span_of t) u at k refl)) w)
      (in_cons t [] (t ∷ []) place u at h refl)

  pub sound_inside : (t : Tree) (place : ℕ) → AllSound g states text (t ∷ []) place → AllSound g states text (children_of t) place
  sound_inside t place all u at state h = all u at state (inside t [] place u at h)

  pub sound_append : (xs ys : List Tree) (place : ℕ) → AllSound g states text xs place → AllSound g states text ys (place + all_spans xs) → AllSound g states text (xs ++ ys) place
  sound_append xs ys place a b u at state h has = ⊎_elim (λ k. a u at state k has) (λ k. b u at state k has) (in_append xs ys place u at h)

  pub sound_tail : (t : Tree) (ts : List Tree) (place : ℕ) → AllSound g states text (t ∷ ts) place → AllSound g states text ts (place + span_of t)
  sound_tail t ts place all u at state h = all u at state (later t ts place u at h)

  -- ---- offers

  pub honest : (tree t : Tree) (place state : ℕ) → IsSound g states text tree → IsTopmost tree place state t → IsHonest g states text place state t
  honest tree t place state s top = by top.there
    where
      by : ((t ≡ tree) × (place ≡ 0)) ⊎ IsIn (children_of tree) (lead_of tree) t place → IsHonest g states text place state t
      by (inl w) =
          let settled : is_settled tree ≡ true = ap is_settled (sym w.0) ∙ top.fit.settled in
          let has : state_of tree ≡ Some state = ap state_of (sym w.0) ∙ top.fit.below in
          let all : AllSound g states text (tree ∷ []) 0 = sound_one tree 0 (s.own settled) (subst (λ (m : ℕ). AllSound g states text (children_of tree) m) (s.begins settled) s.inner) in
          let stands : StandsForState g states text 0 state tree = (s.own settled state has).stands settled in
          record {
            below = top.fit.below;
            stands = subst (λ (n : ℕ). StandsForState g states text n state t) (sym w.1) (subst (λ (y : Tree). StandsForState g states text 0 state y) (sym w.0) stands);
            inner = subst (λ (n : ℕ). AllSound g states text (t ∷ []) n) (sym w.1) (subst (λ (y : Tree). AllSound g states text (y ∷ []) 0) (sym w.0) all);
          }
      by (inr w) = record {
        below = top.fit.below;
        stands = (s.inner t place state w top.fit.below).stands top.fit.settled;
        inner = λ u at n h. s.inner u at n (in_in (children_of tree) (lead_of tree) t u place at w h);
      }

  -- ---- stacks

  pub stack_lower : (xs ys : List Tree) → StandOnStack g states text (xs ++ ys) → StandOnStack g states text ys
  stack_lower [] ys s = s
  stack_lower (x ∷ xs) ys s = stack_lower xs ys s.3

  turned_onto : (t : Tree) (ts below : List Tree) → reverse (t ∷ ts) ++ below ≡ reverse ts ++ t ∷ below
  turned_onto t ts below = ap (λ (l : List Tree). l ++ below) (reverse-append (t ∷ []) ts) ∙ append_assoc (reverse ts) (t ∷ []) below

  -- trees that stand on a stack, in the order of the text
  pub sound_in_turn : (ts below : List Tree) → StandOnStack g states text (reverse ts ++ below) → AllSound g states text ts (all_spans below)
  sound_in_turn [] below s = sound_none (all_spans below)
  sound_in_turn (t ∷ ts) below s =
      let s' : StandOnStack g states text (reverse ts ++ t ∷ below) = subst (λ (l : List Tree). StandOnStack g states text l) (turned_onto t ts below) s in
      let own = stack_lower (reverse ts) (t ∷ below) s' in
      sound_append (t ∷ []) ts (all_spans below) own.2
      (subst (λ (n : ℕ). AllSound g states text ts n) (let e : all_spans (t ∷ below) ≡ all_spans below + all_spans (t ∷ []) = omega arith in e) (sound_in_turn ts (t ∷ below) s'))

  pub stand_in_turn : (ts below : List Tree) → EachHasState ts → StandOnStack g states text (reverse ts ++ below) → StandInTurn g (stack_symbols below) (drop (all_spans below) text) ts
  stand_in_turn [] below each s = tt
  stand_in_turn (t ∷ ts) below each s =
      let s' : StandOnStack g states text (reverse ts ++ t ∷ below) = subst (λ (l : List Tree). StandOnStack g states text l) (turned_onto t ts below) s in
      let own = stack_lower (reverse ts) (t ∷ below) s' in
      let more = stand_in_turn ts (t ∷ below) each.1 s' in
      let far : drop (all_spans (t ∷ below)) text ≡ drop (span_of t) (drop (all_spans below) text) =
      ap (λ (n : ℕ). drop n text) (let e : all_spans (t ∷ below) ≡ all_spans below + span_of t = omega arith in e) ∙ sym (drop-drop (span_of t) (all_spans below) text) in
      (own.0 each.0, subst (λ (l : List ℕ). StandInTurn g l (drop (span_of t) (drop (all_spans below) text)) ts) (filling_append (t ∷ []) below) (subst (λ (x : Bytes). StandInTurn g (stack_symbols (t ∷ below)) x ts) far more))
