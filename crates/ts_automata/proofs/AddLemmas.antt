-- The steps of the code that adds nodes.
use Rattle.std.proofs.Common.{◌≡◌, ◌∙◌, sym, ap, subst, refl, ℕ, suc, ◌+◌, ◌-◌, ◌≤◌, ◌<◌, List, [], ◌∷◌, ◌++◌, length, map, drop, get_or, Option, Some, None, arith}
use Rattle.std.specs.Result.{IfOk}
use Rattle.std.specs.declared.result.Result.{Result}
use Rattle.std.proofs.lemmas.Result.{IfOk-weaker}
use Rattle.std.proofs.Math.ListN.{set}
use Rattle.std.proofs.lemmas.List.{drop_all, drop_more}
use Rattle.ts_core.specs.declared.re.Re.{Re}
use Rattle.ts_core.specs.declared.re.Re.TheVariants.{Set}
use Rattle.ts_automata.specs.declared.node.Node.{Node}
use Rattle.ts_automata.specs.declared.node.Node.TheVariants.{Take, Split}
use Rattle.spec_lexing.specs.Words.{Regular, never, one_of, either, repeat, all_of, any_of, regular_of}
use Rattle.ts_automata.specs.Grows.{Grows, Put, Repeats, more, plus}
use Rattle.ts_automata.proofs.RegularLemmas.{regular_set}
use Rattle.ts_automata.proofs.GrowsLemmas.{grows_none, grows_set, grows_never, grows_too_few, grows_both, grows_either, grows_once_more, grows_or_none, grows_star, grows_plus}

-- the same nodes and place by other names
same_place : (p : Regular) (next : ℕ) (a b c : List Node) (s r : ℕ) → b ≡ c → s ≡ r → Grows p next a c r → Grows p next a b s
same_place p next a b c s r e f g = subst (λ (x : List Node). Grows p next a x s) (sym e) (subst (λ (x : ℕ). Grows p next a c x) (sym f) g)

pub set_step : {E : Type 0} (r : Result ℕ E) (re : Re) (ranges copied : List (ℕ × ℕ)) (next : ℕ) (a b : List Node) → re ≡ Set ranges → copied ≡ ranges → IfOk r (Put a b (Take copied next))
    → IfOk r (Grows (regular_of re) next a b)
set_step r re ranges copied next a b is same = IfOk-weaker r (Put a b (Take copied next)) (Grows (regular_of re) next a b)
    (λ s h. subst (λ (p : Regular). Grows p next a b s) (sym (ap regular_of is ∙ regular_set ranges))
    (same_place (one_of ranges) next a b (a ++ Take ranges next ∷ []) s (length a)
    (h.1 ∙ ap (λ (l : List (ℕ × ℕ)). a ++ Take l next ∷ []) same) h.0 (grows_set a ranges next)))

more_parts : (parts : List Re) (i : ℕ) (part : Re) → 0 < i → i ≤ length parts → part ≡ get_or parts (i - 1) part → drop (i - 1) parts ≡ part ∷ drop i parts
more_parts parts i part low high is =
    let back : i - 1 + 1 ≡ i = omega arith in
    drop_more parts (i - 1) part (omega arith) ∙ ap (λ (r : Re). r ∷ drop (i - 1 + 1) parts) (sym is) ∙ ap (λ (n : ℕ). part ∷ drop n parts) back

pub all_begins : (parts : List Re) (next : ℕ) (a : List Node) → Grows (all_of (map regular_of (drop (length parts) parts))) next a a next
all_begins parts next a = rw (drop_all (length parts) parts (omega arith)) (grows_none next a)

pub all_step : (parts : List Re) (i : ℕ) (part : Re) (next mid s : ℕ) (a b c : List Node) → 0 < i → i ≤ length parts → part ≡ get_or parts (i - 1) part
    → Grows (all_of (map regular_of (drop i parts))) next a b mid → Grows (regular_of part) mid b c s → Grows (all_of (map regular_of (drop (i - 1) parts))) next a c s
all_step parts i part next mid s a b c low high is rest one =
    rw (more_parts parts i part low high is) (grows_both (regular_of part) (all_of (map regular_of (drop i parts))) a b c next mid s rest one)

pub any_begins : (parts : List Re) (next s : ℕ) (a b : List Node) → Put a b (Take [] next) s → Grows (any_of (map regular_of (drop (length parts) parts))) next a b s
any_begins parts next s a b h = rw (drop_all (length parts) parts (omega arith))
    (same_place never next a b (a ++ Take [] next ∷ []) s (length a) h.1 h.0 (grows_never a next next))

pub any_step : (parts : List Re) (i : ℕ) (part : Re) (next mid one_at s : ℕ) (a b c d : List Node) → 0 < i → i ≤ length parts → part ≡ get_or parts (i - 1) part
    → Grows (any_of (map regular_of (drop i parts))) next a b mid → Grows (regular_of part) next b c one_at → Put c d (Split one_at mid) s
    → Grows (any_of (map regular_of (drop (i - 1) parts))) next a d s
any_step parts i part next mid one_at s a b c d low high is rest one h =
    rw (more_parts parts i part low high is)
    (same_place (either (regular_of part) (any_of (map regular_of (drop i parts)))) next a d (c ++ Split one_at mid ∷ []) s (length c) h.1 h.0
    (grows_either (regular_of part) (any_of (map regular_of (drop i parts))) a b c next one_at mid rest one))

more_plus : (k : ℕ) (most : Option ℕ) → more (plus k most) ≡ plus (k + 1) most
more_plus k None = refl
more_plus k (Some m) = let e : suc (k + m) ≡ k + 1 + m = omega arith in ap (λ (n : ℕ). Some n) e

pub times_step : (p : Regular) (k to mid s : ℕ) (a b c : List Node) → Repeats p k a to b mid → Grows p mid b c s → Repeats p (k + 1) a to c s
times_step p k to mid s a b c rest one least most next start g =
    let e : suc (k + least) ≡ k + 1 + least = omega arith in
    subst (λ (n : ℕ). Grows (repeat p n (plus (k + 1) most)) next start c s) e
    (subst (λ (m : Option ℕ). Grows (repeat p (suc (k + least)) m) next start c s) (more_plus k most)
    (grows_once_more p start b c (k + least) (plus k most) next mid s (rest least most next start g) one))

pub up_to_step : (p : Regular) (k next mid one_at s : ℕ) (a b c d : List Node) → Grows (repeat p 0 (Some k)) next a b mid → Grows p mid b c one_at → Put c d (Split one_at next) s
    → Grows (repeat p 0 (Some (k + 1))) next a d s
up_to_step p k next mid one_at s a b c d rest one h =
    let e : suc k ≡ k + 1 = omega arith in
    subst (λ (n : ℕ). Grows (repeat p 0 (Some n)) next a d s) e
    (same_place (repeat p 0 (Some (suc k))) next a d (c ++ Split one_at next ∷ []) s (length c) h.1 h.0 (grows_or_none p a b c k next mid one_at rest one))

pub too_few : {E : Type 0} (r : Result ℕ E) (p : Regular) (least most next to : ℕ) (a b c : List Node) → most < least → Put a b (Take [] next) to → IfOk r (Repeats p most b to c)
    → IfOk r (Grows (repeat p least (Some most)) next a c)
too_few r p least most next to a b c lt h = IfOk-weaker r (Repeats p most b to c) (Grows (repeat p least (Some most)) next a c) (λ s law. one s law)
  where
    one : (s : ℕ) → Repeats p most b to c s → Grows (repeat p least (Some most)) next a c s
    one s law =
        let d = least - most - 1 in
        let e : most + suc d ≡ least = omega arith in
        let f : most + 0 ≡ most = omega arith in
        let base = same_place (repeat p (suc d) (Some 0)) next a b (a ++ Take [] next ∷ []) to (length a) h.1 h.0 (grows_too_few a p d next next) in
        subst (λ (n : ℕ). Grows (repeat p n (Some most)) next a c s) e
        (subst (λ (n : ℕ). Grows (repeat p (most + suc d) (Some n)) next a c s) f (law (suc d) (Some 0) next a base))

pub enough : {E : Type 0} (r : Result ℕ E) (p : Regular) (least most next to : ℕ) (a b c : List Node) → least ≤ most → Grows (repeat p 0 (Some (most - least))) next a b to → IfOk r (Repeats p least b to c)
    → IfOk r (Grows (repeat p least (Some most)) next a c)
enough r p least most next to a b c lt g = IfOk-weaker r (Repeats p least b to c) (Grows (repeat p least (Some most)) next a c) (λ s law. one s law)
  where
    one : (s : ℕ) → Repeats p least b to c s → Grows (repeat p least (Some most)) next a c s
    one s law =
        let e : least + 0 ≡ least = omega arith in
        let f : least + (most - least) ≡ most = omega arith in
        subst (λ (n : ℕ). Grows (repeat p n (Some most)) next a c s) e
        (subst (λ (n : ℕ). Grows (repeat p (least + 0) (Some n)) next a c s) f (law 0 (Some (most - least)) next a g))

-- a round, whose first node was put before its body and filled in behind it
module _ (p : Regular) (next round body : ℕ) (a b c : List Node) where
  star_part : Put a b (Split next next) round → Grows p round b c body → Grows p (length a) (a ++ Split next next ∷ []) c body
  star_part h g = subst (λ (n : ℕ). Grows p n (a ++ Split next next ∷ []) c body) h.0 (subst (λ (l : List Node). Grows p round l c body) h.1 g)

  pub star_done : (least : ℕ) → least ≡ 0 → Put a b (Split next next) round → Grows p round b c body → Grows (repeat p least None) next a (set c round (Split body next)) round
  star_done least none h g =
      subst (λ (n : ℕ). Grows (repeat p n None) next a (set c round (Split body next)) round) (sym none)
      (subst (λ (n : ℕ). Grows (repeat p 0 None) next a (set c n (Split body next)) n) (sym h.0) (grows_star p a c next body (star_part h g)))

  pub plus_done : {E : Type 0} (r : Result ℕ E) (least : ℕ) (d : List Node) → 0 < least → Put a b (Split next next) round → Grows p round b c body → IfOk r (Repeats p (least - 1) (set c round (Split body next)) body d)
      → IfOk r (Grows (repeat p least None) next a d)
  plus_done r least d low h g = IfOk-weaker r (Repeats p (least - 1) (set c round (Split body next)) body d) (Grows (repeat p least None) next a d) (λ s law. one s law)
    where
      one : (s : ℕ) → Repeats p (least - 1) (set c round (Split body next)) body d s → Grows (repeat p least None) next a d s
      one s law =
          let e : least - 1 + 1 ≡ least = omega arith in
          let base = subst (λ (n : ℕ). Grows (repeat p 1 None) next a (set c n (Split body next)) body) (sym h.0) (grows_plus p a c next body (star_part h g)) in
          subst (λ (n : ℕ). Grows (repeat p n None) next a d s) e (law 1 None next a base)
