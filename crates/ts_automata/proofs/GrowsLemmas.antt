-- Parts of an automaton that is being built.
use Rattle.std.proofs.Common.{◌≡◌, ◌∙◌, sym, ap, refl, ℕ, zero, suc, ◌≤◌, ◌<◌, ◌≢◌, List, [], ◌∷◌, ◌++◌, length, Option, Some, None, arith, slice_get, length-append}
use Rattle.std.proofs.Math.ListN.{set}
use Rattle.std.proofs.lemmas.List.{length-set}
use Rattle.ts_automata.specs.declared.node.Node.{Node}
use Rattle.ts_automata.specs.declared.node.Node.TheVariants.{Take, Split, End}
use Rattle.spec_lexing.specs.Words.{Regular, empty, never, one_of, both, either, repeat}
use Rattle.ts_automata.specs.Grows.{IsInnerNode, ReadsWords, Agrees, Grows, more}
use Rattle.ts_automata.proofs.RepeatLemmas.{Alike, none_is_empty, too_few_is_never, or_none}
use Rattle.ts_automata.proofs.StandsLemmas.{alike, stands_empty, stands_set, stands_never, stands_both, stands_either, stands_star, stands_more, stands_wider}
use Rattle.ts_base.proofs.PlaceLemmas.{in_prefix, at_end}

at_set : {X : Type 0} (xs : List X) (k : ℕ) (y : X) → k < length xs → slice_get (set xs k y) k ≡ Some y
at_set [] k y h = absurd (omega arith)
at_set (x ∷ xs) zero y h = refl
at_set (x ∷ xs) (suc k) y h = at_set xs k y (omega arith)

at_other : {X : Type 0} (xs : List X) (k j : ℕ) (y : X) → j ≢ k → slice_get (set xs k y) j ≡ slice_get xs j
at_other [] k j y h = refl
at_other (x ∷ xs) zero zero y h = absurd (h refl)
at_other (x ∷ xs) zero (suc j) y h = refl
at_other (x ∷ xs) (suc k) zero y h = refl
at_other (x ∷ xs) (suc k) (suc j) y h = at_other xs k j y (λ e. h (ap suc e))

-- nodes were only added
pub record Keeps (old new : List Node) : Type 0 where
  pub longer : length old ≤ length new
  pub kept : (j : ℕ) → j < length old → slice_get new j ≡ slice_get old j

pub keeps_of : (p : Regular) (next : ℕ) (old new : List Node) (s : ℕ) → Grows p next old new s → Keeps old new
keeps_of p next old new s g = record { longer = g.longer; kept = g.kept }

keeps_then : (a b c : List Node) → Keeps a b → Keeps b c → Keeps a c
keeps_then a b c f g = let one = f.longer in let two = g.longer in record {
  longer = omega arith;
  kept = λ j h. g.kept j (omega arith) ∙ f.kept j h;
}

keeps_add : (a : List Node) (n : Node) → Keeps a (a ++ n ∷ [])
keeps_add a n = record { longer = omega (arith, length-append a (n ∷ [])); kept = λ j h. in_prefix a (n ∷ []) j h }

-- what agrees with the whole agrees with a part
inner : (a b c d : List Node) (T : List Node) → Keeps a b → Keeps c d → Agrees (length a) d T → Agrees (length b) c T
inner a b c d T f g all = let one = f.longer in let two = g.longer in λ j from to. all j (omega arith) (omega arith) ∙ g.kept j to

keeps_self : (a : List Node) → Keeps a a
keeps_self a = record { longer = omega arith; kept = λ j h. refl }

-- the nodes of a part, in a longer list
wider : (T : List Node) (low high : ℕ) (lower higher t : ℕ) → lower ≤ low → high ≤ higher → IsInnerNode T low high t → IsInnerNode T lower higher t
wider T low high lower higher t le ge i = record { from = (let f = i.from in omega arith); below = (let b = i.below in omega arith); goes_on = i.goes_on }

within : (T a b c d : List Node) (p : Regular) (s next : ℕ) → Keeps a b → Keeps c d → ReadsWords T (IsInnerNode T (length b) (length c)) p s next → ReadsWords T (IsInnerNode T (length a) (length d)) p s next
within T a b c d p s next k l st = stands_wider T (IsInnerNode T (length b) (length c)) (IsInnerNode T (length a) (length d)) p s next (λ t i. wider T (length b) (length c) (length a) (length d) t k.longer l.longer i) st

grows : (p : Regular) (next : ℕ) (a b : List Node) (s : ℕ) → Keeps a b → ((T : List Node) → Agrees (length a) b T → ReadsWords T (IsInnerNode T (length a) (length b)) p s next) → Grows p next a b s
grows p next a b s k h = record { longer = k.longer; kept = k.kept; stands = h }

pub grows_none : (next : ℕ) (a : List Node) → Grows empty next a a next
grows_none next a = grows empty next a a next (keeps_self a) (λ T h. stands_empty T (IsInnerNode T (length a) (length a)) next)

pub grows_alike : (p q : Regular) (next : ℕ) (a b : List Node) (s : ℕ) → Alike p q → Grows p next a b s → Grows q next a b s
grows_alike p q next a b s same g = grows q next a b s (keeps_of p next a b s g) (λ T h. alike T (IsInnerNode T (length a) (length b)) p q s next same (g.stands T h))

pub grows_none_of : (p : Regular) (next : ℕ) (a : List Node) → Grows (repeat p 0 (Some 0)) next a a next
grows_none_of p next a = grows_alike empty (repeat p 0 (Some 0)) next a a next (none_is_empty p) (grows_none next a)

module _ (a : List Node) where
  last_is : (n : Node) (T : List Node) → Agrees (length a) (a ++ n ∷ []) T → slice_get T (length a) ≡ Some n
  last_is n T h = h (length a) (omega arith) (omega (arith, length-append a (n ∷ []))) ∙ at_end a n

  -- a node that goes on is inside
  last_inner : (n : Node) (T : List Node) → Agrees (length a) (a ++ n ∷ []) T → (Some n ≡ Some End → ⊥) → IsInnerNode T (length a) (length (a ++ n ∷ [])) (length a)
  last_inner n T h goes = record {
    from = omega arith;
    below = omega (arith, length-append a (n ∷ []));
    goes_on = λ e. goes (sym (last_is n T h) ∙ e);
  }

  take_goes : (ranges : List (ℕ × ℕ)) (to : ℕ) → Some (Take ranges to) ≡ Some End → ⊥
  take_goes ranges to e = cc

  pub grows_set : (ranges : List (ℕ × ℕ)) (next : ℕ) → Grows (one_of ranges) next a (a ++ Take ranges next ∷ []) (length a)
  grows_set ranges next = grows (one_of ranges) next a (a ++ Take ranges next ∷ []) (length a) (keeps_add a (Take ranges next))
      (λ T h. stands_set T (IsInnerNode T (length a) (length (a ++ Take ranges next ∷ []))) (length a) ranges next (last_inner (Take ranges next) T h (take_goes ranges next)) (last_is (Take ranges next) T h))

  pub grows_never : (next to : ℕ) → Grows never next a (a ++ Take [] to ∷ []) (length a)
  grows_never next to = grows never next a (a ++ Take [] to ∷ []) (length a) (keeps_add a (Take [] to))
      (λ T h. stands_never T (IsInnerNode T (length a) (length (a ++ Take [] to ∷ []))) (length a) next to (last_inner (Take [] to) T h (take_goes [] to)) (last_is (Take [] to) T h))

  pub grows_too_few : (p : Regular) (d next to : ℕ) → Grows (repeat p (suc d) (Some 0)) next a (a ++ Take [] to ∷ []) (length a)
  grows_too_few p d next to = grows_alike never (repeat p (suc d) (Some 0)) next a (a ++ Take [] to ∷ []) (length a) (too_few_is_never p d) (grows_never next to)

split_goes : (l r : ℕ) → Some (Split l r) ≡ Some End → ⊥
split_goes l r e = cc

module _ (p q : Regular) (a b c : List Node) where
  pub grows_both : (next mid s : ℕ) → Grows q next a b mid → Grows p mid b c s → Grows (both p q) next a c s
  grows_both next mid s second first =
      let k = keeps_of q next a b mid second in
      let l = keeps_of p mid b c s first in
      grows (both p q) next a c s (keeps_then a b c k l)
      (λ T h. stands_both T (IsInnerNode T (length a) (length c)) p q s mid next
      (within T a b c c p s mid k (keeps_self c) (first.stands T (inner a b c c T k (keeps_self c) h)))
      (within T a a b c q mid next (keeps_self a) l (second.stands T (inner a a b c T (keeps_self a) l h))))

  -- `l` was made after `r`, and then a node that goes on to both
  pub grows_either : (next l r : ℕ) → Grows q next a b r → Grows p next b c l → Grows (either p q) next a (c ++ Split l r ∷ []) (length c)
  grows_either next l r second first =
      let k = keeps_of q next a b r second in
      let m = keeps_of p next b c l first in
      let d = c ++ Split l r ∷ [] in
      let e = keeps_add c (Split l r) in
      let low = k.longer in
      let high = m.longer in
      grows (either p q) next a d (length c) (keeps_then a c d (keeps_then a b c k m) e)
      (λ T h.
      let here = inner a c d d T (keeps_then a b c k m) (keeps_self d) h in
      stands_either T (IsInnerNode T (length a) (length d)) p q (length c) l r next
      (wider T (length c) (length d) (length a) (length d) (length c) (omega arith) (omega arith) (last_inner c (Split l r) T here (split_goes l r)))
      (last_is c (Split l r) T here)
      (within T a b c d p l next k e (first.stands T (inner a b c d T k e h)))
      (within T a a b d q r next (keeps_self a) (keeps_then b c d m e) (second.stands T (inner a a b d T (keeps_self a) (keeps_then b c d m e) h))))

module _ (p : Regular) (a b c : List Node) where
  pub grows_once_more : (least : ℕ) (most : Option ℕ) (next mid s : ℕ) → Grows (repeat p least most) next a b mid → Grows p mid b c s → Grows (repeat p (suc least) (more most)) next a c s
  grows_once_more least most next mid s rest one =
      let k = keeps_of (repeat p least most) next a b mid rest in
      let l = keeps_of p mid b c s one in
      grows (repeat p (suc least) (more most)) next a c s (keeps_then a b c k l)
      (λ T h. stands_more T (IsInnerNode T (length a) (length c)) p s mid next least most
      (within T a b c c p s mid k (keeps_self c) (one.stands T (inner a b c c T k (keeps_self c) h)))
      (within T a a b c (repeat p least most) mid next (keeps_self a) l (rest.stands T (inner a a b c T (keeps_self a) l h))))

  -- one word more at most
  pub grows_or_none : (m next mid s : ℕ) → Grows (repeat p 0 (Some m)) next a b mid → Grows p mid b c s → Grows (repeat p 0 (Some (suc m))) next a (c ++ Split s next ∷ []) (length c)
  grows_or_none m next mid s rest one =
      let many = grows_once_more 0 (Some m) next mid s rest one in
      grows_alike (either (repeat p 1 (Some (suc m))) empty) (repeat p 0 (Some (suc m))) next a (c ++ Split s next ∷ []) (length c) (or_none p (suc m))
      (grows_either (repeat p 1 (Some (suc m))) empty a a c next s next (grows_none next a) many)

-- A round: a node that goes on to the part that ends at it, or past it.
module _ (p : Regular) (a c : List Node) (next body : ℕ) where
  star_keeps : Grows p (length a) (a ++ Split next next ∷ []) c body → Keeps a (set c (length a) (Split body next))
  star_keeps one =
      let low = one.longer in
      let size = length-append a (Split next next ∷ []) in
      record {
        longer = omega (arith, length-set c (length a) (Split body next));
        kept = λ j h. at_other c (length a) j (Split body next) (λ e. omega arith) ∙ one.kept j (omega arith) ∙ in_prefix a (Split next next ∷ []) j h;
      }

  star_stands : Grows p (length a) (a ++ Split next next ∷ []) c body → (T : List Node) → Agrees (length a) (set c (length a) (Split body next)) T
      → ReadsWords T (IsInnerNode T (length a) (length (set c (length a) (Split body next)))) (repeat p 0 None) (length a) next
      × ReadsWords T (IsInnerNode T (length a) (length (set c (length a) (Split body next)))) p body (length a)
  star_stands one T h =
      let low = one.longer in
      let size = length-append a (Split next next ∷ []) in
      let same = length-set c (length a) (Split body next) in
      let at = h (length a) (omega arith) (omega arith) ∙ at_set c (length a) (Split body next) (omega arith) in
      let inside = one.stands T (λ j from to. h j (omega arith) (omega arith) ∙ at_other c (length a) j (Split body next) (λ e. omega arith)) in
      let own : IsInnerNode T (length a) (length (set c (length a) (Split body next))) (length a) = record { from = omega arith; below = omega arith; goes_on = λ e. split_goes body next (sym at ∙ e) } in
      let part = stands_wider T (IsInnerNode T (length (a ++ Split next next ∷ [])) (length c)) (IsInnerNode T (length a) (length (set c (length a) (Split body next)))) p body (length a)
      (λ t i. wider T (length (a ++ Split next next ∷ [])) (length c) (length a) (length (set c (length a) (Split body next))) t (omega arith) (omega arith) i) inside in
      (stands_star T (IsInnerNode T (length a) (length (set c (length a) (Split body next)))) p (length a) body next own at part, part)

  pub grows_star : Grows p (length a) (a ++ Split next next ∷ []) c body → Grows (repeat p 0 None) next a (set c (length a) (Split body next)) (length a)
  grows_star one = grows (repeat p 0 None) next a (set c (length a) (Split body next)) (length a) (star_keeps one) (λ T h. (star_stands one T h).0)

  pub grows_plus : Grows p (length a) (a ++ Split next next ∷ []) c body → Grows (repeat p 1 None) next a (set c (length a) (Split body next)) body
  grows_plus one = grows (repeat p 1 None) next a (set c (length a) (Split body next)) body (star_keeps one)
      (λ T h. let both_of = star_stands one T h in stands_more T (IsInnerNode T (length a) (length (set c (length a) (Split body next)))) p body (length a) next 0 None both_of.1 both_of.0)
