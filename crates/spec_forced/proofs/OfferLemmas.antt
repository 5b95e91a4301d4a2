-- Stretches of repetitions in sound trees are honest.
use Rattle.std.proofs.Common.{◌≡◌, ◌∙◌, sym, ap, refl, subst, ℕ, zero, suc, ◌+◌, ◌<◌, ◌≤◌, true, List, [], ◌∷◌, length, take, take-add, drop, Some, arith}
use Rattle.std.proofs.lemmas.List.{take-append-le, drop-take, drop-drop, length-drop, length-take-le, take-append-drop, take_all}
use Rattle.std.specs.List.{All}
use Rattle.ts_base.specs.Bytes.{Bytes}
use Rattle.ts_core.specs.declared.flat.FlatGrammar.{FlatGrammar}
use Rattle.spec_trees.specs.declared.tree.Tree.{Tree}
use Rattle.spec_trees.specs.declared.tree.Element.{Element}
use Rattle.spec_trees.specs.Trees.{symbol_of, state_of, elements_of, children_of, all_spans}
use Rattle.spec_trees.specs.Made.{children_count, AreCounted, elements_between, first_elements, stretch_in, bytes_before}
use Rattle.spec_reuse.specs.Places.{IsIn, inside}
use Rattle.spec_forced.specs.Sound.{States, ElementStands, SettledStand, LaterStand, AllSound, IsHonestStretch}
use Rattle.spec_forced.proofs.StackLemmas.{spans_append}
use Rattle.spec_forced.proofs.SoundLemmas.{in_in}
use Rattle.spec_forced.proofs.KeepLemmas.{sound_left, sound_right}
use Rattle.spec_forced.proofs.ElementLemmas.{counted_rest}

-- ---- counts of children

count_split : (k : ℕ) (es : List Element) → children_count es ≡ children_count (take k es) + children_count (drop k es)
count_split zero es = omega arith
count_split (suc k) [] = omega arith
count_split (suc k) (e ∷ es) = omega (arith, count_split k es)

take_twice : (n m : ℕ) (ts : List Tree) → n ≤ length ts → take n (take (n + m) ts) ≡ take n ts
take_twice n m ts le =
    let long : length (take n ts) ≡ n = length-take-le n ts le in
    ap (λ (l : List Tree). take n l) (take-add n m ts) ∙ take-append-le n (take n ts) (take m (drop n ts)) (omega (arith, long)) ∙ take_all n (take n ts) (omega (arith, long))

module _ (g : FlatGrammar) (states : States) (text : Bytes) (state symbol : ℕ) where
  -- ---- the first ones

  settled_prefix : (k : ℕ) (es : List Element) (ts : List Tree) (place : ℕ) → children_count es ≡ length ts → SettledStand g states text place state symbol es ts → SettledStand g states text place state symbol (take k es) (take (children_count (take k es)) ts)
  settled_prefix zero es ts place count s = tt
  settled_prefix (suc k) [] ts place count s = tt
  settled_prefix (suc k) (e ∷ es) ts place count s =
      let n : ℕ = e.children in
      let c : ℕ = children_count (take k es) in
      let first : take n (take (n + c) ts) ≡ take n ts = take_twice n c ts (omega (arith, count)) in
      let rest : drop n (take (n + c) ts) ≡ take c (drop n ts) = drop-take n c ts in
      let deep = settled_prefix k es (drop n ts) (place + all_spans (take n ts)) (counted_rest n (children_count es) ts count) s.1 in (
        (λ settled. subst (λ (l : List Tree). ElementStands g states text place state symbol e l) (sym first) (s.0 settled)),
        subst (λ (l : List Tree). SettledStand g states text (place + all_spans l) state symbol (take k es) (drop n (take (n + c) ts))) (sym first)
            (subst (λ (l : List Tree). SettledStand g states text (place + all_spans (take n ts)) state symbol (take k es) l) (sym rest) deep),
      )

  later_prefix : (k : ℕ) (es : List Element) (ts : List Tree) (place : ℕ) → AreCounted es ts → LaterStand g states text place state symbol es ts → LaterStand g states text place state symbol (take k es) (take (children_count (take k es)) ts)
  later_prefix zero es ts place count s = tt
  later_prefix (suc k) [] ts place count s = tt
  later_prefix (suc k) (e ∷ es) ts place count s =
      let n : ℕ = e.children in
      let c : ℕ = children_count (take k es) in
      let first : take n (take (n + c) ts) ≡ take n ts = take_twice n c ts (omega (arith, count)) in
      let rest : drop n (take (n + c) ts) ≡ take c (drop n ts) = drop-take n c ts in
      let deep = settled_prefix k es (drop n ts) (place + all_spans (take n ts)) (counted_rest n (children_count es) ts count) s in
      subst (λ (l : List Tree). SettledStand g states text (place + all_spans l) state symbol (take k es) (drop n (take (n + c) ts))) (sym first)
      (subst (λ (l : List Tree). SettledStand g states text (place + all_spans (take n ts)) state symbol (take k es) l) (sym rest) deep)

  -- ---- the later ones

  -- from some place on, with these children left
  abbrev From : ℕ → List Element → ℕ → List Tree → Type 0
  From place es c ts = SettledStand g states text (place + all_spans (take c ts)) state symbol es (drop c ts)

  -- past the children of one element more
  past_one : (place n c : ℕ) (es : List Element) (ts : List Tree) → From (place + all_spans (take n ts)) es c (drop n ts) → From place es (n + c) ts
  past_one place n c es ts h =
      let at : place + all_spans (take n ts) + all_spans (take c (drop n ts)) ≡ place + all_spans (take (n + c) ts) =
      let k : all_spans (take (n + c) ts) ≡ all_spans (take n ts) + all_spans (take c (drop n ts)) = ap all_spans (take-add n c ts) ∙ spans_append (take n ts) (take c (drop n ts)) in omega (arith, k) in
      subst (λ (m : ℕ). SettledStand g states text m state symbol es (drop (n + c) ts)) at
      (subst (λ (l : List Tree). SettledStand g states text (place + all_spans (take n ts) + all_spans (take c (drop n ts))) state symbol es l) (drop-drop c n ts) h)

  settled_suffix : (k : ℕ) (es : List Element) (ts : List Tree) (place : ℕ) → SettledStand g states text place state symbol es ts → From place (drop k es) (children_count (take k es)) ts
  settled_suffix zero es ts place s = subst (λ (n : ℕ). SettledStand g states text n state symbol es ts) (let q : place ≡ place + 0 = omega arith in q) s
  settled_suffix (suc k) [] ts place s = tt
  settled_suffix (suc k) (e ∷ es) ts place s =
      past_one place e.children (children_count (take k es)) (drop k es) ts (settled_suffix k es (drop e.children ts) (place + all_spans (take e.children ts)) s.1)

  later_suffix : (k : ℕ) (es : List Element) (ts : List Tree) (place : ℕ) → 0 < k → LaterStand g states text place state symbol es ts → From place (drop k es) (children_count (take k es)) ts
  later_suffix zero es ts place some s = absurd (omega (arith, some))
  later_suffix (suc k) [] ts place some s = tt
  later_suffix (suc k) (e ∷ es) ts place some s =
      past_one place e.children (children_count (take k es)) (drop k es) ts (settled_suffix k es (drop e.children ts) (place + all_spans (take e.children ts)) s)

-- ---- counts of what is taken

first_counted : (k : ℕ) (es : List Element) (ts : List Tree) → AreCounted es ts → children_count (take k es) ≡ length (take (children_count (take k es)) ts)
first_counted zero es ts count = refl
first_counted (suc k) [] ts count = refl
first_counted (suc k) (e ∷ es) ts count =
    let h = count_split (suc k) (e ∷ es) in
    sym (length-take-le (children_count (take (suc k) (e ∷ es))) ts (omega (arith, h, count)))

-- ---- a stretch

pub offers_stretch : (g : FlatGrammar) (states : States) (text : Bytes) (ts : List Tree) (place at state from to : ℕ) (u : Tree) → AllSound g states text ts place → IsIn ts place u at → state_of u ≡ Some state → AreCounted (elements_of u) (children_of u) → 0 < from
    → All (λ e. e.settled ≡ true) (elements_between from to u).elements → IsHonestStretch g states text (at + bytes_before from (first_elements to (stretch_in u))) state (symbol_of u) (elements_between from to u)
offers_stretch g states text ts place at state from to u all there has counted later settled =
    let es : List Element = elements_of u in
    let ks : List Tree = children_of u in
    let front : List Element = take to es in
    let kids : List Tree = take (children_count front) ks in
    let before : ℕ = children_count (take from front) in
    let s = (all u at state there has).elements in
    let up_to = later_prefix g states text state (symbol_of u) to es ks at counted s in
    let inner : AllSound g states text ks at = λ v n j h own. all v n j (in_in ts place u v at n there (inside u [] at v n h)) own in
    let short : AllSound g states text kids at = sound_left g states text kids (drop (children_count front) ks) at (subst (λ (l : List Tree). AllSound g states text l at) (sym (take-append-drop (children_count front) ks)) inner) in
    record {
      counted =
          (let a = count_split from front in
          let b = first_counted to es ks counted in
          let c = length-drop before kids in
          let q : children_count (drop from front) ≡ length (drop before kids) = omega (arith, a, b, c) in q);
      settled = settled;
      stand = later_suffix g states text state (symbol_of u) from front kids at later up_to;
      inner = sound_right g states text (take before kids) (drop before kids) at (subst (λ (l : List Tree). AllSound g states text l at) (sym (take-append-drop before kids)) short);
    }
