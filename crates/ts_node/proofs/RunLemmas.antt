-- What is counted of two stretches, one after the other, and of a stretch with one child replaced.
use Rattle.std.proofs.Common.{◌≡◌, ℕ, zero, suc, ◌+◌, ◌^◌, ◌≤◌, ◌<◌, max, Bool, true, false, ◌&&◌, List, [], ◌∷◌, ◌++◌, length, Some, slice_get, get_or, set, arith, length-append, ap, refl, sym, ◌∙◌, ◌-◌}
use Rattle.std.proofs.lemmas.List.{set-append_left, set-append_right}
use Rattle.std.proofs.lemmas.List.Elements.{All-append}
use Rattle.std.proofs.lemmas.Option.{slice_get_within}
use Rattle.std.specs.Int.RustNames.{unsigned_abs}
use Rattle.std.proofs.lemmas.Int.{ints}
use lib.IntN.{ℤ, ◌+ℤ◌}
use Rattle.spec_trees.specs.declared.tree.Tree.{Tree}
use Rattle.spec_trees.specs.declared.tree.Element.{Element}
use Rattle.spec_trees.specs.declared.tree.Stretch.{Stretch}
use Rattle.spec_trees.specs.Trees.{all_totals, all_values, greatest_depth, first_pad, pad_of}
use Rattle.spec_trees.specs.Made.{children_count, loose_element, loosened_at}
use Rattle.ts_node.specs.declared.node.Counts.{Counts}
use Rattle.ts_node.specs.declared.node.Sums.{Sums}
use Rattle.ts_node.specs.Held.{HoldsNodes, IsSum, IsCount, all_settled, joined_stretch, stretch, changed, loosened_stretch}
use Rattle.ts_node.specs.Standing.{IsSection}
use Rattle.ts_node.specs.Falls.{all_nodes-append}
use Rattle.ts_node.proofs.TotalLemmas.{abs_sum}
use Rattle.ts_node.proofs.ElementLemmas.{blank, all_spans-append, children_count_append, all_totals-append, all_values-append, reach-append, reach_one}

pub greatest_depth-append : (xs ys : List Tree) → greatest_depth (xs ++ ys) ≡ max (greatest_depth xs) (greatest_depth ys)
greatest_depth-append [] ys = omega arith
greatest_depth-append (x ∷ xs) ys = omega (arith, greatest_depth-append xs ys)

and_assoc : (a b c : Bool) → ((a && b) && c) ≡ (a && (b && c))
and_assoc true b c = refl
and_assoc false b c = refl

pub all_settled-append : (xs ys : List Element) → all_settled (xs ++ ys) ≡ (all_settled xs && all_settled ys)
all_settled-append [] ys = refl
all_settled-append (x ∷ xs) ys = ap (λ (b : Bool). x.settled && b) (all_settled-append xs ys) ∙ sym (and_assoc x.settled (all_settled xs) (all_settled ys))

-- what is added up over both of two lists of children
pub record AddsBoth (a b s : Sums) : Type 0 where
  pub nodes : s.nodes ≡ a.nodes + b.nodes
  pub spans : s.spans ≡ a.spans + b.spans
  pub depth : s.depth ≡ max a.depth b.depth
  pub totals : s.totals ≡ a.totals +ℤ b.totals

both_sums : (a b s : Sums) (xs ys : List Tree) → IsSum a xs → IsSum b ys → AddsBoth a b s → IsSum s (xs ++ ys)
both_sums a b s xs ys p q both =
    let total : all_totals (xs ++ ys) ≡ all_totals xs +ℤ all_totals ys = all_totals-append xs ys in
    let abs : unsigned_abs (all_totals (xs ++ ys)) ≡ unsigned_abs (all_totals xs +ℤ all_totals ys) = ap unsigned_abs total in
    record {
      nodes = omega (arith, both.nodes, p.nodes, q.nodes, all_nodes-append xs ys);
      spans = omega (arith, both.spans, p.spans, q.spans, all_spans-append xs ys);
      depth = omega (arith, both.depth, p.depth, q.depth, greatest_depth-append xs ys);
      totals = both.totals ∙ ap (λ (v : ℤ). v +ℤ b.totals) p.totals ∙ ap (λ (v : ℤ). all_totals xs +ℤ v) q.totals ∙ sym total;
      few = omega (arith, p.few, q.few, all_nodes-append xs ys, length-append xs ys);
      short = omega (arith, p.short, q.short, all_spans-append xs ys, length-append xs ys);
      modest = omega (arith, p.modest, q.modest, abs, abs_sum (all_totals xs) (all_totals ys), all_nodes-append xs ys);
      whole = All-append HoldsNodes xs ys p.whole q.whole;
    }

-- what is counted of both of two stretches
pub record CountsBoth (a b c : Counts) : Type 0 where
  pub elements : c.elements ≡ a.elements + b.elements
  pub children : c.children ≡ a.children + b.children
  pub settled : c.settled ≡ (a.settled && b.settled)
  pub values : c.values ≡ a.values +ℤ b.values
  pub reach : c.reach ≡ max a.reach (a.sums.spans + b.reach)
  pub sums : AddsBoth a.sums b.sums c.sums

pub both_counts : (a b c : Counts) (s t : Stretch) → IsCount a s → IsCount b t → CountsBoth a b c → IsCount c (joined_stretch s t)
both_counts a b c s t p q both =
    let total : all_values (s.elements ++ t.elements) ≡ all_values s.elements +ℤ all_values t.elements = all_values-append s.elements t.elements in
    let abs : unsigned_abs (all_values (s.elements ++ t.elements)) ≡ unsigned_abs (all_values s.elements +ℤ all_values t.elements) = ap unsigned_abs total in
    record {
      elements = omega (arith, both.elements, p.elements, q.elements, length-append s.elements t.elements);
      children = omega (arith, both.children, p.children, q.children, length-append s.children t.children);
      settled = both.settled ∙ ap (λ (v : Bool). v && b.settled) p.settled ∙ ap (λ (v : Bool). all_settled s.elements && v) q.settled ∙ sym (all_settled-append s.elements t.elements);
      values = both.values ∙ ap (λ (v : ℤ). v +ℤ b.values) p.values ∙ ap (λ (v : ℤ). all_values s.elements +ℤ v) q.values ∙ sym total;
      small = omega (arith, p.small, q.small, abs, abs_sum (all_values s.elements) (all_values t.elements), length-append s.elements t.elements);
      reach = omega (arith, both.reach, p.reach, p.sums.spans, q.reach, reach-append s.elements t.elements s.children t.children p.own);
      near = omega (arith, p.near, q.near, p.sums.short, reach-append s.elements t.elements s.children t.children p.own, length-append s.children t.children);
      sums = both_sums a.sums b.sums c.sums s.children t.children p.sums q.sums both.sums;
      own = omega (arith, p.own, q.own, children_count_append s.elements t.elements, length-append s.children t.children);
      some = omega (arith, p.some, length-append s.elements t.elements);
    }

and_true : (b : Bool) → (b && true) ≡ b
and_true true = refl
and_true false = refl

-- what is counted of one element
pub record CountsOne (e : Element) (c : Counts) : Type 0 where
  pub elements : c.elements ≡ 1
  pub children : c.children ≡ e.children
  pub settled : c.settled ≡ e.settled
  pub values : c.values ≡ e.dynamic
  pub small : unsigned_abs c.values ≤ 2 ^ 31
  pub reach : c.reach ≡ max e.extent c.sums.spans
  pub near : c.reach ≤ c.sums.spans + 2 ^ 32

pub one_counted : (e : Element) (ks : List Tree) (c : Counts) → e.children ≡ length ks → IsSum c.sums ks → CountsOne e c → IsCount c (stretch (e ∷ []) ks)
one_counted e ks c own sum one =
    let total : all_values (e ∷ []) ≡ c.values = omega (arith, ints, one.values) in
    let abs : unsigned_abs (all_values (e ∷ [])) ≡ unsigned_abs c.values = ap unsigned_abs total in
    record {
      elements = omega (arith, one.elements);
      children = omega (arith, one.children, own);
      settled = one.settled ∙ sym (and_true e.settled);
      values = sym total;
      small = omega (arith, one.small, abs);
      reach = omega (arith, one.reach, sum.spans, reach_one e ks own);
      near = omega (arith, one.reach, one.near, sum.spans, sum.short, reach_one e ks own);
      sums = sum;
      own = omega (arith, own);
      some = omega arith;
    }

-- what is counted of two parts fits the types that it is counted in
pub record CountsFit (a b : Counts) : Type 0 where
  pub elements : a.elements + b.elements < 2 ^ 32
  pub children : a.children + b.children < 2 ^ 32
  pub values : unsigned_abs a.values + unsigned_abs b.values < 2 ^ 63
  pub reach : a.sums.spans + b.reach < 2 ^ 64
  pub nodes : a.sums.nodes + b.sums.nodes < 2 ^ 64
  pub spans : a.sums.spans + b.sums.spans < 2 ^ 64
  pub totals : unsigned_abs a.sums.totals + unsigned_abs b.sums.totals < 2 ^ 127

pub counts_fit : (a b : Counts) (s t : Stretch) → IsCount a s → IsCount b t → length s.elements + length t.elements < 2 ^ 32 → length s.children + length t.children < 2 ^ 32 → CountsFit a b
counts_fit a b s t p q fits wide =
    let va : unsigned_abs a.values ≡ unsigned_abs (all_values s.elements) = ap unsigned_abs p.values in
    let vb : unsigned_abs b.values ≡ unsigned_abs (all_values t.elements) = ap unsigned_abs q.values in
    let ta : unsigned_abs a.sums.totals ≡ unsigned_abs (all_totals s.children) = ap unsigned_abs p.sums.totals in
    let tb : unsigned_abs b.sums.totals ≡ unsigned_abs (all_totals t.children) = ap unsigned_abs q.sums.totals in
    record {
      elements = omega (arith, p.elements, q.elements, fits);
      children = omega (arith, p.children, q.children, wide);
      values = omega (arith, va, vb, p.small, q.small, fits);
      reach = omega (arith, p.sums.spans, p.sums.short, q.reach, q.near, wide);
      nodes = omega (arith, p.sums.nodes, q.sums.nodes, p.sums.few, q.sums.few, wide);
      spans = omega (arith, p.sums.spans, q.sums.spans, p.sums.short, q.sums.short, wide);
      totals = omega (arith, ta, tb, p.sums.modest, q.sums.modest, p.sums.few, q.sums.few, wide);
    }

pub first_pad_is : (ts : List Tree) (t : Tree) → slice_get ts 0 ≡ Some t → first_pad ts ≡ pad_of t
first_pad_is [] t e = omega (arith, slice_get_within [] 0 t e)
first_pad_is (x ∷ xs) t e = let h : Some x ≡ Some t = e in cc

pub no_first_pad : (ts : List Tree) → length ts ≡ 0 → first_pad ts ≡ 0
no_first_pad [] e = refl
no_first_pad (x ∷ xs) e = omega (arith, e)

-- ---- one child replaced

pub changed_left : (s t w : Stretch) (k : ℕ) (child : Tree) → joined_stretch s t ≡ w → k < length s.children → joined_stretch (changed s k child) t ≡ changed w k child
changed_left s t w k child e h =
    ap (λ (xs : List Tree). stretch (s.elements ++ t.elements) xs) (sym (set-append_left s.children t.children k child h))
    ∙ ap (λ (v : Stretch). changed v k child) e

pub changed_right : (s t w : Stretch) (k : ℕ) (child : Tree) → joined_stretch s t ≡ w → length s.children ≤ k → joined_stretch s (changed t (k - length s.children) child) ≡ changed w k child
changed_right s t w k child e h =
    ap (λ (xs : List Tree). stretch (s.elements ++ t.elements) xs) (sym (set-append_right s.children t.children (length s.children) k child refl h))
    ∙ ap (λ (v : Stretch). changed v k child) e

-- ---- one element not settled

pub length-loosened_at : (k : ℕ) (es : List Element) → length (loosened_at k es) ≡ length es
length-loosened_at k [] = refl
length-loosened_at zero (e ∷ es) = refl
length-loosened_at (suc k) (e ∷ es) = ap suc (length-loosened_at k es)

pub count-loosened_at : (k : ℕ) (es : List Element) → children_count (loosened_at k es) ≡ children_count es
count-loosened_at k [] = refl
count-loosened_at zero (e ∷ es) = refl
count-loosened_at (suc k) (e ∷ es) = ap (λ (n : ℕ). e.children + n) (count-loosened_at k es)

pub loosened_is_set : (es : List Element) (k : ℕ) → k < length es → loosened_at k es ≡ set es k (loose_element (get_or es k blank))
loosened_is_set [] k there = absurd (omega (arith, there))
loosened_is_set (e ∷ es) zero there = refl
loosened_is_set (e ∷ es) (suc k) there = ap (λ (l : List Element). e ∷ l) (loosened_is_set es k (omega (arith, there)))

-- where an element is set to the same one, not settled
pub loosened_by_set : (es new : List Element) (k : ℕ) (other : Element) → k < length es → new ≡ set es k other → other ≡ loose_element (get_or es k blank) → new ≡ loosened_at k es
loosened_by_set es new k other there is other_is = is ∙ ap (λ (e : Element). set es k e) other_is ∙ sym (loosened_is_set es k there)

loosened_append_left : (xs ys : List Element) (k : ℕ) → k < length xs → loosened_at k (xs ++ ys) ≡ loosened_at k xs ++ ys
loosened_append_left [] ys k h = absurd (omega (arith, h))
loosened_append_left (x ∷ xs) ys zero h = refl
loosened_append_left (x ∷ xs) ys (suc k) h = ap (λ (l : List Element). x ∷ l) (loosened_append_left xs ys k (omega (arith, h)))

loosened_append_right : (xs ys : List Element) (k : ℕ) → length xs ≤ k → loosened_at k (xs ++ ys) ≡ xs ++ loosened_at (k - length xs) ys
loosened_append_right [] ys k h = let e : k ≡ k - 0 = omega arith in ap (λ (i : ℕ). loosened_at i ys) e
loosened_append_right (x ∷ xs) ys zero h = absurd (omega (arith, h))
loosened_append_right (x ∷ xs) ys (suc k) h =
    let e : k - length xs ≡ suc k - length (x ∷ xs) = omega arith in
    ap (λ (l : List Element). x ∷ l) (loosened_append_right xs ys k (omega (arith, h)) ∙ ap (λ (i : ℕ). xs ++ loosened_at i ys) e)

pub loosened_left : (s t w : Stretch) (k : ℕ) → joined_stretch s t ≡ w → k < length s.elements → joined_stretch (loosened_stretch s k) t ≡ loosened_stretch w k
loosened_left s t w k e h =
    ap (λ (l : List Element). stretch l (s.children ++ t.children)) (sym (loosened_append_left s.elements t.elements k h))
    ∙ ap (λ (v : Stretch). loosened_stretch v k) e

pub loosened_right : (s t w : Stretch) (k : ℕ) → joined_stretch s t ≡ w → length s.elements ≤ k → joined_stretch s (loosened_stretch t (k - length s.elements)) ≡ loosened_stretch w k
loosened_right s t w k e h =
    ap (λ (l : List Element). stretch l (s.children ++ t.children)) (sym (loosened_append_right s.elements t.elements k h))
    ∙ ap (λ (v : Stretch). loosened_stretch v k) e

-- ---- one child replaced, and one element not settled

pub both_left : (s t w : Stretch) (k : ℕ) (child : Tree) (e : ℕ) → joined_stretch s t ≡ w → k < length s.children → e < length s.elements → joined_stretch (loosened_stretch (changed s k child) e) t ≡ loosened_stretch (changed w k child) e
both_left s t w k child e v h i = loosened_left (changed s k child) t (changed w k child) e (changed_left s t w k child v h) i

pub both_right : (s t w : Stretch) (k : ℕ) (child : Tree) (e : ℕ) → joined_stretch s t ≡ w → length s.children ≤ k → length s.elements ≤ e → joined_stretch s (loosened_stretch (changed t (k - length s.children) child) (e - length s.elements)) ≡ loosened_stretch (changed w k child) e
both_right s t w k child e v h i = loosened_right s (changed t (k - length s.children) child) (changed w k child) e (changed_right s t w k child v h) i

-- what a section of these says of itself
pub section_tells : (c : Counts) (s : Stretch) → IsCount c s → IsSection s
section_tells c s q = record { some = q.some; own = q.own; small = q.small; modest = q.sums.modest }
