-- Elements that are settled and were examined up to a place alone, one after another.
use Rattle.std.proofs.Common.{◌≡◌, ℕ, zero, suc, ◌+◌, ◌-◌, ◌≤◌, ◌<◌, max, List, [], ◌∷◌, ◌++◌, length, take, drop, Bool, true, false, true≢false, not, ◌&&◌, nat_lt, get_or, refl, sym, ap, ◌∙◌, arith, length-drop}
use Rattle.std.specs.Prelude.{if◌then◌else◌}
use Rattle.std.proofs.lemmas.List.{take-append-le, drop-append-le, drop-drop}
use Rattle.spec_trees.specs.declared.tree.Tree.{Tree}
use Rattle.spec_trees.specs.declared.tree.Element.{Element}
use Rattle.spec_trees.specs.declared.tree.Stretch.{Stretch}
use Rattle.spec_trees.specs.Trees.{elements_of, all_spans}
use Rattle.spec_trees.specs.Made.{children_count, reach_of, elements_from, bytes_before, stretch_in}
use Rattle.ts_node.specs.Held.{joined_stretch, all_settled}
use Rattle.ts_node.specs.Places.{IsSettledBy, is_settled_by, settled_by, settled_after}
use Rattle.ts_node.proofs.ElementLemmas.{blank, next_elements, all_spans-split, before_left, before_right, rest_left, rest_right, count_behind}

-- ---- one element

not_lower : (a b : ℕ) → b ≤ a → nat_lt a b ≡ false
not_lower a b h = grind arith

lower : (a b : ℕ) → nat_lt a b ≡ true → a < b
lower a b e = grind arith

not_less : (a b : ℕ) → nat_lt a b ≡ false → b ≤ a
not_less a b e = grind arith

pub one_is : (e : Element) (bytes room : ℕ) → IsSettledBy e bytes room → is_settled_by e bytes room ≡ true
one_is e bytes room h = rw (h.0, not_lower room (max e.extent bytes) h.1) refl

pub one_tells : (e : Element) (bytes room : ℕ) → is_settled_by e bytes room ≡ true → IsSettledBy e bytes room
one_tells e bytes room h = by e.settled (nat_lt room (max e.extent bytes)) refl refl h
  where
    by : (a b : Bool) → e.settled ≡ a → nat_lt room (max e.extent bytes) ≡ b → (a && not b) ≡ true → IsSettledBy e bytes room
    by true true s n t = absurd (true≢false (sym t))
    by true false s n t = (s, not_less room (max e.extent bytes) n)
    by false b s n t = absurd (true≢false (sym t))

-- ---- elements one after another

pub by_within : (room : ℕ) (es : List Element) (ks : List Tree) → settled_by room es ks ≤ length es
by_within room [] ks = omega arith
by_within room (e ∷ es) ks =
    let n = e.children in
    let p = room - all_spans (take n ks) in
    by (is_settled_by e (all_spans (take n ks)) room) (settled_by p es (drop n ks)) (by_within p es (drop n ks))
  where
    by : (b : Bool) (m : ℕ) → m ≤ length es → (if b then suc m else 0) ≤ suc (length es)
    by true m h = omega (arith, h)
    by false m h = omega arith

-- where not all of the first are so, those behind them do not count
pub by_stops : (room : ℕ) (es fs : List Element) (ks more : List Tree) → children_count es ≡ length ks → settled_by room es ks < length es → settled_by room (es ++ fs) (ks ++ more) ≡ settled_by room es ks
by_stops room [] fs ks more own h = absurd (omega (arith, h))
by_stops room (e ∷ es) fs ks more own h =
    let n = e.children in
    let p = room - all_spans (take n ks) in
    let t : take n (ks ++ more) ≡ take n ks = take-append-le n ks more (omega (arith, own)) in
    let d : drop n (ks ++ more) ≡ drop n ks ++ more = drop-append-le n ks more (omega (arith, own)) in
    ap (λ (x : List Tree). if is_settled_by e (all_spans x) room then suc (settled_by (room - all_spans x) (es ++ fs) (drop n (ks ++ more))) else 0) t
    ∙ ap (λ (y : List Tree). if is_settled_by e (all_spans (take n ks)) room then suc (settled_by p (es ++ fs) y) else 0) d
    ∙ by (is_settled_by e (all_spans (take n ks)) room) (settled_by p es (drop n ks)) (settled_by p (es ++ fs) (drop n ks ++ more)) h
    (by_stops p es fs (drop n ks) more (omega (arith, own, length-drop n ks)))
  where
    by : (b : Bool) (m w : ℕ) → (if b then suc m else 0) < suc (length es) → (m < length es → w ≡ m) → (if b then suc w else 0) ≡ (if b then suc m else 0)
    by true m w s same = ap suc (same (omega (arith, s)))
    by false m w s same = refl

pub by_goes_on : (room : ℕ) (es fs : List Element) (ks more : List Tree) → children_count es ≡ length ks → settled_by room es ks ≡ length es → settled_by room (es ++ fs) (ks ++ more) ≡ length es + settled_by (room - all_spans ks) fs more
by_goes_on room [] fs [] more own h =
    let p : room ≡ room - 0 = omega arith in
    let q : settled_by room fs more ≡ settled_by (room - 0) fs more = ap (λ (x : ℕ). settled_by x fs more) p in
    omega (arith, q)
by_goes_on room [] fs (k ∷ ks) more own h = absurd (omega (arith, own))
by_goes_on room (e ∷ es) fs ks more own h =
    let n = e.children in
    let p = room - all_spans (take n ks) in
    let t : take n (ks ++ more) ≡ take n ks = take-append-le n ks more (omega (arith, own)) in
    let d : drop n (ks ++ more) ≡ drop n ks ++ more = drop-append-le n ks more (omega (arith, own)) in
    let q : p - all_spans (drop n ks) ≡ room - all_spans ks = omega (arith, all_spans-split n ks) in
    let v : settled_by (p - all_spans (drop n ks)) fs more ≡ settled_by (room - all_spans ks) fs more = ap (λ (x : ℕ). settled_by x fs more) q in
    let rest : settled_by p es (drop n ks) ≡ length es → settled_by p (es ++ fs) (drop n ks ++ more) ≡ length es + settled_by (p - all_spans (drop n ks)) fs more =
    by_goes_on p es fs (drop n ks) more (omega (arith, own, length-drop n ks)) in
    ap (λ (x : List Tree). if is_settled_by e (all_spans x) room then suc (settled_by (room - all_spans x) (es ++ fs) (drop n (ks ++ more))) else 0) t
    ∙ ap (λ (y : List Tree). if is_settled_by e (all_spans (take n ks)) room then suc (settled_by p (es ++ fs) y) else 0) d
    ∙ by (is_settled_by e (all_spans (take n ks)) room) (settled_by p es (drop n ks)) (settled_by p (es ++ fs) (drop n ks ++ more)) (settled_by (room - all_spans ks) fs more) h
    (λ s. omega (arith, rest s, v))
  where
    by : (b : Bool) (m w v : ℕ) → (if b then suc m else 0) ≡ suc (length es) → (m ≡ length es → w ≡ length es + v) → (if b then suc w else 0) ≡ suc (length es) + v
    by true m w v s same = let g : w ≡ length es + v = same (omega (arith, s)) in omega (arith, g)
    by false m w v s same = absurd (omega (arith, s))

and_both : (a b : Bool) → (a && b) ≡ true → (a ≡ true) × (b ≡ true)
and_both true b h = (refl, h)
and_both false b h = absurd (true≢false (sym h))

-- all of them are so, where they are settled and do not reach past what is left
pub by_all : (room : ℕ) (es : List Element) (ks : List Tree) → all_settled es ≡ true → reach_of es ks ≤ room → settled_by room es ks ≡ length es
by_all room [] ks s h = refl
by_all room (e ∷ es) ks s h =
    let n = e.children in
    let two = and_both e.settled (all_settled es) s in
    let one : is_settled_by e (all_spans (take n ks)) room ≡ true = one_is e (all_spans (take n ks)) room (two.0, omega (arith, h)) in
    let rest : settled_by (room - all_spans (take n ks)) es (drop n ks) ≡ length es = by_all (room - all_spans (take n ks)) es (drop n ks) two.1 (omega (arith, h)) in
    ap (λ (b : Bool). if b then suc (settled_by (room - all_spans (take n ks)) es (drop n ks)) else 0) one ∙ ap suc rest

-- ---- a run of two parts

-- from an element of the second part on
pub after_right : (s t w : Stretch) (k room : ℕ) → joined_stretch s t ≡ w → children_count s.elements ≡ length s.children → length s.elements ≤ k → settled_after (room - all_spans s.children) (k - length s.elements) t ≡ settled_after room k w
after_right s t w k room e own h =
    let j = k - length s.elements in
    let b : (room - all_spans s.children) - bytes_before j t ≡ room - bytes_before k w = omega (arith, before_right s t w k e own h) in
    let r : elements_from j t ≡ elements_from k w = rest_right s t w k e own h in
    ap (λ (x : ℕ). settled_by x (elements_from j t).elements (elements_from j t).children) b
    ∙ ap (λ (v : Stretch). settled_by (room - bytes_before k w) v.elements v.children) r

-- from an element of the first part on, and not to its end
pub after_left : (s t w : Stretch) (k room : ℕ) → joined_stretch s t ≡ w → children_count s.elements ≡ length s.children → k ≤ length s.elements → k + settled_after room k s < length s.elements → settled_after room k s ≡ settled_after room k w
after_left s t w k room e own h less =
    let p = room - bytes_before k s in
    let ks = (elements_from k s).children in
    let b : bytes_before k s ≡ bytes_before k w = before_left s t w k e own h in
    let r : joined_stretch (elements_from k s) t ≡ elements_from k w = rest_left s t (elements_from k s) w k e own h refl in
    let stops : settled_by p (drop k s.elements ++ t.elements) (ks ++ t.children) ≡ settled_by p (drop k s.elements) ks =
    by_stops p (drop k s.elements) t.elements ks t.children (count_behind k s.elements s.children own) (omega (arith, less, length-drop k s.elements)) in
    sym stops
    ∙ ap (λ (v : Stretch). settled_by p v.elements v.children) r
    ∙ ap (λ (x : ℕ). settled_by (room - x) (elements_from k w).elements (elements_from k w).children) b

-- from an element of the first part on, past its end
pub after_both : (s t w : Stretch) (k room : ℕ) → joined_stretch s t ≡ w → children_count s.elements ≡ length s.children → k ≤ length s.elements → length s.elements ≤ k + settled_after room k s → settled_after room k s + settled_by (room - all_spans s.children) t.elements t.children ≡ settled_after room k w
after_both s t w k room e own h all =
    let p = room - bytes_before k s in
    let ks = (elements_from k s).children in
    let b : bytes_before k s ≡ bytes_before k w = before_left s t w k e own h in
    let r : joined_stretch (elements_from k s) t ≡ elements_from k w = rest_left s t (elements_from k s) w k e own h refl in
    let whole : settled_by p (drop k s.elements) ks ≡ length (drop k s.elements) = omega (arith, all, length-drop k s.elements, by_within p (drop k s.elements) ks) in
    let goes : settled_by p (drop k s.elements ++ t.elements) (ks ++ t.children) ≡ length (drop k s.elements) + settled_by (p - all_spans ks) t.elements t.children =
    by_goes_on p (drop k s.elements) t.elements ks t.children (count_behind k s.elements s.children own) whole in
    let q : p - all_spans ks ≡ room - all_spans s.children = omega (arith, all_spans-split (children_count (take k s.elements)) s.children) in
    let v : settled_by (p - all_spans ks) t.elements t.children ≡ settled_by (room - all_spans s.children) t.elements t.children = ap (λ (x : ℕ). settled_by x t.elements t.children) q in
    let f : settled_after room k s + settled_by (room - all_spans s.children) t.elements t.children ≡ settled_by p (drop k s.elements ++ t.elements) (ks ++ t.children) = omega (arith, goes, whole, v) in
    f
    ∙ ap (λ (v : Stretch). settled_by p v.elements v.children) r
    ∙ ap (λ (x : ℕ). settled_by (room - x) (elements_from k w).elements (elements_from k w).children) b

-- from the first element on
pub first_stops : (s t w : Stretch) (room : ℕ) → joined_stretch s t ≡ w → children_count s.elements ≡ length s.children → settled_by room s.elements s.children < length s.elements → settled_by room s.elements s.children ≡ settled_by room w.elements w.children
first_stops s t w room e own less =
    sym (by_stops room s.elements t.elements s.children t.children own less) ∙ ap (λ (v : Stretch). settled_by room v.elements v.children) e

pub first_goes_on : (s t w : Stretch) (room : ℕ) → joined_stretch s t ≡ w → children_count s.elements ≡ length s.children → length s.elements ≤ settled_by room s.elements s.children → settled_by room s.elements s.children + settled_by (room - all_spans s.children) t.elements t.children ≡ settled_by room w.elements w.children
first_goes_on s t w room e own all =
    let whole : settled_by room s.elements s.children ≡ length s.elements = omega (arith, all, by_within room s.elements s.children) in
    let f : settled_by room s.elements s.children + settled_by (room - all_spans s.children) t.elements t.children ≡ settled_by room (s.elements ++ t.elements) (s.children ++ t.children) =
    omega (arith, whole, by_goes_on room s.elements t.elements s.children t.children own whole) in
    f ∙ ap (λ (v : Stretch). settled_by room v.elements v.children) e

-- ---- a loop over elements

-- the element at hand is so, or it is not
pub by_next : (room : ℕ) (es : List Element) (ks : List Tree) (i from : ℕ) → i < length es → IsSettledBy (get_or es i blank) (all_spans (take (get_or es i blank).children (drop from ks))) room
    → settled_by room (drop i es) (drop from ks) ≡ 1 + settled_by (room - all_spans (take (get_or es i blank).children (drop from ks))) (drop (i + 1) es) (drop (from + (get_or es i blank).children) ks)
by_next room es ks i from there on =
    let d : Element = get_or es i blank in
    let n = d.children in
    let p = room - all_spans (take n (drop from ks)) in
    let last : suc (settled_by p (drop (i + 1) es) (drop (from + n) ks)) ≡ 1 + settled_by p (drop (i + 1) es) (drop (from + n) ks) = omega arith in
    ap (λ (xs : List Element). settled_by room xs (drop from ks)) (next_elements es i there)
    ∙ ap (λ (b : Bool). if b then suc (settled_by p (drop (i + 1) es) (drop n (drop from ks))) else 0) (one_is d (all_spans (take n (drop from ks))) room on)
    ∙ ap (λ (ys : List Tree). suc (settled_by p (drop (i + 1) es) ys)) (drop-drop n from ks)
    ∙ last

pub by_ends : (room : ℕ) (es : List Element) (ks : List Tree) (i from : ℕ) → i < length es → (IsSettledBy (get_or es i blank) (all_spans (take (get_or es i blank).children (drop from ks))) room → ⊥) → settled_by room (drop i es) (drop from ks) ≡ 0
by_ends room es ks i from there off =
    let d : Element = get_or es i blank in
    let n = d.children in
    ap (λ (xs : List Element). settled_by room xs (drop from ks)) (next_elements es i there)
    ∙ by (is_settled_by d (all_spans (take n (drop from ks))) room) (settled_by (room - all_spans (take n (drop from ks))) (drop (i + 1) es) (drop n (drop from ks)))
    (λ t. off (one_tells d (all_spans (take n (drop from ks))) room t))
  where
    by : (b : Bool) (m : ℕ) → (b ≡ true → ⊥) → (if b then suc m else 0) ≡ 0
    by true m h = absurd (h refl)
    by false m h = refl

-- ---- where there are no elements

pub none_settled : (room k : ℕ) (t : Tree) → length (elements_of t) ≡ 0 → settled_after room k (stretch_in t) ≡ 0
none_settled room k t h = by (elements_of t) k (room - bytes_before k (stretch_in t)) (elements_from k (stretch_in t)).children h
  where
    by : (es : List Element) (n p : ℕ) (ks : List Tree) → length es ≡ 0 → settled_by p (drop n es) ks ≡ 0
    by [] zero p ks none = refl
    by [] (suc n) p ks none = refl
    by (e ∷ es) n p ks none = absurd (omega (arith, none))
