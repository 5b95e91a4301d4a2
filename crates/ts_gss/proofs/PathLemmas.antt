-- Steps down a stack.
use Rattle.std.proofs.Common.{◌≡◌, ◌∙◌, sym, ap, refl, subst, ℕ, zero, suc, ◌+◌, ◌-◌, ◌<◌, ◌≤◌, max, Bool, true, false, true≢false, if◌then◌else◌, List, [], ◌∷◌, ◌++◌, append_assoc, length, length-append, take, drop, reverse, Some, arith}
use Rattle.std.proofs.lemmas.List.{map-append, reverse-append, reverse-reverse, length-reverse}
use Rattle.spec_trees.specs.declared.tree.Tree.{Tree}
use Rattle.spec_trees.specs.Trees.{is_extra_node, maximum}
use Rattle.spec_trees.specs.Made.{filling, BeginsFilled}
use Rattle.spec_runs.specs.Configurations.{AreExtras}
use Rattle.ts_gss.specs.declared.layer.Layer.{Layer}
use Rattle.ts_gss.specs.Stacks.{trees_on, depths_on, tree_on, depth_on, under_top, begins_with_extra}
use Rattle.ts_gss.specs.Paths.{IsLifted, IsTakenOff, depths_of, AreDepthsOf, still_wanting, Lifting, Taking}

-- one tree, or none, turned round is the same
pub short_turned : (ts : List Tree) → length ts ≤ 1 → ts ≡ reverse ts
short_turned [] few = refl
short_turned (t ∷ []) few = refl
short_turned (t ∷ u ∷ ts) few = absurd (omega (arith, few))

extras_more : (es : List Tree) (t : Tree) → AreExtras es → is_extra_node t ≡ true → AreExtras (es ++ t ∷ [])
extras_more [] t all h = (h, tt)
extras_more (e ∷ es) t all h = (all.0, extras_more es t all.1 h)

drop_one : (n : ℕ) (stack rest : List Layer) (l : Layer) → l ∷ rest ≡ drop n stack → rest ≡ drop (suc n) stack
drop_one zero [] rest l e = absurd (let h : l ∷ rest ≡ [] = e in cc)
drop_one zero (x ∷ stack) rest l e = let h : l ∷ rest ≡ x ∷ stack = e in cc
drop_one (suc n) [] rest l e = absurd (let h : l ∷ rest ≡ [] = e in cc)
drop_one (suc n) (x ∷ stack) rest l e = drop_one n stack rest l e

drop_next : (ts : List Tree) (t : Tree) (stack rest : List Layer) (l : Layer) → l ∷ rest ≡ drop (length ts) stack → rest ≡ drop (length (ts ++ t ∷ [])) stack
drop_next ts t stack rest l e =
    let n : length (ts ++ t ∷ []) ≡ suc (length ts) = omega (arith, length-append ts (t ∷ [])) in
    drop_one (length ts) stack rest l e ∙ ap (λ (k : ℕ). drop k stack) (sym n)

pub lift_more : (stack under rest : List Layer) (extras more : List Tree) (t : Tree) → Lifting stack extras under → true ≡ begins_with_extra under → Some t ≡ tree_on under → rest ≡ under_top under → more ≡ extras ++ t ∷ [] → Lifting stack more rest
lift_more stack [] rest extras more t b extra top rest_is more_is = absurd (true≢false extra)
lift_more stack (l ∷ under) rest extras more t b extra top rest_is more_is =
    let t_is : t ≡ l.tree = let h : Some t ≡ Some l.tree = top in cc in
    let fills : is_extra_node t ≡ true = ap is_extra_node t_is ∙ sym extra in
    let r : rest ≡ under = rest_is in
    record {
      trees = b.trees ∙ ap (λ (x : Tree). extras ++ x ∷ trees_on under) (sym t_is) ∙ sym (append_assoc extras (t ∷ []) (trees_on under)) ∙ ap (λ (es : List Tree). es ++ trees_on under) (sym more_is) ∙ ap (λ (ls : List Layer). more ++ trees_on ls) (sym r);
      all_extras = subst AreExtras (sym more_is) (extras_more extras t b.all_extras fills);
      rest = r ∙ drop_next extras t stack under l b.rest ∙ ap (λ (es : List Tree). drop (length es) stack) (sym more_is);
    }

-- no extra is on top
pub lifts_none : (stack : List Layer) (extras : List Tree) → extras ≡ [] → begins_with_extra stack ≡ false → IsLifted stack extras stack
lifts_none stack extras none plain = subst (λ (es : List Tree). IsLifted stack es stack) (sym none) (record { trees = refl; all_extras = tt; no_more = fills stack plain; rest = refl })
  where
    fills : (ls : List Layer) → begins_with_extra ls ≡ false → BeginsFilled (trees_on ls)
    fills [] e = tt
    fills (l ∷ ls) e = e

-- ---- taking

filling_snoc : (ts : List Tree) (t : Tree) (b : Bool) → is_extra_node t ≡ b → length (filling (ts ++ t ∷ [])) ≡ length (filling ts) + (if b then 0 else 1)
filling_snoc [] t true e = rw e refl
filling_snoc [] t false e = rw e refl
filling_snoc (s ∷ ts) t b e = by (is_extra_node s) refl (filling_snoc ts t b e)
  where
    by : (x : Bool) → is_extra_node s ≡ x → length (filling (ts ++ t ∷ [])) ≡ length (filling ts) + (if b then 0 else 1) → length (filling (s ∷ ts ++ t ∷ [])) ≡ length (filling (s ∷ ts)) + (if b then 0 else 1)
    by true f h = rw f h
    by false f h = rw f (omega (arith, h))

turned : (ts : List Tree) (t : Tree) → reverse (ts ++ t ∷ []) ≡ t ∷ reverse ts
turned ts t = reverse-append ts (t ∷ [])

pub some_wanted : (stack : List Layer) (wanting : ℕ) → 0 < wanting → wanting ≤ length (filling (trees_on stack)) → 0 < length stack
some_wanted [] wanting some enough = absurd (omega (arith, some, enough))
some_wanted (l ∷ stack) wanting some enough = omega arith

pub take_begins : (stack : List Layer) (count : ℕ) (trees : List Tree) → trees ≡ [] → count ≤ length (filling (trees_on stack)) → Taking stack count trees stack count
take_begins stack count trees none enough = subst (λ (ts : List Tree). Taking stack count ts stack count) (sym none) (record { trees_are = refl; filled = omega arith; enough = enough; begins = λ zero_is. tt; rest = refl })

pub take_more : (stack below rest : List Layer) (count wanting left : ℕ) (trees more : List Tree) (t : Tree) → Taking stack count trees below wanting → 0 < wanting → Some t ≡ tree_on below → rest ≡ under_top below
    → more ≡ trees ++ t ∷ [] → left ≡ still_wanting t wanting → Taking stack count more rest left
take_more stack [] rest count wanting left trees more t b some top rest_is more_is left_is = absurd (let e = b.enough in omega arith)
take_more stack (l ∷ below) rest count wanting left trees more t b some top rest_is more_is left_is = by (is_extra_node t) refl
  where
    t_is : t ≡ l.tree
    t_is = let h : Some t ≡ Some l.tree = top in cc

    trees_are : trees_on stack ≡ more ++ trees_on rest
    trees_are = b.trees_are ∙ ap (λ (x : Tree). trees ++ x ∷ trees_on below) (sym t_is) ∙ sym (append_assoc trees (t ∷ []) (trees_on below)) ∙ ap (λ (es : List Tree). es ++ trees_on below) (sym more_is) ∙ ap (λ (ls : List Layer). more ++ trees_on ls) (sym rest_is)

    rest_at : rest ≡ drop (length more) stack
    rest_at = rest_is ∙ drop_next trees t stack below l b.rest ∙ ap (λ (es : List Tree). drop (length es) stack) (sym more_is)

    enough_here : (x : Bool) → is_extra_node t ≡ x → length (filling (trees_on (l ∷ below))) ≡ length (filling (trees_on rest)) + (if x then 0 else 1)
    enough_here true e = let f : is_extra_node l.tree ≡ true = ap is_extra_node (sym t_is) ∙ e in rw (f, rest_is) (omega arith)
    enough_here false e = let f : is_extra_node l.tree ≡ false = ap is_extra_node (sym t_is) ∙ e in rw (f, rest_is) (omega arith)

    by : (x : Bool) → is_extra_node t ≡ x → Taking stack count more rest left
    by true e =
        let w : left ≡ wanting = left_is ∙ rw e refl in
        let s : length (filling more) ≡ length (filling trees) + 0 = ap (λ (ts : List Tree). length (filling ts)) more_is ∙ filling_snoc trees t true e in
        let n : length (filling (trees_on (l ∷ below))) ≡ length (filling (trees_on rest)) + 0 = enough_here true e in
        let old = b.enough in
        let all = b.filled in
        record { trees_are = trees_are; filled = omega arith; enough = omega arith; begins = λ zero_is. absurd (omega arith); rest = rest_at }
    by false e =
        let w : left ≡ wanting - 1 = left_is ∙ rw e refl in
        let s : length (filling more) ≡ length (filling trees) + 1 = ap (λ (ts : List Tree). length (filling ts)) more_is ∙ filling_snoc trees t false e in
        let n : length (filling (trees_on (l ∷ below))) ≡ length (filling (trees_on rest)) + 1 = enough_here false e in
        let old = b.enough in
        let all = b.filled in
        record {
          trees_are = trees_are;
          filled = omega arith;
          enough = omega arith;
          begins = λ zero_is. subst BeginsFilled (sym (ap (λ (ts : List Tree). reverse ts) more_is ∙ turned trees t)) e;
          rest = rest_at;
        }

filling_front : (t : Tree) (ts : List Tree) (b : Bool) → is_extra_node t ≡ b → length (filling (t ∷ ts)) ≡ length (filling ts) + (if b then 0 else 1)
filling_front t ts true e = rw e (omega arith)
filling_front t ts false e = rw e (omega arith)

filling_turned : (ts : List Tree) → length (filling (reverse ts)) ≡ length (filling ts)
filling_turned [] = refl
filling_turned (t ∷ ts) =
    ap (λ (us : List Tree). length (filling us)) (reverse-append (t ∷ []) ts)
    ∙ filling_snoc (reverse ts) t (is_extra_node t) refl
    ∙ ap (λ (n : ℕ). n + (if is_extra_node t then 0 else 1)) (filling_turned ts)
    ∙ sym (filling_front t ts (is_extra_node t) refl)

pub take_ends : (stack below : List Layer) (count wanting : ℕ) (trees new : List Tree) → Taking stack count trees below wanting → wanting ≤ 0 → new ≡ reverse trees → IsTakenOff stack count new below
take_ends stack below count wanting trees new b none new_is =
    let back : reverse new ≡ trees = ap (λ (ts : List Tree). reverse ts) new_is ∙ reverse-reverse trees in
    let f = b.filled in
    let n : length (filling new) ≡ length (filling trees) = ap (λ (ts : List Tree). length (filling ts)) new_is ∙ filling_turned trees in
    let m : length new ≡ length trees = ap (λ (ts : List Tree). length ts) new_is ∙ length-reverse trees in
    record {
      trees_are = b.trees_are ∙ ap (λ (ts : List Tree). ts ++ trees_on below) (sym back);
      filled = omega arith;
      begins = subst BeginsFilled (sym new_is) (b.begins (omega arith));
      rest = b.rest ∙ ap (λ (k : ℕ). drop k stack) (sym m);
    }

-- ---- depths

take_one_more : (n : ℕ) (stack rest : List Layer) (l : Layer) → l ∷ rest ≡ drop n stack → take (suc n) stack ≡ take n stack ++ l ∷ []
take_one_more zero [] rest l e = absurd (let h : l ∷ rest ≡ [] = e in cc)
take_one_more zero (x ∷ stack) rest l e =
    let h : l ∷ rest ≡ x ∷ stack = e in
    let same : x ≡ l = cc in
    ap (λ (y : Layer). y ∷ []) same
take_one_more (suc n) [] rest l e = absurd (let h : l ∷ rest ≡ [] = e in cc)
take_one_more (suc n) (x ∷ stack) rest l e = ap (λ (ls : List Layer). x ∷ ls) (take_one_more n stack rest l e)

depths_one_more : (n : ℕ) (stack rest : List Layer) (l : Layer) → l ∷ rest ≡ drop n stack → depths_of (suc n) stack ≡ l.depth ∷ depths_of n stack
depths_one_more n stack rest l e =
    ap (λ (ls : List Layer). reverse (depths_on ls)) (take_one_more n stack rest l e)
    ∙ ap (λ (ds : List ℕ). reverse ds) (map-append (λ (x : Layer). x.depth) (take n stack) (l ∷ []))
    ∙ reverse-append (depths_on (take n stack)) (l.depth ∷ [])

whole_maximum : (ds : List ℕ) → maximum ds ≡ max (maximum (take 1 ds)) (maximum (drop 1 ds))
whole_maximum [] = refl
whole_maximum (d ∷ ds) = omega arith

-- no layer was taken yet
pub depths_begin : (stack : List Layer) (trees : List Tree) → trees ≡ [] → AreDepthsOf (depths_of (length trees) stack) 0 0
depths_begin stack trees none = subst (λ (ts : List Tree). AreDepthsOf (depths_of (length ts) stack) 0 0) (sym none) (refl, refl)

pub depths_more : (stack below : List Layer) (trees more : List Tree) (t : Tree) (first others depth most : ℕ) → below ≡ drop (length trees) stack → Some depth ≡ depth_on below → more ≡ trees ++ t ∷ [] → most ≡ max first others
    → AreDepthsOf (depths_of (length trees) stack) first others → AreDepthsOf (depths_of (length more) stack) depth most
depths_more stack [] trees more t first others depth most rest top more_is most_is are = absurd (cc)
depths_more stack (l ∷ below) trees more t first others depth most rest top more_is most_is are =
    let n : length more ≡ suc (length trees) = omega (arith, ap (λ (ts : List Tree). length ts) more_is, length-append trees (t ∷ [])) in
    let d : depth ≡ l.depth = let h : Some depth ≡ Some l.depth = top in cc in
    let ds : depths_of (length more) stack ≡ l.depth ∷ depths_of (length trees) stack = ap (λ (k : ℕ). depths_of k stack) n ∙ depths_one_more (length trees) stack below l rest in
    let whole = whole_maximum (depths_of (length trees) stack) in
    let one = are.0 in
    let two = are.1 in
    subst (λ (xs : List ℕ). AreDepthsOf xs depth most) (sym ds) ((omega arith), (omega arith))

-- the trees were turned
pub depths_end : (stack : List Layer) (trees new : List Tree) (first others : ℕ) → new ≡ reverse trees → AreDepthsOf (depths_of (length trees) stack) first others → AreDepthsOf (depths_of (length new) stack) first others
depths_end stack trees new first others new_is are =
    subst (λ (n : ℕ). AreDepthsOf (depths_of n stack) first others) (sym (ap (λ (ts : List Tree). length ts) new_is ∙ length-reverse trees)) are
