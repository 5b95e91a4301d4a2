-- The depth of a node is that of one of its children: where the greatest depths of the children are
-- met by different readings, that of the node is met by one of these.
use Rattle.std.proofs.Common.{◌≡◌, ◌∙◌, sym, ap, refl, subst, ℕ, zero, suc, ◌+◌, ◌-◌, ◌<◌, ◌≤◌, ◌⊎◌, inl, inr, max, false, List, [], ◌∷◌, ◌++◌, length, map, reverse, slice_get, Option, Some, None, arith}
use Rattle.std.proofs.lemmas.Bool.{cases_order}
use Rattle.std.proofs.lemmas.List.{reverse-append, length-reverse}
use lib.IntN.{ℤ, ◌+ℤ◌}
use Rattle.ts_core.specs.declared.flat.FlatGrammar.{FlatGrammar}
use Rattle.ts_core.specs.declared.flat.Production.{Production}
use Rattle.spec_trees.specs.declared.tree.Tree.{Tree}
use Rattle.spec_trees.specs.declared.tree.Tree.TheFolds.{fold_out-Tree}
use Rattle.spec_trees.specs.Trees.{symbol_of, pad_of, is_extra_node, elements_of, children_of, total_of, all_totals, span_of, all_spans, first_pad, tree_depth, depth_step, greatest_depth, maximum}
use Rattle.spec_trees.specs.Made.{element, Form, of_rule, of_first, of_next, form_of, made_by, value_of, reduced}
use Rattle.spec_packing.specs.Serving.{ServesFor, AllServe}
use Rattle.spec_packing.specs.Replacing.{AllReplace, depth_over}
use Rattle.spec_packing.proofs.ReplaceLemmas.{AllDeeper, deeper_maximum, deeper_over}
use Rattle.spec_packing.proofs.MadeLemmas.{over_says, CanMake, IsLawful, before_flat, next_is_flat, no_children, left_is, first_some, all_spans_append}
use Rattle.spec_packing.proofs.ReducedLemmas.{pad_append, replaces_reduced}

greatest_append : (xs ys : List Tree) → greatest_depth (xs ++ ys) ≡ max (greatest_depth xs) (greatest_depth ys)
greatest_append [] ys = omega arith
greatest_append (x ∷ xs) ys = omega (arith, greatest_append xs ys)

first_pad_within : (ks : List Tree) → first_pad ks ≤ all_spans ks
first_pad_within [] = omega arith
first_pad_within (k ∷ ks) = omega arith

-- ---- the node of a reduction

-- what it is over its children, by its form
pub record NodeSays (left : ℕ) (f : Form) (ks : List Tree) (t : Tree) : Type 0 where
  pub symbol : symbol_of t ≡ left
  pub kind : is_extra_node t ≡ false
  pub pad : pad_of t ≡ first_pad ks
  pub span : span_of t ≡ all_spans ks
  pub depth : tree_depth t ≡ depth_over f (map tree_depth ks)

module _ (g : FlatGrammar) (number left : ℕ) (p : Production) (lawful : IsLawful g number left p) where
  form_says : (f : Form) (ks : List Tree) → form_of g left number ≡ f → CanMake g number left p ks → NodeSays left f ks (made_by f left number (value_of g number) 0 None ks)
  form_says of_rule ks e c =
      let o = over_says left (Some number) (value_of g number +ℤ all_totals ks) [] ks in
      record { symbol = o.symbol_is; kind = o.extra_is; pad = o.pad_is; span = omega (arith, o.pad_is, o.size_is, first_pad_within ks); depth = omega (arith, o.depth_is) }
  form_says (of_first a) ks e c =
      let o = over_says left None (value_of g number +ℤ all_totals ks) (element a (length ks) (value_of g number) 0 ∷ []) ks in
      record { symbol = o.symbol_is; kind = o.extra_is; pad = o.pad_is; span = omega (arith, o.pad_is, o.size_is, first_pad_within ks); depth = omega (arith, o.depth_is) }
  form_says (of_next a) [] e c = absurd (no_children g number left p lawful a e c)
  form_says (of_next a) (before ∷ more) e c =
      let x = before_flat g number left p lawful a before more e (next_is_flat g number left p lawful a e) c in
      let some : 0 < all_spans (children_of before) = omega (arith, first_some g number left p before more c, x.whole.span) in
      let all : List Tree = children_of before ++ more in
      let o = over_says left None (value_of g number +ℤ (total_of before +ℤ all_totals more)) (elements_of before ++ element a (length more) (value_of g number) (0 - span_of before) ∷ []) all in
      let deep : tree_depth before ≡ 1 + greatest_depth (children_of before) = fold_out-Tree ℕ depth_step before in
      record {
        symbol = o.symbol_is;
        kind = o.extra_is;
        pad = o.pad_is ∙ pad_append (children_of before) more some ∙ sym x.whole.pad;
        span = omega (arith, o.pad_is, o.size_is, first_pad_within all, all_spans_append (children_of before) more, x.whole.span);
        depth = omega (arith, o.depth_is, greatest_append (children_of before) more, deep);
      }

  pub reduced_says : (ks : List Tree) → CanMake g number left p ks → NodeSays left (form_of g left number) ks (reduced g number 0 None ks)
  reduced_says ks c =
      subst (λ (s : ℕ). NodeSays left (form_of g left number) ks (made_by (form_of g s number) s number (value_of g number) 0 None ks))
      (sym (left_is g number left p lawful c.at)) (form_says (form_of g left number) ks refl c)

  pub reduced_depth : (ks : List Tree) → CanMake g number left p ks → tree_depth (reduced g number 0 None ks) ≡ depth_over (form_of g left number) (map tree_depth ks)
  reduced_depth ks c = (reduced_says ks c).depth

-- ---- what serves replaces, and is no less deep

pub all_replace : (ts us : List Tree) → AllServe ts us → AllReplace ts us
all_replace [] [] a = tt
all_replace [] (u ∷ us) a = absurd a
all_replace (t ∷ ts) [] a = absurd a
all_replace (t ∷ ts) (u ∷ us) a = (
  record { symbol = a.0.symbol; extra = a.0.extra; pad = a.0.pad; size = a.0.size; no_better = a.0.no_better },
  all_replace ts us a.1,
)

all_deeper : (ts us : List Tree) → AllServe ts us → AllDeeper (map tree_depth ts) (map tree_depth us)
all_deeper [] [] a = tt
all_deeper [] (u ∷ us) a = absurd a
all_deeper (t ∷ ts) [] a = absurd a
all_deeper (t ∷ ts) (u ∷ us) a = (a.0.depth, all_deeper ts us a.1)

pub serves_reduced : (g : FlatGrammar) (number left : ℕ) (p : Production) → IsLawful g number left p → (ts us : List Tree) → CanMake g number left p ts → CanMake g number left p us → AllServe ts us → ServesFor (reduced g number 0 None ts) (reduced g number 0 None us)
serves_reduced g number left p lawful ts us c b a =
    let r = replaces_reduced g number left p lawful ts us c b (all_replace ts us a) in
    let deeper = deeper_over (form_of g left number) (map tree_depth ts) (map tree_depth us) (all_deeper ts us a) in
    record {
      symbol = r.symbol;
      extra = r.extra;
      pad = r.pad;
      size = r.size;
      depth = omega (arith, reduced_depth g number left p lawful ts c, reduced_depth g number left p lawful us b, deeper);
      no_better = r.no_better;
    }

-- ---- places in lists

abbrev no_depths : List ℕ
no_depths = []

pub at_left : (xs ys : List ℕ) (n d : ℕ) → slice_get xs n ≡ Some d → slice_get (xs ++ ys) n ≡ Some d
at_left [] ys n d e = absurd (cc)
at_left (x ∷ xs) ys zero d e = e
at_left (x ∷ xs) ys (suc n) d e = at_left xs ys n d e

-- a place in the first of two lists, told by another list that is as long
pub at_left_back : (ws xs ys : List ℕ) (n a d : ℕ) → length ws ≡ length xs → slice_get ws n ≡ Some a → slice_get (xs ++ ys) n ≡ Some d → slice_get xs n ≡ Some d
at_left_back [] xs ys n a d many there e = absurd (cc)
at_left_back (w ∷ ws) [] ys n a d many there e = absurd (omega (arith, many))
at_left_back (w ∷ ws) (x ∷ xs) ys zero a d many there e = e
at_left_back (w ∷ ws) (x ∷ xs) ys (suc n) a d many there e = at_left_back ws xs ys n a d (omega (arith, many)) there e

-- where a place in a list comes to stand behind a list as long as this one
pub behind : (ws : List ℕ) (n : ℕ) → (m : ℕ) × ((xs ys : List ℕ) → length ws ≡ length xs → slice_get (xs ++ ys) m ≡ slice_get ys n)
behind [] n = (n, by)
  where
    by : (xs ys : List ℕ) → length no_depths ≡ length xs → slice_get (xs ++ ys) n ≡ slice_get ys n
    by [] ys many = refl
    by (x ∷ xs) ys many = absurd (omega (arith, many))
behind (w ∷ ws) n = let m = behind ws n in (suc m.0, by m)
  where
    by : (m : (m : ℕ) × ((xs ys : List ℕ) → length ws ≡ length xs → slice_get (xs ++ ys) m ≡ slice_get ys n)) → (xs ys : List ℕ) → length (w ∷ ws) ≡ length xs → slice_get (xs ++ ys) (suc m.0) ≡ slice_get ys n
    by m [] ys many = absurd (omega (arith, many))
    by m (x ∷ xs) ys many = m.1 xs ys (omega (arith, many))

-- where a place comes to stand in lists as long as this one that are turned round
pub record TurnedPlace (ws : List ℕ) (n : ℕ) : Type 0 where
  pub place : ℕ
  pub forth : (xs : List ℕ) (d : ℕ) → length ws ≡ length xs → slice_get xs n ≡ Some d → slice_get (reverse xs) place ≡ Some d
  pub back : (xs : List ℕ) (d : ℕ) → length ws ≡ length xs → slice_get (reverse xs) place ≡ Some d → slice_get xs n ≡ Some d

turned_later : (w : ℕ) (ws : List ℕ) (n a : ℕ) → slice_get ws n ≡ Some a → TurnedPlace ws n → TurnedPlace (w ∷ ws) (suc n)
turned_later w ws n a there rest = record { place = rest.place; forth = forth; back = back }
  where
    forth : (xs : List ℕ) (d : ℕ) → length (w ∷ ws) ≡ length xs → slice_get xs (suc n) ≡ Some d → slice_get (reverse xs) rest.place ≡ Some d
    forth [] d e h = absurd (omega (arith, e))
    forth (x ∷ xs) d e h =
        ap (λ (l : List ℕ). slice_get l rest.place) (reverse-append (x ∷ []) xs) ∙ at_left (reverse xs) (x ∷ []) rest.place d (rest.forth xs d (omega (arith, e)) h)

    back : (xs : List ℕ) (d : ℕ) → length (w ∷ ws) ≡ length xs → slice_get (reverse xs) rest.place ≡ Some d → slice_get xs (suc n) ≡ Some d
    back [] d e h = absurd (omega (arith, e))
    back (x ∷ xs) d e h =
        let many : length ws ≡ length xs = omega (arith, e) in
        let wide : slice_get (reverse xs ++ x ∷ []) rest.place ≡ Some d = sym (ap (λ (l : List ℕ). slice_get l rest.place) (reverse-append (x ∷ []) xs)) ∙ h in
        rest.back xs d many
        (at_left_back (reverse ws) (reverse xs) (x ∷ []) rest.place a d (length-reverse ws ∙ many ∙ sym (length-reverse xs)) (rest.forth ws a refl there) wide)

pub turned_place : (ws : List ℕ) (n a : ℕ) → slice_get ws n ≡ Some a → TurnedPlace ws n
turned_place [] n a there = absurd (cc)
turned_place (w ∷ ws) zero a there = record { place = m.0; forth = forth; back = back }
  where
    m : (m : ℕ) × ((xs ys : List ℕ) → length (reverse ws) ≡ length xs → slice_get (xs ++ ys) m ≡ slice_get ys 0)
    m = behind (reverse ws) 0

    many : (xs : List ℕ) → length ws ≡ length xs → length (reverse ws) ≡ length (reverse xs)
    many xs e = length-reverse ws ∙ e ∙ sym (length-reverse xs)

    is : (x : ℕ) (xs : List ℕ) → length ws ≡ length xs → slice_get (reverse (x ∷ xs)) m.0 ≡ Some x
    is x xs e = ap (λ (l : List ℕ). slice_get l m.0) (reverse-append (x ∷ []) xs) ∙ m.1 (reverse xs) (x ∷ []) (many xs e)

    forth : (xs : List ℕ) (d : ℕ) → length (w ∷ ws) ≡ length xs → slice_get xs 0 ≡ Some d → slice_get (reverse xs) m.0 ≡ Some d
    forth [] d e h = absurd (omega (arith, e))
    forth (x ∷ xs) d e h = is x xs (omega (arith, e)) ∙ h

    back : (xs : List ℕ) (d : ℕ) → length (w ∷ ws) ≡ length xs → slice_get (reverse xs) m.0 ≡ Some d → slice_get xs 0 ≡ Some d
    back [] d e h = absurd (omega (arith, e))
    back (x ∷ xs) d e h = sym (is x xs (omega (arith, e))) ∙ h
turned_place (w ∷ ws) (suc n) a there = turned_later w ws n a there (turned_place ws n a there)

-- ---- where the greatest depth is

-- a depth in a list that alone tells the depth of the node, in all lists that are no deeper
pub record Peak (f : Form) (ds : List ℕ) : Type 0 where
  pub place : ℕ
  pub depth : ℕ
  pub there : slice_get ds place ≡ Some depth
  pub tells : (es : List ℕ) → AllDeeper ds es → slice_get es place ≡ Some depth → depth_over f es ≡ depth_over f ds

-- the same of the greatest number of a list
record Top (ds : List ℕ) : Type 0 where
  place : ℕ
  there : slice_get ds place ≡ Some (maximum ds)

top_later : (d e : ℕ) (ds : List ℕ) → Top (e ∷ ds) → Top (d ∷ e ∷ ds)
top_later d e ds rest = by (cases_order d (maximum (e ∷ ds)))
  where
    first : maximum (e ∷ ds) ≤ d → Top (d ∷ e ∷ ds)
    first low = record { place = 0; there = let h : max d (maximum (e ∷ ds)) ≡ d = omega (arith, low) in ap (λ (n : ℕ). Some n) (sym h) }

    by : (d ≡ maximum (e ∷ ds)) ⊎ ((d < maximum (e ∷ ds)) ⊎ (maximum (e ∷ ds) < d)) → Top (d ∷ e ∷ ds)
    by (inl same) = first (omega (arith, same))
    by (inr (inl less)) = record {
      place = suc rest.place;
      there = let h : max d (maximum (e ∷ ds)) ≡ maximum (e ∷ ds) = omega (arith, less) in rest.there ∙ ap (λ (n : ℕ). Some n) (sym h);
    }
    by (inr (inr more)) = first (omega (arith, more))

top_of : (d : ℕ) (ds : List ℕ) → Top (d ∷ ds)
top_of d [] = record { place = 0; there = let e : max d 0 ≡ d = omega arith in ap (λ (n : ℕ). Some n) (sym e) }
top_of d (e ∷ ds) = top_later d e ds (top_of e ds)

some_same : (a b : ℕ) → ◌≡◌ {A = Option ℕ} (Some a) (Some b) → a ≡ b
some_same a b e = cc

no_more : (ds : List ℕ) (n d : ℕ) → slice_get ds n ≡ Some d → d ≤ maximum ds
no_more [] n d e = absurd (cc)
no_more (x ∷ ds) zero d e = let h : x ≡ d = some_same x d e in omega (arith, h)
no_more (x ∷ ds) (suc n) d e = omega (arith, no_more ds n d e)

same_top : (ds es : List ℕ) (n : ℕ) → AllDeeper ds es → slice_get es n ≡ Some (maximum ds) → maximum es ≡ maximum ds
same_top ds es n a e = omega (arith, deeper_maximum ds es a, no_more es n (maximum ds) e)

next_first : (k d : ℕ) (ds : List ℕ) → suc (maximum ds) ≤ d → Peak (of_next k) (d ∷ ds)
next_first k d ds low = record { place = 0; depth = d; there = refl; tells = tells }
  where
    tells : (es : List ℕ) → AllDeeper (d ∷ ds) es → slice_get es 0 ≡ Some d → depth_over (of_next k) es ≡ depth_over (of_next k) (d ∷ ds)
    tells [] a e = absurd a
    tells (x ∷ es) a e = let h : x ≡ d = some_same x d e in omega (arith, h, low, deeper_maximum ds es a.1)

next_later : (k d x : ℕ) (ds : List ℕ) → d ≤ suc (maximum (x ∷ ds)) → Peak (of_next k) (d ∷ x ∷ ds)
next_later k d x ds low = record { place = suc top.place; depth = maximum (x ∷ ds); there = top.there; tells = tells }
  where
    top : Top (x ∷ ds)
    top = top_of x ds

    tells : (es : List ℕ) → AllDeeper (d ∷ x ∷ ds) es → slice_get es (suc top.place) ≡ Some (maximum (x ∷ ds)) → depth_over (of_next k) es ≡ depth_over (of_next k) (d ∷ x ∷ ds)
    tells [] a e = absurd a
    tells (y ∷ es) a e = let h = a.0 in omega (arith, h, low, same_top (x ∷ ds) es top.place a.1 e)

next_alone : (k d : ℕ) → Peak (of_next k) (d ∷ [])
next_alone k d = record { place = 0; depth = d; there = refl; tells = tells }
  where
    tells : (es : List ℕ) → AllDeeper (d ∷ []) es → slice_get es 0 ≡ Some d → depth_over (of_next k) es ≡ depth_over (of_next k) (d ∷ [])
    tells [] a e = absurd a
    tells (x ∷ []) a e = ap (λ (n : ℕ). max n 1) (some_same x d e)
    tells (x ∷ y ∷ es) a e = absurd a.1

all_peak : (f : Form) (d : ℕ) (ds : List ℕ) → ((es : List ℕ) → depth_over f es ≡ suc (maximum es)) → Peak f (d ∷ ds)
all_peak f d ds is = record { place = top.place; depth = maximum (d ∷ ds); there = top.there; tells = tells }
  where
    top : Top (d ∷ ds)
    top = top_of d ds

    tells : (es : List ℕ) → AllDeeper (d ∷ ds) es → slice_get es top.place ≡ Some (maximum (d ∷ ds)) → depth_over f es ≡ depth_over f (d ∷ ds)
    tells es a e = is es ∙ ap suc (same_top (d ∷ ds) es top.place a e) ∙ sym (is (d ∷ ds))

pub peak_of : (f : Form) (d : ℕ) (ds : List ℕ) → Peak f (d ∷ ds)
peak_of of_rule d ds = all_peak of_rule d ds (λ es. refl)
peak_of (of_first k) d ds = all_peak (of_first k) d ds (λ es. refl)
peak_of (of_next k) d [] = next_alone k d
peak_of (of_next k) d (x ∷ ds) = by (cases_order d (suc (maximum (x ∷ ds))))
  where
    by : (d ≡ suc (maximum (x ∷ ds))) ⊎ ((d < suc (maximum (x ∷ ds))) ⊎ (suc (maximum (x ∷ ds)) < d)) → Peak (of_next k) (d ∷ x ∷ ds)
    by (inl same) = next_later k d x ds (omega (arith, same))
    by (inr (inl less)) = next_later k d x ds (omega (arith, less))
    by (inr (inr more)) = next_first k d (x ∷ ds) (omega (arith, more))

-- ---- one reduction

-- Where a depth behind a reduction comes from: a depth before it, from which it comes in all lists
-- in these places that are no deeper.
pub record ComesFrom (f : Form) (ls ks bs : List ℕ) (n d : ℕ) : Type 0 where
  pub place : ℕ
  pub depth : ℕ
  pub there : slice_get (ls ++ (reverse ks ++ bs)) place ≡ Some depth
  pub tells : (xs ys zs : List ℕ) → length ls ≡ length xs → AllDeeper ks ys → length ks ≡ length ys
      → slice_get (xs ++ (reverse ys ++ zs)) place ≡ Some depth → slice_get (xs ++ depth_over f ys ∷ zs) n ≡ Some d

comes_below : (f : Form) (ks bs : List ℕ) (n d : ℕ) → slice_get bs n ≡ Some d → ComesFrom f [] ks bs (suc n) d
comes_below f ks bs n d e = record {
  place = m.0;
  depth = d;
  there = m.1 (reverse ks) bs refl ∙ e;
  tells = tells;
}
  where
    m : (m : ℕ) × ((xs ys : List ℕ) → length (reverse ks) ≡ length xs → slice_get (xs ++ ys) m ≡ slice_get ys n)
    m = behind (reverse ks) n

    tells : (xs ys zs : List ℕ) → length no_depths ≡ length xs → AllDeeper ks ys → length ks ≡ length ys → slice_get (xs ++ (reverse ys ++ zs)) m.0 ≡ Some d → slice_get (xs ++ depth_over f ys ∷ zs) (suc n) ≡ Some d
    tells [] ys zs many a same h = sym (m.1 (reverse ys) zs (length-reverse ks ∙ same ∙ sym (length-reverse ys))) ∙ h
    tells (x ∷ xs) ys zs many a same h = absurd (omega (arith, many))

comes_node : (f : Form) (k : ℕ) (ks bs : List ℕ) (d : ℕ) → depth_over f (k ∷ ks) ≡ d → ComesFrom f [] (k ∷ ks) bs 0 d
comes_node f k ks bs d e = record {
  place = t.place;
  depth = p.depth;
  there = at_left (reverse (k ∷ ks)) bs t.place p.depth (t.forth (k ∷ ks) p.depth refl p.there);
  tells = tells;
}
  where
    p : Peak f (k ∷ ks)
    p = peak_of f k ks

    t : TurnedPlace (k ∷ ks) p.place
    t = turned_place (k ∷ ks) p.place p.depth p.there

    tells : (xs ys zs : List ℕ) → length no_depths ≡ length xs → AllDeeper (k ∷ ks) ys → length (k ∷ ks) ≡ length ys → slice_get (xs ++ (reverse ys ++ zs)) t.place ≡ Some p.depth → slice_get (xs ++ depth_over f ys ∷ zs) 0 ≡ Some d
    tells [] ys zs many a same h =
        let own : slice_get (reverse ys) t.place ≡ Some p.depth =
        at_left_back (reverse (k ∷ ks)) (reverse ys) zs t.place p.depth p.depth (length-reverse (k ∷ ks) ∙ same ∙ sym (length-reverse ys)) (t.forth (k ∷ ks) p.depth refl p.there) h in
        ap (λ (n : ℕ). Some n) (p.tells ys a (t.back ys p.depth same own) ∙ e)
    tells (x ∷ xs) ys zs many a same h = absurd (omega (arith, many))

comes_later : (f : Form) (l : ℕ) (ls ks bs : List ℕ) (n d : ℕ) → ComesFrom f ls ks bs n d → ComesFrom f (l ∷ ls) ks bs (suc n) d
comes_later f l ls ks bs n d rest = record { place = suc rest.place; depth = rest.depth; there = rest.there; tells = tells }
  where
    tells : (xs ys zs : List ℕ) → length (l ∷ ls) ≡ length xs → AllDeeper ks ys → length ks ≡ length ys → slice_get (xs ++ (reverse ys ++ zs)) (suc rest.place) ≡ Some rest.depth → slice_get (xs ++ depth_over f ys ∷ zs) (suc n) ≡ Some d
    tells [] ys zs many a same h = absurd (omega (arith, many))
    tells (x ∷ xs) ys zs many a same h = rest.tells xs ys zs (omega (arith, many)) a same h

comes_first : (f : Form) (l : ℕ) (ls ks bs : List ℕ) (d : ℕ) → ◌≡◌ {A = Option ℕ} (Some l) (Some d) → ComesFrom f (l ∷ ls) ks bs 0 d
comes_first f l ls ks bs d e = record { place = 0; depth = d; there = e; tells = tells }
  where
    tells : (xs ys zs : List ℕ) → length (l ∷ ls) ≡ length xs → AllDeeper ks ys → length ks ≡ length ys → slice_get (xs ++ (reverse ys ++ zs)) 0 ≡ Some d → slice_get (xs ++ depth_over f ys ∷ zs) 0 ≡ Some d
    tells [] ys zs many a same h = absurd (omega (arith, many))
    tells (x ∷ xs) ys zs many a same h = h

comes_from : (f : Form) (ls : List ℕ) (k : ℕ) (ks bs : List ℕ) (n d : ℕ) → slice_get (ls ++ depth_over f (k ∷ ks) ∷ bs) n ≡ Some d → ComesFrom f ls (k ∷ ks) bs n d
comes_from f [] k ks bs zero d e = comes_node f k ks bs d (some_same (depth_over f (k ∷ ks)) d e)
comes_from f [] k ks bs (suc n) d e = comes_below f (k ∷ ks) bs n d e
comes_from f (l ∷ ls) k ks bs zero d e = comes_first f l ls (k ∷ ks) bs d e
comes_from f (l ∷ ls) k ks bs (suc n) d e = comes_later f l ls (k ∷ ks) bs n d (comes_from f ls k ks bs n d e)

-- Where a node over no children stands: its depth does not come from any before it.
pub record AtNode (f : Form) (ls ks : List ℕ) (n d : ℕ) : Type 0 where
  pub nothing : ks ≡ []
  pub at : (xs zs : List ℕ) → length ls ≡ length xs → slice_get (xs ++ depth_over f [] ∷ zs) n ≡ Some d

comes_over_nothing : (f : Form) (ls bs : List ℕ) (n d : ℕ) → slice_get (ls ++ depth_over f [] ∷ bs) n ≡ Some d → ComesFrom f ls [] bs n d ⊎ AtNode f ls [] n d
comes_over_nothing f [] bs zero d e = inr (record { nothing = refl; at = at })
  where
    at : (xs zs : List ℕ) → length no_depths ≡ length xs → slice_get (xs ++ depth_over f [] ∷ zs) 0 ≡ Some d
    at [] zs many = e
    at (x ∷ xs) zs many = absurd (omega (arith, many))
comes_over_nothing f [] bs (suc n) d e = inl (comes_below f [] bs n d e)
comes_over_nothing f (l ∷ ls) bs zero d e = inl (comes_first f l ls [] bs d e)
comes_over_nothing f (l ∷ ls) bs (suc n) d e = by (comes_over_nothing f ls bs n d e)
  where
    by : ComesFrom f ls [] bs n d ⊎ AtNode f ls [] n d → ComesFrom f (l ∷ ls) [] bs (suc n) d ⊎ AtNode f (l ∷ ls) [] (suc n) d
    by (inl rest) = inl (comes_later f l ls [] bs n d rest)
    by (inr rest) = inr (record { nothing = refl; at = at })
      where
        at : (xs zs : List ℕ) → length (l ∷ ls) ≡ length xs → slice_get (xs ++ depth_over f [] ∷ zs) (suc n) ≡ Some d
        at [] zs many = absurd (omega (arith, many))
        at (x ∷ xs) zs many = rest.at xs zs (omega (arith, many))

pub comes_any : (f : Form) (ls ks bs : List ℕ) (n d : ℕ) → slice_get (ls ++ depth_over f ks ∷ bs) n ≡ Some d → ComesFrom f ls ks bs n d ⊎ AtNode f ls ks n d
comes_any f ls [] bs n d e = comes_over_nothing f ls bs n d e
comes_any f ls (k ∷ ks) bs n d e = inl (comes_from f ls k ks bs n d e)
