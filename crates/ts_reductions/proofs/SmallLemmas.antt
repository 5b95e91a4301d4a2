-- Small lemmas on trees, members of lists, and heads.
use Rattle.std.proofs.Common.{◌≡◌, ◌∙◌, sym, ap, refl, subst, ℕ, zero, suc, ◌+◌, ◌<◌, ◌≤◌, ◌⊎◌, inl, inr, Bool, true, false, List, [], ◌∷◌, ◌++◌, append-nil, length, map, reverse, get_or, slice_get, Option, Some, arith}
use Rattle.std.specs.List.{Contains, flat_map}
use Rattle.std.specs.Option.{option_map, option_map_or}
use Rattle.std.proofs.lemmas.List.{length-map, reverse-append}
use Rattle.std.proofs.lemmas.List.Elements.{Contains-append_cases}
use Rattle.std.proofs.lemmas.Option.{slice_get-get_or, slice_get_within, get_or_from_slice_get, slice_get-map}
use Rattle.ts_core.specs.declared.flat.FlatGrammar.{FlatGrammar}
use Rattle.spec_trees.specs.declared.tree.Tree.{Tree}
use Rattle.spec_trees.specs.Trees.{symbol_of, is_extra_node, span_of, all_spans}
use Rattle.spec_trees.specs.Made.{filling, EndBy}
use Rattle.spec_runs.specs.Configurations.{AreExtras}
use Rattle.spec_graph.specs.declared.graph.Head.{Head}
use Rattle.spec_graph.specs.declared.graph.Link.{Link}
use Rattle.spec_graph.specs.States.{Goto, LeadsTo, at_first, by_goto, ShareState}
use Rattle.spec_graph.specs.Laying.{Parsing}
use Rattle.spec_graph.specs.Links.{IsAt}
use Rattle.ts_graph.specs.Down.{place_at}
use Rattle.ts_reductions.specs.SoundLinks.{bare_link, bare_links}
use Rattle.ts_reductions.specs.Good.{IsGoodTree, AreGoodTrees}

-- ---- members

module _ {X : Type 0} where
  pub contained_at : (xs : List X) (k : ℕ) (x : X) → slice_get xs k ≡ Some x → Contains xs x
  contained_at xs k x e = (k, slice_get_within xs k x e, get_or_from_slice_get xs k x x e)

  at_contained : (xs : List X) (x : X) → Contains xs x → (k : ℕ) × (slice_get xs k ≡ Some x)
  at_contained xs x h = (h.0, slice_get-get_or xs h.0 x h.1 ∙ ap (λ (y : X). Some y) h.2)

  read_at : (xs : List X) (k : ℕ) → k < length xs → (x : X) × (slice_get xs k ≡ Some x)
  read_at [] k low = absurd (omega (arith, low))
  read_at (x ∷ xs) zero low = (x, refl)
  read_at (x ∷ xs) (suc k) low = read_at xs k (omega (arith, low))

  pub none_contained : (x : X) → Contains [] x → ⊥
  none_contained x h = let low = h.1 in omega (arith, low)

  -- a member is the first element or one of the others
  pub first_or_later : (y : X) (xs : List X) (x : X) → Contains (y ∷ xs) x → (y ≡ x) ⊎ Contains xs x
  first_or_later y xs x h = by h.0 h.1 h.2
    where
      by : (k : ℕ) → k < length (y ∷ xs) → get_or (y ∷ xs) k x ≡ x → (y ≡ x) ⊎ Contains xs x
      by zero low e = inl e
      by (suc k) low e = inr (k, (let h : suc k < suc (length xs) = low in omega (arith, h)), e)

  later_one : (y : X) (xs : List X) (x : X) → Contains xs x → Contains (y ∷ xs) x
  later_one y xs x h = (suc h.0, (let low = h.1 in omega (arith, low)), h.2)

module _ {X Y : Type 0} (f : X → Y) where
  mapped_at : (xs : List X) (k : ℕ) (x : X) → slice_get xs k ≡ Some x → slice_get (map f xs) k ≡ Some (f x)
  mapped_at xs k x e = slice_get-map f xs k ∙ ap (λ (o : Option X). option_map f o) e

  map_contained : (xs : List X) (x : X) → Contains xs x → Contains (map f xs) (f x)
  map_contained xs x h = let r = at_contained xs x h in contained_at (map f xs) r.0 (f x) (mapped_at xs r.0 x r.1)

  pub contained_map : (xs : List X) (y : Y) → Contains (map f xs) y → (x : X) × Contains xs x × (f x ≡ y)
  contained_map xs y h =
      let k = at_contained (map f xs) y h in
      let r = read_at xs k.0 (subst (λ (n : ℕ). k.0 < n) (length-map xs f) (slice_get_within (map f xs) k.0 y k.1)) in
      let same : Some (f r.0) ≡ Some y = sym (mapped_at xs k.0 r.0 r.1) ∙ k.1 in
      (r.0, contained_at xs k.0 r.0 r.1, cc)

module _ {X Y : Type 0} (f : X → List Y) where
  pub contained_flat : (xs : List X) (y : Y) → Contains (flat_map f xs) y → (x : X) × Contains xs x × Contains (f x) y
  contained_flat [] y h = absurd (none_contained y h)
  contained_flat (x ∷ xs) y h = by (Contains-append_cases (f x) (flat_map f xs) y h) (λ w. contained_flat xs y w)
    where
      by : Contains (f x) y ⊎ Contains (flat_map f xs) y → (Contains (flat_map f xs) y → (z : X) × Contains xs z × Contains (f z) y) → (z : X) × Contains (x ∷ xs) z × Contains (f z) y
      by (inl w) rest = (x, (0, omega arith, refl), w)
      by (inr w) rest = let r = rest w in (r.0, later_one x xs r.0 r.1, r.2)

pub bare_member : (links : List Link) (l : Link) → Contains links l → Contains (bare_links links) (bare_link l)
bare_member = map_contained bare_link

pub member_bare : (links : List Link) (n : Link) → Contains (bare_links links) n → (l : Link) × Contains links l × (bare_link l ≡ n)
member_bare = contained_map bare_link

-- ---- trees

pub all_spans-append : (xs ys : List Tree) → all_spans (xs ++ ys) ≡ all_spans xs + all_spans ys
all_spans-append [] ys = omega arith
all_spans-append (x ∷ xs) ys = omega (arith, all_spans-append xs ys)

turned : (x : Tree) (xs : List Tree) → reverse (x ∷ xs) ≡ reverse xs ++ x ∷ []
turned x xs = reverse-append (x ∷ []) xs

pub spans_turned : (xs : List Tree) → all_spans (reverse xs) ≡ all_spans xs
spans_turned [] = refl
spans_turned (x ∷ xs) = omega (arith, ap all_spans (turned x xs), all_spans-append (reverse xs) (x ∷ []), spans_turned xs)

extras_append : (xs ys : List Tree) → AreExtras xs → AreExtras ys → AreExtras (xs ++ ys)
extras_append [] ys a b = b
extras_append (x ∷ xs) ys a b = (a.0, extras_append xs ys a.1 b)

pub extras_turned : (xs : List Tree) → AreExtras xs → AreExtras (reverse xs)
extras_turned [] a = tt
extras_turned (x ∷ xs) a = subst AreExtras (sym (turned x xs)) (extras_append (reverse xs) (x ∷ []) (extras_turned xs a.1) (a.0, tt))

pub filling_tree : (t : Tree) (ts : List Tree) → is_extra_node t ≡ false → filling (t ∷ ts) ≡ symbol_of t ∷ filling ts
filling_tree t ts e = rw e refl

pub filling_extra : (t : Tree) (ts : List Tree) → is_extra_node t ≡ true → filling (t ∷ ts) ≡ filling ts
filling_extra t ts e = rw e refl

pub filling_append : (xs ys : List Tree) → filling (xs ++ ys) ≡ filling xs ++ filling ys
filling_append [] ys = refl
filling_append (x ∷ xs) ys = by (is_extra_node x) refl (filling_append xs ys)
  where
    by : (b : Bool) → is_extra_node x ≡ b → filling (xs ++ ys) ≡ filling xs ++ filling ys → filling (x ∷ xs ++ ys) ≡ filling (x ∷ xs) ++ filling ys
    by true e h = rw e h
    by false e h = rw e (ap (λ (l : List ℕ). symbol_of x ∷ l) h)

pub filling_turned : (xs : List Tree) → filling (reverse xs) ≡ reverse (filling xs)
filling_turned [] = refl
filling_turned (x ∷ xs) = by (is_extra_node x) refl (filling_turned xs)
  where
    by : (b : Bool) → is_extra_node x ≡ b → filling (reverse xs) ≡ reverse (filling xs) → filling (reverse (x ∷ xs)) ≡ reverse (filling (x ∷ xs))
    by true e h = ap filling (turned x xs) ∙ filling_append (reverse xs) (x ∷ []) ∙ ap (λ (l : List ℕ). l ++ filling (x ∷ [])) h ∙ rw e (append-nil (reverse (filling xs)))
    by false e h = ap filling (turned x xs) ∙ filling_append (reverse xs) (x ∷ []) ∙ ap (λ (l : List ℕ). l ++ filling (x ∷ [])) h ∙ rw e (sym (reverse-append (symbol_of x ∷ []) (filling xs)))

pub filling_extras : (xs ts : List Tree) → AreExtras xs → filling (xs ++ ts) ≡ filling ts
filling_extras [] ts a = refl
filling_extras (x ∷ xs) ts a = rw a.0 (filling_extras xs ts a.1)

-- ---- good trees

good_append : (g : FlatGrammar) (xs ys : List Tree) → AreGoodTrees g xs → AreGoodTrees g ys → AreGoodTrees g (xs ++ ys)
good_append g [] ys a b = b
good_append g (x ∷ xs) ys a b = (a.0, good_append g xs ys a.1 b)

pub good_turned : (g : FlatGrammar) (xs : List Tree) → AreGoodTrees g xs → AreGoodTrees g (reverse xs)
good_turned g [] a = tt
good_turned g (x ∷ xs) a = subst (λ (l : List Tree). AreGoodTrees g l) (sym (turned x xs)) (good_append g (reverse xs) (x ∷ []) (good_turned g xs a.1) (a.0, tt))

pub good_in : (g : FlatGrammar) (ts : List Tree) (u : Tree) → AreGoodTrees g ts → Contains ts u → IsGoodTree g u
good_in g [] u a h = absurd (none_contained u h)
good_in g (x ∷ ts) u a h = by (first_or_later x ts u h) (λ w. good_in g ts u a.1 w)
  where
    by : (x ≡ u) ⊎ Contains ts u → (Contains ts u → IsGoodTree g u) → IsGoodTree g u
    by (inl e) rest = subst (λ (y : Tree). IsGoodTree g y) e a.0
    by (inr w) rest = rest w

-- ---- what nodes examined

pub end_by_wider : (end end' place place' : ℕ) (ks : List Tree) → end ≤ end' → place' ≤ place → EndBy end place ks → EndBy end' place' ks
end_by_wider end end' place place' [] h i e = tt
end_by_wider end end' place place' (k ∷ ks) h i e =
    (omega (arith, e.0, h, i), end_by_wider end end' (place + span_of k) (place' + span_of k) ks h (omega (arith, i)) e.1)

pub end_by_both : (end place : ℕ) (ks more : List Tree) → EndBy end place ks → EndBy end (place + all_spans ks) more → EndBy end place (ks ++ more)
end_by_both end place [] more a b = end_by_wider end end (place + 0) place more (omega arith) (omega arith) b
end_by_both end place (k ∷ ks) more a b =
    (a.0, end_by_both end (place + span_of k) ks more a.1 (end_by_wider end end (place + (span_of k + all_spans ks)) (place + span_of k + all_spans ks) more (omega arith) (omega arith) b))

-- ---- heads and states

pub place_is_at : (heads : List Head) (h : ℕ) (head : Head) → slice_get heads h ≡ Some head → place_at heads h ≡ head.place
place_is_at heads h head at = ap (λ (o : Option Head). option_map_or (λ (x : Head). x.place) o 0) at

pub lead_once : (goto : Goto) (read : List ℕ) (m n : ℕ) → LeadsTo goto read m → LeadsTo goto read n → m ≡ n
lead_once goto _ _ n at_first b = first [] n b refl
  where
    first : (read : List ℕ) (n : ℕ) → LeadsTo goto read n → read ≡ [] → 0 ≡ n
    first _ _ at_first e = refl
    first _ _ (by_goto read state symbol next l g) e = absurd (let h : symbol ∷ read ≡ [] = e in cc)
lead_once goto _ _ n (by_goto read state symbol next l g) b = later (symbol ∷ read) n b refl (λ k. lead_once goto read state k l)
  where
    later : (all : List ℕ) (n : ℕ) → LeadsTo goto all n → all ≡ symbol ∷ read → ((k : ℕ) → LeadsTo goto read k → state ≡ k) → next ≡ n
    later _ _ at_first e same = absurd (let h : [] ≡ symbol ∷ read = e in cc)
    later _ _ (by_goto rest other x to k h) e same =
        let tail : rest ≡ read = (let u : x ∷ rest ≡ symbol ∷ read = e in cc) in
        let head : x ≡ symbol = (let u : x ∷ rest ≡ symbol ∷ read = e in cc) in
        let one : state ≡ other = same other (subst (λ (r : List ℕ). LeadsTo goto r other) tail k) in
        let there : goto state symbol ≡ Some to = subst (λ (y : ℕ). goto state y ≡ Some to) head (subst (λ (s : ℕ). goto s x ≡ Some to) (sym one) h) in
        let both : Some next ≡ Some to = sym g ∙ there in cc

module _ (P : Parsing) (heads : List Head) (h : ℕ) (read other : List ℕ) (p q : ℕ) (a : IsAt P heads h read p) (b : IsAt P heads h other q) where
  pub same_head : a.head ≡ b.head
  same_head = let e : Some a.head ≡ Some b.head = sym a.is ∙ b.is in cc

  pub same_place : p ≡ q
  same_place = sym a.place_is ∙ ap (λ (x : Head). x.place) same_head ∙ b.place_is

  pub share_head : ShareState P.goto read other
  share_head = (b.head.state, subst (λ (x : Head). LeadsTo P.goto read x.state) same_head a.state, b.state)

-- a head is that of all lists of symbols that share its state
pub at_shared : (P : Parsing) (heads : List Head) (h : ℕ) (read other : List ℕ) (place to : ℕ) → place ≡ to → ShareState P.goto read other → IsAt P heads h read place → IsAt P heads h other to
at_shared P heads h read other place to moved s a = record {
  head = a.head;
  is = a.is;
  state = subst (λ (n : ℕ). LeadsTo P.goto other n) (lead_once P.goto read s.0 a.head.state s.1 a.state) s.2;
  place_is = a.place_is ∙ moved;
}
