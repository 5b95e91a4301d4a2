-- Visible nodes whose fields stand in a pool: what is there stays while the pool grows.
use Rattle.std.proofs.Common.{◌≡◌, ℕ, zero, suc, ◌+◌, ◌<◌, ◌≤◌, sym, ap, ◌∙◌, refl, subst, arith, List, [], ◌∷◌, ◌++◌, length, take, drop, slice_get, get_or, Some, length-append}
use Rattle.std.proofs.lemmas.List.{map-append}
use Rattle.spec_trees.specs.declared.visible.VisibleNode.{VisibleNode}
use Rattle.ts_cursor.specs.declared.seen.Face.{Face}
use Rattle.ts_cursor.specs.Pooled.{seen_with, seen_node, seen_nodes, AreWithin}

take_left : (c : ℕ) (xs ys : List ℕ) → c ≤ length xs → take c (xs ++ ys) ≡ take c xs
take_left zero xs ys h = refl
take_left (suc c) [] ys h = absurd (omega (arith, h))
take_left (suc c) (x ∷ xs) ys h = ap (λ (zs : List ℕ). x ∷ zs) (take_left c xs ys (omega (arith, h)))

-- a stretch of a list stays where the list grows
stretch_left : (n c : ℕ) (xs ys : List ℕ) → n + c ≤ length xs → take c (drop n (xs ++ ys)) ≡ take c (drop n xs)
stretch_left zero c xs ys h = take_left c xs ys (omega (arith, h))
stretch_left (suc n) c [] ys h = absurd (omega (arith, h))
stretch_left (suc n) c (x ∷ xs) ys h = stretch_left n c xs ys (omega (arith, h))

take_whole : (xs : List ℕ) → take (length xs) xs ≡ xs
take_whole [] = refl
take_whole (x ∷ xs) = ap (λ (zs : List ℕ). x ∷ zs) (take_whole xs)

-- the stretch at the end
stretch_right : (xs ys : List ℕ) → take (length ys) (drop (length xs) (xs ++ ys)) ≡ ys
stretch_right [] ys = take_whole ys
stretch_right (x ∷ xs) ys = stretch_right xs ys

pub within_more : (n m : ℕ) (vs : List Face) → n ≤ m → AreWithin n vs → AreWithin m vs
within_more n m [] h w = tt
within_more n m (v ∷ vs) h w = (omega (arith, h, w.0), within_more n m vs h w.1)

within_append : (n : ℕ) (vs : List Face) (v : Face) → v.first + v.count ≤ n → AreWithin n vs → AreWithin n (vs ++ v ∷ [])
within_append n [] v h w = (h, tt)
within_append n (x ∷ vs) v h w = (w.0, within_append n vs v h w.1)

pub within_at : (n : ℕ) (vs : List Face) (k : ℕ) (v : Face) → AreWithin n vs → k < length vs → v ≡ get_or vs k v → v.first + v.count ≤ n
within_at n [] k v w h is = absurd (omega (arith, h))
within_at n (x ∷ vs) zero v w h is =
    let f : v.first ≡ x.first = ap (λ (y : Face). y.first) is in
    let c : v.count ≡ x.count = ap (λ (y : Face). y.count) is in
    omega (arith, w.0, f, c)
within_at n (x ∷ vs) (suc k) v w h is = within_at n vs k v w.1 (omega (arith, h)) is

seen_left : (pool more : List ℕ) (vs : List Face) → AreWithin (length pool) vs → seen_nodes (pool ++ more) vs ≡ seen_nodes pool vs
seen_left pool more [] w = refl
seen_left pool more (v ∷ vs) w =
    ap (λ (fs : List ℕ). seen_with fs v ∷ seen_nodes (pool ++ more) vs) (stretch_left v.first v.count pool more w.0)
    ∙ ap (λ (ns : List VisibleNode). seen_node pool v ∷ ns) (seen_left pool more vs w.1)

-- one more node, whose fields come to the pool
pub seen_added : (pool fields grown : List ℕ) (vs all : List Face) (v : Face) → AreWithin (length pool) vs
    → grown ≡ pool ++ fields → all ≡ vs ++ v ∷ [] → v.first ≡ length pool → v.count ≡ length fields
    → seen_nodes grown all ≡ seen_nodes pool vs ++ seen_with fields v ∷ []
seen_added pool fields grown vs all v w grows adds first count =
    let own : take v.count (drop v.first (pool ++ fields)) ≡ fields =
    ap (λ (n : ℕ). take v.count (drop n (pool ++ fields))) first ∙ ap (λ (c : ℕ). take c (drop (length pool) (pool ++ fields))) count ∙ stretch_right pool fields in
    ap (λ (ps : List ℕ). seen_nodes ps all) grows
    ∙ ap (seen_nodes (pool ++ fields)) adds
    ∙ map-append (seen_node (pool ++ fields)) vs (v ∷ [])
    ∙ ap (λ (ns : List VisibleNode). ns ++ seen_node (pool ++ fields) v ∷ []) (seen_left pool fields vs w)
    ∙ ap (λ (fs : List ℕ). seen_nodes pool vs ++ seen_with fs v ∷ []) own

pub within_added : (pool fields grown : List ℕ) (vs all : List Face) (v : Face) → AreWithin (length pool) vs
    → grown ≡ pool ++ fields → all ≡ vs ++ v ∷ [] → v.first ≡ length pool → v.count ≡ length fields
    → AreWithin (length grown) all
within_added pool fields grown vs all v w grows adds first count =
    let n : length grown ≡ length pool + length fields = ap length grows ∙ length-append pool fields in
    subst (λ (xs : List Face). AreWithin (length grown) xs) (sym adds)
    (within_append (length grown) vs v (omega (arith, n, first, count)) (within_more (length pool) (length grown) vs (omega (arith, n)) w))

-- the node of a number
pub seen_at : (pool : List ℕ) (vs : List Face) (k : ℕ) (v : Face) → k < length vs → v ≡ get_or vs k v → slice_get (seen_nodes pool vs) k ≡ Some (seen_node pool v)
seen_at pool [] k v h is = absurd (omega (arith, h))
seen_at pool (x ∷ vs) zero v h is = ap (λ (y : Face). Some (seen_node pool y)) (sym is)
seen_at pool (x ∷ vs) (suc k) v h is = seen_at pool vs k v (omega (arith, h)) is
