-- Lists that are made by a loop, place by place: of what a function gives, or of what is related.
use Rattle.std.proofs.Common.{◌≡◌, ◌∙◌, sym, ap, subst, refl, ℕ, zero, suc, ◌+◌, ◌<◌, ◌≤◌, List, [], ◌∷◌, ◌++◌, length, map, take, get_or, slice_get, Some, Result, Err, arith}
use Rattle.std.specs.Result.{IsErrOf}
use Rattle.std.proofs.lemmas.Option.{slice_get-get_or}
use Rattle.std.proofs.lemmas.List.{take_all}
use Rattle.std.specs.Borrow.{Bor}
use Rattle.ts_base.specs.Bytes.{Bytes}
use Rattle.ts_core.specs.declared.rule.Rule.{Rule}
use Rattle.ts_numbering.specs.Keys.{rules_told, trees}
use Rattle.ts_productions.specs.declared.fault.ProductionFault.{ProductionFault}
use Rattle.ts_rules.specs.FirstSights.{Each, end, both}

same_head : {X : Type 0} (x y : X) (ys : List X) → Some x ≡ Some y → x ∷ ys ≡ y ∷ ys
same_head x y ys e = cc

nothing_taken : {X : Type 0} (xs : List X) → take 0 xs ≡ []
nothing_taken [] = refl
nothing_taken (x ∷ xs) = refl

module _ {X : Type 0} where
  there : (all : List X) (i : ℕ) → i < length all → (x : X) × (slice_get all i ≡ Some x)
  there [] i lt = absurd (omega (arith, lt))
  there (x ∷ all) zero lt = (x, refl)
  there (x ∷ all) (suc i) lt = there all i (omega (arith, lt))

  one_more : (all : List X) (i : ℕ) (x : X) → slice_get all i ≡ Some x → take (i + 1) all ≡ take i all ++ x ∷ []
  one_more [] i x e = absurd cc
  one_more (y ∷ all) zero x e = ap (λ (zs : List X). y ∷ zs) (nothing_taken all) ∙ same_head y x [] e
  one_more (y ∷ all) (suc i) x e =
      let k : suc i + 1 ≡ suc (i + 1) = omega arith in
      ap (λ (m : ℕ). take m (y ∷ all)) k ∙ ap (λ (zs : List X). y ∷ zs) (one_more all i x e)

map_append : {X Y : Type 0} (f : X → Y) (xs ys : List X) → map f (xs ++ ys) ≡ map f xs ++ map f ys
map_append f [] ys = refl
map_append {Y = Y} f (x ∷ xs) ys = ap (λ (zs : List Y). f x ∷ zs) (map_append f xs ys)

module _ {X Y : Type 0} (f : X → Y) where
  -- one more value
  pub mapped_next : (all : List X) (ys new : List Y) (i : ℕ) (y : Y) → i < length all → ((x : X) → slice_get all i ≡ Some x → f x ≡ y) → new ≡ ys ++ y ∷ []
      → ys ≡ map f (take i all) → new ≡ map f (take (i + 1) all)
  mapped_next all ys new i y lt gives is before =
      let x = there all i lt in
      is ∙ ap (λ (zs : List Y). zs ++ y ∷ []) before ∙ ap (λ (z : Y). map f (take i all) ++ z ∷ []) (sym (gives x.0 x.1))
      ∙ sym (map_append f (take i all) (x.0 ∷ [])) ∙ ap (map f) (sym (one_more all i x.0 x.1))

  pub mapped_all : (all : List X) (ys : List Y) (i : ℕ) → length all ≤ i → ys ≡ map f (take i all) → ys ≡ map f all
  mapped_all all ys i past is = is ∙ ap (map f) (take_all i all past)

module _ {X Y : Type 0} (R : X → Y → Type 0) where
  pub each_begin : (all : List X) → Each R (take 0 all) []
  each_begin [] = end
  each_begin (x ∷ all) = end

  each_push : (xs : List X) (ys : List Y) (x : X) (y : Y) → Each R xs ys → R x y → Each R (xs ++ x ∷ []) (ys ++ y ∷ [])
  each_push _ _ x y end r = both x y [] [] r end
  each_push _ _ x y (both a b us vs s rest) r = both a b (us ++ x ∷ []) (vs ++ y ∷ []) s (each_push us vs x y rest r)

  -- one more pair
  pub each_next : (all : List X) (ys new : List Y) (i : ℕ) (y : Y) → i < length all → ((x : X) → slice_get all i ≡ Some x → R x y) → new ≡ ys ++ y ∷ []
      → Each R (take i all) ys → Each R (take (i + 1) all) new
  each_next all ys new i y lt r is before =
      let x = there all i lt in
      subst (λ (vs : List Y). Each R (take (i + 1) all) vs) (sym is)
      (subst (λ (xs : List X). Each R xs (ys ++ y ∷ [])) (sym (one_more all i x.0 x.1)) (each_push (take i all) ys x.0 y before (r x.0 x.1)))

  pub each_all : (all : List X) (ys : List Y) (i : ℕ) → length all ≤ i → Each R (take i all) ys → Each R all ys
  each_all all ys i past before = subst (λ (xs : List X). Each R xs ys) (take_all i all past) before

  pub each_there : (xs : List X) (ys : List Y) (i : ℕ) (x : X) (y : Y) → Each R xs ys → slice_get xs i ≡ Some x → slice_get ys i ≡ Some y → R x y
  each_there _ _ i x y end a b = absurd cc
  each_there _ _ zero x y (both u v us vs r rest) a b = at u v r a b
    where
      at : (u : X) (v : Y) → R u v → Some u ≡ Some x → Some v ≡ Some y → R x y
      at u v r a b = let p : u ≡ x = cc in let q : v ≡ y = cc in subst (λ (z : X). R z y) p (subst (λ (z : Y). R u z) q r)
  each_there _ _ (suc i) x y (both u v us vs r rest) a b = each_there us vs i x y rest a b

  pub each_long : (xs : List X) (ys : List Y) → Each R xs ys → length xs ≡ length ys
  each_long _ _ end = refl
  each_long _ _ (both u v us vs r rest) = ap suc (each_long us vs rest)

-- ---- lists that are lent

pub told_long : (entries : List (Bor Bytes × Bor Rule)) → length (rules_told entries) ≡ length entries
told_long [] = refl
told_long (e ∷ es) = ap suc (told_long es)

pub trees_long : (ts : List (Bor Rule)) → length (trees ts) ≡ length ts
trees_long [] = refl
trees_long (t ∷ ts) = ap suc (trees_long ts)

pub tree_there : (ts : List (Bor Rule)) (i : ℕ) (t : Bor Rule) (x : Rule) → slice_get ts i ≡ Some t → slice_get (trees ts) i ≡ Some x → x ≡ t.now
tree_there [] i t x a b = absurd cc
tree_there (u ∷ us) zero t x a b = at u a b
  where
    at : (u : Bor Rule) → Some u ≡ Some t → Some u.now ≡ Some x → x ≡ t.now
    at u a b = cc
tree_there (u ∷ us) (suc i) t x a b = tree_there us i t x a b

-- what is made of a lent tree is made of the tree of its place
pub content_gives : {T : Type 0} (f : Rule → T) (ts : List (Bor Rule)) (i : ℕ) (r : Bor Rule) (t : T) → i < length ts → r ≡ get_or ts i r → t ≡ f r.now → (x : Rule) → slice_get (trees ts) i ≡ Some x → f x ≡ t
content_gives f ts i r t lt at is x h = ap f (tree_there ts i r x (slice_get-get_or ts i r lt ∙ ap (λ (z : Bor Rule). Some z) (sym at)) h) ∙ sym is

-- an error is the same beside values of any type
pub same_error : {T S : Type 0} (x y : ProductionFault) → IsErrOf {T = T} (Err x) y → IsErrOf {T = S} (Err x) y
same_error {T = T} {S = S} x y h = ap error (inside x y h)
  where
    error : ProductionFault → Result S ProductionFault
    error e = Err e

    inside : (x y : ProductionFault) → IsErrOf {T = T} (Err x) y → x ≡ y
    inside x y h = cc
