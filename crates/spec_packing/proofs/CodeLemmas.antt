-- Codes of trees: of two that are spelled well the first difference decides, whatever follows them.
use Rattle.std.proofs.Common.{◌≡◌, ◌∙◌, sym, ap, refl, subst, ℕ, suc, ◌+◌, ◌<◌, ◌⊎◌, inl, inr, Bool, true, false, List, [], ◌∷◌, ◌++◌, append-nil, append_assoc, arith}
use Rattle.std.proofs.lemmas.Bool.{cases_order}
use Rattle.ts_core.specs.declared.flat.FlatGrammar.{FlatGrammar}
use Rattle.spec_grammar.specs.Symbols.{is_repetition}
use Rattle.spec_trees.specs.Choice.{ComesBefore}

-- ---- lists of numbers

-- the first list is less at the first place where they differ, which both have
abbrev pub Differs : List ℕ → List ℕ → Type 0
Differs [] ys = ⊥
Differs (x ∷ xs) [] = ⊥
Differs (x ∷ xs) (y ∷ ys) = (x < y) ⊎ ((x ≡ y) × Differs xs ys)

-- the two are one list, or the first is less where they differ
abbrev pub Leads : List ℕ → List ℕ → Type 0
Leads xs ys = (xs ≡ ys) ⊎ Differs xs ys

pub data Sorted (xs ys : List ℕ) : Type 0 where
  one : xs ≡ ys → Sorted xs ys
  first : Differs xs ys → Sorted xs ys
  second : Differs ys xs → Sorted xs ys

pub before_strict : (xs : List ℕ) → ComesBefore xs xs → ⊥
before_strict [] a = a
before_strict (x ∷ xs) (inl a) = omega (arith, a)
before_strict (x ∷ xs) (inr a) = before_strict xs a.1

-- what comes before a list comes before any other, or that one comes before the list
pub before_between : (xs ys zs : List ℕ) → ComesBefore xs zs → ComesBefore xs ys ⊎ ComesBefore ys zs
before_between xs ys [] a = absurd a
before_between [] [] (z ∷ zs) a = inr tt
before_between [] (y ∷ ys) (z ∷ zs) a = inl tt
before_between (x ∷ xs) [] (z ∷ zs) a = inr tt
before_between (x ∷ xs) (y ∷ ys) (z ∷ zs) a = by a (cases_order x y) (before_between xs ys zs)
  where
    same : x ≡ y → x ≡ z → ComesBefore xs ys ⊎ ComesBefore ys zs → ComesBefore (x ∷ xs) (y ∷ ys) ⊎ ComesBefore (y ∷ ys) (z ∷ zs)
    same p q (inl b) = inl (inr (p, b))
    same p q (inr b) = inr (inr (sym p ∙ q, b))

    by : (x < z) ⊎ ((x ≡ z) × ComesBefore xs zs) → (x ≡ y) ⊎ ((x < y) ⊎ (y < x)) → (ComesBefore xs zs → ComesBefore xs ys ⊎ ComesBefore ys zs) → ComesBefore (x ∷ xs) (y ∷ ys) ⊎ ComesBefore (y ∷ ys) (z ∷ zs)
    by h (inr (inl less)) f = inl (inl less)
    by (inl h) (inr (inr more)) f = inr (inl (omega (arith, h, more)))
    by (inr h) (inr (inr more)) f = inr (inl (omega (arith, h.0, more)))
    by (inl h) (inl e) f = inr (inl (omega (arith, h, e)))
    by (inr h) (inl e) f = same e h.0 (f h.1)

differs_before : (xs ys : List ℕ) → Differs xs ys → ComesBefore xs ys
differs_before [] ys d = absurd d
differs_before (x ∷ xs) [] d = absurd d
differs_before (x ∷ xs) (y ∷ ys) (inl d) = inl d
differs_before (x ∷ xs) (y ∷ ys) (inr d) = inr (d.0, differs_before xs ys d.1)

differs_only : (xs ys : List ℕ) → Differs xs ys → ComesBefore ys xs → ⊥
differs_only [] ys d b = d
differs_only (x ∷ xs) [] d b = d
differs_only (x ∷ xs) (y ∷ ys) (inl d) (inl b) = omega (arith, d, b)
differs_only (x ∷ xs) (y ∷ ys) (inl d) (inr b) = omega (arith, d, b.0)
differs_only (x ∷ xs) (y ∷ ys) (inr d) (inl b) = omega (arith, d.0, b)
differs_only (x ∷ xs) (y ∷ ys) (inr d) (inr b) = differs_only xs ys d.1 b.1

differs_longer : (xs ys us vs : List ℕ) → Differs xs ys → Differs (xs ++ us) (ys ++ vs)
differs_longer [] ys us vs d = absurd d
differs_longer (x ∷ xs) [] us vs d = absurd d
differs_longer (x ∷ xs) (y ∷ ys) us vs (inl d) = inl d
differs_longer (x ∷ xs) (y ∷ ys) us vs (inr d) = inr (d.0, differs_longer xs ys us vs d.1)

differs_later : (xs us vs : List ℕ) → Differs us vs → Differs (xs ++ us) (xs ++ vs)
differs_later [] us vs d = d
differs_later (x ∷ xs) us vs d = inr (refl, differs_later xs us vs d)

joined_later : (xs ys us vs : List ℕ) → xs ≡ ys → Differs us vs → Differs (xs ++ us) (ys ++ vs)
joined_later xs ys us vs e d = subst (λ (l : List ℕ). Differs (xs ++ us) (l ++ vs)) e (differs_later xs us vs d)

joined_same : (xs ys us vs : List ℕ) → xs ≡ ys → us ≡ vs → xs ++ us ≡ ys ++ vs
joined_same xs ys us vs e f = cc

pub leads_join : (xs ys us vs : List ℕ) → Leads xs ys → Leads us vs → Leads (xs ++ us) (ys ++ vs)
leads_join xs ys us vs (inl e) (inl f) = inl (joined_same xs ys us vs e f)
leads_join xs ys us vs (inl e) (inr d) = inr (joined_later xs ys us vs e d)
leads_join xs ys us vs (inr d) h = inr (differs_longer xs ys us vs d)

pub leads_head : (x y : ℕ) (xs ys : List ℕ) → x ≡ y → Leads xs ys → Leads (x ∷ xs) (y ∷ ys)
leads_head x y xs ys e (inl f) = inl (cc)
leads_head x y xs ys e (inr d) = inr (inr (e, d))

same_tail : (x y : ℕ) (xs ys : List ℕ) → x ∷ xs ≡ y ∷ ys → (x ≡ y) × (xs ≡ ys)
same_tail x y xs ys e = ((let h : x ≡ y = cc in h), (let h : xs ≡ ys = cc in h))

-- what is changed behind a head that stays
pub leads_step : (x y : ℕ) (xs ys vs ws : List ℕ) → Leads (x ∷ xs) (y ∷ ys) → (x ≡ y → Leads xs ys → Leads vs ws) → Leads (x ∷ vs) (y ∷ ws)
leads_step x y xs ys vs ws (inl e) f = let s = same_tail x y xs ys e in leads_head x y vs ws s.0 (f s.0 (inl s.1))
leads_step x y xs ys vs ws (inr (inl d)) f = inr (inl d)
leads_step x y xs ys vs ws (inr (inr d)) f = leads_head x y vs ws d.0 (f d.0 (inr d.1))

pub leads_tail : (x y : ℕ) (xs ys : List ℕ) → x ≡ y → Leads (x ∷ xs) (y ∷ ys) → Leads xs ys
leads_tail x y xs ys same (inl e) = inl (same_tail x y xs ys e).1
leads_tail x y xs ys same (inr (inl d)) = absurd (omega (arith, same, d))
leads_tail x y xs ys same (inr (inr d)) = inr d.1

-- a head that is changed on both sides alike
pub leads_raised : (n x y : ℕ) (xs ys : List ℕ) → Leads (x ∷ xs) (y ∷ ys) → Leads ((n + x) ∷ xs) ((n + y) ∷ ys)
leads_raised n x y xs ys (inl e) = let s = same_tail x y xs ys e in leads_head (n + x) (n + y) xs ys (ap (λ (m : ℕ). n + m) s.0) (inl s.1)
leads_raised n x y xs ys (inr (inl d)) = inr (inl (omega (arith, d)))
leads_raised n x y xs ys (inr (inr d)) = inr (inr (ap (λ (m : ℕ). n + m) d.0, d.1))

pub leads_not : (xs ys : List ℕ) → Leads xs ys → ComesBefore ys xs → ⊥
leads_not xs ys (inl e) b = before_strict xs (subst (λ (l : List ℕ). ComesBefore l xs) (sym e) b)
leads_not xs ys (inr d) b = differs_only xs ys d b

pub leads_sorted : (xs ys : List ℕ) → Sorted xs ys → (ComesBefore ys xs → ⊥) → Leads xs ys
leads_sorted xs ys (one e) b = inl e
leads_sorted xs ys (first d) b = inr d
leads_sorted xs ys (second d) b = absurd (b (differs_before ys xs d))

-- ---- codes that are spelled well

-- So many codes, or so many elements of a repetition, one after another.
pub data Words (g : FlatGrammar) : Bool → ℕ → List ℕ → Type 0 where
  nothing : (elements : Bool) → Words g elements 0 []
  a_node : (n s p d z k : ℕ) (xs ys : List ℕ) → Words g (is_repetition g s) k xs → Words g false n ys → Words g false (suc n) (s ∷ p ∷ d ∷ z ∷ k ∷ (xs ++ ys))
  an_element : (n a k : ℕ) (xs ys : List ℕ) → Words g false k xs → Words g true n ys → Words g true (suc n) (a ∷ k ∷ (xs ++ ys))

sorted_head : (x y : ℕ) (xs ys : List ℕ) → (x ≡ y → Sorted xs ys) → Sorted (x ∷ xs) (y ∷ ys)
sorted_head x y xs ys h = by (cases_order x y)
  where
    same : x ≡ y → Sorted xs ys → Sorted (x ∷ xs) (y ∷ ys)
    same e (one f) = one (cc)
    same e (first d) = first (inr (e, d))
    same e (second d) = second (inr (sym e, d))

    by : (x ≡ y) ⊎ ((x < y) ⊎ (y < x)) → Sorted (x ∷ xs) (y ∷ ys)
    by (inl e) = same e (h e)
    by (inr (inl less)) = first (inl less)
    by (inr (inr more)) = second (inl more)

sorted_join : (xs ys us vs : List ℕ) → Sorted xs ys → Sorted us vs → Sorted (xs ++ us) (ys ++ vs)
sorted_join xs ys us vs (one e) (one f) = one (joined_same xs ys us vs e f)
sorted_join xs ys us vs (one e) (first d) = first (joined_later xs ys us vs e d)
sorted_join xs ys us vs (one e) (second d) = second (joined_later ys xs vs us (sym e) d)
sorted_join xs ys us vs (first d) h = first (differs_longer xs ys us vs d)
sorted_join xs ys us vs (second d) h = second (differs_longer ys xs vs us d)

module _ (g : FlatGrammar) where
  -- the first difference of as many codes decides
  pub words_sorted : (b : Bool) (n : ℕ) (xs ys : List ℕ) → Words g b n xs → Words g b n ys → Sorted xs ys
  words_sorted _ _ _ _ (nothing b) (nothing _) = one refl
  words_sorted _ _ _ _ (a_node n s p d z k xs ys w v) (a_node _ s' p' d' z' k' xs' ys' w' v') =
      sorted_head s s' (p ∷ d ∷ z ∷ k ∷ (xs ++ ys)) (p' ∷ d' ∷ z' ∷ k' ∷ (xs' ++ ys')) (λ es.
      sorted_head p p' (d ∷ z ∷ k ∷ (xs ++ ys)) (d' ∷ z' ∷ k' ∷ (xs' ++ ys')) (λ ep.
      sorted_head d d' (z ∷ k ∷ (xs ++ ys)) (z' ∷ k' ∷ (xs' ++ ys')) (λ ed.
      sorted_head z z' (k ∷ (xs ++ ys)) (k' ∷ (xs' ++ ys')) (λ ez.
      sorted_head k k' (xs ++ ys) (xs' ++ ys') (λ ek.
      sorted_join xs xs' ys ys'
      (words_sorted (is_repetition g s) k xs xs' w
      (subst (λ (m : ℕ). Words g (is_repetition g s) m xs') (sym ek) (subst (λ (t : ℕ). Words g (is_repetition g t) k' xs') (sym es) w')))
      (words_sorted false n ys ys' v v'))))))
  words_sorted _ _ _ _ (an_element n a k xs ys w v) (an_element _ a' k' xs' ys' w' v') =
      sorted_head a a' (k ∷ (xs ++ ys)) (k' ∷ (xs' ++ ys')) (λ ea.
      sorted_head k k' (xs ++ ys) (xs' ++ ys') (λ ek.
      sorted_join xs xs' ys ys'
      (words_sorted false k xs xs' w (subst (λ (m : ℕ). Words g false m xs') (sym ek) w'))
      (words_sorted true n ys ys' v v')))

  pub words_counted : (b : Bool) (n m : ℕ) (xs : List ℕ) → n ≡ m → Words g b n xs → Words g b m xs
  words_counted b n m xs e w = subst (λ (k : ℕ). Words g b k xs) e w

  pub words_append : (b : Bool) (n m : ℕ) (xs ys : List ℕ) → Words g b n xs → Words g b m ys → Words g b (n + m) (xs ++ ys)
  words_append _ _ m _ vs (nothing b) v = words_counted b m (0 + m) vs (omega arith) v
  words_append _ _ m _ vs (a_node n s p d z k xs ys w more) v =
      subst (λ (l : List ℕ). Words g false (suc n + m) (s ∷ p ∷ d ∷ z ∷ k ∷ l)) (sym (append_assoc xs ys vs))
      (words_counted false (suc (n + m)) (suc n + m) (s ∷ p ∷ d ∷ z ∷ k ∷ (xs ++ (ys ++ vs))) (omega arith)
      (a_node (n + m) s p d z k xs (ys ++ vs) w (words_append false n m ys vs more v)))
  words_append _ _ m _ vs (an_element n a k xs ys w more) v =
      subst (λ (l : List ℕ). Words g true (suc n + m) (a ∷ k ∷ l)) (sym (append_assoc xs ys vs))
      (words_counted true (suc (n + m)) (suc n + m) (a ∷ k ∷ (xs ++ (ys ++ vs))) (omega arith)
      (an_element (n + m) a k xs (ys ++ vs) w (words_append true n m ys vs more v)))

  -- one code, and one element
  pub one_code : (s p d z k : ℕ) (xs : List ℕ) → Words g (is_repetition g s) k xs → Words g false 1 (s ∷ p ∷ d ∷ z ∷ k ∷ xs)
  one_code s p d z k xs w = subst (λ (l : List ℕ). Words g false 1 (s ∷ p ∷ d ∷ z ∷ k ∷ l)) (append-nil xs) (a_node 0 s p d z k xs [] w (nothing false))

  pub one_element : (a k : ℕ) (xs : List ℕ) → Words g false k xs → Words g true 1 (a ∷ k ∷ xs)
  one_element a k xs w = subst (λ (l : List ℕ). Words g true 1 (a ∷ k ∷ l)) (append-nil xs) (an_element 0 a k xs [] w (nothing true))

  no_words : (b : Bool) (n : ℕ) (xs : List ℕ) → Words g b n xs → n ≡ 0 → xs ≡ []
  no_words _ _ _ (nothing b) e = refl
  no_words _ _ _ (a_node n s p d z k xs ys w v) e = absurd (omega (arith, e))
  no_words _ _ _ (an_element n a k xs ys w v) e = absurd (omega (arith, e))

  same_five : (s s' p p' d d' z z' k k' : ℕ) (xs ys : List ℕ) → s ∷ p ∷ d ∷ z ∷ k ∷ xs ≡ s' ∷ p' ∷ d' ∷ z' ∷ k' ∷ ys → (s ≡ s') × (k ≡ k') × (xs ≡ ys)
  same_five s s' p p' d d' z z' k k' xs ys e = ((let h : s ≡ s' = cc in h), (let h : k ≡ k' = cc in h), (let h : xs ≡ ys = cc in h))

  -- what follows the head of a code
  pub inside_code : (b : Bool) (n : ℕ) (code : List ℕ) (s p d z k : ℕ) (xs : List ℕ) → Words g b n code → b ≡ false → n ≡ 1 → code ≡ s ∷ p ∷ d ∷ z ∷ k ∷ xs → Words g (is_repetition g s) k xs
  inside_code _ _ _ s p d z k xs (nothing b) single count e = absurd (omega (arith, count))
  inside_code _ _ _ s p d z k xs (a_node n s' p' d' z' k' xs' ys w v) single count e =
      let h = same_five s' s p' p d' d z' z k' k (xs' ++ ys) xs e in
      let none : ys ≡ [] = no_words false n ys v (omega (arith, count)) in
      let all : xs' ≡ xs = sym (append-nil xs') ∙ ap (λ (l : List ℕ). xs' ++ l) (sym none) ∙ h.2 in
      subst (λ (t : ℕ). Words g (is_repetition g t) k xs) h.0
      (subst (λ (m : ℕ). Words g (is_repetition g s') m xs) h.1
      (subst (λ (l : List ℕ). Words g (is_repetition g s') k' l) all w))
  inside_code _ _ _ s p d z k xs (an_element n a k' xs' ys w v) single count e = absurd (let h : true ≡ false = single in cc)
