-- Texts have one first fault at most, and none where they are queries.
use Rattle.std.proofs.Common.{◌≡◌, ◌≢◌, ◌∙◌, sym, ap, subst, refl, ℕ, zero, suc, ◌<◌, ◌⊎◌, inl, inr, List, [], ◌∷◌, length, slice_get, Option, Some, None, arith}
use Rattle.std.proofs.lemmas.Bool.{cases_lt}
use Rattle.ts_base.specs.Bytes.{Bytes}
use Rattle.ts_core.specs.declared.flat.FlatGrammar.{FlatGrammar}
use Rattle.ts_query_tree.specs.declared.fault.TreeFault.{TreeFault}
use Rattle.ts_query_tree.specs.declared.fault.TreeFault.TheVariants as tree
use Rattle.ts_query_tree.specs.declared.tree.Part.{Part}
use Rattle.ts_query_tree.specs.Reads.{Reads, IsFault}
use Rattle.ts_query_names.specs.declared.flaw.Flaw.{Flaw}
use Rattle.ts_query_names.specs.declared.flaw.Flaw.TheVariants as flaw
use Rattle.ts_query_names.specs.Checks.{checks, first_wrong}
use Rattle.ts_query_syntax.specs.Judging.{flaw_fault}
use Rattle.ts_query_syntax.specs.Queries.{IsQuery, IsQueryFault, IsFirst, tree_fault}
use Rattle.ts_query_syntax.specs.declared.fault.QueryFault.{QueryFault}
use Rattle.ts_query_syntax.specs.declared.fault.QueryFault.TheVariants as fault
use Rattle.ts_query_syntax.specs.declared.read_query.ReadQuery.{ReadQuery}
use Rattle.ts_loading.specs.Loads.{AreQueries, HasNoFault, HaveNoFaults, IsOfText, IsFirstFault}

-- what is known of texts
pub record TreeLaws : Type 0 where
  pub read_once : (x y : List Part) (w : Bytes) → Reads w x → Reads w y → x ≡ y
  pub refused : (e : TreeFault) (x : List Part) (w : Bytes) → e ≢ tree.Memory → IsFault w e → Reads w x → ⊥
  pub fault_once : (e f : TreeFault) (w : Bytes) → e ≢ tree.Memory → f ≢ tree.Memory → IsFault w e → IsFault w f → e ≡ f

-- ---- options and numbers

pub none_there : {X : Type 0} (x : X) (o : Option X) → o ≡ None → o ≡ Some x → ⊥
none_there x o p q =
    let both : None ≡ Some x = sym p ∙ q in
    let never : ⊥ = cc in
    never

pub same_some : {X : Type 0} (o : Option X) (x y : X) → o ≡ Some x → o ≡ Some y → x ≡ y
same_some o x y p q =
    let both : Some x ≡ Some y = sym p ∙ q in
    let same : x ≡ y = cc in
    same

compared : (m n : ℕ) → (m < n) ⊎ ((n < m) ⊎ (m ≡ n))
compared m n = elim (cases_lt m n) [
  | inl below ↦ inl below
  | inr least ↦ elim (cases_lt n m) [
    | inl above ↦ inr (inl above)
    | inr most ↦ inr (inr (omega (arith, least, most)))
  ]
]

pub some_at : {A : Type 0} (xs : List A) (n : ℕ) → n < length xs → (x : A) × (slice_get xs n ≡ Some x)
some_at [] n h = absurd (omega (arith, h))
some_at (x ∷ xs) zero h = (x, refl)
some_at (x ∷ xs) (suc n) h = some_at xs n (omega (arith, h))

below_end : {A : Type 0} (xs : List A) (n : ℕ) (x : A) → slice_get xs n ≡ Some x → n < length xs
below_end [] n x e = absurd (none_there x None refl e)
below_end (y ∷ xs) zero x e = omega arith
below_end (y ∷ xs) (suc n) x e = let inside = below_end xs n x e in omega (arith, inside)

-- ---- one text

-- what a fault that a text decides says of it: it is read as no parts, or these have a flaw
abbrev Says : FlatGrammar → List Bytes → Bytes → QueryFault → Type 0
Says g called w f = ((t : TreeFault) × (t ≢ tree.Memory) × IsFault w t × (f ≡ tree_fault t))
    ⊎ ((l : Flaw) × IsFirst g called w l × (f ≡ flaw_fault l))

no_syntax : (at : ℕ) → tree.Syntax at ≢ tree.Memory
no_syntax at e = let never : ⊥ = cc in never

no_depth : (at : ℕ) → tree.Deep at ≢ tree.Memory
no_depth at e = let never : ⊥ = cc in never

says : (g : FlatGrammar) (called : List Bytes) (w : Bytes) (f : QueryFault) → IsOfText f → IsQueryFault g called w f → Says g called w f
says g called w (fault.Syntax at) of is = inl (tree.Syntax at, no_syntax at, is, refl)
says g called w (fault.Deep at) of is = inl (tree.Deep at, no_depth at, is, refl)
says g called w (fault.UnknownNode at) of is = inr (flaw.UnknownNode at, is, refl)
says g called w (fault.UnknownField at) of is = inr (flaw.UnknownField at, is, refl)
says g called w (fault.UnknownCapture at) of is = inr (flaw.UnknownCapture at, is, refl)
says g called w (fault.UnknownPredicate at) of is = inr (flaw.UnknownPredicate at, is, refl)
says g called w (fault.NestedQuantifier at) of is = inr (flaw.NestedQuantifier at, is, refl)
says g called w (fault.Regex at) of is = absurd (of.no_regex (at, refl))
says g called w fault.Memory of is = absurd (of.no_memory refl)

-- texts that are queries have no faults
pub no_faults : (g : FlatGrammar) (called texts : List Bytes) (queries : List ReadQuery) → AreQueries g called texts queries → HaveNoFaults g called texts
no_faults g called texts queries are number text at =
    let count = are.count in
    let inside = below_end texts number text at in
    let query = some_at queries number (omega (arith, inside, count)) in
    let is : IsQuery g called text query.0 = are.each number text query.0 at query.1 in
    let of = is.is in
    (is.parts, is.reads, of.right)

module _ (laws : TreeLaws) where
  first_there : (g : FlatGrammar) (called : List Bytes) (w : Bytes) (x y : List Part) (o : Option Flaw) → Reads w x → Reads w y → first_wrong (checks g called x) ≡ o → first_wrong (checks g called y) ≡ o
  first_there g called w x y o a b e = ap (λ (parts : List Part). first_wrong (checks g called parts)) (laws.read_once y x w b a) ∙ e

  pub fault_or_none : (g : FlatGrammar) (called : List Bytes) (w : Bytes) (f : QueryFault) → IsOfText f → IsQueryFault g called w f → HasNoFault g called w → ⊥
  fault_or_none g called w f of is fine = elim (says g called w f of is) [
    | inl t ↦ laws.refused t.0 fine.0 w t.1 t.2 fine.1
    | inr l ↦
        let at = l.1 in
        none_there l.0 (first_wrong (checks g called fine.0)) fine.2 (first_there g called w at.0 fine.0 (Some l.0) at.1 fine.1 at.2)
  ]

  flaw_once : (g : FlatGrammar) (called : List Bytes) (w : Bytes) (l m : Flaw) → IsFirst g called w l → IsFirst g called w m → l ≡ m
  flaw_once g called w l m a b = same_some (first_wrong (checks g called b.0)) l m (first_there g called w a.0 b.0 (Some l) a.1 b.1 a.2) b.2

  tree_or_flaw : (g : FlatGrammar) (called : List Bytes) (w : Bytes) (t : TreeFault) (l : Flaw) → t ≢ tree.Memory → IsFault w t → IsFirst g called w l → ⊥
  tree_or_flaw g called w t l n is at = laws.refused t at.0 w n is at.1

  fault_once : (g : FlatGrammar) (called : List Bytes) (w : Bytes) (e f : QueryFault) → IsOfText e → IsOfText f → IsQueryFault g called w e → IsQueryFault g called w f → e ≡ f
  fault_once g called w e f of also is other = elim (says g called w e of is) [
    | inl t ↦ elim (says g called w f also other) [
      | inl u ↦ t.3 ∙ ap tree_fault (laws.fault_once t.0 u.0 w t.1 u.1 t.2 u.2) ∙ sym u.3
      | inr m ↦ absurd (tree_or_flaw g called w t.0 m.0 t.1 t.2 m.1)
    ]
    | inr l ↦ elim (says g called w f also other) [
      | inl u ↦ absurd (tree_or_flaw g called w u.0 l.0 u.1 u.2 l.1)
      | inr m ↦ l.2 ∙ ap flaw_fault (flaw_once g called w l.0 m.0 l.1 m.1) ∙ sym m.2
    ]
  ]

  -- ---- the first of texts

  pub first_or_none : (g : FlatGrammar) (called texts : List Bytes) (n : ℕ) (f : QueryFault) → IsFirstFault g called texts n f → HaveNoFaults g called texts → ⊥
  first_or_none g called texts n f is fine = fault_or_none g called is.text f is.of_text is.fault_is (fine n is.text is.text_is)

  pub number_once : (g : FlatGrammar) (called texts : List Bytes) (m n : ℕ) (e f : QueryFault) → IsFirstFault g called texts m e → IsFirstFault g called texts n f → m ≡ n
  number_once g called texts m n e f a b = elim (compared m n) [
    | inl below ↦ absurd (fault_or_none g called a.text e a.of_text a.fault_is (b.before m a.text below a.text_is))
    | inr other ↦ elim other [
      | inl above ↦ absurd (fault_or_none g called b.text f b.of_text b.fault_is (a.before n b.text above b.text_is))
      | inr same ↦ same
    ]
  ]

  pub first_once : (g : FlatGrammar) (called texts : List Bytes) (m n : ℕ) (e f : QueryFault) → IsFirstFault g called texts m e → IsFirstFault g called texts n f → e ≡ f
  first_once g called texts m n e f a b =
      let at : slice_get texts m ≡ Some b.text = ap (slice_get texts) (number_once g called texts m n e f a b) ∙ b.text_is in
      let text : b.text ≡ a.text = same_some (slice_get texts m) b.text a.text at a.text_is in
      fault_once g called a.text e f a.of_text b.of_text a.fault_is (subst (λ (w : Bytes). IsQueryFault g called w f) text b.fault_is)
