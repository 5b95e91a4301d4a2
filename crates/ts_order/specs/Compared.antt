-- How the codes of trees compare, piece by piece. For private clauses and proofs.
use Rattle.std.specs.Prelude.{◌≡◌, ℕ, List, [], ◌∷◌, ◌++◌, length, map, take, drop, unwrap_or}
use Rattle.std.specs.List.{concat}
use Rattle.std.specs.declared.cmp.Ordering.{Ordering}
use Rattle.std.specs.Ordering.{nat_cmp, ordering_then}
use Rattle.std.specs.Cmp.Lexicographic.{slice_cmp}
use Rattle.spec_trees.specs.declared.tree.Tree.{Tree}
use Rattle.spec_trees.specs.declared.tree.Element.{Element}
use Rattle.spec_trees.specs.Trees.{symbol_of, production_of, pad_of, size_of, elements_of, children_of}
use Rattle.spec_trees.specs.Choice.{code_of, element_codes}

-- Whatever follows two lists, they compare by this, and where they are equal by what follows.
abbrev pub Compares : Ordering → List ℕ → List ℕ → Type 0
Compares r xs ys =
    (after others : List ℕ)
    → slice_cmp nat_cmp (xs ++ after) (ys ++ others)
    ≡ ordering_then r (slice_cmp nat_cmp after others)

-- how many elements, where there are some, or else how many children
abbrev pub count_by : List Element → List Tree → ℕ
count_by [] ts = length ts
count_by (e ∷ es) ts = length (e ∷ es)

-- the fifth number of a tree's code
abbrev pub count_in_code : Tree → ℕ
count_in_code t = count_by (elements_of t) (children_of t)

-- the first five numbers of a tree's code
abbrev pub head_of : Tree → List ℕ
head_of t =
    symbol_of t ∷ unwrap_or (production_of t) 0 ∷ pad_of t ∷ size_of t ∷ count_in_code t ∷ []

-- the codes of so many children, from one number on
abbrev pub codes_from : ℕ → ℕ → Tree → List ℕ
codes_from from count t = concat (map code_of (take count (drop from (children_of t))))

-- the code of all elements
abbrev pub elements_code : Tree → List ℕ
elements_code t = element_codes (elements_of t) (map code_of (children_of t))
