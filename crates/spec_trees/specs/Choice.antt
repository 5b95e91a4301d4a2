-- The better of two trees: the greater dynamic total, and then the smaller code in preorder.
use Rattle.std.specs.Prelude.{◌≡◌, ℕ, ◌<◌, ◌⊎◌, Bool, true, false, ◌&&◌, List, [], ◌∷◌, ◌++◌, length, take, drop, unwrap_or}
use Rattle.std.specs.List.{concat, list_all}
use lib.Signed.{◌<ℤ◌}
use Rattle.ts_core.specs.declared.flat.FlatGrammar.{FlatGrammar}
use Rattle.spec_grammar.specs.Symbols.{is_repetition}
use Rattle.spec_trees.specs.declared.tree.Tree.{Tree}
use Rattle.spec_trees.specs.declared.tree.Element.{Element}
use Rattle.spec_trees.specs.declared.tree.Tree.TheOpen.{Tree-F}
use Rattle.spec_trees.specs.declared.tree.Tree.TheFolds.{fold-Tree}
use Rattle.spec_trees.specs.Trees.{total_of}

-- ---- the code in preorder

-- Each element gives its alternative and its number of children, and then its children's codes.
abbrev pub element_codes : List Element → List (List ℕ) → List ℕ
element_codes [] codes = []
element_codes (e ∷ es) codes =
    e.alternative ∷ e.children
    ∷ (concat (take e.children codes) ++ element_codes es (drop e.children codes))

-- A repetition gives its number of elements, each other node its number of children; their codes
-- follow. `codes` are those of the children.
abbrev pub inner_code : List Element → List (List ℕ) → List ℕ
inner_code [] codes = length codes ∷ concat codes
inner_code (e ∷ es) codes = length (e ∷ es) ∷ element_codes (e ∷ es) codes

-- the code of a node over the codes of its children
abbrev pub code_step : Tree-F (List ℕ) → List ℕ
code_step t =
    t.symbol.0 ∷ unwrap_or t.production 0 ∷ t.pad ∷ t.size ∷ inner_code t.elements t.children

-- For each node in preorder its symbol, production (0 for a leaf and a repetition), pad, size and
-- number of children or elements.
abbrev pub code_of : Tree → List ℕ
code_of = fold-Tree (List ℕ) code_step

-- ---- the order

-- the first list comes before the second, compared number by number
abbrev pub ComesBefore : List ℕ → List ℕ → Type 0
ComesBefore xs [] = ⊥
ComesBefore [] (y ∷ ys) = Unit {0}
ComesBefore (x ∷ xs) (y ∷ ys) = (x < y) ⊎ ((x ≡ y) × ComesBefore xs ys)

-- the first tree is chosen before the second: it has the greater total, or the smaller code at one
-- total
abbrev pub Better : Tree → Tree → Type 0
Better t u =
    (total_of u <ℤ total_of t)
    ⊎ ((total_of t ≡ total_of u) × ComesBefore (code_of t) (code_of u))

-- ---- trees of one grammar

-- whether a node has the elements that it should: some for a repetition, none for all others
abbrev pub has_form : Bool → List Element → Bool
has_form true [] = false
has_form true (e ∷ es) = true
has_form false [] = true
has_form false (e ∷ es) = false

-- the same of a node and all below it, from what is so of its children
abbrev pub form_step : FlatGrammar → Tree-F Bool → Bool
form_step g t =
    has_form (is_repetition g t.symbol.0) t.elements && list_all (λ inner. inner) t.children

-- Each node of the tree has elements just where its symbol is a repetition of the grammar. So two
-- nodes of one symbol both have elements, or neither has.
abbrev pub IsInForm : FlatGrammar → Tree → Type 0
IsInForm g t = fold-Tree Bool (form_step g) t ≡ true

-- both are trees of some one grammar
abbrev pub AreOfOneGrammar : Tree → Tree → Type 0
AreOfOneGrammar t u = (g : FlatGrammar) × IsInForm g t × IsInForm g u
