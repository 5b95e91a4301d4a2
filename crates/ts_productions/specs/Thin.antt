-- Lists of alternatives without some of those that stand earlier too, and rule trees with fewer
-- empty alternatives. Serves private clauses and proofs alone.
use Rattle.std.specs.Prelude.{◌≡◌, List, ◌++◌, true}
use Rattle.std.specs.List.{Contains, flat_map}
use Rattle.ts_core.specs.declared.flat.Production.{Production}
use Rattle.ts_rules.specs.declared.tree.Alternative.{Alternative}
use Rattle.ts_rules.specs.declared.tree.Around.{Around}
use Rattle.ts_rules.specs.declared.tree.Tree.{Tree}
use Rattle.ts_rules.specs.Alternatives.{Alternatives, alternatives_of, choice_of, blank}
use Rattle.ts_rules.specs.FirstSights.{AreFirstSights}
use Rattle.ts_productions.specs.declared.prune.Branches.{Branches}

-- whatever comes of each alternative has the same first sights by either list, between whatever
-- stands round it
pub record IsThin (xs ys : Alternatives) : Type 0 where
  pub same : (f : Alternative → List Production) (before after found : List Production)
      → AreFirstSights (before ++ (flat_map f ys ++ after)) found
      → AreFirstSights (before ++ (flat_map f xs ++ after)) found
  pub has : (x : Alternative) → Contains ys x → Contains xs x

-- some alternative is the empty one, and no other stands there
pub record AreOnlyBlank (xs : Alternatives) : Type 0 where
  pub some : Contains xs blank
  pub only : (x : Alternative) → Contains xs x → x ≡ blank

-- the second tree is the first with fewer empty alternatives
abbrev pub IsThinTree : Tree → Tree → Type 0
IsThinTree t u = (around : Around) → IsThin (alternatives_of t around) (alternatives_of u around)

-- the tree has the empty alternative alone, whatever stands round it
abbrev pub IsBlankTree : Tree → Type 0
IsBlankTree t = (around : Around) → AreOnlyBlank (alternatives_of t around)

-- so has each of the trees
abbrev pub AreBlankTrees : List Tree → Type 0
AreBlankTrees ts = (t : Tree) → Contains ts t → IsBlankTree t

-- the branches of a CHOICE, the second with fewer empty alternatives
abbrev pub AreThinBranches : List Tree → List Tree → Type 0
AreThinBranches ts us = (around : Around) → IsThin (choice_of ts around) (choice_of us around)

-- some branch has the empty alternative, whatever stands round the CHOICE
abbrev pub HasBlankBranch : List Tree → Type 0
HasBlankBranch us = (around : Around) → Contains (choice_of us around) blank

-- what is kept of the branches that were seen
pub record AreBranches (ts : List Tree) (b : Branches) : Type 0 where
  pub thin : AreThinBranches ts b.found
  pub blank : b.has_blank ≡ true → HasBlankBranch b.found
