-- What a reduction's code knows of its production, by the setting.
use Rattle.std.proofs.Common.{◌≡◌, sym, subst, ℕ, ◌<◌, ◌≤◌, List, length, slice_get, Option, Some, arith}
use Rattle.ts_core.specs.declared.flat.FlatGrammar.{FlatGrammar}
use Rattle.ts_core.specs.declared.flat.Production.{Production}
use Rattle.spec_trees.specs.declared.tree.Tree.{Tree}
use Rattle.spec_trees.specs.Trees.{tree_depth}
use Rattle.spec_trees.specs.Made.{form_of, reduced, most_depth}
use Rattle.spec_runs.specs.Moves.{EndsWithProduction}
use Rattle.spec_trees.specs.Reducible.{HasSmallValue}
use Rattle.ts_table.specs.declared.view.ParseTable.{ParseTable}
use Rattle.ts_steps.specs.Lines.{IsLine, lengthens_by}
use Rattle.ts_steps.specs.Good.{CanReduce}
use Rattle.ts_steps.proofs.PutLemmas.{number_within}
use Rattle.ts_steps.specs.declared.lines.ProductionLine.{ProductionLine}
use Rattle.ts_steps.specs.declared.setting.ParseSetting.{ParseSetting}
use Rattle.ts_steps.specs.Settings.{IsParseSetting}

module _ (t : ParseTable) (size : ℕ) (s : ParseSetting) (set : IsParseSetting t size s) (number : ℕ) where
  pub line_there : (read : List ℕ) → EndsWithProduction t.grammar read number → number < length s.lines
  line_there read ends =
      let n = number_within t.grammar read number ends in
      let m = set.lines.many in
      omega arith

  pub line_at : (l : ProductionLine) → slice_get s.lines number ≡ Some l → IsLine t.grammar number l
  line_at l at = set.lines.each number l at

  pub small_at : ((k : ℕ) → HasSmallValue s.productions k) → HasSmallValue t.grammar number
  small_at small = subst (λ (g : FlatGrammar). HasSmallValue g number) set.productions (small number)

  pub can_at : (l : ProductionLine) (p : Production) (extent : ℕ) (children : List Tree) → CanReduce t.grammar number l.left.0 p extent children → IsLine t.grammar number l
      → (left : ℕ) × (p : Production) × CanReduce s.productions number left p extent children × (lengthens_by (form_of s.productions left number) ≡ l.lengthens)
  can_at l p extent children can line = (
    l.left.0,
    p,
    subst (λ (g : FlatGrammar). CanReduce g number l.left.0 p extent children) (sym set.productions) can,
    subst (λ (g : FlatGrammar). lengthens_by (form_of g l.left.0 number) ≡ l.lengthens) (sym set.productions) line.lengthens,
  )

  module _ (extent : ℕ) (state : Option ℕ) (children : List Tree) where
    pub made_is : (u : Tree) → u ≡ reduced s.productions number extent state children → tree_depth u ≤ most_depth
        → (u ≡ reduced t.grammar number extent state children) × (tree_depth (reduced t.grammar number extent state children) ≤ most_depth)
    made_is u is low =
        let own : u ≡ reduced t.grammar number extent state children = subst (λ (g : FlatGrammar). u ≡ reduced g number extent state children) set.productions is in
        (own, subst (λ (x : Tree). tree_depth x ≤ most_depth) own low)
