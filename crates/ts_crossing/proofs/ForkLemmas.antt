-- Where several moves stay, each tree on the stack has bytes.
use Rattle.std.proofs.Common.{◌≡◌, ◌∙◌, sym, ap, refl, subst, ℕ, ◌<◌, ◌⊎◌, inl, inr, Bool, true, false, List, [], ◌∷◌, ◌++◌, append_assoc}
use Rattle.ts_base.specs.Bytes.{Bytes}
use Rattle.spec_tables.specs.Actions.{Move, Act, accept}
use Rattle.spec_trees.specs.declared.tree.Tree.{Tree}
use Rattle.spec_trees.specs.Trees.{symbol_of, is_extra_node, span_of}
use Rattle.spec_trees.specs.Made.{filling}
use Rattle.spec_runs.specs.Moves.{IsUnused}
use Rattle.spec_runs.specs.Runs.{CanMove}
use Rattle.spec_forced.specs.OnlyRuns.{IsFork}
use Rattle.ts_table.specs.declared.view.ParseTable.{ParseTable}
use Rattle.ts_gss.specs.declared.layer.Layer.{Layer}
use Rattle.ts_gss.specs.Stacks.{stack_at, trees_on}
use Rattle.ts_steps.specs.declared.head.StackHead.{StackHead}
use Rattle.ts_steps.specs.Good.{IsGoodTree, AreGoodTrees}
use Rattle.ts_steps.specs.LiveHeads.{config_of}
use Rattle.ts_crossing.specs.Laws.{EnterLaws}
use Rattle.ts_graph.specs.Under.{HaveBytes}
use Rattle.ts_crossing.proofs.BareLemmas.{filling_append, filling_tree, filling_bare}

module _ (laws : EnterLaws) (t : ParseTable) (text : Bytes) (stacks : List (List Layer)) (h : StackHead) (fork : IsFork t.grammar text (config_of stacks h)) where
  abbrev all : List Tree
  all = trees_on (stack_at stacks h.top)

  only_accept : (symbol : ℕ) → IsUnused t.grammar symbol → (above below : List ℕ) → filling all ≡ above ++ symbol ∷ below → (move : Move) → CanMove t.grammar text (config_of stacks h) move → move ≡ accept
  only_accept symbol unused above below is move can =
      laws.only_accepts t.grammar symbol unused above below can.symbol.0 move
      (subst (λ (r : List ℕ). Act t.grammar r can.symbol.0 move) (filling_bare laws.keeps all ∙ is) can.stays)

  never : (symbol : ℕ) → IsUnused t.grammar symbol → (above below : List ℕ) → filling all ≡ above ++ symbol ∷ below → ⊥
  never symbol unused above below is =
      fork.differ (only_accept symbol unused above below is fork.first fork.here ∙ sym (only_accept symbol unused above below is fork.second fork.there))

  tree_bytes : (above : List Tree) (u : Tree) (below : List Tree) → all ≡ above ++ u ∷ below → IsGoodTree t.grammar u → 0 < span_of u
  tree_bytes above u below is good = by (is_extra_node u) refl good.some
    where
      by : (b : Bool) → is_extra_node u ≡ b → (0 < span_of u) ⊎ IsUnused t.grammar (symbol_of u) → 0 < span_of u
      by b e (inl some) = some
      by true e (inr unused) = good.some_extra e
      by false e (inr unused) =
          absurd (never (symbol_of u) unused (filling above) (filling below)
          (ap filling is ∙ filling_append above (u ∷ below) ∙ ap (λ (l : List ℕ). filling above ++ l) (filling_tree u below e)))

  have_bytes : (above ts : List Tree) → all ≡ above ++ ts → AreGoodTrees t.grammar ts → HaveBytes ts
  have_bytes above [] is good = tt
  have_bytes above (u ∷ ts) is good = (
    tree_bytes above u ts is good.0,
    have_bytes (above ++ u ∷ []) ts (is ∙ sym (append_assoc above (u ∷ []) ts)) good.1,
  )

  pub fork_bytes : AreGoodTrees t.grammar all → HaveBytes all
  fork_bytes good = have_bytes [] all refl good
