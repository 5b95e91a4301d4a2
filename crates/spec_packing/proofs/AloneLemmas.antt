-- A reading that is reached goes on as its layers do, each as deep as its tree.
use Rattle.std.proofs.Common.{◌≡◌, ◌∙◌, sym, ap, refl, subst, ℕ, List, [], ◌∷◌, ◌++◌, length, map, reverse, None}
use Rattle.std.proofs.lemmas.List.{map-append, reverse-append}
use Rattle.ts_base.specs.Bytes.{Bytes}
use Rattle.ts_core.specs.declared.flat.FlatGrammar.{FlatGrammar}
use Rattle.spec_lexing.specs.Lexing.{token}
use Rattle.spec_tables.specs.Actions.{Act, shift, reduce}
use Rattle.spec_tables.specs.Fit.{Fit}
use Rattle.spec_trees.specs.declared.tree.Tree.{Tree}
use Rattle.spec_trees.specs.Trees.{tree_depth, bare}
use Rattle.spec_trees.specs.Made.{as_extra, filling, reduced, form_of, BeginsFilled}
use Rattle.spec_runs.specs.Configurations.{Configuration, stack_symbols, token_tree, HasMove, NextIs, AreExtras, IsReduction}
use Rattle.spec_runs.specs.Runs.{CanMove, StepsOn, shift_token, pass_extra, reduce_trees, IsReached}
use Rattle.spec_packing.specs.Replacing.{depth_over}
use Rattle.spec_packing.specs.Packing.{PackedTree, PackedStack, packed_trees, packed_depths, own_config, packed_alone, stack_alone, IsPackedReduction, PackedStepsOn, shift_packed, pass_packed, reduce_packed}
use Rattle.spec_packing.specs.Laws.{RunLaws}
use Rattle.spec_packing.proofs.ReachedLemmas.{lawful, reduction_makes, made_reached}
use Rattle.spec_packing.proofs.DepthLemmas.{reduced_says}

-- ---- lists

abbrev alone : List Tree → List PackedTree
alone ts = map packed_alone ts

alone_trees : (ts : List Tree) → packed_trees (alone ts) ≡ ts
alone_trees [] = refl
alone_trees (t ∷ ts) = ap (λ (us : List Tree). t ∷ us) (alone_trees ts)

alone_depths : (ts : List Tree) → packed_depths (alone ts) ≡ map tree_depth ts
alone_depths [] = refl
alone_depths (t ∷ ts) = ap (λ (ds : List ℕ). tree_depth t ∷ ds) (alone_depths ts)

alone_turned : (ts : List Tree) → alone (reverse ts) ≡ reverse (alone ts)
alone_turned [] = refl
alone_turned (t ∷ ts) =
    ap (λ (us : List Tree). alone us) (reverse-append (t ∷ []) ts) ∙ map-append packed_alone (reverse ts) (t ∷ [])
    ∙ ap (λ (xs : List PackedTree). xs ++ packed_alone t ∷ []) (alone_turned ts) ∙ sym (reverse-append (packed_alone t ∷ []) (alone ts))

alone_own : (c : Configuration) → own_config (stack_alone c) ≡ c
alone_own c = ap {B = Configuration} (λ (ts : List Tree). record { stack = ts; place = c.place }) (alone_trees c.stack)

-- the trees of layers that are turned, on others
alone_low : (children below : List Tree) → packed_trees (reverse (alone children) ++ alone below) ≡ reverse children ++ below
alone_low children below =
    ap (λ (xs : List PackedTree). packed_trees (xs ++ alone below)) (sym (alone_turned children))
    ∙ ap (λ (xs : List PackedTree). packed_trees xs) (sym (map-append packed_alone (reverse children) below))
    ∙ alone_trees (reverse children ++ below)

-- ---- reductions and steps

module _ (laws : RunLaws) (g : FlatGrammar) (fit : Fit g) (text : Bytes) (c : Configuration) (reached : IsReached g text c) where
  pub alone_reduced : (number : ℕ) → CanMove g text c (reduce number) → (node : Tree) (after : List Tree) → IsReduction g number c.stack node after → IsPackedReduction g number (alone c.stack) (packed_alone node) (alone after)
  alone_reduced number move node after r =
      let made = reduction_makes laws g fit number c.stack node after (laws.reduces g (stack_symbols c.stack) move.symbol.0 number move.stays) (made_reached laws g fit text c reached) r in
      let says = reduced_says g number r.left r.production (lawful laws g fit number r.left r.production r.at) r.children made in
      let whole = reduced g number 0 None r.children in
      let deep : tree_depth node ≡ depth_over (form_of g r.left number) (map tree_depth r.children) = ap tree_depth r.node_is ∙ (laws.keeps whole).depth ∙ says.depth in
      record {
        left = r.left;
        production = r.production;
        at = r.at;
        lifted = alone r.lifted;
        children = alone r.children;
        below = alone r.below;
        stack_is = ap (λ (ts : List Tree). alone ts) r.stack_is ∙ map-append packed_alone r.lifted (reverse r.children ++ r.below)
            ∙ ap (λ (xs : List PackedTree). alone r.lifted ++ xs) (map-append packed_alone (reverse r.children) r.below ∙ ap (λ (xs : List PackedTree). xs ++ alone r.below) (alone_turned r.children));
        extras = subst (λ (ts : List Tree). AreExtras ts) (sym (alone_trees r.lifted)) r.extras;
        all_lifted = subst (λ (ts : List Tree). BeginsFilled ts) (sym (alone_low r.children r.below)) r.all_lifted;
        count = ap (λ (ts : List Tree). length (filling ts)) (alone_trees r.children) ∙ r.count;
        first_fills = subst (λ (ts : List Tree). BeginsFilled ts) (sym (alone_trees r.children)) r.first_fills;
        tree_is = r.node_is ∙ ap (λ (ts : List Tree). bare (reduced g number 0 None ts)) (sym (alone_trees r.children));
        depth_is = deep ∙ ap (depth_over (form_of g r.left number)) (sym (alone_depths r.children));
        after_is = ap (λ (ts : List Tree). alone ts) r.after_is ∙ map-append packed_alone r.lifted (node ∷ r.below);
      }

  pub alone_steps : (d : Configuration) → StepsOn g text c d → PackedStepsOn g text (stack_alone c) (stack_alone d)
  alone_steps _ (shift_token symbol pad size next act) =
      shift_packed symbol pad size (subst (λ (x : Configuration). NextIs g text x (token symbol pad size)) (sym (alone_own c)) next)
      (subst (λ (ts : List Tree). Act g (stack_symbols ts) symbol.0 shift) (sym (alone_trees c.stack)) act)
  alone_steps _ (pass_extra symbol pad size next extra idle) =
      pass_packed symbol pad size (subst (λ (x : Configuration). NextIs g text x (token symbol pad size)) (sym (alone_own c)) next) extra
      (subst (λ (ts : List Tree). HasMove g (stack_symbols ts) symbol.0 → ⊥) (sym (alone_trees c.stack)) idle)
  alone_steps _ (reduce_trees number node after move r low) =
      reduce_packed number (packed_alone node) (alone after) (subst (λ (x : Configuration). CanMove g text x (reduce number)) (sym (alone_own c)) move) (alone_reduced number move node after r) low
