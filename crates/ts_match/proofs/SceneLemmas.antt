-- The visible tree that a search sees.
use Rattle.std.proofs.Common.{◌≡◌, ◌∙◌, sym, subst, ℕ, suc, ◌<◌, List, length, Result}
use Rattle.std.specs.Result.{IfOk, IfErr}
use Rattle.ts_core.specs.declared.flat.FlatGrammar.{FlatGrammar}
use Rattle.spec_trees.specs.declared.tree.Tree.{Tree}
use Rattle.spec_trees.specs.declared.visible.VisibleNode.{VisibleNode}
use Rattle.spec_trees.specs.VisibleNodes.{visible_nodes}
use Rattle.spec_trees.specs.Family.{IsParent, depth_at}
use Rattle.ts_query_syntax.specs.declared.read_query.QueryKind.{QueryKind}
use Rattle.ts_query_syntax.specs.declared.read_query.ReadQuery.{ReadQuery}
use Rattle.spec_matches.specs.declared.found.Match.{Match}
use Rattle.spec_matches.specs.declared.scene.Scene.{Scene}
use Rattle.spec_matches.specs.Matches.{AreAll, AreMatches, AreMoreThan, AreTooMany, OfPatterns, most_matches}
use Rattle.ts_search.specs.Rows.{HaveParents, scene_of}
use Rattle.ts_search.specs.declared.listing.MatchFault.{MatchFault}
use Rattle.ts_search.specs.declared.listing.MatchFault.TheVariants.{Many}

-- the scene of a query's kinds and a visible tree
pub scene_is : (kinds other : List QueryKind) (nodes visible : List VisibleNode) (sight : Scene) → sight ≡ scene_of other nodes → other ≡ kinds → nodes ≡ visible → sight ≡ scene_of kinds visible
scene_is kinds other nodes visible sight s k e = s ∙ (λ i. scene_of (k i) (e i))

-- each node of a visible tree but the root has a parent
pub with_parents : (g : FlatGrammar) (t : Tree) → ((g : FlatGrammar) (t : Tree) (k : ℕ) → 0 < k → k < length (visible_nodes g t) → (m : ℕ) × (IsParent (visible_nodes g t) k m × (depth_at (visible_nodes g t) k ≡ suc (depth_at (visible_nodes g t) m)))) → (nodes : List VisibleNode)
    → nodes ≡ visible_nodes g t → HaveParents nodes
with_parents g t above nodes e = subst HaveParents (sym e) (λ k some within. let p = above g t k some within in (p.0, p.1.0))

module _ (query : ReadQuery) (nodes : List VisibleNode) (kept : Match → Type 0) (scene : Scene) (same : scene ≡ scene_of query.kinds nodes) (r : Result (List Match) MatchFault) where
  pub all_kept : IfOk r (AreAll (λ m. OfPatterns scene query.patterns m × kept m)) → IfOk r (AreMatches query nodes kept)
  all_kept h = subst (λ (s : Scene). IfOk r (AreAll (λ m. OfPatterns s query.patterns m × kept m))) same h

  pub too_many_kept : IfErr r (λ e. e ≡ Many → AreMoreThan most_matches (λ m. OfPatterns scene query.patterns m × kept m)) → IfErr r (λ e. e ≡ Many → AreTooMany query nodes kept)
  too_many_kept h = subst (λ (s : Scene). IfErr r (λ e. e ≡ Many → AreMoreThan most_matches (λ m. OfPatterns s query.patterns m × kept m))) same h
