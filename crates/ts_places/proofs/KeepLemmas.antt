-- Leaves that are shifted and extras that are passed are such as a parser makes.
use Rattle.std.proofs.Common.{◌≡◌, sym, subst, ℕ, ◌<◌, Bool, false, true, IsTrue, is_some, List, [], ◌∷◌, Option, Some, None}
use Rattle.ts_base.specs.Bytes.{Bytes}
use Rattle.ts_core.specs.declared.flat.FlatGrammar.{FlatGrammar}
use Rattle.spec_tables.specs.Items.{IsToken}
use Rattle.spec_trees.specs.declared.tree.Tree.{Tree}
use Rattle.spec_trees.specs.Trees.{production_of, state_of, children_of}
use Rattle.spec_trees.specs.Made.{IsNode, leaf_of, as_extra}
use Rattle.spec_forced.specs.Sound.{AllSound}
use Rattle.spec_forced.proofs.SoundLemmas.{sound_none, sound_one}
use Rattle.ts_graph.specs.declared.view.GraphView.{GraphView}
use Rattle.ts_graph.specs.Down.{KeepNumbers}
use Rattle.ts_table.specs.declared.view.ParseTable.{ParseTable}
use Rattle.ts_reductions.specs.SoundLinks.{IsSoundFor}
use Rattle.ts_reductions.specs.Laying.{TreesFrom}
use Rattle.ts_steps.specs.Good.{IsGoodTree}
use Rattle.ts_steps.specs.Heads.{IsOwnWithin}
use Rattle.ts_steps.proofs.OwnLemmas.{own_leaf}
use Rattle.ts_steps.proofs.StackLemmas.{SaysLeaf, says_leaf, says_extra, leaf_good, extra_good}
use Rattle.ts_reductions.specs.Sound.{Base, parsing_from}
use Rattle.ts_reductions.specs.Keeping.{KeepsTrees}
use Rattle.ts_reductions.proofs.KeepLemmas.{IsKept, has_none, keeps_from}
use Rattle.ts_places.proofs.SmallLemmas.{first_of_one}

-- a tree without children that a parser made, and that has no state
pub record IsOwnLeaf (g : FlatGrammar) (u : Tree) : Type 0 where
  pub own : IsOwnWithin g u
  pub childless : children_of u ≡ []
  pub none : state_of u ≡ None

module _ (g : FlatGrammar) (u : Tree) where
  own_by : (token pad size extent : ℕ) (extra : Bool) → IsGoodTree g u → SaysLeaf token pad size extent None extra u → IsOwnLeaf g u
  own_by token pad size extent extra good says = record {
    own = own_leaf g u says.children (record { good = good; filled = λ h. absurd (not_some (production_of u) says.production h) });
    childless = says.children;
    none = says.state_is;
  }
    where
      not_some : (o : Option ℕ) → o ≡ None → IsTrue (is_some o) → ⊥
      not_some None e h = let k : false ≡ true = h in cc
      not_some (Some n) e h = let k : Some n ≡ None = e in cc

  module _ (token pad size extent : ℕ) where
    pub leaf_own : u ≡ leaf_of token pad size extent None → IsNode u → IsToken g token → 0 < size → IsOwnLeaf g u
    leaf_own is node low some = own_by token pad size extent false (leaf_good token pad size extent None g u is node low some) (says_leaf token pad size extent None u is)

    pub extra_own : u ≡ as_extra (leaf_of token pad size extent None) → IsNode u → IsToken g token → 0 < size → IsOwnLeaf g u
    extra_own is node low some = own_by token pad size extent true (extra_good token pad size extent None g u is node low some) (says_extra token pad size extent None u is)

-- a graph that grows by one such leaf
module _ (t : ParseTable) (text : Bytes) (base : Base) (old new : GraphView) (sound : IsSoundFor (parsing_from t text base) old) (keep : KeepNumbers old.heads new.heads) (place : ℕ) (u : Tree) (own : IsOwnLeaf t.grammar u) (trees : TreesFrom old new ((place, u) ∷ [])) where
  leaf_kept : IsKept t.grammar text base old place u
  leaf_kept = record {
    own = λ all. own.own;
    inner = λ states all st. sound_one t.grammar states text u place (λ state has. absurd (has_none u own.none (state, has)))
        (subst (λ (l : List Tree). AllSound t.grammar states text l place) (sym own.childless) (sound_none t.grammar states text place));
    none = λ states st. own.none;
  }

  pub keeps_leaf : KeepsTrees t.grammar text base old new
  keeps_leaf = keeps_from t text base old new sound keep ((place, u) ∷ []) trees
      (λ p there. subst (λ (x : ℕ × Tree). IsKept t.grammar text base old x.0 x.1) (first_of_one {X = ℕ × Tree} (place, u) p there) leaf_kept)
