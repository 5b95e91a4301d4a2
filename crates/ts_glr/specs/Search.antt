-- What is known while all live stacks are followed. It serves private clauses and proofs alone.
use Rattle.std.specs.Prelude.{◌≡◌, ℕ, ◌<◌, ◌≤◌, suc, List, [], ◌∷◌, ◌++◌, length, Option, Some, None, ◌⊎◌, Bool, true, false}
use Rattle.ts_base.specs.Bytes.{Bytes}
use Rattle.ts_core.specs.declared.action.Action.{Action}
use Rattle.ts_core.specs.declared.action.Action.TheVariants.{Accept}
use Rattle.ts_core.specs.declared.flat.FlatGrammar.{FlatGrammar}
use Rattle.spec_trees.specs.declared.tree.Tree.{Tree}
use Rattle.spec_trees.specs.Trees.{children_of, state_of, bare}
use Rattle.spec_runs.specs.Configurations.{Configuration}
use Rattle.spec_runs.specs.Runs.{StepsOn, IsReached, AcceptsTree, StopsAt}
use Rattle.spec_runs.specs.Outcomes.{SomeAccepts, SomeStopsAt}
use Rattle.spec_forced.specs.Sound.{States, IsSound}
use Rattle.spec_packing.specs.Packing.{PackedStack, WasMet, GoesThrough, PackedStepsOn, PackedIsTooDeep}
use Rattle.spec_crossing.specs.Resting.{Withstands, IsPastStuck, AccountsFor}
use Rattle.ts_table.specs.declared.view.ParseTable.{ParseTable}
use Rattle.ts_gss.specs.declared.layer.Layer.{Layer}
use Rattle.ts_gss.specs.Stacks.{stack_at}
use Rattle.ts_steps.specs.declared.found.FoundToken.{FoundToken}
use Rattle.ts_steps.specs.declared.head.StackHead.{StackHead}
use Rattle.ts_steps.specs.Good.{EachTree}
use Rattle.ts_steps.specs.LiveHeads.{config_of, packed_of, IsLiveHead, IsRootOf}
use Rattle.ts_steps.specs.Heads.{AreStatesOf, IsOwnWithin, IsOwnHead, StandOnHead}
use Rattle.ts_glr.specs.declared.acting.Moved.{Moved}
use Rattle.ts_glr.specs.declared.acting.Moved.TheVariants.{To, Ended, TooDeep}
use Rattle.ts_glr.specs.Lists.{OfEach, Any}
use Rattle.ts_glr.specs.Steps.{HasForm, ActionLeads, LayersLead, IsTooDeep, StandAfter, IsSoundRoot}

-- the heads that an action came to
abbrev pub heads_of : Moved → List StackHead
heads_of (To h) = h ∷ []
heads_of Ended = []
heads_of TooDeep = []

-- whether an action came to a node that is too deep
abbrev pub is_deep : Moved → Bool
is_deep (To h) = false
is_deep Ended = false
is_deep TooDeep = true

-- the stack of the head is still there
abbrev pub StackStays : List (List Layer) → List (List Layer) → StackHead → Type 0
StackStays old new h =
    h.top < length old → (h.top < length new) × (stack_at new h.top ≡ stack_at old h.top)

-- the stacks of these heads are still there
abbrev pub StacksStay : List (List Layer) → List (List Layer) → List StackHead → Type 0
StacksStay old new heads = OfEach (StackStays old new) heads

-- The heads were added to which some actions lead; the trees that they accept are accounted for.
-- The nodes of both stand, if these trees do. So it is from a configuration, and from its layers.
pub record Acting (t : ParseTable) (text : Bytes) (trees : List Tree) (stacks : List (List Layer))
    (c : Configuration) (k : PackedStack) (f : FoundToken) (done : List Action)
    (old live : List StackHead) (first best : Option Tree) : Type 0 where
  pub more : List StackHead
  pub live_is : live ≡ old ++ more
  pub few : length more ≤ length done
  pub sound : OfEach (λ h. IsOwnHead t (length text) stacks h × StandAfter t text trees stacks h
      × Any (λ a. ActionLeads t.grammar c f a (config_of stacks h)
      × LayersLead t.grammar k f a (packed_of stacks h)) done) more
  pub complete : OfEach (λ a. (n : PackedStack) → LayersLead t.grammar k f a n
      → Any (λ h. packed_of stacks h ≡ n) more) done
  pub accepted : OfEach (λ a. a ≡ Accept → (u : Tree) → IsRootOf c.stack u → Withstands best u) done
  pub shallow : OfEach (λ a. IsTooDeep t.grammar k a → ⊥) done
  pub fruitful : OfEach (λ a. (0 < length more) ⊎ ((b : Tree) × (best ≡ Some b))) done
  pub others : (u : Tree) → Withstands first u → Withstands best u
  pub from : (b : Tree) → best ≡ Some b
      → (first ≡ Some b) ⊎ (Any (λ a. a ≡ Accept) done × IsRootOf c.stack (bare b))
  pub root : (b : Tree) → best ≡ Some b → (first ≡ Some b) ⊎ IsSoundRoot t text trees b

-- what is known of trees and places is kept, and what is new is an end of a run at the
-- configuration
pub record Keeps (g : FlatGrammar) (text : Bytes) (c : Configuration) (old best : Option Tree)
    (before stuck : Option ℕ) : Type 0 where
  pub others : (u : Tree) → Withstands old u → Withstands best u
  pub from : (b : Tree) → best ≡ Some b → (old ≡ Some b) ⊎ AcceptsTree g text c (bare b)
  pub past : (q : ℕ) → IsPastStuck before q → IsPastStuck stuck q
  pub stuck_from : (q : ℕ) → stuck ≡ Some q → (before ≡ Some q) ⊎ StopsAt g text c q

-- there is a head, a tree or a place
abbrev pub HasSome : List StackHead → Option Tree → Option ℕ → Type 0
HasSome live best stuck =
    (0 < length live) ⊎ (((b : Tree) × (best ≡ Some b)) ⊎ ((q : ℕ) × (stuck ≡ Some q)))

-- all ends are accounted for at a configuration with these layers
pub record AccountsForLayers (g : FlatGrammar) (text : Bytes) (best : Option Tree)
    (stuck : Option ℕ) (c : Configuration) (k : PackedStack) : Type 0 where
  pub accepted : (u : Tree) → AcceptsTree g text c u → Withstands best u
  pub places : (q : ℕ) → StopsAt g text c q → IsPastStuck stuck q
  pub shallow : PackedIsTooDeep g text k → ⊥

-- A head was followed by one step in all ways. The nodes of the new heads and trees stand, if these
-- trees do. So it is from a configuration, and from its layers.
pub record Spent (t : ParseTable) (text : Bytes) (trees : List Tree) (stacks : List (List Layer))
    (most : ℕ) (c : Configuration) (k : PackedStack) (old live : List StackHead)
    (first best : Option Tree) (before stuck : Option ℕ) : Type 0 where
  pub more : List StackHead
  pub live_is : live ≡ old ++ more
  pub few : length more ≤ suc most
  pub sound : OfEach (λ h. IsOwnHead t (length text) stacks h × StandAfter t text trees stacks h
      × StepsOn t.grammar text c (config_of stacks h)
      × PackedStepsOn t.grammar text k (packed_of stacks h)) more
  pub complete : (n : PackedStack) → PackedStepsOn t.grammar text k n
      → Any (λ h. packed_of stacks h ≡ n) more
  pub covers : AccountsForLayers t.grammar text best stuck c k
  pub keeps : Keeps t.grammar text c first best before stuck
  pub root : (b : Tree) → best ≡ Some b → (first ≡ Some b) ⊎ IsSoundRoot t text trees b
  pub fruitful : HasSome more best stuck

-- All runs are accounted for: the layers of the live heads were met, and the ends at a
-- configuration that is reached are known, or a run to it goes through what the layers of some live
-- head stand for.
pub record Searching (t : ParseTable) (text : Bytes) (stacks : List (List Layer))
    (live : List StackHead) (best : Option Tree) (stuck : Option ℕ) : Type 0 where
  pub heads : OfEach (λ h. IsLiveHead t (length text) stacks h
      × WasMet t.grammar text (packed_of stacks h)) live
  pub done : (c : Configuration) → IsReached t.grammar text c
      → AccountsFor t.grammar text best stuck c
      ⊎ Any (λ h. GoesThrough t.grammar text (packed_of stacks h) c) live
  pub tree_from : (b : Tree) → best ≡ Some b → SomeAccepts t.grammar text (bare b)
  pub stuck_from : (q : ℕ) → stuck ≡ Some q → SomeStopsAt t.grammar text q
  pub some : HasSome live best stuck

-- ---- what is kept of the stacks

-- A parser of the grammar made the trees on the live stacks, and the best tree; and there is a head,
-- a tree or a place.
pub record Owns (t : ParseTable) (size : ℕ) (stacks : List (List Layer)) (live : List StackHead)
    (best : Option Tree) (stuck : Option ℕ) : Type 0 where
  pub heads : OfEach (λ h. IsOwnHead t size stacks h) live
  pub tree : (b : Tree) → best ≡ Some b
      → EachTree (IsOwnWithin t.grammar) (children_of b) × (state_of b ≡ None)
  pub some : HasSome live best stuck

-- the trees on the live stacks stand, and the best tree is sound
pub record AllStand (t : ParseTable) (states : States) (text : Bytes) (stacks : List (List Layer))
    (live : List StackHead) (best : Option Tree) : Type 0 where
  pub heads : OfEach (λ h. StandOnHead t states text stacks h) live
  pub tree : (b : Tree) → best ≡ Some b → IsSound t.grammar states text b

-- what is known under way
pub record Following (t : ParseTable) (text : Bytes) (stacks : List (List Layer))
    (stuck : Option ℕ) (live : List StackHead) (best : Option Tree) : Type 0 where
  pub form : HasForm t.grammar best
  pub owns : Owns t (length text) stacks live best stuck
  pub search : Searching t text stacks live best stuck
  pub stand : (states : States) → AreStatesOf t states → AllStand t states text stacks live best
