-- A parse that follows one stack, or all of several, by turns: what holds at its start, after each turn, and at its end.
use Rattle.std.proofs.Common.{◌≡◌, sym, refl, subst, ℕ, ◌<◌, ◌≤◌, ◌⊎◌, List, [], ◌∷◌, Option, Some, None, length, arith}
use Rattle.ts_base.specs.Bytes.{Bytes}
use Rattle.spec_tables.specs.Fit.{Fit}
use Rattle.spec_trees.specs.declared.tree.Tree.{Tree}
use Rattle.spec_trees.specs.Trees.{children_of, state_of}
use Rattle.spec_trees.specs.Choice.{IsInForm}
use Rattle.spec_runs.specs.Outcomes.{Fresh, deep_outcome, tree_outcome, stuck_outcome}
use Rattle.spec_forced.specs.Sound.{States, IsSound}
use Rattle.spec_packing.specs.Packing.{WasMet}
use Rattle.spec_crossing.specs.Resting.{IsPastStuck, PackedRests}
use Rattle.ts_table.specs.declared.view.ParseTable.{ParseTable}
use Rattle.ts_gss.specs.declared.layer.Layer.{Layer}
use Rattle.ts_steps.specs.declared.head.StackHead.{StackHead}
use Rattle.ts_steps.specs.Good.{EachTree}
use Rattle.ts_steps.specs.LiveHeads.{config_of, packed_of}
use Rattle.ts_steps.specs.declared.reparsed.Fork.{Fork}
use Rattle.ts_steps.specs.declared.reparsed.Reparsed.{Reparsed}
use Rattle.ts_steps.specs.declared.reparsed.Reparsed.TheVariants.{Accepted, Stuck, Deep, Forks}
use Rattle.ts_steps.specs.Heads.{IsOwnWithin, IsOwnHead, StandOnHead}
use Rattle.ts_steps.specs.Reparsing.{OnFork, IsForkFrom, IsOwnResult, IsResult, ComesByLayers}
use Rattle.ts_crossing.specs.declared.leaving.Left.{Left}
use Rattle.ts_glr.specs.declared.outcome.Outcome.{Outcome}
use Rattle.ts_glr.specs.declared.crossing.Crossed.{Crossed}
use Rattle.ts_glr.specs.declared.crossing.Crossed.TheVariants.{One, Told}
use Rattle.ts_glr.specs.Laws.{PackingLaws}
use Rattle.ts_glr.specs.Turns.{turn_weight}
use Rattle.ts_glr.specs.Forks.{LeavesOne, EndsAll, ComesTo}
use Rattle.ts_glr.proofs.TurnLemmas.{turn_le}
use Rattle.ts_glr.proofs.RestLemmas.{rests_start, rests_on, rests_tree, rests_stuck}

-- ---- the start

pub own_start : (t : ParseTable) (size : ℕ) (stacks : List (List Layer)) → stacks ≡ [] ∷ [] → IsOwnHead t size stacks (record { top = 0; place = 0 })
own_start t size stacks is = subst (λ (s : List (List Layer)). IsOwnHead t size s (record { top = 0; place = 0 })) (sym is) (record {
  live = record {
    there = omega arith;
    stack = record { states = tt; depths = tt; good = tt; spans = refl; reach = tt; within = omega arith };
  };
  own = tt;
  made = tt;
})

pub start_rests : (packing : PackingLaws) (t : ParseTable) → Fit t.grammar → (text : Bytes) (stacks : List (List Layer)) (stuck : Option ℕ) → stacks ≡ [] ∷ [] → stuck ≡ None → PackedRests t.grammar text stuck (packed_of stacks (record { top = 0; place = 0 }))
start_rests packing t fit text stacks stuck is none =
    subst (λ (s : List (List Layer)). PackedRests t.grammar text stuck (packed_of s (record { top = 0; place = 0 }))) (sym is)
    (rests_start packing t.grammar fit text stuck (λ q e. absurd (let f : ◌≡◌ {A = Option ℕ} None (Some q) = subst (λ (o : Option ℕ). o ≡ Some q) none e in cc)))

pub start_stands : (t : ParseTable) (states : States) (text : Bytes) (stacks : List (List Layer)) → stacks ≡ [] ∷ [] → StandOnHead t states text stacks (record { top = 0; place = 0 })
start_stands t states text stacks is = subst (λ (s : List (List Layer)). StandOnHead t states text s (record { top = 0; place = 0 })) (sym is) tt

-- ---- one stack

module _ (packing : PackingLaws) (t : ParseTable) (fit : Fit t.grammar) (states : States) (text : Bytes) (old new : List (List Layer)) (h : StackHead) (stuck : Option ℕ) (r : Reparsed) (result : IsResult t states text old new h r)
    (layers : WasMet t.grammar text (packed_of old h) → ComesByLayers t text old new h r) (rests : PackedRests t.grammar text stuck (packed_of old h)) where
  comes : ComesByLayers t text old new h r
  comes = layers rests.met

  pub accepts_sound : (u : Tree) → r ≡ Accepted u → Fresh t.grammar text (tree_outcome u) × IsSound t.grammar states text u
  accepts_sound u is =
      let w = subst (λ (x : Reparsed). IsResult t states text old new h x) is result in
      (rests_tree packing t.grammar fit text stuck (packed_of old h) rests u (subst (λ (x : Reparsed). ComesByLayers t text old new h x) is comes), w.1)

  pub stuck_at : (place q : ℕ) → r ≡ Stuck place → place ≤ q → ((p : ℕ) → IsPastStuck stuck p → p ≤ q) → (q ≡ place) ⊎ (stuck ≡ Some q) → Fresh t.grammar text (stuck_outcome q)
  stuck_at place q is mine others from =
      rests_stuck packing t.grammar fit text stuck (packed_of old h) rests place q (subst (λ (x : Reparsed). ComesByLayers t text old new h x) is comes) mine others from

  pub too_deep : r ≡ Deep → Fresh t.grammar text deep_outcome
  too_deep is = subst (λ (x : Reparsed). ComesByLayers t text old new h x) is comes

  -- where several moves stay
  pub fork_rests : (k : Fork) → r ≡ Forks k → PackedRests t.grammar text stuck (packed_of new k.head) × StandOnHead t states text new k.head
  fork_rests k is =
      let w = subst (λ (x : Reparsed). IsResult t states text old new h x) is result in
      (rests_on packing t.grammar fit text stuck (packed_of old h) (packed_of new k.head) (subst (λ (x : Reparsed). ComesByLayers t text old new h x) is comes) rests, w.1)

pub own_root : (t : ParseTable) (r : Reparsed) (u : Tree) → r ≡ Accepted u → IsOwnResult t r → IsInForm t.grammar u × EachTree (IsOwnWithin t.grammar) (children_of u) × (state_of u ≡ None)
own_root t r u is own = subst (λ (x : Reparsed). IsOwnResult t x) is own

pub at_fork : (P : Fork → Type 0) (r : Reparsed) (k : Fork) → r ≡ Forks k → OnFork P r → P k
at_fork P r k is on = subst (λ (x : Reparsed). OnFork P x) is on

-- ---- several stacks

module _ (t : ParseTable) (text : Bytes) (first : List (List Layer)) (before : Option ℕ) (h : StackHead) (o : Crossed) (comes : ComesTo t text first before h o) where
  pub leaves_one : (l : Left) (stuck : Option ℕ) → o ≡ One l stuck → LeavesOne t text first before stuck h l
  leaves_one l stuck is = subst (λ (x : Crossed). ComesTo t text first before h x) is comes

  pub ends_all : (out : Outcome) → o ≡ Told out → EndsAll t text first before h out
  ends_all out is = subst (λ (x : Crossed). ComesTo t text first before h x) is comes

-- what is left weighs less than the stack from which the turn began
pub turn_falls : (t : ParseTable) (text : Bytes) (old mid new : List (List Layer)) (h k : StackHead) (f : Fork) → IsForkFrom t text old mid h f
    → turn_weight t.grammar (length text) (config_of new k) < turn_weight t.grammar (length text) (config_of mid f.head)
    → turn_weight t.grammar (length text) (config_of new k) < turn_weight t.grammar (length text) (config_of old h)
turn_falls t text old mid new h k f fork less = let le = turn_le t.grammar (length text) (config_of old h) (config_of mid f.head) fork.later fork.weight in omega (arith, le, less)
