-- All heads come to less after one was followed.
use Rattle.std.proofs.Common.{◌≡◌, ◌∙◌, ap, refl, ℕ, ◌+◌, ◌^◌, ◌<◌, ◌≤◌, suc, List, [], ◌∷◌, ◌++◌, length, map, arith}
use Rattle.std.proofs.lemmas.List.{map-append}
use Rattle.ts_base.specs.Bytes.{Bytes}
use Rattle.ts_core.specs.declared.flat.FlatGrammar.{FlatGrammar}
use Rattle.spec_tables.specs.Fit.{Fit}
use Rattle.spec_trees.specs.declared.tree.Tree.{Tree}
use Rattle.spec_runs.specs.Configurations.{Configuration}
use Rattle.spec_runs.specs.Runs.{StepsOn}
use Rattle.spec_packing.specs.Packing.{PackedStepsOn}
use Rattle.ts_table.specs.declared.view.ParseTable.{ParseTable}
use Rattle.ts_table.specs.Tables.{most_actions}
use Rattle.ts_gss.specs.declared.layer.Layer.{Layer}
use Rattle.ts_steps.specs.declared.head.StackHead.{StackHead}
use Rattle.ts_steps.specs.LiveHeads.{config_of, packed_of, IsLiveHead}
use Rattle.ts_steps.specs.Heads.{IsOwnHead}
use Rattle.ts_steps.specs.Weights.{config_weight}
use Rattle.ts_glr.specs.Lists.{OfEach}
use Rattle.ts_glr.specs.Steps.{StandAfter}
use Rattle.ts_glr.specs.Search.{StacksStay}
use Rattle.ts_glr.specs.Weights.{head_weight, powers, live_weight}
use Rattle.ts_glr.proofs.StackLemmas.{config_kept}
use Rattle.ts_glr.proofs.WeightLemmas.{powers_append, powers_fall}

-- for proofs alone: each step makes a configuration lighter
abbrev pub StepsFall : Type 0
StepsFall = (g : FlatGrammar) → Fit g → (text : Bytes) (c e : Configuration) → c.place ≤ length text → StepsOn g text c e → config_weight g (length text) e < config_weight g (length text) c

-- stacks that stay weigh as much
same_weights : (t : ParseTable) (size : ℕ) (old new : List (List Layer)) (hs : List StackHead) → StacksStay old new hs → OfEach (λ k. IsLiveHead t size old k) hs → map (head_weight t.grammar size new) hs ≡ map (head_weight t.grammar size old) hs
same_weights t size old new [] stay all = refl
same_weights t size old new (k ∷ hs) stay all =
    ap (λ (n : ℕ). n ∷ map (head_weight t.grammar size new) hs) (ap (λ (c : Configuration). config_weight t.grammar size c) (config_kept t size old new k stay.0 all.0))
    ∙ ap (λ (l : List ℕ). head_weight t.grammar size old k ∷ l) (same_weights t size old new hs stay.1 all.1)

-- ---- all heads

module _ (falls : StepsFall) (t : ParseTable) (fit : Fit t.grammar) (text : Bytes) (trees : List Tree) (old new : List (List Layer)) where
  lighter : (h k : StackHead) → IsLiveHead t (length text) old h → StepsOn t.grammar text (config_of old h) (config_of new k) → head_weight t.grammar (length text) new k < head_weight t.grammar (length text) old h
  lighter h k live step = falls t.grammar fit text (config_of old h) (config_of new k) live.stack.within step

  each_lighter : (h : StackHead) (hs : List StackHead) → IsLiveHead t (length text) old h → OfEach (λ k. IsOwnHead t (length text) new k × StandAfter t text trees new k × StepsOn t.grammar text (config_of old h) (config_of new k) × PackedStepsOn t.grammar text (packed_of old h) (packed_of new k)) hs
      → OfEach (λ (v : ℕ). v < head_weight t.grammar (length text) old h) (map (head_weight t.grammar (length text) new) hs)
  each_lighter h [] live all = tt
  each_lighter h (k ∷ hs) live all = (lighter h k live all.0.2, each_lighter h hs live all.1)

  same_length : (w : StackHead → ℕ) (hs : List StackHead) → length (map w hs) ≡ length hs
  same_length w [] = refl
  same_length w (h ∷ hs) = ap suc (same_length w hs)

  -- the live stacks come to less after the last one was followed
  pub live_falls : (h : StackHead) (rest more live live' : List StackHead) → StacksStay old new rest → live ≡ rest ++ h ∷ [] → live' ≡ rest ++ more → length more ≤ suc (most_actions t) → IsLiveHead t (length text) old h
      → OfEach (λ k. IsLiveHead t (length text) old k) rest
      → OfEach (λ k. IsOwnHead t (length text) new k × StandAfter t text trees new k × StepsOn t.grammar text (config_of old h) (config_of new k) × PackedStepsOn t.grammar text (packed_of old h) (packed_of new k)) more
      → live_weight t (length text) new live' < live_weight t (length text) old live
  live_falls h rest more live live' stay live_is live_is' le is others all =
      let w : StackHead → ℕ = head_weight t.grammar (length text) old in
      let v : StackHead → ℕ = head_weight t.grammar (length text) new in
      let base : ℕ = most_actions t + 2 in
      let before : powers base (map w live) ≡ powers base (map w rest) + powers base (w h ∷ []) =
      ap (λ (l : List StackHead). powers base (map w l)) live_is ∙ ap (powers base) (map-append w rest (h ∷ [])) ∙ powers_append base (map w rest) (w h ∷ []) in
      let now : powers base (map v live') ≡ powers base (map w rest) + powers base (map v more) =
      ap (λ (l : List StackHead). powers base (map v l)) live_is' ∙ ap (powers base) (map-append v rest more ∙ ap (λ (l : List ℕ). l ++ map v more) (same_weights t (length text) old new rest stay others)) ∙ powers_append base (map w rest) (map v more) in
      let many : length (map v more) < base = let e = same_length v more in omega arith in
      let fall : powers base (map v more) < base ^ w h = powers_fall base (w h) (map v more) many (each_lighter h more is all) in
      omega arith
