-- Following a head that sees a token.
use Rattle.std.proofs.Common.{◌≡◌, ◌∙◌, sym, refl, subst, ℕ, ◌<◌, ◌≤◌, Bool, true, false, ◌↔◌, List, [], ◌∷◌, ◌++◌, length, drop, Option, arith}
use Rattle.std.specs.Bool.{◌==◌}
use Rattle.std.specs.List.{Contains}
use Rattle.std.proofs.lemmas.Bool.{eqb-true}
use Rattle.ts_base.specs.Bytes.{Bytes}
use Rattle.ts_core.specs.declared.action.Action.{Action}
use Rattle.spec_grammar.specs.Symbols.{is_extra}
use Rattle.spec_lexing.specs.Lexing.{token}
use Rattle.spec_tables.specs.Items.{IsToken}
use Rattle.spec_trees.specs.declared.tree.Tree.{Tree}
use Rattle.spec_trees.specs.Made.{as_extra, most_span}
use Rattle.spec_runs.specs.Configurations.{stack_symbols, pushed, token_tree, HasMove, NextIs}
use Rattle.spec_packing.specs.Packing.{packed_with, PackedIsTooDeep}
use Rattle.spec_forced.specs.Forced.{IsDecided}
use Rattle.spec_forced.specs.Sound.{States}
use Rattle.ts_table.specs.declared.view.ParseTable.{ParseTable}
use Rattle.ts_table.specs.Tables.{IsTable, IsStateOf, ActsBy, most_actions}
use Rattle.ts_gss.specs.declared.layer.Layer.{Layer}
use Rattle.ts_gss.specs.Stacks.{stack_at, state_on, trees_on}
use Rattle.ts_steps.specs.declared.found.FoundToken.{FoundToken}
use Rattle.ts_steps.specs.declared.head.StackHead.{StackHead}
use Rattle.ts_steps.specs.MoveLaws.{Laws}
use Rattle.ts_steps.specs.LiveHeads.{config_of, packed_of, read_on, IsLiveHead, LiesAhead}
use Rattle.ts_steps.specs.Heads.{AreStatesOf, IsOwnHead, StandOnHead, IsExtraAhead}
use Rattle.ts_steps.specs.Looking.{IsTokenAhead}
use Rattle.ts_glr.specs.Steps.{SeesToken, IsTooDeep}
use Rattle.ts_glr.specs.Search.{Acting, Spent}
use Rattle.ts_glr.proofs.StackLemmas.{state_there, read_config, own_is}
use Rattle.ts_glr.proofs.ActLemmas.{lies_ahead}
use Rattle.ts_glr.proofs.SpentLemmas.{passes_extra, spent_pass, spent_acts, comes_too_deep}
use Rattle.ts_glr.proofs.TableLemmas.{has_action, extra_token}

pub none_there : (xs : List Action) (b : Bool) → b ≡ true → b ≡ (length xs == 0) → length xs ≡ 0
none_there xs b e w = eqb-true (length xs) 0 (sym w ∙ e)

pub some_there : (xs : List Action) (b : Bool) → b ≡ false → b ≡ (length xs == 0) → 0 < length xs
some_there [] b e w = absurd (let h : b ≡ true = w in let k : b ≡ false = e in cc)
some_there (x ∷ xs) b e w = omega arith

-- the state on top of a head is that of its symbols
pub head_state : (t : ParseTable) (size : ℕ) (stacks : List (List Layer)) (h : StackHead) (state : ℕ) → state ≡ state_on (stack_at stacks h.top) → IsLiveHead t size stacks h → IsStateOf t (read_on stacks h) state
head_state t size stacks h state is live = subst (λ (n : ℕ). IsStateOf t (read_on stacks h) n) (sym is) (state_there t (stack_at stacks h.top) live.stack.states)

-- what is seen from a stack is seen from its configuration
sees_token : (laws : Laws) (t : ParseTable) (text : Bytes) (stacks : List (List Layer)) (h : StackHead) (f : FoundToken) → IsTokenAhead t text stacks h f → SeesToken t.grammar text (config_of stacks h) f
sees_token laws t text stacks h f a = record {
  next = subst (λ (read : List ℕ). IsDecided t.grammar read (drop h.place text) (token f.token f.pad f.size) f.extent → NextIs t.grammar text (config_of stacks h) (token f.token f.pad f.size)) (read_config laws stacks h)
      (λ k. (k.0, k.1, k.2 (drop h.place text) (λ n lt. refl))) a.decided;
}

module _ (laws : Laws) (t : ParseTable) (table : IsTable t) (size : ℕ) (stacks : List (List Layer)) (h : StackHead) (f : FoundToken) (state : ℕ) (st : IsStateOf t (read_on stacks h) state) (actions : List Action) (exact : (a : Action) → Contains actions a ↔ ActsBy t (read_on stacks h) f.token.0 a) where
  state_config : IsStateOf t (stack_symbols (config_of stacks h).stack) state
  state_config = subst (λ (read : List ℕ). IsStateOf t read state) (sym (read_config laws stacks h)) st

  exact_config : (a : Action) → Contains actions a ↔ ActsBy t (stack_symbols (config_of stacks h).stack) f.token.0 a
  exact_config = subst (λ (read : List ℕ). (a : Action) → Contains actions a ↔ ActsBy t read f.token.0 a) (sym (read_config laws stacks h)) exact

  module _ (text : Bytes) (ahead : IsTokenAhead t text stacks h f) where
    sees : SeesToken t.grammar text (config_of stacks h) f
    sees = sees_token laws t text stacks h f ahead

    module _ (none : length actions ≡ 0) where
      follow_extra : is_extra t.grammar f.token.0 ≡ true
      follow_extra = passes_extra laws t text (config_of stacks h) (packed_of stacks h) (own_is stacks h) f sees state table state_config actions exact_config none

      follow_token : IsToken t.grammar f.token.0
      follow_token = extra_token t.grammar f.token table.fit follow_extra

      pub follow_room : length text ≡ size → size ≤ most_span → (n : ℕ) × (n ≤ most_span) × LiesAhead n h.place f
      follow_room long short = (size, short, lies_ahead t size text stacks h f long follow_token.0 ahead)

      passes_idle : HasMove t.grammar (read_on stacks h) f.token.0 → ⊥
      passes_idle m =
          let a = has_action laws t (read_on stacks h) state f.token.0 m.0 table st m.1 in
          let w = (exact a.0).1 a.1 in
          let lt : w.0 < length actions = w.1 in
          omega arith

      pub follow_passes : length text ≡ size → (new : List (List Layer)) (k : StackHead) (old live : List StackHead) (best : Option Tree) (stuck : Option ℕ) → live ≡ old ++ k ∷ [] → IsOwnHead t size stacks h
          → config_of new k ≡ pushed (config_of stacks h) (as_extra (token_tree f.token f.pad f.size)) → packed_of new k ≡ packed_with (packed_of stacks h) (as_extra (token_tree f.token f.pad f.size))
          → ((u : ParseTable) (n : ℕ) → IsOwnHead u n stacks h → LiesAhead n h.place f → IsToken u.grammar f.token.0 → IsOwnHead u n new k)
          → ((u : ParseTable) (states : States) (w : Bytes) → IsTable u → AreStatesOf u states → IsOwnHead u (length w) stacks h → IsExtraAhead u w stacks h f → StandOnHead u states w stacks h → StandOnHead u states w new k)
          → Spent t text (trees_on (stack_at stacks h.top)) new (most_actions t) (config_of stacks h) (packed_of stacks h) old live best best stuck stuck
      follow_passes long new k old live best stuck live_is own config layers passes stands =
          let mine : IsOwnHead t (length text) stacks h = subst (λ (n : ℕ). IsOwnHead t n stacks h) (sym long) own in
          spent_pass laws t text (config_of stacks h) (packed_of stacks h) (own_is stacks h) f sees state table state_config actions exact_config none (trees_on (stack_at stacks h.top)) new (most_actions t) k old live best stuck live_is
          (passes t (length text) mine (lies_ahead t (length text) text stacks h f refl follow_token.0 ahead) follow_token)
          (λ states are s. stands t states text table are mine (record { decided = ahead.decided; extra = follow_extra; idle = passes_idle }) s)
          config layers

    pub follow_acts : (new : List (List Layer)) (old live : List StackHead) (first best : Option Tree) (stuck : Option ℕ) → 0 < length actions → length actions ≤ most_actions t
        → Acting t text (trees_on (stack_at stacks h.top)) new (config_of stacks h) (packed_of stacks h) f actions old live first best → Spent t text (trees_on (stack_at stacks h.top)) new (most_actions t) (config_of stacks h) (packed_of stacks h) old live first best stuck stuck
    follow_acts new old live first best stuck some few acting =
        spent_acts laws t text (config_of stacks h) (packed_of stacks h) (own_is stacks h) f sees state table state_config actions exact_config some (trees_on (stack_at stacks h.top)) new old live first best acting (most_actions t) stuck few

    pub follow_deep : (a : Action) → Contains actions a → IsTooDeep t.grammar (packed_of stacks h) a → PackedIsTooDeep t.grammar text (packed_of stacks h)
    follow_deep a w deep = comes_too_deep laws t.grammar text (config_of stacks h) f sees (packed_of stacks h) (own_is stacks h) t a refl ((exact_config a).0 w) deep
