-- What the only move of the only stack comes to, by the clauses of the moves.
use Rattle.std.proofs.Common.{◌≡◌, ◌∙◌, sym, ap, refl, subst, ℕ, suc, ◌+◌, ◌<◌, ◌≤◌, ⊎_elim, true, inl, List, [], ◌∷◌, length, drop, Option, Some, None, IfSome}
use Rattle.ts_base.specs.Bytes.{Bytes}
use Rattle.std.specs.List.{Contains}
use Rattle.ts_core.specs.declared.flat.FlatGrammar.{FlatGrammar}
use Rattle.ts_core.specs.declared.symbol.Symbol.{Symbol}
use Rattle.ts_core.specs.declared.action.Action.{Action}
use Rattle.ts_core.specs.declared.action.Action.TheVariants.{Shift, Reduce, Accept}
use Rattle.spec_grammar.specs.Symbols.{is_extra}
use Rattle.spec_tables.specs.Actions.{Act, shift, reduce, accept}
use Rattle.spec_tables.specs.Items.{IsToken}
use Rattle.spec_tables.specs.Fit.{Fit}
use Rattle.spec_lexing.specs.Lexing.{token}
use Rattle.spec_trees.specs.declared.tree.Tree.{Tree}
use Rattle.spec_trees.specs.Trees.{children_of, state_of, bare}
use Rattle.spec_trees.specs.Made.{as_extra, most_span}
use Rattle.spec_trees.specs.Choice.{IsInForm}
use Rattle.spec_runs.specs.Configurations.{Configuration, stack_symbols, token_tree, pushed, HasMove, NextIs, AreValidTokens, IsReduction}
use Rattle.spec_packing.specs.Packing.{packed_with}
use Rattle.spec_forced.specs.Forced.{IsOnlyMove, IsDecided}
use Rattle.spec_forced.specs.Sound.{States, IsSound}
use Rattle.ts_table.specs.declared.view.ParseTable.{ParseTable}
use Rattle.ts_table.specs.Tables.{IsTable, IsStateOf, ActsBy, actions_of}
use Rattle.ts_gss.specs.declared.layer.Layer.{Layer}
use Rattle.ts_gss.specs.Stacks.{stack_at, state_on, trees_on, IsOneStack}
use Rattle.ts_steps.specs.declared.head.StackHead.{StackHead}
use Rattle.ts_steps.specs.declared.found.FoundToken.{FoundToken}
use Rattle.ts_steps.specs.MoveLaws.{Laws}
use Rattle.ts_steps.specs.Good.{EachTree}
use Rattle.ts_steps.specs.LiveHeads.{config_of, packed_of, read_on, LiesAhead, IsReducedTo, IsRootOf}
use Rattle.ts_steps.proofs.StackLemmas.{state_top, filling_bare}
use Rattle.ts_steps.specs.declared.reparsed.Reparsed.TheVariants.{Accepted, Deep, Forks}
use Rattle.ts_steps.specs.declared.reparsed.Going.TheVariants.{On, Reduced, Ended}
use Rattle.ts_steps.specs.Heads.{AreStatesOf, IsOwnWithin, IsOwnHead, StandOnHead, IsMoveAhead, IsExtraAhead}
use Rattle.ts_steps.specs.Looking.{IsTokenAhead}
use Rattle.ts_steps.specs.Laws.{SoundLaws, OnlyLaws}
use Rattle.ts_steps.specs.Reparsing.{GoesTo, LeadsOn}
use Rattle.ts_steps.proofs.TableLemmas.{move_by, two_moves, one_acts, one_move, no_move, shift_of, extra_token, valid_tokens}
use Rattle.ts_steps.proofs.MoveLemmas.{can_move, shift_only, pass_only, reduce_only, shift_steps, pass_steps, reduce_steps, pushed_exact, reduced_exact, reduce_deep, only_accepts, accept_only}

-- the token lies ahead in the text
pub lies_ahead : (t : ParseTable) (size : ℕ) (text : Bytes) (old : List (List Layer)) (h : StackHead) (f : FoundToken) → length text ≡ size → 0 < f.token.0 → IsTokenAhead t text old h f → LiesAhead size h.place f
lies_ahead t size text old h f long some a = record {
  past = a.past;
  reach = subst (λ (n : ℕ). h.place + f.extent ≤ suc n) long a.reach;
  some = a.some some;
}

-- ---- the same token again

-- for proofs alone: behind a reduction the same token is seen again, if it is valid there
abbrev pub SameToken : Type 0
SameToken = (g : FlatGrammar) → Fit g → (text : Bytes) (c : Configuration) (s : Symbol) (pad size number : ℕ) (node : Tree) (after : List Tree) (valid : List Symbol)
    → NextIs g text c (token s pad size) → Act g (stack_symbols c.stack) s.0 (reduce number) → IsReduction g number c.stack node after → AreValidTokens g (stack_symbols after) valid → Contains valid s
    → NextIs g text (record { stack = after; place = c.place }) (token s pad size)

decided_again : (sound : SoundLaws) (again : SameToken) (g : FlatGrammar) → Fit g → (read left : List ℕ) (stack after : List Tree) (node : Tree) (number : ℕ) (rest : Bytes) (s : Symbol) (pad size e : ℕ)
    → read ≡ stack_symbols stack → left ≡ stack_symbols after → (valid : List Symbol) → AreValidTokens g left valid
    → IsDecided g read rest (token s pad size) e → Act g read s.0 (reduce number) → IsReduction g number stack node after → HasMove g left s.0 → IsDecided g left rest (token s pad size) e
decided_again sound again g fit read left stack after node number rest s pad size e is left_is valid are d act r move =
    let act_on : Act g (stack_symbols stack) s.0 (reduce number) = subst (λ (l : List ℕ). Act g l s.0 (reduce number)) is act in
    let are_left : AreValidTokens g (stack_symbols after) valid = subst (λ (l : List ℕ). AreValidTokens g l valid) left_is are in
    let among : Contains valid s = (are s).1 (inl move) in
    sound.lists g left rest s pad size e valid are (inl move) (λ other agree.
    let n = again g fit other (record { stack = stack; place = 0 }) s pad size number node after valid
    (d.0, subst (λ (l : List ℕ). AreValidTokens g l d.0) is d.1, d.2 other agree) act_on r are_left among in
    (n.0, subst (λ (l : List ℕ). AreValidTokens g l n.0) (sym left_is) n.1, n.2))

-- ---- the moves of a head

module _ (laws : Laws) (t : ParseTable) (size : ℕ) (old : List (List Layer)) (h : StackHead) (f : FoundToken) (table : IsTable t) (own : IsOwnHead t size old h) where
  state : IsStateOf t (read_on old h) (state_on (stack_at old h.top))
  state = state_top t (stack_at old h.top) own.live.stack.states

  abbrev pub Acts : List Action → Type 0
  Acts actions = actions_of t (state_on (stack_at old h.top)) f.token.0 ≡ actions

  pub acts_by : (a : Action) → Acts (a ∷ []) → ActsBy t (read_on old h) f.token.0 a
  acts_by a is = one_acts t (read_on old h) (state_on (stack_at old h.top)) f.token.0 a table state is

  only_by : (a : Action) → Acts (a ∷ []) → IsOnlyMove t.grammar (read_on old h) f.token.0 (move_by a)
  only_by a is = one_move laws t (read_on old h) (state_on (stack_at old h.top)) f.token.0 a table state is

  pub shift_token : (next : ℕ) → Acts (Shift next ∷ []) → IsToken t.grammar f.token.0
  shift_token next is = (laws.shifts t.grammar (read_on old h) f.token.0 (only_by (Shift next) is).stays).0

  pub shift_room : (next : ℕ) (text : Bytes) → size ≤ most_span → length text ≡ size → Acts (Shift next ∷ []) → IsTokenAhead t text old h f → (n : ℕ) × (n ≤ most_span) × LiesAhead n h.place f
  shift_room next text short long is a = (size, short, lies_ahead t size text old h f long (shift_token next is).0 a)

  pub pass_token : Acts [] → (text : Bytes) → IsTokenAhead t text old h f → (is_extra t.grammar f.token.0 ≡ true) × IsToken t.grammar f.token.0
  pass_token none text a =
      let e = ⊎_elim (λ m. absurd (no_move laws t (read_on old h) (state_on (stack_at old h.top)) f.token.0 table state none m)) (λ x. x) a.known in
      (e, extra_token t.grammar f.token table.fit e)

  pub pass_room : (text : Bytes) → size ≤ most_span → length text ≡ size → Acts [] → IsTokenAhead t text old h f → (n : ℕ) × (n ≤ most_span) × LiesAhead n h.place f
  pass_room text short long none a = (size, short, lies_ahead t size text old h f long (pass_token none text a).1.0 a)

  pub reduce_stays : (number : ℕ) → Acts (Reduce number ∷ []) → (on : ℕ) × Act t.grammar (read_on old h) on (reduce number)
  reduce_stays number is = (f.token.0, (only_by (Reduce number) is).stays)

  pub accept_stays : Acts (Accept ∷ []) → (on : ℕ) × Act t.grammar (read_on old h) on accept
  accept_stays is = (f.token.0, (only_by Accept is).stays)

  module _ (alone : OnlyLaws) (new : List (List Layer)) (k : StackHead) (text : Bytes) (long : length text ≡ size) (a : IsTokenAhead t text old h f) where
    mine : IsOwnHead t (length text) old h
    mine = subst (λ (n : ℕ). IsOwnHead t n old h) (sym long) own

    move_ahead : (b : Action) → Acts (b ∷ []) → IsMoveAhead t text old h (record { found = f; only = true }) (move_by b)
    move_ahead b is = record { decided = a.decided; only = λ yes'. only_by b is }

    pub goes_shift : (next : ℕ) → Acts (Shift next ∷ []) → config_of new k ≡ pushed (config_of old h) (token_tree f.token f.pad f.size) → packed_of new k ≡ packed_with (packed_of old h) (token_tree f.token f.pad f.size)
        → ((u : ParseTable) (n : ℕ) → IsOwnHead u n old h → LiesAhead n h.place f → IsToken u.grammar f.token.0 → IsStateOf u (f.token.0 ∷ read_on old h) next → IsOwnHead u n new k)
        → ((u : ParseTable) (states : States) (w : Bytes) → IsTable u → AreStatesOf u states → IsOwnHead u (length w) old h → IsMoveAhead u w old h (record { found = f; only = true }) shift → StandOnHead u states w old h → StandOnHead u states w new k)
        → (IsOneStack old h.top → IsOneStack new k.top) → GoesTo t text old new h (On k)
    goes_shift next is config layers live stand one = record {
      own = live t (length text) mine (lies_ahead t (length text) text old h f refl (shift_token next is).0 a) (shift_token next is) (shift_of t (read_on old h) f.token.0 next (acts_by (Shift next) is));
      step = shift_only laws alone t text old new h k f a (only_by (Shift next) is) config;
      layers = shift_steps laws alone t text old new h k f a (only_by (Shift next) is).stays layers;
      exact = pushed_exact laws alone t text old new h k f a (token_tree f.token f.pad f.size) layers;
      one = one;
      stand = λ states are s. stand t states text table are mine (move_ahead (Shift next) is) s;
    }

    pub goes_pass : Acts [] → config_of new k ≡ pushed (config_of old h) (as_extra (token_tree f.token f.pad f.size)) → packed_of new k ≡ packed_with (packed_of old h) (as_extra (token_tree f.token f.pad f.size))
        → ((u : ParseTable) (n : ℕ) → IsOwnHead u n old h → LiesAhead n h.place f → IsToken u.grammar f.token.0 → IsOwnHead u n new k)
        → ((u : ParseTable) (states : States) (w : Bytes) → IsTable u → AreStatesOf u states → IsOwnHead u (length w) old h → IsExtraAhead u w old h f → StandOnHead u states w old h → StandOnHead u states w new k)
        → (IsOneStack old h.top → IsOneStack new k.top) → GoesTo t text old new h (On k)
    goes_pass none config layers live stand one =
        let e = pass_token none text a in
        let idle : HasMove t.grammar (read_on old h) f.token.0 → ⊥ = no_move laws t (read_on old h) (state_on (stack_at old h.top)) f.token.0 table state none in record {
          own = live t (length text) mine (lies_ahead t (length text) text old h f refl e.1.0 a) e.1;
          step = pass_only laws alone t text old new h k f a e.0 idle config;
          layers = pass_steps laws alone t text old new h k f a e.0 idle layers;
          exact = pushed_exact laws alone t text old new h k f a (as_extra (token_tree f.token f.pad f.size)) layers;
          one = one;
          stand = λ states are s. stand t states text table are mine (record { decided = a.decided; extra = e.0; idle = idle }) s;
        }

    pub goes_reduce : (number : ℕ) → Acts (Reduce number ∷ []) → IsReducedTo t size number old new h (Some k) → IsOwnHead t size new k
        → ((states : States) (w : Bytes) → length w ≡ size → AreStatesOf t states → IsMoveAhead t w old h (record { found = f; only = true }) (reduce number) → StandOnHead t states w old h → StandOnHead t states w new k)
        → (IsOneStack old h.top → IsOneStack new k.top) → LeadsOn t text old new h k
    goes_reduce number is done live stand one = record {
      own = subst (λ (n : ℕ). IsOwnHead t n new k) (sym long) live;
      step = reduce_only laws alone t text old new h k f a size number (only_by (Reduce number) is) done;
      layers = reduce_steps laws alone t text old new h k f a size number (only_by (Reduce number) is) done;
      exact = reduced_exact laws alone t text old new h k f a size number done;
      one = one;
      stand = λ states are s. stand states text long are (move_ahead (Reduce number) is) s;
    }

    -- the same token is seen again, if some move stays on it
    pub token_again : (sound : SoundLaws) (again : SameToken) (number : ℕ) → Acts (Reduce number ∷ []) → IsReducedTo t size number old new h (Some k) → IsOwnHead t size new k
        → HasMove t.grammar (read_on new k) f.token.0 → IsTokenAhead t text new k f
    token_again sound again number is done live move =
        let trees = trees_on (stack_at new k.top) in
        let st : IsStateOf t (read_on new k) (state_on (stack_at new k.top)) = state_top t (stack_at new k.top) live.live.stack.states in
        let v = sound.tokens t (state_on (stack_at new k.top)) in
        let valid : AreValidTokens t.grammar (read_on new k) v.0 = valid_tokens laws t (read_on new k) (state_on (stack_at new k.top)) v.0 table st v.1 in
        let left : (config_of new k).stack ≡ done.after = ap (λ (c : Configuration). c.stack) done.done.2 in
        let here : k.place ≡ h.place = ap (λ (c : Configuration). c.place) done.done.2 in
        let reads : read_on new k ≡ stack_symbols done.after = sym (filling_bare laws trees) ∙ ap stack_symbols left in
        let again_decided = decided_again sound again t.grammar table.fit (read_on old h) (read_on new k) (config_of old h).stack done.after done.node number (drop h.place text) f.token f.pad f.size f.extent
        (sym (filling_bare laws (trees_on (stack_at old h.top)))) reads v.0 valid a.decided (only_by (Reduce number) is).stays done.reduction move in
        record {
          decided = subst (λ (p : ℕ). IsDecided t.grammar (read_on new k) (drop p text) (token f.token f.pad f.size) f.extent) (sym here) again_decided;
          known = inl move;
          past = a.past;
          reach = subst (λ (p : ℕ). p + f.extent ≤ suc (length text)) (sym here) a.reach;
          some = a.some;
        }

    pub goes_reduced : (sound : SoundLaws) (again : SameToken) (o : Option StackHead) (number : ℕ) → o ≡ Some k → Acts (Reduce number ∷ []) → IsReducedTo t size number old new h o → IfSome o (IsOwnHead t size new)
        → IfSome o (λ q. (states : States) (w : Bytes) → length w ≡ size → AreStatesOf t states → IsMoveAhead t w old h (record { found = f; only = true }) (reduce number) → StandOnHead t states w old h → StandOnHead t states w new q)
        → IfSome o (λ q. IsOneStack old h.top → IsOneStack new q.top) → GoesTo t text old new h (Reduced k f)
    goes_reduced sound again o number some is done live stand one =
        let d : IsReducedTo t size number old new h (Some k) = subst (λ (x : Option StackHead). IsReducedTo t size number old new h x) some done in
        let own : IsOwnHead t size new k = subst (λ (x : Option StackHead). IfSome x (IsOwnHead t size new)) some live in (
          goes_reduce number is d own
              (subst (λ (x : Option StackHead). IfSome x (λ q. (states : States) (w : Bytes) → length w ≡ size → AreStatesOf t states → IsMoveAhead t w old h (record { found = f; only = true }) (reduce number) → StandOnHead t states w old h → StandOnHead t states w new q)) some stand)
              (subst (λ (x : Option StackHead). IfSome x (λ q. IsOneStack old h.top → IsOneStack new q.top)) some one),
          token_again sound again number is d own,
        )

    pub goes_deep : (number : ℕ) → Acts (Reduce number ∷ []) → IsReducedTo t size number old new h None → GoesTo t text old new h (Ended Deep)
    goes_deep number is done = reduce_deep laws alone t text old new h k f a size number (only_by (Reduce number) is) done

    pub goes_too_deep : (o : Option StackHead) (number : ℕ) → o ≡ None → Acts (Reduce number ∷ []) → IsReducedTo t size number old new h o → GoesTo t text old new h (Ended Deep)
    goes_too_deep o number none is done = goes_deep number is (subst (λ (x : Option StackHead). IsReducedTo t size number old new h x) none done)

    -- several moves stay
    pub goes_fork : new ≡ old → 1 < length (actions_of t (state_on (stack_at old h.top)) f.token.0) → GoesTo t text old new h (Ended (Forks (record { head = h; found = f })))
    goes_fork kept many =
        let two = two_moves t (read_on old h) (state_on (stack_at old h.top)) f.token.0 table state many in (
          refl,
          kept,
          record {
            first = two.0;
            second = two.1;
            here = can_move laws alone t text old new h k f a two.0 two.2;
            there = can_move laws alone t text old new h k f a two.1 two.3;
            differ = two.4;
          },
          a,
        )

    pub goes_accept : (u : Tree) → Acts (Accept ∷ []) → IsRootOf (config_of old h).stack (bare u) → IsInForm t.grammar u → EachTree (IsOwnWithin t.grammar) (children_of u) → state_of u ≡ None
        → ((states : States) (w : Bytes) → length w ≡ size → AreStatesOf t states → StandOnHead t states w old h → IsSound t.grammar states w u)
        → GoesTo t text old new h (Ended (Accepted u))
    goes_accept u is root form each none sound = (accept_only laws alone t text old new h k f a u (only_by Accept is) root, form, each, none, (λ states are s. sound states text long are s), only_accepts laws alone t text old new h k f a (only_by Accept is))
