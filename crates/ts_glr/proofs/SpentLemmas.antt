-- What following a live stack by one step comes to.
use Rattle.std.proofs.Common.{◌≡◌, ◌∙◌, sym, ap, refl, subst, ℕ, ◌+◌, ◌<◌, ◌≤◌, List, [], ◌∷◌, ◌++◌, length, get_or, Option, Some, ◌⊎◌, inl, inr, ⊎_elim, ◌↔◌, true, arith}
use Rattle.std.specs.List.{Contains}
use Rattle.std.proofs.lemmas.List.{append-nil}
use Rattle.std.proofs.lemmas.List.Elements.{Contains-get_or}
use Rattle.ts_base.specs.Bytes.{Bytes}
use Rattle.ts_core.specs.declared.action.Action.{Action}
use Rattle.ts_core.specs.declared.action.Action.TheVariants.{Shift, Reduce, Accept}
use Rattle.ts_core.specs.declared.flat.FlatGrammar.{FlatGrammar}
use Rattle.ts_core.specs.declared.symbol.Symbol.{Symbol}
use Rattle.spec_grammar.specs.Symbols.{is_extra}
use Rattle.spec_lexing.specs.Lexing.{Found, token, absent}
use Rattle.spec_tables.specs.Actions.{Move, shift, reduce, accept, Act}
use Rattle.spec_trees.specs.declared.tree.Tree.{Tree}
use Rattle.spec_trees.specs.Trees.{bare}
use Rattle.spec_trees.specs.Made.{as_extra}
use Rattle.spec_runs.specs.Configurations.{Configuration, stack_symbols, pushed, token_tree, HasMove, NextIs}
use Rattle.spec_runs.specs.Runs.{StepsOn, shift_token, pass_extra, reduce_trees, CanMove, StopsAt}
use Rattle.spec_packing.specs.Packing.{PackedStack, packed_trees, own_config, packed_with, PackedStepsOn, shift_packed, pass_packed, reduce_packed, PackedIsTooDeep}
use Rattle.spec_crossing.specs.Resting.{Withstands, IsPastStuck}
use Rattle.ts_table.specs.declared.view.ParseTable.{ParseTable}
use Rattle.ts_table.specs.Tables.{IsTable, IsStateOf, ActsBy, reduces, accepts}
use Rattle.ts_gss.specs.declared.layer.Layer.{Layer}
use Rattle.ts_steps.specs.declared.found.FoundToken.{FoundToken}
use Rattle.ts_steps.specs.declared.head.StackHead.{StackHead}
use Rattle.ts_steps.specs.MoveLaws.{Laws}
use Rattle.ts_steps.specs.LiveHeads.{config_of, packed_of, IsRootOf}
use Rattle.ts_steps.specs.Heads.{IsOwnHead}
use Rattle.ts_glr.specs.Lists.{Any}
use Rattle.ts_glr.specs.Steps.{SeesToken, ActionLeads, LayersLead, IsTooDeep, StandAfter}
use Rattle.ts_glr.specs.Search.{Acting, Spent}
use Rattle.ts_glr.proofs.ListLemmas.{each_map, each_at, any_to}
use Rattle.ts_glr.proofs.LexLemmas.{next_valid}
use Rattle.ts_glr.proofs.RootLemmas.{root_accepted, accepts_root}
use Rattle.ts_glr.proofs.TableLemmas.{by_shift, by_reduce, by_accept, shift_acts, has_action}

-- ---- what is seen is one thing

one_token : (s r : Symbol) (p q z w : ℕ) → token s p z ≡ token r q w → (s ≡ r) × (p ≡ q) × (z ≡ w)
one_token s r p q z w e = ((let h : s ≡ r = cc in h), (let h : p ≡ q = cc in h), (let h : z ≡ w = cc in h))

module _ (laws : Laws) (g : FlatGrammar) (text : Bytes) (c : Configuration) (f : FoundToken) (sees : SeesToken g text c f) where
  same_token : (s : Symbol) (pad size : ℕ) → NextIs g text c (token s pad size) → (s ≡ f.token) × (pad ≡ f.pad) × (size ≡ f.size)
  same_token s pad size n = one_token s f.token pad f.pad size f.size (laws.one_sight g text c (token s pad size) (token f.token f.pad f.size) n sees.next)

  no_place : (n : ℕ) → NextIs g text c (absent n) → ⊥
  no_place n next = let e : absent n ≡ token f.token f.pad f.size = laws.one_sight g text c (absent n) (token f.token f.pad f.size) next sees.next in cc

  same_tree : (s : Symbol) (pad size : ℕ) → NextIs g text c (token s pad size) → token_tree s pad size ≡ token_tree f.token f.pad f.size
  same_tree s pad size n =
      let q = same_token s pad size n in
      ap (λ (x : Symbol). token_tree x pad size) q.0 ∙ ap (λ (x : ℕ). token_tree f.token x size) q.1 ∙ ap (λ (x : ℕ). token_tree f.token f.pad x) q.2

  can_move : (move : Move) → Act g (stack_symbols c.stack) f.token.0 move → CanMove g text c move
  can_move move act = record { symbol = f.token; pad = f.pad; size = f.size; next = sees.next; stays = act }

  move_acts : (move : Move) → CanMove g text c move → Act g (stack_symbols c.stack) f.token.0 move
  move_acts move m = subst (λ (x : Symbol). Act g (stack_symbols c.stack) x.0 move) (same_token m.symbol m.pad m.size m.next).0 m.stays

  -- a reduction that makes a layer that is too deep
  pub comes_too_deep : (k : PackedStack) → own_config k ≡ c → (t : ParseTable) (a : Action) → t.grammar ≡ g → ActsBy t (stack_symbols c.stack) f.token.0 a → IsTooDeep g k a → PackedIsTooDeep g text k
  comes_too_deep k own t a same acts deep = record {
    number = deep.0;
    move = subst (λ (d : Configuration). CanMove g text d (reduce deep.0)) (sym own)
        (can_move (reduce deep.0) (subst (λ (h : FlatGrammar). Act h (stack_symbols c.stack) f.token.0 (reduce deep.0)) same (by_reduce t (stack_symbols c.stack) f.token.0 deep.0 a deep.3 acts)));
    node = deep.1;
    after = deep.2;
    reduction = deep.4;
    deep = deep.5;
  }

module _ (laws : Laws) (t : ParseTable) (text : Bytes) (c : Configuration) (k : PackedStack) (own : own_config k ≡ c) (f : FoundToken) (sees : SeesToken t.grammar text c f) where
  -- where an action of the table leads is a step
  lead_step : (a : Action) (e : Configuration) → ActsBy t (stack_symbols c.stack) f.token.0 a → ActionLeads t.grammar c f a e → StepsOn t.grammar text c e
  lead_step (Shift next) e acts leads =
      subst (λ (d : Configuration). StepsOn t.grammar text c d) (sym leads)
      (shift_token f.token f.pad f.size sees.next (by_shift t (stack_symbols c.stack) f.token.0 next (Shift next) refl acts).0)
  lead_step (Reduce n) e acts leads =
      subst (λ (d : Configuration). StepsOn t.grammar text c d) (sym leads.4)
      (reduce_trees n leads.0 leads.1 (can_move laws t.grammar text c f sees (reduce n) (by_reduce t (stack_symbols c.stack) f.token.0 n (Reduce n) refl acts)) leads.2 leads.3)
  lead_step Accept e acts leads = absurd leads

  -- what holds of the configuration holds of the layers' own trees
  read_is : stack_symbols c.stack ≡ stack_symbols (packed_trees k.stack)
  read_is = ap (λ (d : Configuration). stack_symbols d.stack) (sym own)

  own_next : NextIs t.grammar text (own_config k) (token f.token f.pad f.size)
  own_next = subst (λ (d : Configuration). NextIs t.grammar text d (token f.token f.pad f.size)) (sym own) sees.next

  c_next : (x : Found) → NextIs t.grammar text (own_config k) x → NextIs t.grammar text c x
  c_next x n = subst (λ (d : Configuration). NextIs t.grammar text d x) own n

  c_move : (move : Move) → CanMove t.grammar text (own_config k) move → CanMove t.grammar text c move
  c_move move m = subst (λ (d : Configuration). CanMove t.grammar text d move) own m

  c_act : (x : ℕ) (move : Move) → Act t.grammar (stack_symbols (packed_trees k.stack)) x move → Act t.grammar (stack_symbols c.stack) x move
  c_act x move act = subst (λ (read : List ℕ). Act t.grammar read x move) (sym read_is) act

  own_act : (x : ℕ) (move : Move) → Act t.grammar (stack_symbols c.stack) x move → Act t.grammar (stack_symbols (packed_trees k.stack)) x move
  own_act x move act = subst (λ (read : List ℕ). Act t.grammar read x move) read_is act

  own_move : (move : Move) → CanMove t.grammar text c move → CanMove t.grammar text (own_config k) move
  own_move move m = subst (λ (d : Configuration). CanMove t.grammar text d move) (sym own) m

  -- where it leads from the layers is a step of theirs
  layers_step : (a : Action) (n : PackedStack) → ActsBy t (stack_symbols c.stack) f.token.0 a → LayersLead t.grammar k f a n → PackedStepsOn t.grammar text k n
  layers_step (Shift next) n acts leads =
      subst (λ (d : PackedStack). PackedStepsOn t.grammar text k d) (sym leads)
      (shift_packed f.token f.pad f.size own_next (own_act f.token.0 shift (by_shift t (stack_symbols c.stack) f.token.0 next (Shift next) refl acts).0))
  layers_step (Reduce m) n acts leads =
      subst (λ (d : PackedStack). PackedStepsOn t.grammar text k d) (sym leads.4)
      (reduce_packed m leads.0 leads.1 (own_move (reduce m) (can_move laws t.grammar text c f sees (reduce m) (by_reduce t (stack_symbols c.stack) f.token.0 m (Reduce m) refl acts))) leads.2 leads.3)
  layers_step Accept n acts leads = absurd leads

  module _ (n : ℕ) (table : IsTable t) (st : IsStateOf t (stack_symbols c.stack) n) (actions : List Action) (exact : (a : Action) → Contains actions a ↔ ActsBy t (stack_symbols c.stack) f.token.0 a) where
    -- ---- an extra

    module _ (none : length actions ≡ 0) where
      idle : (move : Move) → Act t.grammar (stack_symbols c.stack) f.token.0 move → ⊥
      idle move act =
          let a = has_action laws t (stack_symbols c.stack) n f.token.0 move table st act in
          let w = (exact a.0).1 a.1 in
          let lt : w.0 < length actions = w.1 in
          omega arith

      no_move : (move : Move) → CanMove t.grammar text c move → ⊥
      no_move move m = idle move (move_acts laws t.grammar text c f sees move m)

      pub passes_extra : is_extra t.grammar f.token.0 ≡ true
      passes_extra = ⊎_elim (λ m. absurd (idle m.0 m.1)) (λ e. e) (next_valid t.grammar text c f.token f.pad f.size sees.next)

      pass_step : StepsOn t.grammar text c (pushed c (as_extra (token_tree f.token f.pad f.size)))
      pass_step = pass_extra f.token f.pad f.size sees.next passes_extra (λ m. idle m.0 m.1)

      pass_layers : PackedStepsOn t.grammar text k (packed_with k (as_extra (token_tree f.token f.pad f.size)))
      pass_layers = pass_packed f.token f.pad f.size own_next passes_extra (λ m. idle m.0 (c_act f.token.0 m.0 m.1))

      only_pass : (e : PackedStack) → PackedStepsOn t.grammar text k e → packed_with k (as_extra (token_tree f.token f.pad f.size)) ≡ e
      only_pass _ (shift_packed s pad size next act) =
          absurd (no_move shift (record { symbol = s; pad = pad; size = size; next = c_next (token s pad size) next; stays = c_act s.0 shift act }))
      only_pass _ (pass_packed s pad size next is none_acts) = ap (λ (x : Tree). packed_with k (as_extra x)) (sym (same_tree laws t.grammar text c f sees s pad size (c_next (token s pad size) next)))
      only_pass _ (reduce_packed number node after move r shallow) = absurd (no_move (reduce number) (c_move (reduce number) move))

      pub spent_pass : (trees : List Tree) (stacks : List (List Layer)) (most : ℕ) (top : StackHead) (old live : List StackHead) (best : Option Tree) (stuck : Option ℕ) → live ≡ old ++ top ∷ []
          → IsOwnHead t (length text) stacks top → StandAfter t text trees stacks top → config_of stacks top ≡ pushed c (as_extra (token_tree f.token f.pad f.size)) → packed_of stacks top ≡ packed_with k (as_extra (token_tree f.token f.pad f.size)) → Spent t text trees stacks most c k old live best best stuck stuck
      spent_pass trees stacks most top old live best stuck live_is head stand is layers = record {
        more = top ∷ [];
        live_is = live_is;
        few = omega arith;
        sound = ((head, stand, subst (λ (e : Configuration). StepsOn t.grammar text c e) (sym is) pass_step, subst (λ (e : PackedStack). PackedStepsOn t.grammar text k e) (sym layers) pass_layers), tt);
        complete = λ e step. inl (layers ∙ only_pass e step);
        covers = record {
          accepted = λ u acc. absurd (no_move accept acc.move);
          places = λ q stop. absurd (no_place laws t.grammar text c f sees stop.0 stop.1);
          shallow = λ deep. no_move (reduce deep.number) (c_move (reduce deep.number) deep.move);
        };
        keeps = record { others = λ u w. w; from = λ b e. inl e; past = λ q p. p; stuck_from = λ q e. inl e };
        root = λ b e. inl e;
        fruitful = inl (omega arith);
      }

    -- ---- actions

    module _ (some : 0 < length actions) (trees : List Tree) (stacks : List (List Layer)) (old live : List StackHead) (first best : Option Tree) (b : Acting t text trees stacks c k f actions old live first best) where
      there : (a : Action) → ActsBy t (stack_symbols c.stack) f.token.0 a → Contains actions a
      there a acts = (exact a).1 acts

      acts_of : (a : Action) → Contains actions a → ActsBy t (stack_symbols c.stack) f.token.0 a
      acts_of a w = (exact a).0 w

      any_leads : (h : StackHead) → Any (λ (a : Action). ActionLeads t.grammar c f a (config_of stacks h) × LayersLead t.grammar k f a (packed_of stacks h)) actions
          → StepsOn t.grammar text c (config_of stacks h) × PackedStepsOn t.grammar text k (packed_of stacks h)
      any_leads h any = any_to (λ (a : Action). ActionLeads t.grammar c f a (config_of stacks h) × LayersLead t.grammar k f a (packed_of stacks h))
          (StepsOn t.grammar text c (config_of stacks h) × PackedStepsOn t.grammar text k (packed_of stacks h)) actions
          (λ a w leads. (lead_step a (config_of stacks h) (acts_of a w) leads.0, layers_step a (packed_of stacks h) (acts_of a w) leads.1)) any

      found_head : (a : Action) (e : PackedStack) → ActsBy t (stack_symbols c.stack) f.token.0 a → LayersLead t.grammar k f a e → Any (λ (h : StackHead). packed_of stacks h ≡ e) b.more
      found_head a e acts leads = each_at (λ (x : Action). (d : PackedStack) → LayersLead t.grammar k f x d → Any (λ (h : StackHead). packed_of stacks h ≡ d) b.more) actions a b.complete (there a acts) e leads

      first_action : ActsBy t (stack_symbols c.stack) f.token.0 (get_or actions 0 Accept)
      first_action = acts_of (get_or actions 0 Accept) (Contains-get_or actions 0 Accept some)

      any_step : (e : PackedStack) → PackedStepsOn t.grammar text k e → Any (λ (h : StackHead). packed_of stacks h ≡ e) b.more
      any_step _ (shift_packed s pad size next act) =
          let here = c_next (token s pad size) next in
          let a = shift_acts laws t (stack_symbols c.stack) n f.token.0 table st (move_acts laws t.grammar text c f sees shift (record { symbol = s; pad = pad; size = size; next = here; stays = c_act s.0 shift act })) in
          found_head (Shift a.0) (packed_with k (token_tree s pad size)) a.1 (ap (packed_with k) (same_tree laws t.grammar text c f sees s pad size here))
      any_step _ (pass_packed s pad size next is none_acts) =
          absurd (none_acts (own_has (subst (λ (x : Symbol). HasMove t.grammar (stack_symbols c.stack) x.0) (sym (same_token laws t.grammar text c f sees s pad size (c_next (token s pad size) next)).0) (moves (get_or actions 0 Accept) first_action))))
        where
          own_has : HasMove t.grammar (stack_symbols c.stack) s.0 → HasMove t.grammar (stack_symbols (packed_trees k.stack)) s.0
          own_has m = (m.0, own_act s.0 m.0 m.1)

          moves : (a : Action) → ActsBy t (stack_symbols c.stack) f.token.0 a → HasMove t.grammar (stack_symbols c.stack) f.token.0
          moves (Shift m) acts = (shift, (by_shift t (stack_symbols c.stack) f.token.0 m (Shift m) refl acts).0)
          moves (Reduce m) acts = (reduce m, by_reduce t (stack_symbols c.stack) f.token.0 m (Reduce m) refl acts)
          moves Accept acts = (accept, by_accept t (stack_symbols c.stack) f.token.0 Accept refl acts)
      any_step _ (reduce_packed number node after move r shallow) =
          found_head (Reduce number) (record { stack = after; place = k.place }) (reduces number (move_acts laws t.grammar text c f sees (reduce number) (c_move (reduce number) move))) (node, after, r, shallow, refl)

      pub spent_acts : (most : ℕ) (stuck : Option ℕ) → length actions ≤ most → Spent t text trees stacks most c k old live first best stuck stuck
      spent_acts most stuck few = record {
        more = b.more;
        live_is = b.live_is;
        few = omega (arith, b.few, few);
        sound = each_map (λ (h : StackHead). IsOwnHead t (length text) stacks h × StandAfter t text trees stacks h × Any (λ (a : Action). ActionLeads t.grammar c f a (config_of stacks h) × LayersLead t.grammar k f a (packed_of stacks h)) actions)
            (λ (h : StackHead). IsOwnHead t (length text) stacks h × StandAfter t text trees stacks h × StepsOn t.grammar text c (config_of stacks h) × PackedStepsOn t.grammar text k (packed_of stacks h)) b.more
            (λ h s. let both = any_leads h s.2 in (s.0, s.1, both.0, both.1)) b.sound;
        complete = any_step;
        covers = record {
          accepted = λ u acc. each_at (λ (x : Action). x ≡ Accept → (v : Tree) → IsRootOf c.stack v → Withstands best v) actions Accept b.accepted
              (there Accept (accepts (move_acts laws t.grammar text c f sees accept acc.move))) refl u (root_accepted t.grammar text c u acc);
          places = λ q stop. absurd (no_place laws t.grammar text c f sees stop.0 stop.1);
          shallow = λ deep. each_at (λ (x : Action). IsTooDeep t.grammar k x → ⊥) actions (Reduce deep.number) b.shallow
              (there (Reduce deep.number) (reduces deep.number (move_acts laws t.grammar text c f sees (reduce deep.number) (c_move (reduce deep.number) deep.move))))
              (deep.number, deep.node, deep.after, refl, deep.reduction, deep.deep);
        };
        keeps = record {
          others = b.others;
          from = λ u e. ⊎_elim (λ w. inl w) (λ w. inr (accepts_root t.grammar text c (bare u) (can_move laws t.grammar text c f sees accept
              (any_to (λ (a : Action). a ≡ Accept) (Act t.grammar (stack_symbols c.stack) f.token.0 accept) actions (λ a k is. by_accept t (stack_symbols c.stack) f.token.0 a is (acts_of a k)) w.0)) w.1)) (b.from u e);
          past = λ q p. p;
          stuck_from = λ q e. inl e;
        };
        root = b.root;
        fruitful = ⊎_elim (λ w. inl w) (λ w. inr (inl w)) (each_at (λ (x : Action). (0 < length b.more) ⊎ ((u : Tree) × (best ≡ Some u))) actions (get_or actions 0 Accept) b.fruitful (Contains-get_or actions 0 Accept some));
      }

-- ---- no token

module _ (laws : Laws) (t : ParseTable) (text : Bytes) (c : Configuration) (k : PackedStack) (own : own_config k ≡ c) (place : ℕ) (stops : StopsAt t.grammar text c place) where
  silent : (move : Move) → CanMove t.grammar text c move → ⊥
  silent move m = silent_at m.symbol m.pad m.size m.next
    where
      silent_at : (s : Symbol) (pad size : ℕ) → NextIs t.grammar text c (token s pad size) → ⊥
      silent_at s pad size n = let e : absent stops.0 ≡ token s pad size = laws.one_sight t.grammar text c (absent stops.0) (token s pad size) stops.1 n in cc

  no_extra : (s : Symbol) (pad size : ℕ) → NextIs t.grammar text c (token s pad size) → ⊥
  no_extra s pad size n = let e : absent stops.0 ≡ token s pad size = laws.one_sight t.grammar text c (absent stops.0) (token s pad size) stops.1 n in cc

  c_move_here : (move : Move) → CanMove t.grammar text (own_config k) move → CanMove t.grammar text c move
  c_move_here move m = subst (λ (d : Configuration). CanMove t.grammar text d move) own m

  no_step : (e : PackedStack) → PackedStepsOn t.grammar text k e → ⊥
  no_step _ (shift_packed s pad size next act) = no_extra s pad size (subst (λ (d : Configuration). NextIs t.grammar text d (token s pad size)) own next)
  no_step _ (pass_packed s pad size next is none_acts) = no_extra s pad size (subst (λ (d : Configuration). NextIs t.grammar text d (token s pad size)) own next)
  no_step _ (reduce_packed number node after move r shallow) = silent (reduce number) (c_move_here (reduce number) move)

  same_stop : (q : ℕ) → StopsAt t.grammar text c q → place ≡ q
  same_stop q other =
      let e : absent stops.0 ≡ absent other.0 = laws.one_sight t.grammar text c (absent stops.0) (absent other.0) stops.1 other.1 in
      let k : stops.0 ≡ other.0 = cc in
      stops.2 ∙ ap (λ (m : ℕ). c.place + m) k ∙ sym other.2

  pub spent_absent : (trees : List Tree) (stacks : List (List Layer)) (most : ℕ) (live : List StackHead) (best : Option Tree) (before stuck : Option ℕ) → IsPastStuck stuck place → ((q : ℕ) → IsPastStuck before q → IsPastStuck stuck q)
      → ((q : ℕ) → stuck ≡ Some q → (before ≡ Some q) ⊎ (q ≡ place)) → Spent t text trees stacks most c k live live best best before stuck
  spent_absent trees stacks most live best before stuck mine others from = record {
    more = [];
    live_is = sym (append-nil live);
    few = omega arith;
    sound = tt;
    complete = λ e step. absurd (no_step e step);
    covers = record {
      accepted = λ u acc. absurd (silent accept acc.move);
      places = λ q other. subst (λ (p : ℕ). IsPastStuck stuck p) (same_stop q other) mine;
      shallow = λ deep. silent (reduce deep.number) (c_move_here (reduce deep.number) deep.move);
    };
    keeps = record {
      others = λ u w. w;
      from = λ b e. inl e;
      past = others;
      stuck_from = λ q e. ⊎_elim (λ w. inl w) (λ w. inr (subst (λ (p : ℕ). StopsAt t.grammar text c p) (sym w) stops)) (from q e);
    };
    root = λ b e. inl e;
    fruitful = inr (inr (mine.0, mine.1));
  }
