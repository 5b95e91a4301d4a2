-- One more tree on a stack: it stays a live stack of trees that a parser made, and its trees stand.
use Rattle.std.proofs.Common.{◌≡◌, ◌∙◌, sym, ap, refl, subst, ℕ, suc, ◌+◌, ◌≤◌, Bool, true, false, IsTrue, is_some, List, [], ◌∷◌, length, map, drop, Option, Some, None, MatchOption, arith}
use Rattle.std.specs.Prelude.{IfSome}
use Rattle.ts_base.specs.Bytes.{Bytes}
use Rattle.ts_core.specs.declared.flat.FlatGrammar.{FlatGrammar}
use Rattle.spec_tables.specs.Actions.{shift}
use Rattle.spec_tables.specs.Items.{IsToken}
use Rattle.spec_trees.specs.declared.tree.Tree.{Tree}
use Rattle.spec_trees.specs.Trees.{symbol_of, production_of, is_extra_node, is_settled, state_of, node_extent, span_of, all_spans, bare}
use Rattle.spec_trees.specs.Made.{IsNode, leaf_of, as_extra, filling}
use Rattle.spec_runs.specs.Configurations.{token_tree, pushed}
use Rattle.spec_forced.specs.Forced.{Stands}
use Rattle.spec_forced.specs.Sound.{States, IsStateAfter, AllSound, IsHonest, HasState, StandOnStack}
use Rattle.spec_packing.specs.Packing.{PackedTree, PackedStack, packed_alone, packed_with}
use Rattle.ts_table.specs.declared.view.ParseTable.{ParseTable}
use Rattle.ts_table.specs.Tables.{IsTable, IsStateOf, goto_of}
use Rattle.ts_gss.specs.declared.layer.Layer.{Layer}
use Rattle.ts_gss.specs.Stacks.{stack_at, trees_on, state_on}
use Rattle.ts_steps.specs.declared.head.StackHead.{StackHead}
use Rattle.ts_steps.specs.declared.found.FoundToken.{FoundToken}
use Rattle.ts_steps.specs.MoveLaws.{Laws}
use Rattle.ts_steps.specs.Good.{IsGoodTree, EachTree}
use Rattle.ts_steps.specs.LiveHeads.{config_of, packed_of, packed_tree, packed_own, packed_layers, HaveStates, IsGoodStack, read_on, LiesAhead}
use Rattle.ts_steps.proofs.StackLemmas.{SaysLeaf, says_leaf, says_extra, leaf_good, extra_good, leaf_bare, Pushes, pushed_stack, pushed_there, pushed_good, same_config, state_top, span_bare}
use Rattle.ts_steps.specs.declared.ahead.TokenAhead.{TokenAhead}
use Rattle.ts_steps.specs.Laws.{SoundLaws}
use Rattle.ts_steps.specs.Heads.{AreStatesOf, state_where, IsOwnWithin, IsMadeNode, IsOwnHead, StandOnHead, IsMoveAhead, IsExtraAhead, CanTake, IsTaken}
use Rattle.ts_steps.proofs.NodeLemmas.{filling_fills, filling_extra}
use Rattle.ts_steps.proofs.OwnLemmas.{own_leaf, own_self}
use Rattle.ts_steps.proofs.TableLemmas.{state_after, came}

-- ---- leaves

not_some : (o : Option ℕ) → o ≡ None → IsTrue (is_some o) → ⊥
not_some None e h = let k : false ≡ true = h in cc
not_some (Some n) e h = let k : Some n ≡ None = e in cc

-- a good leaf is one that a parser made
leaf_own : (g : FlatGrammar) (token pad size extent : ℕ) (state : Option ℕ) (extra : Bool) (u : Tree) → IsGoodTree g u → SaysLeaf token pad size extent state extra u → IsOwnWithin g u
leaf_own g token pad size extent state extra u good says = own_leaf g u says.children (record { good = good; filled = λ h. absurd (not_some (production_of u) says.production h) })

-- and one that a move makes
leaf_made : (g : FlatGrammar) (token pad size extent : ℕ) (state : Option ℕ) (extra : Bool) (u : Tree) → IsToken g token → SaysLeaf token pad size extent state extra u → IsMadeNode g u
leaf_made g token pad size extent state extra u low says = record {
  numberless = λ h. says.production;
  pad = λ h. absurd (let k = low.1 in omega (arith, h, k, says.symbol));
  span = λ h. absurd (let k = low.1 in omega (arith, h, k, says.symbol));
  extra = λ h. (record { production = says.production; elements = says.elements }, says.children);
}

-- ---- one more tree

module _ (t : ParseTable) (size : ℕ) (old new : List (List Layer)) (h : StackHead) (top : ℕ) (u : Tree) (state : ℕ) (p : Pushes old new h.top top u state) where
  pub own_push : IsOwnHead t size old h → IsStateOf t (filling (u ∷ trees_on (stack_at old h.top))) state → IsGoodTree t.grammar u → IsOwnWithin t.grammar u → IsMadeNode t.grammar u → h.place + span_of u ≤ size → h.place + node_extent u ≤ suc size
      → (place : ℕ) → place ≡ h.place + span_of u → IsOwnHead t size new (record { top = top; place = place })
  own_push b st good own made within reach place is = record {
    live = record {
      there = pushed_there old new h.top top u state p;
      stack = subst (λ (n : ℕ). IsGoodStack t size (stack_at new top) n) (sym is) (pushed_good t size h.place old new h.top top u state p b.live.stack st good within reach);
    };
    own = subst (λ (s : List Layer). EachTree (IsOwnWithin t.grammar) (trees_on s)) (sym (pushed_stack old new h.top top u state p)) (own, b.own);
    made = subst (λ (s : List Layer). EachTree (IsMadeNode t.grammar) (trees_on s)) (sym (pushed_stack old new h.top top u state p)) (made, b.made);
  }

  -- its trees stand, if the tree on top does, for the state below it
  pub stand_push : (states : States) (text : Bytes) → IsOwnHead t size old h → StandOnHead t states text old h
      → (HasState u → Stands t.grammar (read_on old h) (drop h.place text) u (node_extent u)) → ((n : ℕ) → state_of u ≡ Some n → IsStateAfter t.grammar states n (read_on old h)) → AllSound t.grammar states text (u ∷ []) h.place
      → StandOnStack t.grammar states text (trees_on (stack_at new top))
  stand_push states text b s own below sound =
      let at : h.place ≡ all_spans (trees_on (stack_at old h.top)) = sym b.live.stack.spans in
      subst (λ (l : List Layer). StandOnStack t.grammar states text (trees_on l)) (sym (pushed_stack old new h.top top u state p)) (
        subst (λ (n : ℕ). HasState u → Stands t.grammar (read_on old h) (drop n text) u (node_extent u)) at own,
        λ filled. below,
        subst (λ (n : ℕ). AllSound t.grammar states text (u ∷ []) n) at sound,
        s,
      )

-- ---- a token

pub shift_own : (t : ParseTable) (size : ℕ) (old new : List (List Layer)) (h : StackHead) (f : FoundToken) (r : Option ℕ) (u : Tree) (state top : ℕ) → Pushes old new h.top top u state → u ≡ leaf_of f.token.0 f.pad f.size f.extent r → IsNode u
    → IsOwnHead t size old h → LiesAhead size h.place f → IsToken t.grammar f.token.0 → IsStateOf t (f.token.0 ∷ read_on old h) state → IsOwnHead t size new (record { top = top; place = h.place + (f.pad + f.size) })
shift_own t size old new h f r u state top p is node b ahead low st =
    let says = says_leaf f.token.0 f.pad f.size f.extent r u is in
    let good = leaf_good f.token.0 f.pad f.size f.extent r t.grammar u is node low ahead.some in
    own_push t size old new h top u state p b
    (subst (λ (x : List ℕ). IsStateOf t x state) (sym (filling_fills u (trees_on (stack_at old h.top)) says.extra_is ∙ ap (λ (n : ℕ). n ∷ read_on old h) says.symbol)) st)
    good (leaf_own t.grammar f.token.0 f.pad f.size f.extent r false u good says) (leaf_made t.grammar f.token.0 f.pad f.size f.extent r false u low says) (omega (arith, says.span, ahead.past, ahead.reach)) (omega (arith, says.extent_is, ahead.reach)) (h.place + (f.pad + f.size)) (omega (arith, says.span))

pub pass_own : (t : ParseTable) (size : ℕ) (old new : List (List Layer)) (h : StackHead) (f : FoundToken) (r : Option ℕ) (u : Tree) (state top : ℕ) → Pushes old new h.top top u state → u ≡ as_extra (leaf_of f.token.0 f.pad f.size f.extent r) → IsNode u
    → IsOwnHead t size old h → LiesAhead size h.place f → IsToken t.grammar f.token.0 → state ≡ state_on (stack_at old h.top) → IsOwnHead t size new (record { top = top; place = h.place + (f.pad + f.size) })
pass_own t size old new h f r u state top p is node b ahead low st =
    let says = says_extra f.token.0 f.pad f.size f.extent r u is in
    let good = extra_good f.token.0 f.pad f.size f.extent r t.grammar u is node low ahead.some in
    own_push t size old new h top u state p b
    (subst (λ (x : List ℕ). IsStateOf t x state) (sym (filling_extra u (trees_on (stack_at old h.top)) says.extra_is))
    (subst (λ (n : ℕ). IsStateOf t (read_on old h) n) (sym st) (state_top t (stack_at old h.top) b.live.stack.states)))
    good (leaf_own t.grammar f.token.0 f.pad f.size f.extent r true u good says) (leaf_made t.grammar f.token.0 f.pad f.size f.extent r true u low says) (omega (arith, says.span, ahead.past, ahead.reach)) (omega (arith, says.extent_is, ahead.reach)) (h.place + (f.pad + f.size)) (omega (arith, says.span))

-- ---- configurations

push_config : (laws : Laws) (old new : List (List Layer)) (h : StackHead) (u b : Tree) (state top place : ℕ) → Pushes old new h.top top u state → bare u ≡ b → place ≡ h.place + span_of u
    → config_of new (record { top = top; place = place }) ≡ pushed (config_of old h) b
push_config laws old new h u b state top place p is at =
    let span : span_of b ≡ span_of u = ap span_of (sym is) ∙ span_bare laws u in
    same_config (map bare (trees_on (stack_at new top))) (b ∷ map bare (trees_on (stack_at old h.top))) place (h.place + span_of b)
    (ap (λ (s : List Layer). map bare (trees_on s)) (pushed_stack old new h.top top u state p) ∙ ap (λ (x : Tree). x ∷ map bare (trees_on (stack_at old h.top))) is)
    (at ∙ ap (λ (n : ℕ). h.place + n) (sym span))

-- the layer of a tree that stands for itself alone, by its bare tree
layer_is : (laws : Laws) (u b : Tree) → bare u ≡ b → packed_own u ≡ packed_alone b
layer_is laws u b is =
    ap (λ (n : ℕ). packed_tree u n) (sym (laws.keeps u).depth) ∙ ap (λ (x : Tree). packed_alone x) is

same_layers : (ls ms : List PackedTree) (p q : ℕ) → ls ≡ ms → p ≡ q → ◌≡◌ {A = PackedStack} (record { stack = ls; place = p }) (record { stack = ms; place = q })
same_layers ls ms p q e f = ap {B = PackedStack} (λ (l : List PackedTree). record { stack = l; place = p }) e ∙ ap {B = PackedStack} (λ (n : ℕ). record { stack = ms; place = n }) f

push_layers : (laws : Laws) (old new : List (List Layer)) (h : StackHead) (u b : Tree) (state top place : ℕ) → Pushes old new h.top top u state → bare u ≡ b → place ≡ h.place + span_of u
    → packed_of new (record { top = top; place = place }) ≡ packed_with (packed_of old h) b
push_layers laws old new h u b state top place p is at =
    let span : span_of b ≡ span_of u = ap span_of (sym is) ∙ span_bare laws u in
    same_layers (packed_layers (stack_at new top)) (packed_alone b ∷ packed_layers (stack_at old h.top)) place (h.place + span_of b)
    (ap (λ (s : List Layer). packed_layers s) (pushed_stack old new h.top top u state p) ∙ ap (λ (x : PackedTree). x ∷ packed_layers (stack_at old h.top)) (layer_is laws u b is))
    (at ∙ ap (λ (n : ℕ). h.place + n) (sym span))

pub shift_layers : (laws : Laws) (old new : List (List Layer)) (h : StackHead) (f : FoundToken) (r : Option ℕ) (u : Tree) (state top : ℕ) → Pushes old new h.top top u state → u ≡ leaf_of f.token.0 f.pad f.size f.extent r
    → packed_of new (record { top = top; place = h.place + (f.pad + f.size) }) ≡ packed_with (packed_of old h) (token_tree f.token f.pad f.size)
shift_layers laws old new h f r u state top p is =
    push_layers laws old new h u (token_tree f.token f.pad f.size) state top (h.place + (f.pad + f.size)) p (ap bare is ∙ leaf_bare f.token.0 f.pad f.size f.extent r)
    (ap (λ (n : ℕ). h.place + n) (sym (says_leaf f.token.0 f.pad f.size f.extent r u is).span))

pub pass_layers : (laws : Laws) (old new : List (List Layer)) (h : StackHead) (f : FoundToken) (r : Option ℕ) (u : Tree) (state top : ℕ) → Pushes old new h.top top u state → u ≡ as_extra (leaf_of f.token.0 f.pad f.size f.extent r)
    → packed_of new (record { top = top; place = h.place + (f.pad + f.size) }) ≡ packed_with (packed_of old h) (as_extra (token_tree f.token f.pad f.size))
pass_layers laws old new h f r u state top p is =
    push_layers laws old new h u (as_extra (token_tree f.token f.pad f.size)) state top (h.place + (f.pad + f.size)) p
    (ap bare is ∙ laws.extra (leaf_of f.token.0 f.pad f.size f.extent r) ∙ ap as_extra (leaf_bare f.token.0 f.pad f.size f.extent r))
    (ap (λ (n : ℕ). h.place + n) (sym (says_extra f.token.0 f.pad f.size f.extent r u is).span))

pub shift_config : (laws : Laws) (old new : List (List Layer)) (h : StackHead) (f : FoundToken) (r : Option ℕ) (u : Tree) (state top : ℕ) → Pushes old new h.top top u state → u ≡ leaf_of f.token.0 f.pad f.size f.extent r
    → config_of new (record { top = top; place = h.place + (f.pad + f.size) }) ≡ pushed (config_of old h) (token_tree f.token f.pad f.size)
shift_config laws old new h f r u state top p is =
    push_config laws old new h u (token_tree f.token f.pad f.size) state top (h.place + (f.pad + f.size)) p (ap bare is ∙ leaf_bare f.token.0 f.pad f.size f.extent r)
    (ap (λ (n : ℕ). h.place + n) (sym (says_leaf f.token.0 f.pad f.size f.extent r u is).span))

pub pass_config : (laws : Laws) (old new : List (List Layer)) (h : StackHead) (f : FoundToken) (r : Option ℕ) (u : Tree) (state top : ℕ) → Pushes old new h.top top u state → u ≡ as_extra (leaf_of f.token.0 f.pad f.size f.extent r)
    → config_of new (record { top = top; place = h.place + (f.pad + f.size) }) ≡ pushed (config_of old h) (as_extra (token_tree f.token f.pad f.size))
pass_config laws old new h f r u state top p is =
    push_config laws old new h u (as_extra (token_tree f.token f.pad f.size)) state top (h.place + (f.pad + f.size)) p
    (ap bare is ∙ laws.extra (leaf_of f.token.0 f.pad f.size f.extent r) ∙ ap as_extra (leaf_bare f.token.0 f.pad f.size f.extent r))
    (ap (λ (n : ℕ). h.place + n) (sym (says_extra f.token.0 f.pad f.size f.extent r u is).span))

-- ---- a token stands

pub only_of : (b : Bool) (n s : ℕ) → state_where b n ≡ Some s → (b ≡ true) × (n ≡ s)
only_of true n s e = (refl, cc)
only_of false n s e = absurd (let h : None ≡ Some s = e in cc)

pub shift_stands : (laws : SoundLaws) (t : ParseTable) (states : States) (text : Bytes) (old new : List (List Layer)) (h : StackHead) (a : TokenAhead) (below state top : ℕ) (u : Tree) → Pushes old new h.top top u state
    → u ≡ leaf_of a.found.token.0 a.found.pad a.found.size a.found.extent (state_where a.only below) → below ≡ state_on (stack_at old h.top) → IsTable t → AreStatesOf t states → IsOwnHead t (length text) old h
    → IsMoveAhead t text old h a shift → StandOnHead t states text old h → StandOnStack t.grammar states text (trees_on (stack_at new top))
shift_stands laws t states text old new h a below state top u p is below_is table are b m s =
    let f = a.found in
    let g = t.grammar in
    let r = state_where a.only below in
    let says = says_leaf f.token.0 f.pad f.size f.extent r u is in
    let st : IsStateOf t (read_on old h) below = subst (λ (n : ℕ). IsStateOf t (read_on old h) n) (sym below_is) (state_top t (stack_at old h.top) b.live.stack.states) in
    let stands : (n : ℕ) → state_of u ≡ Some n → Stands g (read_on old h) (drop h.place text) u (node_extent u) = λ n e.
    let o = only_of a.only below n (sym says.state_is ∙ e) in
    subst (λ (k : ℕ). Stands g (read_on old h) (drop h.place text) u k) (sym says.extent_is)
    (subst (λ (x : Tree). Stands g (read_on old h) (drop h.place text) x f.extent) (sym is)
    (laws.leaf g (read_on old h) (drop h.place text) f.token f.pad f.size f.extent f.extent r m.decided (m.only o.0))) in
    let after : (n : ℕ) → state_of u ≡ Some n → IsStateAfter g states n (read_on old h) = λ n e.
    let o = only_of a.only below n (sym says.state_is ∙ e) in
    subst (λ (k : ℕ). IsStateAfter g states k (read_on old h)) o.1 (state_after t states (read_on old h) below table are st) in
    stand_push t (length text) old new h top u state p states text b s (λ w. stands w.0 w.1) after
    (laws.childless g states text u h.place says.children says.elements (λ n settled e. laws.told g states text h.place n u (read_on old h) (after n e) (stands n e)))

pub pass_stands : (laws : SoundLaws) (t : ParseTable) (states : States) (text : Bytes) (old new : List (List Layer)) (h : StackHead) (f : FoundToken) (below state top : ℕ) (u : Tree) → Pushes old new h.top top u state
    → u ≡ as_extra (leaf_of f.token.0 f.pad f.size f.extent (Some below)) → below ≡ state_on (stack_at old h.top) → IsTable t → AreStatesOf t states → IsOwnHead t (length text) old h
    → IsExtraAhead t text old h f → StandOnHead t states text old h → StandOnStack t.grammar states text (trees_on (stack_at new top))
pass_stands laws t states text old new h f below state top u p is below_is table are b m s =
    let g = t.grammar in
    let says = says_extra f.token.0 f.pad f.size f.extent (Some below) u is in
    let st : IsStateOf t (read_on old h) below = subst (λ (n : ℕ). IsStateOf t (read_on old h) n) (sym below_is) (state_top t (stack_at old h.top) b.live.stack.states) in
    let stands : Stands g (read_on old h) (drop h.place text) u (node_extent u) =
    subst (λ (k : ℕ). Stands g (read_on old h) (drop h.place text) u k) (sym says.extent_is)
    (subst (λ (x : Tree). Stands g (read_on old h) (drop h.place text) x f.extent) (sym is)
    (laws.extra g (read_on old h) (drop h.place text) f.token f.pad f.size f.extent f.extent (Some below) m.decided m.extra m.idle)) in
    let after : (n : ℕ) → state_of u ≡ Some n → IsStateAfter g states n (read_on old h) = λ n e.
    let q : Some below ≡ Some n = sym says.state_is ∙ e in
    let same : below ≡ n = cc in
    subst (λ (k : ℕ). IsStateAfter g states k (read_on old h)) same (state_after t states (read_on old h) below table are st) in
    stand_push t (length text) old new h top u state p states text b s (λ w. stands) after
    (laws.childless g states text u h.place says.children says.elements (λ n settled e. laws.told g states text h.place n u (read_on old h) (after n e) stands))

-- ---- a node that is taken over

-- the state above the node
pub above_extra : (t : ParseTable) (layers : List Layer) (u : Tree) → is_extra_node u ≡ true → HaveStates t layers → IsStateOf t (filling (u ∷ trees_on layers)) (state_on layers)
above_extra t layers u e s = subst (λ (l : List ℕ). IsStateOf t l (state_on layers)) (sym (filling_extra u (trees_on layers) e)) (state_top t layers s)

pub above_some : (t : ParseTable) (layers : List Layer) (u : Tree) (n : ℕ) → is_extra_node u ≡ false → IsStateOf t (symbol_of u ∷ filling (trees_on layers)) n → IsStateOf t (filling (u ∷ trees_on layers)) n
above_some t layers u n e s = subst (λ (l : List ℕ). IsStateOf t l n) (sym (filling_fills u (trees_on layers) e)) s

pub above_none : (t : ParseTable) (layers : List Layer) (u : Tree) (n : ℕ) → IsTable t → is_extra_node u ≡ false → HaveStates t layers → goto_of t (state_on layers) (symbol_of u) ≡ None → IsStateOf t (filling (u ∷ trees_on layers)) n → ⊥
above_none t layers u n table e s none st =
    let c = came t (symbol_of u) (filling (trees_on layers)) (filling (u ∷ trees_on layers)) n st (filling_fills u (trees_on layers) e) in
    let same : c.0 ≡ state_on layers = table.one (filling (trees_on layers)) c.0 (state_on layers) c.1 (state_top t layers s) in
    let some : goto_of t (state_on layers) (symbol_of u) ≡ Some n = subst (λ (k : ℕ). goto_of t k (symbol_of u) ≡ Some n) same c.2 in
    let clash : None ≡ Some n = sym none ∙ some in
    cc

-- what a look over the symbol comes to
pub above_match : (t : ParseTable) (layers : List Layer) (u : Tree) (o : Option ℕ) (s y : ℕ) → s ≡ state_on layers → y ≡ symbol_of u → IsTable t → is_extra_node u ≡ false → HaveStates t layers → o ≡ goto_of t s y
    → ((read : List ℕ) → IsStateOf t read s → IfSome o (IsStateOf t (y ∷ read)))
    → MatchOption o ((n : ℕ) → IsStateOf t (filling (u ∷ trees_on layers)) n → ⊥) (IsStateOf t (filling (u ∷ trees_on layers)))
above_match t layers u None s y s_is y_is table e st goto leads = λ n. above_none t layers u n table e st (ap (λ (k : ℕ). goto_of t k (symbol_of u)) (sym s_is) ∙ ap (λ (k : ℕ). goto_of t s k) (sym y_is) ∙ sym goto)
above_match t layers u (Some n) s y s_is y_is table e st goto leads =
    above_some t layers u n e (subst (λ (k : ℕ). IsStateOf t (k ∷ filling (trees_on layers)) n) y_is (leads (filling (trees_on layers)) (subst (λ (k : ℕ). IsStateOf t (filling (trees_on layers)) k) (sym s_is) (state_top t layers st))))

pub taken : (laws : Laws) (t : ParseTable) (size : ℕ) (old new : List (List Layer)) (h : StackHead) (u : Tree) (state top place : ℕ) → Pushes old new h.top top u state → IsOwnHead t size old h → IsOwnWithin t.grammar u → is_settled u ≡ true
    → CanTake t size old h u state → place ≡ h.place + span_of u → IsTaken t size old new h u (record { top = top; place = place })
taken laws t size old new h u state top place p b own settled can is =
    let k = own_self t.grammar u own settled in
    let past = (k.good.node.settled settled).past in
    let reach = can.reach in
    record {
      state = state;
      can = can;
      put = pushed_stack old new h.top top u state p;
      config = push_config laws old new h u (bare u) state top place p refl is;
      live = own_push t size old new h top u state p b can.leads k.good own can.made (omega (arith, past, reach)) reach place is;
    }

pub taken_stands : (laws : SoundLaws) (t : ParseTable) (size : ℕ) (states : States) (text : Bytes) (old new : List (List Layer)) (h : StackHead) (u : Tree) (state top : ℕ) → Pushes old new h.top top u state → IsOwnHead t size old h
    → IsTable t → AreStatesOf t states → IsHonest t.grammar states text h.place (state_on (stack_at old h.top)) u → StandOnHead t states text old h → StandOnStack t.grammar states text (trees_on (stack_at new top))
taken_stands laws t size states text old new h u state top p b table are honest s =
    let low : ℕ = state_on (stack_at old h.top) in
    let st : IsStateOf t (read_on old h) low = state_top t (stack_at old h.top) b.live.stack.states in
    let after : IsStateAfter t.grammar states low (read_on old h) = state_after t states (read_on old h) low table are st in
    stand_push t size old new h top u state p states text b s (λ w. laws.after t.grammar states text h.place low u (read_on old h) after honest.stands)
    (λ n e.
    let q : Some low ≡ Some n = sym honest.below ∙ e in
    let same : low ≡ n = cc in
    subst (λ (k : ℕ). IsStateAfter t.grammar states k (read_on old h)) same after)
    honest.inner
