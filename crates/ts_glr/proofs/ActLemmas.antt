-- What actions on a live stack come to.
use Rattle.std.proofs.Common.{◌≡◌, ◌∙◌, sym, ap, refl, subst, ℕ, suc, ◌+◌, ◌<◌, ◌≤◌, List, [], ◌∷◌, ◌++◌, length, Option, Some, None, IfSome, ◌⊎◌, inl, inr, ⊎_elim, true, false, arith, append_assoc, append-nil, length-append}
use Rattle.ts_base.specs.Bytes.{Bytes}
use Rattle.ts_core.specs.declared.action.Action.{Action}
use Rattle.ts_core.specs.declared.action.Action.TheVariants.{Shift, Reduce, Accept}
use Rattle.ts_core.specs.declared.flat.FlatGrammar.{FlatGrammar}
use Rattle.spec_tables.specs.Actions.{Move, Act, shift, reduce, accept}
use Rattle.spec_tables.specs.Items.{IsToken}
use Rattle.spec_trees.specs.declared.tree.Tree.{Tree}
use Rattle.spec_trees.specs.Made.{most_span}
use Rattle.spec_trees.specs.Trees.{children_of, state_of, bare}
use Rattle.spec_runs.specs.Configurations.{Configuration, pushed, token_tree}
use Rattle.spec_packing.specs.Packing.{PackedTree, PackedStack, packed_with, IsPackedReduction}
use Rattle.spec_packing.proofs.OneLemmas.{one_packed}
use Rattle.spec_forced.specs.Sound.{States, IsSound}
use Rattle.spec_crossing.specs.Resting.{Withstands}
use Rattle.ts_table.specs.declared.view.ParseTable.{ParseTable}
use Rattle.ts_table.specs.Tables.{IsTable, IsStateOf, ActsBy}
use Rattle.ts_gss.specs.declared.layer.Layer.{Layer}
use Rattle.ts_gss.specs.Stacks.{stack_at, trees_on}
use Rattle.ts_steps.specs.declared.found.FoundToken.{FoundToken}
use Rattle.ts_steps.specs.declared.head.StackHead.{StackHead}
use Rattle.ts_steps.specs.MoveLaws.{Laws}
use Rattle.ts_steps.specs.Good.{EachTree}
use Rattle.ts_steps.specs.LiveHeads.{config_of, packed_of, read_on, IsReducedTo, IsRootOf, GainsStacks, LiesAhead}
use Rattle.ts_steps.specs.Heads.{AreStatesOf, IsOwnWithin, IsOwnHead, StandOnHead, IsMoveAhead}
use Rattle.ts_steps.specs.Looking.{IsTokenAhead}
use Rattle.ts_glr.specs.declared.acting.Moved.{Moved}
use Rattle.ts_glr.specs.declared.acting.Moved.TheVariants.{To, Ended, TooDeep}
use Rattle.ts_glr.specs.Lists.{OfEach, Any}
use Rattle.ts_glr.specs.Steps.{KeepsBest, ActionLeads, LayersLead, IsTooDeep, StandAfter, IsSoundRoot, IsActed}
use Rattle.ts_glr.specs.Search.{heads_of, is_deep, Acting}
use Rattle.ts_glr.proofs.ListLemmas.{each_append, each_map, any_left, any_right}
use Rattle.ts_glr.proofs.RootLemmas.{one_root}
use Rattle.ts_glr.proofs.StackLemmas.{own_stays, stand_stays, config_stays, packed_stays}
use Rattle.ts_glr.proofs.TableLemmas.{by_shift, by_reduce, by_accept}

-- ---- the moves

-- the token lies ahead in the text
pub lies_ahead : (t : ParseTable) (size : ℕ) (text : Bytes) (old : List (List Layer)) (h : StackHead) (f : FoundToken) → length text ≡ size → 0 < f.token.0 → IsTokenAhead t text old h f → LiesAhead size h.place f
lies_ahead t size text old h f long some a = record {
  past = a.past;
  reach = subst (λ (n : ℕ). h.place + f.extent ≤ suc n) long a.reach;
  some = a.some some;
}

module _ (laws : Laws) (t : ParseTable) (size : ℕ) (old : List (List Layer)) (h : StackHead) (f : FoundToken) (a : Action) (acts : ActsBy t (read_on old h) f.token.0 a) (text : Bytes) (long : length text ≡ size) (sees : IsTokenAhead t text old h f) where
  shifts_token : (next : ℕ) → a ≡ Shift next → Act t.grammar (read_on old h) f.token.0 shift × IsStateOf t (f.token.0 ∷ read_on old h) next
  shifts_token next is = by_shift t (read_on old h) f.token.0 next a is acts

  is_token : (next : ℕ) → a ≡ Shift next → IsToken t.grammar f.token.0
  is_token next is = (laws.shifts t.grammar (read_on old h) f.token.0 (shifts_token next is).0).0

  pub shift_room : (next : ℕ) → a ≡ Shift next → size ≤ most_span → (n : ℕ) × (n ≤ most_span) × LiesAhead n h.place f
  shift_room next is short = (size, short, lies_ahead t size text old h f long (is_token next is).0 sees)

  pub reduce_stays : (number : ℕ) → a ≡ Reduce number → (on : ℕ) × Act t.grammar (read_on old h) on (reduce number)
  reduce_stays number is = (f.token.0, by_reduce t (read_on old h) f.token.0 number a is acts)

  pub accept_stays : a ≡ Accept → (on : ℕ) × Act t.grammar (read_on old h) on accept
  accept_stays is = (f.token.0, by_accept t (read_on old h) f.token.0 a is acts)

  pub some_seen : 0 < f.extent
  some_seen = let p = sees.past in omega (arith, p)

  pub seen_within : h.place + f.extent ≤ suc size
  seen_within = subst (λ (n : ℕ). h.place + f.extent ≤ suc n) long sees.reach

  module _ (table : IsTable t) (own : IsOwnHead t size old h) (new : List (List Layer)) (best : Option Tree) where
    mine : IsOwnHead t (length text) old h
    mine = subst (λ (n : ℕ). IsOwnHead t n old h) (sym long) own

    move_ahead : (move : Move) → IsMoveAhead t text old h (record { found = f; only = false }) move
    move_ahead move = record { decided = sees.decided; only = λ no_only. absurd (let e : false ≡ true = no_only in cc) }

    pub acted_shift : (next : ℕ) (k : StackHead) → a ≡ Shift next → config_of new k ≡ pushed (config_of old h) (token_tree f.token f.pad f.size)
        → packed_of new k ≡ packed_with (packed_of old h) (token_tree f.token f.pad f.size)
        → ((u : ParseTable) (n : ℕ) → IsOwnHead u n old h → LiesAhead n h.place f → IsToken u.grammar f.token.0 → IsStateOf u (f.token.0 ∷ read_on old h) next → IsOwnHead u n new k)
        → ((u : ParseTable) (states : States) (w : Bytes) → IsTable u → AreStatesOf u states → IsOwnHead u (length w) old h → IsMoveAhead u w old h (record { found = f; only = false }) shift → StandOnHead u states w old h → StandOnHead u states w new k)
        → IsActed t text old new h f best best a (To k)
    acted_shift next k is config layers live stand = (
      live t (length text) mine (lies_ahead t (length text) text old h f refl (is_token next is).0 sees) (is_token next is) (shifts_token next is).1,
      subst (λ (b : Action). ActionLeads t.grammar (config_of old h) f b (config_of new k)) (sym is) config,
      subst (λ (b : Action). LayersLead t.grammar (packed_of old h) f b (packed_of new k)) (sym is) layers,
      (λ states are s. stand t states text table are mine (move_ahead shift) s),
      refl,
    )

    pub acted_reduce : (number : ℕ) (o : Option StackHead) (k : StackHead) → o ≡ Some k → a ≡ Reduce number → IsReducedTo t size number old new h o → IfSome o (IsOwnHead t size new)
        → IfSome o (λ q. (states : States) (w : Bytes) → length w ≡ size → AreStatesOf t states → IsMoveAhead t w old h (record { found = f; only = false }) (reduce number) → StandOnHead t states w old h → StandOnHead t states w new q)
        → IsActed t text old new h f best best a (To k)
    acted_reduce number o k some is done live stand =
        let r : IsReducedTo t size number old new h (Some k) = subst (λ (x : Option StackHead). IsReducedTo t size number old new h x) some done in (
          subst (λ (n : ℕ). IsOwnHead t n new k) (sym long) (subst (λ (x : Option StackHead). IfSome x (IsOwnHead t size new)) some live),
          subst (λ (b : Action). ActionLeads t.grammar (config_of old h) f b (config_of new k)) (sym is) (r.node, r.after, r.reduction, r.done.0, r.done.2),
          subst (λ (b : Action). LayersLead t.grammar (packed_of old h) f b (packed_of new k)) (sym is) (r.layer, r.layers, r.packed, r.done.3, r.done.4),
          (λ states are s.
              subst (λ (x : Option StackHead). IfSome x (λ q. (states : States) (w : Bytes) → length w ≡ size → AreStatesOf t states → IsMoveAhead t w old h (record { found = f; only = false }) (reduce number) → StandOnHead t states w old h → StandOnHead t states w new q)) some stand
              states text long are (move_ahead (reduce number)) s),
          refl,
        )

    pub acted_too_deep : (number : ℕ) (o : Option StackHead) → o ≡ None → a ≡ Reduce number → IsReducedTo t size number old new h o → IsActed t text old new h f best best a TooDeep
    acted_too_deep number o none is done =
        let r : IsReducedTo t size number old new h None = subst (λ (x : Option StackHead). IsReducedTo t size number old new h x) none done in
        (number, r.layer, r.layers, is, r.packed, r.done)

    pub acted_accept : (u : Tree) (after : Option Tree) → a ≡ Accept → IsRootOf (config_of old h).stack (bare u) → KeepsBest best after u → EachTree (IsOwnWithin t.grammar) (children_of u) → state_of u ≡ None
        → ((states : States) (w : Bytes) → length w ≡ size → AreStatesOf t states → StandOnHead t states w old h → IsSound t.grammar states w u)
        → IsActed t text old new h f best after a Ended
    acted_accept u after is root kept each none sound =
        (is, (u, root, kept, record { own = each; none = none; sound = λ states are s. sound states text long are s }))

-- ---- where an action leads

module _ (g : FlatGrammar) (c : Configuration) (k : PackedStack) (f : FoundToken) where
  pub lead_once : (a : Action) (d e : PackedStack) → LayersLead g k f a d → LayersLead g k f a e → d ≡ e
  lead_once (Shift next) d e p q = p ∙ sym q
  lead_once (Reduce n) d e p q =
      let r = one_packed g n k.stack p.0 q.0 p.1 q.1 p.2 q.2 in
      p.4 ∙ ap {B = PackedStack} (λ (s : List PackedTree). record { stack = s; place = k.place }) r.1 ∙ sym q.4
  lead_once Accept d e p q = absurd p

  lead_shallow : (a : Action) (d : PackedStack) → LayersLead g k f a d → IsTooDeep g k a → ⊥
  lead_shallow (Shift next) d p deep = let e : Shift next ≡ Reduce deep.0 = deep.3 in cc
  lead_shallow (Reduce n) d p deep =
      let e : Reduce n ≡ Reduce deep.0 = deep.3 in
      let m : deep.0 ≡ n = cc in
      let r = one_packed g n k.stack p.0 deep.1 p.1 deep.2 p.2 (subst (λ (m : ℕ). IsPackedReduction g m k.stack deep.1 deep.2) m deep.4) in
      let d : p.0.depth ≡ deep.1.depth = ap (λ (x : PackedTree). x.depth) r.0 in
      omega (arith, d, p.3, deep.5)
  lead_shallow Accept d p deep = absurd p

  layers_no_end : (a : Action) (d : PackedStack) → LayersLead g k f a d → a ≡ Accept → ⊥
  layers_no_end a d p is = subst (λ (b : Action). LayersLead g k f b d) is p

  leads_no_end : (a : Action) (d : Configuration) → ActionLeads g c f a d → a ≡ Accept → ⊥
  leads_no_end a d p is = subst (λ (b : Action). ActionLeads g c f b d) is p

-- ---- one more action

module _ (t : ParseTable) (text : Bytes) (trees : List Tree) (c : Configuration) (k : PackedStack) (f : FoundToken) where
  abbrev Sound : List (List Layer) → List Action → StackHead → Type 0
  Sound stacks done h = IsOwnHead t (length text) stacks h × StandAfter t text trees stacks h × Any (λ (a : Action). ActionLeads t.grammar c f a (config_of stacks h) × LayersLead t.grammar k f a (packed_of stacks h)) done

  abbrev Complete : List (List Layer) → List StackHead → Action → Type 0
  Complete stacks more a = (n : PackedStack) → LayersLead t.grammar k f a n → Any (λ (h : StackHead). packed_of stacks h ≡ n) more

  abbrev Accounted : Option Tree → Action → Type 0
  Accounted best a = a ≡ Accept → (u : Tree) → IsRootOf c.stack u → Withstands best u

  abbrev Shallow : Action → Type 0
  Shallow a = IsTooDeep t.grammar k a → ⊥

  abbrev Fruitful : List StackHead → Option Tree → Action → Type 0
  Fruitful more best a = (0 < length more) ⊎ ((b : Tree) × (best ≡ Some b))

  abbrev Ends : Action → Type 0
  Ends a = a ≡ Accept

  pub acting_begins : (stacks : List (List Layer)) (live : List StackHead) (best : Option Tree) → Acting t text trees stacks c k f [] live live best best
  acting_begins stacks live best = record {
    more = [];
    live_is = sym (append-nil live);
    few = omega arith;
    sound = tt;
    complete = tt;
    accepted = tt;
    shallow = tt;
    fruitful = tt;
    others = λ u w. w;
    from = λ b e. inl e;
    root = λ b e. inl e;
  }

  -- stacks that stay are known as before, among more actions
  sound_grown : (old new : List (List Layer)) (done : List Action) (a : Action) (more : List StackHead) → GainsStacks old new → OfEach (Sound old done) more → OfEach (Sound new (done ++ a ∷ [])) more
  sound_grown old new done a more grows all =
      each_map (Sound old done) (Sound new (done ++ a ∷ [])) more
      (λ h s. (
        own_stays t (length text) old new h grows s.0,
        (λ states are w. stand_stays t states text old new h grows s.0.live.there (s.1 states are w)),
        any_left (λ (b : Action). ActionLeads t.grammar c f b (config_of new h) × LayersLead t.grammar k f b (packed_of new h)) done (a ∷ [])
            (subst (λ (e : Configuration). Any (λ (b : Action). ActionLeads t.grammar c f b e × LayersLead t.grammar k f b (packed_of new h)) done) (sym (config_stays t (length text) old new h grows s.0.live))
            (subst (λ (e : PackedStack). Any (λ (b : Action). ActionLeads t.grammar c f b (config_of old h) × LayersLead t.grammar k f b e) done) (sym (packed_stays t (length text) old new h grows s.0.live)) s.2)),
      )) all

  found_grown : (old new : List (List Layer)) (done : List Action) (e : PackedStack) (more : List StackHead) → GainsStacks old new → OfEach (Sound old done) more → Any (λ (h : StackHead). packed_of old h ≡ e) more → Any (λ (h : StackHead). packed_of new h ≡ e) more
  found_grown old new done e [] grows all any = absurd any
  found_grown old new done e (h ∷ hs) grows all (inl is) = inl (packed_stays t (length text) old new h grows all.0.0.live ∙ is)
  found_grown old new done e (h ∷ hs) grows all (inr any) = inr (found_grown old new done e hs grows all.1 any)

  some_more : (hs : List StackHead) (h : StackHead) → 0 < length (hs ++ h ∷ [])
  some_more hs h = omega (arith, length-append hs (h ∷ []))

  -- the action led to a head
  pub acting_to : (old new : List (List Layer)) (done : List Action) (a : Action) (top : StackHead) (first live live' : List StackHead) (start best : Option Tree) → GainsStacks old new → Acting t text trees old c k f done first live start best
      → IsOwnHead t (length text) new top → StandAfter t text trees new top → ActionLeads t.grammar c f a (config_of new top) → LayersLead t.grammar k f a (packed_of new top) → live' ≡ live ++ top ∷ [] → Acting t text trees new c k f (done ++ a ∷ []) first live' start best
  acting_to old new done a top first live live' start best grows b head stand leads lead live_is = record {
    more = b.more ++ top ∷ [];
    live_is = live_is ∙ ap (λ (l : List StackHead). l ++ top ∷ []) b.live_is ∙ append_assoc first b.more (top ∷ []);
    few = omega (arith, length-append b.more (top ∷ []), length-append done (a ∷ []), b.few);
    sound = each_append (Sound new (done ++ a ∷ [])) b.more (top ∷ []) (sound_grown old new done a b.more grows b.sound)
        ((head, stand, any_right (λ (x : Action). ActionLeads t.grammar c f x (config_of new top) × LayersLead t.grammar k f x (packed_of new top)) done (a ∷ []) (inl (leads, lead))), tt);
    complete = each_append (Complete new (b.more ++ top ∷ [])) done (a ∷ [])
        (each_map (Complete old b.more) (Complete new (b.more ++ top ∷ [])) done
        (λ x all e l. any_left (λ (h : StackHead). packed_of new h ≡ e) b.more (top ∷ []) (found_grown old new done e b.more grows b.sound (all e l))) b.complete)
        ((λ e l. any_right (λ (h : StackHead). packed_of new h ≡ e) b.more (top ∷ []) (inl (lead_once t.grammar c k f a (packed_of new top) e lead l))), tt);
    accepted = each_append (Accounted best) done (a ∷ []) b.accepted ((λ is u r. absurd (leads_no_end t.grammar c k f a (config_of new top) leads is)), tt);
    shallow = each_append Shallow done (a ∷ []) b.shallow (lead_shallow t.grammar c k f a (packed_of new top) lead, tt);
    fruitful = each_append (Fruitful (b.more ++ top ∷ []) best) done (a ∷ [])
        (each_map (Fruitful b.more best) (Fruitful (b.more ++ top ∷ []) best) done (λ x w. inl (some_more b.more top)) b.fruitful) (inl (some_more b.more top), tt);
    others = b.others;
    from = λ u e. ⊎_elim (λ w. inl w) (λ w. inr (any_left Ends done (a ∷ []) w.0, w.1)) (b.from u e);
    root = b.root;
  }

  -- the action accepted a tree
  pub acting_ended : (old new : List (List Layer)) (done : List Action) (a : Action) (u : Tree) (first live live' : List StackHead) (start best after : Option Tree) → GainsStacks old new → Acting t text trees old c k f done first live start best
      → a ≡ Accept → IsRootOf c.stack (bare u) → KeepsBest best after u → IsSoundRoot t text trees u → live' ≡ live ++ [] → Acting t text trees new c k f (done ++ a ∷ []) first live' start after
  acting_ended old new done a u first live live' start best after grows b is root kept sound live_is = record {
    more = b.more;
    live_is = live_is ∙ append-nil live ∙ b.live_is;
    few = omega (arith, length-append done (a ∷ []), b.few);
    sound = sound_grown old new done a b.more grows b.sound;
    complete = each_append (Complete new b.more) done (a ∷ [])
        (each_map (Complete old b.more) (Complete new b.more) done (λ x all e l. found_grown old new done e b.more grows b.sound (all e l)) b.complete)
        ((λ e l. absurd (layers_no_end t.grammar c k f a e l is)), tt);
    accepted = each_append (Accounted after) done (a ∷ [])
        (each_map (Accounted best) (Accounted after) done (λ x all e v r. kept.others v (all e v r)) b.accepted)
        ((λ e v r. subst (λ (w : Tree). Withstands after w) (one_root c.stack (bare u) v root r) kept.mine), tt);
    shallow = each_append Shallow done (a ∷ []) b.shallow ((λ deep. let e : Accept ≡ Reduce deep.0 = sym is ∙ deep.3 in cc), tt);
    fruitful = each_append (Fruitful b.more after) done (a ∷ [])
        (each_map (Fruitful b.more best) (Fruitful b.more after) done (λ x w. inr (kept.mine.0, kept.mine.1)) b.fruitful) (inr (kept.mine.0, kept.mine.1), tt);
    others = λ v w. kept.others v (b.others v w);
    from = λ v e. ⊎_elim (λ w. inr (any_right Ends done (a ∷ []) (inl is), subst (λ (x : Tree). IsRootOf c.stack (bare x)) (one v (sym w ∙ e)) root))
        (λ w. ⊎_elim (λ x. inl x) (λ x. inr (any_left Ends done (a ∷ []) x.0, x.1)) (b.from v (sym w ∙ e))) kept.from;
    root = λ v e. ⊎_elim (λ w. inr (subst (λ (x : Tree). IsSoundRoot t text trees x) (one v (sym w ∙ e)) sound)) (λ w. b.root v (sym w ∙ e)) kept.from;
  }
    where
      one : (v : Tree) → Some u ≡ Some v → u ≡ v
      one v e = cc

  pub acting_more : (old new : List (List Layer)) (h : StackHead) (done : List Action) (a : Action) (m : Moved) (first live live' : List StackHead) (start best after : Option Tree) → config_of old h ≡ c → packed_of old h ≡ k → trees_on (stack_at old h.top) ≡ trees → GainsStacks old new
      → Acting t text trees old c k f done first live start best → IsActed t text old new h f best after a m → is_deep m ≡ false → live' ≡ live ++ heads_of m → Acting t text trees new c k f (done ++ a ∷ []) first live' start after
  acting_more old new h done a (To top) first live live' start best after same layers on grows b acted shallow live_is =
      subst (λ (o : Option Tree). Acting t text trees new c k f (done ++ a ∷ []) first live' start o) (sym acted.4)
      (acting_to old new done a top first live live' start best grows b acted.0 (subst (λ (ts : List Tree). StandAfter t text ts new top) on acted.3) (subst (λ (d : Configuration). ActionLeads t.grammar d f a (config_of new top)) same acted.1)
      (subst (λ (d : PackedStack). LayersLead t.grammar d f a (packed_of new top)) layers acted.2) live_is)
  acting_more old new h done a Ended first live live' start best after same layers on grows b acted shallow live_is =
      acting_ended old new done a acted.1.0 first live live' start best after grows b acted.0 (subst (λ (d : Configuration). IsRootOf d.stack (bare acted.1.0)) same acted.1.1) acted.1.2 (subst (λ (ts : List Tree). IsSoundRoot t text ts acted.1.0) on acted.1.3) live_is
  acting_more old new h done a TooDeep first live live' start best after same layers on grows b acted shallow live_is = absurd (let e : true ≡ false = shallow in cc)

  pub acted_deep : (old new : List (List Layer)) (h : StackHead) (a : Action) (m : Moved) (best after : Option Tree) → packed_of old h ≡ k → IsActed t text old new h f best after a m → is_deep m ≡ true → IsTooDeep t.grammar k a
  acted_deep old new h a (To top) best after same acted deep = absurd (let e : false ≡ true = deep in cc)
  acted_deep old new h a Ended best after same acted deep = absurd (let e : false ≡ true = deep in cc)
  acted_deep old new h a TooDeep best after same acted deep = subst (λ (d : PackedStack). IsTooDeep t.grammar d a) same acted
