-- Following each way to read a text by itself: what holds at first, after each step, and at the end.
use Rattle.std.proofs.Common.{◌≡◌, ◌∙◌, sym, ap, refl, subst, ℕ, ◌-◌, ◌<◌, List, [], ◌∷◌, ◌++◌, length, length-append, take, Option, Some, None, inl, inr, ⊎_elim, arith}
use Rattle.ts_base.specs.Bytes.{Bytes}
use Rattle.ts_core.specs.declared.flat.FlatGrammar.{FlatGrammar}
use Rattle.spec_tables.specs.Fit.{Fit}
use Rattle.spec_trees.specs.declared.tree.Tree.{Tree}
use Rattle.spec_trees.specs.Trees.{children_of, state_of}
use Rattle.spec_runs.specs.Configurations.{Configuration}
use Rattle.spec_runs.specs.Runs.{StepsOn}
use Rattle.spec_runs.specs.Outcomes.{SomeIsTooDeep, Fresh}
use Rattle.spec_forced.specs.Sound.{States, IsSound}
use Rattle.spec_packing.specs.Packing.{PackedStack, PackedStepsOn, PackedIsTooDeep}
use Rattle.ts_table.specs.declared.view.ParseTable.{ParseTable}
use Rattle.ts_table.specs.Tables.{most_actions}
use Rattle.ts_gss.specs.declared.layer.Layer.{Layer}
use Rattle.ts_gss.specs.Stacks.{stack_at, trees_on}
use Rattle.ts_steps.specs.declared.head.StackHead.{StackHead}
use Rattle.ts_steps.specs.Good.{EachTree}
use Rattle.ts_steps.specs.LiveHeads.{config_of, packed_of, IsLiveHead, GainsStacks}
use Rattle.ts_steps.specs.Heads.{AreStatesOf, IsOwnWithin, IsOwnHead, StandOnHead}
use Rattle.ts_glr.specs.declared.outcome.Outcome.{Outcome}
use Rattle.ts_glr.specs.Lists.{OfEach}
use Rattle.ts_glr.specs.Laws.{PackingLaws}
use Rattle.ts_glr.specs.Steps.{HasForm, StandAfter}
use Rattle.ts_glr.specs.Search.{Spent, Searching, Owns, AllStand, Following}
use Rattle.ts_glr.specs.Outcomes.{value_of_outcome, EndsAs, IsTreeOf, IsOwnOutcome, IsSoundOutcome}
use Rattle.ts_glr.specs.Weights.{live_weight}
use Rattle.ts_glr.proofs.ListLemmas.{each_append, each_map, each_left, each_right}
use Rattle.ts_glr.proofs.StackLemmas.{own_stays, stand_stays, stay_grown}
use Rattle.ts_glr.proofs.LightLemmas.{StepsFall, live_falls}
use Rattle.ts_glr.proofs.SearchLemmas.{search_rests, search_more, deep_ends, fresh_ends, form_ends}
use Rattle.ts_glr.proofs.ParseLemmas.{own_start, start_rests, start_stands}

-- where there is no tree nothing is asked of its form
no_form : (g : FlatGrammar) (best : Option Tree) → best ≡ None → HasForm g best
no_form g best none b e = absurd (let f : ◌≡◌ {A = Option Tree} None (Some b) = sym none ∙ e in cc)

-- none was left
pub none_left : (old new : List StackHead) (count : ℕ) → old ≡ new ++ [] → count ≡ 0 → new ≡ take (count - 1) old → old ≡ []
none_left old new count is none rest =
    let empty : new ≡ [] = rest ∙ ap (λ (n : ℕ). take (n - 1) old) none in
    is ∙ ap (λ (xs : List StackHead). xs ++ []) empty

-- ---- what is so of all heads and of the best tree

module _ (t : ParseTable) (text : Bytes) where
  abbrev Own : List (List Layer) → StackHead → Type 0
  Own stacks h = IsOwnHead t (length text) stacks h

  abbrev New : List Tree → Configuration → PackedStack → List (List Layer) → StackHead → Type 0
  New trees c k stacks h = IsOwnHead t (length text) stacks h × StandAfter t text trees stacks h × StepsOn t.grammar text c (config_of stacks h) × PackedStepsOn t.grammar text k (packed_of stacks h)

  -- the head that stands last was followed
  owns_more : (most : ℕ) (old new : List (List Layer)) (rest live' : List StackHead) (h : StackHead) (best best' : Option Tree) (stuck stuck' : Option ℕ) → GainsStacks old new → Owns t (length text) old (rest ++ h ∷ []) best stuck
      → Spent t text (trees_on (stack_at old h.top)) new most (config_of old h) (packed_of old h) rest live' best best' stuck stuck' → Owns t (length text) new live' best' stuck'
  owns_more most old new rest live' h best best' stuck stuck' grows o sp = record {
    heads = subst (OfEach (Own new)) (sym sp.live_is) (each_append (Own new) rest sp.more
        (each_map (Own old) (Own new) rest (λ k w. own_stays t (length text) old new k grows w) (each_left (Own old) rest (h ∷ []) o.heads))
        (each_map (New (trees_on (stack_at old h.top)) (config_of old h) (packed_of old h) new) (Own new) sp.more (λ k w. w.0) sp.sound));
    tree = λ b e. ⊎_elim (λ w. o.tree b w) (λ r. (r.own, r.none)) (sp.root b e);
    some = ⊎_elim (λ (n : 0 < length sp.more). inl (omega (arith, n, ap (λ (l : List StackHead). length l) sp.live_is, length-append rest sp.more))) (λ x. inr x) sp.fruitful;
  }

  module _ (states : States) (are : AreStatesOf t states) where
    abbrev Stand : List (List Layer) → StackHead → Type 0
    Stand stacks h = StandOnHead t states text stacks h

    stand_more : (most : ℕ) (old new : List (List Layer)) (rest live' : List StackHead) (h : StackHead) (best best' : Option Tree) (stuck stuck' : Option ℕ) → GainsStacks old new → OfEach (Own old) rest
        → AllStand t states text old (rest ++ h ∷ []) best → Spent t text (trees_on (stack_at old h.top)) new most (config_of old h) (packed_of old h) rest live' best best' stuck stuck' → AllStand t states text new live' best'
    stand_more most old new rest live' h best best' stuck stuck' grows owns s sp =
        let here : StandOnHead t states text old h = (each_right (Stand old) rest (h ∷ []) s.heads).0 in
        record {
          heads = subst (OfEach (Stand new)) (sym sp.live_is) (each_append (Stand new) rest sp.more
              (still rest owns (each_left (Stand old) rest (h ∷ []) s.heads))
              (each_map (New (trees_on (stack_at old h.top)) (config_of old h) (packed_of old h) new) (Stand new) sp.more (λ k w. w.1 states are here) sp.sound));
          tree = λ b e. ⊎_elim (λ w. s.tree b w) (λ r. r.sound states are here) (sp.root b e);
        }
      where
        still : (ks : List StackHead) → OfEach (Own old) ks → OfEach (Stand old) ks → OfEach (Stand new) ks
        still [] a b = tt
        still (k ∷ ks) a b = (stand_stays t states text old new k grows a.0.live.there b.0, still ks a.1 b.1)

-- ---- all ways

module _ (packing : PackingLaws) (t : ParseTable) (fit : Fit t.grammar) (text : Bytes) where
  no_tree : (best : Option Tree) (b : Tree) → best ≡ None → best ≡ Some b → ⊥
  no_tree best b none e = let f : ◌≡◌ {A = Option Tree} None (Some b) = sym none ∙ e in cc

  -- at first
  begun : (stacks : List (List Layer)) (stuck : Option ℕ) (best : Option Tree) → stacks ≡ [] ∷ [] → best ≡ None → stuck ≡ None → Following t text stacks stuck (record { top = 0; place = 0 } ∷ []) best
  begun stacks stuck best empty none nowhere =
      let own = own_start t (length text) stacks empty in
      record {
        form = no_form t.grammar best none;
        owns = record { heads = (own, tt); tree = λ b e. absurd (no_tree best b none e); some = inl (omega arith) };
        search = subst (λ (o : Option Tree). Searching t text stacks (record { top = 0; place = 0 } ∷ []) o stuck) (sym none)
            (search_rests packing t fit text stacks (record { top = 0; place = 0 }) stuck own.live (start_rests packing t fit text stacks stuck empty nowhere));
        stand = λ states are. record { heads = (start_stands t states text stacks empty, tt); tree = λ b e. absurd (no_tree best b none e) };
      }

  pub begins : (stacks : List (List Layer)) (stuck : Option ℕ) (live : List StackHead) (best : Option Tree) → stacks ≡ [] ∷ [] → live ≡ record { top = 0; place = 0 } ∷ [] → best ≡ None → stuck ≡ None → Following t text stacks stuck live best
  begins stacks stuck live best empty one none nowhere = subst (λ (l : List StackHead). Following t text stacks stuck l best) (sym one) (begun stacks stuck best empty none nowhere)

  module _ (stacks : List (List Layer)) (stuck : Option ℕ) (live : List StackHead) (best : Option Tree) (f : Following t text stacks stuck live best) where
    pub some_end : live ≡ [] → best ≡ None → stuck ≡ None → ⊥
    some_end empty none no_place =
        ⊎_elim (λ (n : 0 < length live). let e : length live ≡ 0 = ap (λ (l : List StackHead). length l) empty in omega (arith, n, e))
        (λ w. ⊎_elim (λ u. let e : ◌≡◌ {A = Option Tree} None (Some u.0) = sym none ∙ u.1 in cc) (λ q. let e : ◌≡◌ {A = Option ℕ} None (Some q.0) = sym no_place ∙ q.1 in cc) w) f.owns.some

    -- all are followed
    module _ (out : Outcome) (empty : live ≡ []) (ends : EndsAs best stuck out) where
      pub form_over : IsTreeOf t.grammar out
      form_over = form_ends packing t fit text best stuck out f.form ends

      pub fresh_over : Fresh t.grammar text (value_of_outcome out)
      fresh_over = fresh_ends packing t fit text stacks live best stuck out empty f.search ends

      pub own_over : IsOwnOutcome t out
      own_over = own_out best f.owns.tree ends
        where
          own_out : (b : Option Tree) → ((u : Tree) → b ≡ Some u → EachTree (IsOwnWithin t.grammar) (children_of u) × (state_of u ≡ None)) → EndsAs b stuck out → IsOwnOutcome t out
          own_out (Some u) tree ends = subst (IsOwnOutcome t) (sym ends) (tree u refl)
          own_out None tree ends = place stuck ends
            where
              place : (q : Option ℕ) → EndsAs None q out → IsOwnOutcome t out
              place (Some q) ends = subst (IsOwnOutcome t) (sym ends) tt
              place None ends = absurd ends

      pub sound_over : (states : States) → AreStatesOf t states → IsSoundOutcome t states text out
      sound_over states are = sound_out best (f.stand states are).tree ends
        where
          sound_out : (b : Option Tree) → ((u : Tree) → b ≡ Some u → IsSound t.grammar states text u) → EndsAs b stuck out → IsSoundOutcome t states text out
          sound_out (Some u) tree ends = subst (IsSoundOutcome t states text) (sym ends) (tree u refl)
          sound_out None tree ends = place stuck ends
            where
              place : (q : Option ℕ) → EndsAs None q out → IsSoundOutcome t states text out
              place (Some q) ends = subst (IsSoundOutcome t states text) (sym ends) tt
              place None ends = absurd ends

    -- one is taken out
    module _ (rest : List StackHead) (k : StackHead) (taken : live ≡ rest ++ k ∷ []) where
      owns : Owns t (length text) stacks (rest ++ k ∷ []) best stuck
      owns = subst (λ (l : List StackHead). Owns t (length text) stacks l best stuck) taken f.owns

      search : Searching t text stacks (rest ++ k ∷ []) best stuck
      search = subst (λ (l : List StackHead). Searching t text stacks l best stuck) taken f.search

      stand : (states : States) → AreStatesOf t states → AllStand t states text stacks (rest ++ k ∷ []) best
      stand states are = subst (λ (l : List StackHead). AllStand t states text stacks l best) taken (f.stand states are)

      pub head_own : IsOwnHead t (length text) stacks k
      head_own = (each_right (Own t text stacks) rest (k ∷ []) owns.heads).0

      rest_own : OfEach (Own t text stacks) rest
      rest_own = each_left (Own t text stacks) rest (k ∷ []) owns.heads

      pub taken_deep : PackedIsTooDeep t.grammar text (packed_of stacks k) → SomeIsTooDeep t.grammar text
      taken_deep deep = deep_ends packing t fit text stacks rest k best stuck search deep

      -- it is followed
      module _ (new : List (List Layer)) (live' : List StackHead) (best' : Option Tree) (stuck' : Option ℕ) (grows : GainsStacks stacks new)
          (sp : Spent t text (trees_on (stack_at stacks k.top)) new (most_actions t) (config_of stacks k) (packed_of stacks k) rest live' best best' stuck stuck') where
        pub follows_falls : StepsFall → live_weight t (length text) new live' < live_weight t (length text) stacks live
        follows_falls falls =
            live_falls falls t fit text (trees_on (stack_at stacks k.top)) stacks new k rest sp.more live live' (stay_grown stacks new rest grows) taken sp.live_is sp.few head_own.live
            (each_map (Own t text stacks) (λ (x : StackHead). IsLiveHead t (length text) stacks x) rest (λ x w. w.live) rest_own) sp.sound

        pub follows : HasForm t.grammar best' → Following t text new stuck' live' best'
        follows form = record {
          form = form;
          owns = owns_more t text (most_actions t) stacks new rest live' k best best' stuck stuck' grows owns sp;
          search = search_more packing t fit text (trees_on (stack_at stacks k.top)) stacks new (most_actions t) rest live' k best best' stuck stuck' (stay_grown stacks new rest grows) search sp;
          stand = λ states are. stand_more t text states are (most_actions t) stacks new rest live' k best best' stuck stuck' grows rest_own (stand states are) sp;
        }
