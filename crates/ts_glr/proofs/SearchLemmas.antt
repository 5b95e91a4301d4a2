-- All runs are accounted for, from where one head is left to the outcome.
use Rattle.std.proofs.Common.{◌≡◌, sym, ap, refl, subst, ℕ, ◌<◌, List, [], ◌∷◌, ◌++◌, length, Option, Some, None, ◌⊎◌, inl, inr, ⊎_elim, arith, length-append}
use Rattle.ts_base.specs.Bytes.{Bytes}
use Rattle.spec_trees.specs.declared.tree.Tree.{Tree}
use Rattle.spec_trees.specs.Trees.{bare}
use Rattle.spec_tables.specs.Fit.{Fit}
use Rattle.spec_trees.specs.Choice.{Better}
use Rattle.spec_runs.specs.Configurations.{Configuration}
use Rattle.spec_runs.specs.Runs.{StepsOn, IsReached, AcceptsTree, StopsAt}
use Rattle.spec_runs.specs.Outcomes.{SomeIsTooDeep, Fresh}
use Rattle.spec_packing.specs.Packing.{PackedStack, Packs, WasMet, GoesThrough, PackedStepsOn, PackedIsTooDeep}
use Rattle.spec_crossing.specs.Resting.{AccountsFor, PackedRests}
use Rattle.ts_table.specs.declared.view.ParseTable.{ParseTable}
use Rattle.ts_gss.specs.declared.layer.Layer.{Layer}
use Rattle.ts_steps.specs.declared.head.StackHead.{StackHead}
use Rattle.ts_steps.specs.LiveHeads.{config_of, packed_of, IsLiveHead}
use Rattle.ts_glr.specs.declared.outcome.Outcome.{Outcome}
use Rattle.ts_glr.specs.Lists.{OfEach, Any}
use Rattle.ts_steps.specs.Heads.{IsOwnHead}
use Rattle.ts_glr.specs.Steps.{HasForm, StandAfter}
use Rattle.ts_glr.specs.Laws.{PackingLaws}
use Rattle.ts_glr.specs.Search.{StackStays, StacksStay, Keeps, AccountsForLayers, Spent, Searching}
use Rattle.ts_glr.specs.Outcomes.{value_of_outcome, EndsAs, IsTreeOf}
use Rattle.ts_glr.proofs.ListLemmas.{each_append, each_map, each_both, each_left, each_right, any_left, any_right, any_cases, any_map, any_both}
use Rattle.ts_glr.proofs.StackLemmas.{live_kept, packed_kept, own_is}

module _ (packing : PackingLaws) (t : ParseTable) (fit : Fit t.grammar) (text : Bytes) where
  abbrev Live : List (List Layer) → StackHead → Type 0
  Live stacks h = IsLiveHead t (length text) stacks h × WasMet t.grammar text (packed_of stacks h)

  abbrev LeadsBy : List (List Layer) → Configuration → StackHead → Type 0
  LeadsBy stacks c h = GoesThrough t.grammar text (packed_of stacks h) c

  abbrev Steps : List Tree → Configuration → PackedStack → List (List Layer) → StackHead → Type 0
  Steps trees c k stacks h = IsOwnHead t (length text) stacks h × StandAfter t text trees stacks h × StepsOn t.grammar text c (config_of stacks h) × PackedStepsOn t.grammar text k (packed_of stacks h)

  -- a run comes to the own trees of layers that were met
  pub own_reached : (stacks : List (List Layer)) (h : StackHead) → WasMet t.grammar text (packed_of stacks h) → IsReached t.grammar text (config_of stacks h)
  own_reached stacks h met = subst (λ (c : Configuration). IsReached t.grammar text c) (own_is stacks h) met.reached

  -- where one head is left
  pub search_rests : (stacks : List (List Layer)) (h : StackHead) (stuck : Option ℕ) → IsLiveHead t (length text) stacks h → PackedRests t.grammar text stuck (packed_of stacks h) → Searching t text stacks (h ∷ []) None stuck
  search_rests stacks h stuck live r = record {
    heads = ((live, r.met), tt);
    done = λ c reached. ⊎_elim (λ cov. inl cov) (λ w. inr (inl w)) (r.done c reached);
    tree_from = λ b e. absurd (let none : ◌≡◌ {A = Option Tree} None (Some b) = e in cc);
    stuck_from = r.stuck_from;
    some = inl (omega arith);
  }

  covers_more : (c d : Configuration) (best best' : Option Tree) (stuck stuck' : Option ℕ) → Keeps t.grammar text d best best' stuck stuck' → AccountsFor t.grammar text best stuck c → AccountsFor t.grammar text best' stuck' c
  covers_more c d best best' stuck stuck' k cov = record {
    accepted = λ u a. k.others u (cov.accepted u a);
    places = λ q s. k.past q (cov.places q s);
    shallow = cov.shallow;
  }

  -- what is accounted for at layers is at each configuration for which they stand
  covers_packed : (c : Configuration) (stacks : List (List Layer)) (h : StackHead) (best : Option Tree) (stuck : Option ℕ) → IsReached t.grammar text c → WasMet t.grammar text (packed_of stacks h) → Packs (packed_of stacks h) c
      → AccountsForLayers t.grammar text best stuck (config_of stacks h) (packed_of stacks h) → AccountsFor t.grammar text best stuck c
  covers_packed c stacks h best stuck rc met s cov = record {
    accepted = λ u a.
        let w = packing.accepts t.grammar fit text (packed_of stacks h) c u met rc s a in
        let b = cov.accepted w.0 (subst (λ (d : Configuration). AcceptsTree t.grammar text d w.0) (own_is stacks h) w.1) in
        (b.0, b.1, packing.no_better (bare b.0) w.0 u b.2 w.2);
    places = λ q stop. cov.places q (subst (λ (d : Configuration). StopsAt t.grammar text d q) (own_is stacks h) (packing.stops t.grammar fit text (packed_of stacks h) c q s stop));
    shallow = λ deep. cov.shallow (packing.deep t.grammar fit text (packed_of stacks h) c met rc s deep);
  }

  -- the head that stands last
  pub head_there : (stacks : List (List Layer)) (rest : List StackHead) (h : StackHead) (best : Option Tree) (stuck : Option ℕ) → Searching t text stacks (rest ++ h ∷ []) best stuck → Live stacks h
  head_there stacks rest h best stuck s = (each_right (Live stacks) rest (h ∷ []) s.heads).0

  live_still : (old new : List (List Layer)) (h : StackHead) → StackStays old new h → Live old h → Live new h
  live_still old new h stays l = (
    live_kept t (length text) old new h stays l.0,
    subst (λ (k : PackedStack). WasMet t.grammar text k) (sym (packed_kept t (length text) old new h stays l.0)) l.1,
  )

  -- the head that stands last was followed
  pub search_more : (trees : List Tree) (old new : List (List Layer)) (most : ℕ) (rest live' : List StackHead) (h : StackHead) (best best' : Option Tree) (stuck stuck' : Option ℕ) → StacksStay old new rest
      → Searching t text old (rest ++ h ∷ []) best stuck → Spent t text trees new most (config_of old h) (packed_of old h) rest live' best best' stuck stuck' → Searching t text new live' best' stuck'
  search_more trees old new most rest live' h best best' stuck stuck' stay s sp = record {
    heads = subst (OfEach (Live new)) (sym sp.live_is)
        (each_append (Live new) rest sp.more
        (each_both (StackStays old new) (Live old) (Live new) rest (λ k a w. live_still old new k a w) stay others)
        (each_map (Steps trees (config_of old h) (packed_of old h) new) (Live new) sp.more (λ k w. (w.0.live, packing.met t.grammar fit text (packed_of old h) (packed_of new k) met w.3)) sp.sound));
    done = λ c r. ⊎_elim (λ cov. inl (covers_more c (config_of old h) best best' stuck stuck' sp.keeps cov))
        (λ w. ⊎_elim (λ (u : Any (LeadsBy old c) rest). inr (in_rest c u)) (λ (v : Any (LeadsBy old c) (h ∷ [])). in_head c r v)
        (any_cases (LeadsBy old c) rest (h ∷ []) w)) (s.done c r);
    tree_from = λ b e. ⊎_elim (λ w. s.tree_from b w) (λ a. (config_of old h, reached, a)) (sp.keeps.from b e);
    stuck_from = λ q e. ⊎_elim (λ w. s.stuck_from q w) (λ a. (config_of old h, reached, a)) (sp.keeps.stuck_from q e);
    some = ⊎_elim (λ (n : 0 < length sp.more). inl (enough sp.more n sp.live_is)) (λ x. inr x) sp.fruitful;
  }
    where
      others : OfEach (Live old) rest
      others = each_left (Live old) rest (h ∷ []) s.heads

      kept : OfEach (λ k. StackStays old new k × Live old k) rest
      kept = each_both (StackStays old new) (Live old) (λ k. StackStays old new k × Live old k) rest (λ k a w. (a, w)) stay others

      met : WasMet t.grammar text (packed_of old h)
      met = (head_there old rest h best stuck s).1

      reached : IsReached t.grammar text (config_of old h)
      reached = own_reached old h met

      enough : (more : List StackHead) → 0 < length more → live' ≡ rest ++ more → 0 < length live'
      enough more n is = omega (arith, n, ap (λ (l : List StackHead). length l) is, length-append rest more)

      in_rest : (c : Configuration) → Any (LeadsBy old c) rest → Any (LeadsBy new c) live'
      in_rest c u =
          subst (Any (LeadsBy new c)) (sym sp.live_is)
          (any_left (LeadsBy new c) rest sp.more
          (any_both (λ k. StackStays old new k × Live old k) (LeadsBy old c) (LeadsBy new c) rest
          (λ k w r. subst (λ (d : PackedStack). GoesThrough t.grammar text d c) (sym (packed_kept t (length text) old new k w.0 w.1.0)) r)
          kept u))

      next_leads : (c : Configuration) → (n : PackedStack) × PackedStepsOn t.grammar text (packed_of old h) n × GoesThrough t.grammar text n c → Any (LeadsBy new c) live'
      next_leads c w =
          subst (Any (LeadsBy new c)) (sym sp.live_is)
          (any_right (LeadsBy new c) rest sp.more
          (any_map (λ (k : StackHead). packed_of new k ≡ w.0) (LeadsBy new c) sp.more
          (λ k is. subst (λ (x : PackedStack). GoesThrough t.grammar text x c) (sym is) w.2)
          (sp.complete w.0 w.1)))

      in_head : (c : Configuration) → IsReached t.grammar text c → Any (LeadsBy old c) (h ∷ []) → AccountsFor t.grammar text best' stuck' c ⊎ Any (LeadsBy new c) live'
      in_head c r (inl w) =
          ⊎_elim (λ stands. inl (covers_packed c old h best' stuck' r met stands sp.covers))
          (λ more. ⊎_elim (λ deep. absurd (sp.covers.shallow deep)) (λ next. inr (next_leads c next)) more)
          (packing.on t.grammar fit text (packed_of old h) c met w)
      in_head c r (inr w) = absurd w

  -- ---- the outcome

  pub deep_ends : (stacks : List (List Layer)) (rest : List StackHead) (h : StackHead) (best : Option Tree) (stuck : Option ℕ) → Searching t text stacks (rest ++ h ∷ []) best stuck → PackedIsTooDeep t.grammar text (packed_of stacks h) → SomeIsTooDeep t.grammar text
  deep_ends stacks rest h best stuck s deep = packing.too_deep t.grammar fit text (packed_of stacks h) (head_there stacks rest h best stuck s).1 deep

  all_covered : (stacks : List (List Layer)) (live : List StackHead) (best : Option Tree) (stuck : Option ℕ) → live ≡ [] → Searching t text stacks live best stuck → (c : Configuration) → IsReached t.grammar text c → AccountsFor t.grammar text best stuck c
  all_covered stacks live best stuck empty s c r = ⊎_elim (λ cov. cov) (λ w. absurd (subst (Any (LeadsBy stacks c)) empty w)) (s.done c r)

  pub fresh_ends : (stacks : List (List Layer)) (live : List StackHead) (best : Option Tree) (stuck : Option ℕ) (out : Outcome) → live ≡ [] → Searching t text stacks live best stuck → EndsAs best stuck out → Fresh t.grammar text (value_of_outcome out)
  fresh_ends stacks live (Some b) stuck out empty s ends = subst (λ (o : Outcome). Fresh t.grammar text (value_of_outcome o)) (sym ends) (record {
    shallow = λ d. (all_covered stacks live (Some b) stuck empty s d.0 d.1).shallow d.2;
    accepted = s.tree_from b refl;
    best = λ u a better.
        let w = (all_covered stacks live (Some b) stuck empty s a.0 a.1).accepted u a.2 in
        let e : Some b ≡ Some w.0 = w.1 in
        let same : b ≡ w.0 = cc in
        w.2 (subst (λ (v : Tree). Better u (bare v)) same better);
  })
  fresh_ends stacks live None (Some q) out empty s ends = subst (λ (o : Outcome). Fresh t.grammar text (value_of_outcome o)) (sym ends) (record {
    shallow = λ d. (all_covered stacks live None (Some q) empty s d.0 d.1).shallow d.2;
    none = λ u a. let w = (all_covered stacks live None (Some q) empty s a.0 a.1).accepted u a.2 in let e : None ≡ Some w.0 = w.1 in cc;
    stops = s.stuck_from q refl;
    greatest = λ r a.
        let p = (all_covered stacks live None (Some q) empty s a.0 a.1).places r a.2 in
        let e : Some q ≡ Some p.0 = p.1 in
        let same : p.0 ≡ q = cc in
        omega (arith, p.2, same);
  })
  fresh_ends stacks live None None out empty s ends = absurd ends

  pub form_ends : (best : Option Tree) (stuck : Option ℕ) (out : Outcome) → HasForm t.grammar best → EndsAs best stuck out → IsTreeOf t.grammar out
  form_ends (Some b) stuck out form ends = subst (λ (o : Outcome). IsTreeOf t.grammar o) (sym ends) (form b refl)
  form_ends None (Some q) out form ends = subst (λ (o : Outcome). IsTreeOf t.grammar o) (sym ends) tt
  form_ends None None out form ends = absurd ends
