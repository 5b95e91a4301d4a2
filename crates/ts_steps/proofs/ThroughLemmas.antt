-- Readings for which the layers of a stack stand: what they come to where the stack goes on by its only moves.
use Rattle.std.proofs.Common.{◌≡◌, ◌∙◌, sym, ap, refl, subst, ℕ, ◌⊎◌, inl, inr, ⊎_elim, List, [], ◌∷◌, map, arith}
use Rattle.ts_base.specs.Bytes.{Bytes}
use Rattle.ts_core.specs.declared.flat.FlatGrammar.{FlatGrammar}
use Rattle.ts_core.specs.declared.symbol.Symbol.{Symbol}
use Rattle.spec_lexing.specs.Lexing.{Found, token, absent}
use Rattle.spec_tables.specs.Actions.{Move, Act, shift, reduce, accept}
use Rattle.spec_tables.specs.Fit.{Fit}
use Rattle.spec_trees.specs.declared.tree.Tree.{Tree}
use Rattle.spec_trees.specs.Trees.{bare}
use Rattle.spec_trees.specs.Made.{as_extra}
use Rattle.spec_trees.specs.Choice.{Better}
use Rattle.spec_runs.specs.Configurations.{Configuration, starting, stack_symbols, token_tree, HasMove, NextIs}
use Rattle.spec_runs.specs.Runs.{CanMove, Run, run_here, run_on, IsReached, ComesTooDeep, AcceptsTree, StopsAt}
use Rattle.spec_runs.specs.Outcomes.{FreshOutcome, tree_outcome, stuck_outcome, deep_outcome}
use Rattle.spec_forced.specs.OnlyRuns.{IsOnlyStep, OnlyRun, only_here, only_on, Meet, IsFork, EndAlike, FreshFrom}
use Rattle.spec_packing.specs.Replacing.{AllReplace}
use Rattle.spec_packing.specs.Serving.{AllServe, ServesConfiguration, ComesToServe}
use Rattle.spec_packing.specs.Packing.{PackedTree, PackedStack, packed_trees, packed_alone, own_config, stack_alone, AllCover, Packs, WasMet, GoesThrough, packed_with, IsPackedReduction, PackedStepsOn, shift_packed, pass_packed, reduce_packed, PackedIsTooDeep}
use Rattle.ts_table.specs.declared.view.ParseTable.{ParseTable}
use Rattle.ts_gss.specs.declared.layer.Layer.{Layer}
use Rattle.ts_gss.specs.Stacks.{stack_at}
use Rattle.ts_steps.specs.declared.head.StackHead.{StackHead}
use Rattle.ts_steps.specs.declared.reparsed.Reparsed.{Reparsed}
use Rattle.ts_steps.specs.declared.reparsed.Reparsed.TheVariants.{Accepted, Stuck, Deep, Forks}
use Rattle.ts_steps.specs.MoveLaws.{Laws}
use Rattle.ts_steps.specs.Laws.{PackLaws}
use Rattle.ts_steps.specs.LiveHeads.{config_of, packed_of, packed_layers, AreAlone}
use Rattle.ts_steps.specs.Reparsing.{FreshThrough, IsNoEnd, LeadThrough, ComesByLayers, IsOnlyAccept, EndsFrom, LeadsOn}
use Rattle.ts_steps.proofs.LayerLemmas.{layers_trees, alone_is}
use Rattle.ts_steps.proofs.MoveLemmas.{found_no, same_symbol, shift_no, reduce_no}

-- ---- runs

pub run_chain : (g : FlatGrammar) (text : Bytes) (a b c : Configuration) → Run g text a b → Run g text b c → Run g text a c
run_chain g text a _ c (run_here _) s = s
run_chain g text a b c (run_on _ d _ first rest) s = run_on a d c first (run_chain g text d b c rest s)

through_reached : (g : FlatGrammar) (text : Bytes) (k : PackedStack) (d : Configuration) → GoesThrough g text k d → IsReached g text d
through_reached g text k d w = run_chain g text starting w.from d w.reached w.run

-- ---- lists

alone_trees : (ts : List Tree) → packed_trees (map packed_alone ts) ≡ ts
alone_trees [] = refl
alone_trees (t ∷ ts) = ap (λ (us : List Tree). t ∷ us) (alone_trees ts)

alone_own : (c : Configuration) → own_config (stack_alone c) ≡ c
alone_own c = ap {B = Configuration} (λ (ts : List Tree). record { stack = ts; place = c.place }) (alone_trees c.stack)

pub own_of : (stacks : List (List Layer)) (h : StackHead) → own_config (packed_of stacks h) ≡ config_of stacks h
own_of stacks h = ap {B = Configuration} (λ (ts : List Tree). record { stack = ts; place = h.place }) (layers_trees (stack_at stacks h.top))

-- layers that are as deep as their trees are those of their reading
alone_of : (stacks : List (List Layer)) (h : StackHead) → AreAlone (packed_of stacks h).stack → packed_of stacks h ≡ stack_alone (config_of stacks h)
alone_of stacks h all =
    ap {B = PackedStack} (λ (ls : List PackedTree). record { stack = ls; place = h.place }) (alone_is (packed_layers (stack_at stacks h.top)) all)
    ∙ ap stack_alone (own_of stacks h)

serves_all : (ts us : List Tree) → AllCover (map packed_alone ts) us → AllReplace ts us → AllServe ts us
serves_all [] [] a b = tt
serves_all [] (u ∷ us) a b = absurd b
serves_all (t ∷ ts) [] a b = absurd b
serves_all (t ∷ ts) (u ∷ us) a b = (
  record { symbol = b.0.symbol; extra = b.0.extra; pad = b.0.pad; size = b.0.size; depth = a.0.depth; no_better = b.0.no_better },
  serves_all ts us a.1 b.1,
)

alone_serves : (c d : Configuration) → Packs (stack_alone c) d → ServesConfiguration c d
alone_serves c d p = record {
  place = p.covers.place;
  stack = serves_all c.stack d.stack p.covers.stack (subst (λ (ts : List Tree). AllReplace ts d.stack) (alone_trees c.stack) p.trees);
}

-- ---- moves that differ

packed_by : PackedStack → (Tree → Tree) → Found → PackedStack
packed_by k f (token s pad size) = packed_with k (f (token_tree s pad size))
packed_by k f (absent n) = k

same_pushed : (k : PackedStack) (f : Tree → Tree) (s r : Symbol) (pad size p z : ℕ) → token s pad size ≡ token r p z → packed_with k (f (token_tree s pad size)) ≡ packed_with k (f (token_tree r p z))
unfolding packed_by
same_pushed k f s r pad size p z e = ap (packed_by k f) e

number_in : Move → ℕ
number_in shift = 0
number_in (reduce n) = n
number_in accept = 0

IsShift : Move → Type 0
IsShift shift = Unit {0}
IsShift (reduce n) = ⊥
IsShift accept = ⊥

not_shift : (n : ℕ) → reduce n ≡ shift → ⊥
unfolding IsShift
not_shift n e = subst IsShift (sym e) tt

same_number : (n m : ℕ) → reduce n ≡ reduce m → n ≡ m
unfolding number_in
same_number n m e = ap number_in e

-- ---- the only step

module _ (laws : Laws) (packs : PackLaws) (g : FlatGrammar) (fit : Fit g) (text : Bytes) (k : PackedStack) where
  abbrev c : Configuration
  c = own_config k

  can : (move : Move) (s : Symbol) (pad size : ℕ) → NextIs g text c (token s pad size) → Act g (stack_symbols (packed_trees k.stack)) s.0 move → CanMove g text c move
  can move s pad size next act = record { symbol = s; pad = pad; size = size; next = next; stays = act }

  seen_once : (s r : Symbol) (pad size p z : ℕ) → NextIs g text c (token s pad size) → NextIs g text c (token r p z) → token s pad size ≡ token r p z
  seen_once s r pad size p z a b = laws.one_sight g text c (token s pad size) (token r p z) a b

  -- a move on the token that is passed
  no_idle : (s : Symbol) (pad size : ℕ) → NextIs g text c (token s pad size) → (HasMove g (stack_symbols (packed_trees k.stack)) s.0 → ⊥) → (move : Move) → CanMove g text c move → ⊥
  no_idle s pad size next idle move m =
      let on : m.symbol.0 ≡ s.0 = same_symbol s m.symbol pad size m.pad m.size (seen_once m.symbol s m.pad m.size pad size m.next next) in
      idle (move, subst (λ (n : ℕ). Act g (stack_symbols (packed_trees k.stack)) n move) on m.stays)

  module _ (one : (first second : Move) → CanMove g text c first → CanMove g text c second → first ≡ second) where
    pub layers_shallow : (n : PackedStack) → PackedStepsOn g text k n → PackedIsTooDeep g text k → ⊥
    layers_shallow _ (shift_packed s pad size next act) d = not_shift d.number (one (reduce d.number) shift d.move (can shift s pad size next act))
    layers_shallow _ (pass_packed s pad size next extra idle) d = no_idle s pad size next idle (reduce d.number) d.move
    layers_shallow _ (reduce_packed number node after move r low) d =
        let m : d.number ≡ number = same_number d.number number (one (reduce d.number) (reduce number) d.move move) in
        let w = packs.once g number k.stack node d.node after d.after r (subst (λ (n : ℕ). IsPackedReduction g n k.stack d.node d.after) m d.reduction) in
        let deep : node.depth ≡ d.node.depth = ap (λ (x : PackedTree). x.depth) w.0 in
        let more = d.deep in
        omega (arith, low, more, deep)

    pub layers_once : (n m : PackedStack) → PackedStepsOn g text k n → PackedStepsOn g text k m → n ≡ m
    layers_once _ _ (shift_packed s pad size next act) (shift_packed r p z next' act') = same_pushed k (λ (t : Tree). t) s r pad size p z (seen_once s r pad size p z next next')
    layers_once _ _ (shift_packed s pad size next act) (pass_packed r p z next' extra idle) = absurd (no_idle r p z next' idle shift (can shift s pad size next act))
    layers_once _ _ (shift_packed s pad size next act) (reduce_packed number node after move r low) = absurd (not_shift number (one (reduce number) shift move (can shift s pad size next act)))
    layers_once _ _ (pass_packed r p z next' extra idle) (shift_packed s pad size next act) = absurd (no_idle r p z next' idle shift (can shift s pad size next act))
    layers_once _ _ (pass_packed s pad size next extra idle) (pass_packed r p z next' extra' idle') = same_pushed k as_extra s r pad size p z (seen_once s r pad size p z next next')
    layers_once _ _ (pass_packed s pad size next extra idle) (reduce_packed number node after move r low) = absurd (no_idle s pad size next idle (reduce number) move)
    layers_once _ _ (reduce_packed number node after move r low) (shift_packed s pad size next act) = absurd (not_shift number (one (reduce number) shift move (can shift s pad size next act)))
    layers_once _ _ (reduce_packed number node after move r low) (pass_packed s pad size next extra idle) = absurd (no_idle s pad size next idle (reduce number) move)
    layers_once _ _ (reduce_packed number node after move r low) (reduce_packed other node' after' move' r' low') =
        let m : other ≡ number = same_number other number (one (reduce other) (reduce number) move' move) in
        let w = packs.once g number k.stack node node' after after' r (subst (λ (n : ℕ). IsPackedReduction g n k.stack node' after') m r') in
        ap {B = PackedStack} (λ (ls : List PackedTree). record { stack = ls; place = k.place }) w.1

  -- all runs go through what the new layers stand for, or do not end where they are
  pub step_through : (n : PackedStack) → WasMet g text k → IsOnlyStep g text c (own_config n) → PackedStepsOn g text k n → LeadThrough g text k n
  step_through n met only step = record {
    met = packs.met g fit text k n met step;
    run = run_on c (own_config n) (own_config n) only.step (run_here (own_config n));
    on = λ d w. ⊎_elim (λ here. inl (no_end d (through_reached g text k d w) here))
        (λ r. ⊎_elim (λ deep. absurd (layers_shallow only.one n step deep)) (λ more. inr (subst (λ (m : PackedStack). GoesThrough g text m d) (layers_once only.one more.0 n more.1 step) more.2)) r) (packs.on g fit text k d met w);
  }
    where
      no_end : (d : Configuration) → IsReached g text d → Packs k d → IsNoEnd g text d
      no_end d reached p = record {
        unaccepted = λ u a. let t = packs.accepts g fit text k d u met reached p a in only.unaccepted t.0 t.1;
        unstuck = λ q s. only.unstuck q (packs.stops g fit text k d q p s);
        shallow = λ deep. layers_shallow only.one n step (packs.deep g fit text k d met reached p deep);
      }

  -- ---- where nothing leads on

  -- to accept is the only move: a run through the layers ends at what they stand for
  module _ (met : WasMet g text k) (stays : (move : Move) → CanMove g text c move → move ≡ accept) (idle_not : (s : Symbol) (pad size : ℕ) → NextIs g text c (token s pad size) → (HasMove g (stack_symbols (packed_trees k.stack)) s.0 → ⊥) → ⊥) where
    no_deeper : PackedIsTooDeep g text k → ⊥
    no_deeper d = reduce_no d.number (stays (reduce d.number) d.move)

    no_step : (n : PackedStack) → PackedStepsOn g text k n → ⊥
    no_step _ (shift_packed s pad size next act) = shift_no (stays shift (can shift s pad size next act))
    no_step _ (pass_packed s pad size next extra idle) = idle_not s pad size next idle
    no_step _ (reduce_packed number node after move r low) = reduce_no number (stays (reduce number) move)

    pub ends_there : (d : Configuration) → GoesThrough g text k d → Packs k d
    ends_there d w = ⊎_elim (λ here. here) (λ r. ⊎_elim (λ deep. absurd (no_deeper deep)) (λ more. absurd (no_step more.0 more.1)) r) (packs.on g fit text k d met w)

    pub shallow_there : (d : Configuration) → GoesThrough g text k d → ComesTooDeep g text d → ⊥
    shallow_there d w deep = no_deeper (packs.deep g fit text k d met (through_reached g text k d w) (ends_there d w) deep)

-- ---- what goes through one stack goes through what stands for more

module _ (packs : PackLaws) (g : FlatGrammar) (fit : Fit g) (text : Bytes) where
  pub lead_same : (k : PackedStack) → WasMet g text k → LeadThrough g text k k
  lead_same k met = record { met = met; run = run_here (own_config k); on = λ d w. inr w }

  pub lead_more : (k m n : PackedStack) → LeadThrough g text k m → LeadThrough g text m n → LeadThrough g text k n
  lead_more k m n a b = record {
    met = b.met;
    run = run_chain g text (own_config k) (own_config m) (own_config n) a.run b.run;
    on = λ d w. ⊎_elim (λ no. inl no) (λ w'. b.on d w') (a.on d w);
  }

  -- layers stand for their own trees
  pub own_packs : (k : PackedStack) → WasMet g text k → Packs k (own_config k)
  own_packs k met =
      let all : AllReplace (packed_trees (map packed_alone (packed_trees k.stack))) (packed_trees k.stack) = (packs.own g fit text (own_config k) met.reached).1.trees in
      record { covers = met.own; trees = subst (λ (ts : List Tree). AllReplace ts (packed_trees k.stack)) (alone_trees (packed_trees k.stack)) all }

  pub own_through : (k : PackedStack) (d : Configuration) → WasMet g text k → Run g text (own_config k) d → GoesThrough g text k d
  own_through k d met run = record { from = own_config k; reached = met.reached; stands = own_packs k met; run = run }

  -- what all runs come to that go through the layers, by those to which they lead
  pub back_tree : (k m : PackedStack) (u : Tree) → WasMet g text k → LeadThrough g text k m → FreshFrom g text (own_config m) (tree_outcome u) → FreshThrough g text m (tree_outcome u) → FreshThrough g text k (tree_outcome u)
  back_tree k m u met lead own f = record {
    shallow = λ w. ⊎_elim (λ no. no.shallow w.2) (λ on. f.shallow (w.0, on, w.2)) (lead.on w.0 w.1);
    accepted = (own.accepted.0, own_through k own.accepted.0 met (run_chain g text (own_config k) (own_config m) own.accepted.0 lead.run own.accepted.1), own.accepted.2);
    best = λ x w better. ⊎_elim (λ no. no.unaccepted x w.2) (λ on. f.best x (w.0, on, w.2) better) (lead.on w.0 w.1);
  }

  pub back_stuck : (k m : PackedStack) (place : ℕ) → WasMet g text k → LeadThrough g text k m → FreshFrom g text (own_config m) (stuck_outcome place) → FreshThrough g text m (stuck_outcome place) → FreshThrough g text k (stuck_outcome place)
  back_stuck k m place met lead own f = record {
    shallow = λ w. ⊎_elim (λ no. no.shallow w.2) (λ on. f.shallow (w.0, on, w.2)) (lead.on w.0 w.1);
    none = λ x w. ⊎_elim (λ no. no.unaccepted x w.2) (λ on. f.none x (w.0, on, w.2)) (lead.on w.0 w.1);
    stops = (own.stops.0, own_through k own.stops.0 met (run_chain g text (own_config k) (own_config m) own.stops.0 lead.run own.stops.1), own.stops.2);
    greatest = λ q w. ⊎_elim (λ no. absurd (no.unstuck q w.2)) (λ on. f.greatest q (w.0, on, w.2)) (lead.on w.0 w.1);
  }

  -- ---- layers that stand for one reading and what it serves

  module _ (c : Configuration) (reached : IsReached g text c) where
    served : (d : Configuration) → GoesThrough g text (stack_alone c) d → ComesToServe g text c d
    served d w = packs.run_served g fit text w.from c d w.reached reached (alone_serves c w.from w.stands) w.run

    alone_through : (d : Configuration) → Run g text c d → GoesThrough g text (stack_alone c) d
    alone_through d run = record { from = c; reached = reached; stands = (packs.own g fit text c reached).1; run = run }

    at_reached : (d : Configuration) → Run g text c d → IsReached g text d
    at_reached d run = run_chain g text starting c d reached run

    shallow_alone : (((e : Configuration) × Run g text c e × ComesTooDeep g text e) → ⊥) → (d : Configuration) → GoesThrough g text (stack_alone c) d → ComesTooDeep g text d → ⊥
    shallow_alone none d w deep =
        let s = served d w in
        ⊎_elim (λ far. none (s.at, s.run, far)) (λ sv. none (s.at, s.run, packs.deep_served g fit text d s.at (through_reached g text (stack_alone c) d w) (at_reached s.at s.run) sv deep)) s.serves

    accepts_alone : (((e : Configuration) × Run g text c e × ComesTooDeep g text e) → ⊥) → (d : Configuration) (x : Tree) → GoesThrough g text (stack_alone c) d → AcceptsTree g text d x
        → (t : Tree) × ((e : Configuration) × Run g text c e × AcceptsTree g text e t) × (Better x t → ⊥)
    accepts_alone none d x w a =
        let s = served d w in
        ⊎_elim (λ far. absurd (none (s.at, s.run, far)))
        (λ sv. let b = packs.accepts_served g fit text d s.at x (through_reached g text (stack_alone c) d w) (at_reached s.at s.run) sv a in (b.0, (s.at, s.run, b.1), b.2)) s.serves

    stops_alone : (((e : Configuration) × Run g text c e × ComesTooDeep g text e) → ⊥) → (d : Configuration) (q : ℕ) → GoesThrough g text (stack_alone c) d → StopsAt g text d q → (e : Configuration) × Run g text c e × StopsAt g text e q
    stops_alone none d q w stop =
        let s = served d w in
        ⊎_elim (λ far. absurd (none (s.at, s.run, far))) (λ sv. (s.at, s.run, packs.stops_served g text d s.at q sv stop)) s.serves

    pub alone_tree : (u : Tree) → FreshFrom g text c (tree_outcome u) → FreshThrough g text (stack_alone c) (tree_outcome u)
    alone_tree u f = record {
      shallow = λ w. shallow_alone f.shallow w.0 w.1 w.2;
      accepted = (f.accepted.0, alone_through f.accepted.0 f.accepted.1, f.accepted.2);
      best = λ x w better.
          let b = accepts_alone f.shallow w.0 x w.1 w.2 in
          packs.no_better (bare u) b.0 x (f.best b.0 b.1) b.2 better;
    }

    pub alone_stuck : (place : ℕ) → FreshFrom g text c (stuck_outcome place) → FreshThrough g text (stack_alone c) (stuck_outcome place)
    alone_stuck place f = record {
      shallow = λ w. shallow_alone f.shallow w.0 w.1 w.2;
      none = λ x w. let b = accepts_alone f.shallow w.0 x w.1 w.2 in f.none b.0 b.1;
      stops = (f.stops.0, alone_through f.stops.0 f.stops.1, f.stops.2);
      greatest = λ q w. f.greatest q (stops_alone f.shallow w.0 q w.1 w.2);
    }

  -- the only run from a reading
  pub only_through : (laws : Laws) (c d : Configuration) → OnlyRun g text c d → IsReached g text c → LeadThrough g text (stack_alone c) (stack_alone d)
  only_through laws c _ (only_here _) reached = lead_same (stack_alone c) (packs.own g fit text c reached).0
  only_through laws c d (only_on _ x _ s rest) reached =
      let on : IsOnlyStep g text (own_config (stack_alone c)) (own_config (stack_alone x)) =
      subst (λ (y : Configuration). IsOnlyStep g text y (own_config (stack_alone x))) (sym (alone_own c)) (subst (λ (y : Configuration). IsOnlyStep g text c y) (sym (alone_own x)) s) in
      lead_more (stack_alone c) (stack_alone x) (stack_alone d) (step_through laws packs g fit text (stack_alone c) (stack_alone x) (packs.own g fit text c reached).0 on (packs.steps g fit text c reached x s.step))
      (only_through laws x d rest (run_chain g text starting c x reached (run_on c x x s.step (run_here x))))

-- ---- under way

-- What is known of the layers at first goes on to other ones: those of the stack, or those of a reading from which the
-- only runs meet those of the stack, where all layers are as deep as their trees.
pub record GoneThrough (g : FlatGrammar) (text : Bytes) (first : PackedStack) (stacks : List (List Layer)) (h : StackHead) : Type 0 where
  pub mid : PackedStack
  pub lead : LeadThrough g text first mid
  pub at : (mid ≡ packed_of stacks h) ⊎ ((c : Configuration) × (mid ≡ stack_alone c) × AreAlone (packed_of stacks h).stack × Meet g text c (config_of stacks h))

pub gone_none : (packs : PackLaws) (g : FlatGrammar) → Fit g → (text : Bytes) (stacks : List (List Layer)) (h : StackHead) → WasMet g text (packed_of stacks h) → GoneThrough g text (packed_of stacks h) stacks h
gone_none packs g fit text stacks h met = record { mid = packed_of stacks h; lead = lead_same packs g fit text (packed_of stacks h) met; at = inl refl }

-- for proofs alone: that the only runs from a configuration and from two others meet
abbrev Joins : FlatGrammar → Bytes → Type 0
Joins g text = (c d e : Configuration) → Meet g text c d → Meet g text d e → Meet g text c e

module _ (laws : Laws) (packs : PackLaws) (t : ParseTable) (fit : Fit t.grammar) (text : Bytes) (joins : Joins t.grammar text) (first : PackedStack) (old new : List (List Layer)) (h k : StackHead) (gone : GoneThrough t.grammar text first old h) where
  -- a move of the stack
  pub gone_on : ((c d : Configuration) → IsOnlyStep t.grammar text c d → Meet t.grammar text c d) → LeadsOn t text old new h k → GoneThrough t.grammar text first new k
  gone_on alone leads = ⊎_elim
      (λ is.
      let lead : LeadThrough t.grammar text first (packed_of old h) = subst (λ (m : PackedStack). LeadThrough t.grammar text first m) is gone.lead in
      let on : IsOnlyStep t.grammar text (own_config (packed_of old h)) (own_config (packed_of new k)) =
      subst (λ (c : Configuration). IsOnlyStep t.grammar text c (own_config (packed_of new k))) (sym (own_of old h)) (subst (λ (c : Configuration). IsOnlyStep t.grammar text (config_of old h) c) (sym (own_of new k)) leads.step) in
      record {
        mid = packed_of new k;
        lead = lead_more packs t.grammar fit text first (packed_of old h) (packed_of new k) lead (step_through laws packs t.grammar fit text (packed_of old h) (packed_of new k) lead.met on leads.layers);
        at = inl refl;
      })
      (λ w. record { mid = gone.mid; lead = gone.lead; at = inr (w.0, w.1, leads.exact w.2, joins w.0 (config_of old h) (config_of new k) w.3 (alone (config_of old h) (config_of new k) leads.step)) }) gone.at

  -- a stack that is put in its place, from which the only runs meet
  pub gone_over : AreAlone (packed_of old h).stack → AreAlone (packed_of new k).stack → Meet t.grammar text (config_of old h) (config_of new k) → GoneThrough t.grammar text first new k
  gone_over before after meet = record {
    mid = gone.mid;
    lead = gone.lead;
    at = ⊎_elim (λ is. inr (config_of old h, is ∙ alone_of old h before, after, meet)) (λ w. inr (w.0, w.1, after, joins w.0 (config_of old h) (config_of new k) w.3 meet)) gone.at;
  }

-- ---- the end

module _ (laws : Laws) (packs : PackLaws) (t : ParseTable) (fit : Fit t.grammar) (text : Bytes) (fresh : (c d : Configuration) → EndAlike t.grammar text c d → (o : FreshOutcome) → FreshFrom t.grammar text c o → FreshFrom t.grammar text d o)
    (ends : (c d : Configuration) → Meet t.grammar text c d → EndAlike t.grammar text c d) (fork : (c d : Configuration) → Meet t.grammar text c d → IsFork t.grammar text d → OnlyRun t.grammar text c d)
    (start old new : List (List Layer)) (s h : StackHead) (met : WasMet t.grammar text (packed_of start s)) (gone : GoneThrough t.grammar text (packed_of start s) old h) where
  abbrev first : PackedStack
  first = packed_of start s

  -- from the reading that the only runs meet
  from_alone : (c : Configuration) → Meet t.grammar text c (config_of old h) → (o : FreshOutcome) → FreshFrom t.grammar text (config_of old h) o → FreshFrom t.grammar text c o
  from_alone c meet o f = fresh (config_of old h) c (ends (config_of old h) c (meet.0, meet.2, meet.1)) o f

  own_from : (o : FreshOutcome) → FreshFrom t.grammar text (config_of old h) o → FreshFrom t.grammar text (own_config (packed_of old h)) o
  own_from o f = subst (λ (c : Configuration). FreshFrom t.grammar text c o) (sym (own_of old h)) f

  alone_from : (c : Configuration) (o : FreshOutcome) → FreshFrom t.grammar text c o → FreshFrom t.grammar text (own_config (stack_alone c)) o
  alone_from c o f = subst (λ (d : Configuration). FreshFrom t.grammar text d o) (sym (alone_own c)) f

  lead_at : (m : PackedStack) → gone.mid ≡ m → LeadThrough t.grammar text first m
  lead_at m is = subst (λ (n : PackedStack). LeadThrough t.grammar text first n) is gone.lead

  reached_at : (c : Configuration) → gone.mid ≡ stack_alone c → IsReached t.grammar text c
  reached_at c is = subst (λ (d : Configuration). IsReached t.grammar text d) (alone_own c) (lead_at (stack_alone c) is).met.reached

  -- a tree is accepted at the stack
  tree_here : (u : Tree) → WasMet t.grammar text (packed_of old h) → FreshFrom t.grammar text (own_config (packed_of old h)) (tree_outcome u) → IsOnlyAccept t.grammar text (own_config (packed_of old h)) → FreshThrough t.grammar text (packed_of old h) (tree_outcome u)
  tree_here u here f only =
      let k = packed_of old h in
      let idle : (r : Symbol) (pad size : ℕ) → NextIs t.grammar text (own_config k) (token r pad size) → (HasMove t.grammar (stack_symbols (packed_trees k.stack)) r.0 → ⊥) → ⊥ =
      λ r pad size next none. no_idle laws packs t.grammar fit text k r pad size next none accept only.here in
      record {
        shallow = λ w. shallow_there laws packs t.grammar fit text k here only.only idle w.0 w.1 w.2;
        accepted = (f.accepted.0, own_through packs t.grammar fit text k f.accepted.0 here f.accepted.1, f.accepted.2);
        best = λ x w better.
            let p = ends_there laws packs t.grammar fit text k here only.only idle w.0 w.1 in
            let b = packs.accepts t.grammar fit text k w.0 x here (through_reached t.grammar text k w.0 w.1) p w.2 in
            packs.no_better (bare u) b.0 x (f.best b.0 (own_config k, run_here (own_config k), b.1)) b.2 better;
      }

  -- no token is found at the stack
  stuck_here : (place : ℕ) → WasMet t.grammar text (packed_of old h) → FreshFrom t.grammar text (own_config (packed_of old h)) (stuck_outcome place) → StopsAt t.grammar text (own_config (packed_of old h)) place → FreshThrough t.grammar text (packed_of old h) (stuck_outcome place)
  stuck_here place here f stop =
      let k = packed_of old h in
      let no_token : (r : Symbol) (pad size : ℕ) → NextIs t.grammar text (own_config k) (token r pad size) → ⊥ =
      λ r pad size next. found_no r pad size stop.0 (laws.one_sight t.grammar text (own_config k) (token r pad size) (absent stop.0) next stop.1) in
      let none : (move : Move) → CanMove t.grammar text (own_config k) move → move ≡ accept = λ move m. absurd (no_token m.symbol m.pad m.size m.next) in
      let idle : (r : Symbol) (pad size : ℕ) → NextIs t.grammar text (own_config k) (token r pad size) → (HasMove t.grammar (stack_symbols (packed_trees k.stack)) r.0 → ⊥) → ⊥ = λ r pad size next no. no_token r pad size next in
      record {
        shallow = λ w. shallow_there laws packs t.grammar fit text k here none idle w.0 w.1 w.2;
        none = λ x w.
            let p = ends_there laws packs t.grammar fit text k here none idle w.0 w.1 in
            let b = packs.accepts t.grammar fit text k w.0 x here (through_reached t.grammar text k w.0 w.1) p w.2 in
            f.none b.0 (own_config k, run_here (own_config k), b.1);
        stops = (f.stops.0, own_through packs t.grammar fit text k f.stops.0 here f.stops.1, f.stops.2);
        greatest = λ q w.
            let p = ends_there laws packs t.grammar fit text k here none idle w.0 w.1 in
            f.greatest q (own_config k, run_here (own_config k), packs.stops t.grammar fit text k w.0 q p w.2);
      }

  pub gone_result : (r : Reparsed) → EndsFrom t text old new h r → ComesByLayers t text start new s r
  gone_result (Accepted u) e = ⊎_elim
      (λ is.
      let lead = lead_at (packed_of old h) is in
      let f = own_from (tree_outcome u) e.0 in
      let only = subst (λ (c : Configuration). IsOnlyAccept t.grammar text c) (sym (own_of old h)) e.5 in
      back_tree packs t.grammar fit text first (packed_of old h) u met lead f (tree_here u lead.met f only))
      (λ w.
      let f = from_alone w.0 w.3 (tree_outcome u) e.0 in
      back_tree packs t.grammar fit text first (stack_alone w.0) u met (lead_at (stack_alone w.0) w.1) (alone_from w.0 (tree_outcome u) f) (alone_tree packs t.grammar fit text w.0 (reached_at w.0 w.1) u f)) gone.at
  gone_result (Stuck place) e = ⊎_elim
      (λ is.
      let lead = lead_at (packed_of old h) is in
      let f = own_from (stuck_outcome place) e.0 in
      let stop = subst (λ (c : Configuration). StopsAt t.grammar text c place) (sym (own_of old h)) e.1 in
      back_stuck packs t.grammar fit text first (packed_of old h) place met lead f (stuck_here place lead.met f stop))
      (λ w.
      let f = from_alone w.0 w.3 (stuck_outcome place) e.0 in
      back_stuck packs t.grammar fit text first (stack_alone w.0) place met (lead_at (stack_alone w.0) w.1) (alone_from w.0 (stuck_outcome place) f) (alone_stuck packs t.grammar fit text w.0 (reached_at w.0 w.1) place f)) gone.at
  gone_result Deep e = ⊎_elim
      (λ is. packs.too_deep t.grammar fit text (packed_of old h) (lead_at (packed_of old h) is).met e.0)
      (λ w.
      let far = from_alone w.0 w.3 deep_outcome (config_of old h, run_here (config_of old h), e.1 w.2) in
      (far.0, run_chain t.grammar text starting w.0 far.0 (reached_at w.0 w.1) far.1, far.2)) gone.at
  gone_result (Forks k) e =
      let same : packed_of old h ≡ packed_of new k.head = ap (packed_of old) (sym e.0) ∙ ap (λ (x : List (List Layer)). packed_of x k.head) (sym e.1) in
      subst (λ (n : PackedStack). LeadThrough t.grammar text first n) same
      (⊎_elim (λ is. lead_at (packed_of old h) is)
      (λ w.
      subst (λ (n : PackedStack). LeadThrough t.grammar text first n) (sym (alone_of old h w.2))
      (lead_more packs t.grammar fit text first (stack_alone w.0) (stack_alone (config_of old h)) (lead_at (stack_alone w.0) w.1) (only_through packs t.grammar fit text laws w.0 (config_of old h) (fork w.0 (config_of old h) w.3 e.2) (reached_at w.0 w.1)))) gone.at)
