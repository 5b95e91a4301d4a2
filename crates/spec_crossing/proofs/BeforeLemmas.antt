-- All that runs lay at places before one comes before the first key there.
use Rattle.std.proofs.Common.{◌≡◌, ◌∙◌, sym, ap, refl, subst, ℕ, ◌+◌, ◌<◌, ◌≤◌, ◌⊎◌, inl, inr, ⊎_elim, List, [], ◌∷◌, ◌++◌, append-nil, append_assoc, reverse, arith}
use Rattle.spec_tables.specs.Actions.{reduce}
use Rattle.spec_trees.specs.declared.tree.Tree.{Tree}
use Rattle.spec_trees.specs.Trees.{span_of, all_spans, tree_depth}
use Rattle.spec_trees.specs.Made.{filling, most_depth}
use Rattle.spec_runs.specs.Configurations.{Configuration, token_tree, IsReduction}
use Rattle.spec_runs.specs.Runs.{CanMove, StepsOn, shift_token, pass_extra, reduce_trees, Run, run_here, run_on}
use Rattle.spec_graph.specs.States.{at_first, AreRanks}
use Rattle.spec_graph.specs.Laying.{Parsing, HasRun, IsReading, extra_tree, node_made, Lays}
use Rattle.spec_graph.specs.Keys.{Key, LaysBefore, flat_before, stood_before, shifted_before, passed_before, made_before}
use Rattle.spec_graph.proofs.SightLemmas.{Facts, narrows}
use Rattle.spec_graph.proofs.EntryLemmas.{token_says, extra_says}
use Rattle.spec_graph.proofs.LayLemmas.{IsBase, order_cases, lays_read, lays_spans, lays_state, split, passes_on, reduction_parts}
use Rattle.spec_graph.proofs.OrderLemmas.{before_lays, due_extras}
use Rattle.spec_graph.proofs.BaseLemmas.{run_laid}

module _ (P : Parsing) (facts : Facts P) (base : IsBase P) (rank : ℕ → ℕ) (most : ℕ) (ranked : AreRanks P.grammar rank most) (n : ℕ) where
  abbrev pub first : Key
  first = record { look = n; begins = n; rank = most }

  -- the stack of a configuration comes before the first key of the place
  abbrev pub IsBefore : Configuration → Type 0
  IsBefore d = LaysBefore P rank first [] 0 d.stack d.place (filling d.stack)

  -- the symbols that are read are those of the trees
  settle : (w : List Tree) (p : ℕ) (δ : List ℕ) → LaysBefore P rank first [] 0 w p δ → LaysBefore P rank first [] 0 w p (filling w)
  settle w p δ b =
      subst (λ (r : List ℕ). LaysBefore P rank first [] 0 w p r)
      (lays_read P facts [] 0 w p δ (before_lays P facts base rank first [] 0 w p δ b) ∙ append-nil (filling w)) b

  -- ---- where runs go on

  module _ (stack : List Tree) (r : IsReading P stack) where
    stand_before : (above below : List Tree) → stack ≡ above ++ below → LaysBefore P rank first [] 0 below (all_spans below) (filling below)
    stand_before above [] at = flat_before [] 0
    stand_before above (t ∷ below) at =
        let deeper : stack ≡ (above ++ t ∷ []) ++ below = at ∙ sym (append_assoc above (t ∷ []) below) in
        let low = stand_before (above ++ t ∷ []) below deeper in
        let m = base.states (above ++ t ∷ []) below (subst (λ (w : List Tree). IsReading P w) deeper r) in
        let one = stood_before [] 0 below (all_spans below) (filling below) t above below low (subst (λ (w : List Tree). IsReading P w) at r) refl (m.0, m.1, m.1) in
        let end : all_spans below + span_of t ≡ all_spans (t ∷ below) = omega arith in
        settle (t ∷ below) (all_spans (t ∷ below)) (filling (t ∷ []) ++ filling below)
        (subst (λ (m : ℕ). LaysBefore P rank first [] 0 (t ∷ below) m (filling (t ∷ []) ++ filling below)) end one)

    pub begun_before : (begins : HasRun P stack) → begins.config.place ≤ n → IsBefore begins.config
    begun_before begins le =
        let c : Configuration = begins.config in
        let all = run_laid P facts base stack r begins c (run_here c) in
        let s = split P facts base begins.extras stack [] 0 c.place (filling c.stack)
        (subst (λ (w : List Tree). Lays P [] 0 w c.place (filling c.stack)) begins.stack_is all.0) in
        let spans = lays_spans P facts base [] 0 stack s.place s.between s.low in
        let place : s.place ≡ all_spans stack = omega (arith, spans) in
        let read : s.between ≡ filling stack = lays_read P facts [] 0 stack s.place s.between s.low ∙ append-nil (filling stack) in
        let high : Lays P (filling stack) (all_spans stack) begins.extras c.place (filling c.stack) =
        subst (λ (read : List ℕ). Lays P read (all_spans stack) begins.extras c.place (filling c.stack)) read
        (subst (λ (m : ℕ). Lays P s.between m begins.extras c.place (filling c.stack)) place s.high) in
        subst (λ (w : List Tree). LaysBefore P rank first [] 0 w c.place (filling c.stack)) (sym begins.stack_is)
        (due_extras P facts base rank most ranked first [] 0 stack (all_spans stack) (filling stack) (stand_before [] stack refl)
        begins.extras c.place (filling c.stack) high begins.all_extras le all.1)

  -- ---- one step

  record Low (γ : List ℕ) (q : ℕ) (w : List Tree) : Type 0 where
    pub place : ℕ
    pub between : List ℕ
    pub low : LaysBefore P rank first γ q w place between

  low_before : (v w : List Tree) (γ : List ℕ) (q p : ℕ) (δ : List ℕ) → LaysBefore P rank first γ q (v ++ w) p δ → Low γ q w
  low_before [] w γ q p δ l = record { place = p; between = δ; low = l }
  low_before (_ ∷ v) w γ q _ _ (stood_before _ _ _ p δ t above below l at place share) = low_before v w γ q p δ l
  low_before (_ ∷ v) w γ q _ _ (shifted_before _ _ _ p δ s pad size l late lt sees acts) = low_before v w γ q p δ l
  low_before (_ ∷ v) w γ q _ _ (passed_before _ _ _ p δ s pad size l late lt passes) = low_before v w γ q p δ l
  low_before (_ ∷ v) w γ q _ _ (made_before _ _ _ p δ ks end ε xs look number left pr l inner outer all late taken folds count deep earlier) = low_before v w γ q p δ l

  -- what lies below a part comes before the key where the whole does
  pub below_before : (v w : List Tree) (p place : ℕ) (δ : List ℕ) → LaysBefore P rank first [] 0 (v ++ w) p δ → all_spans w ≡ place → LaysBefore P rank first [] 0 w place (filling w)
  below_before v w p place δ l is =
      let b = low_before v w [] 0 p δ l in
      let spans = lays_spans P facts base [] 0 w b.place b.between (before_lays P facts base rank first [] 0 w b.place b.between b.low) in
      let same : b.place ≡ place = omega (arith, spans, is) in
      settle w place b.between (subst (λ (m : ℕ). LaysBefore P rank first [] 0 w m b.between) same b.low)

  reduce_before : (d : Configuration) (number : ℕ) (node : Tree) (after : List Tree) → IsBefore d → P.place ≤ d.place → d.place < n → CanMove P.grammar P.text d (reduce number)
      → IsReduction P.grammar number d.stack node after → tree_depth node ≤ most_depth → LaysBefore P rank first [] 0 after d.place (filling after)
  reduce_before d number node after b late lt move r shallow =
      let ks = r.children in
      let xs = r.lifted in
      let w = r.below in
      let now : List ℕ = filling w in
      let read : List ℕ = filling d.stack in
      let h = reduction_parts P facts base d number node after (before_lays P facts base rank first [] 0 d.stack d.place read b) move r in
      let stack : d.stack ≡ (xs ++ reverse ks) ++ w = r.stack_is ∙ sym (append_assoc xs (reverse ks) w) in
      let spans = lays_spans P facts base [] 0 w h.place now h.low in
      let low = below_before (xs ++ reverse ks) w d.place h.place read (subst (λ (s : List Tree). LaysBefore P rank first [] 0 s d.place read) stack b) (omega (arith, spans)) in
      let deep : tree_depth (node_made P number ks) ≤ most_depth = subst (λ (t : Tree). tree_depth t ≤ most_depth) r.node_is shallow in
      let one = made_before [] 0 w h.place now ks h.end read xs d.place number r.left r.production low h.inner h.outer r.extras late h.taken h.folds r.count deep (inl lt) in
      let state = lays_state P facts base [] 0 (node_made P number ks ∷ w) h.end (r.left ∷ now) 0 at_first (before_lays P facts base rank first [] 0 (node_made P number ks ∷ w) h.end (r.left ∷ now) one) in
      let over = passes_on P facts base read (r.left ∷ now) (narrows P facts read d.place number r.left r.production now h.folds) state.0 state.1 xs h.end d.place r.extras late h.outer in
      let done = due_extras P facts base rank most ranked first [] 0 (node_made P number ks ∷ w) h.end (r.left ∷ now) one xs d.place (r.left ∷ now) over r.extras (omega (arith, lt)) late in
      let is : xs ++ node_made P number ks ∷ w ≡ after = ap (λ (t : Tree). xs ++ t ∷ w) (sym r.node_is) ∙ sym r.after_is in
      settle after d.place (r.left ∷ now) (subst (λ (s : List Tree). LaysBefore P rank first [] 0 s d.place (r.left ∷ now)) is done)

  pub step_before : (d e : Configuration) → IsBefore d → P.place ≤ d.place → d.place < n → StepsOn P.grammar P.text d e → IsBefore e × (P.place ≤ e.place)
  step_before d _ b late lt (shift_token s pad size next acts) =
      let t : Tree = token_tree s pad size in
      let says = token_says facts.laws.runs s pad size in
      let place : d.place + (pad + size) ≡ d.place + span_of t = omega (arith, says.pad, says.size) in (
        settle (t ∷ d.stack) (d.place + span_of t) (s.0 ∷ filling d.stack)
            (subst (λ (m : ℕ). LaysBefore P rank first [] 0 (t ∷ d.stack) m (s.0 ∷ filling d.stack)) place
            (shifted_before [] 0 d.stack d.place (filling d.stack) s pad size b late lt next acts)),
        omega (arith, late),
      )
  step_before d _ b late lt (pass_extra s pad size next is none) =
      let t : Tree = extra_tree s pad size in
      let says = extra_says facts.laws.runs s pad size in
      let place : d.place + (pad + size) ≡ d.place + span_of t = omega (arith, says.pad, says.size) in (
        settle (t ∷ d.stack) (d.place + span_of t) (filling d.stack)
            (subst (λ (m : ℕ). LaysBefore P rank first [] 0 (t ∷ d.stack) m (filling d.stack)) place
            (passed_before [] 0 d.stack d.place (filling d.stack) s pad size b late lt (record { sees = next; extra = is; none = none }))),
        omega (arith, late),
      )
  step_before d _ b late lt (reduce_trees number node after move r shallow) = (reduce_before d number node after b late lt move r shallow, late)

  -- ---- a run

  -- a run comes to the place or past it, and goes on from there
  pub record GoesPast (a d : Configuration) : Type 0 where
    pub at : Configuration
    pub to : Run P.grammar P.text a at
    pub past : n ≤ at.place
    pub before : IsBefore at
    pub on : Run P.grammar P.text at d

  -- it ends before the place
  pub record EndsEarly (d : Configuration) : Type 0 where
    pub early : d.place < n
    pub before : IsBefore d
    pub late : P.place ≤ d.place

  pub run_before : (a d : Configuration) → IsBefore a → P.place ≤ a.place → a.place < n → Run P.grammar P.text a d → EndsEarly d ⊎ GoesPast a d
  run_before a _ b late lt (run_here _) = inl (record { early = lt; before = b; late = late })
  run_before a d b late lt (run_on _ e _ one more) =
      let next = step_before a e b late lt one in
      by next.0 (order_cases e.place n) (λ less. run_before e d next.0 next.1 less more)
    where
      by : IsBefore e → (e.place < n) ⊎ (n ≤ e.place) → (e.place < n → EndsEarly d ⊎ GoesPast e d) → EndsEarly d ⊎ GoesPast a d
      by before (inl less) again = ⊎_elim (λ early. inl early)
          (λ past. inr (record { at = past.at; to = run_on a e past.at one past.to; past = past.past; before = past.before; on = past.on }))
          (again less)
      by before (inr past) again = inr (record { at = e; to = run_on a e e one (run_here e); past = past; before = before; on = more })
