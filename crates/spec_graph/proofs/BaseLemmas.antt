-- The stack from which runs go on: what is known of it where a run came to it, and what is laid over it.
use Rattle.std.proofs.Common.{◌≡◌, ◌∙◌, sym, ap, refl, subst, ℕ, ◌+◌, ◌-◌, ◌<◌, ◌≤◌, ◌⊎◌, inl, inr, ⊎_elim, true, false, true≢false, List, [], ◌∷◌, ◌++◌, append-nil, append_assoc, length, reverse, drop, arith}
use Rattle.std.proofs.lemmas.List.{length-drop}
use Rattle.ts_core.specs.declared.flat.Production.{Production}
use Rattle.ts_core.specs.declared.symbol.Symbol.{Symbol}
use Rattle.spec_lexing.specs.Lexing.{token}
use Rattle.spec_trees.specs.declared.tree.Tree.{Tree}
use Rattle.spec_trees.specs.Trees.{symbol_of, pad_of, size_of, is_extra_node, span_of, all_spans}
use Rattle.spec_trees.specs.Made.{filling, BeginsFilled}
use Rattle.spec_runs.specs.Configurations.{Configuration, starting, token_tree, AreExtras}
use Rattle.spec_runs.specs.Runs.{Run, IsReached}
use Rattle.spec_packing.specs.Packing.{PackedTree, PackedStack, packed_trees, WasMet, GoesThrough}
use Rattle.spec_packing.proofs.MadeLemmas.{AllMade, all_spans_append}
use Rattle.spec_graph.specs.declared.graph.Head.{Head}
use Rattle.spec_graph.specs.declared.graph.Link.{Link}
use Rattle.spec_graph.specs.States.{LeadsTo, at_first}
use Rattle.spec_graph.specs.Laying.{Parsing, from_start, IsBegun, IsMet, HasRun, IsReading, SeesAt, PassesAt, ReducesAt, extra_tree, node_made, Taken, some, nothing, Lays, flat, stood, shifted, passed, made}
use Rattle.spec_graph.specs.Grounded.{AreMadeTrees, HaveExtrasBytes, BeginsWithBytes, IsGrounded}
use Rattle.spec_graph.specs.Replacing.{AreAlike}
use Rattle.spec_graph.specs.Keys.{Key, LaysBefore, flat_before, stood_before, shifted_before, passed_before, made_before}
use Rattle.spec_graph.specs.Links.{IsDue}
use Rattle.spec_graph.proofs.ReadingLemmas.{packed_append, cover_spans, readings_alike, reading_empty, no_reading, low_reading, extra_low, extra_some, read_states, reading_stack, reading_run, reading_at, met_cover, own_run, run_to}
use Rattle.spec_graph.proofs.SightLemmas.{Facts}
use Rattle.spec_graph.proofs.EntryLemmas.{token_says, extra_says, kind_of, filling_one, shift_bytes}
use Rattle.spec_graph.proofs.LayLemmas.{IsRuled, AreRuled, ruled_middle, lays_ruled, IsBase, lays_read, lays_made, lays_spans, grows, lays_none, lays_state, split, joins, lays_run, nothing_laid}
use Rattle.spec_graph.proofs.TreeLemmas.{made_trees, trees_made, trees_ruled}
use Rattle.spec_graph.proofs.OrderLemmas.{node_bytes}
use Rattle.spec_graph.proofs.GraphLemmas.{transfer, IsRead, stands_there, is_read, extra_read, extra_bytes}

module _ (P : Parsing) (facts : Facts P) where
  pub start_facts : Facts (from_start P)
  start_facts = record { laws = facts.laws; fit = facts.fit; states = facts.states }

  pub start_base : IsBase (from_start P)
  start_base = record {
    spans = λ stack r. ap all_spans (reading_empty (from_start P) refl stack r);
    low = λ above below t at. absurd (no_reading (from_start P) refl above below t at);
    extra = λ above below t at e. absurd (no_reading (from_start P) refl above below t at);
    some_extra = λ above below t at e. absurd (no_reading (from_start P) refl above below t at);
    same_extras = λ above below over under t u at at2 same lt lt2 e f. absurd (no_reading (from_start P) refl above below t at);
    rule = λ above below t at. absurd (no_reading (from_start P) refl above below t at);
    all_made = λ stack r. subst (λ (ts : List Tree). AllMade P.grammar ts) (sym (reading_empty (from_start P) refl stack r)) tt;
    states = λ above below at. (0, subst (λ (r : List ℕ). LeadsTo P.goto r 0) (sym (ap filling (none above below (reading_empty (from_start P) refl (above ++ below) at)))) at_first);
  }
    where
      none : (above below : List Tree) → above ++ below ≡ [] → below ≡ []
      none [] below e = e
      none (x ∷ above) below e = absurd (let h : x ∷ (above ++ below) ≡ [] = e in cc)

  start_passes : (read : List ℕ) (place : ℕ) (s : Symbol) (pad size : ℕ) → PassesAt (from_start P) read place s pad size → PassesAt P read place s pad size
  start_passes read place s pad size p = record { sees = p.sees; extra = p.extra; none = p.none }

  pub passes_start : (read : List ℕ) (place : ℕ) (s : Symbol) (pad size : ℕ) → PassesAt P read place s pad size → PassesAt (from_start P) read place s pad size
  passes_start read place s pad size p = record { sees = p.sees; extra = p.extra; none = p.none }

  pub reduces_start : (read : List ℕ) (place number left : ℕ) (p : Production) (earlier : List ℕ) → ReducesAt P read place number left p earlier → ReducesAt (from_start P) read place number left p earlier
  reduces_start read place number left p earlier r = record {
    symbol = r.symbol;
    pad = r.pad;
    size = r.size;
    sees = r.sees;
    stays = r.stays;
    at = r.at;
    read_is = r.read_is;
  }

  -- what is due over the stack from which runs go on is due from the start
  pub due_start : (rank : ℕ → ℕ) (heads : List Head) (links : List Link) (k : Key) (number left : ℕ) (p : Production) (h e b : ℕ) (outer inner : List Link) (over now : List ℕ) (end : ℕ)
      → IsDue P rank heads links k number left p h e b outer inner over now end → IsDue (from_start P) rank heads links k number left p h e b outer inner over now end
  due_start rank heads links k number left p h e b outer inner over now end d = record {
    top = d.top;
    middle = d.middle;
    bottom = d.bottom;
    lifted = d.lifted;
    taken_off = d.taken_off;
    all_extras = d.all_extras;
    taken = d.taken;
    reduces = reduces_start over k.look number left p now d.reduces;
    count = d.count;
    ranked = d.ranked;
  }

  -- a tree that fills a step has bytes, or stands alone at the start
  top_bytes : (w : List Tree) (p : ℕ) (δ : List ℕ) (t : Tree) (rest : List Tree) → Lays (from_start P) [] 0 w p δ → w ≡ t ∷ rest → is_extra_node t ≡ false → (0 < span_of t) ⊎ ((rest ≡ []) × (p ≡ 0))
  top_bytes _ _ _ t rest (flat _ _) is e = absurd (let h : [] ≡ t ∷ rest = is in cc)
  top_bytes _ _ _ t rest (stood _ _ w p δ u above below l at place share) is e = absurd (no_reading (from_start P) refl above below u at)
  top_bytes _ _ _ t rest (shifted _ _ w p δ s pad size l late sees acts) is e =
      let same : token_tree s pad size ≡ t = cc in
      let says = token_says facts.laws.runs s pad size in
      let b = shift_bytes P facts δ p s pad size sees acts in
      inl (subst (λ (x : Tree). 0 < span_of x) same (omega (arith, b, says.size)))
  top_bytes _ _ _ t rest (passed _ _ w p δ s pad size l late passes) is e =
      let same : extra_tree s pad size ≡ t = cc in
      absurd (true≢false (sym (extra_says facts.laws.runs s pad size).kind ∙ ap is_extra_node same ∙ e))
  top_bytes _ _ _ t rest (made _ _ w p δ ks end ε xs look number left pr l inner outer all late taken folds count deep) is e = by taken
    where
      same : node_made P number ks ≡ t
      same = cc

      low : w ≡ rest
      low = cc

      by : Taken ks w [] 0 → (0 < span_of t) ⊎ ((rest ≡ []) × (end ≡ 0))
      by (some lt begins ends) =
          let b = node_bytes (from_start P) start_facts start_base δ p ks end ε look number left pr inner lt begins folds count in
          let one = lays_spans (from_start P) start_facts start_base [] 0 w p δ l in
          let all = lays_spans (from_start P) start_facts start_base [] 0 (node_made P number ks ∷ w) end (left ∷ δ) (made [] 0 w p δ ks end ε xs look number left pr l inner outer all late taken folds count deep) in
          inl (subst (λ (x : Tree). 0 < span_of x) same (omega (arith, b, one, all)))
      by (nothing none none_w read place) =
          let h = lays_none (from_start P) start_facts start_base [] 0 w p δ l none_w in
          let i = lays_spans (from_start P) start_facts start_base δ p (reverse ks) end ε inner in
          let empty : all_spans (reverse ks) ≡ 0 = ap (λ (l : List Tree). all_spans (reverse l)) none in
          inr (sym low ∙ none_w, omega (arith, i, empty, h.0))

  -- ---- where a run came

  module _ (c : Configuration) (reached : IsReached P.grammar P.text c) where
    pub all_laid : Lays (from_start P) [] 0 c.stack c.place (filling c.stack)
    all_laid = (lays_run (from_start P) start_facts start_base starting c (flat [] 0) (omega arith) reached).0

    -- what is on the stack, and above it
    record Cut (above below : List Tree) : Type 0 where
      low : Lays (from_start P) [] 0 below (all_spans below) (filling below)
      high : Lays (from_start P) (filling below) (all_spans below) above c.place (filling c.stack)

    cut : (above below : List Tree) → c.stack ≡ above ++ below → Cut above below
    cut above below at =
        let s = split (from_start P) start_facts start_base above below [] 0 c.place (filling c.stack) (subst (λ (w : List Tree). Lays (from_start P) [] 0 w c.place (filling c.stack)) at all_laid) in
        let h = lays_spans (from_start P) start_facts start_base [] 0 below s.place s.between s.low in
        let place : s.place ≡ all_spans below = omega (arith, h) in
        let read : s.between ≡ filling below = lays_read (from_start P) start_facts [] 0 below s.place s.between s.low ∙ append-nil (filling below) in
        record {
          low = subst (λ (r : List ℕ). Lays (from_start P) [] 0 below (all_spans below) r) read (subst (λ (m : ℕ). Lays (from_start P) [] 0 below m s.between) place s.low);
          high = subst (λ (r : List ℕ). Lays (from_start P) r (all_spans below) above c.place (filling c.stack)) read (subst (λ (m : ℕ). Lays (from_start P) s.between m above c.place (filling c.stack)) place s.high);
        }

    -- each tree on the stack is laid there from the start
    pub tree_laid : (above below : List Tree) (t : Tree) → c.stack ≡ above ++ t ∷ below → Lays (from_start P) (filling below) (all_spans below) (t ∷ []) (all_spans below + span_of t) (filling (t ∷ []) ++ filling below)
    tree_laid above below t at =
        let whole = (cut above (t ∷ below) at).low in
        let s = split (from_start P) start_facts start_base (t ∷ []) below [] 0 (all_spans (t ∷ below)) (filling (t ∷ below)) whole in
        let h = lays_spans (from_start P) start_facts start_base [] 0 below s.place s.between s.low in
        let place : s.place ≡ all_spans below = omega (arith, h) in
        let read : s.between ≡ filling below = lays_read (from_start P) start_facts [] 0 below s.place s.between s.low ∙ append-nil (filling below) in
        let end : all_spans (t ∷ below) ≡ all_spans below + span_of t = omega arith in
        let high : Lays (from_start P) (filling below) (all_spans below) (t ∷ []) (all_spans (t ∷ below)) (filling (t ∷ below)) =
        subst (λ (r : List ℕ). Lays (from_start P) r (all_spans below) (t ∷ []) (all_spans (t ∷ below)) (filling (t ∷ below))) read
        (subst (λ (m : ℕ). Lays (from_start P) s.between m (t ∷ []) (all_spans (t ∷ below)) (filling (t ∷ below))) place s.high) in
        subst (λ (r : List ℕ). Lays (from_start P) (filling below) (all_spans below) (t ∷ []) (all_spans below + span_of t) r) (filling_one t below)
        (subst (λ (m : ℕ). Lays (from_start P) (filling below) (all_spans below) (t ∷ []) m (filling (t ∷ below))) end high)

  -- ---- stacks to which a run comes, with extras on top

  module _ (stack : List Tree) (h : HasRun P stack) where
    stack_laid : Lays (from_start P) [] 0 stack (all_spans stack) (filling stack)
    stack_laid = (cut h.config h.reached h.extras stack h.stack_is).low

    extras_laid : Lays (from_start P) (filling stack) (all_spans stack) h.extras h.config.place (filling h.config.stack)
    extras_laid = (cut h.config h.reached h.extras stack h.stack_is).high

    deeper : (above below : List Tree) → stack ≡ above ++ below → h.config.stack ≡ (h.extras ++ above) ++ below
    deeper above below at = h.stack_is ∙ ap (λ (w : List Tree). h.extras ++ w) at ∙ sym (append_assoc h.extras above below)

    below_laid : (above below : List Tree) → stack ≡ above ++ below → Lays (from_start P) [] 0 below (all_spans below) (filling below)
    below_laid above below at = (cut h.config h.reached (h.extras ++ above) below (deeper above below at)).low

    one_laid : (above below : List Tree) (t : Tree) → stack ≡ above ++ t ∷ below → Lays (from_start P) (filling below) (all_spans below) (t ∷ []) (all_spans below + span_of t) (filling (t ∷ []) ++ filling below)
    one_laid above below t at = tree_laid h.config h.reached (h.extras ++ above) below t (deeper above (t ∷ below) at)

    run_made : AllMade P.grammar stack
    run_made = lays_made (from_start P) start_facts start_base [] 0 stack (all_spans stack) (filling stack) stack_laid

    run_ruled : AreRuled P.grammar stack
    run_ruled = lays_ruled (from_start P) start_facts start_base [] 0 stack (all_spans stack) (filling stack) stack_laid

  -- ---- what the stack from which runs go on is by itself

  -- an extra to which a run came was seen
  extra_seen : (above below : List Tree) (t : Tree) → HasRun P (above ++ t ∷ below) → is_extra_node t ≡ true → (s : Symbol) × (pad : ℕ) × (size : ℕ) × (t ≡ extra_tree s pad size)
  extra_seen above below t h e =
      by (extra_read (from_start P) start_facts start_base (filling below) (all_spans below) (t ∷ []) t (all_spans below + span_of t) (filling (t ∷ []) ++ filling below) (one_laid (above ++ t ∷ below) h above below t refl) refl e)
    where
      by : IsRead (from_start P) start_facts start_base (filling below) (all_spans below) t → (s : Symbol) × (pad : ℕ) × (size : ℕ) × (t ≡ extra_tree s pad size)
      by (stands_there a) = absurd (no_reading (from_start P) refl a.0 a.1 t a.2)
      by (is_read s pad size late is passes) = (s, pad, size, is)

  -- trees over tokens that stand as extras, with one symbol and the same bytes
  one_extra : (t u : Tree) (s r : Symbol) (pad size pad2 size2 : ℕ) → t ≡ extra_tree s pad size → u ≡ extra_tree r pad2 size2 → AreAlike t u → t ≡ u
  one_extra t u s r pad size pad2 size2 is at alike =
      let x = extra_says facts.laws.runs s pad size in
      let y = extra_says facts.laws.runs r pad2 size2 in
      let number : s.0 ≡ r.0 = sym x.symbol ∙ ap symbol_of (sym is) ∙ alike.symbol ∙ ap symbol_of at ∙ y.symbol in
      let pads : pad ≡ pad2 = sym x.pad ∙ ap pad_of (sym is) ∙ alike.pad ∙ ap pad_of at ∙ y.pad in
      let sizes : size ≡ size2 = sym x.size ∙ ap size_of (sym is) ∙ alike.size ∙ ap size_of at ∙ y.size in
      is ∙ ap (λ (n : ℕ). extra_tree (record { 0 = n }) pad size) number ∙ ap (λ (n : ℕ). extra_tree r n size) pads ∙ ap (λ (n : ℕ). extra_tree r pad2 n) sizes ∙ sym at

  -- entries of one stack at one place are one
  one_entry : (stack above below over under : List Tree) (t u : Tree) → stack ≡ above ++ t ∷ below → stack ≡ over ++ u ∷ under → all_spans below ≡ all_spans under → 0 < span_of t → 0 < span_of u → t ≡ u
  one_entry stack [] below [] under t u is at same lt lt2 = let e : t ∷ below ≡ u ∷ under = sym is ∙ at in cc
  one_entry stack [] below (y ∷ over) under t u is at same lt lt2 =
      let e : t ∷ below ≡ y ∷ (over ++ u ∷ under) = sym is ∙ at in
      let f : below ≡ over ++ u ∷ under = cc in
      let n = ap all_spans f in
      let m = all_spans_append over (u ∷ under) in
      absurd (omega (arith, n, m, same, lt2))
  one_entry stack (x ∷ above) below [] under t u is at same lt lt2 =
      let e : u ∷ under ≡ x ∷ (above ++ t ∷ below) = sym at ∙ is in
      let f : under ≡ above ++ t ∷ below = cc in
      let n = ap all_spans f in
      let m = all_spans_append above (t ∷ below) in
      absurd (omega (arith, n, m, same, lt))
  one_entry stack (x ∷ above) below (y ∷ over) under t u is at same lt lt2 =
      let e : x ∷ (above ++ t ∷ below) ≡ y ∷ (over ++ u ∷ under) = sym is ∙ at in
      let f : above ++ t ∷ below ≡ over ++ u ∷ under = cc in
      one_entry (above ++ t ∷ below) above below over under t u refl f same lt lt2

  extras_alike : (above below over under : List Tree) (t u : Tree) → IsReading P (above ++ t ∷ below) → IsReading P (over ++ u ∷ under) → all_spans below ≡ all_spans under → 0 < span_of t → 0 < span_of u → is_extra_node t ≡ true → is_extra_node u ≡ true → t ≡ u
  extras_alike above below over under t u r s same lt lt2 e f = by r.from s.from
    where
      seen_both : IsMet P → t ≡ u
      seen_both m =
          let x = extra_seen above below t (run_to P m (above ++ t ∷ below) r) e in
          let y = extra_seen over under u (run_to P m (over ++ u ∷ under) s) f in
          one_extra t u x.0 y.0 x.1 x.2 y.1 y.2 x.3 y.3 (readings_alike P above below over under t u r s same lt lt2)

      by : (above ++ t ∷ below ≡ packed_trees P.layers) ⊎ (IsMet P × HasRun P (above ++ t ∷ below)) → (over ++ u ∷ under ≡ packed_trees P.layers) ⊎ (IsMet P × HasRun P (over ++ u ∷ under)) → t ≡ u
      by (inr w) other = seen_both w.0
      by (inl own) (inr w) = seen_both w.0
      by (inl own) (inl own2) = one_entry (packed_trees P.layers) above below over under t u (sym own) (sym own2) same lt lt2

  module _ (ground : IsGrounded P) where
    reading_made : (stack : List Tree) → IsReading P stack → AllMade P.grammar stack
    reading_made stack r = ⊎_elim (λ own. subst (λ (ts : List Tree). AllMade P.grammar ts) (sym own) (trees_made P.grammar (packed_trees P.layers) ground.made)) (λ w. run_made stack w.1) r.from

    reading_ruled : (above below : List Tree) (t : Tree) → IsReading P (above ++ t ∷ below) → IsRuled P.grammar t
    reading_ruled above below t r =
        ⊎_elim (λ own. trees_ruled P.grammar above t below (subst (λ (ts : List Tree). AreMadeTrees P.grammar ts) (sym own) ground.made))
        (λ w. ruled_middle P.grammar above t below (run_ruled (above ++ t ∷ below) w.1)) r.from

    pub ground_base : IsBase P
    ground_base = record {
      spans = λ stack r. sym (cover_spans P.layers stack r.cover) ∙ ground.spans;
      low = low_reading P ground;
      extra = extra_low P ground;
      some_extra = extra_some P ground;
      same_extras = extras_alike;
      rule = reading_ruled;
      all_made = reading_made;
      states = read_states P ground;
    }

  -- ---- where the stack was met

  module _ (m : IsMet P) where
    abbrev own_stack : List Tree
    own_stack = packed_trees P.layers

    to_own : HasRun P own_stack
    to_own = own_run P m

    begins_some : (ts : List Tree) → own_stack ≡ ts → BeginsWithBytes ts
    begins_some [] is = tt
    begins_some (t ∷ ts) is = ⊎_elim (λ lt. lt) (λ w. absurd (by m.begun.bytes w.1))
        (top_bytes own_stack (all_spans own_stack) (filling own_stack) t ts (stack_laid own_stack to_own) is (subst (λ (s : List Tree). BeginsFilled s) is m.begun.begins))
      where
        by : (P.layers ≡ []) ⊎ (0 < P.place) → all_spans own_stack ≡ 0 → ⊥
        by (inl none) z = let e : [] ≡ t ∷ ts = sym (ap (λ (ls : List PackedTree). packed_trees ls) none) ∙ is in cc
        by (inr lt) z = omega (arith, lt, z, m.begun.place_is)

    extras_some : (above ts : List Tree) → own_stack ≡ above ++ ts → HaveExtrasBytes ts
    extras_some above [] is = tt
    extras_some above (t ∷ ts) is = (
      (λ e. extra_bytes (from_start P) start_facts start_base (filling ts) (all_spans ts) t (all_spans ts + span_of t) (filling (t ∷ []) ++ filling ts) (one_laid own_stack to_own above ts t is) e),
      extras_some (above ++ t ∷ []) ts (is ∙ sym (append_assoc above (t ∷ []) ts)),
    )

    layer_states : (above below : List PackedTree) → P.layers ≡ above ++ below → (n : ℕ) × LeadsTo P.goto (filling (packed_trees below)) n
    layer_states above below at =
        let low : List Tree = packed_trees below in
        lays_state (from_start P) start_facts start_base [] 0 low (all_spans low) (filling low) 0 at_first
        (below_laid own_stack to_own (packed_trees above) low (ap (λ (ls : List PackedTree). packed_trees ls) at ∙ packed_append above below))

    pub ground_of : IsGrounded P
    ground_of = record {
      spans = sym m.begun.place_is;
      begins = m.begun.begins;
      some = begins_some own_stack refl;
      some_extras = extras_some [] own_stack refl;
      made = made_trees P.grammar own_stack (run_made own_stack to_own) (run_ruled own_stack to_own);
      own = met_cover P m;
      states = layer_states;
    }

  -- ---- where a run goes through what a stack stands for

  module _ (k : PackedStack) (begun : IsBegun P k) (met : WasMet P.grammar P.text k) (d : Configuration) (w : GoesThrough P.grammar P.text k d) where
    abbrev pub through_stack : List Tree
    through_stack = reading_stack P k begun w.from w.reached w.stands

    abbrev pub through_run : HasRun P through_stack
    through_run = reading_run P k begun w.from w.reached w.stands

    pub through_reading : IsReading P through_stack
    through_reading = reading_at P k begun w.from w.reached w.stands met

    pub through_base : IsBase P
    through_base = ground_base (ground_of (record { stack = k; begun = begun; met = met }))

  -- ---- what is laid over it, is laid from the start

  module _ (met : IsMet P) where
    pub embed : (γ : List ℕ) (q : ℕ) (w : List Tree) (p : ℕ) (δ : List ℕ) → Lays P γ q w p δ → Lays (from_start P) γ q w p δ
    embed γ q _ _ _ (flat _ _) = flat γ q
    embed γ q _ _ _ (shifted _ _ w p δ s pad size l late sees acts) = shifted γ q w p δ s pad size (embed γ q w p δ l) (omega arith) sees acts
    embed γ q _ _ _ (passed _ _ w p δ s pad size l late passes) = passed γ q w p δ s pad size (embed γ q w p δ l) (omega arith) (passes_start δ p s pad size passes)
    embed γ q _ _ _ (made _ _ w p δ ks end ε xs look number left pr l inner outer all late taken folds count deep) =
        made γ q w p δ ks end ε xs look number left pr (embed γ q w p δ l) (embed δ p (reverse ks) end ε inner) (embed ε end xs look ε outer) all (omega arith) taken (reduces_start ε look number left pr δ folds) count deep
    embed γ q _ _ _ (stood _ _ w p δ t above below l at place share) =
        let low = embed γ q w p δ l in
        let one = one_laid (above ++ t ∷ below) (run_to P met (above ++ t ∷ below) at) above below t refl in
        let moved = transfer (from_start P) start_facts start_base (filling below) δ (all_spans below) (t ∷ []) (all_spans below + span_of t) (filling (t ∷ []) ++ filling below) one share in
        let read : moved.now ≡ filling (t ∷ []) ++ δ = lays_read (from_start P) start_facts δ (all_spans below) (t ∷ []) (all_spans below + span_of t) moved.now moved.lays in
        let here : Lays (from_start P) δ p (t ∷ []) (p + span_of t) (filling (t ∷ []) ++ δ) =
        subst (λ (r : List ℕ). Lays (from_start P) δ p (t ∷ []) (p + span_of t) r) read
        (subst (λ (m : ℕ). Lays (from_start P) δ m (t ∷ []) (m + span_of t) moved.now) (sym place) moved.lays) in
        joins (from_start P) start_facts start_base γ q w p δ (t ∷ []) (p + span_of t) (filling (t ∷ []) ++ δ) (λ none z. bottom low none z) low here
      where
        bottom : Lays (from_start P) γ q w p δ → δ ≡ [] → p ≡ 0 → (w ≡ []) × (γ ≡ []) × (q ≡ 0)
        bottom low none z =
            let e = nothing_laid (from_start P) start_facts start_base γ q w p δ low none z in
            let h = lays_none (from_start P) start_facts start_base γ q w p δ low e in
            (e, sym h.1 ∙ none, sym h.0 ∙ z)

  -- ---- all runs from a reading

  module _ (base : IsBase P) (stack : List Tree) (r : IsReading P stack) where
    same_reading : (above below : List Tree) → stack ≡ above ++ below → IsReading P (above ++ below)
    same_reading above below at = subst (λ (w : List Tree). IsReading P w) at r

    pub stand_all : (above below : List Tree) → stack ≡ above ++ below → Lays P [] 0 below (all_spans below) (filling below)
    stand_all above [] at = flat [] 0
    stand_all above (t ∷ below) at =
        let under : stack ≡ (above ++ t ∷ []) ++ below = at ∙ sym (append_assoc above (t ∷ []) below) in
        let low = stand_all (above ++ t ∷ []) below under in
        let n = base.states (above ++ t ∷ []) below (same_reading (above ++ t ∷ []) below under) in
        let one = stood [] 0 below (all_spans below) (filling below) t above below low (same_reading above (t ∷ below) at) refl (n.0, n.1, n.1) in
        let end : all_spans below + span_of t ≡ all_spans (t ∷ below) = omega arith in
        subst (λ (read : List ℕ). Lays P [] 0 (t ∷ below) (all_spans (t ∷ below)) read) (sym (filling_one t below))
        (subst (λ (m : ℕ). Lays P [] 0 (t ∷ below) m (filling (t ∷ []) ++ filling below)) end one)

    raise : (γ : List ℕ) (xs : List Tree) (w : List Tree) (p : ℕ) (δ : List ℕ) → Lays P [] 0 w P.place γ → Lays (from_start P) γ P.place xs p δ → AreExtras xs → Lays P [] 0 (xs ++ w) p δ
    raise γ _ w _ _ low (flat _ _) a = low
    raise γ _ w _ _ low (stood _ _ v p δ u above below l at place share) a = absurd (no_reading (from_start P) refl above below u at)
    raise γ _ w _ _ low (shifted _ _ v p δ s pad size l late sees acts) a = absurd (true≢false (sym a.0 ∙ (token_says facts.laws.runs s pad size).kind))
    raise γ _ w _ _ low (made _ _ v p δ ks end ε xs look number left pr l inner outer all late taken folds count deep) a = absurd (true≢false (sym a.0 ∙ kind_of P facts number left pr ks folds.at))
    raise γ _ w _ _ low (passed _ _ v p δ s pad size l late passes) a =
        passed [] 0 (v ++ w) p δ s pad size (raise γ v w p δ low l a.1) (grows (from_start P) start_facts start_base γ P.place v p δ l) (start_passes δ p s pad size passes)

    module _ (h : HasRun P stack) where
      reading_laid : Lays P [] 0 h.config.stack h.config.place (filling h.config.stack)
      reading_laid =
          let place = base.spans stack r in
          let low : Lays P [] 0 stack P.place (filling stack) = subst (λ (m : ℕ). Lays P [] 0 stack m (filling stack)) place (stand_all [] stack refl) in
          let high : Lays (from_start P) (filling stack) P.place h.extras h.config.place (filling h.config.stack) =
          subst (λ (m : ℕ). Lays (from_start P) (filling stack) m h.extras h.config.place (filling h.config.stack)) place (extras_laid stack h) in
          subst (λ (s : List Tree). Lays P [] 0 s h.config.place (filling h.config.stack)) (sym h.stack_is) (raise (filling stack) h.extras stack h.config.place (filling h.config.stack) low high h.all_extras)

      reading_late : P.place ≤ h.config.place
      reading_late = let g = grows (from_start P) start_facts start_base (filling stack) (all_spans stack) h.extras h.config.place (filling h.config.stack) (extras_laid stack h) in omega (arith, g, base.spans stack r)

      -- all that is reached from there is laid
      pub run_laid : (d : Configuration) → Run P.grammar P.text h.config d → Lays P [] 0 d.stack d.place (filling d.stack) × (P.place ≤ d.place)
      run_laid d run = lays_run P facts base h.config d reading_laid reading_late run

  -- ---- the last key

  module _ (base : IsBase P) where
    pub within : (γ : List ℕ) (q : ℕ) (w : List Tree) (p : ℕ) (δ : List ℕ) → q ≤ length P.text → P.place ≤ length P.text → Lays P γ q w p δ → p ≤ length P.text
    within γ q _ _ _ le last (flat _ _) = le
    within γ q _ _ _ le last (stood _ _ w p δ t above below l at place share) =
        let h = ends above below t at in omega (arith, h, last, place)
      where
        ends : (above below : List Tree) (t : Tree) → IsReading P (above ++ t ∷ below) → all_spans below + span_of t ≤ P.place
        ends above below t r =
            let e = base.spans (above ++ t ∷ below) r in
            let h = all_spans_append above (t ∷ below) in
            omega (arith, e, h)
    within γ q _ _ _ le last (shifted _ _ w p δ s pad size l late sees acts) = token_within p s pad size δ (within γ q w p δ le last l) sees
      where
        token_within : (p : ℕ) (s : Symbol) (pad size : ℕ) (δ : List ℕ) → p ≤ length P.text → SeesAt P δ p (token s pad size) → p + (pad + size) ≤ length P.text
        token_within p s pad size δ le sees =
            let h = facts.laws.within P.grammar sees.0 (drop p P.text) s pad size sees.2 in
            let d : length (drop p P.text) ≡ length P.text - p = length-drop p P.text in
            omega (arith, h, d, le)
    within γ q _ _ _ le last (passed _ _ w p δ s pad size l late passes) =
        let low = within γ q w p δ le last l in
        let sees = passes.sees in
        let h = facts.laws.within P.grammar sees.0 (drop p P.text) s pad size sees.2 in
        let d : length (drop p P.text) ≡ length P.text - p = length-drop p P.text in
        omega (arith, h, d, low)
    within γ q _ _ _ le last (made _ _ w p δ ks end ε xs look number left pr l inner outer all late taken folds count deep) = within δ p (reverse ks) end ε (within γ q w p δ le last l) last inner

    -- what is laid comes before each key whose token would stand past the text
    pub due_last : (rank : ℕ → ℕ) (k : Key) → length P.text < k.look → P.place ≤ length P.text → (γ : List ℕ) (q : ℕ) (w : List Tree) (p : ℕ) (δ : List ℕ) → q ≤ length P.text → Lays P γ q w p δ → LaysBefore P rank k γ q w p δ
    due_last rank k lt last γ q _ _ _ le (flat _ _) = flat_before γ q
    due_last rank k lt last γ q _ _ _ le (stood _ _ w p δ t above below l at place share) = stood_before γ q w p δ t above below (due_last rank k lt last γ q w p δ le l) at place share
    due_last rank k lt last γ q _ _ _ le (shifted _ _ w p δ s pad size l late sees acts) =
        let h = within γ q w p δ le last l in
        shifted_before γ q w p δ s pad size (due_last rank k lt last γ q w p δ le l) late (omega (arith, h, lt)) sees acts
    due_last rank k lt last γ q _ _ _ le (passed _ _ w p δ s pad size l late passes) =
        let h = within γ q w p δ le last l in
        passed_before γ q w p δ s pad size (due_last rank k lt last γ q w p δ le l) late (omega (arith, h, lt)) passes
    due_last rank k lt last γ q _ _ _ le (made _ _ w p δ ks end ε xs look number left pr l inner outer all late taken folds count deep) =
        let a = within γ q w p δ le last l in
        let b = within δ p (reverse ks) end ε a last inner in
        let h = within ε end xs look ε b last outer in
        made_before γ q w p δ ks end ε xs look number left pr (due_last rank k lt last γ q w p δ le l) inner outer all late taken folds count deep (inl (omega (arith, h, lt)))
