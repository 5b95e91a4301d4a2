-- Ways in a graph of stacks: what they stand for, and that runs come to it.
use Rattle.std.proofs.Common.{◌≡◌, ◌∙◌, sym, ap, refl, subst, ℕ, zero, suc, ◌+◌, ◌<◌, ◌≤◌, ◌⊎◌, inl, inr, Bool, true, false, true≢false, List, [], ◌∷◌, ◌++◌, append-nil, length, length-append, reverse, Some, arith}
use Rattle.std.proofs.lemmas.List.{reverse-append}
use Rattle.ts_core.specs.declared.symbol.Symbol.{Symbol}
use Rattle.spec_lexing.specs.Lexing.{token}
use Rattle.spec_tables.specs.Actions.{shift, reduce}
use Rattle.spec_trees.specs.declared.tree.Tree.{Tree}
use Rattle.spec_trees.specs.Trees.{symbol_of, pad_of, size_of, is_extra_node, span_of, all_spans, first_pad}
use Rattle.spec_trees.specs.Made.{filling, step_symbols}
use Rattle.spec_runs.specs.Configurations.{token_tree, AreExtras}
use Rattle.spec_runs.specs.Runs.{IsReached}
use Rattle.spec_graph.specs.declared.graph.Head.{Head}
use Rattle.spec_graph.specs.declared.graph.Link.{Link}
use Rattle.spec_graph.specs.States.{LeadsTo, at_first, ShareState, AreRanks}
use Rattle.spec_graph.specs.Laying.{Parsing, IsReading, SeesAt, PassesAt, extra_tree, PassesTree, node_made, Taken, some, nothing, Lays, flat, stood, shifted, passed, made, ComesOver}
use Rattle.spec_graph.specs.Replacing.{AreAlike}
use Rattle.spec_graph.specs.Keys.{Key, LaysBefore, flat_before, stood_before, shifted_before, passed_before, made_before}
use Rattle.spec_graph.specs.Links.{IsAt, IsWay, HasWay, IsWholeTo}
use Rattle.spec_graph.proofs.ReadingLemmas.{readings_alike}
use Rattle.spec_graph.proofs.SightLemmas.{Facts, lead_once, share_on, same_token, sees_one, clash, sees_shared, passes_shared}
use Rattle.spec_graph.proofs.EntryLemmas.{token_says, extra_says, node_tells, kind_of, filling_tree, filling_extra, filling_turned, children_fill, pass_bytes}
use Rattle.spec_graph.proofs.LayLemmas.{IsBase, HasBottom, bottom_turned, order_cases, lays_read, can_make, begins_taken, lays_spans, grows, lays_none, lays_state, split, joins, extras_same, not_stood, Peeled, bare_place, one_more, peel, starts, sound, nothing_laid}
use Rattle.spec_graph.proofs.OrderLemmas.{before_lays}

module _ (P : Parsing) (facts : Facts P) where
  -- ---- heads

  pub same_head : (heads : List Head) (h : ℕ) (γ δ : List ℕ) (p q : ℕ) → (a : IsAt P heads h γ p) → (b : IsAt P heads h δ q) → a.head ≡ b.head
  same_head heads h γ δ p q a b = let e : Some a.head ≡ Some b.head = sym a.is ∙ b.is in cc

  pub same_place : (heads : List Head) (h : ℕ) (γ δ : List ℕ) (p q : ℕ) → IsAt P heads h γ p → IsAt P heads h δ q → p ≡ q
  same_place heads h γ δ p q a b = sym a.place_is ∙ ap (λ (t : Head). t.place) (same_head heads h γ δ p q a b) ∙ b.place_is

  -- two lists of symbols of one head share its state
  pub share_head : (heads : List Head) (h : ℕ) (γ δ : List ℕ) (p q : ℕ) → IsAt P heads h γ p → IsAt P heads h δ q → ShareState P.goto γ δ
  share_head heads h γ δ p q a b = (b.head.state, subst (λ (x : Head). LeadsTo P.goto γ x.state) (same_head heads h γ δ p q a b) a.state, b.state)

  -- a head is that of all lists of symbols that share its state
  pub at_shared : (heads : List Head) (h : ℕ) (γ δ : List ℕ) (p : ℕ) → IsAt P heads h γ p → ShareState P.goto γ δ → IsAt P heads h δ p
  at_shared heads h γ δ p a s = record {
    head = a.head;
    is = a.is;
    state = subst (λ (n : ℕ). LeadsTo P.goto δ n) (lead_once P.goto γ s.0 a.head.state s.1 a.state) s.2;
    place_is = a.place_is;
  }

  pub at_place : (heads : List Head) (h : ℕ) (γ δ : List ℕ) (p q : ℕ) → γ ≡ δ → p ≡ q → IsAt P heads h γ p → IsAt P heads h δ q
  at_place heads h γ δ p q e f a = subst (λ (g : List ℕ). IsAt P heads h g q) e (subst (λ (m : ℕ). IsAt P heads h γ m) f a)

  module _ (base : IsBase P) where
    -- ---- what is laid after some symbols, after others of one state

    pub record Shared (γ' : List ℕ) (q : ℕ) (w : List Tree) (p : ℕ) (δ : List ℕ) : Type 0 where
      pub now : List ℕ
      pub lays : Lays P γ' q w p now
      pub share : ShareState P.goto δ now

    share_tree : (t : Tree) (δ δ' : List ℕ) → ShareState P.goto δ δ' → (m : ℕ) → LeadsTo P.goto (filling (t ∷ []) ++ δ) m → ShareState P.goto (filling (t ∷ []) ++ δ) (filling (t ∷ []) ++ δ')
    share_tree t δ δ' s m l = by (is_extra_node t) refl
      where
        by : (b : Bool) → is_extra_node t ≡ b → ShareState P.goto (filling (t ∷ []) ++ δ) (filling (t ∷ []) ++ δ')
        by true e = subst (λ (r : List ℕ). ShareState P.goto (r ++ δ) (r ++ δ')) (sym (filling_extra t [] e)) s
        by false e = subst (λ (r : List ℕ). ShareState P.goto (r ++ δ) (r ++ δ')) (sym (filling_tree t [] e))
            (share_on P.goto δ δ' (symbol_of t) m s (subst (λ (r : List ℕ). LeadsTo P.goto (r ++ δ) m) (filling_tree t [] e) l))

    share_through : (a b c : List ℕ) → ShareState P.goto a b → ShareState P.goto b c → ShareState P.goto a c
    share_through a b c s t = (t.0, subst (λ (n : ℕ). LeadsTo P.goto a n) (lead_once P.goto b s.0 t.0 s.2 t.1) s.1, t.2)

    taken_shared : (ks w : List Tree) (γ γ' : List ℕ) (q : ℕ) → ShareState P.goto γ γ' → Taken ks w γ q → Taken ks w γ' q
    taken_shared ks w γ γ' q s (some lt begins ends) = some lt begins ends
    taken_shared ks w γ γ' q s (nothing none low read place) =
        let first : LeadsTo P.goto [] s.0 = subst (λ (r : List ℕ). LeadsTo P.goto r s.0) read s.1 in
        let at_zero : s.0 ≡ 0 = lead_once P.goto [] s.0 0 first at_first in
        nothing none low (facts.states.begins γ' (subst (λ (n : ℕ). LeadsTo P.goto γ' n) at_zero s.2)) place

    pub transfer : (γ γ' : List ℕ) (q : ℕ) (w : List Tree) (p : ℕ) (δ : List ℕ) → Lays P γ q w p δ → ShareState P.goto γ γ' → Shared γ' q w p δ
    transfer γ γ' q _ _ _ (flat _ _) s = record { now = γ'; lays = flat γ' q; share = s }
    transfer γ γ' q _ _ _ (stood _ _ w p δ t above below l at place share) s =
        let h = transfer γ γ' q w p δ l s in
        let state = lays_state P facts base γ q (t ∷ w) (p + span_of t) (filling (t ∷ []) ++ δ) s.0 s.1 (stood γ q w p δ t above below l at place share) in
        record {
          now = filling (t ∷ []) ++ h.now;
          lays = stood γ' q w p h.now t above below h.lays at place (share_through (filling below) δ h.now share h.share);
          share = share_tree t δ h.now h.share state.0 state.1;
        }
    transfer γ γ' q _ _ _ (shifted _ _ w p δ t pad size l late sees acts) s =
        let h = transfer γ γ' q w p δ l s in
        let state = lays_state P facts base γ q (token_tree t pad size ∷ w) (p + (pad + size)) (t.0 ∷ δ) s.0 s.1 (shifted γ q w p δ t pad size l late sees acts) in
        record {
          now = t.0 ∷ h.now;
          lays = shifted γ' q w p h.now t pad size h.lays late (sees_shared P facts δ h.now h.share p (token t pad size) sees) (facts.states.acts δ h.now t.0 shift h.share acts);
          share = share_on P.goto δ h.now t.0 state.0 h.share state.1;
        }
    transfer γ γ' q _ _ _ (passed _ _ w p δ t pad size l late passes) s =
        let h = transfer γ γ' q w p δ l s in
        record {
          now = h.now;
          lays = passed γ' q w p h.now t pad size h.lays late (passes_shared P facts δ h.now h.share p t pad size passes);
          share = h.share;
        }
    transfer γ γ' q _ _ _ (made _ _ w p δ ks end ε xs look number left pr l inner outer all late taken folds count deep) s =
        let h = transfer γ γ' q w p δ l s in
        let i = transfer δ h.now p (reverse ks) end ε inner h.share in
        let o = transfer ε i.now end xs look ε outer i.share in
        let flat_read : o.now ≡ i.now = extras_same P facts base xs i.now end look o.now all o.lays in
        let state = lays_state P facts base γ q (node_made P number ks ∷ w) end (left ∷ δ) s.0 s.1 (made γ q w p δ ks end ε xs look number left pr l inner outer all late taken folds count deep) in
        let filled = children_fill P facts ε δ look number left pr ks folds (lays_read P facts δ p (reverse ks) end ε inner) count in
        let read_is : i.now ≡ reverse (step_symbols pr) ++ h.now =
        lays_read P facts h.now p (reverse ks) end i.now i.lays ∙ ap (λ (r : List ℕ). r ++ h.now) (filling_turned ks ∙ ap (λ (r : List ℕ). reverse r) filled) in
        record {
          now = left ∷ h.now;
          lays = made γ' q w p h.now ks end i.now xs look number left pr h.lays i.lays (subst (λ (r : List ℕ). Lays P i.now end xs look r) flat_read o.lays) all late (taken_shared ks w γ γ' q s taken)
              (record {
                symbol = folds.symbol;
                pad = folds.pad;
                size = folds.size;
                sees = sees_shared P facts ε i.now i.share look (token folds.symbol folds.pad folds.size) folds.sees;
                stays = facts.states.acts ε i.now folds.symbol.0 (reduce number) i.share folds.stays;
                at = folds.at;
                read_is = read_is;
              }) count deep;
          share = share_on P.goto δ h.now left state.0 h.share state.1;
        }

    -- ---- ways for what comes before a key

    module _ (rank : ℕ → ℕ) (most : ℕ) (ranked : AreRanks P.grammar rank most) (heads : List Head) (links : List Link) (k : Key) (whole : IsWholeTo P rank heads links k) where
      way_on : (b : ℕ) (w : List Tree) (t : Tree) (p m : ℕ) (δ μ : List ℕ) → (h : HasWay P heads links b w p δ) → LaysBefore P rank k δ p (t ∷ []) m μ → HasWay P heads links b (t ∷ w) m μ
      way_on b w t p m δ μ h l =
          let x = whole.linked h.head δ p t m μ h.at l in
          record {
            head = x.link.above;
            at = x.above;
            way = x.link ∷ h.way;
            is = (x.there, refl, subst (λ (n : ℕ). IsWay links n h.way b) (sym x.below) h.is);
            stands = (x.stands, h.stands);
          }

      taken_alone : (ks w : List Tree) (γ : List ℕ) (q p : ℕ) (δ : List ℕ) → Lays P γ q w p δ → Taken ks w γ q → Taken ks [] δ p
      taken_alone ks w γ q p δ l (some lt begins ends) = some lt begins ends
      taken_alone ks w γ q p δ l (nothing none low read place) = let h = lays_none P facts base γ q w p δ l low in nothing none refl (h.1 ∙ read) (h.0 ∙ place)

      pub has_way : (b : ℕ) (γ : List ℕ) (q : ℕ) (w : List Tree) (p : ℕ) (δ : List ℕ) → IsAt P heads b γ q → LaysBefore P rank k γ q w p δ → HasWay P heads links b w p δ
      has_way b γ q _ _ _ at (flat_before _ _) = record { head = b; at = at; way = []; is = refl; stands = tt }
      has_way b γ q _ _ _ at (stood_before _ _ w p δ t above below l at2 place share) =
          way_on b w t p (p + span_of t) δ (filling (t ∷ []) ++ δ) (has_way b γ q w p δ at l) (stood_before δ p [] p δ t above below (flat_before δ p) at2 place share)
      has_way b γ q _ _ _ at (shifted_before _ _ w p δ s pad size l late lt sees acts) =
          way_on b w (token_tree s pad size) p (p + (pad + size)) δ (s.0 ∷ δ) (has_way b γ q w p δ at l) (shifted_before δ p [] p δ s pad size (flat_before δ p) late lt sees acts)
      has_way b γ q _ _ _ at (passed_before _ _ w p δ s pad size l late lt passes) =
          way_on b w (extra_tree s pad size) p (p + (pad + size)) δ δ (has_way b γ q w p δ at l) (passed_before δ p [] p δ s pad size (flat_before δ p) late lt passes)
      has_way b γ q _ _ _ at (made_before _ _ w p δ ks end ε xs look number left pr l inner outer all late taken folds count deep earlier) =
          way_on b w (node_made P number ks) p end δ (left ∷ δ) (has_way b γ q w p δ at l)
          (made_before δ p [] p δ ks end ε xs look number left pr (flat_before δ p) inner outer all late
          (taken_alone ks w γ q p δ (before_lays P facts base rank k γ q w p δ l) taken) folds count deep earlier)

-- ---- soundness, over the stack from which runs go on

module _ (P : Parsing) (facts : Facts P) (base : IsBase P) where
  -- sound, as told of what is laid from the start
  pub record IsLaid (heads : List Head) (l : Link) (t : Tree) : Type 0 where
    pub under : List ℕ
    pub over : List ℕ
    pub from : ℕ
    pub to : ℕ
    pub below : IsAt P heads l.below under from
    pub above : IsAt P heads l.above over to
    pub lays : Lays P under from (t ∷ []) to over

  -- for each link of a way a tree that can be laid between its heads
  abbrev pub AreLaid : List Head → List Link → List Tree → Type 0
  AreLaid heads [] [] = Unit {0}
  AreLaid heads [] (t ∷ ts) = ⊥
  AreLaid heads (l ∷ way) [] = ⊥
  AreLaid heads (l ∷ way) (t ∷ ts) = IsLaid heads l t × AreLaid heads way ts

  pub record WayLaid (heads : List Head) (b : ℕ) (γ : List ℕ) (q : ℕ) (ts : List Tree) (h p : ℕ) : Type 0 where
    pub now : List ℕ
    pub lays : Lays P γ q ts p now
    pub at : IsAt P heads h now p

  -- each way from a head down to another is laid on it, with any such trees
  pub ways : (heads : List Head) (links : List Link) (b : ℕ) (γ : List ℕ) (q : ℕ) → IsAt P heads b γ q → (way : List Link) (ts : List Tree) (h p : ℕ) (δ : List ℕ) → IsAt P heads h δ p → IsWay links h way b → AreLaid heads way ts → WayLaid heads b γ q ts h p
  ways heads links b γ q bottom [] [] h p δ at is all =
      let here : IsAt P heads h γ q = subst (λ (n : ℕ). IsAt P heads n γ q) (sym is) bottom in
      let place : q ≡ p = same_place P facts heads h γ δ q p here at in
      record { now = γ; lays = subst (λ (m : ℕ). Lays P γ q [] m γ) place (flat γ q); at = subst (λ (m : ℕ). IsAt P heads h γ m) place here }
  ways heads links b γ q bottom [] (t ∷ ts) h p δ at is all = absurd all
  ways heads links b γ q bottom (l ∷ way) [] h p δ at is all = absurd all
  ways heads links b γ q bottom (l ∷ way) (t ∷ ts) h p δ at is all =
      let k = all.0 in
      let low = ways heads links b γ q bottom way ts l.below k.from k.under k.below is.2 all.1 in
      let share = share_head P facts heads l.below k.under low.now k.from k.from k.below low.at in
      let one = transfer P facts base k.under low.now k.from (t ∷ []) k.to k.over k.lays share in
      let top : IsAt P heads h k.over k.to = subst (λ (n : ℕ). IsAt P heads n k.over k.to) is.1 k.above in
      let place : k.to ≡ p = same_place P facts heads h k.over δ k.to p top at in
      record {
        now = one.now;
        lays = subst (λ (m : ℕ). Lays P γ q (t ∷ ts) m one.now) place (joins P facts base γ q ts k.from low.now (t ∷ []) k.to one.now (λ none z. bottom_none ts k.from low.now low.lays none z) low.lays one.lays);
        at = subst (λ (m : ℕ). IsAt P heads h one.now m) place (at_shared P facts heads h k.over one.now k.to top one.share);
      }
    where
      bottom_none : (ts : List Tree) (m : ℕ) (μ : List ℕ) → Lays P γ q ts m μ → μ ≡ [] → m ≡ 0 → (ts ≡ []) × (γ ≡ []) × (q ≡ 0)
      bottom_none ts m μ l none z =
          let e = nothing_laid P facts base γ q ts m μ l none z in
          let h = lays_none P facts base γ q ts m μ l e in
          (e, sym h.1 ∙ none, sym h.0 ∙ z)

  -- ---- what can be packed

  -- one entry of a reading
  abbrev pub Entry : Tree → ℕ → Type 0
  Entry t q = (above : List Tree) × (below : List Tree) × IsReading P (above ++ t ∷ below) × (q ≡ all_spans below)

  -- entries with bytes at one place are of one kind, with one symbol and the same bytes
  same_entry : (t u : Tree) (q : ℕ) → Entry t q → Entry u q → 0 < span_of t → 0 < span_of u → AreAlike t u
  same_entry t u q a b lt lt2 = readings_alike P a.0 a.1 b.0 b.1 t u a.2 b.2 (sym a.3 ∙ b.3) lt lt2

  entry_early : (t : Tree) (q : ℕ) → Entry t q → q < P.place
  entry_early t q a = let h = base.low a.0 a.1 t a.2 in let e = a.3 in omega (arith, h, e)

  -- what lies where a tree begins, and its pad: an entry of a reading, or the token that is seen
  data Reads (γ : List ℕ) (q low : ℕ) : Type 0 where
    stands : (t : Tree) → Entry t q → is_extra_node t ≡ false → 0 < span_of t → low ≡ pad_of t → Reads γ q low
    reads : (s : Symbol) (pad size : ℕ) → P.place ≤ q → SeesAt P γ q (token s pad size) → low ≡ pad → Reads γ q low

  abbrev low_pad : List Tree → ℕ
  low_pad [] = 0
  low_pad (t ∷ []) = pad_of t
  low_pad (t ∷ u ∷ w) = low_pad (u ∷ w)

  low_front : (w : List Tree) (t : Tree) → low_pad (w ++ t ∷ []) ≡ pad_of t
  low_front [] t = refl
  low_front (x ∷ []) t = refl
  low_front (x ∷ y ∷ w) t = low_front (y ∷ w) t

  low_turned : (ks : List Tree) → low_pad (reverse ks) ≡ first_pad ks
  low_turned [] = refl
  low_turned (k ∷ ks) = ap low_pad (reverse-append (k ∷ []) ks) ∙ low_front (reverse ks) k

  moved_entry : (t : Tree) (q p : ℕ) → p ≡ q → Entry t p → Entry t q
  moved_entry t q p f a = (a.0, a.1, a.2, sym f ∙ a.3)

  moved_read : (γ δ : List ℕ) (q p low low2 : ℕ) → δ ≡ γ → p ≡ q → low2 ≡ low → Reads δ p low → Reads γ q low2
  moved_read γ δ q p low low2 e f g (stands t a fills lt is) = stands t (moved_entry t q p f a) fills lt (g ∙ is)
  moved_read γ δ q p low low2 e f g (reads s pad size late sees is) =
      reads s pad size (omega (arith, late, f)) (subst (λ (m : ℕ). SeesAt P γ m (token s pad size)) f (subst (λ (h : List ℕ). SeesAt P h p (token s pad size)) e sees)) (g ∙ is)

  lowest : (γ : List ℕ) (q : ℕ) (w : List Tree) (p : ℕ) (δ : List ℕ) → Lays P γ q w p δ → HasBottom w → Reads γ q (low_pad w)
  lowest γ q _ _ _ (flat _ _) h = absurd h
  lowest γ q _ _ _ (stood _ _ [] p δ t above below l at place share) h =
      let e = lays_none P facts base γ q [] p δ l refl in
      moved_read γ δ q p (pad_of t) (pad_of t) e.1 e.0 refl (stands t (above, below, at, place) h.0 h.1 refl)
  lowest γ q _ _ _ (stood _ _ (f ∷ w) p δ t above below l at place share) h = lowest γ q (f ∷ w) p δ l h
  lowest γ q _ _ _ (shifted _ _ [] p δ s pad size l late sees acts) h =
      let e = lays_none P facts base γ q [] p δ l refl in
      moved_read γ δ q p pad (pad_of (token_tree s pad size)) e.1 e.0 (token_says facts.laws.runs s pad size).pad (reads s pad size late sees refl)
  lowest γ q _ _ _ (shifted _ _ (f ∷ w) p δ s pad size l late sees acts) h = lowest γ q (f ∷ w) p δ l h
  lowest γ q _ _ _ (passed _ _ [] p δ s pad size l late passes) h = absurd (true≢false (sym (extra_says facts.laws.runs s pad size).kind ∙ h.0))
  lowest γ q _ _ _ (passed _ _ (f ∷ w) p δ s pad size l late passes) h = lowest γ q (f ∷ w) p δ l h
  lowest γ q _ _ _ (made _ _ (f ∷ w) p δ ks end ε xs look number left pr l inner outer all late taken folds count deep) h = lowest γ q (f ∷ w) p δ l h
  lowest γ q _ _ _ (made _ _ [] p δ ks end ε xs look number left pr l inner outer all late taken folds count deep) h =
      let e = lays_none P facts base γ q [] p δ l refl in
      let make = can_make P facts base δ p ks end ε look number left pr inner (begins_taken P facts ks [] γ q taken) folds count in
      let n = node_tells P facts number left pr ks make in
      let bytes : 0 < all_spans ks = (let b = h.1 in omega (arith, b, n.span)) in
      moved_read γ δ q p (low_pad (reverse ks)) (pad_of (node_made P number ks)) e.1 e.0 (n.pad ∙ sym (low_turned ks))
      (lowest δ p (reverse ks) end ε inner (bottom_turned P.grammar number left pr ks (long ks bytes) make))
    where
      long : (ks : List Tree) → 0 < all_spans ks → 0 < length ks
      long [] lt = lt
      long (k ∷ ks) lt = omega arith

  -- an extra is an entry of a reading, or what is seen where it begins
  pub data IsRead (γ : List ℕ) (q : ℕ) (t : Tree) : Type 0 where
    stands_there : Entry t q → IsRead γ q t
    is_read : (s : Symbol) (pad size : ℕ) → P.place ≤ q → t ≡ extra_tree s pad size → PassesAt P γ q s pad size → IsRead γ q t

  pub extra_read : (γ : List ℕ) (q : ℕ) (w : List Tree) (t : Tree) (p : ℕ) (δ : List ℕ) → Lays P γ q w p δ → w ≡ t ∷ [] → is_extra_node t ≡ true → IsRead γ q t
  extra_read γ q _ t _ _ (flat _ _) is e = absurd (let h : [] ≡ t ∷ [] = is in cc)
  extra_read γ q _ t _ _ (stood _ _ w p δ u above below l at place share) is e =
      let same : u ≡ t = cc in
      let none : w ≡ [] = cc in
      let h = lays_none P facts base γ q w p δ l none in
      stands_there (moved_entry t q p h.0 (subst (λ (x : Tree). Entry x p) same (above, below, at, place)))
  extra_read γ q _ t _ _ (shifted _ _ w p δ s pad size l late sees acts) is e =
      let same : token_tree s pad size ≡ t = cc in
      absurd (true≢false (sym e ∙ ap is_extra_node (sym same) ∙ (token_says facts.laws.runs s pad size).kind))
  extra_read γ q _ t _ _ (made _ _ w p δ ks end ε xs look number left pr l inner outer all late taken folds count deep) is e =
      let same : node_made P number ks ≡ t = cc in
      absurd (true≢false (sym e ∙ ap is_extra_node (sym same) ∙ kind_of P facts number left pr ks folds.at))
  extra_read γ q _ t _ _ (passed _ _ w p δ s pad size l late passes) is e =
      let same : extra_tree s pad size ≡ t = cc in
      let none : w ≡ [] = cc in
      let h = lays_none P facts base γ q w p δ l none in
      is_read s pad size (let f = h.0 in omega (arith, late, f)) (sym same) (subst (λ (m : ℕ). PassesAt P γ m s pad size) h.0 (subst (λ (r : List ℕ). PassesAt P r p s pad size) h.1 passes))

  alone_spans : (γ : List ℕ) (q : ℕ) (t : Tree) (p : ℕ) (δ : List ℕ) → Lays P γ q (t ∷ []) p δ → q + span_of t ≡ p
  alone_spans γ q t p δ l = let h = lays_spans P facts base γ q (t ∷ []) p δ l in omega (arith, h)

  extra_span : (t : Tree) (s : Symbol) (pad size : ℕ) → t ≡ extra_tree s pad size → span_of t ≡ pad + size
  extra_span t s pad size is =
      let x = extra_says facts.laws.runs s pad size in
      ap span_of is ∙ (let y = x.pad in let z = x.size in omega (arith, y, z))

  pub passes_tree : (γ : List ℕ) (q : ℕ) (t : Tree) (p : ℕ) (δ : List ℕ) → P.place ≤ p → Lays P γ q (t ∷ []) p δ → is_extra_node t ≡ true → PassesTree P γ q t p
  passes_tree γ q t p δ late l e = by (extra_read γ q (t ∷ []) t p δ l refl e)
    where
      by : IsRead γ q t → PassesTree P γ q t p
      by (stands_there a) = absurd (not_stood P facts base a.0 a.1 t q a.2 a.3 e (let s = alone_spans γ q t p δ l in omega (arith, s, late)))
      by (is_read s pad size early is passes) = record {
        symbol = s;
        pad = pad;
        size = size;
        passes = passes;
        tree_is = is;
        ends = let a = alone_spans γ q t p δ l in let span = extra_span t s pad size is in omega (arith, a, span);
      }

  -- extras have bytes
  pub extra_bytes : (γ : List ℕ) (q : ℕ) (t : Tree) (p : ℕ) (δ : List ℕ) → Lays P γ q (t ∷ []) p δ → is_extra_node t ≡ true → 0 < span_of t
  extra_bytes γ q t p δ l e = by (extra_read γ q (t ∷ []) t p δ l refl e)
    where
      by : IsRead γ q t → 0 < span_of t
      by (stands_there a) = base.some_extra a.0 a.1 t a.2 e
      by (is_read s pad size early is passes) = let b = pass_bytes P facts γ q s pad size passes in let span = extra_span t s pad size is in omega (arith, b, span)

  same_low : (γ : List ℕ) (q n m : ℕ) → Reads γ q n → Reads γ q m → n ≡ m
  same_low γ q n m (stands t a fills lt is) (stands u b fills2 lt2 at) = is ∙ (same_entry t u q a b lt lt2).pad ∙ sym at
  same_low γ q n m (stands t a fills lt is) (reads s pad size late sees at) = absurd (let h = entry_early t q a in omega (arith, h, late))
  same_low γ q n m (reads s pad size late sees at) (stands t a fills lt is) = absurd (let h = entry_early t q a in omega (arith, h, late))
  same_low γ q n m (reads s pad size late sees is) (reads r pad2 size2 late2 sees2 at) =
      is ∙ (same_token s r pad pad2 size size2 (sees_one P facts γ q (token s pad size) (token r pad2 size2) sees sees2)).1 ∙ sym at

  same_read : (γ : List ℕ) (q : ℕ) (t u : Tree) (p : ℕ) (δ ε : List ℕ) → Lays P γ q (t ∷ []) p δ → Lays P γ q (u ∷ []) p ε → is_extra_node t ≡ false → is_extra_node u ≡ false → pad_of t ≡ pad_of u
  same_read γ q t u p δ ε l m e f = by (order_cases 0 (span_of t))
    where
      spans : span_of t ≡ span_of u
      spans = omega (arith, alone_spans γ q t p δ l, alone_spans γ q u p ε m)

      by : (0 < span_of t) ⊎ (span_of t ≤ 0) → pad_of t ≡ pad_of u
      by (inl some_bytes) = same_low γ q (pad_of t) (pad_of u) (lowest γ q (t ∷ []) p δ l (e, some_bytes)) (lowest γ q (u ∷ []) p ε m (f, omega (arith, some_bytes, spans)))
      by (inr none) = omega (arith, none, spans)

  -- a tree that is not an extra, and an extra, do not begin at one place with one end
  mixed : (γ : List ℕ) (q : ℕ) (t u : Tree) (p : ℕ) (δ ε : List ℕ) → Lays P γ q (t ∷ []) p δ → Lays P γ q (u ∷ []) p ε → is_extra_node t ≡ false → is_extra_node u ≡ true → ⊥
  mixed γ q t u p δ ε l m e f = by (extra_read γ q (u ∷ []) u p ε m refl f)
    where
      extra_some : 0 < span_of u
      extra_some = extra_bytes γ q u p ε m f

      some_bytes : 0 < span_of t
      some_bytes = omega (arith, extra_some, alone_spans γ q t p δ l, alone_spans γ q u p ε m)

      entry : Entry u q → Reads γ q (pad_of t) → ⊥
      entry a (stands v b fills lt is) = true≢false (sym f ∙ (same_entry u v q a b extra_some lt).extra ∙ fills)
      entry a (reads s pad size late sees is) = let h = entry_early u q a in omega (arith, h, late)

      by : IsRead γ q u → ⊥
      by (stands_there a) = entry a (lowest γ q (t ∷ []) p δ l (e, some_bytes))
      by (is_read s pad size late is passes) = clash P facts γ q s pad size (starts P facts base γ q (t ∷ []) p δ l late (e, some_bytes)) passes

  same_extra : (γ : List ℕ) (q : ℕ) (t u : Tree) → is_extra_node t ≡ true → is_extra_node u ≡ true → 0 < span_of t → 0 < span_of u → IsRead γ q t → IsRead γ q u → t ≡ u
  same_extra γ q t u e f lt lt2 (stands_there a) (stands_there b) = base.same_extras a.0 a.1 b.0 b.1 t u a.2 b.2 (sym a.3 ∙ b.3) lt lt2 e f
  same_extra γ q t u e f lt lt2 (stands_there a) (is_read s pad size late is passes) = absurd (let h = entry_early t q a in omega (arith, h, late))
  same_extra γ q t u e f lt lt2 (is_read s pad size late is passes) (stands_there a) = absurd (let h = entry_early u q a in omega (arith, h, late))
  same_extra γ q t u e f lt lt2 (is_read s pad size late is passes) (is_read r pad2 size2 late2 at passes2) =
      let same = same_token s r pad pad2 size size2 (sees_one P facts γ q (token s pad size) (token r pad2 size2) passes.sees passes2.sees) in
      is ∙ ap (λ (x : Symbol). extra_tree x pad size) same.0 ∙ ap (λ (x : ℕ). extra_tree r x size) same.1 ∙ ap (λ (x : ℕ). extra_tree r pad2 x) same.2 ∙ sym at

  -- extras up to one place are always the same
  last_of : (xs : List Tree) → (xs ≡ []) ⊎ ((us : List Tree) × (x : Tree) × (xs ≡ us ++ x ∷ []))
  last_of [] = inl refl
  last_of (y ∷ ys) = by (last_of ys)
    where
      by : (ys ≡ []) ⊎ ((us : List Tree) × (x : Tree) × (ys ≡ us ++ x ∷ [])) → (y ∷ ys ≡ []) ⊎ ((us : List Tree) × (x : Tree) × (y ∷ ys ≡ us ++ x ∷ []))
      by (inl e) = inr ([], y, ap (λ (l : List Tree). y ∷ l) e)
      by (inr w) = inr (y ∷ w.0, w.1, ap (λ (l : List Tree). y ∷ l) w.2)

  extras_parts : (us : List Tree) (x : Tree) → AreExtras (us ++ x ∷ []) → AreExtras us × (is_extra_node x ≡ true)
  extras_parts [] x a = (tt, a.0)
  extras_parts (u ∷ us) x a = let r = extras_parts us x a.1 in ((a.0, r.0), r.1)

  -- the lowest of some extras, and the others over it
  record Lowest (γ : List ℕ) (q : ℕ) (us : List Tree) (x : Tree) (p : ℕ) : Type 0 where
    first : Lays P γ q (x ∷ []) (q + span_of x) γ
    rest : Lays P γ (q + span_of x) us p γ
    extras : AreExtras us
    extra : is_extra_node x ≡ true

  lowest_extra : (γ : List ℕ) (q : ℕ) (us : List Tree) (x : Tree) (p : ℕ) → Lays P γ q (us ++ x ∷ []) p γ → AreExtras (us ++ x ∷ []) → Lowest γ q us x p
  lowest_extra γ q us x p l a =
      let s = split P facts base us (x ∷ []) γ q p γ l in
      let e = extras_parts us x a in
      let read : s.between ≡ γ = extras_same P facts base (x ∷ []) γ q s.place s.between (e.1, tt) s.low in
      let place : s.place ≡ q + span_of x = sym (alone_spans γ q x s.place s.between s.low) in
      record {
        first = subst (λ (r : List ℕ). Lays P γ q (x ∷ []) (q + span_of x) r) read (subst (λ (m : ℕ). Lays P γ q (x ∷ []) m s.between) place s.low);
        rest = subst (λ (r : List ℕ). Lays P r (q + span_of x) us p γ) read (subst (λ (m : ℕ). Lays P s.between m us p γ) place s.high);
        extras = e.0;
        extra = e.1;
      }

  no_more : (γ : List ℕ) (q : ℕ) (us : List Tree) (x : Tree) (p : ℕ) → Lays P γ q [] p γ → Lowest γ q us x p → ⊥
  no_more γ q us x p none w =
      let a = grows P facts base γ (q + span_of x) us p γ w.rest in
      let b = extra_bytes γ q x (q + span_of x) γ w.first w.extra in
      let c = (lays_none P facts base γ q [] p γ none refl).0 in
      omega (arith, a, b, c)

  pub extras_once : (n : ℕ) (γ : List ℕ) (q : ℕ) (xs ys : List Tree) (p : ℕ) → length xs < n → Lays P γ q xs p γ → AreExtras xs → Lays P γ q ys p γ → AreExtras ys → xs ≡ ys
  extras_once zero γ q xs ys p lt l a m b = absurd (omega (arith, lt))
  extras_once (suc n) γ q xs ys p lt l a m b = by (last_of xs) (last_of ys) (λ r us vs k c d f e. extras_once n γ r us vs p k c d f e)
    where
      by : (xs ≡ []) ⊎ ((us : List Tree) × (x : Tree) × (xs ≡ us ++ x ∷ [])) → (ys ≡ []) ⊎ ((vs : List Tree) × (y : Tree) × (ys ≡ vs ++ y ∷ []))
          → ((r : ℕ) (us vs : List Tree) → length us < n → Lays P γ r us p γ → AreExtras us → Lays P γ r vs p γ → AreExtras vs → us ≡ vs) → xs ≡ ys
      by (inl e) (inl f) again = e ∙ sym f
      by (inl e) (inr v) again =
          absurd (no_more γ q v.0 v.1 p (subst (λ (ts : List Tree). Lays P γ q ts p γ) e l) (lowest_extra γ q v.0 v.1 p (subst (λ (ts : List Tree). Lays P γ q ts p γ) v.2 m) (subst AreExtras v.2 b)))
      by (inr u) (inl f) again =
          absurd (no_more γ q u.0 u.1 p (subst (λ (ts : List Tree). Lays P γ q ts p γ) f m) (lowest_extra γ q u.0 u.1 p (subst (λ (ts : List Tree). Lays P γ q ts p γ) u.2 l) (subst AreExtras u.2 a)))
      by (inr u) (inr v) again =
          let x = lowest_extra γ q u.0 u.1 p (subst (λ (ts : List Tree). Lays P γ q ts p γ) u.2 l) (subst AreExtras u.2 a) in
          let y = lowest_extra γ q v.0 v.1 p (subst (λ (ts : List Tree). Lays P γ q ts p γ) v.2 m) (subst AreExtras v.2 b) in
          let one : u.1 ≡ v.1 =
          same_extra γ q u.1 v.1 x.extra y.extra (extra_bytes γ q u.1 (q + span_of u.1) γ x.first x.extra) (extra_bytes γ q v.1 (q + span_of v.1) γ y.first y.extra)
          (extra_read γ q (u.1 ∷ []) u.1 (q + span_of u.1) γ x.first refl x.extra) (extra_read γ q (v.1 ∷ []) v.1 (q + span_of v.1) γ y.first refl y.extra) in
          let count : length xs ≡ length u.0 + 1 = ap (λ (ts : List Tree). length ts) u.2 ∙ length-append u.0 (u.1 ∷ []) in
          let inner : u.0 ≡ v.0 = again (q + span_of u.1) u.0 v.0 (omega (arith, count, lt)) x.rest x.extras (subst (λ (t : Tree). Lays P γ (q + span_of t) v.0 p γ) (sym one) y.rest) y.extras in
          u.2 ∙ ap (λ (ts : List Tree). ts ++ u.1 ∷ []) inner ∙ ap (λ (t : Tree). v.0 ++ t ∷ []) one ∙ sym v.2

  -- What is laid between two heads twice is of one kind, with one symbol and the same bytes.
  pub like : (heads : List Head) (a b : ℕ) (γ δ under over : List ℕ) (q p : ℕ) (t u : Tree) → IsAt P heads a γ q → IsAt P heads b δ p → IsAt P heads a under q → IsAt P heads b over p
      → Lays P γ q (t ∷ []) p δ → Lays P under q (u ∷ []) p over → AreAlike t u
  like heads a b γ δ under over q p t u low high low2 high2 l m0 = by (is_extra_node t) (is_extra_node u) refl refl
    where
      share : ShareState P.goto under γ
      share = share_head P facts heads a under γ q q low2 low

      m : Shared P facts base γ q (u ∷ []) p over
      m = transfer P facts base under γ q (u ∷ []) p over m0 share

      spans : span_of t ≡ span_of u
      spans = omega (arith, alone_spans γ q t p δ l, alone_spans γ q u p m.now m.lays)

      sizes : pad_of t ≡ pad_of u → size_of t ≡ size_of u
      sizes e = let s = spans in omega (arith, s, e)

      by : (x y : Bool) → is_extra_node t ≡ x → is_extra_node u ≡ y → AreAlike t u
      by true true e f =
          let one = same_extra γ q t u e f (extra_bytes γ q t p δ l e) (extra_bytes γ q u p m.now m.lays f) (extra_read γ q (t ∷ []) t p δ l refl e) (extra_read γ q (u ∷ []) u p m.now m.lays refl f) in
          record { symbol = ap symbol_of one; extra = ap is_extra_node one; pad = ap pad_of one; size = ap size_of one }
      by true false e f = absurd (mixed γ q u t p m.now δ m.lays l f e)
      by false true e f = absurd (mixed γ q t u p δ m.now l m.lays e f)
      by false false e f =
          let top = share_head P facts heads b δ over p p high high2 in
          let d : δ ≡ symbol_of t ∷ γ = lays_read P facts γ q (t ∷ []) p δ l ∙ ap (λ (r : List ℕ). r ++ γ) (filling_tree t [] e) in
          let o : over ≡ symbol_of u ∷ under = lays_read P facts under q (u ∷ []) p over m0 ∙ ap (λ (r : List ℕ). r ++ under) (filling_tree u [] f) in
          let both : ShareState P.goto (symbol_of t ∷ γ) (symbol_of u ∷ under) = subst (λ (r : List ℕ). ShareState P.goto r (symbol_of u ∷ under)) d (subst (λ (r : List ℕ). ShareState P.goto δ r) o top) in
          let pads = same_read γ q t u p δ m.now l m.lays e f in
          record { symbol = facts.states.enters γ under (symbol_of t) (symbol_of u) both; extra = e ∙ sym f; pad = pads; size = sizes pads }

  same_filling : (t u : Tree) → symbol_of t ≡ symbol_of u → is_extra_node t ≡ is_extra_node u → filling (t ∷ []) ≡ filling (u ∷ [])
  same_filling t u s e = by (is_extra_node u) refl
    where
      by : (b : Bool) → is_extra_node u ≡ b → filling (t ∷ []) ≡ filling (u ∷ [])
      by true f = filling_extra t [] (e ∙ f) ∙ sym (filling_extra u [] f)
      by false f = filling_tree t [] (e ∙ f) ∙ ap (λ (n : ℕ). n ∷ []) s ∙ sym (filling_tree u [] f)

  -- each of two trees that are laid between two heads is laid there after the symbols of the other
  pub either : (heads : List Head) (a b : ℕ) (γ δ under over : List ℕ) (q p : ℕ) (t u : Tree) → IsAt P heads a γ q → IsAt P heads b δ p → IsAt P heads a under q → IsAt P heads b over p
      → Lays P γ q (t ∷ []) p δ → Lays P under q (u ∷ []) p over → Lays P under q (t ∷ []) p over
  either heads a b γ δ under over q p t u low high low2 high2 l m = subst (λ (r : List ℕ). Lays P under q (t ∷ []) p r) read_is moved.lays
    where
      moved : Shared P facts base under q (t ∷ []) p δ
      moved = transfer P facts base γ under q (t ∷ []) p δ l (share_head P facts heads a γ under q q low low2)

      alike : AreAlike t u
      alike = like heads a b γ δ under over q p t u low high low2 high2 l m

      read_is : moved.now ≡ over
      read_is = lays_read P facts under q (t ∷ []) p moved.now moved.lays
          ∙ ap (λ (r : List ℕ). r ++ under) (same_filling t u alike.symbol alike.extra)
          ∙ sym (lays_read P facts under q (u ∷ []) p over m)

  -- ---- what is reached, where runs go on from the start

  -- such a way from the start is reached, where no extra is passed at its head
  module _ (fresh : P.layers ≡ []) (zero_place : P.place ≡ 0) where
    pub way_reached : (heads : List Head) (ts : List Tree) (h p : ℕ) → (w : WayLaid heads 0 [] 0 ts h p) → ((s : Symbol) (pad size : ℕ) → PassesAt P w.now p s pad size → ⊥) → IsReached P.grammar P.text (record { stack = ts; place = p })
    way_reached heads ts h p w quiet =
        let f = sound P facts base fresh zero_place [] 0 ts p w.now 0 at_first w.lays [] refl (λ a b. refl) in
        by f (peel P facts base w.now p f.extras f.look w.now f.lays f.all_extras (omega (arith, zero_place)) refl)
      where
        by : (f : ComesOver P [] ts 0 p w.now) → Peeled P facts base w.now p f.extras f.look → IsReached P.grammar P.text (record { stack = ts; place = p })
        by f (bare_place none place) =
            subst (λ (u : List Tree). IsReached P.grammar P.text (record { stack = u; place = p })) (append-nil ts)
            (subst (λ (m : ℕ). IsReached P.grammar P.text (record { stack = ts ++ []; place = m })) (sym place)
            (subst (λ (u : List Tree). IsReached P.grammar P.text (record { stack = u ++ (ts ++ []); place = f.look })) none f.run))
        by f (one_more ys s pad size is late first rest all) = absurd (quiet s pad size first)
