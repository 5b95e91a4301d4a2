-- Elements that a tree lends are honest where the tree is sound, and a parser of the grammar made the nodes in them.
use Rattle.std.proofs.Common.{◌≡◌, ◌∙◌, sym, ap, refl, subst, ℕ, zero, suc, ◌+◌, ◌<◌, ◌≤◌, true, List, [], ◌∷◌, length, take, drop, All, Some, arith}
use Rattle.std.proofs.lemmas.List.{take-take, take-append-drop, length-drop}
use Rattle.std.proofs.lemmas.List.Elements.{All-head, All-tail}
use Rattle.ts_base.specs.Bytes.{Bytes}
use Rattle.ts_core.specs.declared.flat.FlatGrammar.{FlatGrammar}
use Rattle.spec_tables.specs.Fit.{Fit}
use Rattle.spec_trees.specs.declared.tree.Tree.{Tree}
use Rattle.spec_trees.specs.declared.tree.Element.{Element}
use Rattle.spec_trees.specs.declared.tree.Stretch.{Stretch}
use Rattle.spec_trees.specs.Trees.{symbol_of, state_of, elements_of, children_of, is_settled, span_of, all_spans}
use Rattle.spec_trees.specs.Made.{IsNode, AreElementsWell, AreCounted, children_count, elements_between, first_elements, stretch_in, bytes_before, filling, step_symbols}
use Rattle.spec_trees.specs.Inside as nodes
use Rattle.spec_reuse.specs.Places.{IsIn, here, inside, later, IsWhole, lead_of}
use Rattle.spec_runs.specs.Configurations.{stack_symbols}
use Rattle.spec_forced.specs.Behind.{StandsBehind}
use Rattle.spec_forced.specs.Sound.{States, AllSound, IsSound, IsHonestStretch, SettledStand}
use Rattle.spec_forced.proofs.SoundLemmas.{in_in}
use Rattle.ts_node.specs.Standing.{IsPartOf}
use Rattle.ts_node.proofs.ElementLemmas.{count_within}
use Rattle.ts_offer.specs.Answers.{IsStretchAt}
use Rattle.ts_offer.proofs.PlaceLemmas.{AllWhole, whole_children, whole_tail}
use Rattle.ts_table.specs.declared.view.ParseTable.{ParseTable}
use Rattle.ts_steps.specs.Good.{EachTree, IsLight, IsGoodTree, AreGoodTrees}
use Rattle.ts_steps.specs.Heads.{AreStatesOf, IsOwnWithin}
use Rattle.ts_steps.specs.Reparsing.{IsOffered, IsLent}
use Rattle.ts_steps.proofs.NodeLemmas.{each_append, all_spans-append, each_some}
use Rattle.ts_steps.proofs.OwnLemmas.{own_self}
use Rattle.ts_docs.specs.Reuse.{IsReusable}

-- ---- lists

-- each of the first ones, and of the others
each_take : (P : Tree → Type 0) (n : ℕ) (ts : List Tree) → EachTree P ts → EachTree P (take n ts)
each_take P zero ts a = tt
each_take P (suc n) [] a = tt
each_take P (suc n) (t ∷ ts) a = (a.0, each_take P n ts a.1)

each_drop : (P : Tree → Type 0) (n : ℕ) (ts : List Tree) → EachTree P ts → EachTree P (drop n ts)
each_drop P zero ts a = a
each_drop P (suc n) [] a = tt
each_drop P (suc n) (t ∷ ts) a = each_drop P n ts a.1

each_joined : (P : Tree → Type 0) (n : ℕ) (ts : List Tree) → EachTree P (take n ts) → EachTree P (drop n ts) → EachTree P ts
each_joined P n ts a b = subst (λ (l : List Tree). EachTree P l) (take-append-drop n ts) (each_append P (take n ts) (drop n ts) a b)

each_all : (P : Tree → Type 0) (ts : List Tree) → All P ts → EachTree P ts
each_all P [] a = tt
each_all P (t ∷ ts) a = (All-head P t ts a, each_all P ts (All-tail P t ts a))

-- each node of some trees that stand one after another
each_in : (P : Tree → Type 0) (ts : List Tree) (place : ℕ) → ((c : Tree) (at : ℕ) → IsIn ts place c at → P c) → EachTree P ts
each_in P [] place f = tt
each_in P (t ∷ ts) place f = (f t place (here t ts place), each_in P ts (place + span_of t) (λ c at i. f c at (later t ts place c at i)))

-- a node in whole trees is whole
in_whole : (ts : List Tree) (place : ℕ) (u : Tree) (at : ℕ) → IsIn ts place u at → AllWhole ts → IsWhole u
in_whole _ _ _ _ (here t ts place) w = w 0 t refl
in_whole _ _ u at (inside t ts place _ _ i) w = in_whole (children_of t) place u at i (whole_children t (w 0 t refl))
in_whole _ _ u at (later t ts place _ _ i) w = in_whole ts (place + span_of t) u at i (whole_tail t ts w)

-- the children of settled elements are settled
inner_settled : (es : List Element) (ks : List Tree) → children_count es ≡ length ks → All (λ e. e.settled ≡ true) es → AreElementsWell es ks → EachTree (λ c. is_settled c ≡ true) ks
inner_settled [] [] own a w = tt
inner_settled [] (k ∷ ks) own a w = absurd (omega (arith, own))
inner_settled (e ∷ es) ks own a w =
    each_joined (λ c. is_settled c ≡ true) e.children ks
    (each_all (λ c. is_settled c ≡ true) (take e.children ks) (w.0 (All-head (λ (d : Element). d.settled ≡ true) e es a)).inner)
    (inner_settled es (drop e.children ks) (omega (arith, own, length-drop e.children ks)) (All-tail (λ (d : Element). d.settled ≡ true) e es a) w.1)

-- ---- where elements begin

-- as many bytes stand before an element of the first ones as before it in all
bytes_first : (from to : ℕ) (s : Stretch) → from ≤ to → bytes_before from (first_elements to s) ≡ bytes_before from s
bytes_first from to s le =
    let es : List Element = s.elements in
    let few : take from (take to es) ≡ take from es = take-take from to es le in
    let n : ℕ = children_count (take from es) in
    let m : ℕ = children_count (take to es) in
    let less : children_count (take from (take to es)) ≤ m = count_within from (take to es) in
    let low : n ≤ m = subst (λ (l : List Element). children_count l ≤ m) few less in
    ap (λ (l : List Element). all_spans (take (children_count l) (take m s.children))) few
    ∙ ap all_spans (take-take n m s.children low)

-- ---- honest

abbrev pub Stretches : Type 0
Stretches = (g : FlatGrammar) (states : States) (text : Bytes) (ts : List Tree) (place at state from to : ℕ) (u : Tree)
    → AllSound g states text ts place → IsIn ts place u at → state_of u ≡ Some state
    → AreCounted (elements_of u) (children_of u) → 0 < from
    → All (λ e. e.settled ≡ true) (elements_between from to u).elements
    → IsHonestStretch g states text (at + bytes_before from (first_elements to (stretch_in u))) state (symbol_of u) (elements_between from to u)

module _ (stretches : Stretches) (g : FlatGrammar) (states : States) (text : Bytes) (tree : Tree) (whole : IsWhole tree) (place state symbol : ℕ) (s : Stretch) (w : IsStretchAt tree place state symbol s) where
  pub node_is : IsNode w.node
  node_is = in_whole (children_of tree) (lead_of tree) w.node w.at w.there (whole_children tree whole) w.node nodes.itself

  pub honest_lent : IsSound g states text tree → IsHonestStretch g states text place state symbol s
  honest_lent sound =
      let at : w.at + bytes_before w.from (first_elements w.to (stretch_in w.node)) ≡ place =
      ap (λ (n : ℕ). w.at + n) (bytes_first w.from w.to (stretch_in w.node) (omega (arith, w.run.some))) ∙ w.begins in
      subst (λ (x : Stretch). IsHonestStretch g states text place state symbol x) (sym w.stretch_is)
      (subst (λ (y : ℕ). IsHonestStretch g states text place state y (elements_between w.from w.to w.node)) w.named
      (subst (λ (n : ℕ). IsHonestStretch g states text n state (symbol_of w.node) (elements_between w.from w.to w.node)) at
      (stretches g states text (children_of tree) (lead_of tree) w.at state w.from w.to w.node sound.inner w.there w.below node_is.counted w.run.later w.run.settled)))

-- ---- lent

abbrev pub Steps : Type 0
Steps = (g : FlatGrammar) → Fit g → (symbol : ℕ) (read : List ℕ) (rest : Bytes) (number : ℕ) (children : List Tree) (extent : ℕ) (b : StandsBehind g symbol read rest number children extent)
    → (symbol ∷ stack_symbols children ≡ step_symbols b.production) × (0 < length (stack_symbols children))

-- a node that fills a step is among them
some_node : (ts : List Tree) → 0 < length (filling ts) → 0 < length ts
some_node [] h = absurd (omega (arith, h))
some_node (t ∷ ts) h = omega arith

some_bytes : (ts : List Tree) → 0 < length ts → EachTree (λ t. (0 < span_of t) × IsLight t) ts → 0 < all_spans ts
some_bytes [] h a = absurd (omega (arith, h))
some_bytes (t ∷ ts) h a = omega (arith, a.0.0)

-- elements that stand have bytes, and so have their children
bytes_of : (steps : Steps) (g : FlatGrammar) → Fit g → (states : States) (text : Bytes) (place state symbol : ℕ) (es : List Element) (ks : List Tree) → children_count es ≡ length ks → All (λ e. e.settled ≡ true) es → SettledStand g states text place state symbol es ks
    → AreGoodTrees g ks → EachTree (λ t. (0 < span_of t) × IsLight t) ks × (length es ≤ all_spans ks)
bytes_of steps g fit states text place state symbol [] [] own a st good = (tt, (omega arith))
bytes_of steps g fit states text place state symbol [] (k ∷ ks) own a st good = absurd (omega (arith, own))
bytes_of steps g fit states text place state symbol (e ∷ es) ks own a st good =
    let mine : List Tree = take e.children ks in
    let others : List Tree = drop e.children ks in
    let one = st.0 (All-head (λ (d : Element). d.settled ≡ true) e es a) in
    let f = steps g fit symbol one.stands.way (drop place text) one.number mine e.extent one.stands.stands in
    let b = one.stands.stands in
    let each = each_some g one.number symbol b.production mine (symbol ∷ []) b.at f.0 (each_take (IsGoodTree g) e.children ks good) in
    let rest = bytes_of steps g fit states text (place + all_spans mine) state symbol es others (omega (arith, own, length-drop e.children ks)) (All-tail (λ (d : Element). d.settled ≡ true) e es a) st.1 (each_drop (IsGoodTree g) e.children ks good) in
    let some = some_bytes mine (some_node mine f.1) each in
    let sum : all_spans mine + all_spans others ≡ all_spans ks = sym (all_spans-append mine others) ∙ ap all_spans (take-append-drop e.children ks) in
    (each_joined (λ t. (0 < span_of t) × IsLight t) e.children ks each rest.0, (omega (arith, some, rest.1, sum)))

each_offered : (g : FlatGrammar) (ts : List Tree) → EachTree (λ c. is_settled c ≡ true) ts → EachTree (λ c. is_settled c ≡ true → IsOwnWithin g c) ts → EachTree (λ t. (0 < span_of t) × IsLight t) ts → EachTree (IsOffered g) ts
each_offered g [] a b c = tt
each_offered g (t ∷ ts) a b c = (record { settled = a.0; own = b.0 a.0; some = c.0.0 }, each_offered g ts a.1 b.1 c.1)

each_made : (g : FlatGrammar) (ts : List Tree) → EachTree (λ c. is_settled c ≡ true) ts → EachTree (λ c. is_settled c ≡ true → IsOwnWithin g c) ts → AreGoodTrees g ts
each_made g [] a b = tt
each_made g (t ∷ ts) a b = ((own_self g t (b.0 a.0) a.0).good, each_made g ts a.1 b.1)

pub lent : (stretches : Stretches) (steps : Steps) (t : ParseTable) → Fit t.grammar → (text : Bytes) (tree : Tree) → IsWhole tree → IsReusable t text tree → (states : States) → AreStatesOf t states → (place state symbol : ℕ) (s : Stretch) → (w : IsStretchAt tree place state symbol s)
    → IsPartOf w.node (elements_between w.from w.to w.node) → IsLent t.grammar s
lent stretches steps t fit text tree whole kept states are place state symbol s w part =
    let g : FlatGrammar = t.grammar in
    let cut : Stretch = elements_between w.from w.to w.node in
    let h : IsHonestStretch g states text place state symbol s = honest_lent stretches g states text tree whole place state symbol s w (kept.sound states are) in
    let well : AreElementsWell s.elements s.children = subst (λ (x : Stretch). AreElementsWell x.elements x.children) (sym w.stretch_is) part.well in
    let settled : EachTree (λ c. is_settled c ≡ true) s.children = inner_settled s.elements s.children h.counted h.settled well in
    let all : EachTree (λ c. is_settled c ≡ true → IsOwnWithin g c) (children_of w.node) =
    each_in (λ c. is_settled c ≡ true → IsOwnWithin g c) (children_of w.node) w.at
    (λ c at i is. kept.inner c at (in_in (children_of tree) (lead_of tree) w.node c w.at at w.there (inside w.node [] w.at c at i)) is) in
    let part_of : EachTree (λ c. is_settled c ≡ true → IsOwnWithin g c) cut.children =
    each_drop (λ c. is_settled c ≡ true → IsOwnWithin g c) (children_count (take w.from (take w.to (elements_of w.node)))) (take (children_count (take w.to (elements_of w.node))) (children_of w.node))
    (each_take (λ c. is_settled c ≡ true → IsOwnWithin g c) (children_count (take w.to (elements_of w.node))) (children_of w.node) all) in
    let own : EachTree (λ c. is_settled c ≡ true → IsOwnWithin g c) s.children = subst (λ (x : Stretch). EachTree (λ c. is_settled c ≡ true → IsOwnWithin g c) x.children) (sym w.stretch_is) part_of in
    let bytes = bytes_of steps g fit states text place state symbol s.elements s.children h.counted h.settled h.stand (each_made g s.children settled own) in
    record {
      settled = h.settled;
      offered = each_offered g s.children settled own bytes.0;
      parts = bytes.1;
    }
