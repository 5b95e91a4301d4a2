-- Where the nodes of a marked tree were, and that they are sound there again.
use Rattle.std.proofs.Common.{◌≡◌, ◌∙◌, sym, ap, subst, refl, ℕ, zero, suc, ◌+◌, ◌-◌, ◌≤◌, arith, true, List, [], ◌∷◌, take, drop, Some}
use Rattle.std.proofs.lemmas.Option.{slice_get_within}
use Rattle.ts_base.specs.Bytes.{Bytes}
use Rattle.ts_core.specs.declared.flat.FlatGrammar.{FlatGrammar}
use Rattle.ts_text.specs.declared.edit.Edit.{Edit}
use Rattle.ts_text.specs.Edit.{InRange, apply_of}
use Rattle.spec_trees.specs.declared.tree.Tree.{Tree}
use Rattle.spec_trees.specs.declared.tree.Element.{Element}
use Rattle.spec_trees.specs.Trees.{symbol_of, state_of, node_extent, elements_of, children_of, span_of, all_spans, is_settled}
use Rattle.spec_trees.specs.Made.{IsNode, IsElementWell, AreElementsWell}
use Rattle.spec_trees.specs.Inside as nodes
use Rattle.spec_reuse.specs.Places.{IsIn, here, inside, later, IsWhole, lead_of}
use Rattle.spec_reuse.specs.Changes.{is_met, moved}
use Rattle.spec_reuse.specs.Marked.{marked_below, all_marked, marked_element, marked_elements, marked}
use Rattle.spec_forced.specs.Sound.{States, StandsForState, ElementStands, SettledStand, LaterStand, IsSoundNode, AllSound}
use Rattle.ts_marks.specs.Parts.{AreOrdered}
use Rattle.ts_marks.proofs.MovedLemmas.{clear}
use Rattle.ts_marks.proofs.MarkedLemmas.{AllWhole, whole_children, stays, stay_all}
use Rattle.ts_marks.proofs.ElementLemmas.{both_true}
use Rattle.spec_marked.specs.Laws.{MarkedLaws}
use Rattle.spec_marked.proofs.MovedLemmas.{moved_rises}
use Rattle.spec_marked.proofs.LayerLemmas.{children_are, elements_are, span_is, spans_are, symbol_is, state_is, settled_is, root_children, root_span}
use Rattle.spec_marked.proofs.BytesLemmas.{stands_moved, behind_moved}

-- ---- nodes in whole trees

whole_in : (ts : List Tree) (place : ℕ) (u : Tree) (at : ℕ) → IsIn ts place u at → AllWhole ts → IsWhole u
whole_in _ _ _ _ (here t ts place) all = all 0 t refl
whole_in _ _ _ _ (inside t ts place u at h) all = whole_in (children_of t) place u at h (whole_children t (all 0 t refl))
whole_in _ _ _ _ (later t ts place u at h) all = whole_in ts (place + span_of t) u at h (λ k c i. all (suc k) c i)

-- ---- parts of the children

take_marked : (n : ℕ) (e : Edit) (ts : List Tree) (place : ℕ) → take n (all_marked e ts place) ≡ all_marked e (take n ts) place
take_marked zero e ts place = refl
take_marked (suc n) e [] place = refl
take_marked (suc n) e (t ∷ ts) place = ap (λ (xs : List Tree). marked_below e t place ∷ xs) (take_marked n e ts (place + span_of t))

drop_marked : (n : ℕ) (e : Edit) (ts : List Tree) (place : ℕ) → drop n (all_marked e ts place) ≡ all_marked e (drop n ts) (place + all_spans (take n ts))
drop_marked zero e ts place = let p : place ≡ place + 0 = omega arith in ap (all_marked e ts) p
drop_marked (suc n) e [] place = refl
drop_marked (suc n) e (t ∷ ts) place =
    let p : place + span_of t + all_spans (take n ts) ≡ place + (span_of t + all_spans (take n ts)) = omega arith in
    drop_marked n e ts (place + span_of t) ∙ ap (all_marked e (drop n ts)) p

whole_take : (n : ℕ) (ts : List Tree) → AllWhole ts → AllWhole (take n ts)
whole_take zero ts w k t i = absurd (omega (arith, slice_get_within [] k t i))
whole_take (suc n) [] w k t i = absurd (omega (arith, slice_get_within [] k t i))
whole_take (suc n) (x ∷ ts) w zero t i = w 0 t i
whole_take (suc n) (x ∷ ts) w (suc k) t i = whole_take n ts (λ j c h. w (suc j) c h) k t i

whole_drop : (n : ℕ) (ts : List Tree) → AllWhole ts → AllWhole (drop n ts)
whole_drop zero ts w = w
whole_drop (suc n) [] w = w
whole_drop (suc n) (x ∷ ts) w = whole_drop n ts (λ j c h. w (suc j) c h)

-- ---- where a node was

pub record Was (e : Edit) (ts : List Tree) (place : ℕ) (u : Tree) (at : ℕ) : Type 0 where
  pub node : Tree
  pub from : ℕ
  pub there : IsIn ts place node from
  pub moves : at ≡ moved e from
  pub is : u ≡ marked_below e node from

heads : (a b : Tree) (xs ys : List Tree) → a ∷ xs ≡ b ∷ ys → (a ≡ b) × (xs ≡ ys)
heads a b xs ys e = let h : a ≡ b = cc in let t : xs ≡ ys = cc in (h, t)

none_there : (x : Tree) (xs : List Tree) → x ∷ xs ≡ [] → ⊥
none_there x xs is = cc

next_place : (e : Edit) (t : Tree) (place : ℕ) → moved e place + span_of (marked_below e t place) ≡ moved e (place + span_of t)
next_place e t place = omega (arith, span_is e t place, moved_rises e place (place + span_of t) (omega arith))

was : (e : Edit) (xs : List Tree) (start : ℕ) (u : Tree) (at : ℕ) → IsIn xs start u at → (ts : List Tree) (place : ℕ) → xs ≡ all_marked e ts place → start ≡ moved e place → Was e ts place u at
was e _ _ _ _ (here x xs start) [] place is from = absurd (none_there x xs is)
was e _ _ _ _ (here x xs start) (t ∷ ts) place is from = record {
  node = t;
  from = place;
  there = here t ts place;
  moves = from;
  is = (heads x (marked_below e t place) xs (all_marked e ts (place + span_of t)) is).0;
}
was e _ _ _ _ (inside x xs start u at h) [] place is from = absurd (none_there x xs is)
was e _ _ _ _ (inside x xs start u at h) (t ∷ ts) place is from =
    let same : x ≡ marked_below e t place = (heads x (marked_below e t place) xs (all_marked e ts (place + span_of t)) is).0 in
    let w = was e (children_of x) start u at h (children_of t) place (ap children_of same ∙ children_are e t place) from in
    record { node = w.node; from = w.from; there = inside t ts place w.node w.from w.there; moves = w.moves; is = w.is }
was e _ _ _ _ (later x xs start u at h) [] place is from = absurd (none_there x xs is)
was e _ _ _ _ (later x xs start u at h) (t ∷ ts) place is from =
    let same = heads x (marked_below e t place) xs (all_marked e ts (place + span_of t)) is in
    let w = was e xs (start + span_of x) u at h ts (place + span_of t) same.1
    (ap (λ (n : ℕ). n + span_of x) from ∙ ap (λ (y : Tree). moved e place + span_of y) same.0 ∙ next_place e t place) in
    record { node = w.node; from = w.from; there = later t ts place w.node w.from w.there; moves = w.moves; is = w.is }

-- ---- sound again

module _ (laws : MarkedLaws) (g : FlatGrammar) (states : States) (text : Bytes) (e : Edit) (range : InRange text e) (ordered : AreOrdered 0 e.parts) where
  abbrev after : Bytes
  after = apply_of text e

  -- an element that is still settled, over its children as they were
  element_moved : (place state symbol : ℕ) (d : Element) (ks : List Tree) → AllWhole ks → (d.settled ≡ true → IsElementWell d ks) → (d.settled ≡ true → ElementStands g states text place state symbol d ks)
      → (marked_element e d place).settled ≡ true → ElementStands g states after (moved e place) state symbol (marked_element e d place) (all_marked e ks place)
  element_moved place state symbol d ks whole well own still =
      let b = both_true d.settled (is_met e.parts place d.extent) still in
      let w = well b.0 in
      let s = own b.0 in
      let same : all_marked e ks place ≡ ks = stay_all e ks place d.extent ordered whole w.inner w.covers (clear e.parts place d.extent b.1) in
      subst (λ (l : List Tree). ElementStands g states after (moved e place) state symbol (marked_element e d place) l) (sym same)
      (record {
        number = s.number;
        form = s.form;
        value = s.value;
        stands = behind_moved laws g states text e place state symbol s.number ks d.extent range b.1 s.stands;
      })

  later_place : (n : ℕ) (ks : List Tree) (place : ℕ) → moved e place + all_spans (take n (all_marked e ks place)) ≡ moved e (place + all_spans (take n ks))
  later_place n ks place =
      let a : all_spans (take n (all_marked e ks place)) ≡ moved e (place + all_spans (take n ks)) - moved e place = ap all_spans (take_marked n e ks place) ∙ spans_are e (take n ks) place in
      omega (arith, a, moved_rises e place (place + all_spans (take n ks)) (omega arith))

  settled_moved : (es : List Element) (ks : List Tree) (place state symbol : ℕ) → AllWhole ks → AreElementsWell es ks → SettledStand g states text place state symbol es ks
      → SettledStand g states after (moved e place) state symbol (marked_elements e es ks place) (all_marked e ks place)
  settled_moved [] ks place state symbol whole well s = tt
  settled_moved (d ∷ es) ks place state symbol whole well s =
      let n : ℕ = d.children in
      let deep = settled_moved es (drop n ks) (place + all_spans (take n ks)) state symbol (whole_drop n ks whole) well.1 s.1 in (
        (λ still. subst (λ (l : List Tree). ElementStands g states after (moved e place) state symbol (marked_element e d place) l) (sym (take_marked n e ks place))
            (element_moved place state symbol d (take n ks) (whole_take n ks whole) well.0 s.0 still)),
        subst (λ (m : ℕ). SettledStand g states after m state symbol (marked_elements e es (drop n ks) (place + all_spans (take n ks))) (drop n (all_marked e ks place))) (sym (later_place n ks place))
            (subst (λ (l : List Tree). SettledStand g states after (moved e (place + all_spans (take n ks))) state symbol (marked_elements e es (drop n ks) (place + all_spans (take n ks))) l) (sym (drop_marked n e ks place)) deep),
      )

  later_moved : (es : List Element) (ks : List Tree) (place state symbol : ℕ) → AllWhole ks → AreElementsWell es ks → LaterStand g states text place state symbol es ks
      → LaterStand g states after (moved e place) state symbol (marked_elements e es ks place) (all_marked e ks place)
  later_moved [] ks place state symbol whole well s = tt
  later_moved (d ∷ es) ks place state symbol whole well s =
      let n : ℕ = d.children in
      let deep = settled_moved es (drop n ks) (place + all_spans (take n ks)) state symbol (whole_drop n ks whole) well.1 s in
      subst (λ (m : ℕ). SettledStand g states after m state symbol (marked_elements e es (drop n ks) (place + all_spans (take n ks))) (drop n (all_marked e ks place))) (sym (later_place n ks place))
      (subst (λ (l : List Tree). SettledStand g states after (moved e (place + all_spans (take n ks))) state symbol (marked_elements e es (drop n ks) (place + all_spans (take n ks))) l) (sym (drop_marked n e ks place)) deep)

  node_moved : (place state : ℕ) (t : Tree) → IsWhole t → IsSoundNode g states text place state t → IsSoundNode g states after (moved e place) state (marked_below e t place)
  node_moved place state t whole s =
      let u : Tree = marked_below e t place in
      let own : IsNode t = whole t nodes.itself in
      record {
        stands = λ still.
            let b = both_true (is_settled t) (is_met e.parts place (node_extent t)) (sym (settled_is e t place) ∙ still) in
            subst (λ (y : Tree). StandsForState g states after (moved e place) state y) (sym (stays e t place ordered whole b.0 b.1)) (stands_moved laws g states text e place state t range b.1 (s.stands b.0));
        elements = subst (λ (n : ℕ). LaterStand g states after (moved e place) state n (elements_of u) (children_of u)) (sym (symbol_is e t place))
            (subst (λ (es : List Element). LaterStand g states after (moved e place) state (symbol_of t) es (children_of u)) (sym (elements_are e t place))
            (subst (λ (l : List Tree). LaterStand g states after (moved e place) state (symbol_of t) (marked_elements e (elements_of t) (children_of t) place) l) (sym (children_are e t place))
            (later_moved (elements_of t) (children_of t) place state (symbol_of t) (whole_children t whole) own.elements s.elements)));
      }

  pub all_moved : (ts : List Tree) (place : ℕ) → AllWhole ts → AllSound g states text ts place → AllSound g states after (all_marked e ts place) (moved e place)
  all_moved ts place whole all u at state h has =
      let w = was e (all_marked e ts place) (moved e place) u at h ts place refl refl in
      let mine : state_of w.node ≡ Some state = sym (ap state_of w.is ∙ state_is e w.node w.from) ∙ has in
      let s = node_moved w.from state w.node (whole_in ts place w.node w.from w.there whole) (all w.node w.from state w.there mine) in
      subst (λ (n : ℕ). IsSoundNode g states after n state u) (sym w.moves) (subst (λ (y : Tree). IsSoundNode g states after (moved e w.from) state y) (sym w.is) s)

-- ---- the children of the root

pub lead_moved : (e : Edit) (t : Tree) → all_spans (children_of t) ≤ span_of t → lead_of (marked e t) ≡ moved e (lead_of t)
lead_moved e t within =
    let kids : all_spans (children_of (marked e t)) ≡ moved e (lead_of t + all_spans (children_of t)) - moved e (lead_of t) = ap all_spans (root_children e t) ∙ spans_are e (children_of t) (lead_of t) in
    let end : lead_of t + all_spans (children_of t) ≡ span_of t = omega (arith, within) in
    let there : moved e (lead_of t + all_spans (children_of t)) ≡ moved e (span_of t) = ap (moved e) end in
    omega (arith, kids, there, root_span e t, moved_rises e (lead_of t) (span_of t) (omega arith))
