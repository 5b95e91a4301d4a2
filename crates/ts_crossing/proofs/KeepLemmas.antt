-- The trees of a stack are such as a parser makes, and stand, in the graph that is made of it.
use Rattle.std.proofs.Common.{◌≡◌, ◌∙◌, sym, ap, subst, ℕ, ◌<◌, ◌≤◌, ⊎_elim, false, List, [], ◌∷◌, slice_get, Some, None, arith}
use Rattle.std.specs.List.{Contains}
use Rattle.ts_base.specs.Bytes.{Bytes}
use Rattle.spec_trees.specs.declared.tree.Tree.{Tree}
use Rattle.spec_trees.specs.Trees.{is_extra_node, state_of, all_spans}
use Rattle.spec_trees.specs.Made.{filling}
use Rattle.spec_forced.specs.Sound.{States, IsStateAfter, StandsForState, AllSound, HasState, StandOnStack}
use Rattle.spec_graph.specs.declared.graph.Head.{Head}
use Rattle.spec_graph.specs.declared.graph.Link.{Link}
use Rattle.ts_table.specs.declared.view.ParseTable.{ParseTable}
use Rattle.ts_table.specs.Tables.{IsStateOf}
use Rattle.ts_table.specs.Tables as tables
use Rattle.ts_gss.specs.declared.layer.Layer.{Layer}
use Rattle.ts_gss.specs.Stacks.{trees_on, state_on}
use Rattle.ts_graph.specs.declared.view.GraphView.{GraphView}
use Rattle.ts_graph.specs.Down.{place_at}
use Rattle.ts_reductions.specs.SoundLinks.{bare_link}
use Rattle.ts_reductions.specs.Laying.{head_at, IsLaid}
use Rattle.ts_reductions.proofs.ClimbLemmas.{places_stay}
use Rattle.ts_steps.specs.Good.{EachTree}
use Rattle.ts_steps.specs.LiveHeads.{packed_layers, HaveStates}
use Rattle.ts_steps.specs.Heads.{AreStatesOf, IsOwnWithin}
use Rattle.ts_reductions.specs.Sound.{Base, base_at, parsing_from}
use Rattle.ts_reductions.specs.Keeping.{AreOwn, StandOnGraph}
use Rattle.ts_crossing.specs.Laws.{EnterLaws}
use Rattle.ts_crossing.specs.Entering.{Stands, LaidTo}
use Rattle.ts_crossing.proofs.MemberLemmas.{bare_member, place_is_at}

module _ (laws : EnterLaws) (t : ParseTable) (text : Bytes) (base : Base) (l : Layer) (lower : List Layer) (stands : Stands t text base (l ∷ lower)) (g : GraphView) (top : ℕ) (laid : LaidTo t text base lower g top)
    (new : GraphView) (above : ℕ) (is : IsLaid (parsing_from t text base) g new top (place_at g.heads top) l.tree l.depth l.state above) where
  abbrev read : List ℕ
  read = filling (trees_on lower)

  abbrev from : ℕ
  from = all_spans (trees_on lower)

  abbrev end : ℕ
  end = all_spans (trees_on (l ∷ lower))

  -- the head on which the tree is laid
  abbrev low : Head
  low = head_at (state_on lower) from

  low_at : slice_get new.heads top ≡ Some low
  low_at = is.grows.stay top low laid.at

  low_place : place_at new.heads top ≡ from
  low_place = place_is_at new.heads top low low_at

  pub new_own : EachTree (IsOwnWithin t.grammar) (trees_on (l ∷ lower)) → AreOwn t.grammar new
  new_own own k there = ⊎_elim
      (λ one. subst (λ (x : Tree). IsOwnWithin t.grammar x) (sym one.1) own.0)
      (λ old. subst (λ (x : Tree). IsOwnWithin t.grammar x) (sym old.4) (laid.own own.1 old.0 old.1)) (is.trees k there)

  low_state : IsStateOf t read (state_on lower)
  low_state = by lower stands.states.1
    where
      by : (ls : List Layer) → HaveStates t ls → IsStateOf t (filling (trees_on ls)) (state_on ls)
      by [] s = tables.at_first
      by (m ∷ ls) s = s.0

  module _ (ends : (k : ℕ) (head : Head) → slice_get new.heads k ≡ Some head → head.place ≤ end) (states : States) (named : AreStatesOf t states) (st : StandOnStack t.grammar states text (trees_on (l ∷ lower))) where
    after : IsStateAfter t.grammar states (state_on lower) read
    after = laws.named t states read (state_on lower) stands.table named low_state

    same_state : (n : ℕ) → IsStateAfter t.grammar states n read → n ≡ state_on lower
    same_state n a = stands.table.distinct a.way read n (state_on lower) (named.each n a.way a.at) low_state a.same

    abbrev Stand : Head → Tree → Type 0
    Stand head u = StandsForState t.grammar states text head.place head.state u × (is_extra_node u ≡ false → state_of u ≡ Some head.state)

    stands_here : HasState l.tree → Stand low l.tree
    stands_here has = (
      laws.told t.grammar states text from (state_on lower) l.tree read after (st.0 has),
      λ plain. has.1 ∙ ap (λ (n : ℕ). Some n) (same_state has.0 (st.1 plain has.0 has.1)),
    )

    old : StandOnGraph t.grammar states text (base_at (packed_layers lower) from) g
    old = laid.stand states named st.3

    new_inner : (k : Link) → Contains new.links k → AllSound t.grammar states text (k.tree ∷ []) (place_at new.heads k.below)
    new_inner k there = ⊎_elim
        (λ one.
        subst (λ (x : Tree). AllSound t.grammar states text (x ∷ []) (place_at new.heads k.below)) (sym one.1)
        (subst (λ (n : ℕ). AllSound t.grammar states text (l.tree ∷ []) n) (sym (ap (place_at new.heads) one.0 ∙ low_place)) st.2))
        (λ w.
        subst (λ (x : Tree). AllSound t.grammar states text (x ∷ []) (place_at new.heads k.below)) (sym w.4)
        (subst (λ (n : ℕ). AllSound t.grammar states text (w.0.tree ∷ []) n) (sym (places_stay (parsing_from t text base) g new laid.sound is.grows w.0 w.1) ∙ ap (place_at new.heads) w.3) (old.inner w.0 w.1)))
        (is.trees k there)

    new_stands : (k : Link) (head : Head) → Contains new.links k → slice_get new.heads k.below ≡ Some head → HasState k.tree → Stand head k.tree
    new_stands k head there at has = ⊎_elim (λ one. here one.0 one.1) (λ w. there_before w.0 w.1 w.3 w.4) (is.trees k there)
      where
        here : k.below ≡ top → k.tree ≡ l.tree → Stand head k.tree
        here below same =
            let f : Some low ≡ Some head = sym low_at ∙ ap (λ (h : ℕ). slice_get new.heads h) (sym below) ∙ at in
            let e : low ≡ head = cc in
            subst (λ (x : Tree). Stand head x) (sym same)
            (subst (λ (h : Head). Stand h l.tree) e (stands_here (subst (λ (x : Tree). HasState x) same has)))

        there_before : (o : Link) → Contains g.links o → o.below ≡ k.below → k.tree ≡ o.tree → Stand head k.tree
        there_before o was below same =
            let a = (laid.sound.graph.linked (bare_link o) (bare_member g.links o was)).below in
            let f : Some a.head ≡ Some head = sym (is.grows.stay o.below a.head a.is) ∙ ap (λ (h : ℕ). slice_get new.heads h) below ∙ at in
            let e : a.head ≡ head = cc in
            subst (λ (x : Tree). Stand head x) (sym same)
            (subst (λ (h : Head). Stand h o.tree) e (old.stands o a.head was a.is (subst (λ (x : Tree). HasState x) same has)))

    new_none : (k : Link) → Contains new.links k → end < place_at new.heads k.above → state_of k.tree ≡ None
    new_none k there past =
        let a = (is.sound.graph.linked (bare_link k) (bare_member new.links k there)).above in
        let p = place_is_at new.heads k.above a.head a.is in
        let e = ends k.above a.head a.is in
        absurd (omega (arith, past, p, e))

    pub new_stand : StandOnGraph t.grammar states text (base_at (packed_layers (l ∷ lower)) end) new
    new_stand = record { inner = new_inner; stands = new_stands; none = new_none }
