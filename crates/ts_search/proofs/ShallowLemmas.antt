-- The ways in which an item that asks nothing of what is inside a node takes one.
use Rattle.std.proofs.Common.{◌≡◌, ◌∙◌, sym, ap, refl, subst, ℕ, List, [], ◌∷◌, ◌++◌, Some, slice_get, false, ◌↔◌}
use Rattle.std.specs.List.{Contains}
use Rattle.std.proofs.lemmas.List.{append-nil}
use Rattle.std.proofs.lemmas.Option.{slice_get_within}
use Rattle.spec_trees.specs.declared.visible.VisibleNode.{VisibleNode}
use Rattle.ts_query_syntax.specs.declared.read_query.Test.{Test}
use Rattle.ts_query_syntax.specs.declared.read_query.Test.TheVariants.{Any, Named, Kind, Choice, Round}
use Rattle.ts_query_syntax.specs.declared.read_query.Item.{Item}
use Rattle.ts_query_syntax.specs.declared.read_query.Item.TheViews.{out-Item}
use Rattle.spec_matches.specs.declared.found.Capture.{Capture}
use Rattle.spec_matches.specs.declared.scene.Scene.{Scene}
use Rattle.spec_matches.specs.Taking.{IsField, captured}
use Rattle.ts_search.specs.Looks.{AsksLook, IsShallow, Looks}
use Rattle.ts_search.specs.Adding.{AreLike, IsLike}
use Rattle.ts_search.specs.Lone.{WholeOf}
use Rattle.ts_search.specs.Sets.{SameMembers}
use Rattle.ts_search.specs.Ways.{InsideOf, PassesOf, PlainOf, parts_of}
use Rattle.ts_search.proofs.AddLemmas.{in_one, one_in}
use Rattle.ts_search.proofs.ChildLemmas.{children_of}
use Rattle.ts_search.proofs.LoneLemmas.{free_at}
use Rattle.ts_search.proofs.PlaceLemmas.{none_in_nil, same_at}
use Rattle.ts_search.proofs.SetLemmas.{same_back}

module _ (scene : Scene) (i : Item) (n : ℕ) (node : VisibleNode) (at : slice_get scene.nodes n ≡ Some node) (shallow : IsShallow i) where
  free : (children : List ℕ) (c : List Capture) → Contains ([] ∷ []) c ↔ WholeOf scene (parts_of i) (out-Item i).closed children c
  free children c =
      subst (λ (l : List Item). Contains ([] ∷ []) c ↔ WholeOf scene l (out-Item i).closed children c) (sym shallow.parts) (free_at scene (out-Item i).closed children false shallow.unclosed c)

  none_inside : (c : List Capture) → InsideOf scene i n c → c ≡ []
  none_inside c h = one_in [] c ((free h.children c).1 h.fully)

  inside : (c : List Capture) → c ≡ [] → InsideOf scene i n c
  inside c e =
      let kids = children_of scene.nodes n (slice_get_within scene.nodes n node at) in
      record {
        children = kids.0;
        are_children = kids.1;
        none_has = λ m field other in_it there without has. none_in_nil field (subst (λ (l : List ℕ). Contains l field) shallow.without without);
        fully = (free kids.0 c).0 (in_one [] c e);
      }

  -- what it asks of a node is the look
  passes : (test : Test) → AsksLook test → (c : List Capture) → PassesOf scene i test n node c ↔ (Looks scene.kinds test node × (c ≡ []))
  passes Any asks c = ((λ h. (tt, h)), (λ h. h.1))
  passes Named asks c = ((λ h. (h.0, none_inside c h.1)), (λ h. (h.0, inside c h.1)))
  passes (Kind kind) asks c = ((λ h. (h.0, none_inside c h.1)), (λ h. (h.0, inside c h.1)))
  passes Choice asks c = absurd asks
  passes Round asks c = absurd asks

  there : (c : List Capture) (h : PlainOf scene i n c) → Looks scene.kinds (out-Item i).test node × (h.inner ≡ [])
  there c h = (passes (out-Item i).test shallow.test h.inner).0 (subst (λ (m : VisibleNode). PassesOf scene i (out-Item i).test n m h.inner) (same_at scene.nodes n h.node node h.is_node at) h.passes)

  pub shallow_one : Looks scene.kinds (out-Item i).test node → IsField (out-Item i).field node → (own : List Capture) (ways : List (List Capture)) → SameMembers own (captured (out-Item i).captures n node) → ways ≡ own ∷ []
      → AreLike SameMembers (PlainOf scene i n) ways
  shallow_one look field own ways same are = record { only = only; all = all }
    where
      told : List Capture
      told = captured (out-Item i).captures n node

      only : (c : List Capture) → Contains ways c → IsLike SameMembers (PlainOf scene i n) c
      only c h = (
        told,
        record { node = node; is_node = at; field = field; inner = []; captures = sym (append-nil told); passes = (passes (out-Item i).test shallow.test []).1 (look, refl) },
        subst (λ (d : List Capture). SameMembers d told) (sym (one_in own c (subst (λ (l : List (List Capture)). Contains l c) are h))) same,
      )

      all : (c : List Capture) → PlainOf scene i n c → IsLike SameMembers (Contains ways) c
      all c h =
          let e : c ≡ told = subst (λ (m : VisibleNode). c ≡ captured (out-Item i).captures n m ++ h.inner) (same_at scene.nodes n h.node node h.is_node at) h.captures ∙ ap (λ (l : List Capture). told ++ l) (there c h).1 ∙ append-nil told in
          (own, subst (λ (l : List (List Capture)). Contains l own) (sym are) (in_one own own refl), subst (λ (d : List Capture). SameMembers d own) (sym e) (same_back own told same))

  pub shallow_none : (Looks scene.kinds (out-Item i).test node → ⊥) → (ways : List (List Capture)) → ways ≡ [] → AreLike SameMembers (PlainOf scene i n) ways
  shallow_none fails ways none = record {
    only = λ c h. absurd (none_in_nil c (subst (λ (l : List (List Capture)). Contains l c) none h));
    all = λ c h. absurd (fails (there c h).0);
  }
