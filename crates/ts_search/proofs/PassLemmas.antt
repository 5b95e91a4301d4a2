-- The ways in which an item takes a node.
use Rattle.std.proofs.Common.{◌≡◌, ◌∙◌, sym, ap, refl, subst, ℕ, ◌<◌, ◌≤◌, List, [], ◌++◌, length, Some, None, Bool, slice_get, true, ◌↔◌, arith}
use Rattle.std.specs.List.{Contains}
use Rattle.std.proofs.lemmas.Option.{slice_get_within}
use Rattle.spec_trees.specs.declared.visible.VisibleNode.{VisibleNode}
use Rattle.ts_query_syntax.specs.declared.read_query.Test.{Test}
use Rattle.ts_query_syntax.specs.declared.read_query.Test.TheVariants.{Any, Named, Kind, Choice, Round}
use Rattle.ts_query_syntax.specs.declared.read_query.Item.{Item}
use Rattle.ts_query_syntax.specs.declared.read_query.Item.TheViews.{out-Item}
use Rattle.spec_matches.specs.declared.found.Capture.{Capture}
use Rattle.spec_matches.specs.declared.scene.Scene.{Scene}
use Rattle.spec_matches.specs.Siblings.{AreChildren}
use Rattle.spec_matches.specs.Taking.{IsField, IsOfKind, NoneHas, captured}
use Rattle.ts_search.specs.Adding.{Adds, AreLike, IsLike, OfSome, Yields}
use Rattle.ts_search.specs.Lone.{WholeOf}
use Rattle.ts_search.specs.Looks.{Looks}
use Rattle.ts_search.specs.Sets.{SameMembers}
use Rattle.ts_search.specs.Steps.{Before}
use Rattle.ts_search.specs.Ways.{AnyTakes, HasOne, InsideOf, ItemTakes, PassesOf, PlainOf, TakenOf, parts_of}
use Rattle.ts_search.proofs.PlaceLemmas.{at_of, none_in_nil, same_at, there}
use Rattle.ts_search.proofs.ShapeLemmas.{taken_at, round_takes, plain_takes}
use Rattle.ts_search.proofs.ChildLemmas.{same_children}
use Rattle.ts_search.proofs.SetLemmas.{same_append, same_back, same_itself, same_of, same_through}
use Rattle.ts_search.proofs.YieldLemmas.{like_each, yields_exact, yields_none, yields_nothing, yields_same}

-- ---- lists

pub in_none : (cs : List (List Capture)) (c : List Capture) → cs ≡ [] → Contains cs c → ⊥
in_none cs c e h = none_in_nil c (subst (λ (l : List (List Capture)). Contains l c) e h)

-- ---- fields of several nodes

-- none of some nodes, in two forms
pub none_of : (nodes : List VisibleNode) (without numbers : List ℕ) → ((n : ℕ) → Contains numbers n → HasOne nodes without n → ⊥) → NoneHas nodes without numbers
none_of nodes without numbers h = λ n field node inside at one has. h n inside (field, node, at, one, has)

pub of_none : (nodes : List VisibleNode) (without numbers : List ℕ) → NoneHas nodes without numbers → (n : ℕ) → Contains numbers n → HasOne nodes without n → ⊥
of_none nodes without numbers h = λ n inside w. h n w.0 w.1 inside w.2 w.3 w.4

-- ---- one item

module _ (scene : Scene) (i : Item) (n : ℕ) where
  module _ (children : List ℕ) (kids : AreChildren scene.nodes n children) where
    pub inside_are : (u v : Bool) (cs : List (List Capture)) → NoneHas scene.nodes (out-Item i).without children → Yields SameMembers (WholeOf scene (parts_of i) (out-Item i).closed children) u v cs → Yields SameMembers (InsideOf scene i n) u v cs
    inside_are u v cs none are = yields_same SameMembers (WholeOf scene (parts_of i) (out-Item i).closed children) (InsideOf scene i n) u v cs are
        (λ c h. record { children = children; are_children = kids; none_has = none; fully = h })
        (λ c h. subst (λ (l : List ℕ). WholeOf scene (parts_of i) (out-Item i).closed l c) (same_children scene.nodes n h.children children h.are_children kids) h.fully)

    pub not_inside : (w : Bool) (cs : List (List Capture)) → cs ≡ [] → (NoneHas scene.nodes (out-Item i).without children → ⊥) → Yields SameMembers (InsideOf scene i n) w w cs
    not_inside w cs e fails =
        yields_nothing SameMembers (InsideOf scene i n) w cs e (λ c h. fails (subst (NoneHas scene.nodes (out-Item i).without) (same_children scene.nodes n h.children children h.are_children kids) h.none_has))

  module _ (node : VisibleNode) (u v : Bool) (cs : List (List Capture)) where
    abbrev Passing : Test → Type 0
    Passing test = Yields SameMembers (PassesOf scene i test n node) u v cs

    pub passes_named : (out-Item i).test ≡ Named → node.named ≡ true → Yields SameMembers (InsideOf scene i n) u v cs → Yields SameMembers (PassesOf scene i (out-Item i).test n node) u v cs
    passes_named e named are = subst Passing (sym e) (yields_same SameMembers (InsideOf scene i n) (PassesOf scene i Named n node) u v cs are (λ c h. (named, h)) (λ c h. h.1))

    pub passes_kind : (kind : ℕ) → (out-Item i).test ≡ Kind kind → IsOfKind scene.kinds kind node → Yields SameMembers (InsideOf scene i n) u v cs → Yields SameMembers (PassesOf scene i (out-Item i).test n node) u v cs
    passes_kind kind e is are = subst Passing (sym e) (yields_same SameMembers (InsideOf scene i n) (PassesOf scene i (Kind kind) n node) u v cs are (λ c h. (is, h)) (λ c h. h.1))

    pub passes_choice : (out-Item i).test ≡ Choice → Yields SameMembers (AnyTakes scene (parts_of i) n) u v cs → Yields SameMembers (PassesOf scene i (out-Item i).test n node) u v cs
    passes_choice e are = subst Passing (sym e) (yields_same SameMembers (AnyTakes scene (parts_of i) n) (PassesOf scene i Choice n node) u v cs are (λ c h. h) (λ c h. h))

  module _ (node : VisibleNode) (w : Bool) (cs : List (List Capture)) where
    abbrev Passing1 : Test → Type 0
    Passing1 test = Yields SameMembers (PassesOf scene i test n node) w w cs

    pub passes_any : (out-Item i).test ≡ Any → ((c : List Capture) → Contains cs c ↔ (c ≡ [])) → Yields SameMembers (PassesOf scene i (out-Item i).test n node) w w cs
    passes_any e are = subst Passing1 (sym e) (yields_exact SameMembers (PassesOf scene i Any n node) w cs (like_each SameMembers same_itself (PassesOf scene i Any n node) cs are))

  pub no_node : (w : Bool) (cs : List (List Capture)) → cs ≡ [] → slice_get scene.nodes n ≡ None → Yields SameMembers (PlainOf scene i n) w w cs
  no_node w cs none e = yields_nothing SameMembers (PlainOf scene i n) w cs none (λ c h. let f : None ≡ Some h.node = sym e ∙ h.is_node in cc)

  pub no_field : (node : VisibleNode) (w : Bool) (cs : List (List Capture)) → cs ≡ [] → slice_get scene.nodes n ≡ Some node → (IsField (out-Item i).field node → ⊥) → Yields SameMembers (PlainOf scene i n) w w cs
  no_field node w cs none at fails = yields_nothing SameMembers (PlainOf scene i n) w cs none (λ c h. fails (subst (IsField (out-Item i).field) (same_at scene.nodes n h.node node h.is_node at) h.field))

  module _ (node : VisibleNode) (u v : Bool) (inner : List (List Capture)) (at : slice_get scene.nodes n ≡ Some node) (are : Yields SameMembers (PassesOf scene i (out-Item i).test n node) u v inner) where
    passes_it : (c : List Capture) (h : PlainOf scene i n c) → PassesOf scene i (out-Item i).test n node h.inner
    passes_it c h = subst (λ (m : VisibleNode). PassesOf scene i (out-Item i).test n m h.inner) (same_at scene.nodes n h.node node h.is_node at) h.passes

    pub no_inner : inner ≡ [] → Yields SameMembers (PlainOf scene i n) u v inner
    no_inner none = yields_none SameMembers (PlainOf scene i n) u v inner none are.earlier (λ c h. let x = are.part.any h.inner (passes_it c h) in in_none inner x.0 none x.1)

    pub bare_are : (out-Item i).captures ≡ [] → IsField (out-Item i).field node → Yields SameMembers (PlainOf scene i n) u v inner
    bare_are none field = yields_same SameMembers (PassesOf scene i (out-Item i).test n node) (PlainOf scene i n) u v inner are
        (λ c h. record { node = node; is_node = at; field = field; inner = c; captures = ap (λ (l : List ℕ). captured l n node ++ c) (sym none); passes = h })
        (λ c h. let e : c ≡ h.inner = h.captures ∙ ap (λ (l : List ℕ). captured l n h.node ++ h.inner) none in subst (PassesOf scene i (out-Item i).test n node) (sym e) (passes_it c h))

    pub plain_are : (own : List Capture) (cs : List (List Capture)) → IsField (out-Item i).field node → SameMembers own (captured (out-Item i).captures n node) → AreLike SameMembers (Before inner own) cs → Yields SameMembers (PlainOf scene i n) u v cs
    plain_are own cs field same made = record {
      part = record {
        only = only;
        any = λ c h. let x = are.part.any h.inner (passes_it c h) in let y = made.all (own ++ x.0) (x.0, x.1, refl) in (y.0, y.1);
      };
      earlier = are.earlier;
      all = λ e c h.
          let x = are.all e h.inner (passes_it c h) in
          let y = made.all (own ++ x.0) (x.0, x.1, refl) in
          (y.0, y.1, same_through c (own ++ x.0) y.0 (shown c h x.0 x.2) y.2);
    }
      where
        told : List Capture
        told = captured (out-Item i).captures n node

        shown : (c : List Capture) (h : PlainOf scene i n c) (d : List Capture) → SameMembers h.inner d → SameMembers c (own ++ d)
        shown c h d s =
            let e : c ≡ told ++ h.inner = subst (λ (m : VisibleNode). c ≡ captured (out-Item i).captures n m ++ h.inner) (same_at scene.nodes n h.node node h.is_node at) h.captures in
            same_through c (told ++ h.inner) (own ++ d) (same_of c (told ++ h.inner) e) (same_append told own h.inner d (same_back own told same) s)

        only : (c : List Capture) → Contains cs c → IsLike SameMembers (PlainOf scene i n) c
        only c h =
            let x = made.only c h in
            let y = are.part.only x.1.0 x.1.1 in (
              told ++ y.0,
              record { node = node; is_node = at; field = field; inner = y.0; captures = refl; passes = y.1 },
              same_through c x.0 (told ++ y.0) x.2
                  (same_through x.0 (own ++ x.1.0) (told ++ y.0) (same_of x.0 (own ++ x.1.0) x.1.2) (same_append own told x.1.0 y.0 same y.2)),
            )

  module _ (o : ℕ) where
    pub ways_round : (u v : Bool) (cs : List (List Capture)) → (out-Item i).test ≡ Round → Yields SameMembers (TakenOf scene (parts_of i) o 0 n) u v cs → Yields SameMembers (ItemTakes scene i o n) u v cs
    ways_round u v cs e are = yields_same SameMembers (TakenOf scene (parts_of i) o 0 n) (ItemTakes scene i o n) u v cs are (λ c. (round_takes scene i o n c e).1) (λ c. (round_takes scene i o n c e).0)

    pub ways_past : (w : Bool) (cs : List (List Capture)) → ((out-Item i).test ≡ Round → ⊥) → 0 < o → cs ≡ [] → Yields SameMembers (ItemTakes scene i o n) w w cs
    ways_past w cs other past e = yields_nothing SameMembers (ItemTakes scene i o n) w cs e (λ c h. let x = (plain_takes scene i o n c other).0 h in omega (arith, x.0))

    pub ways_plain : (u v : Bool) (cs : List (List Capture)) → ((out-Item i).test ≡ Round → ⊥) → o ≤ 0 → Yields SameMembers (PlainOf scene i n) u v cs → Yields SameMembers (ItemTakes scene i o n) u v cs
    ways_plain u v cs other none are =
        yields_same SameMembers (PlainOf scene i n) (ItemTakes scene i o n) u v cs are (λ c h. (plain_takes scene i o n c other).1 (omega arith, h)) (λ c h. ((plain_takes scene i o n c other).0 h).1)

-- what an item takes looks as the item asks
module _ (scene : Scene) (i : Item) (n : ℕ) (other : (out-Item i).test ≡ Round → ⊥) (c : List Capture) (h : ItemTakes scene i 0 n c) where
  plain : PlainOf scene i n c
  plain = ((plain_takes scene i 0 n c other).0 h).1

  pub takes_some : slice_get scene.nodes n ≡ None → ⊥
  takes_some e = let f : None ≡ Some plain.node = sym e ∙ plain.is_node in cc

  by_test : (test : Test) (m : VisibleNode) → PassesOf scene i test n m plain.inner → Looks scene.kinds test m
  by_test Any m p = tt
  by_test Named m p = p.0
  by_test (Kind kind) m p = p.0
  by_test Choice m p = tt
  by_test Round m p = tt

  module _ (node : VisibleNode) (at : slice_get scene.nodes n ≡ Some node) where
    same : plain.node ≡ node
    same = same_at scene.nodes n plain.node node plain.is_node at

    pub takes_look : Looks scene.kinds (out-Item i).test node
    takes_look = by_test (out-Item i).test node (subst (λ (m : VisibleNode). PassesOf scene i (out-Item i).test n m plain.inner) same plain.passes)

    pub takes_field : IsField (out-Item i).field node
    takes_field = subst (IsField (out-Item i).field) same plain.field

-- ---- one of several items

module _ (scene : Scene) (is : List Item) (n : ℕ) where
  pub part_past : (o : ℕ) (w : Bool) (cs : List (List Capture)) → length is ≤ o → cs ≡ [] → Yields SameMembers (TakenOf scene is o 0 n) w w cs
  part_past o w cs past e = yields_nothing SameMembers (TakenOf scene is o 0 n) w cs e (λ c h. let x = (taken_at scene is o 0 n c).0 h in let b = slice_get_within is o x.0 x.1 in omega arith)

  pub part_are : (o : ℕ) (i : Item) (u v : Bool) (cs : List (List Capture)) → slice_get is o ≡ Some i → Yields SameMembers (ItemTakes scene i 0 n) u v cs → Yields SameMembers (TakenOf scene is o 0 n) u v cs
  part_are o i u v cs at are = yields_same SameMembers (ItemTakes scene i 0 n) (TakenOf scene is o 0 n) u v cs are
      (λ c h. (taken_at scene is o 0 n c).1 (i, at, h))
      (λ c h. let w = (taken_at scene is o 0 n c).0 h in subst (λ (j : Item). ItemTakes scene j 0 n c) (same_at is o w.0 i w.1 at) w.2)

  pub choices_are : (u v : Bool) (cs : List (List Capture)) → Yields SameMembers (OfSome (λ (i : Item) (c : List Capture). ItemTakes scene i 0 n c) is) u v cs → Yields SameMembers (AnyTakes scene is n) u v cs
  choices_are u v cs are = yields_same SameMembers (OfSome (λ (i : Item) (c : List Capture). ItemTakes scene i 0 n c) is) (AnyTakes scene is n) u v cs are
      (λ c w. (w.1.0, (taken_at scene is w.1.0 0 n c).1 (w.0, at_of is w.0 w.1, w.2)))
      (λ c h. let w = (taken_at scene is h.0 0 n c).0 h.1 in (w.0, there is h.0 w.0 w.1, w.2))

pub before_of : (backs b2 old new : List (List Capture)) (front f2 : List Capture) → b2 ≡ backs → f2 ≡ front → old ≡ [] → Adds (Before b2 f2) old new → Adds (Before backs front) [] new
before_of backs b2 old new front f2 eb ef eo adds =
    subst (λ (l : List (List Capture)). Adds (Before backs front) l new) eo
    (subst (λ (l : List Capture). Adds (Before backs l) old new) ef (subst (λ (l : List (List Capture)). Adds (Before l f2) old new) eb adds))
