-- What items take, one layer at a time.
use Rattle.std.proofs.Common.{◌≡◌, ◌∙◌, sym, ap, refl, subst, ℕ, zero, suc, ◌<◌, List, [], ◌∷◌, ◌++◌, length, map, Some, slice_get, ◌↔◌, arith}
use Rattle.std.proofs.lemmas.List.{length-map}
use Rattle.std.proofs.lemmas.Option.{slice_get_within}
use Rattle.ts_query_syntax.specs.declared.read_query.Test.{Test}
use Rattle.ts_query_syntax.specs.declared.read_query.Test.TheVariants.{Any, Named, Kind, Choice, Round}
use Rattle.ts_query_syntax.specs.declared.read_query.Item.{Item}
use Rattle.ts_query_syntax.specs.declared.read_query.Item.TheViews.{out-Item}
use Rattle.ts_query_syntax.specs.declared.read_query.Item.TheFolds.{fold_out-Item}
use Rattle.spec_matches.specs.declared.found.Capture.{Capture}
use Rattle.spec_matches.specs.declared.placing.Slot.{Slot}
use Rattle.spec_matches.specs.declared.scene.Scene.{Scene}
use Rattle.spec_matches.specs.Taking.{Head, Shape, item, is_many, is_optional, more_of, shape_step, shape_of, shapes_of, slots_of, InRound, TakenByItems}
use Rattle.ts_search.specs.Ways.{head_of, slot_of, parts_of, size_by, size_of, TakenOf, ItemTakes, PlainOf}

-- an item but for its parts, where these are so many
abbrev head_with : Item → ℕ → Head
head_with i count = record {
  slot = record {
    tied = (out-Item i).tied;
    optional = is_optional (out-Item i).quantity;
    many = is_many (out-Item i).quantity;
    more = more_of (out-Item i).test count;
  };
  field = (out-Item i).field;
  captures = (out-Item i).captures;
  test = (out-Item i).test;
  without = (out-Item i).without;
  closed = (out-Item i).closed;
}

pub shape_is : (i : Item) → shape_of i ≡ item (head_of i) (shapes_of (parts_of i))
shape_is i = fold_out-Item Shape shape_step i ∙ ap (λ (n : ℕ). item (head_with i n) (shapes_of (parts_of i))) (length-map (parts_of i) shape_of)

module _ (scene : Scene) where
  -- an item takes as its test says
  item_takes : (i : Item) (o n : ℕ) (c : List Capture)
      → ItemTakes scene i o n c ↔ InRound scene (TakenOf scene (parts_of i)) (slots_of (shapes_of (parts_of i))) (head_of i) (out-Item i).test 0 o n c
  item_takes i o n c = (subst (λ (s : Shape). TakenByItems scene s 0 o n c) (shape_is i), subst (λ (s : Shape). TakenByItems scene s 0 o n c) (sym (shape_is i)))

  -- an item among others
  pub taken_at : (is : List Item) (k o n : ℕ) (c : List Capture) → TakenOf scene is k o n c ↔ ((i : Item) × (slice_get is k ≡ Some i) × ItemTakes scene i o n c)
  taken_at [] k o n c = ((λ h. absurd h), (λ h. absurd (nothing h.0 h.1)))
    where
      nothing : (i : Item) → slice_get {X = Item} [] k ≡ Some i → ⊥
      nothing i e = cc
  taken_at (i ∷ is) zero o n c = ((λ h. (i, refl, h)), (λ h. subst (λ (j : Item). ItemTakes scene j o n c) (sym (same h.0 h.1)) h.2))
    where
      same : (j : Item) → Some i ≡ Some j → i ≡ j
      same j e = cc
  taken_at (i ∷ is) (suc k) o n c = taken_at is k o n c

  -- a group takes by its parts
  pub round_takes : (i : Item) (o n : ℕ) (c : List Capture) → (out-Item i).test ≡ Round → ItemTakes scene i o n c ↔ TakenOf scene (parts_of i) o 0 n c
  round_takes i o n c e =
      subst (λ (t : Test). ItemTakes scene i o n c ↔ InRound scene (TakenOf scene (parts_of i)) (slots_of (shapes_of (parts_of i))) (head_of i) t 0 o n c) e (item_takes i o n c)

  -- any other item takes one node
  pub plain_takes : (i : Item) (o n : ℕ) (c : List Capture) → ((out-Item i).test ≡ Round → ⊥) → ItemTakes scene i o n c ↔ ((o ≡ 0) × PlainOf scene i n c)
  plain_takes i o n c other = by (out-Item i).test refl
    where
      by : (t : Test) → (out-Item i).test ≡ t → ItemTakes scene i o n c ↔ ((o ≡ 0) × PlainOf scene i n c)
      by Any e = subst (λ (t : Test). ItemTakes scene i o n c ↔ InRound scene (TakenOf scene (parts_of i)) (slots_of (shapes_of (parts_of i))) (head_of i) t 0 o n c) e (item_takes i o n c)
      by Named e = subst (λ (t : Test). ItemTakes scene i o n c ↔ InRound scene (TakenOf scene (parts_of i)) (slots_of (shapes_of (parts_of i))) (head_of i) t 0 o n c) e (item_takes i o n c)
      by (Kind kind) e = subst (λ (t : Test). ItemTakes scene i o n c ↔ InRound scene (TakenOf scene (parts_of i)) (slots_of (shapes_of (parts_of i))) (head_of i) t 0 o n c) e (item_takes i o n c)
      by Choice e = subst (λ (t : Test). ItemTakes scene i o n c ↔ InRound scene (TakenOf scene (parts_of i)) (slots_of (shapes_of (parts_of i))) (head_of i) t 0 o n c) e (item_takes i o n c)
      by Round e = absurd (other e)

  -- no item takes past its round
  pub within_round : (i : Item) (o n : ℕ) (c : List Capture) → ItemTakes scene i o n c → o < size_of i
  within_round i o n c h = by (out-Item i).test refl
    where
      single : ((out-Item i).test ≡ Round → ⊥) → 1 ≡ size_of i → o < size_of i
      single other e = subst (λ (s : ℕ). o < s) e (let w = (plain_takes i o n c other).0 h in omega (arith, w.0))

      by : (t : Test) → (out-Item i).test ≡ t → o < size_of i
      by Any e = single (λ f. let g : Any ≡ Round = sym e ∙ f in cc) (ap (λ (t : Test). size_by t (length (parts_of i))) (sym e))
      by Named e = single (λ f. let g : Named ≡ Round = sym e ∙ f in cc) (ap (λ (t : Test). size_by t (length (parts_of i))) (sym e))
      by (Kind kind) e = single (λ f. let g : Kind kind ≡ Round = sym e ∙ f in cc) (ap (λ (t : Test). size_by t (length (parts_of i))) (sym e))
      by Choice e = single (λ f. let g : Choice ≡ Round = sym e ∙ f in cc) (ap (λ (t : Test). size_by t (length (parts_of i))) (sym e))
      by Round e =
          let w = (taken_at (parts_of i) o 0 n c).0 ((round_takes i o n c e).0 h) in
          subst (λ (t : Test). o < size_by t (length (parts_of i))) (sym e) (slice_get_within (parts_of i) o w.0 w.1)

slot_is : (i : Item) → slots_of (shape_of i) ≡ slot_of i ∷ []
slot_is i = ap slots_of (shape_is i)

pub slots_are : (is : List Item) → slots_of (shapes_of is) ≡ map slot_of is
slots_are [] = refl
slots_are (i ∷ is) = ap (λ (l : List Slot). l ++ slots_of (shapes_of is)) (slot_is i) ∙ ap (λ (l : List Slot). slot_of i ∷ l) (slots_are is)
