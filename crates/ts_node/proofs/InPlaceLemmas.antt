-- A run that is lengthened where it lies.
use Rattle.std.proofs.Common.{◌≡◌, ◌∙◌, ◌++◌, ◌∷◌, [], List, length, ap, sym, subst, arith, Option, None, Some}
use Rattle.std.specs.Prelude.{MatchOption}
use Rattle.std.proofs.lemmas.List.{length_push, same_from_push}
use Rattle.spec_trees.specs.declared.tree.Element.{Element}
use Rattle.spec_trees.specs.declared.tree.Stretch.{Stretch}
use Rattle.ts_node.specs.declared.node.Counts.{Counts}
use Rattle.ts_node.specs.declared.node.Shape.{Shape}
use Rattle.ts_node.specs.Held.{joined_stretch, stretch_of, HasNoEmptyPart, IsCount, IsWhole}

-- what a run keeps it keeps with another shape of the same elements and children
pub whole_still : (c : Counts) (s t : Shape) → IsWhole c s → stretch_of t ≡ stretch_of s → HasNoEmptyPart t → IsWhole c t
whole_still c s t w e h = record {
  counted = subst (λ (x : Stretch). IsCount c x) (sym e) w.counted;
  held = h;
}

-- what a run keeps it keeps with more, of which this was counted
pub whole_longer : (c one d : Counts) (s t : Shape) (more : Stretch) → IsWhole c s → IsCount one more → ((x y : Stretch) → IsCount c x → IsCount one y → IsCount d (joined_stretch x y)) → stretch_of t ≡ joined_stretch (stretch_of s) more → HasNoEmptyPart t → IsWhole d t
whole_longer c one d s t more w counted law e h = record {
  counted = subst (λ (x : Stretch). IsCount d x) (sym e) (law (stretch_of s) more w.counted counted);
  held = h;
}

-- what is left where the last of some elements is taken off again
pub popped : (xs ys zs : List Element) (e : Element) (r : Option Element) → ys ≡ xs ++ e ∷ [] → MatchOption r ((ys ≡ []) × (zs ≡ [])) (λ last. ys ≡ zs ++ last ∷ []) → zs ≡ xs
popped xs ys zs e None h m = absurd (omega (arith, length_push xs e, ap (λ (x : List Element). length x) (sym h ∙ m.0)))
popped xs ys zs e (Some last) h m = (same_from_push zs xs last e (sym m ∙ h)).0
