-- The matches of a pattern of one plain item at a node.
use Rattle.std.proofs.Common.{◌≡◌, ◌∙◌, subst, refl, sym, ℕ, zero, suc, ◌<◌, List, [], ◌∷◌, length, Bool, false, true, Some, None, get_or, slice_get, arith}
use Rattle.std.specs.Bool.{IsTrue}
use Rattle.std.specs.BTreeSet.{BTreeSet}
use Rattle.std.specs.List.{Contains}
use Rattle.std.proofs.lemmas.Option.{get_or_from_slice_get, slice_get-get_or}
use Rattle.ts_query_syntax.specs.declared.read_query.Item.{Item}
use Rattle.ts_query_syntax.specs.declared.read_query.Pattern.{Pattern}
use Rattle.spec_matches.specs.declared.found.Capture.{Capture}
use Rattle.spec_matches.specs.declared.found.Match.{Match}
use Rattle.spec_matches.specs.declared.scene.Scene.{Scene}
use Rattle.spec_matches.specs.Siblings.{AreSiblings}
use Rattle.ts_search.specs.Gathering.{Gathers, HitsIn, HitsOf}
use Rattle.ts_search.specs.Rows.{HaveParents}
use Rattle.ts_search.specs.Single.{HitsAt, IsAlone}
use Rattle.ts_search.specs.Ways.{ItemTakes}
use Rattle.ts_search.proofs.AddLemmas.{in_one, one_in}
use Rattle.ts_search.proofs.ChildLemmas.{siblings_of, siblings_within}
use Rattle.ts_search.proofs.GatherLemmas.{gathers_none}
use Rattle.ts_search.proofs.SingleLemmas.{of_hits, to_hits}

module _ (scene : Scene) (kept : Match → Type 0) (k : ℕ) (i : Item) (pattern : Pattern) (alone : IsAlone i pattern) where
  -- a node that the item cannot take gives no match
  pub not_taken : (n : ℕ) (may : Bool) → ((c : List Capture) → ItemTakes scene i 0 n c → IsTrue may) → may ≡ false → (a : BTreeSet Match) → Gathers (HitsIn scene kept k pattern (n ∷ [])) a a
  not_taken n may takes fails a = gathers_none (HitsIn scene kept k pattern (n ∷ [])) a (λ m h.
      let w = of_hits scene kept k i pattern alone (n ∷ []) m h in
      let t = takes w.2.0 (subst (λ (j : ℕ). ItemTakes scene i 0 j w.2.0) (one_in n w.0 w.1) w.2.1) in
      let e : false ≡ true = sym fails ∙ t in cc)

  -- the node of a match, and siblings among which it stands
  module _ (some : 0 < length scene.nodes) (parents : HaveParents scene.nodes) (m : Match) where
    pub of_node : (j : ℕ) → j < length scene.nodes → HitsIn scene kept k pattern (j ∷ []) m → HitsOf scene kept k pattern m
    of_node j lt h =
        let w = of_hits scene kept k i pattern alone (j ∷ []) m h in
        let s = siblings_of scene.nodes parents j lt in
        (s.0, s.1, to_hits scene kept k i pattern alone s.0 m (j, s.2, subst (λ (l : ℕ). HitsAt scene kept k i l m) (one_in j w.0 w.1) w.2))

    pub at_node : (siblings : List ℕ) → AreSiblings scene.nodes siblings → HitsIn scene kept k pattern siblings m → (j : ℕ) × (j < length scene.nodes) × HitsIn scene kept k pattern (j ∷ []) m
    at_node siblings are h =
        let w = of_hits scene kept k i pattern alone siblings m h in
        (w.0, siblings_within scene.nodes some siblings are w.0 w.1, to_hits scene kept k i pattern alone (w.0 ∷ []) m (w.0, in_one w.0 w.0 refl, w.2))

-- the item that a pattern is
pub has_item : (pattern : Pattern) → ((i : Item) × IsAlone i pattern) → 0 < length pattern.items
has_item pattern (i, alone) = subst (λ (is : List Item). 0 < length is) (sym alone.is_it) (omega arith)

pub item_alone : (pattern : Pattern) (j : Item) → ((i : Item) × IsAlone i pattern) → slice_get pattern.items 0 ≡ Some j → IsAlone j pattern
item_alone pattern j (i, alone) at = subst (λ (k : Item). IsAlone k pattern) (same (subst (λ (is : List Item). slice_get is 0 ≡ Some j) alone.is_it at)) alone
  where
    same : Some i ≡ Some j → i ≡ j
    same e = cc

-- what a list has at a place
pub get_again : {X : Type 0} (xs : List X) (n : ℕ) (d : X) → n < length xs → get_or xs n d ≡ get_or xs n (get_or xs n d)
get_again xs n d below = sym (get_or_from_slice_get xs n (get_or xs n d) (get_or xs n d) (slice_get-get_or xs n d below))

pub member : {X : Type 0} (xs : List X) (n : ℕ) (d : X) → n < length xs → Contains xs (get_or xs n d)
member xs n d below = (n, below, sym (get_again xs n d below))

pub not_past : {X : Type 0} (xs : List X) (n : ℕ) → n < length xs → slice_get xs n ≡ None → ⊥
not_past [] n below e = omega (arith, below)
not_past (x ∷ xs) zero below e = let f : Some x ≡ None = e in cc
not_past (x ∷ xs) (suc n) below e = not_past xs n (omega (arith, below)) e
