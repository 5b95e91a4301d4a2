-- What the first item of a pattern takes.
use Rattle.std.proofs.Common.{◌≡◌, ◌∙◌, sym, refl, subst, ℕ, ◌+◌, ◌-◌, ◌%◌, ◌<◌, ◌≤◌, ⊎_elim, List, [], ◌∷◌, ◌++◌, map, Option, Some, None, slice_get, Bool, true, false, arith}
use Rattle.std.specs.Bool.{IsTrue}
use Rattle.std.specs.List.{Contains}
use Rattle.std.specs.BTreeSet.{BTreeSet}
use Rattle.std.proofs.Math.Nat.{zero-mod}
use Rattle.std.proofs.lemmas.List.Elements.{Contains-push_cases}
use Rattle.spec_trees.specs.Family.{IsParent}
use Rattle.ts_cursor.specs.Linked.{IsPast}
use Rattle.ts_query_syntax.specs.declared.read_query.Item.{Item}
use Rattle.ts_query_syntax.specs.declared.read_query.Pattern.{Pattern}
use Rattle.spec_matches.specs.declared.found.Capture.{Capture}
use Rattle.spec_matches.specs.declared.found.Match.{Match}
use Rattle.spec_matches.specs.declared.placing.Slot.{Slot}
use Rattle.spec_matches.specs.declared.placing.Run.{Run}
use Rattle.spec_matches.specs.declared.placing.Placing.{Placing}
use Rattle.spec_matches.specs.declared.scene.Scene.{Scene}
use Rattle.spec_matches.specs.Embedding.{Embeds, IsWayFrom, offset}
use Rattle.spec_matches.specs.Siblings.{AreChildren, nameds}
use Rattle.spec_matches.specs.Taking.{Embedded, On}
use Rattle.ts_search.specs.First.{Leads}
use Rattle.ts_search.specs.Gathering.{Gathers, HitsUnder}
use Rattle.ts_search.specs.Ways.{ItemTakes, TakenOf, slot_of}
use Rattle.ts_search.proofs.ChildLemmas.{Listed, listed_all, listed_more, listed_none}
use Rattle.ts_search.proofs.GainLemmas.{not_both}
use Rattle.ts_search.proofs.GatherLemmas.{gathers_none}
use Rattle.ts_search.proofs.PlaceLemmas.{none_in_nil, same_at, there}
use Rattle.ts_search.proofs.ShapeLemmas.{slots_are, taken_at}

-- ---- the first item takes a sibling

no_offset : (s : Slot) (p : ℕ) → offset s p p ≡ 0
no_offset s p = let e : p - p ≡ 0 = omega arith in subst (λ (d : ℕ). d % (s.more + 1) ≡ 0) (sym e) (zero-mod (s.more + 1))

module _ (scene : Scene) (i : Item) (closed : Bool) (siblings : List ℕ) where
  -- a sibling that the item takes
  pub record Taken : Type 0 where
    pub number : ℕ
    pub sibling : Contains siblings number
    pub captures : List Capture
    pub takes : ItemTakes scene i 0 number captures

  nothing : slice_get {X = Item} [] 0 ≡ Some i → ⊥
  nothing e = cc

  pub first_takes : (is : List Item) (f : Placing) → Leads i is → Embedded scene is closed siblings f → Taken
  first_takes [] f leads w = absurd (nothing leads.is_first)
  first_takes (j ∷ js) f leads w =
      let way = subst (λ (l : List Slot). IsWayFrom (On (TakenOf scene (j ∷ js)) siblings) (nameds scene.nodes siblings) closed l 0 0 true f) (slots_are (j ∷ js)) w in
      by way.runs way.full.embeds
    where
      same : j ≡ i
      same = let e : Some j ≡ Some i = leads.is_first in cc

      by : (runs : List (Option Run)) → Embeds (On (TakenOf scene (j ∷ js)) siblings) (nameds scene.nodes siblings) closed (slot_of j ∷ map slot_of js) 0 0 true runs → Taken
      by [] e = absurd e
      by (None ∷ rs) e = absurd (not_both (slot_of j).optional e.0 (subst (λ (k : Item). (slot_of k).optional ≡ false) (sym same) leads.wanted))
      by (Some r ∷ rs) e =
          let covered = e.0.fits.covers r.first (omega arith) e.0.fits.some in
          let at = subst (λ (o : ℕ). On (TakenOf scene (j ∷ js)) siblings 0 o r.first covered.0) (no_offset (slot_of j) r.first) covered.1 in
          let taken = (taken_at scene (j ∷ js) 0 0 at.0 covered.0).0 at.2 in
          record {
            number = at.0;
            sibling = there siblings r.first at.0 at.1;
            captures = covered.0;
            takes = subst (λ (k : Item). ItemTakes scene k 0 at.0 covered.0) (same_at (j ∷ js) 0 taken.0 i taken.1 leads.is_first) taken.2;
          }

-- ---- a walk over children that the item cannot take

module _ (scene : Scene) (i : Item) (n past : ℕ) (ends : IsPast scene.nodes n past) where
  -- the item takes none of the children before m
  pub record Untaken (m : ℕ) : Type 0 where
    pub children : List ℕ
    pub listed : Listed scene.nodes n m past children
    pub none : (k : ℕ) (c : List Capture) → Contains children k → ItemTakes scene i 0 k c → ⊥

  pub untaken_none : Untaken (n + 1)
  untaken_none = record { children = []; listed = listed_none scene.nodes n past ends; none = λ k c h t. none_in_nil k h }

  pub untaken_more : (m next : ℕ) (may : Bool) → m < past → IsPast scene.nodes m next → ((c : List Capture) → ItemTakes scene i 0 m c → IsTrue may) → may ≡ false → Untaken m → Untaken next
  untaken_more m next may low after takes fails before = record {
    children = before.children ++ m ∷ [];
    listed = listed_more scene.nodes n m past next before.children (before.children ++ m ∷ []) refl low ends after before.listed;
    none = λ k c h t. ⊎_elim (λ old. before.none k c old t) (λ e. let y = takes c (subst (λ (j : ℕ). ItemTakes scene i 0 j c) (sym e) t) in let f : true ≡ false = sym y ∙ fails in cc) (Contains-push_cases before.children m k h);
  }

  pub untaken_all : (m : ℕ) → past ≤ m → Untaken m → (k : ℕ) (c : List Capture) → IsParent scene.nodes k n → ItemTakes scene i 0 k c → ⊥
  untaken_all m high all k c parent = all.none k c (((listed_all scene.nodes n m past all.children high ends all.listed).all k).1 parent)

-- ---- matches in the children of a node

module _ (scene : Scene) (pattern : Pattern) (n : ℕ) where
  pub by_first : (i : Item) (may : Bool) → Leads i pattern.items → ((m : ℕ) (c : List Capture) → IsParent scene.nodes m n → ItemTakes scene i 0 m c → IsTrue may)
      → (children : List ℕ) (f : Placing) → AreChildren scene.nodes n children → Embedded scene pattern.items pattern.closed children f → IsTrue may
  by_first i may leads takes children f kids embeds =
      let t = first_takes scene i pattern.closed children pattern.items f leads embeds in takes t.number t.captures ((kids.all t.number).0 t.sibling) t.takes

  pub not_under : (kept : Match → Type 0) (k : ℕ) (may : Bool) → ((children : List ℕ) (f : Placing) → AreChildren scene.nodes n children → Embedded scene pattern.items pattern.closed children f → IsTrue may) → may ≡ false
      → (a : BTreeSet Match) → Gathers (HitsUnder scene kept k pattern n) a a
  not_under kept k may needs fails a = gathers_none (HitsUnder scene kept k pattern n) a (λ m h. let y = needs h.0 h.2.0 h.1 h.2.1 in let f : true ≡ false = sym y ∙ fails in cc)
