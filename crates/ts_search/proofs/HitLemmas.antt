-- The matches that are added.
use Rattle.std.proofs.Common.{◌≡◌, ◌∙◌, sym, ap, refl, subst, ℕ, ◌≤◌, ⊎_elim, List, length, Some, None, slice_get, true, ◌↔◌, arith}
use Rattle.std.specs.List.{Contains}
use Rattle.std.specs.List.Sorted.{IsStrictlySortedBy}
use Rattle.std.specs.BTreeSet.{BTreeSet}
use Rattle.std.proofs.lemmas.Bool.{cases_lt}
use Rattle.std.proofs.lemmas.Option.{slice_get_within}
use Rattle.ts_query_syntax.specs.declared.read_query.Pattern.{Pattern}
use Rattle.spec_matches.specs.declared.found.Capture.{Capture}
use Rattle.spec_matches.specs.declared.found.Match.{Match}
use Rattle.spec_matches.specs.declared.placing.Placing.{Placing}
use Rattle.spec_matches.specs.declared.scene.Scene.{Scene}
use Rattle.spec_matches.specs.Siblings.{AreChildren, AreSiblings}
use Rattle.spec_matches.specs.Taking.{Embedded}
use Rattle.spec_matches.specs.Matches.{AreAll, AreMoreThan, OfPatterns, capture_cmp, match_cmp, match_eq, most_matches}
use Rattle.ts_search.specs.Gathering.{Gathers, Has, Hits, HitsIn, HitsUnder, HitsOfAny, IsFull, IsGathered}
use Rattle.ts_search.proofs.ChildLemmas.{same_children}
use Rattle.ts_search.proofs.PlaceLemmas.{same_at}
use Rattle.ts_search.proofs.GatherLemmas.{gathers_none, gathers_same, has_iff}

module _ (kept : Match → Type 0) (k : ℕ) (siblings : List ℕ) (f : Placing) where
  pub hit_none : (a : BTreeSet Match) → f.first ≡ None → Gathers (Hits kept k siblings f) a a
  hit_none a e = gathers_none (Hits kept k siblings f) a (λ m g. let h : None ≡ Some g.comes.place = sym e ∙ g.comes.first in cc)

  pub hit_past : (a : BTreeSet Match) (p : ℕ) → f.first ≡ Some p → length siblings ≤ p → Gathers (Hits kept k siblings f) a a
  hit_past a p e past = gathers_none (Hits kept k siblings f) a (λ m g.
      let h : Some p ≡ Some g.comes.place = sym e ∙ g.comes.first in
      let same : p ≡ g.comes.place = cc in
      let w = slice_get_within siblings g.comes.place m.root g.comes.root in omega (arith, same))

  pub hit_one : ((xs ys : List Capture) → IsStrictlySortedBy capture_cmp xs → IsStrictlySortedBy capture_cmp ys → ((c : Capture) → Contains xs c ↔ Contains ys c) → xs ≡ ys)
      → (a b : BTreeSet Match) (p root : ℕ) (cs : List Capture) → f.first ≡ Some p → slice_get siblings p ≡ Some root
      → ((c : Capture) → Contains cs c ↔ Contains f.captures c) → IsStrictlySortedBy capture_cmp cs
      → Gathers (λ m. (m ≡ record { root = root; pattern = k; captures = cs }) × kept m) a b
      → Gathers (Hits kept k siblings f) a b
  hit_one one_order a b p root cs e at members order adds =
      gathers_same (λ m. (m ≡ made) × kept m) (Hits kept k siblings f) a b adds to (λ m g. (only m g, g.keeps))
    where
      made : Match
      made = record { root = root; pattern = k; captures = cs }

      to : (m : Match) → (m ≡ made) × kept m → Hits kept k siblings f m
      to m (is, keeps) = record {
        pattern = ap (λ (x : Match). x.pattern) is;
        comes = record {
          place = p;
          first = e;
          root = at ∙ ap (λ (x : Match). Some x.root) (sym is);
          members = λ c. subst (λ (l : List Capture). Contains l c ↔ Contains f.captures c) (ap (λ (x : Match). x.captures) (sym is)) (members c);
          order = subst (IsStrictlySortedBy capture_cmp) (ap (λ (x : Match). x.captures) (sym is)) order;
        };
        keeps = keeps;
      }

      only : (m : Match) → Hits kept k siblings f m → m ≡ made
      only m g =
          let h : Some g.comes.place ≡ Some p = sym g.comes.first ∙ e in
          let same : g.comes.place ≡ p = cc in
          let r : m.root ≡ root = same_at siblings p m.root root (subst (λ (n : ℕ). slice_get siblings n ≡ Some m.root) same g.comes.root) at in
          let c : m.captures ≡ cs = one_order m.captures cs g.comes.order order (λ x. ((λ h. (members x).1 ((g.comes.members x).0 h)), (λ h. (g.comes.members x).1 ((members x).0 h)))) in
          let n : m.pattern ≡ k = g.pattern in
          λ i. record { root = r i; pattern = n i; captures = c i }

module _ (scene : Scene) (kept : Match → Type 0) (k : ℕ) (pattern : Pattern) where
  pub hits_under : (n : ℕ) (children : List ℕ) (a b : BTreeSet Match) → AreChildren scene.nodes n children → Gathers (HitsIn scene kept k pattern children) a b → Gathers (HitsUnder scene kept k pattern n) a b
  hits_under n children a b kids adds =
      gathers_same (HitsIn scene kept k pattern children) (HitsUnder scene kept k pattern n) a b adds (λ m h. (children, kids, h))
      (λ m h. subst (λ (l : List ℕ). HitsIn scene kept k pattern l m) (same_children scene.nodes n h.0 children h.1 kids) h.2)

module _ (scene : Scene) (kept : Match → Type 0) (patterns : List Pattern) where
  pub gathered_all : (a b : BTreeSet Match) → ((m : Match) → Has a m → ⊥) → Gathers (HitsOfAny scene kept patterns) a b → IsGathered scene kept patterns b
  gathered_all a b empty adds = record {
    only = λ m h. ⊎_elim (λ o. absurd (empty m o)) (λ x. to m x.0 x.1 x.2 x.3.0 x.3.1 x.3.2.0 x.3.2.1 x.3.2.2) (adds.only m h);
    all = λ free m o keeps. adds.all free m (
      m.pattern,
      o.pattern,
      o.is_pattern,
      (o.siblings, o.are_siblings, (o.matches.0, o.matches.1, record { pattern = refl; comes = o.matches.2; keeps = keeps })),
    );
  }
    where
      to : (m : Match) (k : ℕ) (pattern : Pattern) → slice_get patterns k ≡ Some pattern → (siblings : List ℕ) → AreSiblings scene.nodes siblings → (f : Placing) → Embedded scene pattern.items pattern.closed siblings f
          → Hits kept k siblings f m → OfPatterns scene patterns m × kept m
      to m k pattern at siblings are f embeds hit = (
        record {
          pattern = pattern;
          is_pattern = subst (λ (j : ℕ). slice_get patterns j ≡ Some pattern) (sym hit.pattern) at;
          siblings = siblings;
          are_siblings = are;
          matches = (f, embeds, hit.comes);
        },
        hit.keeps,
      )

  module _ (same : (x y : Match) → match_eq x y ≡ true → x ≡ y) (out : BTreeSet Match) (g : IsGathered scene kept patterns out) where
    pub all_listed : (ms : List Match) → (IsFull out → ⊥) → ms ≡ out.keys → IsStrictlySortedBy match_cmp ms → AreAll (λ m. OfPatterns scene patterns m × kept m) ms
    all_listed ms free e order = record {
      all = λ m. (
        (λ h. g.only m ((has_iff same out m).1 (subst (λ (l : List Match). Contains l m) e h))),
        (λ h. subst (λ (l : List Match). Contains l m) (sym e) ((has_iff same out m).0 (g.all free m h.0 h.1))),
      );
      order = order;
    }

    pub too_many : IsFull out → IsStrictlySortedBy match_cmp out.keys → AreMoreThan most_matches (λ m. OfPatterns scene patterns m × kept m)
    too_many full order = record {
      some = out.keys;
      each = λ m h. g.only m ((has_iff same out m).1 h);
      order = order;
      more = full;
    }

pub few_of : (out : BTreeSet Match) (ms : List Match) → (IsFull out → ⊥) → ms ≡ out.keys → length ms ≤ most_matches
few_of out ms free e = subst (λ (l : List Match). length l ≤ most_matches) (sym e) (⊎_elim (λ lt. absurd (free lt)) (λ le. le) (cases_lt most_matches (length out.keys)))
