-- The matches that are added when a search visits one node after another.
use Rattle.std.proofs.Common.{◌≡◌, ◌∙◌, sym, subst, ℕ, ◌+◌, ◌<◌, ◌≤◌, ◌⊎◌, inl, inr, refl, List, [], ◌∷◌, length, Some, slice_get, arith}
use Rattle.std.specs.BTreeSet.{BTreeSet}
use Rattle.std.proofs.lemmas.Option.{slice_get_within}
use Rattle.spec_trees.specs.declared.visible.VisibleNode.{VisibleNode}
use Rattle.ts_query_syntax.specs.declared.read_query.Item.TheViews.{out-Item}
use Rattle.ts_query_syntax.specs.declared.read_query.Pattern.{Pattern}
use Rattle.ts_query_syntax.specs.declared.read_query.Test.{Test}
use Rattle.ts_query_syntax.specs.declared.read_query.Test.TheVariants as tests
use Rattle.spec_matches.specs.declared.found.Match.{Match}
use Rattle.spec_matches.specs.declared.scene.Scene.{Scene}
use Rattle.ts_search.specs.declared.group.Group.{Group}
use Rattle.ts_search.specs.declared.group.Root.{Root}
use Rattle.ts_search.specs.declared.group.Root.TheVariants.{Kind, Node, Siblings}
use Rattle.ts_search.specs.Gathering.{Gathers, Has, HitsBeside, HitsIn, HitsOf, HitsOfAny, HitsUnder, IsGathered}
use Rattle.ts_search.specs.Index.{HaveRoot, IsIndex, IsRoot, MayBe}
use Rattle.ts_search.specs.Looks.{Looks}
use Rattle.ts_search.specs.Rows.{HaveParents}
use Rattle.ts_search.specs.Visits.{HitsAtFirst, HitsAtNode, HitsBy, HitsOfGroup, HitsOfNumber}
use Rattle.ts_search.specs.Ways.{ItemTakes}
use Rattle.ts_search.proofs.AddLemmas.{one_in}
use Rattle.ts_search.proofs.GatherLemmas.{gathers_both, gathers_none, gathers_same}
use Rattle.ts_search.proofs.HitLemmas.{gathered_all}
use Rattle.ts_search.proofs.IndexLemmas.{root_at}
use Rattle.ts_search.proofs.NodeLemmas.{at_node, of_node}
use Rattle.ts_search.proofs.PassLemmas.{takes_look}
use Rattle.ts_search.proofs.PlaceLemmas.{cases_lt_or_eq, same_at}
use Rattle.ts_search.proofs.SingleLemmas.{of_hits}

module _ (scene : Scene) (kept : Match → Type 0) (k : ℕ) (pattern : Pattern) where
  abbrev pub HitsAtRoot : ℕ → Match → Type 0
  HitsAtRoot n m = (n ≡ 0) × HitsIn scene kept k pattern (0 ∷ []) m

  -- the list of the root alone
  pub root_none : (n : ℕ) (a : BTreeSet Match) → 0 < n → Gathers (HitsAtRoot n) a a
  root_none n a later = gathers_none (HitsAtRoot n) a (λ m h. let e = h.0 in omega (arith, later))

  pub root_some : (n : ℕ) (a b : BTreeSet Match) → n ≤ 0 → Gathers (HitsIn scene kept k pattern (0 ∷ [])) a b → Gathers (HitsAtRoot n) a b
  root_some n a b first adds = gathers_same (HitsIn scene kept k pattern (0 ∷ [])) (HitsAtRoot n) a b adds (λ m h. (omega (arith, first), h)) (λ m h. h.1)

  -- .. and the children of a node
  pub beside : (n : ℕ) (a b c : BTreeSet Match) → Gathers (HitsAtRoot n) a b → Gathers (HitsUnder scene kept k pattern n) b c → Gathers (HitsBeside scene kept k pattern n) a c
  beside n a b c own under = gathers_both (HitsAtRoot n) (HitsUnder scene kept k pattern n) (HitsBeside scene kept k pattern n) a b c own under (λ m h. inl h) (λ m h. inr h) (λ m h. h)

module _ (scene : Scene) (kept : Match → Type 0) (k : ℕ) (pattern : Pattern) (some : 0 < length scene.nodes) (parents : HaveParents scene.nodes) (m : Match) where
  -- a match of a pattern is found when some node is visited
  pub visited : (root : Root) → IsRoot root pattern → HitsOf scene kept k pattern m → (j : ℕ) × (j < length scene.nodes) × HitsBy scene kept root k pattern j m
  visited (Kind kind) (i, alone, test) (siblings, are, h) = at_node scene kept k i pattern alone some parents m siblings are h
  visited Node (i, alone) (siblings, are, h) = at_node scene kept k i pattern alone some parents m siblings are h
  visited Siblings is (siblings, inl e, h) = (0, some, inl (refl, subst (λ (l : List ℕ). HitsIn scene kept k pattern l m) e h))
  visited Siblings is (siblings, inr (j, lt, kids), h) = (j, lt, inr (siblings, kids, h))

  -- .. and what is found there is a match
  pub found : (root : Root) → IsRoot root pattern → (j : ℕ) → j < length scene.nodes → HitsBy scene kept root k pattern j m → HitsOf scene kept k pattern m
  found (Kind kind) (i, alone, test) j lt h = of_node scene kept k i pattern alone some parents m j lt h
  found Node (i, alone) j lt h = of_node scene kept k i pattern alone some parents m j lt h
  found Siblings is j lt (inl (first, h)) = (0 ∷ [], inl refl, h)
  found Siblings is j lt (inr (siblings, kids, h)) = (siblings, inr (j, lt, kids), h)

module _ (scene : Scene) (kept : Match → Type 0) (patterns : List Pattern) where
  pub of_number : (root : Root) (n k : ℕ) (pattern : Pattern) (a b : BTreeSet Match) → slice_get patterns k ≡ Some pattern → Gathers (HitsBy scene kept root k pattern n) a b → Gathers (HitsOfNumber scene kept patterns root n k) a b
  of_number root n k pattern a b at adds = gathers_same (HitsBy scene kept root k pattern n) (HitsOfNumber scene kept patterns root n k) a b adds (λ m h. (pattern, at, h))
      (λ m h. subst (λ (p : Pattern). HitsBy scene kept root k p n m) (same_at patterns k h.0 pattern h.1 at) h.2)

  -- a node that cannot be the root gives no match
  pub unlikely : (g : Group) (n : ℕ) (node : VisibleNode) → HaveRoot patterns g → slice_get scene.nodes n ≡ Some node → (MayBe scene.kinds g.root node → ⊥) → (a : BTreeSet Match) → Gathers (HitsOfGroup scene kept patterns n g) a a
  unlikely g n node have at cannot a = gathers_none (HitsOfGroup scene kept patterns n g) a (λ m h.
      by m h.0 g.root h.2.0 (root_at patterns g.root h.0 h.2.0 (have h.0 h.1) h.2.1) cannot h.2.2)
    where
      by : (m : Match) (k : ℕ) (root : Root) (pattern : Pattern) → IsRoot root pattern → (MayBe scene.kinds root node → ⊥) → HitsBy scene kept root k pattern n m → ⊥
      by m k (Kind kind) pattern (i, alone, test) no_such h =
          let w = of_hits scene kept k i pattern alone (n ∷ []) m h in
          let takes : ItemTakes scene i 0 n w.2.0 = subst (λ (j : ℕ). ItemTakes scene i 0 j w.2.0) (one_in n w.0 w.1) w.2.1 in
          let other : (out-Item i).test ≡ tests.Round → ⊥ = λ e. (let f : tests.Kind kind ≡ tests.Round = sym test ∙ e in cc) in
          no_such (subst (λ (t : Test). Looks scene.kinds t node) test (takes_look scene i n other w.2.0 takes node at))
      by m k Node pattern is no_such h = no_such tt
      by m k Siblings pattern is no_such h = no_such tt

  module _ (groups : List Group) where
    pub first_none : (a : BTreeSet Match) → Gathers (HitsAtFirst scene kept patterns groups 0) a a
    first_none a = gathers_none (HitsAtFirst scene kept patterns groups 0) a (λ m h. let lt = h.1 in omega arith)

    pub first_more : (n : ℕ) (a b c : BTreeSet Match) → Gathers (HitsAtFirst scene kept patterns groups n) a b → Gathers (HitsAtNode scene kept patterns groups n) b c → Gathers (HitsAtFirst scene kept patterns groups (n + 1)) a c
    first_more n a b c before one =
        gathers_both (HitsAtFirst scene kept patterns groups n) (HitsAtNode scene kept patterns groups n) (HitsAtFirst scene kept patterns groups (n + 1)) a b c before one
        (λ m h. (h.0, (let lt = h.1 in omega arith), h.2)) (λ m h. (n, omega arith, h)) (λ m h. split m h.0 h.2 (cases_lt_or_eq h.0 n h.1))
      where
        split : (m : Match) (j : ℕ) → HitsAtNode scene kept patterns groups j m → (j < n) ⊎ (j ≡ n) → HitsAtFirst scene kept patterns groups n m ⊎ HitsAtNode scene kept patterns groups n m
        split m j h (inl lt) = inl (j, lt, h)
        split m j h (inr e) = inr (subst (λ (l : ℕ). HitsAtNode scene kept patterns groups l m) e h)

    -- all nodes are visited
    pub first_all : (n : ℕ) (a b : BTreeSet Match) → IsIndex patterns groups → 0 < length scene.nodes → HaveParents scene.nodes → n ≤ length scene.nodes → length scene.nodes ≤ n → ((m : Match) → Has a m → ⊥)
        → Gathers (HitsAtFirst scene kept patterns groups n) a b → IsGathered scene kept patterns b
    first_all n a b is some parents le ge empty adds = gathered_all scene kept patterns a b empty (gathers_same (HitsAtFirst scene kept patterns groups n) (HitsOfAny scene kept patterns) a b adds to from)
      where
        to : (m : Match) → HitsAtFirst scene kept patterns groups n m → HitsOfAny scene kept patterns m
        to m (j, lt, (g, there_g, (k, in_g, (pattern, at, h)))) =
            let root : IsRoot g.root pattern = root_at patterns g.root k pattern (is.each g there_g k in_g) at in
            (k, pattern, at, found scene kept k pattern some parents m g.root root j (omega (arith, lt, le)) h)

        from : (m : Match) → HitsOfAny scene kept patterns m → HitsAtFirst scene kept patterns groups n m
        from m (k, pattern, at, h) =
            let w = is.whole k (slice_get_within patterns k pattern at) in
            let root : IsRoot w.0.root pattern = root_at patterns w.0.root k pattern (is.each w.0 w.1 k w.2) at in
            let v = visited scene kept k pattern some parents m w.0.root root h in
            (v.0, (let lt = v.1 in omega (arith, lt, ge)), (w.0, w.1, (k, w.2, (pattern, at, v.2))))
