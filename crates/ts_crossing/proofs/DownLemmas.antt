-- The only link down from a head.
use Rattle.std.proofs.Common.{◌≡◌, ◌∙◌, sym, ap, refl, subst, ℕ, ◌<◌, inl, inr, List, [], ◌∷◌, length, take, slice_get, Option, Some, None, arith}
use Rattle.std.proofs.lemmas.List.{length-take-le}
use Rattle.std.proofs.lemmas.Option.{slice_get_within}
use Rattle.spec_trees.specs.declared.tree.Tree.{Tree}
use Rattle.spec_graph.specs.declared.graph.Link.{Link}
use Rattle.ts_graph.specs.Down.{links_down, links_from}
use Rattle.ts_crossing.proofs.MemberLemmas.{read_at}
use Rattle.ts_crossing.proofs.NumberLemmas.{Has, down_has, down_is, down_within, first_found}
use Rattle.ts_crossing.specs.Leaving.{IsAlone, IsOnlyDown, IsTokenTree, IsLastToken}

one_link : (links : List Link) (k : ℕ) (a b : Link) → slice_get links k ≡ Some a → slice_get links k ≡ Some b → a ≡ b
one_link links k a b x y = let e : Some a ≡ Some b = sym x ∙ y in cc

module _ (links : List Link) (h : ℕ) where
  pub first_at : (o known : Option ℕ) → o ≡ known → links_from links h o ≡ links_down links h → links_from links h known ≡ links_down links h
  first_at o known is e = subst (λ (x : Option ℕ). links_from links h x ≡ links_down links h) is e

  pub none_first : links_from links h None ≡ links_down links h → (k : ℕ) → IsOnlyDown links h k → ⊥
  none_first is k only = subst (λ (ks : List ℕ). Has ks k) (sym is) (down_is links h k only.link only.at only.above)

  module _ (link : ℕ) (first : links_from links h (Some link) ≡ links_down links h) where
    pub found : (l : Link) × (slice_get links link ≡ Some l) × (l.above ≡ h)
    found = first_found links h link first

    -- where the link is not alone, none is the only one
    pub none_alone : (IsAlone links link → ⊥) → (k : ℕ) → IsOnlyDown links h k → ⊥
    none_alone not k only = not (λ l at. by (links_down (take link links) l.above) refl (above l at))
      where
        same : link ≡ k
        same = only.only link found.0 found.1 found.2

        is_link : (l : Link) → slice_get links link ≡ Some l → l ≡ only.link
        is_link l at = one_link links link l only.link at (ap (λ (n : ℕ). slice_get links n) same ∙ only.at)

        above : (l : Link) → slice_get links link ≡ Some l → l.above ≡ h
        above l at = ap (λ (x : Link). x.above) (is_link l at) ∙ only.above

        by : {a : ℕ} (ks : List ℕ) → links_down (take link links) a ≡ ks → a ≡ h → links_down (take link links) a ≡ []
        by [] e up = e
        by {a} (j ∷ ks) e up =
            let low : Has (links_down (take link links) h) j = subst (λ (n : ℕ). Has (links_down (take link links) n) j) up (subst (λ (xs : List ℕ). Has xs j) (sym e) (inl refl)) in
            let less = down_within (take link links) h j low in
            let w = slice_get_within links link found.0 found.1 in
            let most = length-take-le link links (omega (arith, w)) in
            let there = down_has links h j (subst (λ (xs : List ℕ). Has xs j) first (inr low)) in
            let b : j ≡ k = only.only j there.0 there.1 there.2 in
            let s = same in
            absurd (omega (arith, less, most, b, s))

    pub only_alone : IsAlone links link → IsOnlyDown links h link
    only_alone alone = record {
      link = found.0;
      at = found.1;
      above = found.2;
      only = λ j other at above. by j (subst (λ (xs : List ℕ). Has xs j) (sym first) (down_is links h j other at above));
    }
      where
        none : links_down (take link links) h ≡ []
        none = subst (λ (n : ℕ). links_down (take link links) n ≡ []) found.2 (alone found.0 found.1)

        by : (j : ℕ) → Has (links_from links h (Some link)) j → j ≡ link
        by j (inl e) = sym e
        by j (inr more) = absurd (subst (λ (xs : List ℕ). Has xs j) none more)

-- ---- whether a link is alone

module _ (links : List Link) (link : ℕ) where
  pub next_is : (next known : Option ℕ) → next ≡ known → ((l : Link) → slice_get links link ≡ Some l → links_from links l.above next ≡ links_down (take link links) l.above) → (l : Link) → slice_get links link ≡ Some l → links_from links l.above known ≡ links_down (take link links) l.above
  next_is next known is goes l at = subst (λ (o : Option ℕ). links_from links l.above o ≡ links_down (take link links) l.above) is (goes l at)

  pub not_alone : link < length links → (other : ℕ) → ((l : Link) → slice_get links link ≡ Some l → links_from links l.above (Some other) ≡ links_down (take link links) l.above) → IsAlone links link → ⊥
  not_alone low other goes alone =
      let r = read_at links link low in
      let e : other ∷ links_down (take other links) r.0.above ≡ [] = goes r.0 r.1 ∙ alone r.0 r.1 in
      cc

  pub is_alone : ((l : Link) → slice_get links link ≡ Some l → links_from links l.above None ≡ links_down (take link links) l.above) → IsAlone links link
  is_alone goes = λ l at. sym (goes l at)

-- ---- a token on top

module _ (links : List Link) (h k : ℕ) (only : IsOnlyDown links h k) (node : Tree) (tree : (l : Link) → slice_get links k ≡ Some l → node ≡ l.tree) where
  pub token_only : IsTokenTree node → IsLastToken links h k
  token_only token = record { down = only; token = subst (λ (t : Tree). IsTokenTree t) (tree only.link only.at) token }

  pub no_token : (IsTokenTree node → ⊥) → (j : ℕ) → IsLastToken links h j → ⊥
  no_token not j last =
      let same : j ≡ k = only.only j last.down.link last.down.at last.down.above in
      let at : slice_get links k ≡ Some last.down.link = ap (λ (n : ℕ). slice_get links n) (sym same) ∙ last.down.at in
      not (subst (λ (t : Tree). IsTokenTree t) (sym (tree last.down.link at)) last.token)
