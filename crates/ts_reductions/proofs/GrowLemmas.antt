-- Graphs that grow: what was there stays, and steps join.
use Rattle.std.proofs.Common.{◌≡◌, ◌∙◌, sym, ap, refl, subst, ℕ, ◌≤◌, List, [], ◌∷◌, slice_get, Option, Some, arith}
use Rattle.std.specs.List.{Contains}
use Rattle.std.specs.Option.{option_map_or}
use Rattle.spec_trees.specs.declared.tree.Tree.{Tree}
use Rattle.spec_graph.specs.declared.graph.Head.{Head}
use Rattle.spec_graph.specs.declared.graph.Link.{Link}
use Rattle.spec_graph.specs.Laying.{Parsing}
use Rattle.spec_graph.specs.Replacing.{Replaces}
use Rattle.spec_graph.specs.Links.{IsAt, IsWay, IsLinked}
use Rattle.ts_graph.specs.declared.view.GraphView.{GraphView}
use Rattle.ts_graph.specs.Down.{KeepNumbers, place_at}
use Rattle.ts_reductions.specs.LayingLaws.{LayingLaws}
use Rattle.ts_reductions.specs.SoundLinks.{bare_link, bare_links}
use Rattle.ts_reductions.specs.Laying.{HasTree, Grows}
use Rattle.ts_reductions.proofs.MemberLemmas.{map_contained, contained_map}

-- ---- members

pub bare_member : (links : List Link) (l : Link) → Contains links l → Contains (bare_links links) (bare_link l)
bare_member = map_contained bare_link

pub member_bare : (links : List Link) (n : Link) → Contains (bare_links links) n → (l : Link) × Contains links l × (bare_link l ≡ n)
member_bare = contained_map bare_link

-- ---- heads

pub numbers_stay : (a b c : List Head) → KeepNumbers a b → KeepNumbers b c → KeepNumbers a c
numbers_stay a b c f g h head at = g h head (f h head at)

pub place_is_at : (heads : List Head) (h : ℕ) (head : Head) → slice_get heads h ≡ Some head → place_at heads h ≡ head.place
place_is_at heads h head at = ap (λ (o : Option Head). option_map_or (λ (x : Head). x.place) o 0) at

-- a head stands at one place
pub same_place : (P : Parsing) (heads : List Head) (h : ℕ) (read other : List ℕ) (p q : ℕ) → IsAt P heads h read p → IsAt P heads h other q → p ≡ q
same_place P heads h read other p q a b = sym a.place_is ∙ sym (place_is_at heads h a.head a.is) ∙ place_is_at heads h b.head b.is ∙ b.place_is

module _ (P : Parsing) (heads heads' : List Head) (keep : KeepNumbers heads heads') where
  pub at_stays : (h : ℕ) (read : List ℕ) (place : ℕ) → IsAt P heads h read place → IsAt P heads' h read place
  at_stays h read place a = record {
    head = a.head;
    is = keep h a.head a.is;
    state = a.state;
    place_is = a.place_is;
  }

  pub linked_stays : (l : Link) → IsLinked P heads l → IsLinked P heads' l
  linked_stays l k = record {
    under = k.under;
    over = k.over;
    from = k.from;
    to = k.to;
    below = at_stays l.below k.under k.from k.below;
    above = at_stays l.above k.over k.to k.above;
    lays = k.lays;
    shallow = k.shallow;
    flat = k.flat;
    deepest = k.deepest;
  }

-- ---- links

abbrev pub LinksStay : List Link → List Link → Type 0
LinksStay links links' = (l : Link) → Contains links l
    → (n : Link) × Contains links' n × (n.above ≡ l.above) × (n.below ≡ l.below) × Replaces n.tree l.tree × (l.depth ≤ n.depth)

pub way_stays : (links links' : List Link) → LinksStay links links' → (way : List Link) (h b : ℕ) → IsWay links h way b → (other : List Link) × IsWay links' h other b
way_stays links links' stay [] h b w = ([], w)
way_stays links links' stay (l ∷ way) h b w =
    let n = stay l w.0 in
    let r = way_stays links links' stay way l.below b w.2 in
    (n.0 ∷ r.0, (n.1, n.2 ∙ w.1, subst (λ (x : ℕ). IsWay links' x r.0 b) (sym n.3) r.1))

-- a link that may stand for a tree still may
pub tree_stays : LayingLaws → (links links' : List Link) → LinksStay links links' → (below : ℕ) (tree : Tree) (depth above : ℕ) → HasTree links below tree depth above → HasTree links' below tree depth above
tree_stays laws links links' stay below tree depth above h =
    let n = stay h.link h.there in
    record {
      link = n.0;
      there = n.1;
      below_is = n.3 ∙ h.below_is;
      above_is = n.2 ∙ h.above_is;
      replaces = laws.through n.0.tree h.link.tree tree n.4 h.replaces;
      no_less = let more = n.5 in omega (arith, more, h.no_less);
    }

-- ---- steps

pub grows_none : LayingLaws → (g : GraphView) → Grows g g
grows_none laws g = record {
  stay = λ h head at. at;
  kept = λ k l at. (l, at, refl, refl, refl);
  links = λ l there. (l, there, refl, refl, laws.same l.tree, (omega arith));
}

pub grows_on : LayingLaws → (a b c : GraphView) → Grows a b → Grows b c → Grows a c
grows_on laws a b c f g = record {
  stay = numbers_stay a.heads b.heads c.heads f.stay g.stay;
  kept = λ k l at.
      let n = f.kept k l at in
      let m = g.kept k n.0 n.1 in
      (m.0, m.1, m.2 ∙ n.2, m.3 ∙ n.3, m.4 ∙ n.4);
  links = λ l there.
      let n = f.links l there in
      let m = g.links n.0 n.1 in
      (m.0, m.1, m.2 ∙ n.2, m.3 ∙ n.3, laws.through m.0.tree n.0.tree l.tree m.4 n.4, (let x = n.5 in let y = m.5 in omega (arith, x, y)));
}
