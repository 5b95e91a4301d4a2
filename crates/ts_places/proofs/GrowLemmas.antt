-- Graphs that grow: what was there stays, and steps join.
use Rattle.std.proofs.Common.{◌≡◌, ◌∙◌, sym, ap, refl, subst, ℕ, inr, ⊎_elim, List, slice_get, Option, Some, arith}
use Rattle.std.specs.Option.{option_map_or}
use Rattle.ts_base.specs.Bytes.{Bytes}
use Rattle.spec_trees.specs.declared.tree.Tree.{Tree}
use Rattle.spec_graph.specs.declared.graph.Head.{Head}
use Rattle.spec_graph.specs.declared.graph.Link.{Link}
use Rattle.spec_graph.specs.Laying.{Parsing}
use Rattle.spec_graph.specs.Links.{IsAt, HasLink, HasGrown}
use Rattle.ts_graph.specs.declared.view.GraphView.{GraphView}
use Rattle.ts_graph.specs.Down.{KeepNumbers, place_at}
use Rattle.ts_table.specs.declared.view.ParseTable.{ParseTable}
use Rattle.ts_reductions.specs.SoundLinks.{bare_links}
use Rattle.ts_reductions.specs.Sound.{parsing_of}
use Rattle.ts_reductions.specs.Laying.{Grows}
use Rattle.ts_reductions.specs.declared.top.Top.{Top}
use Rattle.ts_places.specs.declared.sights.Span.{Span}
use Rattle.ts_places.specs.ShiftLaws.{LeafLaws}
use Rattle.ts_places.specs.Looking.{IsTopWith}
use Rattle.ts_places.specs.Shifting.{OpensHead, AreBehind}
use Rattle.ts_places.proofs.HeadLemmas.{one_head}

pub place_is_at : (heads : List Head) (h : ℕ) (head : Head) → slice_get heads h ≡ Some head → place_at heads h ≡ head.place
place_is_at heads h head at = ap (λ (o : Option Head). option_map_or (λ (x : Head). x.place) o 0) at

-- ---- heads

module _ (P : Parsing) (heads heads' : List Head) (keep : KeepNumbers heads heads') where
  pub at_stays : (h : ℕ) (read : List ℕ) (place : ℕ) → IsAt P heads h read place → IsAt P heads' h read place
  at_stays h read place a = record { head = a.head; is = keep h a.head a.is; state = a.state; place_is = a.place_is }

  -- a head that was there stood where it stands
  pub at_back : (h : ℕ) (head : Head) → slice_get heads h ≡ Some head → (read : List ℕ) (place : ℕ) → IsAt P heads' h read place → IsAt P heads h read place
  at_back h head is read place a =
      let same : head ≡ a.head = one_head heads' h head a.head (keep h head is) a.is in
      record { head = a.head; is = subst (λ (x : Head). slice_get heads h ≡ Some x) same is; state = a.state; place_is = a.place_is }

pub sight_stays : (t : ParseTable) (text : Bytes) (old new : GraphView) → KeepNumbers old.heads new.heads → (look : ℕ) (top : Top) (span : Span) → IsTopWith t text old look top span → IsTopWith t text new look top span
sight_stays t text old new keep look top span s = record {
  read = s.read;
  at = at_stays (parsing_of t text) old.heads new.heads keep top.head s.read look s.at;
  sees = s.sees;
  past = s.past;
  reach = s.reach;
  some = s.some;
}

-- ---- links

pub grows_none : LeafLaws → (g : GraphView) → Grows g g
grows_none laws g = record {
  stay = λ h head is. is;
  kept = λ k l is. (l, is, refl, refl, refl);
  links = λ l there. (l, there, refl, refl, laws.same l.tree, omega arith);
}

pub grows_more : LeafLaws → (old mid new : GraphView) → Grows old mid → Grows mid new → Grows old new
grows_more laws old mid new a b = record {
  stay = λ h head is. b.stay h head (a.stay h head is);
  kept = λ k l is.
      let m = a.kept k l is in
      let n = b.kept k m.0 m.1 in
      (n.0, n.1, n.2 ∙ m.2, n.3 ∙ m.3, n.4 ∙ m.4);
  links = λ l there.
      let m = a.links l there in
      let n = b.links m.0 m.1 in
      (n.0, n.1, n.2 ∙ m.2, n.3 ∙ m.3, laws.through n.0.tree m.0.tree l.tree n.4 m.4, (let x = m.5 in let y = n.5 in omega (arith, x, y)));
}

pub grows_grown : LeafLaws → (P : Parsing) (a b : GraphView) → Grows a b → HasGrown P a.heads (bare_links a.links) b.heads (bare_links b.links)
grows_grown laws P a b f = record {
  heads_stay = λ h read place k. at_stays P a.heads b.heads f.stay h read place k;
  links_stay = λ l there.
      let n = f.links l there in (
        n.0,
        n.1,
        n.2,
        n.3,
        λ t s. record {
          tree = laws.through n.0.tree l.tree t n.4 s.tree;
          depth = let more = n.5 in let d = s.depth in omega (arith, more, d);
        },
      );
}

pub link_stays : (P : Parsing) (heads heads' : List Head) (links links' : List Link) → HasGrown P heads links heads' links' → (b : ℕ) (t : Tree) (place : ℕ) (now : List ℕ) → HasLink P heads links b t place now → HasLink P heads' links' b t place now
link_stays P heads heads' links links' f b t place now h =
    let n = f.links_stay h.link h.there in
    record {
      link = n.0;
      there = n.1;
      below = n.3 ∙ h.below;
      above = subst (λ (x : ℕ). IsAt P heads' x now place) (sym n.2) (f.heads_stay h.link.above now place h.above);
      stands = n.4 t h.stands;
    }

-- what was done at a head stays done
pub opens_stays : LeafLaws → (P : Parsing) (old new : GraphView) → Grows old new → (look b : ℕ) (head : Head) → slice_get old.heads b ≡ Some head → OpensHead P old.heads (bare_links old.links) look b → OpensHead P new.heads (bare_links new.links) look b
opens_stays laws P old new f look b head is o =
    let g = grows_grown laws P old new f in
    record {
      shifts = λ read symbol pad size at sees act.
          link_stays P old.heads new.heads (bare_links old.links) (bare_links new.links) g b _ _ _ (o.shifts read symbol pad size (at_back P old.heads new.heads f.stay b head is read look at) sees act);
      passes = λ read symbol pad size at passes.
          link_stays P old.heads new.heads (bare_links old.links) (bare_links new.links) g b _ _ _ (o.passes read symbol pad size (at_back P old.heads new.heads f.stay b head is read look at) passes);
    }

pub behind_more : (old mid new : GraphView) (look : ℕ) → AreBehind old mid look → AreBehind mid new look → AreBehind old new look
behind_more old mid new look a b h head is = ⊎_elim (λ was. a h head was) (λ past. inr past) (b h head is)
