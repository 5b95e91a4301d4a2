-- Ways down from heads that were there, in a graph that has grown by links from new heads alone.
use Rattle.std.proofs.Common.{◌≡◌, ◌∙◌, sym, ap, refl, subst, ℕ, suc, ◌<◌, ◌≤◌, ◌⊎◌, ◌↔◌, inl, inr, Bool, true, false, List, [], ◌∷◌, ◌++◌, length, slice_get, Some, if◌then◌else◌, arith}
use Rattle.std.specs.List.{Contains}
use Rattle.std.proofs.lemmas.Bool.{cases_order}
use Rattle.std.proofs.lemmas.Option.{slice_get_within}
use Rattle.ts_core.specs.declared.action.Action.TheVariants.{Reduce}
use Rattle.spec_trees.specs.declared.tree.Tree.{Tree}
use Rattle.spec_trees.specs.Trees.{is_extra_node}
use Rattle.spec_trees.specs.Made.{filling, EndsFilled}
use Rattle.spec_graph.specs.declared.graph.Head.{Head}
use Rattle.spec_graph.specs.declared.graph.Link.{Link}
use Rattle.spec_graph.specs.Links.{IsWay, way_trees}
use Rattle.ts_graph.specs.declared.view.GraphView.{GraphView}
use Rattle.ts_graph.specs.Down.{KeepNumbers, LeadFrom, place_at}
use Rattle.ts_graph.specs.Ways.{TakesFilled}
use Rattle.ts_table.specs.declared.view.ParseTable.{ParseTable}
use Rattle.ts_table.specs.Tables.{actions_of}
use Rattle.ts_reductions.specs.declared.batch.Batch.{Batch}
use Rattle.ts_reductions.specs.declared.top.Top.{Top}
use Rattle.ts_reductions.specs.Laying.{KeepLinks}
use Rattle.ts_reductions.specs.Asking.{HasReduction, IsAsked, ByNumber}
use Rattle.ts_places.specs.declared.seeking.Seek.{Seek}
use Rattle.ts_places.specs.Seeking.{IsSought}
use Rattle.ts_places.proofs.SmallLemmas.{at_contained, contained_at, read_at}
use Rattle.ts_places.proofs.GrowLemmas.{place_is_at}

-- as many links, and each tree is an extra where the other is one
abbrev AreLike : List Link → List Link → Type 0
AreLike [] [] = Unit {0}
AreLike [] (m ∷ others) = ⊥
AreLike (l ∷ way) [] = ⊥
AreLike (l ∷ way) (m ∷ others) = (is_extra_node m.tree ≡ is_extra_node l.tree) × AreLike way others

fill_more : (t : Tree) (ts : List Tree) → length (filling (t ∷ ts)) ≡ (if is_extra_node t then length (filling ts) else suc (length (filling ts)))
fill_more t ts = by (is_extra_node t) refl
  where
    by : (b : Bool) → is_extra_node t ≡ b → length (filling (t ∷ ts)) ≡ (if b then length (filling ts) else suc (length (filling ts)))
    by true e = rw e refl
    by false e = rw e refl

fill_like : (way others : List Link) → AreLike way others → length (filling (way_trees others)) ≡ length (filling (way_trees way))
fill_like [] [] like = refl
fill_like [] (m ∷ others) like = absurd like
fill_like (l ∷ way) [] like = absurd like
fill_like (l ∷ way) (m ∷ others) like =
    let rest = fill_like way others like.1 in
    fill_more m.tree (way_trees others) ∙ ap (λ (b : Bool). if b then length (filling (way_trees others)) else suc (length (filling (way_trees others)))) like.0
    ∙ ap (λ (n : ℕ). if is_extra_node l.tree then n else suc n) rest ∙ sym (fill_more l.tree (way_trees way))

-- the last of some links
nothing_before : (before : List Tree) (last : Tree) → [] ≡ before ++ last ∷ [] → ⊥
nothing_before [] last e = let f : [] ≡ last ∷ [] = e in cc
nothing_before (x ∷ before) last e = let f : [] ≡ x ∷ (before ++ last ∷ []) = e in cc

last_like : (way others : List Link) → AreLike way others → EndsFilled (way_trees way) → (before : List Tree) (last : Tree) → way_trees others ≡ before ++ last ∷ [] → is_extra_node last ≡ false
last_like [] [] like ends before last e = ends before last e
last_like [] (m ∷ others) like ends before last e = absurd like
last_like (l ∷ way) [] like ends before last e = absurd like
last_like (l ∷ []) (m ∷ []) like ends [] last e =
    let f : m.tree ∷ [] ≡ last ∷ [] = e in
    let same : m.tree ≡ last = cc in
    ap is_extra_node (sym same) ∙ like.0 ∙ ends [] l.tree refl
last_like (l ∷ []) (m ∷ []) like ends (x ∷ before) last e = absurd (let f : m.tree ∷ [] ≡ x ∷ (before ++ last ∷ []) = e in let rest : [] ≡ before ++ last ∷ [] = cc in nothing_before before last rest)
last_like (l ∷ []) (m ∷ n ∷ others) like ends before last e = absurd like.1
last_like (l ∷ k ∷ way) (m ∷ []) like ends before last e = absurd like.1
last_like (l ∷ k ∷ way) (m ∷ n ∷ others) like ends [] last e = absurd (let f : m.tree ∷ n.tree ∷ way_trees others ≡ last ∷ [] = e in cc)
last_like (l ∷ k ∷ way) (m ∷ n ∷ others) like ends (x ∷ before) last e =
    let f : m.tree ∷ (n.tree ∷ way_trees others) ≡ x ∷ (before ++ last ∷ []) = e in
    let rest : n.tree ∷ way_trees others ≡ before ++ last ∷ [] = cc in
    last_like (k ∷ way) (n ∷ others) like.1 (λ b t g. ends (l.tree ∷ b) t (ap (λ (ts : List Tree). l.tree ∷ ts) g)) before last rest

module _ (old new : GraphView) (keep : KeepNumbers old.heads new.heads) (kept : KeepLinks old.links new.links) where
  -- each way is still there
  way_forth : (way : List Link) (h b : ℕ) → IsWay old.links h way b → (others : List Link) × IsWay new.links h others b × AreLike way others
  way_forth [] h b w = ([], w, tt)
  way_forth (l ∷ way) h b w =
      let j = at_contained old.links l w.0 in
      let n = kept j.0 l j.1 in
      let r = way_forth way l.below b w.2 in
      (n.0 ∷ r.0, (contained_at new.links j.0 n.0 n.1, n.2 ∙ w.1, subst (λ (x : ℕ). IsWay new.links x r.0 b) (sym n.3) r.1), (n.4, r.2))

  -- the same reductions stay at a head that was there
  module _ (t : ParseTable) (top : Top) (number : ℕ) (head : Head) (at : slice_get old.heads top.head ≡ Some head) where
    same_head : (x : Head) → slice_get new.heads top.head ≡ Some x → head ≡ x
    same_head x is = let f : Some head ≡ Some x = sym (keep top.head head at) ∙ is in cc

    pub reduction_stays : HasReduction t new top number ↔ HasReduction t old top number
    reduction_stays = (
      (λ r. record { head = head; at = at; acts = subst (λ (x : Head). Contains (actions_of t x.state top.token.0) (Reduce number)) (sym (same_head r.head r.at)) r.acts }),
      (λ r. record { head = r.head; at = keep top.head r.head r.at; acts = r.acts }),
    )

  module _ (below_there : (k : ℕ) (l : Link) → slice_get old.links k ≡ Some l → l.below < length old.heads) (from_new : LeadFrom new.links (length old.links) (length old.heads)) where
    -- a link down from a head that was there was there
    was_there : (l : Link) → Contains new.links l → l.above < length old.heads → (o : Link) × Contains old.links o × (o.above ≡ l.above) × (o.below ≡ l.below) × (is_extra_node l.tree ≡ is_extra_node o.tree) × (o.below < length old.heads)
    was_there l there low = by (cases_order j.0 (length old.links))
      where
        j : (k : ℕ) × (slice_get new.links k ≡ Some l)
        j = at_contained new.links l there

        late : length old.links ≤ j.0 → ⊥
        late past = let f = from_new j.0 l j.1 past in omega (arith, f, low)

        here : j.0 < length old.links → (o : Link) × Contains old.links o × (o.above ≡ l.above) × (o.below ≡ l.below) × (is_extra_node l.tree ≡ is_extra_node o.tree) × (o.below < length old.heads)
        here lt =
            let o = read_at old.links j.0 lt in
            let n = kept j.0 o.0 o.1 in
            let f : Some n.0 ≡ Some l = sym n.1 ∙ j.1 in
            let same : n.0 ≡ l = cc in (
              o.0,
              contained_at old.links j.0 o.0 o.1,
              sym n.2 ∙ ap (λ (x : Link). x.above) same,
              sym n.3 ∙ ap (λ (x : Link). x.below) same,
              ap (λ (x : Link). is_extra_node x.tree) (sym same) ∙ n.4,
              below_there j.0 o.0 o.1,
            )

        by : (j.0 ≡ length old.links) ⊎ ((j.0 < length old.links) ⊎ (length old.links < j.0)) → (o : Link) × Contains old.links o × (o.above ≡ l.above) × (o.below ≡ l.below) × (is_extra_node l.tree ≡ is_extra_node o.tree) × (o.below < length old.heads)
        by (inl e) = absurd (late (omega (arith, e)))
        by (inr (inl lt)) = here lt
        by (inr (inr m)) = absurd (late (omega (arith, m)))

    -- each way down from such a head was there
    way_back : (way : List Link) (h b : ℕ) → h < length old.heads → IsWay new.links h way b → (others : List Link) × IsWay old.links h others b × AreLike others way
    way_back [] h b low w = ([], w, tt)
    way_back (l ∷ way) h b low w =
        let o = was_there l w.0 (let e = w.1 in omega (arith, e, low)) in
        let r = way_back way l.below b (let f = o.5 in let e = o.3 in omega (arith, f, e)) w.2 in
        (o.0 ∷ r.0, (o.1, o.2 ∙ w.1, subst (λ (x : ℕ). IsWay old.links x r.0 b) (sym o.3) r.1), (o.4, r.2))

    -- ---- reductions

    takes_forth : (h n b : ℕ) (way : List Link) → TakesFilled old.links h n way b → (others : List Link) × TakesFilled new.links h n others b
    takes_forth h n b way t =
        let w = way_forth way h b t.way in
        (w.0, record { way = w.1; filled = fill_like way w.0 w.2 ∙ t.filled; ends = last_like way w.0 w.2 t.ends })

    takes_back : (h n b : ℕ) (way : List Link) → h < length old.heads → TakesFilled new.links h n way b → (others : List Link) × TakesFilled old.links h n others b
    takes_back h n b way low t =
        let w = way_back way h b low t.way in
        (w.0, record { way = w.1; filled = sym (fill_like w.0 way w.2) ∙ t.filled; ends = last_unlike w.0 way w.2 t.ends })
      where
        turned : (way others : List Link) → AreLike way others → AreLike others way
        turned [] [] like = tt
        turned [] (m ∷ others) like = absurd like
        turned (l ∷ way) [] like = absurd like
        turned (l ∷ way) (m ∷ others) like = (sym like.0, turned way others like.1)

        last_unlike : (way others : List Link) → AreLike way others → EndsFilled (way_trees others) → EndsFilled (way_trees way)
        last_unlike way others like ends = last_like others way (turned way others like) ends

    -- the same keys of reductions are sought at a head that was there
    module _ (t : ParseTable) (seek : Seek) (top : Top) (number : ℕ) (head : Head) (at : slice_get old.heads top.head ≡ Some head) where
      low : top.head < length old.heads
      low = slice_get_within old.heads top.head head at

      -- where a way from there ends
      end_low : (way : List Link) (h b : ℕ) → h < length old.heads → IsWay old.links h way b → b < length old.heads
      end_low [] h b low w = omega (arith, w, low)
      end_low (l ∷ way) h b low w = let j = at_contained old.links l w.0 in end_low way l.below b (below_there j.0 l j.1) w.2

      same_place : (b : ℕ) → b < length old.heads → place_at new.heads b ≡ place_at old.heads b
      same_place b there =
          let r = read_at old.heads b there in
          place_is_at new.heads b r.0 (keep b r.0 r.1) ∙ sym (place_is_at old.heads b r.0 r.1)

      pub sought_stays : (k : Batch) → IsSought t new seek (ByNumber top number) k ↔ IsSought t old seek (ByNumber top number) k
      sought_stays k = (back, forth)
        where
          own : (g : GraphView) (s : IsSought t g seek (ByNumber top number) k) → IsAsked t g k top number s.way s.b
          own g s = subst (λ (m : ℕ). IsAsked t g k top m s.way s.b) s.means.1 (subst (λ (y : Top). IsAsked t g k y s.number s.way s.b) s.means.0 s.asked)

          back : IsSought t new seek (ByNumber top number) k → IsSought t old seek (ByNumber top number) k
          back s =
              let a = own new s in
              let w = takes_back top.head (length a.production.steps) s.b s.way low a.takes in
              let e = (reduction_stays t top number head at).0 (record { head = a.head; at = a.at; acts = a.acts }) in
              record {
                top = top;
                number = number;
                way = w.0;
                b = s.b;
                means = (refl, refl);
                asked = record {
                  head = e.head;
                  at = e.at;
                  acts = e.acts;
                  left = a.left;
                  production = a.production;
                  is = a.is;
                  ranked = a.ranked;
                  takes = w.1;
                  begins = sym (same_place s.b (end_low w.0 top.head s.b low w.1.way)) ∙ a.begins;
                };
                look_is = s.look_is;
                after = s.after;
              }

          forth : IsSought t old seek (ByNumber top number) k → IsSought t new seek (ByNumber top number) k
          forth s =
              let a = own old s in
              let w = takes_forth top.head (length a.production.steps) s.b s.way a.takes in
              record {
                top = top;
                number = number;
                way = w.0;
                b = s.b;
                means = (refl, refl);
                asked = record {
                  head = a.head;
                  at = keep top.head a.head a.at;
                  acts = a.acts;
                  left = a.left;
                  production = a.production;
                  is = a.is;
                  ranked = a.ranked;
                  takes = w.1;
                  begins = same_place s.b (end_low s.way top.head s.b low a.takes.way) ∙ a.begins;
                };
                look_is = s.look_is;
                after = s.after;
              }
