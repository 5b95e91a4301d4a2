-- The only way down from a head, link by link.
use Rattle.std.proofs.Common.{◌≡◌, ◌∙◌, sym, ap, refl, subst, ℕ, zero, suc, ◌<◌, ◌≤◌, Bool, true, false, nat_lt, List, [], ◌∷◌, ◌++◌, append-nil, append_assoc, length, map, slice_get, Some, None, arith}
use Rattle.std.specs.List.{Contains}
use Rattle.std.proofs.lemmas.Bool.{ltb-true, ltb-false}
use Rattle.std.proofs.lemmas.List.{map-append}
use Rattle.spec_trees.specs.declared.tree.Tree.{Tree}
use Rattle.spec_trees.specs.declared.tree.Element.{Element}
use Rattle.spec_trees.specs.Trees.{production_of, elements_of, is_extra_node, bare_element, bare}
use Rattle.spec_runs.specs.BareTrees.{KeepsAll}
use Rattle.spec_graph.specs.declared.graph.Head.{Head}
use Rattle.spec_graph.specs.declared.graph.Link.{Link}
use Rattle.spec_graph.specs.Laying.{Parsing}
use Rattle.spec_graph.specs.Links.{IsWay}
use Rattle.spec_crossing.specs.Leaving.{IsOneWay, EndsWithToken}
use Rattle.ts_graph.specs.declared.view.GraphView.{GraphView}
use Rattle.ts_graph.specs.Down.{HoldsEachOnce, place_at}
use Rattle.ts_graph.specs.Ways.{AreAt}
use Rattle.ts_graph.specs.Under.{LiesOver}
use Rattle.ts_reductions.specs.SoundLinks.{bare_link, bare_links, IsSoundFor}
use Rattle.ts_crossing.proofs.MemberLemmas.{contained_at, at_contained, bare_member, member_bare, place_is_at}
use Rattle.ts_crossing.specs.Leaving.{IsStack, HasNoStack, IsOnlyDown, IsLastToken, LeadsDown, StartsWith}

none_bared : (es : List Element) → map bare_element es ≡ [] → es ≡ []
none_bared [] e = refl
none_bared (x ∷ es) e = absurd (let h : bare_element x ∷ map bare_element es ≡ [] = e in cc)

way_more : (links : List Link) (h b c : ℕ) (way : List Link) (l : Link) → IsWay links h way b → Contains links l → l.above ≡ b → l.below ≡ c → IsWay links h (way ++ l ∷ []) c
way_more links h b c [] l is there above below = (there, above ∙ sym is, below)
way_more links h b c (x ∷ way) l is there above below = (is.0, is.1, way_more links x.below b c way l is.2 there above below)

pub way_join : (links : List Link) (h b c : ℕ) (way more : List Link) → IsWay links h way b → IsWay links b more c → IsWay links h (way ++ more) c
way_join links h b c [] more is on = subst (λ (n : ℕ). IsWay links n more c) (sym is) on
way_join links h b c (x ∷ way) more is on = (is.0, is.1, way_join links x.below b c way more is.2 on)

at_more : (links : List Link) (numbers : List ℕ) (way : List Link) (k : ℕ) (l : Link) → AreAt links numbers way → slice_get links k ≡ Some l → AreAt links (numbers ++ k ∷ []) (way ++ l ∷ [])
at_more links [] [] k l a e = (e, tt)
at_more links [] (x ∷ way) k l a e = absurd a
at_more links (n ∷ numbers) [] k l a e = absurd a
at_more links (n ∷ numbers) (x ∷ way) k l a e = (a.0, at_more links numbers way k l a.1 e)

same_rest : (xs : List Link) (a b : Link) (ys zs : List Link) → xs ++ a ∷ ys ≡ xs ++ b ∷ zs → a ≡ b
same_rest [] a b ys zs e = cc
same_rest (x ∷ xs) a b ys zs e = same_rest xs a b ys zs (let h : x ∷ (xs ++ a ∷ ys) ≡ x ∷ (xs ++ b ∷ zs) = e in let t : xs ++ a ∷ ys ≡ xs ++ b ∷ zs = cc in t)

-- the head below a link
module _ (heads : List Head) (links : List Link) (once : HoldsEachOnce heads links) (k : ℕ) (l : Link) (at : slice_get links k ≡ Some l) (below : ℕ) (is : below ≡ l.below) where
  pub below_low : below < length heads
  below_low = let w = once.below_there k l at in omega (arith, w, is)

  pub below_falls : (above : ℕ) → l.above ≡ above → place_at heads below < place_at heads above
  below_falls above up =
      let w = once.falls k l at in
      let a = ap (λ (n : ℕ). place_at heads n) is in
      let b = ap (λ (n : ℕ). place_at heads n) up in
      omega (arith, w, a, b)

module _ (keeps : (t : Tree) → KeepsAll t) (g : GraphView) (P : Parsing) (sound : IsSoundFor P g) where
  abbrev bares : List Link
  bares = bare_links g.links

  -- from the head of the empty stack no link leads down
  pub start_low : (k : ℕ) (l : Link) → slice_get g.links k ≡ Some l → l.above ≡ 0 → ⊥
  start_low k l at above =
      let start = sound.graph.start in
      let held = sound.held l (contained_at g.links k l at) in
      let place : place_at g.heads 0 ≡ 0 = place_is_at g.heads 0 start.head start.is ∙ start.place_is in
      let here : place_at g.heads l.above ≡ 0 = ap (place_at g.heads) above ∙ place in
      let s = held.spans in
      let b = held.some in
      omega (arith, s, b, here)

  -- the number of a bare link
  record Numbered (l : Link) : Type 0 where
    pub number : ℕ
    pub link : Link
    pub at : slice_get g.links number ≡ Some link
    pub is : bare_link link ≡ l

  numbered : (l : Link) → Contains bares l → Numbered l
  numbered l there =
      let m = member_bare g.links l there in
      let k = at_contained g.links m.0 m.1 in
      record { number = k.0; link = m.0; at = k.1; is = m.2 }

  pub leads_first : (h : ℕ) → LeadsDown g.links h [] h
  leads_first h = record { way = []; at = tt; down = refl; first = λ other is. (other, refl, is) }

  module _ (h b : ℕ) (numbers : List ℕ) (leads : LeadsDown g.links h numbers b) where
    abbrev way : List Link
    way = map bare_link leads.way

    module _ (some : b ≡ 0 → ⊥) where
      pub leads_more : (k c : ℕ) → (only : IsOnlyDown g.links b k) → only.link.below ≡ c → LeadsDown g.links h (numbers ++ k ∷ []) c
      leads_more k c only below = record {
        way = leads.way ++ only.link ∷ [];
        at = at_more g.links numbers leads.way k only.link leads.at only.at;
        down = subst (λ (w : List Link). IsWay bares h w c) (sym all)
            (way_more bares h b c way (bare_link only.link) leads.down (bare_member g.links only.link (contained_at g.links k only.link only.at)) only.above below);
        first = first;
      }
        where
          all : map bare_link (leads.way ++ only.link ∷ []) ≡ way ++ bare_link only.link ∷ []
          all = map-append bare_link leads.way (only.link ∷ [])

          on : (rest : List Link) (other : List Link) → other ≡ way ++ rest → IsWay bares b rest 0 → (more : List Link) × (other ≡ map bare_link (leads.way ++ only.link ∷ []) ++ more) × IsWay bares c more 0
          on [] other is w = absurd (some w)
          on (l ∷ rest) other is w =
              let n = numbered l w.0 in
              let above : n.link.above ≡ b = ap (λ (x : Link). x.above) n.is ∙ w.1 in
              let same : n.number ≡ k = only.only n.number n.link n.at above in
              let both : Some n.link ≡ Some only.link = sym n.at ∙ ap (λ (j : ℕ). slice_get g.links j) same ∙ only.at in
              let one : n.link ≡ only.link = cc in
              let l_is : l ≡ bare_link only.link = sym n.is ∙ ap bare_link one in (
                rest,
                is ∙ ap (λ (x : Link). way ++ x ∷ rest) l_is ∙ sym (append_assoc way (bare_link only.link ∷ []) rest) ∙ ap (λ (w : List Link). w ++ rest) (sym all),
                subst (λ (m : ℕ). IsWay bares m rest 0) (ap (λ (x : Link). x.below) l_is ∙ below) w.2,
              )

          first : (other : List Link) → IsWay bares h other 0 → (more : List Link) × (other ≡ map bare_link (leads.way ++ only.link ∷ []) ++ more) × IsWay bares c more 0
          first other w = let f = leads.first other w in on f.0 other f.1 f.2

      -- where no link is the only one, no way is
      pub leads_none : HoldsEachOnce g.heads g.links → ((k : ℕ) → IsOnlyDown g.links b k → ⊥) → (other : List Link) → IsOneWay bares h other → ⊥
      leads_none once none other only = let f = leads.first other only.down in by f.0 f.1 f.2
        where
          by : (rest : List Link) → other ≡ way ++ rest → IsWay bares b rest 0 → ⊥
          by [] is w = some w
          by (l ∷ rest) is w =
              let n = numbered l w.0 in
              let above : n.link.above ≡ b = ap (λ (x : Link). x.above) n.is ∙ w.1 in
              none n.number (record { link = n.link; at = n.at; above = above; only = one n.number n.link n.at above n.is })
            where
              one : (k : ℕ) (m : Link) → slice_get g.links k ≡ Some m → m.above ≡ b → bare_link m ≡ l → (j : ℕ) (x : Link) → slice_get g.links j ≡ Some x → x.above ≡ b → j ≡ k
              one k m at up m_is j x xat xup =
                  let there : Contains bares (bare_link x) = bare_member g.links x (contained_at g.links j x xat) in
                  let low = (sound.graph.linked (bare_link x) there).below in
                  let d = sound.graph.down x.below low.head low.is in
                  let w2 : IsWay bares b (bare_link x ∷ d.0) 0 = (there, xup, d.1) in
                  let all = only.only (way ++ bare_link x ∷ d.0) (way_join bares h b 0 way (bare_link x ∷ d.0) leads.down w2) in
                  let same : bare_link x ≡ l = same_rest way (bare_link x) l d.0 rest (all ∙ is) in
                  let below : x.below ≡ m.below = ap (λ (y : Link). y.below) (same ∙ sym m_is) in
                  once.one_each j k b m.below (record { link = x; at = xat; above_is = xup; below_is = below }) (record { link = m; at = at; above_is = up; below_is = refl })

    pub leads_all : b ≡ 0 → IsOneWay bares h way
    leads_all z = record {
      down = subst (λ (n : ℕ). IsWay bares h way n) z leads.down;
      only = λ other w. let f = leads.first other w in by other f.0 f.1 f.2;
    }
      where
        by : (other rest : List Link) → other ≡ way ++ rest → IsWay bares b rest 0 → other ≡ way
        by other [] is w = is ∙ append-nil way
        by other (l ∷ rest) is w =
            let n = numbered l w.0 in
            absurd (start_low n.number n.link n.at (ap (λ (x : Link). x.above) n.is ∙ w.1 ∙ z))

  -- ---- the first of them

  pub starts_first : (h k c : ℕ) → (h ≡ 0 → ⊥) → (last : IsLastToken g.links h k) → last.down.link.below ≡ c → StartsWith g.links h k (k ∷ []) c
  starts_first h k c some last below = record {
    last = last;
    more = [];
    is = refl;
    leads = leads_more h h [] (leads_first h) some k c last.down below;
  }

  pub starts_more : (h k b : ℕ) (numbers : List ℕ) → StartsWith g.links h k numbers b → (b ≡ 0 → ⊥) → (j c : ℕ) → (only : IsOnlyDown g.links b j) → only.link.below ≡ c → StartsWith g.links h k (numbers ++ j ∷ []) c
  starts_more h k b numbers s some j c only below = record {
    last = s.last;
    more = s.more ++ j ∷ [];
    is = ap (λ (l : List ℕ). l ++ j ∷ []) s.is;
    leads = leads_more h b numbers s.leads some j c only below;
  }

  token_bare : (h k : ℕ) (last : IsLastToken g.links h k) (numbers more : List ℕ) (way : List Link) → numbers ≡ k ∷ more → AreAt g.links numbers way → EndsWithToken (map bare_link way)
  token_bare h k last numbers more [] is at = absurd (subst (λ (ns : List ℕ). AreAt g.links ns []) is at)
  token_bare h k last numbers more (l ∷ way) is at =
      let a : AreAt g.links (k ∷ more) (l ∷ way) = subst (λ (ns : List ℕ). AreAt g.links ns (l ∷ way)) is at in
      let both : Some l ≡ Some last.down.link = sym a.0 ∙ last.down.at in
      let same : l ≡ last.down.link = cc in
      let kept = keeps l.tree in
      record {
        last = bare_link l;
        rest = map bare_link way;
        way_is = refl;
        leaf = record {
          production = kept.production ∙ subst (λ (x : Link). production_of x.tree ≡ None) (sym same) last.token.leaf.production;
          elements = kept.elements ∙ ap (map bare_element) (subst (λ (x : Link). elements_of x.tree ≡ []) (sym same) last.token.leaf.elements);
        };
        fills = kept.extra ∙ ap (λ (x : Link). is_extra_node x.tree) same ∙ last.token.fills;
      }

  token_more : (way more : List Link) → EndsWithToken (map bare_link way) → EndsWithToken (map bare_link (way ++ more))
  token_more way more t = record {
    last = t.last;
    rest = t.rest ++ map bare_link more;
    way_is = map-append bare_link way more ∙ ap (λ (w : List Link). w ++ map bare_link more) t.way_is;
    leaf = t.leaf;
    fills = t.fills;
  }

  -- links go on down the stack over which the graph lies
  record GoesDown (h : ℕ) (higher : List Link) (foot : ℕ) : Type 0 where
    pub all : List ℕ
    pub leads : LeadsDown g.links h all 0
    pub lower : List Link
    pub down : IsWay g.links foot lower 0
    pub way_is : leads.way ≡ higher ++ lower

  module _ (lies : LiesOver g) where
    only_lower : (k : ℕ) → k < g.base → IsOnlyDown g.links (suc k) k
    only_lower k low =
        let l = lies.lower k low in
        record { link = l.0; at = l.1; above = l.2; only = λ j other at above. by j other at above (nat_lt j g.base) refl }
      where
        by : (j : ℕ) (other : Link) → slice_get g.links j ≡ Some other → other.above ≡ suc k → (b : Bool) → nat_lt j g.base ≡ b → j ≡ k
        by j other at above true e =
            let l = lies.lower j (ltb-true j g.base e) in
            let both : Some other ≡ Some l.0 = sym at ∙ l.1 in
            let one : other ≡ l.0 = cc in
            let up = ap (λ (x : Link). x.above) one in
            let own = l.2 in
            omega (arith, above, up, own)
        by j other at above false e =
            absurd (let past = ltb-false j g.base e in let own = lies.own j other at past in omega (arith, own, above, low))

    goes_down : (h foot : ℕ) (numbers : List ℕ) (leads : LeadsDown g.links h numbers foot) → foot ≤ g.base → GoesDown h leads.way foot
    unfolding only_lower leads_more
    goes_down h zero numbers leads low = record { all = numbers; leads = leads; lower = []; down = refl; way_is = sym (append-nil leads.way) }
    goes_down h (suc k) numbers leads low =
        let only = only_lower k low in
        let l = lies.lower k low in
        let m = leads_more h (suc k) numbers leads (λ z. omega (arith, z)) k k only l.3 in
        let r = goes_down h k (numbers ++ k ∷ []) m (omega (arith, low)) in
        record {
          all = r.all;
          leads = r.leads;
          lower = l.0 ∷ r.lower;
          down = (contained_at g.links k l.0 l.1, l.2, subst (λ (n : ℕ). IsWay g.links n r.lower 0) (sym l.3) r.down);
          way_is = r.way_is ∙ append_assoc leads.way (l.0 ∷ []) r.lower;
        }

    pub starts_all : (h k b : ℕ) (numbers : List ℕ) → StartsWith g.links h k numbers b → b ≤ g.base → IsStack g h numbers b
    starts_all h k b numbers s low =
        let d = goes_down h b numbers s.leads low in
        record {
          way = d.leads.way;
          all = d.all;
          at = d.leads.at;
          higher = s.leads.way;
          higher_at = s.leads.at;
          lower = d.lower;
          down = d.down;
          foot_low = low;
          way_is = d.way_is;
          only = leads_all h 0 d.all d.leads refl;
          token = subst (λ (w : List Link). EndsWithToken (map bare_link w)) (sym d.way_is)
              (token_more s.leads.way d.lower (token_bare h k s.last numbers s.more s.leads.way s.is s.leads.at));
        }

  pub starts_none : (h k b : ℕ) (numbers : List ℕ) → StartsWith g.links h k numbers b → (b ≡ 0 → ⊥) → HoldsEachOnce g.heads g.links → ((j : ℕ) → IsOnlyDown g.links b j → ⊥) → HasNoStack g h
  starts_none h k b numbers s some once none way only token = leads_none h b numbers s.leads some once none way only

  -- ---- none at all

  none_at_start : (h : ℕ) → h ≡ 0 → HasNoStack g h
  none_at_start h z way only token =
      let w : IsWay bares h [] 0 = z in
      let e : [] ≡ token.last ∷ token.rest = only.only [] w ∙ token.way_is in
      cc

  none_without : (h : ℕ) → (h ≡ 0 → ⊥) → HoldsEachOnce g.heads g.links → ((k : ℕ) → IsLastToken g.links h k → ⊥) → HasNoStack g h
  none_without h some once none way only token =
      leads_none h h [] (leads_first h) some once (λ k down. none k (last k down)) way only
    where
      last : (k : ℕ) → IsOnlyDown g.links h k → IsLastToken g.links h k
      last k down =
          let w : IsWay bares h (token.last ∷ token.rest) 0 = subst (λ (v : List Link). IsWay bares h v 0) token.way_is only.down in
          let n = numbered token.last w.0 in
          let above : n.link.above ≡ h = ap (λ (x : Link). x.above) n.is ∙ w.1 in
          let same : n.number ≡ k = down.only n.number n.link n.at above in
          let both : Some n.link ≡ Some down.link = sym n.at ∙ ap (λ (j : ℕ). slice_get g.links j) same ∙ down.at in
          let one : n.link ≡ down.link = cc in
          let tree : bare down.link.tree ≡ token.last.tree = ap (λ (x : Link). bare x.tree) (sym one) ∙ ap (λ (x : Link). x.tree) n.is in
          let kept = keeps down.link.tree in
          record {
            down = down;
            token = record {
              leaf = record {
                production = sym kept.production ∙ ap production_of tree ∙ token.leaf.production;
                elements = none_bared (elements_of down.link.tree) (sym kept.elements ∙ ap elements_of tree ∙ token.leaf.elements);
              };
              fills = sym kept.extra ∙ ap is_extra_node tree ∙ token.fills;
            };
          }

  pub none_from : (h : ℕ) → HoldsEachOnce g.heads g.links → ((k : ℕ) → IsLastToken g.links h k → ⊥) → HasNoStack g h
  none_from zero once none = none_at_start 0 refl
  none_from (suc h) once none = none_without (suc h) (λ z. omega (arith, z)) once none

  -- a head from which a link leads down is not that of the empty stack
  pub not_start : (h k : ℕ) → IsOnlyDown g.links h k → h ≡ 0 → ⊥
  not_start h k down z = start_low k down.link down.at (down.above ∙ z)
