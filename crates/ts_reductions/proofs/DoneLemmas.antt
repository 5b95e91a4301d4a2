-- All reductions of a key are done where what they make is laid.
use Rattle.std.proofs.Common.{◌≡◌, ◌∙◌, sym, ap, refl, subst, ℕ, ◌+◌, ◌<◌, ◌≤◌, ◌⊎◌, inl, inr, ⊎_elim, List, [], ◌∷◌, ◌++◌, length, map, reverse, slice_get, Option, Some, None, arith}
use Rattle.std.specs.List.{Contains, flat_map}
use Rattle.std.proofs.lemmas.List.{reverse-append, reverse-reverse, length-reverse}
use Rattle.ts_base.specs.Bytes.{Bytes}
use Rattle.ts_core.specs.declared.action.Action.TheVariants.{Reduce}
use Rattle.ts_core.specs.declared.flat.Production.{Production}
use Rattle.ts_core.specs.declared.symbol.Symbol.{Symbol}
use Rattle.spec_trees.specs.declared.tree.Tree.{Tree}
use Rattle.spec_trees.specs.Trees.{span_of, all_spans, bare}
use Rattle.spec_trees.specs.Made.{form_of, reduced, filling, BeginsFilled, EndsFilled, most_depth}
use Rattle.spec_runs.specs.Configurations.{AreExtras}
use Rattle.spec_graph.specs.declared.graph.Head.{Head}
use Rattle.spec_graph.specs.declared.graph.Link.{Link}
use Rattle.spec_graph.specs.States.{LeadsTo, at_first, by_goto}
use Rattle.spec_graph.specs.Laying.{Parsing, PassesAt, node_made, Taken, some, nothing, CanMakeNode, extra_tree}
use Rattle.spec_graph.specs.Replacing.{Replaces, depth_over}
use Rattle.spec_graph.specs.Keys.{Key, Earlier, LaysBefore}
use Rattle.spec_graph.specs.Links.{IsAt, IsWay, way_trees, depths_of, HasLink, IsDue, way_depth, AreDone, AreAdded}
use Rattle.ts_graph.specs.declared.view.GraphView.{GraphView}
use Rattle.ts_graph.specs.Down.{place_at}
use Rattle.ts_graph.specs.Ways.{TakesFilled}
use Rattle.ts_table.specs.declared.view.ParseTable.{ParseTable}
use Rattle.ts_table.specs.Tables.{goto_of, actions_of, IsTable}
use Rattle.ts_table.specs.Ranks.{unit_rank}
use Rattle.ts_steps.specs.MoveLaws.{Laws}
use Rattle.ts_reductions.specs.Laws.{ReductionLaws, NodeLaws}
use Rattle.ts_reductions.specs.Good.{IsGoodTree, AreGoodTrees}
use Rattle.ts_reductions.specs.declared.batch.Batch.{Batch}
use Rattle.ts_reductions.specs.declared.made.Made.{Made}
use Rattle.ts_reductions.specs.declared.setting.Setting.{Setting}
use Rattle.ts_reductions.specs.declared.top.Top.{Top}
use Rattle.ts_reductions.specs.SoundLinks.{CanBeParsed, bare_links}
use Rattle.ts_reductions.specs.Sound.{Base, parsing_from}
use Rattle.ts_reductions.specs.Laying.{head_at, HasPassed, IsNewHead, CanLayMade, CanLayAll, placed, trees_of, end_of, HasNode, AreAllLaid}
use Rattle.ts_reductions.specs.Asking.{inner_of, outer_of, children_on, key_of, IsAsked, IsReady, IsMadeFor, AreMade, SomeAreDeep, ByTops}
use Rattle.ts_reductions.specs.Keeping.{KeepsTrees}
use Rattle.ts_reductions.specs.Reducing.{IsDeepAt, AreReduced}
use Rattle.ts_reductions.proofs.SmallLemmas.{first_or_later, contained_flat, good_in, member_bare, place_is_at, filling_extras, spans_turned, lead_once, same_place, share_head, at_shared}
use Rattle.ts_reductions.proofs.FactLemmas.{grows_grown}
use Rattle.ts_reductions.proofs.WayLemmas.{parts_only, trees_append, trees_bare, depths_bare, map_turned, way_join, way_spans, extras_bare, begins_bare, bare_filling}
use Rattle.ts_reductions.proofs.AskLemmas.{stays_reduce, due}
use Rattle.ts_reductions.proofs.AskLemmas as ask
use Rattle.ts_reductions.proofs.AddLemmas.{ready_at}
use Rattle.ts_reductions.proofs.FitLemmas.{can_lay, ends_at, good_extras}
use Rattle.ts_reductions.proofs.KeepLemmas.{IsKept, placed_in, keeps_from, node_kept, extras_kept}

-- ---- ways of links that are not bare

pub record Lifted (links : List Link) (h b : ℕ) (way : List Link) : Type 0 where
  pub own : List Link
  pub is : IsWay links h own b
  pub bared : bare_links own ≡ way

pub lift : (links : List Link) (way : List Link) (h b : ℕ) → IsWay (bare_links links) h way b → Lifted links h b way
lift links [] h b w = record { own = []; is = w; bared = refl }
lift links (n ∷ way) h b w =
    let m = member_bare links n w.0 in
    let r = lift links way n.below b w.2 in
    record {
      own = m.0 ∷ r.own;
      is = (m.1, ap (λ (l : Link). l.above) m.2 ∙ w.1, subst (λ (x : ℕ). IsWay links x r.own b) (sym (ap (λ (l : Link). l.below) m.2)) r.is);
      bared = ap (λ (l : Link). l ∷ bare_links r.own) m.2 ∙ ap (λ (ls : List Link). n ∷ ls) r.bared;
    }

begins_ends : (ts : List Tree) → BeginsFilled (reverse ts) → EndsFilled ts
begins_ends ts begins before last e = subst BeginsFilled (ap (λ (l : List Tree). reverse l) e ∙ reverse-append before (last ∷ [])) begins

ends_before : (xs ys : List Tree) → 0 < length ys → EndsFilled ys → EndsFilled (xs ++ ys)
ends_before xs ys some_ys ends = begins_ends (xs ++ ys) (subst BeginsFilled (sym (reverse-append xs ys)) (front (reverse ys) (let n = length-reverse ys in omega (arith, n, some_ys)) (turned ys ends)))
  where
    turned : (ts : List Tree) → EndsFilled ts → BeginsFilled (reverse ts)
    turned ts ends = by (reverse ts) refl
      where
        by : (us : List Tree) → reverse ts ≡ us → BeginsFilled us
        by [] e = tt
        by (u ∷ us) e = ends (reverse us) u (sym (reverse-reverse ts) ∙ ap (λ (l : List Tree). reverse l) e ∙ reverse-append (u ∷ []) us)

    front : (us : List Tree) → 0 < length us → BeginsFilled us → BeginsFilled (us ++ reverse xs)
    front [] lt b = absurd (omega (arith, lt))
    front (u ∷ us) lt b = b

-- ---- each reduction that is due is asked for

module _ (laws : ReductionLaws) (nodes : NodeLaws) (t : ParseTable) (table : IsTable t) (text : Bytes) (base : Base) (s : Setting) (g : GraphView) (k : Batch) (tops : List Top) (ready : IsReady t text base s g k tops) where
  abbrev P : Parsing
  P = parsing_from t text base

  parsed : CanBeParsed P
  parsed = ready.sound.laid.parsed

  -- one that would be too deep
  pub deep_at : SomeAreDeep t g k (ByTops tops) → IsDeepAt t text base g (key_of k)
  deep_at d =
      let r = ready_at t text base s g k tops ready d.top d.means in
      let a = d.deep.asked in
      record {
        number = d.number;
        left = a.left;
        production = a.production;
        top = d.top.head;
        middle = ask.e laws t table text s g k d.top d.number d.way d.b r a;
        bottom = d.b;
        outer = bare_links (outer_of d.way);
        inner = bare_links (inner_of d.way);
        over = ask.over laws t table text s g k d.top d.number d.way d.b r a;
        now = ask.now laws t table text s g k d.top d.number d.way d.b r a;
        end = ask.end laws t table text s g k d.top d.number d.way d.b r a;
        due = due laws t table text s g k d.top d.number d.way d.b r a;
        deep = let x = ap (λ (ds : List ℕ). depth_over (form_of t.grammar a.left d.number) (reverse ds)) (depths_bare (inner_of d.way)) in let y = d.deep.deep in omega (arith, x, y);
      }

  module _ (number left : ℕ) (p : Production) (h e b : ℕ) (outer inner : List Link) (over now : List ℕ) (end : ℕ) (d : IsDue P (unit_rank t.grammar) g.heads (bare_links g.links) (key_of k) number left p h e b outer inner over now end) where
    pub seen_top : (top : Top) × Contains tops top × (top.head ≡ h) × (top.token ≡ d.reduces.symbol)
    seen_top = ready.seen.all h over d.reduces.symbol d.reduces.pad d.reduces.size d.top d.reduces.sees

    abbrev top : Top
    top = seen_top.0

    pub high : Lifted g.links h e outer
    high = lift g.links outer h e d.lifted

    pub low : Lifted g.links e b inner
    low = lift g.links inner e b d.taken_off

    abbrev way : List Link
    way = high.own ++ low.own

    outer_trees : way_trees outer ≡ map bare (way_trees high.own)
    outer_trees = ap way_trees (sym high.bared) ∙ trees_bare high.own

    inner_trees : way_trees inner ≡ map bare (way_trees low.own)
    inner_trees = ap way_trees (sym low.bared) ∙ trees_bare low.own

    high_extras : AreExtras (way_trees high.own)
    high_extras = extras_bare laws.keeps (way_trees high.own) (subst AreExtras outer_trees d.all_extras)

    -- the head, by its number
    top_at : slice_get g.heads top.head ≡ Some d.top.head
    top_at = ap (λ (n : ℕ). slice_get g.heads n) seen_top.2 ∙ d.top.is

    acts : Contains (actions_of t d.top.head.state top.token.0) (Reduce number)
    acts = subst (λ (x : Symbol). Contains (actions_of t d.top.head.state x.0) (Reduce number)) (sym seen_top.3)
        (stays_reduce t table over d.top.head.state d.reduces.symbol.0 number d.top.state d.reduces.stays)

    pub record Ends : Type 0 where
      pub some_own : 0 < length (way_trees low.own)
      pub begins : BeginsFilled (way_trees low.own)
      pub ends : EndsFilled (way_trees low.own)

    same_steps : p.steps ≡ [] → ⊥
    same_steps none = ready.takes_some top seen_top.1 d.top.head number left p top_at acts d.reduces.at none

    low_parts : Ends
    low_parts = by d.taken
      where
        count_is : length (filling (way_trees inner)) ≡ length p.steps
        count_is = d.count

        no_steps : way_trees inner ≡ [] → ⊥
        no_steps none = same_steps (steps_none p.steps (let c = count_is in let z = ap (λ (ts : List Tree). length (filling ts)) none in omega (arith, c, z)))
          where
            steps_none : {X : Type 0} (xs : List X) → length xs ≡ 0 → xs ≡ []
            steps_none [] e = refl
            steps_none (x ∷ xs) e = absurd (omega (arith, e))

        turned_none : reverse (way_trees inner) ≡ [] → way_trees inner ≡ []
        turned_none none = sym (reverse-reverse (way_trees inner)) ∙ ap (λ (ts : List Tree). reverse ts) none

        long : (ts : List Tree) → (ts ≡ [] → ⊥) → 0 < length ts
        long [] n = absurd (n refl)
        long (x ∷ ts) n = omega arith

        by : Taken (reverse (way_trees inner)) [] now k.begins → Ends
        by (nothing none low_is read place) = absurd (no_steps (turned_none none))
        by (some lt first last) = record {
          some_own = long (way_trees low.own) (λ none. no_steps (inner_trees ∙ ap (λ (ts : List Tree). map bare ts) none));
          begins = begins_bare laws.keeps (way_trees low.own) (subst BeginsFilled (reverse-reverse (way_trees inner) ∙ inner_trees) last);
          ends = begins_ends (way_trees low.own) (begins_bare laws.keeps (reverse (way_trees low.own))
              (subst BeginsFilled (ap (λ (ts : List Tree). reverse ts) inner_trees ∙ sym (map_turned bare (way_trees low.own))) first));
        }

    two : (outer_of way ≡ high.own) × (inner_of way ≡ low.own)
    two = parts_only high.own low.own high_extras low_parts.begins

    filled_way : length (filling (way_trees way)) ≡ length p.steps
    filled_way =
        ap (λ (ts : List Tree). length (filling ts)) (trees_append high.own low.own)
        ∙ ap (λ (l : List ℕ). length l) (filling_extras (way_trees high.own) (way_trees low.own) high_extras ∙ sym (bare_filling laws.keeps (way_trees low.own)) ∙ ap filling (sym inner_trees))
        ∙ d.count

    takes : TakesFilled g.links top.head (length p.steps) way b
    takes = record {
      way = subst (λ (n : ℕ). IsWay g.links n way b) (sym seen_top.2) (way_join g.links high.own low.own h e b high.is low.is);
      filled = filled_way;
      ends = subst EndsFilled (sym (trees_append high.own low.own)) (ends_before (way_trees high.own) (way_trees low.own) low_parts.some_own low_parts.ends);
    }

    begins_at : place_at g.heads b ≡ k.begins
    begins_at = place_is_at g.heads b d.bottom.head d.bottom.is ∙ d.bottom.place_is

    pub asked : IsAsked t g k top number way b
    asked = record {
      head = d.top.head;
      at = top_at;
      acts = acts;
      left = left;
      production = p;
      is = d.reduces.at;
      ranked = sym d.ranked;
      takes = takes;
      begins = begins_at;
    }

    -- ---- what is made for it, is laid

    module _ (new : GraphView) (m : Made) (made : IsMadeFor t (length text) g k top number way b m) (n : HasNode new m) (stay : place_at new.heads m.below ≡ place_at g.heads m.below) where
      same_left : made.asked.left ≡ left
      same_left =
          let f : ◌≡◌ {A = Option (ℕ × Production)} (Some (made.asked.left, made.asked.production)) (Some (left, p)) = sym made.asked.is ∙ d.reduces.at in
          let both : ◌≡◌ {A = ℕ × Production} (made.asked.left, made.asked.production) (left, p) = cc in
          ap (λ (x : ℕ × Production). x.0) both

      depth_is : way_depth P number left inner ≡ m.piece.depth
      depth_is =
          ap (λ (ls : List Link). depth_over (form_of t.grammar left number) (reverse (depths_of ls))) (sym low.bared)
          ∙ ap (λ (ds : List ℕ). depth_over (form_of t.grammar left number) (reverse ds)) (depths_bare low.own)
          ∙ ap (λ (ls : List Link). depth_over (form_of t.grammar left number) (reverse (depths_of ls))) (sym two.1)
          ∙ ap (λ (l : ℕ). depth_over (form_of t.grammar l number) (reverse (depths_of (inner_of way)))) (sym same_left)
          ∙ sym made.depth_is

      node_bare : bare m.piece.node ≡ node_made P number (reverse (way_trees inner))
      node_bare =
          ap bare made.node_is
          ∙ laws.reduced_bare t.grammar number made.extent None (children_on way)
          ∙ ap (λ (ts : List Tree). bare (reduced t.grammar number 0 None ts))
          (map_turned bare (way_trees (inner_of way)) ∙ ap (λ (ls : List Link). reverse (map bare (way_trees ls))) two.1 ∙ ap (λ (ts : List Tree). reverse ts) (sym inner_trees))

      same_under : d.bottom.head ≡ made.under
      same_under = let f : Some d.bottom.head ≡ Some made.under = sym d.bottom.is ∙ made.under_is in cc

      leads : LeadsTo (goto_of t) (left ∷ now) m.piece.state
      leads = by_goto now made.under.state left m.piece.state (subst (λ (x : Head). LeadsTo (goto_of t) now x.state) same_under d.bottom.state) (subst (λ (l : ℕ). goto_of t made.under.state l ≡ Some m.piece.state) same_left made.leads)

      end_is : place_at new.heads m.below + span_of m.piece.node ≡ end
      end_is =
          let low_place = ap (place_at g.heads) made.below_is in
          let spans = way_spans P g.heads g.links ready.sound.laid.held low.own e b low.is in
          let turned = ap (λ (ls : List Link). all_spans (reverse (way_trees ls))) two.1 in
          let back = spans_turned (way_trees low.own) in
          let high_place = place_is_at g.heads e d.middle.head d.middle.is ∙ d.middle.place_is in
          omega (arith, stay, low_place, spans, turned, back, high_place, made.spans)

      pub done_so : (way_depth P number left inner ≤ most_depth)
          × (l : Link) × Contains (bare_links new.links) l × (l.below ≡ b) × IsAt P new.heads l.above (left ∷ now) end
          × Replaces l.tree (node_made P number (reverse (way_trees inner)))
          × (way_depth P number left inner ≤ l.depth)
      done_so = (
        omega (arith, depth_is, made.shallow),
        n.has.link,
        n.has.there,
        n.has.below_is ∙ made.below_is,
        subst (λ (x : ℕ). IsAt P new.heads x (left ∷ now) end) (sym n.has.above_is) (record { head = head_at m.piece.state (place_at new.heads m.below + span_of m.piece.node); is = n.at; state = leads; place_is = end_is }),
        subst (λ (x : Tree). Replaces n.has.link.tree x) node_bare n.has.replaces,
        (let x = n.has.no_less in omega (arith, depth_is, x)),
      )

  -- ---- all of them

  module _ (mades : List Made) (all_made : AreMade t (length text) g k (ByTops tops) mades) where
    pub each_can : (m : Made) → Contains mades m → CanLayMade P g m
    each_can m there =
        let r = all_made.each m there in
        can_lay laws nodes t table text s g k r.0 r.1 r.2 r.3 (ready_at t text base s g k tops ready r.0 r.4) m r.5

    pub each_ends : (m : Made) → Contains mades m → end_of g m ≡ k.look
    each_ends m there =
        let r = all_made.each m there in
        ends_at laws nodes t table text s g k r.0 r.1 r.2 r.3 (ready_at t text base s g k tops ready r.0 r.4) m r.5

    pub can_all : CanLayAll P g k.look mades
    can_all = record { sound = ready.sound.laid; each = each_can; ends = each_ends }

    module _ (new : GraphView) (laid : AreAllLaid P g new k.look mades) where
      place_stays : (m : Made) → Contains mades m → place_at new.heads m.below ≡ place_at g.heads m.below
      place_stays m there =
          let c = each_can m there in
          place_is_at new.heads m.below c.at.head (laid.grows.stay m.below c.at.head c.at.is) ∙ sym (place_is_at g.heads m.below c.at.head c.at.is)

      all_done : AreDone P (unit_rank t.grammar) g.heads (bare_links g.links) new.heads (bare_links new.links) (key_of k)
      all_done number left p h e b outer inner over now end d =
          let a = asked number left p h e b outer inner over now end d in
          let top = (seen_top number left p h e b outer inner over now end d).0 in
          let there = (seen_top number left p h e b outer inner over now end d).1 in
          let r = all_made.all top number (way number left p h e b outer inner over now end d) b there a in
          done_so number left p h e b outer inner over now end d new r.0 r.2 (laid.each r.0 r.1) (place_stays r.0 r.1)

      -- ---- new heads

      module _ (m : Key) (same_look : m.look ≡ k.look) where
        not_empty : (read : List ℕ) (head : Head) → LeadsTo (goto_of t) read head.state → (head.state ≡ 0 → ⊥) → read ≡ [] → ⊥
        not_empty read head leads none empty =
            none (lead_once (goto_of t) [] head.state 0 (subst (λ (r : List ℕ). LeadsTo (goto_of t) r head.state) empty leads) at_first)

        abbrev Little : ℕ → List ℕ → ℕ → Type 0
        Little b read from = ((u : Tree) (place : ℕ) (now : List ℕ)
            → LaysBefore P (unit_rank t.grammar) m read from (u ∷ []) place now → HasLink P new.heads (bare_links new.links) b u place now)
            × ((children : List Tree) (end : ℕ) (over : List ℕ) (extras : List Tree)
            (look number left : ℕ) (p : Production)
            → CanMakeNode P read from children end over extras look number left p
            → Earlier (record { look = look; begins = from; rank = unit_rank t.grammar left }) m → ⊥)

        at_the_place : (b : ℕ) (read : List ℕ) (from : ℕ) → (read ≡ [] → ⊥) → m.look ≤ from → Little b read from
        at_the_place b read from full late =
            let early = ready.late in (
              (λ u place now l. absurd (laws.late P parsed.fit parsed.states parsed.grounded (unit_rank t.grammar) m read from (omega (arith, early, same_look, late)) full late place now u l)),
              (λ ks end over xs look number left p c earlier. laws.late_nodes P parsed.fit parsed.states parsed.grounded (unit_rank t.grammar) m read from (omega (arith, early, same_look, late)) full late ks end over xs look number left p c earlier),
            )

        -- an extra that is passed there
        where_passed : (b : ℕ) (read : List ℕ) (from : ℕ) → (read ≡ [] → ⊥) → IsAt P new.heads b read from → HasPassed P new b → Little b read from
        where_passed b read from full at p = (
          (λ u place now l.
              let x = laws.extra P parsed.fit parsed.states parsed.grounded (unit_rank t.grammar) m read from p.symbol p.pad p.size late full passes place now u l in
              subst (λ (v : Tree). HasLink P new.heads (bare_links new.links) b v place now) (sym x.0)
              (subst (λ (n : ℕ). HasLink P new.heads (bare_links new.links) b (extra_tree p.symbol p.pad p.size) n now) (sym x.1)
              (subst (λ (r : List ℕ). HasLink P new.heads (bare_links new.links) b (extra_tree p.symbol p.pad p.size) (from + (p.pad + p.size)) r) (sym x.2) link))),
          (λ ks end over xs look number left q c earlier.
              laws.none_behind P parsed.fit parsed.states parsed.grounded read from p.symbol p.pad p.size late full passes ks end over xs look number left q c),
        )
          where
            place_same : p.from ≡ from
            place_same = same_place P new.heads b p.read read p.from from p.at at

            late : base.place ≤ from
            late = let h = p.late in let e = place_same in omega (arith, h, e)

            passes : PassesAt P read from p.symbol p.pad p.size
            passes = subst (λ (n : ℕ). PassesAt P read n p.symbol p.pad p.size) place_same (laws.shared P parsed.fit parsed.states p.read read p.from p.symbol p.pad p.size (share_head P new.heads b p.read read p.from from p.at at) p.passes)

            -- the link's upper head, by the other list
            link : HasLink P new.heads (bare_links new.links) b (extra_tree p.symbol p.pad p.size) (from + (p.pad + p.size)) read
            link = record {
              link = p.link.link;
              there = p.link.there;
              below = p.link.below;
              above = at_shared P new.heads p.link.link.above p.read read (p.from + (p.pad + p.size)) (from + (p.pad + p.size)) (ap (λ (n : ℕ). n + (p.pad + p.size)) place_same)
                  (share_head P new.heads b p.read read p.from from p.at at) p.link.above;
              stands = p.link.stands;
            }

        added : AreAdded P (unit_rank t.grammar) g.heads new.heads (bare_links new.links) m
        added = record { each = λ b read from at. by b read from at (laid.only b at.head at.is) }
          where
            by : (b : ℕ) (read : List ℕ) (from : ℕ) → (at : IsAt P new.heads b read from) → (slice_get g.heads b ≡ Some at.head) ⊎ IsNewHead P new k.look b at.head → IsAt P g.heads b read from ⊎ Little b read from
            by b read from at (inl o) = inl (record { head = at.head; is = o; state = at.state; place_is = at.place_is })
            by b read from at (inr n) = inr (⊎_elim
                (λ e. at_the_place b read from (not_empty read at.head at.state n.0) (let f = at.place_is in omega (arith, e, f, same_look)))
                (λ p. where_passed b read from (not_empty read at.head at.state n.0) at p) n.1)

      abbrev extras_placed : Made → List (ℕ × Tree)
      extras_placed m = placed (place_at g.heads m.below + span_of m.piece.node) m.extras

      each_good : (p : ℕ × Tree) → Contains (flat_map (trees_of g) mades) p → IsGoodTree t.grammar p.1
      each_good p there =
          let f = contained_flat (trees_of g) mades p there in
          let r = all_made.each f.0 f.1 in
          by f.0 r.5 (good_extras laws nodes t table text s g k r.0 r.1 r.2 r.3 (ready_at t text base s g k tops ready r.0 r.4) f.0 r.5) (first_or_later {X = ℕ × Tree} (place_at g.heads f.0.below, f.0.piece.node) (extras_placed f.0) p f.2)
        where
          by : {top : Top} {number : ℕ} {way : List Link} {b : ℕ} (m : Made) → IsMadeFor t (length text) g k top number way b m → AreGoodTrees t.grammar m.extras → (◌≡◌ {A = ℕ × Tree} (place_at g.heads m.below, m.piece.node) p) ⊎ Contains (extras_placed m) p → IsGoodTree t.grammar p.1
          by m made goods (inl e) = subst (λ (x : Tree). IsGoodTree t.grammar x) (ap (λ (x : ℕ × Tree). x.1) e) made.good
          by m made goods (inr h) = good_in t.grammar m.extras p.1 goods (placed_in (place_at g.heads m.below + span_of m.piece.node) m.extras p h)

      new_good : (l : Link) → Contains new.links l → IsGoodTree t.grammar l.tree
      new_good l there = ⊎_elim (λ h. each_good (place_at new.heads l.below, l.tree) h) (λ w. subst (λ (x : Tree). IsGoodTree t.grammar x) (sym w.4) (ready.sound.good w.0 w.1)) (laid.trees l there)

      module _ (moves : Laws) where
        each_kept : (p : ℕ × Tree) → Contains (flat_map (trees_of g) mades) p → IsKept t.grammar text base g p.0 p.1
        each_kept p there =
            let f = contained_flat (trees_of g) mades p there in
            let r = all_made.each f.0 f.1 in
            let at = ready_at t text base s g k tops ready r.0 r.4 in
            by f.0 (node_kept laws nodes moves t table text s g k r.0 r.1 r.2 r.3 at f.0 r.5) (extras_kept laws nodes moves t table text s g k r.0 r.1 r.2 r.3 at f.0 r.5 (late f.0 f.1))
            (first_or_later {X = ℕ × Tree} (place_at g.heads f.0.below, f.0.piece.node) (extras_placed f.0) p f.2)
          where
            late : (m : Made) → Contains mades m → base.place ≤ place_at g.heads m.below + span_of m.piece.node
            late m is =
                let c = each_can m is in
                let e = place_is_at g.heads m.below c.at.head c.at.is ∙ c.at.place_is in
                let x = c.late in
                omega (arith, e, x)

            by : (m : Made) → IsKept t.grammar text base g (place_at g.heads m.below) m.piece.node → ((q : ℕ × Tree) → Contains (extras_placed m) q → IsKept t.grammar text base g q.0 q.1) → (◌≡◌ {A = ℕ × Tree} (place_at g.heads m.below, m.piece.node) p) ⊎ Contains (extras_placed m) p
                → IsKept t.grammar text base g p.0 p.1
            by m node extras (inl e) = subst (λ (x : ℕ × Tree). IsKept t.grammar text base g x.0 x.1) e node
            by m node extras (inr h) = extras p h

        pub trees_kept : KeepsTrees t.grammar text base g new
        trees_kept = keeps_from t text base g new ready.sound.laid laid.grows.stay (flat_map (trees_of g) mades) laid.trees each_kept

      pub reduced_all : Laws → AreReduced t text base g new (key_of k)
      reduced_all moves = record {
        sound = record { laid = laid.sound; good = new_good };
        grows = laid.grows;
        keeps = trees_kept moves;
        done = all_done;
        grown = grows_grown laws P g new laid.grows;
        only = laid.only;
        added = added;
      }
