-- One key after another: what is seen, what may be reduced, and how the graph has grown.
use Rattle.std.proofs.Common.{◌≡◌, ◌∙◌, sym, ap, subst, ℕ, ◌<◌, ◌≤◌, ◌⊎◌, inl, inr, ⊎_elim, Bool, true, IsTrue, List, [], ◌++◌, length, take, drop, slice_get, Option, Some, None, arith}
use Rattle.std.specs.List.{Contains}
use Rattle.std.proofs.lemmas.Bool.{cases_order}
use Rattle.std.proofs.lemmas.Option.{slice_get_within}
use Rattle.std.proofs.lemmas.List.{take-append-drop}
use Rattle.std.proofs.Math.Seq.{drop-append_seam}
use Rattle.std.proofs.lemmas.List.Elements.{Contains-append_left, Contains-append_right}
use Rattle.ts_base.specs.Bytes.{Bytes}
use Rattle.ts_core.specs.declared.action.Action.TheVariants.{Reduce}
use Rattle.spec_grammar.specs.Symbols.{symbol_count}
use Rattle.spec_graph.specs.declared.graph.Head.{Head}
use Rattle.spec_graph.specs.declared.graph.Link.{Link}
use Rattle.spec_graph.specs.States.{LeadsTo, at_first, AreRanks}
use Rattle.ts_graph.specs.declared.view.GraphView.{GraphView}
use Rattle.ts_graph.specs.Down.{KeepNumbers, HoldsEachOnce, LeadFrom}
use Rattle.ts_table.specs.declared.view.ParseTable.{ParseTable}
use Rattle.ts_table.specs.Tables.{IsTable, goto_of, actions_of}
use Rattle.ts_table.specs.Ranks.{unit_rank}
use Rattle.ts_reductions.specs.LayingLaws.{LayingLaws}
use Rattle.ts_reductions.specs.Laying.{Grows, IsNewHead}
use Rattle.ts_reductions.proofs.GrowLemmas.{grows_on}
use Rattle.ts_reductions.proofs.GrowLemmas as growing
use Rattle.ts_reductions.proofs.ClimbLemmas.{new_stays}
use Rattle.ts_reductions.specs.declared.batch.Batch.{Batch}
use Rattle.ts_reductions.specs.declared.setting.Setting.{Setting}
use Rattle.ts_reductions.specs.declared.room.Room.{Room}
use Rattle.ts_reductions.specs.declared.top.Top.{Top}
use Rattle.ts_reductions.specs.Again.{AreLed, Leads}
use Rattle.ts_reductions.specs.Asking.{key_of, IsTop, AreTops, TakesSome, IsReady, ByTops}
use Rattle.ts_reductions.specs.Laws.{ReductionLaws, NodeLaws}
use Rattle.ts_reductions.specs.declared.reducing.Reduced.{Reduced}
use Rattle.ts_reductions.specs.declared.reducing.Reduced.TheVariants.{Done, TooDeep}
use Rattle.ts_reductions.specs.Reducing.{IsDeepAt, AreReduced, Reduces}
use Rattle.ts_reductions.specs.Sound.{Base, parsing_from, IsSoundBy, IsSoundOver}
use Rattle.ts_reductions.proofs.SmallLemmas.{place_is_at, lead_once}
use Rattle.ts_reductions.proofs.AskLemmas.{reduces_stay}
use Rattle.ts_reductions.proofs.KeepLemmas.{keeps_none, keeps_on}
use Rattle.ts_reductions.proofs.LineLemmas.{few_symbols}
use Rattle.ts_reductions.proofs.RankLemmas.{height_most}
use Rattle.ts_reductions.proofs.WayLemmas.{way_spans}
use Rattle.ts_places.specs.declared.sights.Sights.{Sights}
use Rattle.ts_places.specs.ShiftLaws.{LookLaws, LeafLaws}
use Rattle.ts_places.specs.Looking.{AllStandAt, HasAllAt, AreHeadsAt}
use Rattle.ts_places.specs.Passing.{first_key}
use Rattle.ts_places.specs.Shifting.{AreAllSights}
use Rattle.ts_places.proofs.SmallLemmas.{read_at}
use Rattle.ts_places.proofs.HeadLemmas.{one_head}
use Rattle.ts_places.proofs.SightLemmas.{all_tops}
use Rattle.ts_places.specs.declared.seeking.Seek.{Seek}
use Rattle.ts_places.specs.declared.sweeping.Swept.{Swept}
use Rattle.ts_places.specs.declared.sweeping.Swept.TheVariants.{Over, Through, Deep}
use Rattle.ts_places.specs.SweepLaws.{KeyLaws}
use Rattle.ts_places.specs.Turns.{turn_of}
use Rattle.ts_places.specs.declared.seeking.Due.{Due}
use Rattle.ts_places.specs.Seeking.{seek_at, batch_at, CanSeek, IsSought, IsNext, OfTops, AddsDue, AreDue, WereDue}
use Rattle.ts_places.proofs.DueLemmas.{tops_more}
use Rattle.ts_places.proofs.StillLemmas.{reduction_stays, sought_stays}
use Rattle.ts_places.specs.Sweeping.{CanSweep, IsWholeBy, HasMore, AreSwept, IsTooDeep, IsSmall, key_at, After, IsSweptTo, SweepsOne, GoesOn, StayDue}
use Rattle.ts_places.proofs.KeyLemmas.{passes, first_done, all_past, none_due}

-- ---- heads that came since

pub listed_stand : (g : GraphView) (from look : ℕ) (heads : List ℕ) → AreHeadsAt g from look heads → AllStandAt g look heads
listed_stand g from look heads are h there = ((are h).0 there).1

pub has_all : (old new : GraphView) (look from : ℕ) (before heads : List ℕ) → from ≡ length old.heads → KeepNumbers old.heads new.heads → HasAllAt old look before → AreHeadsAt new from look heads → HasAllAt new look (before ++ heads)
has_all old new look from before heads from_is keep has are h st = by (cases_order h from)
  where
    was : h < length old.heads → Contains before h
    was low =
        let o = read_at old.heads h low in
        let same : st.0 ≡ o.0 = one_head new.heads h st.0 o.0 st.1 (keep h o.0 o.1) in
        has h (o.0, o.1, ap (λ (x : Head). x.place) (sym same) ∙ st.2)

    later : from ≤ h → Contains (before ++ heads) h
    later le = Contains-append_right before heads h ((are h).1 (le, st))

    by : (h ≡ from) ⊎ ((h < from) ⊎ (from < h)) → Contains (before ++ heads) h
    by (inl e) = later (omega (arith, e))
    by (inr (inl l)) = Contains-append_left before heads h (was (omega (arith, l, from_is)))
    by (inr (inr l)) = later (omega (arith, l))

-- ---- tokens on which nothing is reduced over nothing

-- a head that is not that of the empty stack takes some
pub takes_behind : (keys : KeyLaws) (t : ParseTable) → IsTable t → (text : Bytes) (g : GraphView) → IsSoundOver t text g → (look : ℕ) (top : Top) → IsTop t text g look top → ((head : Head) → slice_get g.heads top.head ≡ Some head → head.state ≡ 0 → ⊥) → TakesSome t g top
takes_behind keys t table text g sound look top seen full head number left p is acts at none =
    let same : seen.at.head ≡ head = one_head g.heads top.head seen.at.head head seen.at.is is in
    let leads : LeadsTo (goto_of t) seen.read head.state = subst (λ (x : Head). LeadsTo (goto_of t) seen.read x.state) same seen.at.state in
    let empty : seen.read ≡ [] = keys.nothing t.grammar sound.1.laid.parsed.fit seen.read top.token.0 number left p (reduces_stay t table seen.read head.state top.token.0 number leads acts) at none in
    full head is (lead_once (goto_of t) [] head.state 0 (subst (λ (r : List ℕ). LeadsTo (goto_of t) r head.state) empty leads) at_first)

module _ (look_laws : LookLaws) (keys : KeyLaws) (t : ParseTable) (table : IsTable t) (text : Bytes) (base : Base) (look : ℕ) (old new : GraphView) (keep : KeepNumbers old.heads new.heads)
    (only : (h : ℕ) (head : Head) → slice_get new.heads h ≡ Some head → (slice_get old.heads h ≡ Some head) ⊎ IsNewHead (parsing_from t text base) new look h head)
    (s u : Sights) (a : AreAllSights t text base old look s) (some : (top : Top) → Contains s.tops.items top → TakesSome t old top) (b : AreAllSights t text base new look u) where
  pub takes_still : (top : Top) → Contains u.tops.items top → TakesSome t new top
  takes_still top there = by (only top.head seen.at.head seen.at.is)
    where
      seen : IsTop t text new look top
      seen = (all_tops look_laws t text new (base, b.sound) look b.heads u b.sights b.all).each top there

      one : (head : Head) → slice_get new.heads top.head ≡ Some head → seen.at.head ≡ head
      one head is = one_head new.heads top.head seen.at.head head seen.at.is is

      by : (slice_get old.heads top.head ≡ Some seen.at.head) ⊎ IsNewHead (parsing_from t text base) new look top.head seen.at.head → TakesSome t new top
      by (inr n) = takes_behind keys t table text new (base, b.sound) look top seen (λ head is zero_state. n.0 (ap (λ (x : Head). x.state) (one head is) ∙ zero_state))
      by (inl was) = λ head number left p is acts at none.
          let o = a.sights.all top.head seen.read top.token seen.pad seen.size (a.all top.head (seen.at.head, was, seen.at.place_is)) (record { head = seen.at.head; is = was; state = seen.at.state; place_is = seen.at.place_is }) seen.sees in
          some o.0 o.1 head number left p
          (ap (λ (n : ℕ). slice_get old.heads n) o.2 ∙ was ∙ ap (λ (x : Head). Some x) (one head is))
          (subst (λ (x : ℕ). Contains (actions_of t head.state x) (Reduce number)) (sym (token_number o.0 top o.3)) acts)
          at none
        where
          token_number : (v w : Top) → v.token ≡ w.token → v.token.0 ≡ w.token.0
          token_number v w e = cc

-- ---- graphs that grow

pub more_none : LayingLaws → (t : ParseTable) (text : Bytes) (base : Base) (g : GraphView) (look : ℕ) → HasMore t text base g g look
more_none laws t text base g look = record { grows = growing.grows_none laws g; keeps = keeps_none t.grammar text base g; only = λ h head is. inl is }

pub more_on : LayingLaws → (t : ParseTable) (text : Bytes) (base : Base) (start old new : GraphView) (look : ℕ) → HasMore t text base start old look → HasMore t text base old new look → HasMore t text base start new look
more_on laws t text base start old new look a b = record {
  grows = grows_on laws start old new a.grows b.grows;
  keeps = keeps_on t.grammar text base start old new a.keeps b.keeps;
  only = λ h head is. ⊎_elim (λ was. ⊎_elim (λ w. inl w) (λ n. inr (new_stays laws (parsing_from t text base) old new b.grows look h head n)) (a.only h head was)) (λ n. inr n) (b.only h head is);
}

-- ---- keys

-- a later key has a lower number
lower_turn : (b r x i : ℕ) → IsSmall x i → After b r x i → turn_of x i < turn_of b r
lower_turn b r x i small (inl l) = let s = small.1 in omega (arith, l, s)
lower_turn b r x i small (inr e) = let f = e.0 in let l = e.1 in omega (arith, f, l)

later_key : (b r x i : ℕ) → IsSmall b r → turn_of x i < turn_of b r → After b r x i
later_key b r x i small lt = by (cases_order x b)
  where
    by : (x ≡ b) ⊎ ((x < b) ⊎ (b < x)) → After b r x i
    by (inl e) = inr (e, omega (arith, e, lt))
    by (inr (inl l)) = inl l
    by (inr (inr m)) = absurd (let s = small.1 in omega (arith, m, lt, s))

-- ---- what is seen is seen at heads that are there

module _ (look_laws : LookLaws) (t : ParseTable) (text : Bytes) (base : Base) (s : Setting) (g : GraphView) (look : ℕ) (sights : Sights) (can : CanSweep t text base s g look sights) where
  pub tops_low : (top : Top) → Contains sights.tops.items top → top.head < length g.heads
  tops_low top there =
      let x = (all_tops look_laws t text g (base, can.seen.sound) look can.seen.heads sights can.seen.sights can.seen.all).each top there in
      slice_get_within g.heads top.head x.at.head x.at.is

  -- those from a number on
  pub back_low : (n : ℕ) (all back : List Top) → all ≡ sights.tops.items → back ≡ drop n all → (top : Top) → Contains back top → top.head < length g.heads
  back_low n all back same is top there =
      tops_low top (subst (λ (l : List Top). Contains l top) (take-append-drop n all ∙ same)
      (Contains-append_right (take n all) (drop n all) top (subst (λ (l : List Top). Contains l top) is there)))

-- ---- the next key

module _ (reductions : ReductionLaws) (nodes : NodeLaws) (laying : LayingLaws) (leaves : LeafLaws) (look_laws : LookLaws) (keys : KeyLaws)
    (t : ParseTable) (table : IsTable t) (text : Bytes) (base : Base) (s : Setting) (g : GraphView) (seek : Seek) (sights : Sights)
    (can : CanSweep t text base s g seek.look sights) where
  tops_are : AreTops t text g seek.look sights.tops.items
  tops_are = all_tops look_laws t text g (base, can.seen.sound) seek.look can.seen.heads sights can.seen.sights can.seen.all

  pub ready_to : (b r : ℕ) → IsReady t text base s g (batch_at seek.look b r) sights.tops.items
  ready_to b r = record { sound = can.seen.sound; late = can.seen.late; setting = can.setting; seen = tops_are; takes_some = can.takes_some }

  pub can_seek : CanSeek t text base s g seek sights.tops.items
  can_seek = ready_to 0 0

  -- the same by another name of the tops
  module _ (tops : List Top) (same : tops ≡ sights.tops.items) where
    pub can_seek_by : CanSeek t text base s g seek tops
    can_seek_by = subst (λ (l : List Top). CanSeek t text base s g seek l) (sym same) can_seek

    pub heard : (o p : Option Batch) → o ≡ p → (CanSeek t text base s g seek tops → IsNext t g seek tops o) → IsNext t g seek sights.tops.items p
    heard o p is f = subst (λ (q : Option Batch). IsNext t g seek sights.tops.items q) is (subst (λ (l : List Top). IsNext t g seek l o) same (f can_seek_by))

  module _ (most : ℕ) (ranks : AreRanks t.grammar (unit_rank t.grammar) most) (start : GraphView) (swept : IsSweptTo t text base most start g seek.look seek.below) where
    -- nothing was sought at a later key
    pub over : IsNext t g seek sights.tops.items None → AreSwept t text base start g seek.look sights
    over none = record {
      seen = can.seen;
      more = swept.more;
      done = all_past leaves keys t text base most ranks g can.seen.sound seek.look swept.begins swept.rank
          (λ x i after. none_due reductions nodes t table text base s g seek sights.tops.items can_seek x i (λ small. swept.covers x i small after) (none (batch_at seek.look x i)))
          swept.done;
    }

    module _ (key : Batch) (next : IsNext t g seek sights.tops.items (Some key)) where
      sought : IsSought t g seek (ByTops sights.tops.items) key
      sought = next.0

      seen : IsTop t text g seek.look sought.top
      seen = tops_are.each sought.top sought.means

      low : key.begins ≤ seek.look
      low =
          let w = way_spans (parsing_from t text base) g.heads g.links can.seen.sound.laid.held sought.way sought.top.head sought.b sought.asked.takes.way in
          let b = sought.asked.begins in
          let p = place_is_at g.heads sought.top.head seen.at.head seen.at.is in
          let q = seen.at.place_is in
          omega (arith, w, b, p, q)

      look_low : seek.look ≤ length text
      look_low = let w = can.seen.sound.laid.within sought.top.head seen.at.head seen.at.is in let q = seen.at.place_is in omega (arith, w, q)

      small : IsSmall key.begins key.rank
      small = (
        (let l = low in let p = can.seen.sound.laid.parsed.short in let q = look_low in omega (arith, l, p, q)),
        (let h = height_most t.grammar (symbol_count t.grammar) sought.asked.left in let f = few_symbols t.grammar can.seen.sound.laid.parsed.fit in let e = sought.asked.ranked in omega (arith, h, f, e)),
      )

      few : key.rank < most
      few = let r = ranks.below sought.asked.left in let e = sought.asked.ranked in omega (arith, r, e)

      after : After swept.begins swept.rank key.begins key.rank
      after = swept.back key.begins key.rank small low few sought.after

      whole : IsWholeBy t text base g (key_at seek.look key.begins key.rank)
      whole =
          passes leaves keys t text base most ranks g can.seen.sound seek.look swept.begins swept.rank key.begins key.rank after (let f = few in omega (arith, f))
          (λ x i from to. none_due reductions nodes t table text base s g seek sights.tops.items can_seek x i (λ so. swept.covers x i so from)
          (λ h. let m = next.1 (batch_at seek.look x i) h in let l = lower_turn x i key.begins key.rank small to in omega (arith, m, l)))
          swept.done

      -- the reductions of the key were done
      pub through : (new : GraphView) → AreReduced t text base g new (key_of key) → IsSweptTo t text base most start new seek.look (turn_of key.begins key.rank)
      through new r = record {
        more = more_on laying t text base start g new seek.look swept.more (record { grows = reduced.grows; keeps = reduced.keeps; only = reduced.only });
        begins = key.begins;
        rank = key.rank;
        done = record { before = g; sound = can.seen.sound; whole = whole; reduced = reduced };
        covers = λ x i so from. lower_turn key.begins key.rank x i so from;
        back = λ x i so low_x few_i lt. later_key key.begins key.rank x i small lt;
      }
        where
          reduced : AreReduced t text base g new (key_at seek.look key.begins key.rank)
          reduced = subst (λ (n : ℕ). AreReduced t text base g new (key_at n key.begins key.rank)) sought.look_is r

  -- what is known of the key that is next, whatever was done before
  module _ (key : Batch) (next : IsNext t g seek sights.tops.items (Some key)) where
    pub next_ready : IsReady t text base s g key sights.tops.items
    next_ready = record {
      sound = can.seen.sound;
      late = let h = can.seen.late in let e = next.0.look_is in omega (arith, h, e);
      setting = can.setting;
      seen = subst (λ (n : ℕ). AreTops t text g n sights.tops.items) (sym next.0.look_is) tops_are;
      takes_some = can.takes_some;
    }

    pub ready_by : (tops : List Top) → tops ≡ sights.tops.items → IsReady t text base s g key tops
    ready_by tops same = subst (λ (l : List Top). IsReady t text base s g key l) (sym same) next_ready

    pub next_can : (new : GraphView) (later : Sights) → AreReduced t text base g new (key_of key) → AreAllSights t text base new seek.look later → CanSweep t text base s new seek.look later
    next_can new later r all = record {
      setting = can.setting;
      seen = all;
      takes_some = takes_still look_laws keys t table text base seek.look g new r.grows.stay only sights later can.seen can.takes_some all;
    }
      where
        only : (h : ℕ) (head : Head) → slice_get new.heads h ≡ Some head → (slice_get g.heads h ≡ Some head) ⊎ IsNewHead (parsing_from t text base) new seek.look h head
        only h head is = subst (λ (n : ℕ). (slice_get g.heads h ≡ Some head) ⊎ IsNewHead (parsing_from t text base) new n h head) next.0.look_is (r.only h head is)

    pub done_by : (tops : List Top) → tops ≡ sights.tops.items → (new : GraphView) (r : Reduced) → r ≡ Done → (IsReady t text base s g key tops → Reduces t text base g new (key_of key) r) → AreReduced t text base g new (key_of key)
    done_by tops same new r is f = subst (λ (x : Reduced). Reduces t text base g new (key_of key) x) is (f (ready_by tops same))

    pub led_by : (tops : List Top) → tops ≡ sights.tops.items → (room : Room) (r : Reduced) → r ≡ Done → (IsReady t text base s g key tops → Leads t text g tops room r) → AreLed t text g sights.tops.items room
    led_by tops same room r is f = subst (λ (l : List Top). AreLed t text g l room) same (subst (λ (x : Reduced). Leads t text g tops room x) is (f (ready_by tops same)))

    pub too_deep : (new : GraphView) → IsDeepAt t text base g (key_of key) → new ≡ g → IsTooDeep t text base new
    too_deep new d same = subst (λ (x : GraphView). IsTooDeep t text base x) (sym same) (record {
      sound = can.seen.sound;
      deep = record {
        key = key_of key;
        number = d.number;
        left = d.left;
        production = d.production;
        top = d.top;
        middle = d.middle;
        bottom = d.bottom;
        outer = d.outer;
        inner = d.inner;
        over = d.over;
        now = d.now;
        end = d.end;
        due = d.due;
        deep = d.deep;
      };
    })

    pub deep_by : (tops : List Top) → tops ≡ sights.tops.items → (new : GraphView) (r : Reduced) → r ≡ TooDeep → (IsReady t text base s g key tops → Reduces t text base g new (key_of key) r) → IsTooDeep t text base new
    deep_by tops same new r is f = let d = subst (λ (x : Reduced). Reduces t text base g new (key_of key) x) is (f (ready_by tops same)) in too_deep new d.0 d.1

-- ---- reductions that are listed

pub from_new : (links : List Link) (first head n m : ℕ) → n ≡ first → m ≡ head → (b : Bool) → b ≡ true → (IsTrue b → LeadFrom links n m) → LeadFrom links first head
from_new links first head n m e f b is lead = subst (λ (x : ℕ). LeadFrom links x head) e (subst (λ (x : ℕ). LeadFrom links n x) f (lead is))

module _ (t : ParseTable) (g new : GraphView) (grows : Grows g new) (once : HoldsEachOnce g.heads g.links) (before after : Seek) (look_is : before.look ≡ after.look) (later : after.below ≤ before.below) (tops : List Top) (dues : List Due) (due : AreDue t g before tops dues)
    (stand : (top : Top) → Contains tops top → (head : Head) × (slice_get g.heads top.head ≡ Some head)) (stay : Bool) (from_new : stay ≡ true → LeadFrom new.links (length g.links) (length g.heads)) where
  pub were_due : WereDue t g new before after tops stay dues
  were_due = record {
    look_is = look_is;
    later = later;
    due = due;
    keeps = λ top number there. let h = stand top there in reduction_stays g new grows.stay grows.kept t top number h.0 h.1;
    stays = λ none top number k there. let h = stand top there in sought_stays g new grows.stay grows.kept once.below_there (from_new none) t after top number h.0 h.1 k;
  }

  -- the same with those of new heads
  module _ (turn : ℕ) (after_is : after ≡ seek_at before.look turn) (forgot final : List Due) (still : AreDue t new after tops forgot) (everything news : List Top) (more : (more : List Top) × (everything ≡ tops ++ more)) (news_are : news ≡ drop (length tops) everything) (adds : AddsDue t new after (OfTops news) forgot final) where
    pub due_on : AreDue t new (seek_at before.look after.below) everything final
    due_on =
        let rest : news ≡ more.0 = news_are ∙ ap (λ (l : List Top). drop (length tops) l) more.1 ∙ drop-append_seam tops more.0 in
        let all_due = tops_more t new after tops more.0 everything forgot final more.1 still (subst (λ (l : List Top). AddsDue t new after (OfTops l) forgot final) rest adds) in
        let moved : AreDue t new (seek_at before.look turn) everything final = subst (λ (s : Seek). AreDue t new s everything final) after_is all_due in
        subst (λ (n : ℕ). AreDue t new (seek_at before.look n) everything final) (sym (ap (λ (s : Seek). s.below) after_is)) moved

-- ---- the loop

pub due_by : (t : ParseTable) (new : GraphView) (look : ℕ) (tops : List Top) (dues : List Due) (r : Swept) (n : ℕ) → r ≡ Through n → StayDue t new look tops dues r → AreDue t new (seek_at look n) tops dues
due_by t new look tops dues r n is h = subst (λ (x : Swept). StayDue t new look tops dues x) is h

pub due_first : (t : ParseTable) (g : GraphView) (look below : ℕ) (tops seen : List Top) (empty dues : List Due) → seen ≡ tops → empty ≡ [] → AddsDue t g (seek_at look below) (OfTops seen) empty dues → AreDue t g (seek_at look below) tops dues
due_first t g look below tops seen empty dues same none adds =
    subst (λ (l : List Top). AddsDue t g (seek_at look below) (OfTops l) [] dues) same (subst (λ (l : List Due). AddsDue t g (seek_at look below) (OfTops seen) l dues) none adds)

pub goes_by : (t : ParseTable) (text : Bytes) (base : Base) (s : Setting) (new : GraphView) (look below : ℕ) (sights : Sights) (r : Swept) (n : ℕ) → r ≡ Through n → GoesOn t text base s new look below sights r → CanSweep t text base s new look sights × (n < below)
goes_by t text base s new look below sights r n is h = subst (λ (x : Swept). GoesOn t text base s new look below sights x) is h

pub through_by : (t : ParseTable) (text : Bytes) (base : Base) (s : Setting) (most : ℕ) (start new : GraphView) (look below : ℕ) (sights : Sights) (r : Swept) (n : ℕ) → r ≡ Through n → SweepsOne t text base s most start new look below sights r → IsSweptTo t text base most start new look n
through_by t text base s most start new look below sights r n is h = subst (λ (x : Swept). SweepsOne t text base s most start new look below sights x) is h

pub over_by : (t : ParseTable) (text : Bytes) (base : Base) (s : Setting) (most : ℕ) (start new : GraphView) (look below : ℕ) (sights : Sights) (r : Swept) → r ≡ Over → SweepsOne t text base s most start new look below sights r → AreSwept t text base start new look sights
over_by t text base s most start new look below sights r is h = subst (λ (x : Swept). SweepsOne t text base s most start new look below sights x) is h

pub deep_by_all : (t : ParseTable) (text : Bytes) (base : Base) (s : Setting) (most : ℕ) (start new : GraphView) (look below : ℕ) (sights : Sights) (r : Swept) → r ≡ Deep → SweepsOne t text base s most start new look below sights r → IsTooDeep t text base new
deep_by_all t text base s most start new look below sights r is h = subst (λ (x : Swept). SweepsOne t text base s most start new look below sights x) is h

-- ---- the first key

pub first_swept : LayingLaws → LeafLaws → KeyLaws → (t : ParseTable) (text : Bytes) (base : Base) (most : ℕ) → AreRanks t.grammar (unit_rank t.grammar) most → (g : GraphView) → IsSoundBy t text base g → (look below : ℕ) → below ≡ 18446744073709551615
    → IsWholeBy t text base g (first_key most look) → IsSweptTo t text base most g g look below
first_swept laying leaves keys t text base most ranks g sound look below below_is whole = record {
  more = more_none laying t text base g look;
  begins = look;
  rank = most;
  done = first_done leaves keys t text base most ranks g sound look whole;
  covers = λ x i so after. let a = so.0 in let b = so.1 in omega (arith, a, b, below_is);
  back = λ x i so low few lt. by x i low few (cases_order x look);
}
  where
    by : (x i : ℕ) → x ≤ look → i < most → (x ≡ look) ⊎ ((x < look) ⊎ (look < x)) → After look most x i
    by x i low few (inl e) = inr (e, few)
    by x i low few (inr (inl l)) = inl l
    by x i low few (inr (inr m)) = absurd (omega (arith, low, m))
