-- What is done at a place makes the graph whole up to the next.
use Rattle.std.proofs.Common.{◌≡◌, ◌∙◌, sym, refl, subst, ℕ, zero, suc, ◌+◌, ◌<◌, ◌≤◌, ◌⊎◌, inl, inr, List, slice_get, Option, Some, None, arith}
use Rattle.std.specs.List.{Contains}
use Rattle.std.proofs.lemmas.Option.{slice_get_within}
use Rattle.ts_base.specs.Bytes.{Bytes}
use Rattle.spec_graph.specs.declared.graph.Head.{Head}
use Rattle.spec_graph.specs.Laying.{Parsing, extra_tree}
use Rattle.spec_graph.specs.Links.{HasGrown}
use Rattle.ts_graph.specs.declared.view.GraphView.{GraphView}
use Rattle.ts_table.specs.declared.view.ParseTable.{ParseTable}
use Rattle.ts_table.specs.Tables.{IsTable}
use Rattle.ts_reductions.specs.SoundLinks.{bare_links}
use Rattle.ts_reductions.specs.Laying.{Grows, HasPassed, IsNewHead}
use Rattle.ts_reductions.specs.declared.reducing.Reduced.{Reduced}
use Rattle.ts_reductions.specs.declared.reducing.Reduced.TheVariants.{Done, TooDeep}
use Rattle.ts_reductions.specs.declared.setting.Setting.{Setting}
use Rattle.ts_reductions.specs.declared.top.Top.{Top}
use Rattle.ts_reductions.specs.Asking.{IsTop}
use Rattle.ts_reductions.specs.Sound.{Base, parsing_from, IsSoundBy}
use Rattle.ts_reductions.proofs.KeepLemmas.{keeps_on}
use Rattle.ts_places.specs.declared.sights.Sights.{Sights}
use Rattle.ts_places.specs.Looking.{AllStandAt, HasAllAt}
use Rattle.ts_places.specs.Passing.{first_key}
use Rattle.ts_places.specs.Shifting.{AreAllSights, AreShifted}
use Rattle.ts_places.specs.Sweeping.{CanSweep, IsWholeBy, last_key, AreSwept, IsTooDeep, Sweeps}
use Rattle.ts_places.proofs.SmallLemmas.{at_contained, read_at}
use Rattle.ts_places.proofs.GrowLemmas.{link_stays}
use Rattle.ts_places.specs.declared.frontier.Frontier.{Frontier}
use Rattle.ts_places.specs.Laws.{PlaceLaws}
use Rattle.ts_places.specs.SweepLaws.{KeyLaws}
use Rattle.ts_places.specs.Frontiers.{AreThoseAt, HasNoneBetween, IsNextPlace, IsLastPlace, IsNextOpen}
use Rattle.ts_places.specs.Following.{IsWholeAt, CanFollow, GoesOnAt, IsOver, next_at, Follows, CanPass, IsPassed, Passes}
use Rattle.ts_places.proofs.StartLemmas.{top_takes_some}
use Rattle.ts_places.proofs.FrontierLemmas.{here_stand, here_all}

apart : (a b : ℕ) → b ≤ a → (n : ℕ) × (a ≡ n + b)
apart a zero le = (a, omega arith)
apart zero (suc b) le = absurd (omega (arith, le))
apart (suc a) (suc b) le = let r = apart a b (omega (arith, le)) in let e = r.1 in (r.0, omega (arith, e))

-- ---- before

module _ (keys : KeyLaws) (t : ParseTable) (table : IsTable t) (text : Bytes) (s : Setting) (base : Base) (most : ℕ) (g : GraphView) (place : ℕ) (sights : Sights) (can : CanPass t text s base most g place sights) where
  tops_seen : (top : Top) → Contains sights.tops.items top → IsTop t text g place top
  tops_seen top there =
      let a = can.seen.sights in
      let k = at_contained sights.tops.items top there in
      let low = slice_get_within sights.tops.items k.0 top k.1 in
      let many = a.count in
      let span = read_at sights.spans.items k.0 (omega (arith, low, many)) in
      let w = (a.each k.0 top span.0 k.1 span.1).0 in
      record {
        read = w.read;
        pad = span.0.pad;
        size = span.0.size;
        at = w.at;
        sees = w.sees;
        some = let p = w.past in omega (arith, p);
        reach = w.reach;
      }

  pub can_sweep : CanSweep t text base s g place sights
  can_sweep = record {
    setting = can.setting;
    seen = can.seen;
    takes_some = λ top there. top_takes_some t text base g can.seen.sound keys table can.some place can.seen.late top (tops_seen top there);
  }

-- ---- by answers

pub swept_by : (t : ParseTable) (text : Bytes) (base : Base) (old mid : GraphView) (place : ℕ) (sights : Sights) (r : Reduced) → r ≡ Done → Sweeps t text base old mid place sights r → AreSwept t text base old mid place sights
swept_by t text base old mid place sights r is h = subst (λ (x : Reduced). Sweeps t text base old mid place sights x) is h

pub deep_by : (t : ParseTable) (text : Bytes) (base : Base) (old mid : GraphView) (place : ℕ) (sights : Sights) (r : Reduced) → r ≡ TooDeep → Sweeps t text base old mid place sights r → IsTooDeep t text base mid
deep_by t text base old mid place sights r is h = subst (λ (x : Reduced). Sweeps t text base old mid place sights x) is h

module _ (t : ParseTable) (text : Bytes) (base : Base) (most : ℕ) (old new : GraphView) (place : ℕ) (sights : Sights) (r : Reduced) where
  pub passed_by : r ≡ Done → Passes t text base most old new place sights r → IsPassed t text base most old new place sights
  passed_by is h = subst (λ (x : Reduced). Passes t text base most old new place sights x) is h

  pub deep_passed : r ≡ TooDeep → Passes t text base most old new place sights r → IsTooDeep t text base new
  deep_passed is h = subst (λ (x : Reduced). Passes t text base most old new place sights x) is h

-- what is seen at all heads of the frontier that stand at the place
module _ (t : ParseTable) (text : Bytes) (s : Setting) (base : Base) (most : ℕ) (g : GraphView) (place : ℕ) (frontier : Frontier) (can : CanFollow t text s base most g place frontier) (waiting : List ℕ) (waiting_is : waiting ≡ frontier.heads.items) (here : List ℕ) (at : AreThoseAt g place waiting here) where
  pub can_pass : (looked : List ℕ) → looked ≡ here → (sights : Sights) → (IsSoundBy t text base g → base.place ≤ place → AllStandAt g place looked → HasAllAt g place looked → AreAllSights t text base g place sights) → CanPass t text s base most g place sights
  can_pass looked same sights f = record {
    setting = can.setting;
    whole = can.whole;
    seen = f can.whole.sound can.whole.early (subst (λ (l : List ℕ). AllStandAt g place l) (sym same) (here_stand g place frontier.heads.items waiting waiting_is can.are_open here at))
        (subst (λ (l : List ℕ). HasAllAt g place l) (sym same) (here_all g place frontier.heads.items waiting waiting_is can.are_open here at));
    some = can.some;
  }

-- ---- all that was done at a place

passed_stays : (P : Parsing) (mid new : GraphView) → HasGrown P mid.heads (bare_links mid.links) new.heads (bare_links new.links) → (h : ℕ) → HasPassed P mid h → HasPassed P new h
passed_stays P mid new grown h p = record {
  read = p.read;
  from = p.from;
  late = p.late;
  at = grown.heads_stay h p.read p.from p.at;
  symbol = p.symbol;
  pad = p.pad;
  size = p.size;
  passes = p.passes;
  link = link_stays P mid.heads new.heads (bare_links mid.links) (bare_links new.links) grown h (extra_tree p.symbol p.pad p.size) (p.from + (p.pad + p.size)) p.read p.link;
}

module _ (laws : PlaceLaws) (t : ParseTable) (table : IsTable t) (text : Bytes) (s : Setting) (base : Base) (most : ℕ) (old : GraphView) (place : ℕ) (before after : Sights) (can : CanPass t text s base most old place before) where
  module _ (mid new : GraphView) (swept : AreSwept t text base old mid place after) (shifts : AreShifted t text base mid new place) where
    grows : Grows old new
    grows = record {
      stay = λ h head is. shifts.grows.stay h head (swept.more.grows.stay h head is);
      kept = λ k l is.
          let m = swept.more.grows.kept k l is in
          let n = shifts.grows.kept k m.0 m.1 in
          (n.0, n.1, n.2 ∙ m.2, n.3 ∙ m.3, n.4 ∙ m.4);
      links = λ l there.
          let m = swept.more.grows.links l there in
          let n = shifts.grows.links m.0 m.1 in
          (n.0, n.1, n.2 ∙ m.2, n.3 ∙ m.3, laws.through n.0.tree m.0.tree l.tree n.4 m.4, (let x = m.5 in let y = n.5 in omega (arith, x, y)));
    }

    abbrev P : Parsing
    P = parsing_from t text base

    new_heads : (h : ℕ) (head : Head) → slice_get new.heads h ≡ Some head → (slice_get old.heads h ≡ Some head) ⊎ ((place ≤ head.place) ⊎ HasPassed P new h)
    new_heads h head is = by (shifts.behind h head is)
      where
        at : (head.place ≡ place) ⊎ HasPassed P mid h → (place ≤ head.place) ⊎ HasPassed P new h
        at (inl here) = inl (omega (arith, here))
        at (inr passed) = inr (passed_stays P mid new shifts.grown h passed)

        more : (slice_get old.heads h ≡ Some head) ⊎ IsNewHead P mid place h head → (slice_get old.heads h ≡ Some head) ⊎ ((place ≤ head.place) ⊎ HasPassed P new h)
        more (inl was) = inl was
        more (inr n) = inr (at n.1)

        by : (slice_get mid.heads h ≡ Some head) ⊎ (place < head.place) → (slice_get old.heads h ≡ Some head) ⊎ ((place ≤ head.place) ⊎ HasPassed P new h)
        by (inl was) = more (swept.more.only h head was)
        by (inr past) = inr (inl (omega (arith, past)))

    all_still : HasAllAt new place swept.seen.heads
    all_still h st = by (shifts.behind h st.0 st.1)
      where
        by : (slice_get mid.heads h ≡ Some st.0) ⊎ (place < st.0.place) → Contains swept.seen.heads h
        by (inl was) = swept.seen.all h (st.0, was, st.2)
        by (inr past) = absurd (let e = st.2 in omega (arith, past, e))

    seen_still : AreAllSights t text base new place after
    seen_still = record {
      sound = shifts.sound;
      late = swept.seen.late;
      heads = swept.seen.heads;
      sights = laws.stay t text mid new place swept.seen.heads after shifts.grows.stay swept.seen.sights;
      all = all_still;
    }

    pub all_passed : IsPassed t text base most old new place after
    all_passed = record {
      followed = record {
        grows = grows;
        only = new_heads;
        keeps = keeps_on t.grammar text base old mid new swept.more.keeps shifts.keeps;
        seen = seen_still;
      };
      whole = record {
        early = let e = can.whole.early in omega (arith, e);
        ranks = can.whole.ranks;
        sound = shifts.sound;
        whole = laws.follow t text base most swept.done.before mid new (last_key place) (first_key most (suc place)) table can.whole.ranks swept.done.sound can.whole.early swept.done.reduced shifts (laws.look most place) refl swept.done.whole;
      };
    }

-- ---- the next place

module _ (laws : PlaceLaws) (t : ParseTable) (text : Bytes) (base : Base) (most : ℕ) (old g : GraphView) (place : ℕ) (sights : Sights) (p : IsPassed t text base most old g place sights) where
  abbrev w : IsWholeAt t text base most g (suc place)
  w = p.whole

  whole_past : (next : ℕ) → place < next → HasNoneBetween g place next → IsWholeAt t text base most g next
  whole_past next lt none =
      let n = apart next (suc place) (omega (arith, lt)) in
      record {
        early = let e = w.early in omega (arith, e, lt);
        ranks = w.ranks;
        sound = w.sound;
        whole = subst (λ (k : ℕ). IsWholeBy t text base g (first_key most k)) (sym n.1)
            (laws.empty t text base most g n.0 (suc place) w.ranks w.sound (λ other h low high st. none other h (omega (arith, low)) (let e = n.1 in omega (arith, high, e)) st) w.whole);
      }

  pub goes_on : (frontier : Frontier) (next : ℕ) → IsNextPlace g place frontier.heads.items next → GoesOnAt t text base most old g place frontier sights next
  goes_on frontier next at = record { followed = p.followed; at = at; whole = whole_past next at.past at.between }

  pub over : IsLastPlace g place → IsOver t text base most old g place sights
  over last = record {
    followed = p.followed;
    last = last;
    whole = λ n lt. whole_past n lt (λ other h low high st. last h (st.0, st.1, (let e = st.2 in omega (arith, low, e))));
  }

  pub follows_next : (before after : Frontier) (o : Option ℕ) → IsNextOpen g place after.heads.items o → Follows t text base most old g place before after sights (next_at o)
  follows_next before after None last = over last
  follows_next before after (Some next) at = goes_on after next at
