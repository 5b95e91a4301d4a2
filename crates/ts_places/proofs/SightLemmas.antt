-- What one more head sees, put to what others see.
use Rattle.std.proofs.Common.{◌≡◌, ◌∙◌, sym, ap, subst, ℕ, ◌<◌, ◌≤◌, ◌⊎◌, inl, inr, max, List, [], ◌∷◌, ◌++◌, length, length-append, slice_get, Option, Some, None, arith}
use Rattle.std.specs.List.{Contains}
use Rattle.std.proofs.lemmas.Bool.{cases_order}
use Rattle.std.proofs.lemmas.List.Elements.{Contains-append_left, Contains-push, Contains-push_cases}
use Rattle.std.proofs.lemmas.Option.{slice_get_within}
use Rattle.ts_base.specs.Bytes.{Bytes}
use Rattle.ts_base.proofs.PlaceLemmas.{push_cases}
use Rattle.ts_core.specs.declared.symbol.Symbol.{Symbol}
use Rattle.spec_lexing.specs.Lexing.{token, absent}
use Rattle.spec_graph.specs.Laying.{Parsing, SeesAt}
use Rattle.spec_graph.specs.Links.{IsAt}
use Rattle.ts_graph.specs.declared.view.GraphView.{GraphView}
use Rattle.ts_table.specs.declared.view.ParseTable.{ParseTable}
use Rattle.ts_lexer.specs.declared.lexed.Lexed.{Lexed}
use Rattle.ts_lexer.specs.declared.lexed.Lexed.TheVariants.{Token, Absent}
use Rattle.ts_reductions.specs.declared.top.Top.{Top}
use Rattle.ts_reductions.specs.Asking.{AreTops}
use Rattle.ts_reductions.specs.Sound.{parsing_of, IsSoundOver}
use Rattle.ts_places.specs.declared.sights.Span.{Span}
use Rattle.ts_places.specs.declared.sights.Sights.{Sights}
use Rattle.ts_places.specs.ShiftLaws.{LookLaws}
use Rattle.ts_places.specs.Looking.{IsHeadAt, AllStandAt, HasAllAt, IsTopWith, StopsThere, SeesSome, top_with, span_with, SeesThere, IsLastAmong, AreSights, later, AddsSight}
use Rattle.ts_places.proofs.SmallLemmas.{at_contained, read_at, none_contained}
use Rattle.ts_places.proofs.HeadLemmas.{head_sees}

pub same_token : (s u : Symbol) (p q n m : ℕ) → token s p n ≡ token u q m → s ≡ u
same_token s u p q n m e = cc

pub no_absent : (s : Symbol) (p n m : ℕ) → token s p n ≡ absent m → ⊥
no_absent s p n m e = cc

same_far : (n m : ℕ) → absent n ≡ absent m → n ≡ m
same_far n m e = cc

-- nothing is seen by no head
pub none_seen : (t : ParseTable) (text : Bytes) (g : GraphView) (look : ℕ) (s : Sights) → s.tops.items ≡ [] → s.spans.items ≡ [] → s.stop ≡ None → AreSights t text g look [] s
none_seen t text g look s tops spans stop = record {
  stand = λ h there. absurd (none_contained h there);
  some = λ h there. absurd (none_contained h there);
  count = ap (λ (l : List Top). length l) tops ∙ sym (ap (λ (l : List Span). length l) spans);
  each = λ k top span x y. absurd (let low = slice_get_within [] k top (subst (λ (l : List Top). slice_get l k ≡ Some top) tops x) in omega (arith, low));
  all = λ h read symbol pad size there at sees. absurd (none_contained h there);
  stop = subst (λ (o : Option ℕ). IsLastAmong t text g look [] o) (sym stop) (λ h place there s. none_contained h there);
}

module _ (laws : LookLaws) (t : ParseTable) (text : Bytes) (g : GraphView) (sound : IsSoundOver t text g) (look : ℕ) where
  abbrev P : Parsing
  P = parsing_of t text

  -- ---- one head

  token_once : (h : ℕ) (top : Top) (span : Span) (read : List ℕ) (symbol : Symbol) (pad size : ℕ) → top.head ≡ h → IsTopWith t text g look top span → IsAt P g.heads h read look → SeesAt P read look (token symbol pad size) → top.token ≡ symbol
  token_once h top span read symbol pad size e s a sees =
      same_token top.token symbol span.pad pad span.size size
      (head_sees laws t text g sound h look s.read read (token top.token span.pad span.size) (token symbol pad size) (subst (λ (n : ℕ). IsAt P g.heads n s.read look) e s.at) a s.sees sees)

  token_stops : (h stop : ℕ) (top : Top) (span : Span) → top.head ≡ h → IsTopWith t text g look top span → StopsThere t text g look h stop → ⊥
  token_stops h stop top span e s a =
      no_absent top.token span.pad span.size a.far
      (head_sees laws t text g sound h look s.read a.read (token top.token span.pad span.size) (absent a.far) (subst (λ (n : ℕ). IsAt P g.heads n s.read look) e s.at) a.at s.sees a.sees)

  stops_sees : (h stop : ℕ) (read : List ℕ) (symbol : Symbol) (pad size : ℕ) → StopsThere t text g look h stop → IsAt P g.heads h read look → SeesAt P read look (token symbol pad size) → ⊥
  stops_sees h stop read symbol pad size s a sees =
      no_absent symbol pad size s.far (head_sees laws t text g sound h look read s.read (token symbol pad size) (absent s.far) a s.at sees s.sees)

  stops_once : (h stop other : ℕ) → StopsThere t text g look h stop → StopsThere t text g look h other → stop ≡ other
  stops_once h stop other a b =
      let e = same_far a.far b.far (head_sees laws t text g sound h look a.read b.read (absent a.far) (absent b.far) a.at b.at a.sees b.sees) in
      omega (arith, e, a.stop_is, b.stop_is)

  -- ---- one more

  module _ (before : List ℕ) (h : ℕ) (old new : Sights) (a : AreSights t text g look before old) (st : IsHeadAt g look h) where
    abbrev all : List ℕ
    all = before ++ h ∷ []

    more : (x : ℕ) → Contains before x → Contains all x
    more x there = Contains-append_left before (h ∷ []) x there

    own : Contains all h
    own = Contains-push before h

    stand : AllStandAt g look all
    stand x there = by (Contains-push_cases before h x there)
      where
        by : Contains before x ⊎ (h ≡ x) → IsHeadAt g look x
        by (inl w) = a.stand x w
        by (inr e) = subst (λ (n : ℕ). IsHeadAt g look n) e st

    -- each of them sees something
    some_more : SeesSome t text g look h → (x : ℕ) → Contains all x → SeesSome t text g look x
    some_more sees x there = by (Contains-push_cases before h x there)
      where
        by : Contains before x ⊎ (h ≡ x) → SeesSome t text g look x
        by (inl w) = a.some x w
        by (inr e) = subst (λ (n : ℕ). SeesSome t text g look n) e sees

    -- a token is seen there

    module _ (s : Symbol) (pad size extent : ℕ) (sees : IsTopWith t text g look (top_with h s extent) (span_with pad size)) (tops : new.tops.items ≡ old.tops.items ++ top_with h s extent ∷ []) (spans : new.spans.items ≡ old.spans.items ++ span_with pad size ∷ []) (stop : new.stop ≡ old.stop) where
      token_each : (k : ℕ) (top : Top) (span : Span) → slice_get new.tops.items k ≡ Some top → slice_get new.spans.items k ≡ Some span → IsTopWith t text g look top span × Contains all top.head
      token_each k top span x y = by
          (push_cases old.tops.items (top_with h s extent) k top (subst (λ (l : List Top). slice_get l k ≡ Some top) tops x))
          (push_cases old.spans.items (span_with pad size) k span (subst (λ (l : List Span). slice_get l k ≡ Some span) spans y))
        where
          by : ((k < length old.tops.items) × (slice_get old.tops.items k ≡ Some top)) ⊎ ((k ≡ length old.tops.items) × (top_with h s extent ≡ top))
              → ((k < length old.spans.items) × (slice_get old.spans.items k ≡ Some span)) ⊎ ((k ≡ length old.spans.items) × (span_with pad size ≡ span))
              → IsTopWith t text g look top span × Contains all top.head
          by (inl u) (inl v) = let w = a.each k top span u.1 v.1 in (w.0, more top.head w.1)
          by (inl u) (inr v) = let n = a.count in let x = u.0 in let y = v.0 in absurd (omega (arith, n, x, y))
          by (inr u) (inl v) = let n = a.count in let x = u.0 in let y = v.0 in absurd (omega (arith, n, x, y))
          by (inr u) (inr v) = (
            subst (λ (z : Span). IsTopWith t text g look top z) v.1 (subst (λ (z : Top). IsTopWith t text g look z (span_with pad size)) u.1 sees),
            subst (λ (z : Top). Contains all z.head) u.1 own,
          )

      token_all : (x : ℕ) (read : List ℕ) (symbol : Symbol) (p z : ℕ) → Contains all x → IsAt P g.heads x read look → SeesAt P read look (token symbol p z) → (top : Top) × Contains new.tops.items top × (top.head ≡ x) × (top.token ≡ symbol)
      token_all x read symbol p z there at seen = subst (λ (l : List Top). (top : Top) × Contains l top × (top.head ≡ x) × (top.token ≡ symbol)) (sym tops) (by (Contains-push_cases before h x there))
        where
          by : Contains before x ⊎ (h ≡ x) → (top : Top) × Contains (old.tops.items ++ top_with h s extent ∷ []) top × (top.head ≡ x) × (top.token ≡ symbol)
          by (inl w) = let r = a.all x read symbol p z w at seen in (r.0, Contains-append_left old.tops.items (top_with h s extent ∷ []) r.0 r.1, r.2, r.3)
          by (inr e) = (top_with h s extent, Contains-push old.tops.items (top_with h s extent), e, token_once x (top_with h s extent) (span_with pad size) read symbol p z e sees at seen)

      token_last : (o : Option ℕ) → IsLastAmong t text g look before o → IsLastAmong t text g look all o
      token_last None none = λ x stop there stops. by x stop stops (Contains-push_cases before h x there)
        where
          by : (x stop : ℕ) → StopsThere t text g look x stop → Contains before x ⊎ (h ≡ x) → ⊥
          by x stop stops (inl w) = none x stop w stops
          by x stop stops (inr e) = token_stops x stop (top_with h s extent) (span_with pad size) e sees stops
      token_last (Some last) l = ((l.0.0, more l.0.0 l.0.1, l.0.2), (λ x stop there stops. by x stop stops (Contains-push_cases before h x there)))
        where
          by : (x stop : ℕ) → StopsThere t text g look x stop → Contains before x ⊎ (h ≡ x) → stop ≤ last
          by x stop stops (inl w) = l.1 x stop w stops
          by x stop stops (inr e) = absurd (token_stops x stop (top_with h s extent) (span_with pad size) e sees stops)

      pub token_more : AreSights t text g look all new
      token_more = record {
        stand = stand;
        some = some_more (record { read = sees.read; at = sees.at; found = token s pad size; sees = sees.sees });
        count = let n = a.count in let x = ap (λ (l : List Top). length l) tops in let y = ap (λ (l : List Span). length l) spans in omega (arith, n, x, y, length-append old.tops.items (top_with h s extent ∷ []), length-append old.spans.items (span_with pad size ∷ []));
        each = token_each;
        all = token_all;
        stop = subst (λ (o : Option ℕ). IsLastAmong t text g look all o) (sym stop) (token_last old.stop a.stop);
      }

    -- it stops there

    module _ (place : ℕ) (stops : StopsThere t text g look h place) (tops : new.tops.items ≡ old.tops.items) (spans : new.spans.items ≡ old.spans.items) (stop : new.stop ≡ later old.stop place) where
      stop_all : (x : ℕ) (read : List ℕ) (symbol : Symbol) (p z : ℕ) → Contains all x → IsAt P g.heads x read look → SeesAt P read look (token symbol p z) → (top : Top) × Contains old.tops.items top × (top.head ≡ x) × (top.token ≡ symbol)
      stop_all x read symbol p z there at seen = by (Contains-push_cases before h x there)
        where
          by : Contains before x ⊎ (h ≡ x) → (top : Top) × Contains old.tops.items top × (top.head ≡ x) × (top.token ≡ symbol)
          by (inl w) = a.all x read symbol p z w at seen
          by (inr e) = absurd (stops_sees x place read symbol p z (subst (λ (n : ℕ). StopsThere t text g look n place) e stops) at seen)

      own_once : (x other : ℕ) → h ≡ x → StopsThere t text g look x other → other ≡ place
      own_once x other e s = stops_once x other place s (subst (λ (n : ℕ). StopsThere t text g look n place) e stops)

      stop_last : (o : Option ℕ) → IsLastAmong t text g look before o → IsLastAmong t text g look all (later o place)
      stop_last None none = ((h, own, stops), (λ x other there s. by x other s (Contains-push_cases before h x there)))
        where
          by : (x other : ℕ) → StopsThere t text g look x other → Contains before x ⊎ (h ≡ x) → other ≤ place
          by x other s (inl w) = absurd (none x other w s)
          by x other s (inr e) = let k = own_once x other e s in omega (arith, k)
      stop_last (Some last) l = (found (cases_order last place), (λ x other there s. by x other s (Contains-push_cases before h x there)))
        where
          found : (last ≡ place) ⊎ ((last < place) ⊎ (place < last)) → (x : ℕ) × Contains all x × StopsThere t text g look x (max last place)
          found (inl e) = (h, own, subst (λ (n : ℕ). StopsThere t text g look h n) (omega (arith, e)) stops)
          found (inr (inl lt)) = (h, own, subst (λ (n : ℕ). StopsThere t text g look h n) (omega (arith, lt)) stops)
          found (inr (inr lt)) = (l.0.0, more l.0.0 l.0.1, subst (λ (n : ℕ). StopsThere t text g look l.0.0 n) (omega (arith, lt)) l.0.2)

          by : (x other : ℕ) → StopsThere t text g look x other → Contains before x ⊎ (h ≡ x) → other ≤ max last place
          by x other s (inl w) = let k = l.1 x other w s in omega (arith, k)
          by x other s (inr e) = let k = own_once x other e s in omega (arith, k)

      pub stop_more : AreSights t text g look all new
      stop_more = record {
        stand = stand;
        some = some_more (record { read = stops.read; at = stops.at; found = absent stops.far; sees = stops.sees });
        count = ap (λ (l : List Top). length l) tops ∙ a.count ∙ ap (λ (l : List Span). length l) (sym spans);
        each = λ k top span x y. let w = a.each k top span (subst (λ (l : List Top). slice_get l k ≡ Some top) tops x) (subst (λ (l : List Span). slice_get l k ≡ Some span) spans y) in (w.0, more top.head w.1);
        all = λ x read symbol p z there at seen. subst (λ (l : List Top). (top : Top) × Contains l top × (top.head ≡ x) × (top.token ≡ symbol)) (sym tops) (stop_all x read symbol p z there at seen);
        stop = subst (λ (o : Option ℕ). IsLastAmong t text g look all o) (sym stop) (stop_last old.stop a.stop);
      }

  pub add_one : (before : List ℕ) (h : ℕ) (lexed : Lexed) (old new : Sights) → AreSights t text g look before old → IsHeadAt g look h → SeesThere t text g look h lexed → AddsSight h lexed old new → AreSights t text g look (before ++ h ∷ []) new
  add_one before h (Token s pad size extent) old new a st sees adds = token_more before h old new a st s pad size extent sees adds.0 adds.1 adds.2
  add_one before h (Absent place extent) old new a st sees adds = stop_more before h old new a st place sees adds.0 adds.1 adds.2

  -- ---- all of them

  pub all_tops : (heads : List ℕ) (s : Sights) → AreSights t text g look heads s → HasAllAt g look heads → AreTops t text g look s.tops.items
  all_tops heads s a has = record {
    each = λ top there.
        let k = at_contained s.tops.items top there in
        let low = slice_get_within s.tops.items k.0 top k.1 in
        let n = a.count in
        let r = read_at s.spans.items k.0 (omega (arith, low, n)) in
        let w = (a.each k.0 top r.0 k.1 r.1).0 in
        record {
          read = w.read;
          pad = r.0.pad;
          size = r.0.size;
          at = w.at;
          sees = w.sees;
          some = let p = w.past in omega (arith, p);
          reach = w.reach;
        };
    all = λ h read symbol pad size at sees. a.all h read symbol pad size (has h (at.head, at.is, at.place_is)) at sees;
  }
