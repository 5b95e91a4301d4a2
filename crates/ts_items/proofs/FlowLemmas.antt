-- Tokens that spread over edges, by a queue of the symbols that gained one.
use Rattle.std.proofs.Common.{◌≡◌, ◌∙◌, sym, ap, refl, subst, ℕ, ◌+◌, ◌<◌, ◌≤◌, ◌⊎◌, inl, inr, ⊎_elim, List, length, get_or, slice_get, Option, Some, None, arith, All, ◌^◌}
use Rattle.std.specs.Prelude.{MatchOption, ⊤}
use Rattle.std.specs.Global.{Vec}
use Rattle.std.specs.List.{Contains}
use Rattle.std.proofs.lemmas.Bool.{cases_lt}
use Rattle.std.proofs.lemmas.Option.{slice_get_within}
use Rattle.std.proofs.lemmas.List.Elements.{Contains-append_cases}
use Rattle.ts_bits.specs.declared.set.BitSet.{BitSet}
use Rattle.ts_bits.specs.Members.{Marked, Has, IsWide}
use Rattle.ts_items.specs.declared.flow.Edge.{Edge}
use Rattle.ts_items.specs.Rows.{FromOne}
use Rattle.ts_items.specs.Sets.{HasAt, AreWide, GainsTokens, QueuesGains}
use Rattle.ts_items.specs.Flow.{Spread, given, brought, Hands, Brings, HandsOn, Brought, IsEdge, IsNet, Queued, Spreads}
use Rattle.ts_items.proofs.ListLemmas.{at_front, at_back, at_of, one_at, read_at}
use Rattle.ts_items.proofs.GainLemmas.{has_at, gains_same}

-- the queue has the symbol at this place or a later one
pub record Pending (queue : List ℕ) (next y : ℕ) : Type 0 where
  pub place : ℕ
  pub later : next ≤ place
  pub at : slice_get queue place ≡ Some y

-- what the loop over the queue keeps
pub record Flowing (edges : List (Vec Edge)) (gives old sets : List BitSet) (queue : List ℕ) (next : ℕ) : Type 0 where
  pub count : length sets ≡ length old
  pub wide : (n : ℕ) → AreWide n old → AreWide n sets
  pub inside : (y : ℕ) → Contains queue y → y < length old
  pub sound : (y t : ℕ) → HasAt sets y t → Spread (Brings edges gives) (HasAt old) y t
  pub base : (y t : ℕ) → HasAt old y t → HasAt sets y t
  pub done : (y t z u : ℕ) → HasAt sets y t → Brings edges gives y t z u → Pending queue next y ⊎ HasAt sets z u

pub flow_begins : (edges : List (Vec Edge)) (gives old : List BitSet) (queue : List ℕ) → Queued old queue → Flowing edges gives old old queue 0
flow_begins edges gives old queue q = record {
  count = refl;
  wide = λ n w. w;
  inside = q.inside;
  sound = λ y t h. given y t h;
  base = λ y t h. h;
  done = λ y t z u h b. let w = q.begun y t h in inl (record { place = w.0; later = omega arith; at = at_of queue y w });
}

-- what an edge brings from a set comes from one of its tokens
hands_from : (gives : List BitSet) (s : BitSet) (b : Option ℕ) (t u : ℕ) → Has s t → HandsOn gives s b u → (v : ℕ) × Has s v × Hands gives b v u
hands_from gives s None t u has h = (u, h, refl)
hands_from gives s (Some x) t u has h = (t, has, h)

hands_on : (gives : List BitSet) (s : BitSet) (b : Option ℕ) (t u : ℕ) → Has s t → Hands gives b t u → HandsOn gives s b u
hands_on gives s None t u has h = subst (Has s) h has
hands_on gives s (Some x) t u has h = h

-- some token, and what an edge of the row brings
abbrev pub FromSome : List BitSet → BitSet → List Edge → ℕ → ℕ → Type 0
FromSome gives s row z u = ((t : ℕ) × Has s t) × FromOne (Brought gives s) row z u

-- what is handed over, by the kinds of edges
hands_same : (gives : List BitSet) (a b : BitSet) (o : Option ℕ) (u : ℕ) → a.words.items ≡ b.words.items → HandsOn gives a o u → HandsOn gives b o u
hands_same gives a b None u same h = subst (λ (l : List ℕ). Marked l u) same h
hands_same gives a b (Some x) u same h = h

from_same : (gives : List BitSet) (a b : BitSet) (es fs : List Edge) (z u : ℕ) → a.words.items ≡ b.words.items → es ≡ fs → FromSome gives a es z u → FromSome gives b fs z u
from_same gives a b es fs z u same rows h = (
  (h.0.0, subst (λ (l : List ℕ). Marked l h.0.0) same h.0.1),
  record { by = h.1.by; there = subst (λ (l : List Edge). Contains l h.1.by) rows h.1.there; gives = (h.1.gives.0, hands_same gives a b h.1.by.behind u same h.1.gives.1) },
)

pub hand_some : (gives : List BitSet) (from : BitSet) (e : Edge) (x at : ℕ) (s : BitSet) (sets new : List BitSet) → e.behind ≡ Some x → at ≡ x → MatchOption e.behind ⊤ (λ z. z < length gives) → s ≡ get_or gives at s → GainsTokens (λ y t. (y ≡ e.to) × Has s t) sets new
    → GainsTokens (Brought gives from e) sets new
hand_some gives from e x at s sets new is place inside read gains =
    let below : x < length gives = subst (λ (o : Option ℕ). MatchOption o ⊤ (λ z. z < length gives)) is inside in
    let here : slice_get gives x ≡ Some s = subst (λ (k : ℕ). slice_get gives k ≡ Some s) place (read_at gives at s (omega (arith, below, place)) read) in
    gains_same (λ y t. (y ≡ e.to) × Has s t) (Brought gives from e) sets new gains
    (λ y t h. (h.0, subst (λ (o : Option ℕ). HandsOn gives from o t) (sym is) ((has_at gives x s here t).1 h.1)))
    (λ y t h. (h.0, (has_at gives x s here t).0 (subst (λ (o : Option ℕ). HandsOn gives from o t) is h.1)))

pub hand_none : (gives : List BitSet) (from : BitSet) (e : Edge) (sets new : List BitSet) → e.behind ≡ None → GainsTokens (λ y t. (y ≡ e.to) × Has from t) sets new → GainsTokens (Brought gives from e) sets new
hand_none gives from e sets new is gains =
    gains_same (λ y t. (y ≡ e.to) × Has from t) (Brought gives from e) sets new gains
    (λ y t h. (h.0, subst (λ (o : Option ℕ). HandsOn gives from o t) (sym is) h.1))
    (λ y t h. (h.0, subst (λ (o : Option ℕ). HandsOn gives from o t) is h.1))

pub wide_same : (n : ℕ) (s r : BitSet) → r.words.items ≡ s.words.items → IsWide n s → IsWide n r
wide_same n s r same w = record { words = ap (λ (l : List ℕ). length l) same ∙ w.words; small = subst (λ (l : List ℕ). All (λ x. x < 2 ^ 64) l) (sym same) w.small }

pub edge_there : (gives : List BitSet) (m n : ℕ) (e : Edge) → n ≡ m → IsEdge gives m e → IsEdge gives n e
edge_there gives m n e same i = subst (λ (k : ℕ). IsEdge gives k e) (sym same) i

module _ (edges : List (Vec Edge)) (gives old : List BitSet) where
  sound_more : (sets new : List BitSet) (y : ℕ) (s : BitSet) (row : Vec Edge) → ((z t : ℕ) → HasAt sets z t → Spread (Brings edges gives) (HasAt old) z t) → slice_get sets y ≡ Some s → slice_get edges y ≡ Some row
      → GainsTokens (FromSome gives s row.items) sets new → (z u : ℕ) → HasAt new z u → Spread (Brings edges gives) (HasAt old) z u
  sound_more sets new y s row sound is at gains z u h = ⊎_elim (λ w. sound z u w) (λ w. more w.1.0 w.1.1) ((gains.members z u).0 h)
    where
      more : ((t : ℕ) × Has s t) → FromOne (Brought gives s) row.items z u → Spread (Brings edges gives) (HasAt old) z u
      more some each =
          let v = hands_from gives s each.by.behind some.0 u some.1 each.gives.1 in
          brought y v.0 z u (sound y v.0 (record { set = s; at = is; has = v.1 })) (record { edge = each.by; there = record { row = row; at = at; has = each.there }; to = sym each.gives.0; hands = v.2 })

  pub flow_more : (sets new : List BitSet) (queue longer : List ℕ) (next y : ℕ) (s : BitSet) (row : Vec Edge) → IsNet edges gives (length old) → slice_get queue next ≡ Some y → slice_get sets y ≡ Some s → slice_get edges y ≡ Some row
      → Flowing edges gives old sets queue next → GainsTokens (FromSome gives s row.items) sets new → QueuesGains sets new queue longer → Flowing edges gives old new longer (next + 1)
  flow_more sets new queue longer next y s row net here is at before gains tells = record {
    count = gains.count ∙ before.count;
    wide = λ n w. gains.wide n (before.wide n w);
    inside = λ z h. ⊎_elim (λ w. before.inside z w) (λ w. let lt = tells.inside z w in omega (arith, lt, before.count)) (in_longer z h);
    sound = sound_more sets new y s row before.sound is at gains;
    base = λ z t h. kept z t (before.base z t h);
    done = λ z t v u h b. ⊎_elim (λ w. inl (pending_new z w)) (λ w. from_stays z t v u (w t h) b) (tells.told z);
  }
    where
      in_longer : (z : ℕ) → Contains longer z → Contains queue z ⊎ Contains tells.more z
      in_longer z h = Contains-append_cases queue tells.more z (subst (λ (l : List ℕ). Contains l z) tells.is h)

      kept : (z t : ℕ) → HasAt sets z t → HasAt new z t
      kept z t h = (gains.members z t).1 (inl h)

      within : next < length queue
      within = slice_get_within queue next y here

      pending_new : (z : ℕ) → Contains tells.more z → Pending longer (next + 1) z
      pending_new z w = record { place = length queue + w.0; later = omega (arith, within); at = ap (λ (l : List ℕ). slice_get l (length queue + w.0)) tells.is ∙ at_back queue tells.more w.0 (length queue + w.0) refl ∙ at_of tells.more z w }

      pending_old : (z k : ℕ) → next + 1 ≤ k → slice_get queue k ≡ Some z → Pending longer (next + 1) z
      pending_old z k le e = record { place = k; later = le; at = ap (λ (l : List ℕ). slice_get l k) tells.is ∙ at_front queue tells.more k (slice_get_within queue k z e) ∙ e }

      -- what the symbol's own edges bring is there now
      brings_here : (t v u : ℕ) → HasAt sets y t → Brings edges gives y t v u → HasAt new v u
      brings_here t v u h b =
          let has : Has s t = (has_at sets y s is t).0 h in
          let same : b.there.row ≡ row = one_at edges y b.there.row row b.there.at at in
          let each : FromOne (Brought gives s) row.items v u = record {
            by = b.edge;
            there = subst (λ (r : Vec Edge). Contains r.items b.edge) same b.there.has;
            gives = (sym b.to, hands_on gives s b.edge.behind t u has b.hands);
          } in
          let lt = (net.each y b.edge b.there).to in
          (gains.members v u).1 (inr (omega (arith, lt, b.to, before.count), ((t, has), each)))

      from_stays : (z t v u : ℕ) → HasAt sets z t → Brings edges gives z t v u → Pending longer (next + 1) z ⊎ HasAt new v u
      from_stays z t v u h b = ⊎_elim
          (λ p. ⊎_elim
          (λ lt. inl (pending_old z p.place (omega (arith, lt)) p.at))
          (λ ge.
          let eq : p.place ≡ next = omega (arith, ge, p.later) in
          let one : z ≡ y = one_at queue next z y (subst (λ (k : ℕ). slice_get queue k ≡ Some z) eq p.at) here in
          inr (brings_here t v u (subst (λ (k : ℕ). HasAt sets k t) one h) (subst (λ (k : ℕ). Brings edges gives k t v u) one b)))
          (cases_lt next p.place))
          (λ w. inr (kept v u w)) (before.done z t v u h b)

  pub flow_step : (sets new : List BitSet) (queue longer : List ℕ) (next y : ℕ) (s copy : BitSet) (row : Vec Edge) (es : List Edge) → IsNet edges gives (length old) → slice_get queue next ≡ Some y → slice_get sets y ≡ Some s → copy.words.items ≡ s.words.items
      → slice_get edges y ≡ Some row → es ≡ row.items → Flowing edges gives old sets queue next → GainsTokens (FromSome gives copy es) sets new → QueuesGains sets new queue longer → Flowing edges gives old new longer (next + 1)
  flow_step sets new queue longer next y s copy row es net here is same at rows before gains tells =
      flow_more sets new queue longer next y s row net here is at before
      (gains_same (FromSome gives copy es) (FromSome gives s row.items) sets new gains (λ z u h. from_same gives copy s es row.items z u same rows h) (λ z u h. from_same gives s copy row.items es z u (sym same) (sym rows) h)) tells

  pub flow_ends : (sets : List BitSet) (queue : List ℕ) (next : ℕ) → length queue ≤ next → Flowing edges gives old sets queue next → Spreads edges gives old sets
  flow_ends sets queue next past f = record { count = f.count; wide = f.wide; members = λ y t. ((λ h. f.sound y t h), (λ s. all y t s)) }
    where
      all : (y t : ℕ) → Spread (Brings edges gives) (HasAt old) y t → HasAt sets y t
      all y t (given _ _ h) = f.base y t h
      all z u (brought y t _ _ s b) = ⊎_elim (λ p. absurd (let lt = slice_get_within queue p.place y p.at in omega (arith, lt, p.later, past))) (λ w. w) (f.done y t z u (all y t s) b)
