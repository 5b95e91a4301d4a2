-- What a pass knows, and may give back, once it has taken a turn for a look or an offer.
use Rattle.std.proofs.Common.{Some, ◌≡◌, ◌∙◌, sym, ap, refl, subst, ℕ, ◌+◌, ◌<◌, ◌≤◌, true, List, [], ◌∷◌, ◌++◌, length, All, length-append, ⊎_elim, arith}
use Rattle.std.proofs.lemmas.List.{append-nil}
use Rattle.std.proofs.lemmas.Bool.{cases_lt}
use Rattle.std.proofs.lemmas.List.Elements.{All-nil, All-push, All-weaker}
use Rattle.ts_shelf.specs.declared.journal.Entry.{Entry}
use Rattle.ts_shelf.specs.declared.view.Knowledge.{Knowledge}
use Rattle.ts_shelf.specs.declared.view.View.{View}
use Rattle.ts_shelf.specs.Calls.{TakesTurn, Looked, Publishes, IsNewer, ShowsLatest}
use Rattle.ts_shelf.specs.Entries.{most_turns, RisesWithin}
use Rattle.ts_shelf.specs.Latest.{latest_of}
use Rattle.ts_shelf.specs.Machine.{Event, look, offer, used_by, Response, shown, added, overtaken, IsTurn}
use Rattle.ts_shelf.specs.Passes.{IsPass}
use Rattle.ts_shelf.specs.Rule.{FitsHistory}
use Rattle.ts_shelf.specs.Steps.{HasTurn, HasOffered}
use Rattle.ts_shelf.specs.Views.{Seated, told_view, holding, after_turn, after_turn_known, IsLive, IsIdle}
use Rattle.ts_shelf.proofs.RisingEntries.{rises_le, rises_one, rises_append}

empty_of : {A : Type 0} (xs : List A) → length xs ≡ 0 → xs ≡ []
empty_of [] e = refl
empty_of (x ∷ xs) e = absurd (omega arith)

le_more : (t : ℕ) → t ≤ t + 1
le_more t = omega arith

module _ {S I : Type 0} where
  -- what is known where more turns are known to be over
  abbrev reaching : Knowledge S I → ℕ → Knowledge S I
  reaching k r = record k { reached = r }

  -- a pass that has seen all entries before the turn, and then those after it, took the turn
  turned : (k : Knowledge S I) (r t : ℕ) (event : Event I) (response : Response)
      (before after : List (Entry I)) → k.reached ≤ r
      → FitsHistory t before (reaching k r) → t < most_turns → IsTurn t before event response after
      → used_by event ≤ k.offers
      → TakesTurn k (after_turn_known (reaching k r) t after (used_by event)) t event response
  turned k r t event response before after more f few done some_left = record {
    before = before;
    extends = (f.rest, f.is, f.late);
    event_is = done;
    few = few;
    above = All-weaker (λ x. x < k.turn) (λ x. x < t)
        (λ x lt. let a = rises_le k.turn t f.rest f.late in omega arith) k.taken f.taken;
    late = (let a = f.reached in omega arith);
    taken = refl;
    next = refl;
    reached = refl;
    offers = omega arith;
    rank = (refl, refl);
    opening = refl;
  }

module _ {J S I : Type 0} (entries : J → List (Entry I)) (room : J → ℕ) (opening : J → S)
    (fits : S → I → Type 0) where
  abbrev Has : View S I → ℕ → Seated J S I → Type 0
  Has = HasTurn entries room opening fits

  -- the pass has seen all entries after the turn
  pass_after : (v : View S I) (t used : ℕ) (m : Seated J S I) (after : List (Entry I))
      → (k : Has v t m) → RisesWithin 0 (t + 1) after
      → All (λ e. fits (opening k.journal) e.item) after
      → IsPass fits (after_turn_known v.knows t after used)
  pass_after v t used m after k rises fit = record {
    opening = opening k.journal;
    opens = k.opens;
    fit = fit;
    rises = rises;
    taken = All-push (λ x. x < t + 1) v.knows.taken t
        (All-weaker (λ x. x < v.knows.turn) (λ x. x < t + 1)
        (λ x lt. let a =
        rises_le v.knows.turn t k.agrees.rest k.agrees.late in omega arith) v.knows.taken
        k.agrees.taken)
        (omega arith);
    known = le_self (t + 1);
    few = (let a = k.few in omega arith);
  }
    where
      le_self : (n : ℕ) → n ≤ n
      le_self n = omega arith

  same_after : (v : View S I) (t used : ℕ) (m : Seated J S I) → (k : Has v t m)
      → IsPass fits (after_turn_known v.knows t (entries k.journal) used)
  same_after v t used m k =
      pass_after v t used m (entries k.journal) k
      (subst (RisesWithin 0 (t + 1)) (append-nil (entries k.journal))
      (rises_append 0 t (t + 1) (entries k.journal) [] k.rises (le_more t))) k.all_fit

  view_of : (v : View S I) (t : ℕ) (m n : Seated J S I) → (k : Has v t m) → n ≡ m
      → n.0 ≡ holding v t (entries k.journal) (room k.journal)
  view_of v t m n k same = ap (λ (x : Seated J S I). x.0) same ∙ k.view

  known_after : (v : View S I) (t used : ℕ) (m : Seated J S I) (n w : View S I)
      (es : List (Entry I)) → (k : Has v t m) → n ≡ m.0
      → w ≡ after_turn n es used → w.knows ≡ after_turn_known v.knows t es used
  known_after v t used m n w es k same is =
      ap (λ (x : View S I). x.knows) is
      ∙ ap (λ (x : View S I). after_turn_known x.knows x.notes.held_turn es used)
      (same ∙ k.view)

  -- what a look tells
  pub look_tells : (old : View S I) (r t number : ℕ) (m n : Seated J S I) (w : View S I)
      → old.knows.reached ≤ r → Has (told_view old r) t m → n ≡ m
      → w ≡ after_turn n.0 n.0.notes.held_entries 0
      → ((j : J) → m.1 ≡ (0, j) ∷ [] → number ≡ length (entries j))
      → Looked old.knows w.knows t number × IsPass fits w.knows
  look_tells old r t number m n w more k same is count =
      let es : List (Entry I) = entries k.journal in
      let came : n.0.notes.held_entries ≡ es =
      ap (λ (x : View S I). x.notes.held_entries) (view_of (told_view old r) t m n k same) in
      let known : w.knows ≡ after_turn_known (reaching old.knows r) t es 0 =
      known_after (told_view old r) t 0 m n.0 w es k (ap (λ (x : Seated J S I). x.0) same)
      (is ∙ ap (λ (l : List (Entry I)). after_turn n.0 l 0) came) in
      let number_is = count k.journal k.carried in
      let done : IsTurn t es look (shown number) es =
      record { smaller = k.rises; done = record { number_is = number_is; same = refl } } in (
        subst (λ (x : Knowledge S I). Looked old.knows x t number) (sym known)
            (record {
              turned =
                  turned old.knows r t look (shown number) es es more k.agrees k.few done
                  (omega arith);
              number_is = number_is;
            }),
        subst (IsPass fits) (sym known) (same_after (told_view old r) t 0 m k),
      )

  -- what an offer tells, where the journal has more entries than the base
  pub newer_tells : (old : View S I) (r t base number : ℕ) (item : I) (m n w : Seated J S I)
      → old.knows.reached ≤ r → Has (told_view old r) t m → n ≡ m
      → ((j : J) → n.1 ≡ (0, j) ∷ [] → w ≡ (after_turn n.0 (entries j) 1, []))
      → ((j : J) → m.1 ≡ (0, j) ∷ [] → number ≡ length (entries j)) → base ≤ length old.knows.seen
      → (number ≡ base → ⊥) → 0 < old.knows.offers
      → IsNewer old.knows w.0.knows base item t number × IsPass fits w.0.knows
  newer_tells old r t base number item m n w more k same is count seen apart some_left =
      let es : List (Entry I) = entries k.journal in
      let after = is k.journal (ap (λ (x : Seated J S I). x.1) same ∙ k.carried) in
      let known : w.0.knows ≡ after_turn_known (reaching old.knows r) t es 1 =
      known_after (told_view old r) t 1 m n.0 w.0 es k (ap (λ (x : Seated J S I). x.0) same)
      (ap (λ (x : Seated J S I). x.0) after) in
      let size : length es ≡ length old.knows.seen + length k.agrees.rest =
      ap (λ (l : List (Entry I)). length l) k.agrees.is
      ∙ length-append old.knows.seen k.agrees.rest in
      let number_is = count k.journal k.carried in
      let above : base < number =
      ⊎_elim (λ lt. lt) (λ le. absurd (apart (omega arith))) (cases_lt base number) in
      let done : IsTurn t es (offer base item) (overtaken number) es =
      record {
        smaller = k.rises;
        done =
            record { more = (omega arith); number_is = number_is; same = refl };
      } in (
        subst (λ (x : Knowledge S I). IsNewer old.knows x base item t number) (sym known)
            (record {
              turned =
                  turned old.knows r t (offer base item)
                  (overtaken number) es es more k.agrees k.few done
                  (omega arith);
              number_is = number_is;
              more = above;
            }),
        subst (IsPass fits) (sym known) (same_after (told_view old r) t 1 m k),
      )

  -- what an offer tells, where the journal has just the base's entries
  pub published_tells : (old : View S I) (r t base before number : ℕ) (item : I)
      (m n w : Seated J S I) (j' : J) → old.knows.reached ≤ r
      → (k : Has (told_view old r) t m) → n ≡ (m.0, (0, j') ∷ [])
      → entries j' ≡ entries k.journal ++ record { turn = t; item = item } ∷ []
      → ((j : J) → n.1 ≡ (0, j) ∷ [] → w ≡ (after_turn n.0 (entries j) 1, []))
      → ((j : J) → m.1 ≡ (0, j) ∷ [] → before ≡ length (entries j))
      → before ≡ base → number ≡ length (entries j') → base ≤ length old.knows.seen
      → ((o : S) → old.knows.opening ≡ Some o → fits o item) → 0 < old.knows.offers
      → Publishes old.knows w.0.knows base item t number × IsPass fits w.0.knows
  published_tells old r t base before number item m n w j' more k same grown is count equal size
      seen fit some_left =
      let es : List (Entry I) = entries k.journal in
      let e : Entry I = record { turn = t; item = item } in
      let after =
      ap (λ (x : Seated J S I). x.0) (is j' (ap (λ (x : Seated J S I). x.1) same))
      ∙ ap (λ (l : List (Entry I)). after_turn n.0 l 1) grown in
      let known : w.0.knows ≡ after_turn_known (reaching old.knows r) t (es ++ e ∷ []) 1 =
      known_after (told_view old r) t 1 m n.0 w.0 (es ++ e ∷ []) k
      (ap (λ (x : Seated J S I). x.0) same) after in
      let had = count k.journal k.carried in
      let long : length (entries j') ≡ length es + 1 =
      ap (λ (l : List (Entry I)). length l) grown ∙ length-append es (e ∷ []) in
      let parts : length es ≡ length old.knows.seen + length k.agrees.rest =
      ap (λ (l : List (Entry I)). length l) k.agrees.is
      ∙ length-append old.knows.seen k.agrees.rest in
      let none : k.agrees.rest ≡ [] = empty_of k.agrees.rest (omega arith) in
      let all_seen : es ≡ old.knows.seen = k.agrees.is
      ∙ ap (λ (l : List (Entry I)). old.knows.seen ++ l) none ∙ append-nil old.knows.seen in
      let done : IsTurn t es (offer base item) (added number) (es ++ e ∷ []) =
      record {
        smaller = k.rises;
        done =
            record { had = (omega arith); number_is = (omega arith); adds = refl };
      } in (
        subst (λ (x : Knowledge S I). Publishes old.knows x base item t number) (sym known)
            (record {
              turned = turned old.knows r t (offer base item) (added number) es
                  (es ++ e ∷ []) more k.agrees k.few done (omega arith);
              known = (omega arith);
              adds = ap (λ (l : List (Entry I)). l ++ e ∷ []) all_seen;
            }),
        subst (IsPass fits) (sym known)
            (pass_after (told_view old r) t 1 m (es ++ e ∷ []) k
            (rises_append 0 t (t + 1) es (e ∷ []) k.rises (rises_one t item))
            (All-push (λ (x : Entry I). fits (opening k.journal) x.item) es e k.all_fit
            (fit (opening k.journal) k.opens))),
      )

  -- the journal may be given back with the new entry
  pub as_offered : (old : View S I) (r t : ℕ) (item : I) (m n : Seated J S I) (j' : J)
      → (k : Has (told_view old r) t m) → n ≡ (m.0, (0, j') ∷ [])
      → entries j' ≡ entries k.journal ++ record { turn = t; item = item } ∷ []
      → room j' + 1 ≡ room k.journal → opening j' ≡ opening k.journal
      → ((o : S) → old.knows.opening ≡ Some o → fits o item) → 0 < old.knows.offers
      → HasOffered entries room opening fits t n
  as_offered old r t item m n j' k same grown room' opens fit some_left =
      let view : n.0 ≡ holding (told_view old r) t (entries k.journal) (room k.journal) =
      ap (λ (x : Seated J S I). x.0) same ∙ k.view in
      let e : Entry I = record { turn = t; item = item } in
      let Fit : Entry I → Type 0 = (λ (e : Entry I). fits (opening j') e.item) in
      record {
        holds = subst
            (λ (x : View S I). (x.notes.holds ≡ true) × (x.notes.held_turn ≡ t) × (t < most_turns))
            (sym view) (refl, refl, k.few);
        journal = j';
        carried = ap (λ (x : Seated J S I). x.1) same;
        more = e ∷ [];
        is = grown
            ∙ ap (λ (l : List (Entry I)). l ++ e ∷ [])
            (ap (λ (x : View S I). x.notes.held_entries) (sym view));
        late = rises_one t item;
        offers = (let o = ap (λ (x : View S I). x.knows.offers) view in omega arith);
        opens = ap (λ (x : View S I). x.knows.opening) view ∙ k.opens ∙ ap Some (sym opens);
        new_fit = All-push Fit [] e (All-nil Fit)
            (subst (λ (o : S). fits o item) (sym opens) (fit (opening k.journal) k.opens));
        room_left = (let o = ap (λ (x : View S I). x.notes.held_room) view in omega arith);
      }

  -- what is shown is the last item's, or the opening's
  pub latest_tells : (shown_of : I → S) (v : View S I) (t used : ℕ) (m n : Seated J S I)
      (w : View S I) (x : S) → (k : Has v t m) → n ≡ m
      → w ≡ after_turn n.0 (entries k.journal) used
      → x ≡ latest_of shown_of (opening k.journal) (entries k.journal)
      → ShowsLatest shown_of w.knows x
  latest_tells shown_of v t used m n w x k same after is o opens =
      let known =
      known_after v t used m n.0 w (entries k.journal) k
      (ap (λ (x : Seated J S I). x.0) same) after in
      let seen : w.knows.seen ≡ entries k.journal = ap (λ (u : Knowledge S I). u.seen) known in
      let opened : w.knows.opening ≡ v.knows.opening =
      ap (λ (u : Knowledge S I). u.opening) known in
      let both : Some (opening k.journal) ≡ Some o = sym k.opens ∙ sym opened ∙ opens in
      let one : opening k.journal ≡ o = cc in
      is ∙ ap (λ (y : S). latest_of shown_of y (entries k.journal)) one
      ∙ ap (latest_of shown_of o) (sym seen)

  -- once the turn is over, the pass is idle
  pub idle_after : (v : View S I) (t used : ℕ) (m w : Seated J S I) (n : View S I)
      (es : List (Entry I)) → IsLive v → Has v t m → n ≡ m.0
      → w ≡ (after_turn n es used, []) → IsIdle w
  idle_after v t used m w n es live k same is =
      let view : w.0 ≡ after_turn (holding v t (entries k.journal) (room k.journal)) es used =
      ap (λ (x : Seated J S I). x.0) is
      ∙ ap (λ (u : View S I). after_turn u es used) (same ∙ k.view) in (
        ap (λ (x : Seated J S I). x.1) is,
        ap (λ (x : View S I). x.notes.holds) view,
        (λ z o. live (sym (ap (λ (x : View S I). x.knows.first) view) ∙ z)
            (sym (ap (λ (x : View S I). x.notes.other) view) ∙ o)),
      )
