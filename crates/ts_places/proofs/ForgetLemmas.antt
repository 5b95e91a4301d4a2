-- What is known of the first keys of reductions, after some more keys were done.
use Rattle.std.proofs.Common.{◌≡◌, ◌∙◌, sym, ap, refl, subst, ℕ, ◌+◌, ◌<◌, ◌≤◌, ◌⊎◌, inl, inr, Bool, true, false, List, length, set, slice_get, Some, arith}
use Rattle.std.specs.List.{Contains}
use Rattle.std.proofs.lemmas.Bool.{cases_order}
use Rattle.std.proofs.lemmas.Option.{slice_get_within}
use Rattle.ts_base.proofs.PlaceLemmas.{set_here, set_there}
use Rattle.spec_graph.specs.declared.graph.Link.{Link}
use Rattle.ts_graph.specs.declared.view.GraphView.{GraphView}
use Rattle.ts_table.specs.declared.view.ParseTable.{ParseTable}
use Rattle.ts_reductions.specs.declared.batch.Batch.{Batch}
use Rattle.ts_reductions.specs.declared.top.Top.{Top}
use Rattle.ts_reductions.specs.Asking.{HasReduction, ByNumber}
use Rattle.ts_places.specs.declared.seeking.Seek.{Seek}
use Rattle.ts_places.specs.declared.seeking.Due.{Due}
use Rattle.ts_places.specs.declared.seeking.First.{First}
use Rattle.ts_places.specs.declared.seeking.First.TheVariants.{Unknown, Nothing, Is}
use Rattle.ts_places.specs.Turns.{turn_of, HasTurnFrom}
use Rattle.ts_places.specs.Seeking.{IsSought, IsFirst, IsDue, AreDue, WereDue}
use Rattle.ts_places.proofs.SmallLemmas.{at_contained, contained_at, read_at}

pub must_stay : (stay : Bool) → (stay ≡ false → ⊥) → stay ≡ true
must_stay true other = refl
must_stay false other = absurd (other refl)

-- a key that is sought after a turn is sought after a later one
wider : (t : ParseTable) (g : GraphView) (before seek : Seek) → before.look ≡ seek.look → seek.below ≤ before.below → (A : Top → ℕ → List Link → ℕ → Type 0) (k : Batch) → IsSought t g seek A k → IsSought t g before A k
wider t g before seek look later A k s = record {
  top = s.top;
  number = s.number;
  way = s.way;
  b = s.b;
  means = s.means;
  asked = s.asked;
  look_is = s.look_is ∙ sym look;
  after = let a = s.after in omega (arith, a, later);
}

narrower : (t : ParseTable) (g : GraphView) (before seek : Seek) → before.look ≡ seek.look → (A : Top → ℕ → List Link → ℕ → Type 0) (k : Batch) → turn_of k.begins k.rank < seek.below → IsSought t g before A k → IsSought t g seek A k
narrower t g before seek look A k lt s = record {
  top = s.top;
  number = s.number;
  way = s.way;
  b = s.b;
  means = s.means;
  asked = s.asked;
  look_is = s.look_is ∙ look;
  after = lt;
}

module _ (t : ParseTable) (old new : GraphView) (before seek : Seek) (tops : List Top) (stay : Bool) (was : List Due) (were : WereDue t old new before seek tops stay was) where
  -- the first so many were found anew
  pub record ForgotTo (k : ℕ) (dues : List Due) : Type 0 where
    pub count : length dues ≡ length was
    pub each : (j : ℕ) (d : Due) → slice_get dues j ≡ Some d → (o : Due) × (slice_get was j ≡ Some o) × (d.top ≡ o.top) × (d.number ≡ o.number)
        × (k ≤ j → d.first ≡ o.first) × (j < k → IsFirst t new seek d.top d.number d.first)

  was_due : (j : ℕ) (o : Due) → slice_get was j ≡ Some o → Contains tops o.top × IsDue t old before o
  was_due j o at = were.due.each o (subst (λ (l : List Due). Contains l o) were.due.is (contained_at was j o at))

  has_by : (d o : Due) → Contains tops o.top × IsDue t old before o → d.top ≡ o.top → d.number ≡ o.number → HasReduction t new d.top d.number
  has_by d o due top_is number_is = subst (λ (u : Top). HasReduction t new u d.number) (sym top_is) (subst (λ (n : ℕ). HasReduction t new o.top n) (sym number_is) ((were.keeps o.top o.number due.0).1 due.1.0))

  pub forget_first : ForgotTo 0 was
  forget_first = record { count = refl; each = λ j d at. (d, at, refl, refl, (λ le. refl), (λ lt. absurd (omega (arith, lt)))) }

  -- what is known of the reduction whose turn it is
  module _ (k : ℕ) (dues : List Due) (r : ForgotTo k dues) (d : Due) (at : slice_get dues k ≡ Some d) where
    abbrev o : Due
    o = (r.each k d at).0

    o_due : Contains tops o.top × IsDue t old before o
    o_due = was_due k o (r.each k d at).1

    top_is : d.top ≡ o.top
    top_is = (r.each k d at).2

    number_is : d.number ≡ o.number
    number_is = (r.each k d at).3

    -- a key that is left is still the first
    still : stay ≡ true → (HasTurnFrom seek.below d.first → ⊥) → IsFirst t new seek d.top d.number d.first
    still none left = subst (λ (u : Top). IsFirst t new seek u d.number d.first) (sym top_is) (subst (λ (n : ℕ). IsFirst t new seek o.top n d.first) (sym number_is) (by d.first refl))
      where
        same : d.first ≡ o.first
        same = (r.each k d at).4 (omega arith)

        back : (j : Batch) → IsSought t new seek (ByNumber o.top o.number) j → IsSought t old before (ByNumber o.top o.number) j
        back j h = wider t old before seek were.look_is were.later (ByNumber o.top o.number) j ((were.stays none o.top o.number j o_due.0).0 h)

        was_first : (n : First) → d.first ≡ n → IsFirst t old before o.top o.number n
        was_first n e = subst (λ (x : First). IsFirst t old before o.top o.number x) (sym same ∙ e) o_due.1.1

        by : (n : First) → d.first ≡ n → IsFirst t new seek o.top o.number n
        by Unknown e = tt
        by Nothing e = λ j h. was_first Nothing e j (back j h)
        by (Is i) e = (
          (were.stays none o.top o.number i o_due.0).1 (narrower t old before seek were.look_is (ByNumber o.top o.number) i (low i e) (was_first (Is i) e).0),
          λ j h. (was_first (Is i) e).1 j (back j h),
        )
          where
            low : (i : Batch) → d.first ≡ Is i → turn_of i.begins i.rank < seek.below
            low i e = by_order (cases_order (turn_of i.begins i.rank) seek.below)
              where
                high : seek.below ≤ turn_of i.begins i.rank → ⊥
                high le = left (subst (λ (x : First). HasTurnFrom seek.below x) (sym e) le)

                by_order : (turn_of i.begins i.rank ≡ seek.below) ⊎ ((turn_of i.begins i.rank < seek.below) ⊎ (seek.below < turn_of i.begins i.rank)) → turn_of i.begins i.rank < seek.below
                by_order (inl f) = absurd (high (omega (arith, f)))
                by_order (inr (inl l)) = l
                by_order (inr (inr m)) = absurd (high (omega (arith, m)))

    each_on : IsFirst t new seek d.top d.number d.first → ForgotTo (k + 1) dues
    each_on next = record { count = r.count; each = λ j x is. by j x is (cases_order j k) }
      where
        by : (j : ℕ) (x : Due) → slice_get dues j ≡ Some x → (j ≡ k) ⊎ ((j < k) ⊎ (k < j)) → (o : Due) × (slice_get was j ≡ Some o) × (x.top ≡ o.top) × (x.number ≡ o.number) × (k + 1 ≤ j → x.first ≡ o.first) × (j < k + 1 → IsFirst t new seek x.top x.number x.first)
        by j x is (inl e) =
            let w = r.each j x is in
            let f : Some d ≡ Some x = sym at ∙ ap (λ (n : ℕ). slice_get dues n) (sym e) ∙ is in
            let same : d ≡ x = cc in
            (w.0, w.1, w.2, w.3, (λ le. absurd (omega (arith, le, e))), (λ lt. subst (λ (y : Due). IsFirst t new seek y.top y.number y.first) same next))
        by j x is (inr (inl l)) = let w = r.each j x is in (w.0, w.1, w.2, w.3, (λ le. absurd (omega (arith, le, l))), (λ lt. w.5 l))
        by j x is (inr (inr m)) = let w = r.each j x is in (w.0, w.1, w.2, w.3, (λ le. w.4 (omega (arith, m))), (λ lt. absurd (omega (arith, lt, m))))

    -- it stays as it is
    pub forget_stays : stay ≡ true → (HasTurnFrom seek.below d.first → ⊥) → ForgotTo (k + 1) dues
    forget_stays none left = each_on (still none left)

    -- it gets another key
    pub forget_sets : (v : Due) → v.top ≡ d.top → v.number ≡ d.number → IsFirst t new seek d.top d.number v.first → (more : List Due) → more ≡ set dues k v → length more ≡ length dues → ForgotTo (k + 1) more
    forget_sets v v_top v_number next more more_is many = record { count = many ∙ r.count; each = λ j x is. by j x (subst (λ (l : List Due). slice_get l j ≡ Some x) more_is is) (cases_order j k) }
      where
        there : (j : ℕ) (x : Due) → slice_get (set dues k v) j ≡ Some x → (j ≡ k → ⊥) → slice_get dues j ≡ Some x
        there j x is other = sym (set_there dues k j v other) ∙ is

        own : IsFirst t new seek v.top v.number v.first
        own = subst (λ (u : Top). IsFirst t new seek u v.number v.first) (sym v_top) (subst (λ (n : ℕ). IsFirst t new seek d.top n v.first) (sym v_number) next)

        by : (j : ℕ) (x : Due) → slice_get (set dues k v) j ≡ Some x → (j ≡ k) ⊎ ((j < k) ⊎ (k < j)) → (o : Due) × (slice_get was j ≡ Some o) × (x.top ≡ o.top) × (x.number ≡ o.number) × (k + 1 ≤ j → x.first ≡ o.first) × (j < k + 1 → IsFirst t new seek x.top x.number x.first)
        by j x is (inl e) =
            let w = r.each k d at in
            let f : Some v ≡ Some x = sym (set_here dues k v (slice_get_within dues k d at)) ∙ ap (λ (n : ℕ). slice_get (set dues k v) n) (sym e) ∙ is in
            let same : v ≡ x = cc in (
              w.0,
              subst (λ (n : ℕ). slice_get was n ≡ Some w.0) (sym e) w.1,
              ap (λ (y : Due). y.top) (sym same) ∙ v_top ∙ w.2,
              ap (λ (y : Due). y.number) (sym same) ∙ v_number ∙ w.3,
              (λ le. absurd (omega (arith, le, e))),
              (λ lt. subst (λ (y : Due). IsFirst t new seek y.top y.number y.first) same own),
            )
        by j x is (inr (inl l)) = let w = r.each j x (there j x is (λ e. omega (arith, e, l))) in (w.0, w.1, w.2, w.3, (λ le. absurd (omega (arith, le, l))), (λ lt. w.5 l))
        by j x is (inr (inr m)) = let w = r.each j x (there j x is (λ e. omega (arith, e, m))) in (w.0, w.1, w.2, w.3, (λ le. w.4 (omega (arith, m))), (λ lt. absurd (omega (arith, lt, m))))

  -- all of them
  pub forget_all : (k : ℕ) (dues : List Due) → length dues ≤ k → ForgotTo k dues → AreDue t new seek tops dues
  forget_all k dues long r = record {
    more = dues;
    is = refl;
    each = λ d there.
        let j = at_contained dues d there in
        let w = r.each j.0 d j.1 in
        let m = was_due j.0 w.0 w.1 in
        let low = slice_get_within dues j.0 d j.1 in
        (subst (λ (u : Top). Contains tops u) (sym w.2) m.0, (has_by d w.0 m w.2 w.3, w.5 (omega (arith, low, long))));
    all = λ u n m has.
        let o = were.due.all u n m ((were.keeps u n m).0 has) in
        let j = at_contained was o.0 (subst (λ (l : List Due). Contains l o.0) (sym were.due.is) o.1) in
        let low = slice_get_within was j.0 o.0 j.1 in
        let c = r.count in
        let d = read_at dues j.0 (omega (arith, low, c)) in
        let w = r.each j.0 d.0 d.1 in
        let f : Some w.0 ≡ Some o.0 = sym w.1 ∙ j.1 in
        let same : w.0 ≡ o.0 = cc in
        (d.0, contained_at dues j.0 d.0 d.1, w.2 ∙ ap (λ (y : Due). y.top) same ∙ o.2, w.3 ∙ ap (λ (y : Due). y.number) same ∙ o.3);
  }
