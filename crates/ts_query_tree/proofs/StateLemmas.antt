-- What the reader knows after one more sign, and at the end.
use Rattle.std.proofs.Common.{◌≡◌, ℕ, ◌+◌, ◌≤◌, ◌<◌, Bool, true, false, ◌&&◌, List, [], ◌∷◌, ◌++◌, length, drop, Option, Some, None, refl, sym, ap, ap₂, subst, ◌∙◌, true≢false, nat_le, arith}
use Rattle.std.proofs.lemmas.Option.{none-some, same_Some}
use Rattle.ts_base.specs.Bytes.{Bytes}
use Rattle.ts_query_tree.specs.declared.sight.Sight.TheVariants.{Sees, Cut, Strange}
use Rattle.ts_query_tree.specs.declared.sign.Sign.{Sign}
use Rattle.ts_query_tree.specs.declared.level.Level.{Level}
use Rattle.ts_query_tree.specs.declared.level.Frame.{Frame}
use Rattle.ts_query_tree.specs.declared.level.Bracket.TheVariants.{Top}
use Rattle.ts_query_tree.specs.declared.state.State.{State}
use Rattle.ts_query_tree.specs.declared.state.Outcome.TheVariants as outcome
use Rattle.ts_query_tree.specs.declared.fault.TreeFault.TheVariants as fault
use Rattle.ts_query_tree.specs.declared.tree.Part.{Part as Value}
use Rattle.ts_query_tree.specs.Words.{gap, gap_end}
use Rattle.ts_query_tree.specs.Signs.{sight}
use Rattle.ts_query_tree.specs.Reads.{Signs, Begins, StayShallow, GoesWrong, strange, misplaced, misplaced_cut, nameless, ends, OpensTooDeep, IsFault, IsOutcome, nested, most_open}
use Rattle.ts_query_tree.specs.Machine.{Open, next, run_from, start, finished, Follows, is_opening, ready, new_frame}
use Rattle.ts_query_tree.specs.States.{IsState, ended}
use Rattle.ts_query_tree.proofs.CloseLemmas.{run_append, begins, stuck}
use Rattle.ts_query_tree.proofs.DepthLemmas.{nests, nests_levels, opens_due, others_stay, shallow_last, shallow_push, shallow_end}
use Rattle.ts_query_tree.proofs.LawLemmas.{whole, unfinished}

signs_push : (w : Bytes) (ss : List Sign) (i j k : ℕ) (s : Sign) → Signs w i ss j → sight w (gap_end w j) ≡ Sees s k → Signs w i (ss ++ s ∷ []) k
signs_push w [] i j k s g h = (k, subst (λ (n : ℕ). sight w (gap_end w n) ≡ Sees s k) (sym g) h, refl)
signs_push w (t ∷ ss) i j k s g h = (g.0, g.1, signs_push w ss g.0 j k s g.2 h)

followed : (o : Option Open) (l : Level) (outer : List Level) → Follows o (Some l) outer → o ≡ Some (l, outer)
followed None l outer f = absurd (none-some l (sym f))
followed (Some z) l outer f = ap₂ (λ (x : Level) (y : List Level). Some (x, y)) (sym (same_Some _ _ f.0)) (sym f.1)

halted : (o : Option Open) (outer : List Level) → Follows o None outer → o ≡ None
halted None outer f = refl
halted (Some z) outer f = absurd (none-some z.0 f.0)

module _ (w : Bytes) (s : State) (h : IsState w s) (at : ℕ) (here : at ≡ gap_end w s.at) where
  abbrev z : Open
  z = (s.level, s.outer)

  -- something is wrong at the place
  wrong : (p : ℕ) → GoesWrong w h.signs at p → IsFault w (fault.Syntax p)
  wrong p g = record {
    signs = h.signs;
    behind = s.at;
    lead = h.lead;
    begins = begins h.signs z h.run;
    shallow = h.shallow;
    here = subst (λ (n : ℕ). GoesWrong w h.signs n p) here g;
  }

  begins_more : (t : Sign) (l : Level) (outer : List Level) → Follows (next s.level s.outer t) (Some l) outer → run_from start (h.signs ++ t ∷ []) ≡ Some (l, outer)
  begins_more t l outer f =
      run_append start h.signs (t ∷ []) ∙ ap (λ (o : Option Open). run_from o (t ∷ [])) h.run ∙ ap (λ (o : Option Open). run_from o []) (followed (next s.level s.outer t) l outer f)

  stuck_at : (t : Sign) (outer : List Level) → Follows (next s.level s.outer t) None outer → Begins (h.signs ++ t ∷ []) → ⊥
  stuck_at t outer f = stuck h.signs t z h.run (halted (next s.level s.outer t) outer f)

  pub stops_strange : at < length w → sight w at ≡ Strange → IsOutcome w (outcome.Syntax at)
  stops_strange lt e = (wrong at (strange lt e), omega (arith, lt))

  pub stops_nameless : (t : Sign) (j : ℕ) (l : Level) (outer : List Level) → sight w at ≡ Cut t j → j ≤ length w → Follows (next s.level s.outer t) (Some l) outer → IsOutcome w (outcome.Syntax j)
  stops_nameless t j l outer e le f = (wrong j (nameless t j e (begins (h.signs ++ t ∷ []) (l, outer) (begins_more t l outer f))), le)

  pub stops_cut : (t : Sign) (j : ℕ) (outer : List Level) → at < length w → sight w at ≡ Cut t j → Follows (next s.level s.outer t) None outer → IsOutcome w (outcome.Syntax at)
  stops_cut t j outer lt e f = (wrong at (misplaced_cut t j e (stuck_at t outer f)), omega (arith, lt))

  pub stops_misplaced : (t : Sign) (j : ℕ) (outer : List Level) → at < length w → sight w at ≡ Sees t j → Follows (next s.level s.outer t) None outer → IsOutcome w (outcome.Syntax at)
  stops_misplaced t j outer lt e f = (wrong at (misplaced t j e (stuck_at t outer f)), omega (arith, lt))

  -- as many brackets are open as there are levels, where a bracket opens
  depth_here : (t : Sign) (l : Level) (outer : List Level) → is_opening t ≡ true → Follows (next s.level s.outer t) (Some l) outer → nested (nests 0 h.signs) t ≡ length s.outer + 1
  depth_here t l outer i f =
      let d = opens_due s.level s.outer t (l, outer) i (followed (next s.level s.outer t) l outer f) in
      d.1 (nests 0 h.signs) ∙ ap (λ (n : ℕ). n + 1) (nests_levels h.signs z h.run d.0)

  pub stops_deep : (t : Sign) (j : ℕ) (l : Level) (outer : List Level) → at < length w → sight w at ≡ Sees t j → Follows (next s.level s.outer t) (Some l) outer → is_opening t ≡ true →
      200 ≤ length s.outer → IsOutcome w (outcome.Deep at)
  stops_deep t j l outer lt e f i deep =
      let d = depth_here t l outer i f in (
        record {
          signs = h.signs;
          behind = s.at;
          lead = h.lead;
          begins = begins h.signs z h.run;
          shallow = h.shallow;
          here = (
            subst (OpensTooDeep w h.signs) here
                (record {
                  bracket = t;
                  behind = j;
                  there = e;
                  begins = begins (h.signs ++ t ∷ []) (l, outer) (begins_more t l outer f);
                  deep = λ a. let le = shallow_end 0 h.signs t a in omega (arith, le, d, deep);
                }),
            sym here,
          );
        },
        omega (arith, lt),
      )

  stays_shallow : (t : Sign) (l : Level) (outer : List Level) → Follows (next s.level s.outer t) (Some l) outer → (k : Bool) → is_opening t ≡ k → (k ≡ true → length s.outer < 200) → StayShallow 0 (h.signs ++ t ∷ [])
  stays_shallow t l outer f true i lt = let d = depth_here t l outer i f in let few = lt refl in shallow_push 0 h.signs t h.shallow (omega (arith, d, few))
  stays_shallow t l outer f false i lt = let le = others_stay t (nests 0 h.signs) i in let last = shallow_last 0 h.signs h.shallow in shallow_push 0 h.signs t h.shallow (omega (arith, le, last))

  pub goes : (t : Sign) (j : ℕ) (l : Level) (outer : List Level) → sight w at ≡ Sees t j → j ≤ length w → Follows (next s.level s.outer t) (Some l) outer → (is_opening t ≡ true → length s.outer < 200) →
      IsState w (record { at = j; level = l; outer = outer })
  goes t j l outer e le f few = record {
    signs = h.signs ++ t ∷ [];
    lead = signs_push w h.signs 0 s.at j t h.lead (subst (λ (n : ℕ). sight w n ≡ Sees t j) here e);
    run = begins_more t l outer f;
    shallow = stays_shallow t l outer f (is_opening t) refl few;
    within = le;
  }

  pub ends_whole : (xs : List Value) → at ≡ length w → finished s.level ≡ Some xs → IsOutcome w (outcome.Whole xs)
  ends_whole xs e f =
      let q = whole h.signs z xs h.run f in (
        q.query,
        (q.is, s.at, subst (λ (ss : List Sign). Signs w 0 ss s.at) (sym q.spells) h.lead, sym here ∙ e),
        subst (StayShallow 0) (sym q.spells) h.shallow,
        q.value,
      )

  pub ends_early : at ≡ length w → finished s.level ≡ None → IsOutcome w (outcome.Syntax at)
  ends_early e f = (wrong at (ends e (unfinished h.signs z h.run f)), omega (arith, e))

  pub ends_as : at ≡ length w → (o : Option (List Value)) → finished s.level ≡ o → IsOutcome w (ended at o)
  ends_as e None f = ends_early e f
  ends_as e (Some xs) f = ends_whole xs e f

pub state_begins : (w : Bytes) (f : Frame) (o : List Level) → f ≡ new_frame Top false false → o ≡ [] → IsState w (record { at = 0; level = ready f; outer = o })
state_begins w f o ef eo =
    subst (λ (g : Frame). IsState w (record { at = 0; level = ready g; outer = o })) (sym ef)
    (subst (λ (r : List Level). IsState w (record { at = 0; level = ready (new_frame Top false false); outer = r })) (sym eo)
    (record { signs = []; lead = refl; run = refl; shallow = omega arith; within = omega arith }))

-- ---- what the test for the depth says

pub deep_true : (i : Bool) (n : ℕ) → (i && nat_le most_open n) ≡ true → (i ≡ true) × (200 ≤ n)
deep_true true n e = let le : 200 ≤ n = grind arith in (refl, le)
deep_true false n e = absurd (true≢false (sym e))

pub deep_false : (i : Bool) (n : ℕ) → (i && nat_le most_open n) ≡ false → i ≡ true → n < 200
deep_false true n e h = grind arith
deep_false false n e h = absurd (true≢false (sym h))

pub later : (w : Bytes) (i at end : ℕ) → at ≡ gap_end w i → at < end → i < end
later w i at end h lt = let e : at ≡ i + gap false (drop i w) = h in omega (arith, e, lt)
