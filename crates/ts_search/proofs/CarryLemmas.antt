-- Embeddings depend only on what the items take.
use Rattle.std.proofs.Common.{◌≡◌, ◌∙◌, sym, ap, refl, ℕ, zero, suc, ◌+◌, ◌-◌, ◌<◌, ◌≤◌, List, [], ◌∷◌, ◌++◌, Option, Some, None, Bool, true, false, arith}
use Rattle.spec_matches.specs.declared.placing.Slot.{Slot}
use Rattle.spec_matches.specs.declared.placing.Run.{Run}
use Rattle.spec_matches.specs.declared.found.Capture.{Capture}
use Rattle.spec_matches.specs.declared.placing.Placing.{Placing}
use Rattle.spec_matches.specs.Embedding.{offset, IsItemRun, Embeds, Along, GivesCaptures, IsWayFrom}
use Rattle.ts_search.specs.declared.stand.Wanted.{Wanted}
use Rattle.ts_search.specs.declared.stand.Wanted.TheVariants.{All, Captures, Here}
use Rattle.ts_search.specs.Adding.{IsLike}
use Rattle.ts_search.specs.Memory.{Told}
use Rattle.ts_search.specs.Sets.{SameMembers, SameWay}
use Rattle.ts_search.proofs.SetLemmas.{same_append, same_itself, same_of, same_through}

both : (c a b d e : List Capture) → c ≡ a ++ b → SameMembers a d → SameMembers b e → SameMembers c (d ++ e)
both c a b d e is s t = same_through c (a ++ b) (d ++ e) (same_of c (a ++ b) is) (same_append a d b e s t)

-- where one takes anything the other takes something
module _ (t u : ℕ → ℕ → ℕ → List Capture → Type 0) (any : (k o p : ℕ) (c : List Capture) → t k o p c → (d : List Capture) × u k o p d) where
  fits_to : (n k : ℕ) (i : Slot) (r : Run) → IsItemRun t n i k r → IsItemRun u n i k r
  fits_to n k i r f = record {
    some = f.some;
    inside = f.inside;
    rounds = f.rounds;
    covers = λ p low below. any k (offset i r.first p) p (f.covers p low below).0 (f.covers p low below).1;
  }

  pub embeds_to : (named : List Bool) (closed : Bool) (is : List Slot) (k lo : ℕ) (b : Bool) (rs : List (Option Run)) → Embeds t named closed is k lo b rs → Embeds u named closed is k lo b rs
  embeds_to named closed [] k lo b [] e = e
  embeds_to named closed [] k lo b (r ∷ rs) e = e
  embeds_to named closed (i ∷ is) k lo b [] e = e
  embeds_to named closed (i ∷ is) k lo b (None ∷ rs) e = (e.0, embeds_to named closed is (k + 1) lo false rs e.1)
  embeds_to named closed (i ∷ is) k lo b (Some r ∷ rs) e = (record { fits = fits_to _ k i r e.0.fits; after = e.0.after; anchored = e.0.anchored }, embeds_to named closed is (k + 1) r.past true rs e.1)

-- what one takes the other takes, with the same captures
module _ (t u : ℕ → ℕ → ℕ → List Capture → Type 0) (to : (k o p : ℕ) (c : List Capture) → t k o p c → IsLike SameMembers (u k o p) c) where
  along_to : (k : ℕ) (i : Slot) (first n p : ℕ) (c : List Capture) → Along t k i first n p c → IsLike SameMembers (Along u k i first n p) c
  along_to k i first zero p c e = (c, e, same_itself c)
  along_to k i first (suc n) p c e =
      let one = to k (offset i first p) p e.0 e.3 in
      let rest = along_to k i first n (p + 1) e.1 e.4 in
      (one.0 ++ rest.0, (one.0, rest.0, refl, one.1, rest.1), both c e.0 e.1 one.0 rest.0 e.2 one.2 rest.2)

  pub gives_to : (is : List Slot) (k : ℕ) (rs : List (Option Run)) (c : List Capture) → GivesCaptures t is k rs c → IsLike SameMembers (GivesCaptures u is k rs) c
  gives_to [] k rs c e = (c, e, same_itself c)
  gives_to (i ∷ is) k [] c e = (c, e, same_itself c)
  gives_to (i ∷ is) k (None ∷ rs) c e = let rest = gives_to is (k + 1) rs c e in (rest.0, rest.1, rest.2)
  gives_to (i ∷ is) k (Some r ∷ rs) c e =
      let one = along_to k i r.first (r.past - r.first) r.first e.0 e.3 in
      let rest = gives_to is (k + 1) rs e.1 e.4 in
      (one.0 ++ rest.0, (one.0, rest.0, refl, one.1, rest.1), both c e.0 e.1 one.0 rest.0 e.2 one.2 rest.2)

-- each embedding gives some captures
module _ (t : ℕ → ℕ → ℕ → List Capture → Type 0) where
  along_any : (k : ℕ) (i : Slot) (first n p : ℕ) → ((q : ℕ) → p ≤ q → q < p + n → (c : List Capture) × t k (offset i first q) q c) → (c : List Capture) × Along t k i first n p c
  along_any k i first zero p covers = ([], refl)
  along_any k i first (suc n) p covers =
      let one = covers p (omega arith) (omega arith) in
      let rest = along_any k i first n (p + 1) (λ q low below. covers q (omega arith) (omega arith)) in
      (one.0 ++ rest.0, (one.0, rest.0, refl, one.1, rest.1))

  pub gives_any : (named : List Bool) (closed : Bool) (is : List Slot) (k lo : ℕ) (b : Bool) (rs : List (Option Run)) → Embeds t named closed is k lo b rs → (c : List Capture) × GivesCaptures t is k rs c
  gives_any named closed [] k lo b rs e = ([], refl)
  gives_any named closed (i ∷ is) k lo b [] e = absurd e
  gives_any named closed (i ∷ is) k lo b (None ∷ rs) e = gives_any named closed is (k + 1) lo false rs e.1
  gives_any named closed (i ∷ is) k lo b (Some r ∷ rs) e =
      let some = e.0.fits.some in
      let one = along_any k i r.first (r.past - r.first) r.first (λ q low below. e.0.fits.covers q low (omega arith)) in
      let rest = gives_any named closed is (k + 1) r.past true rs e.1 in
      (one.0 ++ rest.0, (one.0, rest.0, refl, one.1, rest.1))

module _ (t u : ℕ → ℕ → ℕ → List Capture → Type 0) (back : (k o p : ℕ) (c : List Capture) → u k o p c → (d : List Capture) × t k o p d) where
  pub way_to : ((k o p : ℕ) (c : List Capture) → t k o p c → IsLike SameMembers (u k o p) c) → (named : List Bool) (closed : Bool) (is : List Slot) (f : Placing) → IsWayFrom t named closed is 0 0 true f
      → IsLike SameWay (IsWayFrom u named closed is 0 0 true) f
  way_to to named closed is f w =
      let gives = gives_to t u to is 0 w.runs f.captures w.gives in (
        record { first = f.first; near = f.near; captures = gives.0 },
        record {
          runs = w.runs;
          full = record {
            embeds = embeds_to t u (λ k o p c h. let x = to k o p c h in (x.0, x.1)) named closed is 0 0 true w.runs w.full.embeds;
            widest = λ ws more e. w.full.widest ws more (embeds_to u t back named closed is 0 0 true ws e);
          };
          gives = gives.1;
          first = w.first;
          near = w.near;
        },
        record { first = refl; near = refl; captures = gives.2 },
      )

  -- where there is a way there is one in what the other takes
  pub way_any : ((k o p : ℕ) (c : List Capture) → t k o p c → (d : List Capture) × u k o p d) → (named : List Bool) (closed : Bool) (is : List Slot) (f : Placing) → IsWayFrom t named closed is 0 0 true f
      → (g : Placing) × IsWayFrom u named closed is 0 0 true g × (g.first ≡ f.first)
  way_any any named closed is f w =
      let embeds = embeds_to t u any named closed is 0 0 true w.runs w.full.embeds in
      let c = gives_any u named closed is 0 0 true w.runs embeds in
      let g : Placing = record { first = f.first; near = f.near; captures = c.0 } in (
        g,
        record {
          runs = w.runs;
          full = record { embeds = embeds; widest = λ ws more e. w.full.widest ws more (embeds_to u t back named closed is 0 0 true ws e) };
          gives = c.1;
          first = w.first;
          near = w.near;
        },
        refl,
      )

-- ---- ways as they are asked for

pub told_like : (wanted : Wanted) (lo : ℕ) (V W : Placing → Type 0) → ((f : Placing) → V f → IsLike SameWay W f) → (f : Placing) → Told wanted lo V f → IsLike SameWay (Told wanted lo W) f
told_like All lo V W to f h = let x = to f h in (x.0, x.1, x.2)
told_like Here lo V W to f h = let x = to f h.0 in (x.0, (x.1, sym x.2.first ∙ h.1), x.2)
told_like Captures lo V W to f (g, way, bare) =
    let x = to g way in (
      record { first = None; near = false; captures = x.0.captures },
      (x.0, x.1, refl),
      record {
        first = ap (λ (p : Placing). p.first) bare;
        near = ap (λ (p : Placing). p.near) bare;
        captures = same_through f.captures g.captures x.0.captures (same_of f.captures g.captures (ap (λ (p : Placing). p.captures) bare)) x.2.captures;
      },
    )

pub told_any : (wanted : Wanted) (lo : ℕ) (V W : Placing → Type 0) → ((f : Placing) → V f → (g : Placing) × W g × (g.first ≡ f.first)) → (f : Placing) → Told wanted lo V f → (g : Placing) × Told wanted lo W g
told_any All lo V W any f h = let x = any f h in (x.0, x.1)
told_any Here lo V W any f h = let x = any f h.0 in (x.0, (x.1, x.2 ∙ h.1))
told_any Captures lo V W any f (g, way, bare) = let x = any g way in (record { first = None; near = false; captures = x.0.captures }, (x.0, x.1, refl))
