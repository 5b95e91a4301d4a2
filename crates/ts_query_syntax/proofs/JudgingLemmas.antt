-- Checks that are gone through in pieces, and what that says of the whole.
use Rattle.std.proofs.Common.{◌≡◌, ◌∙◌, sym, ap, subst, refl, ℕ, suc, ◌+◌, ◌≤◌, List, [], ◌∷◌, ◌++◌, take, slice_get, Some, arith, append_assoc}
use Rattle.std.specs.Prelude.{Option, None}
use Rattle.std.proofs.lemmas.List.{append-nil}
use Rattle.ts_base.specs.Bytes.{Bytes}
use Rattle.ts_query_tree.specs.declared.tree.Written.{Written}
use Rattle.ts_query_names.specs.declared.flaw.Flaw.{Flaw}
use Rattle.ts_query_names.specs.Checks.{Check, wrong, pattern, first_wrong, built, sources_of}
use Rattle.ts_query_syntax.specs.declared.fault.QueryFault.{QueryFault}
use Rattle.ts_query_syntax.specs.declared.fault.QueryFault.TheVariants as fault
use Rattle.ts_query_syntax.specs.Refusals.{HasRisen}
use Rattle.ts_query_syntax.specs.Judging.{Kept, Adds, Runs, ends, faulty, builds, refused, starved, flaw_fault}

abbrev pub Answer : Type 0
Answer = Option QueryFault

-- ---- in pieces

pub runs_then : (cs ds : List Check) (s m t : Kept) (a b : Answer) → Runs cs s m b → b ≡ None → Runs ds m t a → Runs (cs ++ ds) s t a
runs_then _ ds _ _ t a _ (ends s) e next = next
runs_then _ ds _ _ t a _ (faulty f cs s) e next = let no : Some (flaw_fault f) ≡ None = e in cc
runs_then _ ds _ _ t a b (builds w cs s n m b' adds run) e next = builds w (cs ++ ds) s n t a adds (runs_then cs ds n m t a b run e next)
runs_then _ ds _ _ t a _ (refused w cs s m adds rose) e next = let no : Some (fault.Regex w.at) ≡ None = e in cc
runs_then _ ds _ _ t a _ (starved cs s m same later) e next = let no : Some fault.Memory ≡ None = e in cc

pub runs_stop : (cs ds : List Check) (s t : Kept) (e : QueryFault) (a : Answer) → Runs cs s t a → a ≡ Some e → Runs (cs ++ ds) s t a
runs_stop _ ds _ _ e _ (ends s) is = let no : None ≡ Some e = is in cc
runs_stop _ ds _ _ e _ (faulty f cs s) is = faulty f (cs ++ ds) s
runs_stop _ ds _ _ e a (builds w cs s n t b adds run) is = builds w (cs ++ ds) s n t a adds (runs_stop cs ds n t e a run is)
runs_stop _ ds _ _ e _ (refused w cs s t adds rose) is = refused w (cs ++ ds) s t adds rose
runs_stop _ ds _ _ e _ (starved cs s t same later) is = starved (cs ++ ds) s t same later

pub runs_starved : (cs : List Check) (s t : Kept) (a : Answer) → Runs cs s t a → a ≡ None → Runs cs s t (Some fault.Memory)
runs_starved _ _ _ _ (ends s) e = starved [] s s refl (omega arith)
runs_starved _ _ _ _ (faulty f cs s) e = let no : Some (flaw_fault f) ≡ None = e in cc
runs_starved _ _ _ a (builds w cs s n t b adds run) e = builds w cs s n t (Some fault.Memory) adds (runs_starved cs n t a run e)
runs_starved _ _ _ _ (refused w cs s t adds rose) e = let no : Some (fault.Regex w.at) ≡ None = e in cc
runs_starved _ _ _ _ (starved cs s t same later) e = let no : Some fault.Memory ≡ None = e in cc

-- memory runs out at once
pub runs_memory : (cs : List Check) (s : Kept) → Runs cs s s (Some fault.Memory)
runs_memory cs s = starved cs s s refl (omega arith)

-- nothing is to be gone through
pub runs_none : (cs : List Check) (s : Kept) → cs ≡ [] → Runs cs s s None
runs_none cs s is = subst (λ (ds : List Check). Runs ds s s None) (sym is) (ends s)

-- the first is wrong
pub runs_wrong : (cs rest : List Check) (f : Flaw) (s : Kept) → cs ≡ wrong f ∷ rest → Runs cs s s (Some (flaw_fault f))
runs_wrong cs rest f s is = subst (λ (ds : List Check). Runs ds s s (Some (flaw_fault f))) (sym is) (faulty f rest s)

-- ---- the whole

pub runs_later : (cs : List Check) (s t : Kept) (a : Answer) → Runs cs s t a → s.refusals ≤ t.refusals
runs_later _ _ _ _ (ends s) = omega arith
runs_later _ _ _ _ (faulty f cs s) = omega arith
runs_later _ _ _ a (builds w cs s n t b adds run) = omega (arith, adds.later, runs_later cs n t a run)
runs_later _ _ _ _ (refused w cs s t adds rose) = adds.later
runs_later _ _ _ _ (starved cs s t same later) = later

one_more : (s n t : List Bytes) (w : Bytes) (rest : List Bytes) → n ≡ s ++ w ∷ [] → t ≡ n ++ rest → t ≡ s ++ (w ∷ rest)
one_more s n t w rest first next = next ∙ ap (λ (xs : List Bytes). xs ++ rest) first ∙ append_assoc s (w ∷ []) rest

pub record Whole (cs : List Check) (s t : Kept) : Type 0 where
  pub right : first_wrong cs ≡ None
  pub grew : t.sources ≡ s.sources ++ sources_of (built cs)

pub whole : (cs : List Check) (s t : Kept) (a : Answer) → Runs cs s t a → a ≡ None → Whole cs s t
whole _ _ _ _ (ends s) e = record { right = refl; grew = sym (append-nil s.sources) }
whole _ _ _ _ (faulty f cs s) e = let no : Some (flaw_fault f) ≡ None = e in cc
whole _ _ _ a (builds w cs s n t b adds run) e =
    let rest = whole cs n t a run e in
    record { right = rest.right; grew = one_more s.sources n.sources t.sources w.text (sources_of (built cs)) adds.source rest.grew }
whole _ _ _ _ (refused w cs s t adds rose) e = let no : Some (fault.Regex w.at) ≡ None = e in cc
whole _ _ _ _ (starved cs s t same later) e = let no : Some fault.Memory ≡ None = e in cc

-- how it ends at a fault
pub data Stopped (cs : List Check) (s t : Kept) (e : QueryFault) : Type 0 where
  by_flaw : (f : Flaw) → e ≡ flaw_fault f → first_wrong cs ≡ Some f → t.sources ≡ s.sources ++ sources_of (built cs) → Stopped cs s t e
  by_refusal : (n : ℕ) (w : Written) → e ≡ fault.Regex w.at → slice_get (built cs) n ≡ Some w
      → t.sources ≡ s.sources ++ take (n + 1) (sources_of (built cs)) → HasRisen s.refusals t.refusals → Stopped cs s t e
  by_memory : (n : ℕ) → e ≡ fault.Memory → t.sources ≡ s.sources ++ take n (sources_of (built cs)) → Stopped cs s t e

take_front : {X : Type 0} (x : X) (xs : List X) (k n : ℕ) → n ≡ suc k → take n (x ∷ xs) ≡ x ∷ take k xs
take_front x xs k n e = ap (λ (m : ℕ). take m (x ∷ xs)) e

rose_from : (a b c : ℕ) → a ≤ b → HasRisen b c → HasRisen a c
rose_from a b c le rose = omega (arith, le, rose)

stopped_behind : (w : Written) (cs : List Check) (s n t : Kept) (e : QueryFault) → Adds w s n → Stopped cs n t e → Stopped (pattern w ∷ cs) s t e
stopped_behind w cs s n t e adds (by_flaw f is first grew) =
    by_flaw f is first (one_more s.sources n.sources t.sources w.text (sources_of (built cs)) adds.source grew)
stopped_behind w cs s n t e adds (by_refusal k v is at grew rose) =
    by_refusal (suc k) v is at (
    one_more s.sources n.sources t.sources w.text (take (k + 1) (sources_of (built cs))) adds.source grew
    ∙ ap (λ (xs : List Bytes). s.sources ++ xs) (sym (take_front w.text (sources_of (built cs)) (k + 1) (suc k + 1) (omega arith)))
    )
    (rose_from s.refusals n.refusals t.refusals adds.later rose)
stopped_behind w cs s n t e adds (by_memory k is grew) =
    by_memory (suc k) is (one_more s.sources n.sources t.sources w.text (take k (sources_of (built cs))) adds.source grew)

pub stopped : (cs : List Check) (s t : Kept) (e : QueryFault) (a : Answer) → Runs cs s t a → a ≡ Some e → Stopped cs s t e
stopped _ _ _ e _ (ends s) is = let no : None ≡ Some e = is in cc
stopped _ _ _ e _ (faulty f cs s) is =
    let same : Some (flaw_fault f) ≡ Some e = is in
    let d : e ≡ flaw_fault f = cc in
    by_flaw f d refl (sym (append-nil s.sources))
stopped _ _ _ e a (builds w cs s n t b adds run) is = stopped_behind w cs s n t e adds (stopped cs n t e a run is)
stopped _ _ _ e _ (refused w cs s t adds rose) is =
    let same : Some (fault.Regex w.at) ≡ Some e = is in
    let d : e ≡ fault.Regex w.at = cc in
    by_refusal 0 w d refl adds.source rose
stopped _ _ _ e _ (starved cs s t same later) is =
    let one : Some fault.Memory ≡ Some e = is in
    let d : e ≡ fault.Memory = cc in
    by_memory 0 d (same ∙ sym (append-nil s.sources))
