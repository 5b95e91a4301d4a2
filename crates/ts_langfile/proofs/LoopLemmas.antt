-- Parts that a loop reads one after another, what was read before standing in a list.
use Rattle.std.proofs.Common.{◌≡◌, ℕ, zero, suc, ◌-◌, ◌+◌, ◌<◌, List, [], ◌∷◌, ◌++◌, Result, Ok, Err, refl, sym, ap, ◌∙◌, append_assoc, arith}
use Rattle.ts_base.specs.Bytes.{Bytes}
use Rattle.ts_langfile.specs.declared.flaw.Flaw.{Flaw}
use Rattle.ts_langfile.specs.Reader.{SeenBytes, Reader, going_on, give, times, in_turn}

-- what was read before, and what is still read
abbrev pub with_front : {A : Type 0} → List A → SeenBytes (List A) → SeenBytes (List A)
with_front front (Ok x) = Ok (front ++ x.0, x.1)
with_front front (Err flaw) = Err flaw

regroup : {A : Type 0} (front : List A) (x : A) (read : SeenBytes (List A)) → with_front front (going_on read (λ (others : List A). give (x ∷ others))) ≡ with_front (front ++ x ∷ []) read
regroup front x (Ok others) = ap (λ (xs : List _). Ok (xs, others.1)) (simp append_assoc)
regroup front x (Err flaw) = refl

-- ---- so many

pub times_next : {A : Type 0} (part : Reader A) (front : List A) (count i : ℕ) (bytes : Bytes) (x : A) (after : Bytes) (total : SeenBytes (List A)) → i < count → part bytes ≡ Ok (x, after)
    → with_front front (times (count - i) part bytes) ≡ total → with_front (front ++ x ∷ []) (times (count - (i + 1)) part after) ≡ total
times_next part front count i bytes x after total below read so_far =
    let k : count - i ≡ suc (count - (i + 1)) = omega arith in
    let one : with_front front (times (count - i) part bytes) ≡ with_front (front ++ x ∷ []) (times (count - (i + 1)) part after) = rw (k, read) (regroup front x (times (count - (i + 1)) part after)) in
    sym one ∙ so_far

-- ---- each judged by a state

pub in_turn_next : {S A : Type 0} (part : S → Reader A) (step : S → A → S) (front : List A) (count i : ℕ) (state : S) (bytes : Bytes) (x : A) (after : Bytes) (total : SeenBytes (List A)) → i < count → part state bytes ≡ Ok (x, after)
    → with_front front (in_turn part step (count - i) state bytes) ≡ total → with_front (front ++ x ∷ []) (in_turn part step (count - (i + 1)) (step state x) after) ≡ total
in_turn_next part step front count i state bytes x after total below read so_far =
    let k : count - i ≡ suc (count - (i + 1)) = omega arith in
    let one : with_front front (in_turn part step (count - i) state bytes) ≡ with_front (front ++ x ∷ []) (in_turn part step (count - (i + 1)) (step state x) after) = rw (k, read) (regroup front x (in_turn part step (count - (i + 1)) (step state x) after)) in
    sym one ∙ so_far
