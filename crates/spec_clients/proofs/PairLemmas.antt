-- A client's steps with their replies, and one reply more.
use Rattle.std.proofs.Common.{◌≡◌, ◌∙◌, sym, ap, refl, subst, ℕ, zero, suc, ◌+◌, ◌≤◌, ◌==◌, nat_lt, if◌then◌else◌, true, false, Bool, ◌⊎◌, inl, inr, ⊎_elim, List, [], ◌∷◌, ◌++◌, length, take, slice_get, Option, Some, None, arith}
use Rattle.std.proofs.lemmas.Bool.{eqb-true, ltb-false}
use Rattle.std.proofs.lemmas.List.{take_all}
use Rattle.std.proofs.lemmas.Option.{some_pair_parts}
use Rattle.std.proofs.Math.Seq.{take-nil}
use Rattle.ts_script.specs.declared.plan.ScriptStep.{ScriptStep}
use Rattle.ts_replies.specs.declared.reply.Reply.{Reply}
use Rattle.spec_history.specs.Replies.{document_of, version_of, turn_told, turns_of}
use Rattle.spec_history.specs.Histories.{paired, held_after, last_turn, later_turn, accounted_by, accounted_in}
use Rattle.spec_clients.specs.Served.{held_at, told_at}

abbrev with_pair : ScriptStep → Reply → List (ScriptStep × Reply) → List (ScriptStep × Reply)
with_pair s r ps = (s, r) ∷ ps

paired_none : (ss : List ScriptStep) → ◌≡◌ {A = List (ScriptStep × Reply)} (paired ss []) []
paired_none [] = refl
paired_none (s ∷ ss) = refl

length_paired : (ss : List ScriptStep) (rs : List Reply) → length (paired ss rs) ≤ length rs
length_paired [] rs = omega arith
length_paired (s ∷ ss) [] = omega arith
length_paired (s ∷ ss) (r ∷ rs) = let h : length (paired ss rs) ≤ length rs = length_paired ss rs in omega (arith, h)

paired_take : (ss : List ScriptStep) (rs : List Reply) (r : Reply) (m : ℕ) → m ≤ length rs
    → take m (paired ss (rs ++ r ∷ [])) ≡ take m (paired ss rs)
paired_take [] rs r m le = refl
paired_take (s ∷ ss) [] r zero le = refl
paired_take (s ∷ ss) [] r (suc m) le = absurd (let f : ⊥ = omega (arith, le) in f)
paired_take (s ∷ ss) (x ∷ rs) r zero le = refl
paired_take (s ∷ ss) (x ∷ rs) r (suc m) le =
    ap (λ (ps : List (ScriptStep × Reply)). (s, x) ∷ ps) (paired_take ss rs r m (omega (arith, le)))

paired_push : (ss : List ScriptStep) (rs : List Reply) (s : ScriptStep) (r : Reply) → slice_get ss (length rs) ≡ Some s
    → paired ss (rs ++ r ∷ []) ≡ paired ss rs ++ (s, r) ∷ []
paired_push [] rs s r h = absurd (let f : None ≡ Some s = h in cc)
paired_push (x ∷ ss) [] s r h =
    let e : x ≡ s = (let f : Some x ≡ Some s = h in cc) in
    ap (λ (ps : List (ScriptStep × Reply)). (x, r) ∷ ps) (paired_none ss) ∙ ap (λ (y : ScriptStep). with_pair y r []) e
paired_push (x ∷ ss) (y ∷ rs) s r h = ap (λ (ps : List (ScriptStep × Reply)). (x, y) ∷ ps) (paired_push ss rs s r h)

take_push : {X : Type 0} (xs : List X) (p : X) (m : ℕ) → (take m (xs ++ p ∷ []) ≡ take m xs) ⊎ (take m (xs ++ p ∷ []) ≡ xs ++ p ∷ [])
take_push [] p zero = inl refl
take_push [] p (suc m) = inr (ap (λ ps. p ∷ ps) (take-nil m))
take_push (x ∷ xs) p zero = inl refl
take_push (x ∷ xs) p (suc m) = ⊎_elim (λ e. inl (ap (λ ps. x ∷ ps) e)) (λ e. inr (ap (λ ps. x ∷ ps) e)) (take_push xs p m)

held_push : (d b : ℕ) (ps : List (ScriptStep × Reply)) (p : ScriptStep × Reply)
    → held_after d b (ps ++ p ∷ []) ≡ (if document_of p.0 == d then version_of p.1 else held_after d b ps)
held_push d b [] p = refl
held_push d b (q ∷ ps) p = held_push d (if document_of q.0 == d then version_of q.1 else b) ps p

-- ---- what is held and told

module _ (document : ℕ) (steps : List ScriptStep) (replies : List Reply) (s : ScriptStep) (r : Reply)
    (is : slice_get steps (length replies) ≡ Some s) where
  pub held_same : (number : ℕ) → number ≤ length replies → held_at document steps (replies ++ r ∷ []) number ≡ held_at document steps replies number
  held_same number le = ap (held_after document 0) (paired_take steps replies r number le)

  pub told_same : (number : ℕ) → number ≤ length replies → told_at document steps (replies ++ r ∷ []) number ≡ told_at document steps replies number
  told_same number le = ap (last_turn document None) (paired_take steps replies r number le)

  all_paired_now : take (length replies) (paired steps replies) ≡ paired steps replies
  all_paired_now = take_all (length replies) (paired steps replies) (length_paired steps replies)

  pub held_all : held_at document steps replies (length replies) ≡ held_after document 0 (paired steps replies)
  held_all = ap (held_after document 0) all_paired_now

  either_way : (b : Bool) (v before limit : ℕ) → (b ≡ true → v ≤ limit) → before ≤ limit → (if b then v else before) ≤ limit
  either_way true v before limit now old = now refl
  either_way false v before limit now old = old

  -- what is held stays below a bound
  pub held_within : (limit number : ℕ) → ((n : ℕ) → held_at document steps replies n ≤ limit) → (document_of s ≡ document → version_of r ≤ limit)
      → held_at document steps (replies ++ r ∷ []) number ≤ limit
  held_within limit number before now =
      subst (λ (ps : List (ScriptStep × Reply)). held_after document 0 (take number ps) ≤ limit) (sym (paired_push steps replies s r is))
      (⊎_elim
      (λ e. subst (λ (ps : List (ScriptStep × Reply)). held_after document 0 ps ≤ limit) (sym e) (before number))
      (λ e. subst (λ (ps : List (ScriptStep × Reply)). held_after document 0 ps ≤ limit) (sym e) last)
      (take_push (paired steps replies) (s, r) number))
    where
      whole : held_after document 0 (paired steps replies) ≤ limit
      whole = subst (λ (n : ℕ). n ≤ limit) held_all (before (length replies))

      last : held_after document 0 (paired steps replies ++ (s, r) ∷ []) ≤ limit
      last = subst (λ (n : ℕ). n ≤ limit) (sym (held_push document 0 (paired steps replies) (s, r)))
          (either_way (document_of s == document) (version_of r) (held_after document 0 (paired steps replies)) limit (λ e. now (eqb-true (document_of s) document e)) whole)

-- ---- the last turn that was told

-- a step of this number was told the turn, of the document
pub record WasTold (d t : ℕ) (steps : List ScriptStep) (replies : List Reply) : Type 0 where
  pub number : ℕ
  pub step : ScriptStep
  pub answer : Reply
  pub step_is : slice_get steps number ≡ Some step
  pub reply_is : slice_get replies number ≡ Some answer
  pub on : document_of step ≡ d
  pub told : turn_told answer ≡ Some t

-- the same of pairs
record WasPaired (d t : ℕ) (ps : List (ScriptStep × Reply)) : Type 0 where
  pub number : ℕ
  pub pair : ScriptStep × Reply
  pub is : slice_get ps number ≡ Some pair
  pub on : document_of pair.0 ≡ d
  pub told : turn_told pair.1 ≡ Some t

later : (d t : ℕ) (p : ScriptStep × Reply) (ps : List (ScriptStep × Reply)) → WasPaired d t ps → WasPaired d t (p ∷ ps)
later d t p ps w = record { number = suc w.number; pair = w.pair; is = w.is; on = w.on; told = w.told }

one_more : (d t : ℕ) (last : Option ℕ) (p : ScriptStep × Reply) (ps : List (ScriptStep × Reply)) (b : Bool) → (document_of p.0 == d) ≡ b → (o : Option ℕ) → turn_told p.1 ≡ o
    → (if b then later_turn last o else last) ≡ Some t → (last ≡ Some t) ⊎ WasPaired d t (p ∷ ps)
one_more d t last p ps false on o is h = inl h
one_more d t last p ps true on None is h = inl h
one_more d t last p ps true on (Some u) is h = inr (record { number = 0; pair = p; is = refl; on = eqb-true (document_of p.0) d on; told = is ∙ h })

told_or_before : (d t : ℕ) (last : Option ℕ) (ps : List (ScriptStep × Reply)) → last_turn d last ps ≡ Some t → (last ≡ Some t) ⊎ WasPaired d t ps
told_or_before d t last [] h = inl h
told_or_before d t last (p ∷ ps) h = ⊎_elim
    (λ e. one_more d t last p ps (document_of p.0 == d) refl (turn_told p.1) refl e)
    (λ w. inr (later d t p ps w))
    (told_or_before d t (if document_of p.0 == d then later_turn last (turn_told p.1) else last) ps h)

no_pair : (p : ScriptStep × Reply) → ◌≡◌ {A = Option (ScriptStep × Reply)} None (Some p) → ⊥
no_pair p h = cc

pair_at : (n : ℕ) (ss : List ScriptStep) (rs : List Reply) (m : ℕ) (p : ScriptStep × Reply) → slice_get (take n (paired ss rs)) m ≡ Some p
    → (slice_get ss m ≡ Some p.0) × (slice_get rs m ≡ Some p.1)
pair_at zero ss rs m p h = absurd (no_pair p h)
pair_at (suc n) [] rs m p h = absurd (no_pair p h)
pair_at (suc n) (s ∷ ss) [] m p h = absurd (no_pair p h)
pair_at (suc n) (s ∷ ss) (r ∷ rs) zero p h = let e = some_pair_parts s p.0 r p.1 h in (ap Some e.0, ap Some e.1)
pair_at (suc n) (s ∷ ss) (r ∷ rs) (suc m) p h = pair_at n ss rs m p h

no_turn : (t : ℕ) → ◌≡◌ {A = Option ℕ} None (Some t) → ⊥
no_turn t h = cc

pub last_is_told : (d t n : ℕ) (steps : List ScriptStep) (replies : List Reply) → told_at d steps replies n ≡ Some t → WasTold d t steps replies
last_is_told d t n steps replies is = ⊎_elim
    (λ none. absurd (no_turn t none))
    (λ w. let at = pair_at n steps replies w.number w.pair w.is in
    record { number = w.number; step = w.pair.0; answer = w.pair.1; step_is = at.0; reply_is = at.1; on = w.on; told = w.told })
    (told_or_before d t None (take n (paired steps replies)) is)

-- ---- turns for which replies account

-- for how many turns of the document up to this one the reply accounts
abbrev pub share : ℕ → ℕ → ScriptStep → Reply → ℕ
share d t s r = if document_of s == d then accounted_by t (turn_told r) (turns_of r) else 0

accounted_push : (d t : ℕ) (ps : List (ScriptStep × Reply)) (s : ScriptStep) (r : Reply)
    → accounted_in d t (ps ++ (s, r) ∷ []) ≡ accounted_in d t ps + share d t s r
accounted_push d t [] s r = omega arith
accounted_push d t (p ∷ ps) s r = let h : accounted_in d t (ps ++ (s, r) ∷ []) ≡ accounted_in d t ps + share d t s r = accounted_push d t ps s r in omega (arith, h)

pub accounted_next : (d t : ℕ) (steps : List ScriptStep) (replies : List Reply) (s : ScriptStep) (r : Reply) → slice_get steps (length replies) ≡ Some s
    → accounted_in d t (paired steps (replies ++ r ∷ [])) ≡ accounted_in d t (paired steps replies) + share d t s r
accounted_next d t steps replies s r is = ap (accounted_in d t) (paired_push steps replies s r is) ∙ accounted_push d t (paired steps replies) s r

either_zero : (b : Bool) (n : ℕ) → (b ≡ true → n ≡ 0) → (if b then n else 0) ≡ 0
either_zero true n h = h refl
either_zero false n h = refl

-- a reply on another document accounts for none
pub share_elsewhere : (d t : ℕ) (s : ScriptStep) (r : Reply) → (document_of s ≡ d → ⊥) → share d t s r ≡ 0
share_elsewhere d t s r other = either_zero (document_of s == d) (accounted_by t (turn_told r) (turns_of r)) (λ e. absurd (other (eqb-true (document_of s) d e)))

either_less : (b : Bool) (n limit : ℕ) → n ≤ limit → (if b then n else 0) ≤ limit
either_less true n limit le = le
either_less false n limit le = omega arith

not_later : (t turn n limit : ℕ) (b : Bool) → nat_lt t turn ≡ b → (turn ≤ t → n ≤ limit) → (if b then 0 else n) ≤ limit
not_later t turn n limit true is le = omega arith
not_later t turn n limit false is le = le (reached is)
  where
    reached : nat_lt t turn ≡ false → turn ≤ t
    reached is = ltb-false t turn is

by_told : (t : ℕ) (o : Option ℕ) (n limit : ℕ) → ((turn : ℕ) → o ≡ Some turn → turn ≤ t → n ≤ limit) → accounted_by t o n ≤ limit
by_told t None n limit le = omega arith
by_told t (Some turn) n limit le = not_later t turn n limit (nat_lt t turn) refl (le turn refl)

pub share_within : (d t limit : ℕ) (s : ScriptStep) (r : Reply) → ((turn : ℕ) → turn_told r ≡ Some turn → turn ≤ t → turns_of r ≤ limit) → share d t s r ≤ limit
share_within d t limit s r le = either_less (document_of s == d) (accounted_by t (turn_told r) (turns_of r)) limit (by_told t (turn_told r) (turns_of r) limit le)
