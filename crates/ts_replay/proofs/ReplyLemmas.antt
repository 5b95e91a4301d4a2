-- Replies with one more at the end of a client's, and what histories tell of them.
use Rattle.std.proofs.Common.{◌≡◌, ◌∙◌, sym, ap, refl, subst, ℕ, zero, suc, ◌+◌, ◌<◌, ◌≤◌, ◌==◌, if◌then◌else◌, ◌⊎◌, inl, inr, ⊎_elim, List, [], ◌∷◌, ◌++◌, length, take, drop, slice_get, Option, Some, None, unwrap_or, arith}
use Rattle.std.specs.Option.{option_and_then}
use Rattle.std.proofs.lemmas.Bool.{cases_eq}
use Rattle.std.proofs.lemmas.Option.{slice_get_within}
use Rattle.std.proofs.Math.Seq.{take-nil}
use Rattle.ts_base.proofs.PlaceLemmas.{set_here, set_there, push_cases, in_prefix, at_end}
use Rattle.ts_script.specs.declared.plan.ScriptStep.{ScriptStep}
use Rattle.ts_replies.specs.declared.reply.Reply.{Reply}
use Rattle.spec_history.specs.Replies.{document_of, version_of, turn_told, turns_of}
use Rattle.spec_history.specs.Histories.{reply_at, paired, all_paired, held_after, accounted_by, accounted_in, accounted_all}
use Rattle.ts_replay.specs.Runs.{with_own_reply, weight_of, weight_left}

-- ---- where replies stand

own_at : (o : Option (List Reply)) (m : ℕ) (x : Reply)
    → option_and_then (λ (own : List Reply). slice_get own m) o ≡ Some x
    → (own : List Reply) × (o ≡ Some own) × (slice_get own m ≡ Some x)
own_at None m x h = absurd (let f : None ≡ Some x = h in cc)
own_at (Some own) m x h = (own, refl, h)

-- a reply stands among those of its client
pub stands : (replies : List (List Reply)) (k m : ℕ) (x : Reply) → reply_at replies k m ≡ Some x
    → (own : List Reply) × (slice_get replies k ≡ Some own) × (slice_get own m ≡ Some x)
stands replies k m x h = own_at (slice_get replies k) m x h

at_of : (o : Option (List Reply)) (m : ℕ) (own : List Reply) → o ≡ Some own
    → option_and_then (λ (own : List Reply). slice_get own m) o ≡ slice_get own m
at_of o m own is = ap (λ (o : Option (List Reply)). option_and_then (λ (own : List Reply). slice_get own m) o) is

module _ (replies : List (List Reply)) (c : ℕ) (own : List Reply) (r : Reply)
    (own_are : slice_get replies c ≡ Some own) where
  pub own_after : slice_get (with_own_reply c own r replies) c ≡ Some (own ++ r ∷ [])
  own_after = set_here replies c (own ++ r ∷ []) (slice_get_within replies c own own_are)

  pub others_after : (k : ℕ) → (k ≡ c → ⊥) → slice_get (with_own_reply c own r replies) k ≡ slice_get replies k
  others_after k other = set_there replies c k (own ++ r ∷ []) other

  -- the new reply stands behind the old ones
  pub new_stands : reply_at (with_own_reply c own r replies) c (length own) ≡ Some r
  new_stands = at_of (slice_get (with_own_reply c own r replies) c) (length own) (own ++ r ∷ []) own_after ∙ at_end own r

  -- the old ones stand where they did
  pub old_stands : (k m : ℕ) (x : Reply) → reply_at replies k m ≡ Some x → reply_at (with_own_reply c own r replies) k m ≡ Some x
  old_stands k m x h = ⊎_elim here there (cases_eq k c)
    where
      mine : (e : k ≡ c) → slice_get own m ≡ Some x
      mine e = sym (at_of (slice_get replies k) m own (ap (slice_get replies) e ∙ own_are)) ∙ h

      here : k ≡ c → reply_at (with_own_reply c own r replies) k m ≡ Some x
      here e = at_of (slice_get (with_own_reply c own r replies) k) m (own ++ r ∷ []) (ap (slice_get (with_own_reply c own r replies)) e ∙ own_after)
          ∙ in_prefix own (r ∷ []) m (slice_get_within own m x (mine e)) ∙ mine e

      there : (k ≡ c → ⊥) → reply_at (with_own_reply c own r replies) k m ≡ Some x
      there other = ap (λ (o : Option (List Reply)). option_and_then (λ (own : List Reply). slice_get own m) o) (others_after k other) ∙ h

  -- each is an old one or the new one
  pub reply_cases : (k m : ℕ) (x : Reply) → reply_at (with_own_reply c own r replies) k m ≡ Some x
      → (reply_at replies k m ≡ Some x) ⊎ ((k ≡ c) × (m ≡ length own) × (r ≡ x))
  reply_cases k m x h = ⊎_elim here there (cases_eq k c)
    where
      place : (e : k ≡ c) → slice_get (own ++ r ∷ []) m ≡ Some x
      place e = sym (at_of (slice_get (with_own_reply c own r replies) k) m (own ++ r ∷ []) (ap (slice_get (with_own_reply c own r replies)) e ∙ own_after)) ∙ h

      of_own : (e : k ≡ c) → ((m < length own) × (slice_get own m ≡ Some x)) ⊎ ((m ≡ length own) × (r ≡ x))
          → (reply_at replies k m ≡ Some x) ⊎ ((k ≡ c) × (m ≡ length own) × (r ≡ x))
      of_own e (inl w) = inl (at_of (slice_get replies k) m own (ap (slice_get replies) e ∙ own_are) ∙ w.1)
      of_own e (inr w) = inr (e, w.0, w.1)

      here : k ≡ c → (reply_at replies k m ≡ Some x) ⊎ ((k ≡ c) × (m ≡ length own) × (r ≡ x))
      here e = of_own e (push_cases own r m x (place e))

      there : (k ≡ c → ⊥) → (reply_at replies k m ≡ Some x) ⊎ ((k ≡ c) × (m ≡ length own) × (r ≡ x))
      there other = inl (sym (ap (λ (o : Option (List Reply)). option_and_then (λ (own : List Reply). slice_get own m) o) (others_after k other)) ∙ h)

-- ---- pairs

abbrev with_pair : ScriptStep → Reply → List (ScriptStep × Reply) → List (ScriptStep × Reply)
with_pair s r ps = (s, r) ∷ ps

paired_none : (ss : List ScriptStep) → ◌≡◌ {A = List (ScriptStep × Reply)} (paired ss []) []
paired_none [] = refl
paired_none (s ∷ ss) = refl

pub length_paired : (ss : List ScriptStep) (rs : List Reply) → length (paired ss rs) ≤ length rs
length_paired [] rs = omega arith
length_paired (s ∷ ss) [] = omega arith
length_paired (s ∷ ss) (r ∷ rs) = let h : length (paired ss rs) ≤ length rs = length_paired ss rs in omega (arith, h)

paired_take : (ss : List ScriptStep) (rs : List Reply) (r : Reply) (m : ℕ) → m ≤ length rs
    → take m (paired ss (rs ++ r ∷ [])) ≡ take m (paired ss rs)
paired_take [] rs r m le = refl
paired_take (s ∷ ss) [] r zero le = refl
paired_take (s ∷ ss) [] r (suc m) le = absurd (let f : ⊥ = omega (arith, le) in f)
paired_take (s ∷ ss) (x ∷ rs) r zero le = refl
paired_take (s ∷ ss) (x ∷ rs) r (suc m) le =
    ap (λ (ps : List (ScriptStep × Reply)). (s, x) ∷ ps) (paired_take ss rs r m (omega (arith, le)))

pub paired_push : (ss : List ScriptStep) (rs : List Reply) (s : ScriptStep) (r : Reply) → slice_get ss (length rs) ≡ Some s
    → paired ss (rs ++ r ∷ []) ≡ paired ss rs ++ (s, r) ∷ []
paired_push [] rs s r h = absurd (let f : None ≡ Some s = h in cc)
paired_push (x ∷ ss) [] s r h =
    let e : x ≡ s = (let f : Some x ≡ Some s = h in cc) in
    ap (λ (ps : List (ScriptStep × Reply)). (x, r) ∷ ps) (paired_none ss) ∙ ap (λ (y : ScriptStep). with_pair y r []) e
paired_push (x ∷ ss) (y ∷ rs) s r h = ap (λ (ps : List (ScriptStep × Reply)). (x, y) ∷ ps) (paired_push ss rs s r h)

-- the first steps of each client are paired as before
pub earlier_same : (replies : List (List Reply)) (c k m : ℕ) (own : List Reply) (r : Reply) (ss : List ScriptStep)
    → slice_get replies c ≡ Some own → m ≤ length (unwrap_or (slice_get replies k) [])
    → take m (paired ss (unwrap_or (slice_get (with_own_reply c own r replies) k) [])) ≡ take m (paired ss (unwrap_or (slice_get replies k) []))
earlier_same replies c k m own r ss is le = ⊎_elim here there (cases_eq k c)
  where
    paired_of : Option (List Reply) → List (ScriptStep × Reply)
    paired_of o = take m (paired ss (unwrap_or o []))

    here : k ≡ c → take m (paired ss (unwrap_or (slice_get (with_own_reply c own r replies) k) [])) ≡ take m (paired ss (unwrap_or (slice_get replies k) []))
    here e =
        let old : slice_get replies k ≡ Some own = ap (slice_get replies) e ∙ is in
        let new : slice_get (with_own_reply c own r replies) k ≡ Some (own ++ r ∷ []) = ap (slice_get (with_own_reply c own r replies)) e ∙ own_after replies c own r is in
        let short : m ≤ length own = subst (λ (o : Option (List Reply)). m ≤ length (unwrap_or o [])) old le in
        ap (λ (o : Option (List Reply)). take m (paired ss (unwrap_or o []))) new ∙ paired_take ss own r m short
        ∙ sym (ap (λ (o : Option (List Reply)). take m (paired ss (unwrap_or o []))) old)

    there : (k ≡ c → ⊥) → take m (paired ss (unwrap_or (slice_get (with_own_reply c own r replies) k) [])) ≡ take m (paired ss (unwrap_or (slice_get replies k) []))
    there other = ap (λ (o : Option (List Reply)). take m (paired ss (unwrap_or o []))) (others_after replies c own r is k other)

pub take_push : {X : Type 0} (xs : List X) (p : X) (m : ℕ) → (take m (xs ++ p ∷ []) ≡ take m xs) ⊎ (take m (xs ++ p ∷ []) ≡ xs ++ p ∷ [])
take_push [] p zero = inl refl
take_push [] p (suc m) = inr (ap (λ ps. p ∷ ps) (take-nil m))
take_push (x ∷ xs) p zero = inl refl
take_push (x ∷ xs) p (suc m) = ⊎_elim (λ e. inl (ap (λ ps. x ∷ ps) e)) (λ e. inr (ap (λ ps. x ∷ ps) e)) (take_push xs p m)

pub held_push : (d b : ℕ) (ps : List (ScriptStep × Reply)) (p : ScriptStep × Reply)
    → held_after d b (ps ++ p ∷ []) ≡ (if document_of p.0 == d then version_of p.1 else held_after d b ps)
held_push d b [] p = refl
held_push d b (q ∷ ps) p = held_push d (if document_of q.0 == d then version_of q.1 else b) ps p

-- ---- turns for which replies account

-- for how many turns of the document up to this one the reply accounts
abbrev pub share : ℕ → ℕ → ScriptStep → Reply → ℕ
share d t s r = if document_of s == d then accounted_by t (turn_told r) (turns_of r) else 0

accounted_push : (d t : ℕ) (ps : List (ScriptStep × Reply)) (s : ScriptStep) (r : Reply)
    → accounted_in d t (ps ++ (s, r) ∷ []) ≡ accounted_in d t ps + share d t s r
accounted_push d t [] s r = omega arith
accounted_push d t (p ∷ ps) s r = let h : accounted_in d t (ps ++ (s, r) ∷ []) ≡ accounted_in d t ps + share d t s r = accounted_push d t ps s r in omega (arith, h)

pub accounted_next : (d t : ℕ) (clients : List (List ScriptStep)) (replies : List (List Reply)) (c : ℕ)
    (steps : List ScriptStep) (own : List Reply) (s : ScriptStep) (r : Reply)
    → slice_get clients c ≡ Some steps → slice_get replies c ≡ Some own → slice_get steps (length own) ≡ Some s
    → accounted_all d t (all_paired clients (with_own_reply c own r replies)) ≡ accounted_all d t (all_paired clients replies) + share d t s r
accounted_next d t [] replies c steps own s r a b h = absurd (let f : None ≡ Some steps = a in cc)
accounted_next d t (ss ∷ clients) [] c steps own s r a b h = absurd (let f : None ≡ Some own = b in cc)
accounted_next d t (ss ∷ clients) (rs ∷ replies) zero steps own s r a b h =
    let x : ss ≡ steps = (let f : Some ss ≡ Some steps = a in cc) in
    let y : rs ≡ own = (let f : Some rs ≡ Some own = b in cc) in
    let here : slice_get ss (length own) ≡ Some s = ap (λ (l : List ScriptStep). slice_get l (length own)) x ∙ h in
    let first : accounted_in d t (paired ss (own ++ r ∷ [])) ≡ accounted_in d t (paired ss rs) + share d t s r
    = ap (accounted_in d t) (paired_push ss own s r here) ∙ accounted_push d t (paired ss own) s r
    ∙ ap (λ (l : List Reply). accounted_in d t (paired ss l) + share d t s r) (sym y) in
    omega (arith, first)
accounted_next d t (ss ∷ clients) (rs ∷ replies) (suc c) steps own s r a b h =
    let rest : accounted_all d t (all_paired clients (with_own_reply c own r replies)) ≡ accounted_all d t (all_paired clients replies) + share d t s r
    = accounted_next d t clients replies c steps own s r a b h in
    omega (arith, rest)

-- ---- what is left

weigh_drop : (w : ScriptStep → ℕ) (ss : List ScriptStep) (n : ℕ) (s : ScriptStep) → slice_get ss n ≡ Some s
    → weight_of w (drop n ss) ≡ w s + weight_of w (drop (suc n) ss)
weigh_drop w [] n s h = absurd (let f : None ≡ Some s = h in cc)
weigh_drop w (x ∷ ss) zero s h = let e : x ≡ s = (let f : Some x ≡ Some s = h in cc) in ap (λ (y : ScriptStep). w y + weight_of w ss) e
weigh_drop w (x ∷ ss) (suc n) s h = weigh_drop w ss n s h

pub length_one_more : (rs : List Reply) (r : Reply) → length (rs ++ r ∷ []) ≡ suc (length rs)
length_one_more [] r = refl
length_one_more (x ∷ rs) r = ap (λ (n : ℕ). suc n) (length_one_more rs r)

-- the step that has a reply now is no longer left
pub left_next : (w : ScriptStep → ℕ) (clients : List (List ScriptStep)) (replies : List (List Reply)) (c : ℕ)
    (steps : List ScriptStep) (own : List Reply) (s : ScriptStep) (r : Reply)
    → slice_get clients c ≡ Some steps → slice_get replies c ≡ Some own → slice_get steps (length own) ≡ Some s
    → weight_left w clients replies ≡ w s + weight_left w clients (with_own_reply c own r replies)
left_next w [] replies c steps own s r a b h = absurd (let f : None ≡ Some steps = a in cc)
left_next w (ss ∷ clients) [] c steps own s r a b h = absurd (let f : None ≡ Some own = b in cc)
left_next w (ss ∷ clients) (rs ∷ replies) zero steps own s r a b h =
    let x : ss ≡ steps = (let f : Some ss ≡ Some steps = a in cc) in
    let y : rs ≡ own = (let f : Some rs ≡ Some own = b in cc) in
    let here : slice_get ss (length own) ≡ Some s = ap (λ (l : List ScriptStep). slice_get l (length own)) x ∙ h in
    let first : weight_of w (drop (length rs) ss) ≡ w s + weight_of w (drop (length (own ++ r ∷ [])) ss)
    = ap (λ (l : List Reply). weight_of w (drop (length l) ss)) y ∙ weigh_drop w ss (length own) s here
    ∙ ap (λ (n : ℕ). w s + weight_of w (drop n ss)) (sym (length_one_more own r)) in
    omega (arith, first)
left_next w (ss ∷ clients) (rs ∷ replies) (suc c) steps own s r a b h =
    let rest : weight_left w clients replies ≡ w s + weight_left w clients (with_own_reply c own r replies) = left_next w clients replies c steps own s r a b h in
    omega (arith, rest)
