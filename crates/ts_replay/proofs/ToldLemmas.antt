-- The last turn that a client was told is one that a reply of it tells.
use Rattle.std.proofs.Common.{◌≡◌, ◌∙◌, ap, refl, ℕ, zero, suc, ◌==◌, if◌then◌else◌, true, false, Bool, ◌⊎◌, inl, inr, ⊎_elim, List, [], ◌∷◌, take, slice_get, Option, Some, None, unwrap_or}
use Rattle.std.specs.Option.{option_and_then}
use Rattle.std.proofs.lemmas.Bool.{eqb-true}
use Rattle.std.proofs.lemmas.Option.{some_pair_parts}
use Rattle.ts_script.specs.declared.plan.ScriptStep.{ScriptStep}
use Rattle.ts_replies.specs.declared.reply.Reply.{Reply}
use Rattle.spec_history.specs.Replies.{document_of, turn_told}
use Rattle.spec_history.specs.Histories.{History, last_told, last_turn, later_turn, paired}
use Rattle.spec_history.specs.Legal.{TellsTurn}

-- a step of this number was told the turn, of the document
record WasTold (d t : ℕ) (ps : List (ScriptStep × Reply)) : Type 0 where
  pub number : ℕ
  pub pair : ScriptStep × Reply
  pub is : slice_get ps number ≡ Some pair
  pub on : document_of pair.0 ≡ d
  pub told : turn_told pair.1 ≡ Some t

later : (d t : ℕ) (p : ScriptStep × Reply) (ps : List (ScriptStep × Reply)) → WasTold d t ps → WasTold d t (p ∷ ps)
later d t p ps w = record { number = suc w.number; pair = w.pair; is = w.is; on = w.on; told = w.told }

one_more : (d t : ℕ) (last : Option ℕ) (p : ScriptStep × Reply) (ps : List (ScriptStep × Reply)) (b : Bool) → (document_of p.0 == d) ≡ b → (o : Option ℕ) → turn_told p.1 ≡ o
    → (if b then later_turn last o else last) ≡ Some t → (last ≡ Some t) ⊎ WasTold d t (p ∷ ps)
one_more d t last p ps false on o is h = inl h
one_more d t last p ps true on None is h = inl h
one_more d t last p ps true on (Some u) is h = inr (record { number = 0; pair = p; is = refl; on = eqb-true (document_of p.0) d on; told = is ∙ h })

told_or_before : (d t : ℕ) (last : Option ℕ) (ps : List (ScriptStep × Reply)) → last_turn d last ps ≡ Some t → (last ≡ Some t) ⊎ WasTold d t ps
told_or_before d t last [] h = inl h
told_or_before d t last (p ∷ ps) h = ⊎_elim
    (λ e. one_more d t last p ps (document_of p.0 == d) refl (turn_told p.1) refl e)
    (λ w. inr (later d t p ps w))
    (told_or_before d t (if document_of p.0 == d then later_turn last (turn_told p.1) else last) ps h)

pair_at : (n : ℕ) (ss : List ScriptStep) (rs : List Reply) (m : ℕ) (p : ScriptStep × Reply) → slice_get (take n (paired ss rs)) m ≡ Some p
    → (slice_get ss m ≡ Some p.0) × (slice_get rs m ≡ Some p.1)
pair_at zero ss rs m p h = absurd (none p h)
  where
    none : (p : ScriptStep × Reply) → ◌≡◌ {A = Option (ScriptStep × Reply)} None (Some p) → ⊥
    none p h = cc
pair_at (suc n) [] rs m p h = absurd (none p h)
  where
    none : (p : ScriptStep × Reply) → ◌≡◌ {A = Option (ScriptStep × Reply)} None (Some p) → ⊥
    none p h = cc
pair_at (suc n) (s ∷ ss) [] m p h = absurd (none p h)
  where
    none : (p : ScriptStep × Reply) → ◌≡◌ {A = Option (ScriptStep × Reply)} None (Some p) → ⊥
    none p h = cc
pair_at (suc n) (s ∷ ss) (r ∷ rs) zero p h = let e = some_pair_parts s p.0 r p.1 h in (ap Some e.0, ap Some e.1)
pair_at (suc n) (s ∷ ss) (r ∷ rs) (suc m) p h = pair_at n ss rs m p h

given_at : {X : Type 0} (o : Option (List X)) (m : ℕ) (x : X) → slice_get (unwrap_or o []) m ≡ Some x → option_and_then (λ (xs : List X). slice_get xs m) o ≡ Some x
given_at None m x h = absurd (let f : None ≡ Some x = h in cc)
given_at (Some xs) m x h = h

pub last_is_told : (h : History) (c n d t : ℕ) → last_told h c n d ≡ Some t → (m : ℕ) × TellsTurn h d c m t
last_is_told h c n d t is = ⊎_elim
    (λ none. absurd (let f : None ≡ Some t = none in cc))
    (λ w. let at = pair_at n (unwrap_or (slice_get h.plan.clients c) []) (unwrap_or (slice_get h.replies c) []) w.number w.pair w.is in (
      w.number,
      record {
        step = w.pair.0;
        answer = w.pair.1;
        answered = record {
          step_is = given_at (slice_get h.plan.clients c) w.number w.pair.0 at.0;
          reply_is = given_at (slice_get h.replies c) w.number w.pair.1 at.1;
        };
        on = w.on;
        told = w.told;
      },
    ))
    (told_or_before d t None (take n (paired (unwrap_or (slice_get h.plan.clients c) []) (unwrap_or (slice_get h.replies c) []))) is)
