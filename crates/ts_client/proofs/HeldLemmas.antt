-- What a client holds after one reply more.
use Rattle.std.proofs.Common.{◌≡◌, ◌∙◌, sym, ap, refl, ℕ, ◌≤◌, ◌==◌, if◌then◌else◌, Bool, ⊎_elim, List, [], ◌∷◌, ◌++◌, length, slice_get, Some, None, arith}
use Rattle.std.proofs.lemmas.Bool.{eq-eqb}
use Rattle.std.proofs.lemmas.Bool.Decides.{eqb_tells}
use Rattle.std.proofs.lemmas.List.{take_all}
use Rattle.ts_script.specs.declared.plan.ScriptStep.{ScriptStep}
use Rattle.ts_replies.specs.declared.reply.Reply.{Reply}
use Rattle.spec_history.specs.Replies.{document_of, version_of}
use Rattle.spec_history.specs.Histories.{paired, held_after}
use Rattle.spec_clients.specs.Served.{held_at}

pub paired_none : (ss : List ScriptStep) → ◌≡◌ {A = List (ScriptStep × Reply)} (paired ss []) []
paired_none [] = refl
paired_none (s ∷ ss) = refl

length_paired : (ss : List ScriptStep) (rs : List Reply) → length (paired ss rs) ≤ length rs
length_paired [] rs = omega arith
length_paired (s ∷ ss) [] = omega arith
length_paired (s ∷ ss) (r ∷ rs) = let h : length (paired ss rs) ≤ length rs = length_paired ss rs in omega (arith, h)

abbrev with_pair : ScriptStep → Reply → List (ScriptStep × Reply) → List (ScriptStep × Reply)
with_pair s r ps = (s, r) ∷ ps

paired_push : (ss : List ScriptStep) (rs : List Reply) (s : ScriptStep) (r : Reply) → slice_get ss (length rs) ≡ Some s
    → paired ss (rs ++ r ∷ []) ≡ paired ss rs ++ (s, r) ∷ []
paired_push [] rs s r h = absurd (let f : None ≡ Some s = h in cc)
paired_push (x ∷ ss) [] s r h =
    let e : x ≡ s = (let f : Some x ≡ Some s = h in cc) in
    ap (λ (ps : List (ScriptStep × Reply)). (x, r) ∷ ps) (paired_none ss) ∙ ap (λ (y : ScriptStep). with_pair y r []) e
paired_push (x ∷ ss) (y ∷ rs) s r h = ap (λ (ps : List (ScriptStep × Reply)). (x, y) ∷ ps) (paired_push ss rs s r h)

held_push : (d b : ℕ) (ps : List (ScriptStep × Reply)) (p : ScriptStep × Reply)
    → held_after d b (ps ++ p ∷ []) ≡ (if document_of p.0 == d then version_of p.1 else held_after d b ps)
held_push d b [] p = refl
held_push d b (q ∷ ps) p = held_push d (if document_of q.0 == d then version_of q.1 else b) ps p

held_all : (document : ℕ) (steps : List ScriptStep) (replies : List Reply) → held_at document steps replies (length replies) ≡ held_after document 0 (paired steps replies)
held_all document steps replies = ap (held_after document 0) (take_all (length replies) (paired steps replies) (length_paired steps replies))

module _ (document : ℕ) (steps : List ScriptStep) (replies : List Reply) (s : ScriptStep) (r : Reply)
    (is : slice_get steps (length replies) ≡ Some s) where
  held_next : held_at document steps (replies ++ r ∷ []) (length (replies ++ r ∷ []))
      ≡ (if document_of s == document then version_of r else held_at document steps replies (length replies))
  held_next = held_all document steps (replies ++ r ∷ []) ∙ ap (held_after document 0) (paired_push steps replies s r is)
      ∙ held_push document 0 (paired steps replies) (s, r)
      ∙ ap (λ (n : ℕ). if document_of s == document then version_of r else n) (sym (held_all document steps replies))

  pub held_here : document_of s ≡ document → held_at document steps (replies ++ r ∷ []) (length (replies ++ r ∷ [])) ≡ version_of r
  held_here on = held_next ∙ ap (λ (b : Bool). if b then version_of r else held_at document steps replies (length replies)) (eq-eqb (document_of s) document on)

  pub held_elsewhere : (document_of s ≡ document → ⊥) → held_at document steps (replies ++ r ∷ []) (length (replies ++ r ∷ [])) ≡ held_at document steps replies (length replies)
  held_elsewhere other = held_next ∙ ap (λ (b : Bool). if b then version_of r else held_at document steps replies (length replies))
      (⊎_elim (λ w. absurd (other w.1)) (λ w. w.0) (eqb_tells (document_of s) document))
