-- Runs in a given order, on one thread.
use Rattle.std.specs.Prelude.{◌≡◌, ℕ, zero, suc, ◌+◌, ◌<◌, List, [], ◌∷◌, ◌++◌, take, drop, flat_map, slice_get, unwrap_or, Some, None}
use Rattle.ts_script.specs.declared.plan.ScriptStep.{ScriptStep}
use Rattle.ts_script.specs.declared.plan.ScriptStep.TheVariants as step
use Rattle.ts_replies.specs.declared.reply.Reply.{Reply}
use Rattle.ts_replies.specs.declared.reply.Reply.TheVariants as reply
use Rattle.spec_history.specs.Replies.{document_of, turn_told, turns_of, most_looks}
use Rattle.spec_history.specs.Histories.{History, all_paired}

module _ {A : Type 0} where
  -- the first item of the list of this number, if it has one
  abbrev pub first_of : ℕ → List (List A) → List A
  first_of client lists = take 1 (unwrap_or (slice_get lists client) [])

  -- the lists without that item
  abbrev pub without_first : ℕ → List (List A) → List (List A)
  without_first client [] = []
  without_first zero (xs ∷ lists) = drop 1 xs ∷ lists
  without_first (suc client) (xs ∷ lists) = xs ∷ without_first client lists

  -- The items of all lists in the order of a run: each number takes the first item that its list
  -- still has, and is passed over where there is none; then what is left, the first list first.
  abbrev pub in_order : List ℕ → List (List A) → List A
  in_order [] lists = flat_map (λ (xs : List A). xs) lists
  in_order (client ∷ clients) lists =
      first_of client lists ++ in_order clients (without_first client lists)

-- Before a step so many turns of its document are over, and after it so many.
pub data TakesTurns (before : ℕ) (s : ScriptStep) (r : Reply) (after : ℕ) : Type 0 where
  -- a reply that tells a turn tells the last one that its step took, and accounts for all of them
  tells : (turn : ℕ) → turn_told r ≡ Some turn → suc turn ≡ before + turns_of r → after ≡ suc turn
      → TakesTurns before s r after
  -- of the other steps, only an await that found no memory may have taken turns
  rests : turn_told r ≡ None → after ≡ before → TakesTurns before s r after
  gave_up : (document wanted version looks : ℕ) → s ≡ step.Await document wanted
      → r ≡ reply.Memory version → looks < most_looks → after ≡ before + looks
      → TakesTurns before s r after

-- the step takes its turns of the document, if it is one on it
pub record Advances (document before : ℕ) (p : ScriptStep × Reply) (after : ℕ) : Type 0 where
  pub on : document_of p.0 ≡ document → TakesTurns before p.0 p.1 after
  pub off : (document_of p.0 ≡ document → ⊥) → after ≡ before

-- where so many turns of the document are over, the steps take the next ones, without a gap
abbrev pub TakeTurns : ℕ → ℕ → List (ScriptStep × Reply) → Type 0
TakeTurns document before [] = Unit {0}
TakeTurns document before (p ∷ ps) =
    (after : ℕ) × Advances document before p after × TakeTurns document after ps

-- the steps ran in the order, and the turns of each document are 0, 1, 2 and so on
abbrev pub InOrder : List ℕ → History → Type 0
InOrder order h = (document : ℕ)
    → TakeTurns document 0 (in_order order (all_paired h.plan.clients h.replies))
