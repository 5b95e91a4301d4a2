-- How many edits are in steps.
use Rattle.std.proofs.Common.{◌≡◌, ap, ℕ, zero, suc, ◌+◌, List, [], ◌∷◌, drop, slice_get, Some}
use Rattle.ts_script.specs.declared.plan.ScriptStep.{ScriptStep}
use Rattle.ts_replay.specs.Runs.{weight_of, weight_left}
use Rattle.ts_workers.proofs.ListLemmas.{same_thing, nowhere}

-- the edits of one more client, and those of the clients after it
pub left_from : (w : ScriptStep → ℕ) (clients : List (List ScriptStep)) (c : ℕ) (ss : List ScriptStep) → slice_get clients c ≡ Some ss
    → weight_left w (drop c clients) [] ≡ weight_of w ss + weight_left w (drop (suc c) clients) []
left_from w [] c ss is = absurd (nowhere c ss is)
left_from w (xs ∷ clients) zero ss is = ap (λ (l : List ScriptStep). weight_of w l + weight_left w clients []) (same_thing xs ss is)
left_from w (xs ∷ clients) (suc c) ss is = left_from w clients c ss is
