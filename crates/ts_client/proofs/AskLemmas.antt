-- Steps that took no turn.
use Rattle.std.proofs.Common.{◌≡◌, sym, subst, ℕ, List, [], arith}
use Rattle.ts_base.specs.Bytes.{Bytes}
use Rattle.ts_docs.specs.declared.parsed.ParsedText.{ParsedText}
use Rattle.ts_script.specs.declared.plan.ScriptStep.{ScriptStep}
use Rattle.ts_script.specs.declared.plan.ScriptStep.TheVariants as step
use Rattle.ts_replies.specs.declared.reply.ShownResult.{ShownResult}
use Rattle.ts_replies.specs.declared.reply.Reply.{Reply}
use Rattle.ts_replies.specs.declared.reply.Reply.TheVariants as reply
use Rattle.spec_history.specs.Legal.{HasTree}
use Rattle.ts_replay.specs.Beginnings as begins
use Rattle.ts_replay.specs.Beginnings.{TellsHeld}
use Rattle.ts_client.specs.Steps.{Standing, ServesStep, out_of_range, too_large, shows, has_no_memory, Serves, asks_nothing, finds, has_no_tree}
use Rattle.ts_client.proofs.LookLemmas.{same_idle}

module _ {Finds : Bytes → List ℕ → List ShownResult → Type 0} (client number : ℕ) (old : Standing) where
  pub nothing_found : (s : ScriptStep) → Serves Finds client number old s (reply.Memory old.number) old
  nothing_found s = asks_nothing s (reply.Memory old.number) old (has_no_memory s [] old.knows (same_idle old.knows) (omega arith))

  pub found_there : (at : ℕ) (queries : List ℕ) (held : ParsedText) (results : List ShownResult) → held ≡ old.version
      → HasTree old.version.table.grammar old.version.text → Finds held.text queries results
      → Serves Finds client number old (step.Query at queries) (reply.Results results old.number) old
  found_there at queries held results same has found = finds at queries results has (subst (λ (v : ParsedText). Finds v.text queries results) same found)

  -- a reply that took no turn
  told_held : (s : ScriptStep) (r : Reply) → TellsHeld old.version old.number s r → Serves Finds client number old s r old
  told_held _ _ (begins.out_of_range at edit out) = asks_nothing (step.Edit at edit) (reply.Range old.number) old (out_of_range at edit out)
  told_held _ _ (begins.too_large at edit bytes over) = asks_nothing (step.Edit at edit) (reply.Size bytes old.number) old (too_large at edit bytes over)
  told_held _ _ (begins.shows at outcome shown) = asks_nothing (step.Tree at) (reply.Tree outcome old.number) old (shows at outcome shown)
  told_held _ _ (begins.has_no_tree at queries outcome none shown) = has_no_tree at queries outcome none shown
  told_held _ _ (begins.has_no_memory s) = nothing_found s

  pub told_there : (s : ScriptStep) (r : Reply) (held : ParsedText) → held ≡ old.version → TellsHeld held old.number s r → Serves Finds client number old s r old
  told_there s r held same tells = told_held s r (subst (λ (v : ParsedText). TellsHeld v old.number s r) same tells)

  -- what a step of another kind does
  pub serves_step : (s x : ScriptStep) (r : Reply) (new : Standing) → s ≡ x → ServesStep client number old x r new → Serves Finds client number old s r new
  serves_step s x r new is does = subst (λ (y : ScriptStep). Serves Finds client number old y r new) (sym is) (asks_nothing x r new does)
