-- The lines of replies hold no float, as many items are sent as there are, and what is left
-- at a place of a list begins with the item there.
use Rattle.std.proofs.Common.{arith, ◌≡◌, ◌∙◌, refl, sym, ap, ℕ, suc, ◌+◌, ◌<◌, List, [], ◌∷◌, false, map, length, drop, get_or}
use Rattle.std.proofs.Math.Seq.{drop-cons}
use Rattle.serde_json.specs.Data.{Data, string, Members}
use Rattle.serde_json.specs.Events.{items_len}
use Rattle.serde_json.specs.View.{items_of}
use Rattle.serde_json.specs.Written.{has_float, items_have_float, members_have_float}
use Rattle.ts_base.specs.Bytes.{Bytes}
use Rattle.ts_core.specs.declared.shown.Shown.{Shown}
use Rattle.spec_output.specs.Outcomes.{node_items, outcome_members}
use Rattle.spec_output.specs.declared.outcome.ShownOutcome.{ShownOutcome}
use Rattle.spec_output.specs.declared.outcome.ShownOutcome.TheVariants.{Tree, Stuck, Deep}
use Rattle.ts_replies.specs.Replies.{capture_data, match_data, result_data, reply_members}
use Rattle.ts_replies.specs.declared.reply.Reply.{Reply}
use Rattle.ts_replies.specs.declared.reply.Reply.TheVariants as reply
use Rattle.ts_replies.specs.declared.reply.ShownCapture.{ShownCapture}
use Rattle.ts_replies.specs.declared.reply.ShownMatch.{ShownMatch}
use Rattle.ts_replies.specs.declared.reply.ShownResult.{ShownResult}
use Rattle.ts_replies.specs.declared.reply.ShownResult.TheVariants.{Many, Found}

-- ---- floats

texts_have_none : (texts : List Bytes) → items_have_float (items_of (map string texts)) ≡ false
texts_have_none [] = refl
texts_have_none (text ∷ texts) = texts_have_none texts

nodes_have_none : (nodes : List Shown) → items_have_float (node_items nodes) ≡ false
nodes_have_none [] = refl
nodes_have_none (node ∷ nodes) = rw (texts_have_none node.fields) (nodes_have_none nodes)

outcome_has_none : (outcome : ShownOutcome) (after : Members) → members_have_float after ≡ false → members_have_float (outcome_members outcome after) ≡ false
outcome_has_none (Tree nodes) after h = rw (nodes_have_none nodes) h
outcome_has_none (Stuck place) after h = h
outcome_has_none Deep after h = h

captures_have_none : (captures : List ShownCapture) → items_have_float (items_of (map capture_data captures)) ≡ false
captures_have_none [] = refl
captures_have_none (capture ∷ captures) = captures_have_none captures

matches_have_none : (matches : List ShownMatch) → items_have_float (items_of (map match_data matches)) ≡ false
matches_have_none [] = refl
matches_have_none (found ∷ matches) = rw (captures_have_none found.captures) (matches_have_none matches)

result_has_none : (asked : ShownResult) → has_float (result_data asked) ≡ false
result_has_none Many = refl
result_has_none (Found matches) = matches_have_none matches

results_have_none : (results : List ShownResult) → items_have_float (items_of (map result_data results)) ≡ false
results_have_none [] = refl
results_have_none (asked ∷ results) = rw (result_has_none asked) (results_have_none results)

pub reply_has_none : (step : ℕ) (told : Reply) → members_have_float (reply_members step told) ≡ false
reply_has_none step (reply.Published turn version) = refl
reply_has_none step (reply.Newer turn version) = refl
reply_has_none step (reply.Look turn version) = refl
reply_has_none step (reply.Await turn version) = refl
reply_has_none step (reply.Late turn version) = refl
reply_has_none step (reply.Range version) = refl
reply_has_none step (reply.Size size version) = refl
reply_has_none step (reply.Memory version) = refl
reply_has_none step (reply.Tree outcome version) = outcome_has_none outcome _ refl
reply_has_none step (reply.Results results version) = rw (results_have_none results) refl
reply_has_none step (reply.Absent outcome version) = outcome_has_none outcome _ refl

-- ---- lists

pub many : {X : Type 0} (f : X → Data) (xs : List X) → items_len (items_of (map f xs)) ≡ length xs
many f [] = refl
many f (x ∷ xs) = ap suc (many f xs)

pub from_here : {X : Type 0} (xs : List X) (i : ℕ) (x : X) → i < length xs → x ≡ get_or xs i x → drop i xs ≡ x ∷ drop (i + 1) xs
from_here xs i x lt is =
    let next : suc i ≡ i + 1 = omega arith in
    drop-cons xs i x lt ∙ ap (λ y. y ∷ drop (suc i) xs) (sym is) ∙ ap (λ k. x ∷ drop k xs) next
