-- A client between two steps, and one step more. It serves private clauses and proofs alone.
use Rattle.std.specs.Prelude.{◌≡◌, ℕ, ◌+◌, ◌*◌, ◌<◌, ◌≤◌, ◌^◌, List, [], ◌∷◌, ◌++◌, length, drop, slice_get, slice_set, Some, vec_capacity}
use Rattle.atomic_table.specs.Seated.{TableId}
use Rattle.ts_base.specs.Bytes.{Bytes}
use Rattle.ts_table.specs.declared.view.ParseTable.{ParseTable}
use Rattle.ts_script.specs.declared.plan.Plan.{Plan}
use Rattle.ts_script.specs.declared.plan.ScriptStep.{ScriptStep}
use Rattle.ts_replies.specs.declared.reply.ShownResult.{ShownResult}
use Rattle.ts_replies.specs.declared.reply.Reply.{Reply}
use Rattle.spec_history.specs.Replies.{document_of, most_looks}
use Rattle.spec_clients.specs.Seen.{version_seen}
use Rattle.spec_clients.specs.Served.{held_at, IsServed}
use Rattle.ts_replay.specs.Replays.{AsksAmong}
use Rattle.ts_replay.specs.Runs.{weight_of, edits_on}
use Rattle.ts_client.specs.declared.desk.Desk.{Desk}
use Rattle.ts_client.specs.declared.working.Client.{Client}
use Rattle.ts_client.specs.Serving.{MayServe, offers_of}
use Rattle.ts_client.specs.Steps.{standing_at, Serves, StopsEarly}
use Rattle.ts_client.specs.Turns.{SamePass}

-- ---- between two steps

module _ (Finds : Bytes → List ℕ → List ShownResult → Type 0) (plan : Plan) (table : ParseTable)
    (client : ℕ) (steps : List ScriptStep) where
  -- what holds at the desk of this document after the first replies: the client holds the version
  -- that they tell, and its pass was served by them
  pub record IsAtDesk (shelf : TableId) (document : ℕ) (replies : List Reply) (first now : Desk)
      : Type 0 where
    pub first_at : first.pass.shelf ≡ shelf
    pub may : MayServe table shelf now
    pub same : SamePass first.pass.knows now.pass.knows
    pub opens : now.pass.knows.opening ≡ Some first.version
    pub number_is : now.number ≡ held_at document steps replies (length replies)
    pub version_is : now.version ≡ version_seen first.version now.pass.knows.seen now.number
    pub served : IsServed Finds plan table.grammar first.version client document steps replies
        now.pass.knows
    pub few : length now.pass.knows.taken ≤ length replies * most_looks
    -- there are offers for the edits that are left
    pub offers : weight_of (edits_on document) (drop (length replies) steps)
        ≤ now.pass.knows.offers

  -- the client's desks at first and now, one at each of the shelves
  pub record AreAtDesks (shelves : List TableId) (first : List Desk) (now : Client)
      : Type 0 where
    pub room : length steps ≤ vec_capacity now.replies
    pub few : length now.replies.items ≤ length steps
    pub at_first : length first ≡ length shelves
    pub count : length now.desks.items ≡ length shelves
    pub each : (document : ℕ) (shelf : TableId) (o n : Desk)
        → slice_get shelves document ≡ Some shelf → slice_get first document ≡ Some o
        → slice_get now.desks.items document ≡ Some n
        → IsAtDesk shelf document now.replies.items o n

-- ---- the next step

-- the client's next step may be done
pub record MayServeNext (count : ℕ) (table : ParseTable) (shelves : List TableId)
    (steps : List ScriptStep) (c : Client) : Type 0 where
  pub step : ScriptStep
  pub step_is : slice_get steps (length c.replies.items) ≡ Some step
  pub shelf : TableId
  pub shelf_is : slice_get shelves (document_of step) ≡ Some shelf
  pub desk : Desk
  pub desk_is : slice_get c.desks.items (document_of step) ≡ Some desk
  pub may : MayServe table shelf desk
  pub offers : offers_of step ≤ desk.pass.knows.offers
  pub asks : AsksAmong count step
  pub few : length steps < 2 ^ 32
  pub room : length steps ≤ vec_capacity c.replies

-- the desk of the client's next step, and what it is after that
pub record ChangesDesk (table : ParseTable) (shelves : List TableId) (steps : List ScriptStep)
    (old new : Client) : Type 0 where
  pub step : ScriptStep
  pub step_is : slice_get steps (length old.replies.items) ≡ Some step
  pub shelf : TableId
  pub shelf_is : slice_get shelves (document_of step) ≡ Some shelf
  pub desk : Desk
  pub desk_is : slice_get old.desks.items (document_of step) ≡ Some desk
  pub after : Desk
  pub may : MayServe table shelf after
  pub same : SamePass desk.pass.knows after.pass.knows
  pub offers : desk.pass.knows.offers ≤ after.pass.knows.offers + offers_of step
  pub desks_are : new.desks.items ≡ slice_set old.desks.items (document_of step) after
  pub room : length steps ≤ vec_capacity new.replies

-- the next step of the client of this number was done
pub record ServesNext (Finds : Bytes → List ℕ → List ShownResult → Type 0) (table : ParseTable)
    (shelves : List TableId) (number : ℕ) (steps : List ScriptStep) (old new : Client)
    : Type 0 where
  pub at : ChangesDesk table shelves steps old new
  pub reply : Reply
  pub serves : Serves Finds number (length old.replies.items) (standing_at at.desk) at.step reply
      (standing_at at.after)
  pub replies_are : new.replies.items ≡ old.replies.items ++ reply ∷ []

-- there was no turn for the next step
pub record StopsNext (table : ParseTable) (shelves : List TableId) (steps : List ScriptStep)
    (old new : Client) : Type 0 where
  pub at : ChangesDesk table shelves steps old new
  pub stops : StopsEarly (standing_at at.desk) (standing_at at.after)
  pub replies_are : new.replies.items ≡ old.replies.items
