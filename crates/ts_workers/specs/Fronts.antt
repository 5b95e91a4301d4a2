-- What is kept of documents while clients work on them.
use Rattle.std.specs.Prelude.{◌≡◌, ℕ, ◌≤◌, List, [], length, map, drop, slice_get, Some}
use Rattle.atomic_table.specs.Seated.{TableId}
use Rattle.ts_base.specs.Bytes.{Bytes}
use Rattle.ts_table.specs.declared.view.ParseTable.{ParseTable}
use Rattle.ts_shelf.specs.declared.view.Knowledge.{Knowledge}
use Rattle.ts_shelf.specs.Passes.{IsPass, IsFirst}
use Rattle.ts_shelf.specs.Calls.{IsSplit}
use Rattle.ts_docs.specs.declared.parsed.ParsedText.{ParsedText}
use Rattle.ts_docs.specs.declared.parsed.Drafted.{Drafted}
use Rattle.ts_docs.specs.Versions.{IsTextOf, IsOfTable}
use Rattle.ts_script.specs.declared.plan.Plan.{Plan}
use Rattle.ts_script.specs.declared.plan.ScriptStep.{ScriptStep}
use Rattle.ts_replay.specs.Runs.{weight_of, weight_left, edits_on}
use Rattle.ts_client.specs.declared.desk.Desk.{Desk}
use Rattle.ts_workers.specs.declared.front.Front.{Front}
use Rattle.ts_workers.specs.Changes.{Changed}

-- what is kept of a document that was opened with the text and lies on the shelf
pub record IsFront (table : ParseTable) (opening : Bytes) (shelf : TableId) (f : Front)
    : Type 0 where
  pub shelf_is : f.pass.shelf ≡ shelf
  pub is_pass : IsPass IsOfTable f.pass.knows
  pub first : IsFirst f.pass.knows
  pub opens : f.pass.knows.opening ≡ Some f.version
  pub text : IsTextOf table 0 opening f.version

-- the first pass of a document, from which the first clients, so many, have passes
pub record IsLent (plan : Plan) (document clients : ℕ) (k : Knowledge ParsedText Drafted)
    : Type 0 where
  pub none_taken : k.taken ≡ []
  pub out : k.out ≡ clients
  -- there is an offer for each edit of the others
  pub offers : weight_left (edits_on document) (drop clients plan.clients) [] ≤ k.offers

-- the documents on these shelves, of which the first clients, so many, have passes
pub record AreFronts (plan : Plan) (table : ParseTable) (openings : List Bytes)
    (shelves : List TableId) (clients : ℕ) (fronts : List Front) : Type 0 where
  pub shelves_are : length shelves ≡ length openings
  pub count : length fronts ≡ length shelves
  pub each : (document : ℕ) (opening : Bytes) (shelf : TableId) (f : Front)
      → slice_get openings document ≡ Some opening → slice_get shelves document ≡ Some shelf
      → slice_get fronts document ≡ Some f → IsFront table opening shelf f
  pub lent : (document : ℕ) (f : Front) → slice_get fronts document ≡ Some f
      → IsLent plan document clients f.pass.knows

-- the versions that the documents were opened with
abbrev pub versions_of : List Front → List ParsedText
versions_of fronts = map (λ (f : Front). f.version) fronts

-- ---- one more client

-- a document may give a pass to a client with these steps
pub record MayLend (document : ℕ) (steps : List ScriptStep) (shelf : TableId) (f : Front)
    : Type 0 where
  pub shelf_is : f.pass.shelf ≡ shelf
  pub first : IsFirst f.pass.knows
  pub offers : weight_of (edits_on document) steps ≤ f.pass.knows.offers

-- each of the documents on these shelves may give a pass to a client with these steps
abbrev pub AllMayLend : List ScriptStep → List TableId → List Front → Type 0
AllMayLend steps shelves fronts = (document : ℕ) (shelf : TableId) (f : Front)
    → slice_get shelves document ≡ Some shelf → slice_get fronts document ≡ Some f
    → MayLend document steps shelf f

-- the document gave a client a desk, with so many offers
pub record Lends (offers : ℕ) (old new : Front) (d : Desk) : Type 0 where
  pub split : IsSplit old.pass.knows new.pass.knows d.pass.knows offers
  pub own_shelf : new.pass.shelf ≡ old.pass.shelf
  pub own_pass : IsPass IsOfTable new.pass.knows
  pub own_version : new.version ≡ old.version
  pub shelf_is : d.pass.shelf ≡ old.pass.shelf
  pub is_pass : IsPass IsOfTable d.pass.knows
  pub version_is : d.version ≡ old.version
  pub number_is : d.number ≡ 0

-- the first documents, so many as there are desks, gave a client with these steps a desk each
abbrev pub HaveLent : List ScriptStep → List Front → List Front → List Desk → Type 0
HaveLent steps old new desks =
    Changed (λ document. Lends (weight_of (edits_on document) steps)) old new desks
