-- The lines of versions and of replies: their members in the order of their names' bytes.
use Rattle.std.specs.Prelude.{ℕ, map, codes}
use Rattle.ts_base.specs.Bytes.{Bytes}
use Rattle.serde_json.specs.Data.{Data, string, array, no_items, item, Members, no_members, member}
use Rattle.serde_json.specs.View.{items_of}
use Rattle.spec_output.specs.Lines.{object_line, numeral}
use Rattle.spec_output.specs.Outcomes.{outcome_members}
use Rattle.spec_output.specs.declared.outcome.ShownOutcome.{ShownOutcome}
use Rattle.ts_replies.specs.declared.reply.Head.{Head}
use Rattle.ts_replies.specs.declared.reply.Head.TheVariants.{Opening, Accepted}
use Rattle.ts_replies.specs.declared.reply.Reply.{Reply}
use Rattle.ts_replies.specs.declared.reply.Reply.TheVariants as reply
use Rattle.ts_replies.specs.declared.reply.ShownCapture.{ShownCapture}
use Rattle.ts_replies.specs.declared.reply.ShownMatch.{ShownMatch}
use Rattle.ts_replies.specs.declared.reply.ShownResult.{ShownResult}
use Rattle.ts_replies.specs.declared.reply.ShownResult.TheVariants.{Many, Found}

-- a member that is a number
abbrev pub with_number : Bytes → ℕ → Members → Members
with_number name n after = member name (numeral n) after

-- ---- versions

-- the members of a version's line
abbrev pub head_members : Head → ShownOutcome → Members
head_members (Opening document) outcome =
    with_number (codes "document") document
    (outcome_members outcome (with_number (codes "version") 0 no_members))
head_members (Accepted client document step turn version) outcome =
    with_number (codes "client") client (with_number (codes "document") document
    (outcome_members outcome (with_number (codes "step") step (with_number (codes "turn") turn
    (with_number (codes "version") version no_members)))))

-- the line of a version
abbrev pub version_line : Head → ShownOutcome → Bytes
version_line head outcome = object_line (head_members head outcome)

-- ---- results

-- a captured node: the capture's name, its start and its end
abbrev pub capture_data : ShownCapture → Data
capture_data c =
    array (item (string c.name) (item (numeral c.start) (item (numeral c.end) no_items)))

-- a match: its pattern, and the nodes that it captures
abbrev pub match_data : ShownMatch → Data
match_data m =
    array (item (numeral m.pattern)
    (item (array (items_of (map capture_data m.captures))) no_items))

-- what a query comes to: its matches, or the word for too many
abbrev pub result_data : ShownResult → Data
result_data Many = string (codes "many")
result_data (Found matches) = array (items_of (map match_data matches))

-- ---- replies

-- the word of a reply
abbrev pub with_reply : Bytes → Members → Members
with_reply word after = member (codes "reply") (string word) after

-- what each reply ends with: the step and the version that the client holds after it
abbrev pub step_members : ℕ → ℕ → Members
step_members step version =
    with_number (codes "step") step (with_number (codes "version") version no_members)

-- the same, with the last turn that the step took
abbrev pub turn_members : ℕ → ℕ → ℕ → Members
turn_members step turn version =
    with_number (codes "step") step (with_number (codes "turn") turn
    (with_number (codes "version") version no_members))

-- the members of a reply to this step, behind its client
abbrev pub reply_members : ℕ → Reply → Members
reply_members step (reply.Published turn version) =
    with_reply (codes "published") (turn_members step turn version)
reply_members step (reply.Newer turn version) =
    with_reply (codes "newer") (turn_members step turn version)
reply_members step (reply.Look turn version) =
    with_reply (codes "look") (turn_members step turn version)
reply_members step (reply.Await turn version) =
    with_reply (codes "await") (turn_members step turn version)
reply_members step (reply.Late turn version) =
    with_reply (codes "late") (turn_members step turn version)
reply_members step (reply.Range version) =
    with_reply (codes "range") (step_members step version)
reply_members step (reply.Size size version) =
    with_reply (codes "size") (with_number (codes "size") size (step_members step version))
reply_members step (reply.Memory version) =
    with_reply (codes "memory") (step_members step version)
reply_members step (reply.Tree outcome version) =
    outcome_members outcome (with_reply (codes "tree") (step_members step version))
reply_members step (reply.Results results version) =
    with_reply (codes "results")
    (member (codes "results") (array (items_of (map result_data results)))
    (step_members step version))
reply_members step (reply.Absent outcome version) =
    outcome_members outcome (with_reply (codes "none") (step_members step version))

-- the line of a reply to a step of a client
abbrev pub reply_line : ℕ → ℕ → Reply → Bytes
reply_line client step told =
    object_line (with_number (codes "client") client (reply_members step told))
