-- The steps of clients and their replies, one at a time.
use Rattle.std.specs.Prelude.{ℕ, Option, Some, None}
use Rattle.ts_script.specs.declared.plan.ScriptStep.{ScriptStep}
use Rattle.ts_script.specs.declared.plan.ScriptStep.TheVariants as step
use Rattle.ts_replies.specs.declared.reply.Reply.{Reply}
use Rattle.ts_replies.specs.declared.reply.Reply.TheVariants as reply

-- how many looks an await makes at most
abbrev pub most_looks : ℕ
most_looks = 10000000

-- the document of a step
abbrev pub document_of : ScriptStep → ℕ
document_of (step.Edit document edit) = document
document_of (step.Look document) = document
document_of (step.Query document queries) = document
document_of (step.Tree document) = document
document_of (step.Await document version) = document

-- the version that the client holds after a step
abbrev pub version_of : Reply → ℕ
version_of (reply.Published turn version) = version
version_of (reply.Newer turn version) = version
version_of (reply.Look turn version) = version
version_of (reply.Await turn version) = version
version_of (reply.Late turn version) = version
version_of (reply.Range version) = version
version_of (reply.Size size version) = version
version_of (reply.Memory version) = version
version_of (reply.Tree outcome version) = version
version_of (reply.Results results version) = version
version_of (reply.Absent outcome version) = version

-- the turn that a reply tells, the last one of its step
abbrev pub turn_told : Reply → Option ℕ
turn_told (reply.Published turn version) = Some turn
turn_told (reply.Newer turn version) = Some turn
turn_told (reply.Look turn version) = Some turn
turn_told (reply.Await turn version) = Some turn
turn_told (reply.Late turn version) = Some turn
turn_told (reply.Range version) = None
turn_told (reply.Size size version) = None
turn_told (reply.Memory version) = None
turn_told (reply.Tree outcome version) = None
turn_told (reply.Results results version) = None
turn_told (reply.Absent outcome version) = None

-- how many turns a reply that tells one accounts for
abbrev pub turns_of : Reply → ℕ
turns_of (reply.Published turn version) = 1
turns_of (reply.Newer turn version) = 1
turns_of (reply.Look turn version) = 1
turns_of (reply.Await turn version) = 1
turns_of (reply.Late turn version) = most_looks
turns_of (reply.Range version) = 0
turns_of (reply.Size size version) = 0
turns_of (reply.Memory version) = 0
turns_of (reply.Tree outcome version) = 0
turns_of (reply.Results results version) = 0
turns_of (reply.Absent outcome version) = 0
