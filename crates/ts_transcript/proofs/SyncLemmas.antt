-- Lines may be made on several threads at once: what they show may be shared by threads. A type that
-- holds itself has it with its knot, as `Re` and `Node`. The types above those have a lemma each: a
-- struct with such a type as a field by `declared_sync`.
use denote.Ref.{NamedLft}
use denote.Param.Send.{IsSync, sendable}
use denote.Param.SendFields.{declared_sync, as_row_sync}
use Rattle.std.proofs.Crossing.{crosses}
use Rattle.ts_base.proofs.boxed.Boxed.TheSendSync as boxed
use Rattle.ts_base.proofs.list.List.TheSendSync as list
use Rattle.ts_base.proofs.shared.Shared.TheSendSync as shared
use Rattle.ts_base.proofs.text.Str.TheSendSync as str
use Rattle.ts_core.proofs.flat.Entry.TheSendSync as entry
use Rattle.ts_core.proofs.flat.FlatRule.TheSendSync as rule
use Rattle.ts_core.proofs.re.Re.TheLaws.TheKnot as re_knot
use Rattle.ts_core.proofs.symbol.Kind.TheSendSync as kind
use Rattle.ts_core.proofs.symbol.Symbol.TheSendSync as symbol
use Rattle.ts_node.proofs.node.Node.TheLaws.TheKnot as node_knot
use Rattle.ts_replies.proofs.reply.Reply.TheSendSync as reply
use Rattle.ts_text.proofs.text.Text.TheSendSync as text_sent
use Rattle.ts_core.specs.contracts.re.Re as re
use Rattle.ts_core.specs.contracts.flat.TokenDef as token
use Rattle.ts_core.specs.contracts.flat.FlatGrammar as grammar
use Rattle.ts_node.specs.contracts.node.Node as node
use Rattle.ts_text.specs.contracts.text.Text as text
use Rattle.ts_lexer.specs.contracts.tokens.TextContent.TheImpl as text_content
use Rattle.ts_docs.specs.contracts.version.VersionOf as version
use Rattle.ts_transcript.specs.contracts.line.RunLine as line

re_sync : IsSync re.the_row
re_sync = search (re_knot.crosses, list.the_sync, boxed.the_sync, sendable, crosses) depth 30 fits 5000

token_sync : IsSync token.the_row
token_sync = declared_sync token.the_type (search (as_row_sync, re_sync, kind.the_sync, str.the_sync, sendable) depth 20)

pub grammar_sync : IsSync grammar.the_row
grammar_sync = declared_sync grammar.the_type
    (search (as_row_sync, token_sync, re_sync, rule.the_sync, entry.the_sync, symbol.the_sync, str.the_sync, list.the_sync, sendable) depth 20)

node_sync : IsSync node.the_row
node_sync = search (node_knot.crosses, list.the_sync, shared.the_sync, sendable, crosses) depth 30 fits 5000

version_sync : IsSync (version.the_row text.the_row text_content.ghosts)
version_sync = search (text_sent.the_send, text_sent.the_sync, node_sync, shared.the_sync, sendable, crosses) depth 20 fits 5000

pub line_sync : (κ : NamedLft) → IsSync (line.the_row κ)
line_sync κ = search (version_sync, reply.the_sync, sendable, crosses) depth 20
