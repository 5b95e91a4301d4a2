-- Journals may be handed to other threads. A type that holds itself has it with its knot, as `Node`.
-- The types above it have a lemma each.
use denote.Param.Send.{IsSend, IsSync, sendable}
use Rattle.std.proofs.Crossing.{crosses}
use Rattle.ts_base.proofs.list.List.TheSendSync as list
use Rattle.ts_base.proofs.shared.Shared.TheSendSync as shared
use Rattle.ts_node.proofs.node.Node.TheLaws.TheKnot as node_knot
use Rattle.ts_text.proofs.text.Text.TheSendSync as text_sent
use Rattle.ts_node.specs.contracts.node.Node as node
use Rattle.ts_text.specs.contracts.text.Text as text
use Rattle.ts_lexer.specs.contracts.tokens.TextContent.TheImpl as text_content
use Rattle.ts_docs.specs.contracts.version.VersionOf as version
use Rattle.ts_docs.specs.contracts.book.Accepted as accepted
use Rattle.ts_docs.specs.contracts.book.Book as book

node_send : IsSend node.the_row
node_send = search (node_knot.crosses, list.the_send, shared.the_send, sendable, crosses) depth 30 fits 5000

node_sync : IsSync node.the_row
node_sync = search (node_knot.crosses, list.the_sync, shared.the_sync, sendable, crosses) depth 30 fits 5000

version_send : IsSend (version.the_row text.the_row text_content.ghosts)
version_send = search (text_sent.the_send, text_sent.the_sync, node_send, shared.the_send, sendable, crosses) depth 20 fits 5000

version_sync : IsSync (version.the_row text.the_row text_content.ghosts)
version_sync = search (text_sent.the_send, text_sent.the_sync, node_sync, shared.the_sync, sendable, crosses) depth 20 fits 5000

accepted_send : IsSend accepted.the_row
accepted_send = search (version_send, version_sync, shared.the_send, sendable, crosses) depth 12

pub book_send : IsSend book.the_row
book_send = search (version_send, version_sync, accepted_send, shared.the_send, sendable, crosses) depth 12
