-- Clients, texts and first versions may be handed to other threads, and what those read may be
-- shared with them.
-- What crosses of a type is named where it is told with the type. A type that holds itself has it
-- with its knot, as `Re` and `Node`. The types above those have a lemma each: a struct with such a
-- type as a field by `declared_send`, and a type with a model by `view_send`.
use denote.Param.Send.{IsSend, IsSync, sendable, view_sync}
use denote.Param.SendFields.{declared_send, declared_sync, as_row_sync}
use Rattle.std.proofs.Crossing.{crosses}
use Rattle.ts_base.proofs.boxed.Boxed.TheSendSync as boxed
use Rattle.ts_base.proofs.list.List.TheSendSync as list
use Rattle.ts_base.proofs.shared.Shared.TheSendSync as shared
use Rattle.ts_base.proofs.text.Str.TheSendSync as str
use Rattle.ts_core.proofs.flat.Entry.TheSendSync as entry
use Rattle.ts_core.proofs.flat.FlatRule.TheSendSync as rule
use Rattle.ts_core.proofs.re.Re.TheLaws.TheKnot as re_knot
use Rattle.ts_core.proofs.symbol.Kind.TheSendSync as kind
use Rattle.ts_core.proofs.symbol.Symbol.TheSendSync as symbol
use Rattle.ts_lexer.proofs.lexer.Lexer.TheSendSync as lexer
use Rattle.ts_node.proofs.node.Node.TheLaws.TheKnot as node_knot
use Rattle.ts_replies.proofs.reply.Reply.TheSendSync as reply
use Rattle.ts_shelf.proofs.pass.Pass.TheSendSync as pass
use Rattle.ts_table.proofs.arrays.Arrays.TheSendSync as arrays
use Rattle.ts_text.proofs.text.Text.TheSendSync as text_sent
use Rattle.ts_core.specs.contracts.re.Re as re
use Rattle.ts_core.specs.contracts.flat.TokenDef as token
use Rattle.ts_core.specs.contracts.flat.FlatGrammar as grammar
use Rattle.ts_table.specs.contracts.table.Table as table
use Rattle.ts_node.specs.contracts.node.Node as node
use Rattle.ts_text.specs.contracts.text.Text as text
use Rattle.ts_lexer.specs.contracts.tokens.TextContent.TheImpl as text_content
use Rattle.ts_docs.specs.contracts.version.VersionOf as version
use Rattle.ts_docs.specs.contracts.book.Accepted as accepted
use Rattle.ts_docs.specs.contracts.book.Book as book
use Rattle.ts_client.specs.contracts.desk.Desk as desk
use Rattle.ts_client.specs.contracts.working.Client as client
use Rattle.ts_workers.specs.contracts.parsed.Parsed as parsed
use Rattle.ts_workers.specs.contracts.worker.Worker as worker

re_sync : IsSync re.the_row
re_sync = search (re_knot.crosses, list.the_sync, boxed.the_sync, sendable, crosses) depth 30 fits 5000

token_sync : IsSync token.the_row
token_sync = declared_sync token.the_type (search (as_row_sync, re_sync, kind.the_sync, str.the_sync, sendable) depth 20)

grammar_sync : IsSync grammar.the_row
grammar_sync = declared_sync grammar.the_type
    (search (as_row_sync, token_sync, re_sync, rule.the_sync, entry.the_sync, symbol.the_sync, str.the_sync, list.the_sync, sendable) depth 20)

pub table_sync : IsSync table.the_row
table_sync = search (view_sync, declared_sync, grammar_sync, arrays.the_sync) depth 20

node_send : IsSend node.the_row
node_send = search (node_knot.crosses, list.the_send, shared.the_send, sendable, crosses) depth 30 fits 5000

node_sync : IsSync node.the_row
node_sync = search (node_knot.crosses, list.the_sync, shared.the_sync, sendable, crosses) depth 30 fits 5000

version_send : IsSend (version.the_row text.the_row text_content.ghosts)
version_send = search (text_sent.the_send, text_sent.the_sync, node_send, shared.the_send, sendable, crosses) depth 20 fits 5000

version_sync : IsSync (version.the_row text.the_row text_content.ghosts)
version_sync = search (text_sent.the_send, text_sent.the_sync, node_sync, shared.the_sync, sendable, crosses) depth 20 fits 5000

accepted_send : IsSend accepted.the_row
accepted_send = search (version_send, version_sync, shared.the_send, sendable, crosses) depth 12

accepted_sync : IsSync accepted.the_row
accepted_sync = search (version_send, version_sync, shared.the_sync, sendable, crosses) depth 12

pub book_send : IsSend book.the_row
book_send = search (version_send, version_sync, accepted_send, shared.the_send, sendable, crosses) depth 12

pub book_sync : IsSync book.the_row
book_sync = search (version_send, version_sync, accepted_sync, shared.the_sync, sendable, crosses) depth 12

desk_send : IsSend desk.the_row
desk_send = search (book_send, version_send, version_sync, pass.the_send, shared.the_send, sendable, crosses) depth 12

client_send : IsSend client.the_row
client_send = search (desk_send, reply.the_send, sendable, crosses) depth 12

pub worker_send : IsSend worker.the_row
worker_send = search (declared_send, lexer.the_send, client_send) depth 12

pub parsed_send : IsSend parsed.the_row
parsed_send = search (declared_send, lexer.the_send, version_send) depth 12
