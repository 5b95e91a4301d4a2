use Rattle.ts_transcript.proofs.ColumnLemmas.{has_piece}
use Rattle.ts_transcript.proofs.threads.next_batch.Goals as goal

pub added_beside-bytes-requires-clause-pieces : goal.added_beside-bytes-requires-clause-pieces
added_beside-bytes-requires-clause-pieces g c = has_piece c.args.grammar.now c.args.batch.now c.args.made.columns.items c.requires
