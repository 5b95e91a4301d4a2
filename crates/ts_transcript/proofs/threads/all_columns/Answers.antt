use Rattle.std.proofs.Common.{◌≡◌, ◌∙◌, ℕ, List, ap, subst, IfOk}
use denote.Param.Send.{sendable}
use Rattle.std.proofs.Crossing.{crosses}
use Rattle.std.specs.Global.{Vec}
use Rattle.std.specs.List.{AllZip, range_with_len}
use Rattle.rayon.specs.Numbers.{nat_range}
use Rattle.rayon.proofs.ListFacts.{IfOk-then}
use Rattle.ts_transcript.specs.Columns.{column_count, IsColumn, AreColumns}
use Rattle.ts_transcript.proofs.ColumnLemmas.{each_column}
use Rattle.ts_transcript.proofs.MadeLemmas.{all_made}
use Rattle.ts_transcript.proofs.SyncLemmas.{line_sync, grammar_sync}
use Rattle.ts_transcript.proofs.threads.all_columns.Goals as goal

pub map-requires-send-F : goal.map-requires-send-F
map-requires-send-F g c κs within = search (line_sync, grammar_sync, sendable, crosses) depth 30 fits 5000

pub map-requires-sync-F : goal.map-requires-sync-F
map-requires-sync-F g c κs within = search (line_sync, grammar_sync, sendable, crosses) depth 30 fits 5000

pub collect-requires-send-Self : goal.collect-requires-send-Self
collect-requires-send-Self g c κs within = search (line_sync, grammar_sync, sendable, crosses) depth 40 fits 5000

pub returns : goal.returns
returns g c =
    let made = c.in_ok-collect.ensures in
    let chain = made.1 in
    let all = c.in_ok-collect.field-0 in
    let lent = c.map.result.f in
    let ends = c.into_par_iter.ensures in
    let range = ap (λ it. it.base) c.map.ensures.base ∙ c.with_min_len.ensures.base in
    let places : chain.0 ≡ range_with_len 0 column_count =
    chain.1 ∙ ap (λ it. nat_range it.start it.end) range ∙ (λ i. nat_range (ends.0 i) (ends.1 i)) in
    let Told = λ (column : ℕ) (pieces : Vec (Vec ℕ)). IsColumn lent.1.now lent.2.now column pieces.items in
    let each = all_made _ Told chain.0 made.0 all chain.2 made.2 in
    subst (λ own. IfOk all (λ columns. AreColumns own.1.now own.2.now columns.items)) c.map.ensures.f
    (IfOk-then all _ _ each (λ columns zipped. each_column lent.1.now lent.2.now columns.items (subst (λ (xs : List ℕ). AllZip Told xs columns.items) places zipped)))
