use Rattle.std.proofs.Common.{◌≡◌, refl, subst}
use Rattle.ts_lexer.specs.declared.ahead.LexTables.{LexTables}
use Rattle.ts_lexer.specs.declared.ahead.RowPair.{RowPair}
use Rattle.ts_lexer.specs.Ahead.{HasPair}
use Rattle.ts_lexer.proofs.AheadLemmas.{more_none, more_rows, pair_made}
use Rattle.ts_lexer.proofs.ahead.pair_of.Goals as goal

pub returns-then-is_full-clause-grows : goal.returns-then-is_full-clause-grows
returns-then-is_full-clause-grows c = more_none c.args.tables.now

pub returns-clause-grows : goal.returns-clause-grows
returns-clause-grows c =
    let a = c.args.tables.now in
    more_rows a (record { machine = a.machine; rules = a.rules; rows = c.number_of.new.rows }) (record { machine = a.machine; rules = a.rules; rows = c.number_of-2.new.rows })
    c.in_ok-early.early.items c.in_ok-late.late.items c.in_ok-first.first c.in_ok-later.later refl refl refl refl c.in_ok-first.ensures c.in_ok-later.ensures

pub returns-clause-pair : goal.returns-clause-pair
returns-clause-pair c g valid p is rules view =
    let a = c.args.tables.now in
    let t : LexTables = record { machine = a.machine; rules = a.rules; rows = c.number_of-2.new.rows } in
    let made : RowPair = record { first = c.in_ok-first.first; later = c.in_ok-later.later } in
    let same : made ≡ p = cc in
    subst (λ (q : RowPair). HasPair g valid t q) same
    (pair_made g valid a (record { machine = a.machine; rules = a.rules; rows = c.number_of.new.rows }) t c.in_ok-early.early.items c.in_ok-late.late.items c.in_ok-first.first c.in_ok-later.later
    refl refl c.in_ok-first.ensures c.in_ok-later.ensures (c.in_ok-early.ensures g valid rules view) (c.in_ok-late.ensures g valid rules view))
