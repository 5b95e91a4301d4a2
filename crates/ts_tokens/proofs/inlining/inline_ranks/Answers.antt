use Rattle.std.proofs.Common.{◌≡◌, sym, subst, ℕ, true, List, length, Option, MatchOption}
use Rattle.std.specs.Borrow.{Bor}
use Rattle.std.specs.Global.{Vec}
use Rattle.ts_base.specs.Bytes.{Bytes}
use Rattle.ts_rules.specs.Causes.{IsBadInline, names_of, rule_names}
use Rattle.ts_rules.specs.FirstSights.{Clear, First}
use Rattle.ts_rules.specs.Names.{told}
use Rattle.ts_rules.specs.Sights.{NamedRule}
use Rattle.ts_tokens.specs.Inlining.{NamesApart, IsRuleGraph}
use Rattle.ts_tokens.specs.Names.{HaveSame}
use Rattle.ts_tokens.specs.Paths.{graph_of, StaysInside, HasNoCircle, Path, AreNodeRanks}
use Rattle.ts_tokens.proofs.InliningLemmas.{names_distinct, closed, acyclic_of, none_left, ranks_fall}
use Rattle.ts_tokens.proofs.inlining.inline_ranks.Goals as goal

pub rows_of-requires : goal.rows_of-requires
rows_of-requires c = subst (λ (rs : List NamedRule). NamesApart (names_of rs)) (sym c.as_slice-2.ensures) (names_distinct c.args.grammar.now c.requires.file)

pub ranks_of-requires : goal.ranks_of-requires
ranks_of-requires c =
    let g = c.args.grammar.now in
    let inline = told c.in_ok-inline.inline.keys in
    let same = subst (λ (xs : List Bytes). HaveSame inline xs) c.as_slice.ensures c.in_ok-inline.ensures in
    let graph = subst (λ (rs : List NamedRule). IsRuleGraph rs inline (length rs) (graph_of c.in_ok-rows.rows.items)) c.as_slice-2.ensures c.in_ok-rows.ensures in
    subst (λ (rows : List (Vec ℕ)). StaysInside (graph_of rows)) (sym c.as_slice-3.ensures.value) (closed g inline (graph_of c.in_ok-rows.rows.items) c.requires.file same graph)

pub first_bad-requires-clause-inline : goal.first_bad-requires-clause-inline
first_bad-requires-clause-inline c = subst (λ (xs : List Bytes). HaveSame (told c.in_ok-inline.inline.keys) xs) c.as_slice.ensures c.in_ok-inline.ensures

pub first_bad-requires-clause-graph : goal.first_bad-requires-clause-graph
first_bad-requires-clause-graph c =
    let inline = told c.in_ok-inline.inline.keys in
    let graph = subst (λ (rs : List NamedRule). IsRuleGraph rs inline (length rs) (graph_of c.in_ok-rows.rows.items)) c.as_slice-2.ensures c.in_ok-rows.ensures in
    subst (λ (rows : List (Vec ℕ)). IsRuleGraph c.args.grammar.now.rules inline (length c.args.grammar.now.rules) (graph_of rows)) (sym c.as_slice-4.ensures.value) graph

pub first_bad-requires-clause-ranked : goal.first_bad-requires-clause-ranked
first_bad-requires-clause-ranked c =
    let g = c.args.grammar.now in
    let inline = told c.in_ok-inline.inline.keys in
    let same = subst (λ (xs : List Bytes). HaveSame inline xs) c.as_slice.ensures c.in_ok-inline.ensures in
    let graph = subst (λ (rs : List NamedRule). IsRuleGraph rs inline (length rs) (graph_of c.in_ok-rows.rows.items)) c.as_slice-2.ensures c.in_ok-rows.ensures in
    let found = subst (λ (rows : List (Vec ℕ)). MatchOption c.in_ok-ranks.ranks ((k : ℕ) × Path (graph_of rows) k k) (λ ranks. AreNodeRanks (graph_of rows) ranks.items)) c.as_slice-3.ensures.value c.in_ok-ranks.ensures in
    subst (λ (rows : List (Vec ℕ)). c.is_some-ranked.result ≡ true → HasNoCircle (graph_of rows)) (sym c.as_slice-4.ensures.value)
    (acyclic_of (graph_of c.in_ok-rows.rows.items) c.in_ok-ranks.ranks c.is_some-ranked.result (closed g inline (graph_of c.in_ok-rows.rows.items) c.requires.file same graph) found c.is_some-ranked.ensures)

pub returns-in-Some-ranks-clause-ranks : goal.returns-in-Some-ranks-clause-ranks
returns-in-Some-ranks-clause-ranks c =
    let g = c.args.grammar.now in
    let inline = told c.in_ok-inline.inline.keys in
    let same = subst (λ (xs : List Bytes). HaveSame inline xs) c.as_slice.ensures c.in_ok-inline.ensures in
    let graph = subst (λ (rs : List NamedRule). IsRuleGraph rs inline (length rs) (graph_of c.in_ok-rows.rows.items)) c.as_slice-2.ensures c.in_ok-rows.ensures in
    let found = subst (λ (rows : List (Vec ℕ)). MatchOption c.in_ok-ranks.ranks ((k : ℕ) × Path (graph_of rows) k k) (λ ranks. AreNodeRanks (graph_of rows) ranks.items)) c.as_slice-3.ensures.value c.in_ok-ranks.ensures in
    let are = subst (λ (o : Option (Vec ℕ)). MatchOption o ((k : ℕ) × Path (graph_of c.in_ok-rows.rows.items) k k) (λ ranks. AreNodeRanks (graph_of c.in_ok-rows.rows.items) ranks.items)) c.in-Some-ranks.is found in
    ranks_fall g inline (graph_of c.in_ok-rows.rows.items) c.requires.file same graph c.in-Some-ranks.ranks.items are

pub unreachable-requires : goal.unreachable-requires
unreachable-requires c =
    let g = c.args.grammar.now in
    let inline = told c.in_ok-inline.inline.keys in
    let same = subst (λ (xs : List Bytes). HaveSame inline xs) c.as_slice.ensures c.in_ok-inline.ensures in
    let graph = subst (λ (rs : List NamedRule). IsRuleGraph rs inline (length rs) (graph_of c.in_ok-rows.rows.items)) c.as_slice-2.ensures c.in_ok-rows.ensures in
    let found = subst (λ (rows : List (Vec ℕ)). MatchOption c.in_ok-ranks.ranks ((k : ℕ) × Path (graph_of rows) k k) (λ ranks. AreNodeRanks (graph_of rows) ranks.items)) c.as_slice-3.ensures.value c.in_ok-ranks.ensures in
    let circle = subst (λ (o : Option (Vec ℕ)). MatchOption o ((k : ℕ) × Path (graph_of c.in_ok-rows.rows.items) k k) (λ ranks. AreNodeRanks (graph_of c.in_ok-rows.rows.items) ranks.items)) c.in-None-ranks.is found in
    let clear = subst (λ (o : Option (Bor Bytes)). MatchOption o (Clear (IsBadInline g) (rule_names g)) (λ name. First (IsBadInline g) (rule_names g) name.now)) c.in-None.is c.in_ok-name.ensures in
    none_left g (graph_of c.in_ok-rows.rows.items) inline c.requires.file same graph clear circle
