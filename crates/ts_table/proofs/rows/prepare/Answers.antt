use Rattle.std.proofs.Common.{◌≡◌, ◌↔◌, refl, sym, subst, ℕ, List, slice_get, Some, arith}
use Rattle.std.specs.Bool.{IsTrue}
use Rattle.std.specs.List.{Contains}
use Rattle.spec_grammar.specs.Symbols.{symbol_count}
use Rattle.ts_items.specs.declared.part.Goto.{Goto}
use Rattle.ts_items.specs.declared.part.Part.{Part}
use Rattle.ts_bits.specs.Members.{Has}
use Rattle.ts_items.specs.Sets.{AreWide}
use Rattle.ts_table.specs.Candidates.{IsCompletePart, ComesAfter}
use Rattle.ts_table.specs.Rows.{AreGotoNumbers, HasAccept}
use Rattle.ts_table.proofs.ListLemmas.{read_at}
use Rattle.ts_table.proofs.RowLemmas.{part_lines, ready_is, some_symbol}
use Rattle.ts_table.proofs.rows.prepare.Goals as goal

pub complete_parts-requires : goal.complete_parts-requires
complete_parts-requires c q h =
    let k = c.requires.known in
    let at = read_at c.args.items.now.states.items c.args.at c.index-state.result.now c.requires.at c.index-state.ensures in
    part_lines k.0 c.args.marks.now c.args.items.now c.args.at c.index-state.result.now k.1 at q (subst (λ (l : List Part). Contains l q) c.as_slice.ensures.value h)

pub lookaheads-requires : goal.lookaheads-requires
lookaheads-requires c =
    let k = c.requires.known in
    let n = k.1.sets.width in
    let wide = subst (AreWide n) (sym c.as_slice-2.ensures.value) k.1.sets.firsts.wide in
    let same = c.width_of-width.ensures n wide (some_symbol k.0 c.args.items.now.firsts.items c.as_slice-2.result.now c.as_slice-2.ensures.value k.1.sets.firsts.count) in
    subst (λ (w : ℕ). AreWide w c.args.items.now.tokens.keys) (sym same) k.1.sets.wide

pub goto_row-requires-clause-inside : goal.goto_row-requires-clause-inside
goto_row-requires-clause-inside c e h =
    let k = c.requires.known in
    let at = read_at c.args.items.now.states.items c.args.at c.index-state.result.now c.requires.at c.index-state.ensures in
    let lt = (k.1.sets.inside c.args.at c.index-state.result.now e at (subst (λ (l : List Goto). Contains l e) c.as_slice-4.ensures.value h)).0 in
    let size = k.1.sets.firsts.count in
    omega (arith, lt, size, c.args.items.now.firsts.ok.0, c.len.ensures)

pub goto_row-requires-clause-rise : goal.goto_row-requires-clause-rise
goto_row-requires-clause-rise c i j a b lt ai bj =
    let k = c.requires.known in
    let at = read_at c.args.items.now.states.items c.args.at c.index-state.result.now c.requires.at c.index-state.ensures in
    (k.1.sets.laid_out c.args.at c.index-state.result.now at).rise i j a b lt
    (subst (λ (l : List Goto). slice_get l i ≡ Some a) c.as_slice-4.ensures.value ai) (subst (λ (l : List Goto). slice_get l j ≡ Some b) c.as_slice-4.ensures.value bj)

pub returns-clause-ready : goal.returns-clause-ready
returns-clause-ready c g source =
    let at = read_at c.args.items.now.states.items c.args.at c.index-state.result.now c.requires.at c.index-state.ensures in
    let count : c.len.result ≡ symbol_count g = (let size = source.sets.firsts.count in omega (arith, size, c.args.items.now.firsts.ok.0, c.len.ensures)) in
    ready_is g c.args.items.now c.args.at c.index-state.result.now _ at refl
    (subst (λ (l : List Part). (q : Part) → Contains c.in_ok-complete.complete.items q ↔ (Contains l q × IsCompletePart g q)) c.as_slice.ensures.value (c.in_ok-complete.ensures g source.marks))
    (subst (λ (l : List Part). (t : ℕ) → Has c.in_ok-ends.ends t ↔ ComesAfter c.args.items.now.tokens.keys l t) c.as_slice-3.ensures.value c.in_ok-ends.ensures)
    (subst (λ (n : ℕ). AreGotoNumbers n c.index-state.result.now.gotos.items c.in_ok-gotos.gotos.items) count (subst (λ (l : List Goto). AreGotoNumbers c.len.result l c.in_ok-gotos.gotos.items) c.as_slice-4.ensures.value c.in_ok-gotos.ensures))
    (subst (λ (l : List Part). IsTrue c.accepts-accepting.result ↔ HasAccept c.args.items.now.tokens.keys l) c.as_slice-5.ensures.value c.accepts-accepting.ensures)
