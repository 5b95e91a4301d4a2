use Rattle.std.proofs.Common.{◌≡◌, ◌∙◌, sym, ap, subst, ◌≤◌, true, false, List, length, get_or, slice_get, Some}
use Rattle.std.proofs.lemmas.Option.{slice_get_within, get_or_from_slice_get}
use Rattle.ts_rules.specs.Causes.{IsBadInline}
use Rattle.ts_rules.specs.Names.{told}
use Rattle.ts_rules.specs.Sights.{NamedRule}
use Rattle.ts_tokens.specs.Paths.{graph_of}
use Rattle.ts_tokens.proofs.FirstLemmas.{first_here, clear_more, clear_all}
use Rattle.ts_tokens.proofs.InliningLemmas.{closed, rule_here, bad_at, not_inlined}
use Rattle.ts_tokens.proofs.inlining.first_bad.Goals as goal

pub is_bad-requires-clause-closed : goal.is_bad-requires-clause-closed
is_bad-requires-clause-closed c = closed c.args.grammar.now (told c.args.inline.now.keys) (graph_of c.args.rows.now) c.requires.file c.requires.inline c.requires.graph

pub loop-place-preserved-then-not-is_among : goal.loop-place-preserved-then-not-is_among
loop-place-preserved-then-not-is_among c =
    let g = c.args.grammar.now in
    let place = c.loop-place.place in
    let rule = get_or c.as_slice-rules.result.now place c.index-rules-place.result in
    let at : slice_get g.rules place ≡ Some rule = ap (λ (rs : List NamedRule). slice_get rs place) (sym c.as_slice-rules.ensures) ∙ rule_here c.as_slice-rules.result.now place c.index-rules-place.result c.loop-place-test.true in
    clear_more (λ (r : NamedRule). r.0) (IsBadInline g) g.rules place rule (slice_get_within g.rules place rule at) (sym (get_or_from_slice_get g.rules place rule rule at))
    (not_inlined g (told c.args.inline.now.keys) (graph_of c.args.rows.now) c.requires.file c.requires.inline c.requires.graph rule.0 (λ w. let e : true ≡ false = sym (c.is_among.ensures.1 w) ∙ c.if-not-is_among.true in cc))
    c.loop-place.invariant

pub returns-then-branch : goal.returns-then-branch
returns-then-branch c =
    let g = c.args.grammar.now in
    let place = c.loop-place.place in
    let rule = get_or c.as_slice-rules.result.now place c.index-rules-place.result in
    let at : slice_get g.rules place ≡ Some rule = ap (λ (rs : List NamedRule). slice_get rs place) (sym c.as_slice-rules.ensures) ∙ rule_here c.as_slice-rules.result.now place c.index-rules-place.result c.loop-place-test.true in
    let is = bad_at g (told c.args.inline.now.keys) (graph_of c.args.rows.now) c.requires.file c.requires.inline c.requires.graph place rule c.is_direct-direct.result c.in_ok-is_bad.field-0 at (c.is_among.ensures.0 c.if-not-is_among.false) c.is_direct-direct.ensures c.in_ok-is_bad.ensures in
    first_here (λ (r : NamedRule). r.0) (IsBadInline g) g.rules place rule (slice_get_within g.rules place rule at) (sym (get_or_from_slice_get g.rules place rule rule at)) (is.0 c.if-branch.true) c.loop-place.invariant

pub loop-place-preserved : goal.loop-place-preserved
loop-place-preserved c =
    let g = c.args.grammar.now in
    let place = c.loop-place.place in
    let rule = get_or c.as_slice-rules.result.now place c.index-rules-place.result in
    let at : slice_get g.rules place ≡ Some rule = ap (λ (rs : List NamedRule). slice_get rs place) (sym c.as_slice-rules.ensures) ∙ rule_here c.as_slice-rules.result.now place c.index-rules-place.result c.loop-place-test.true in
    let is = bad_at g (told c.args.inline.now.keys) (graph_of c.args.rows.now) c.requires.file c.requires.inline c.requires.graph place rule c.is_direct-direct.result c.in_ok-is_bad.field-0 at (c.is_among.ensures.0 c.if-not-is_among.false) c.is_direct-direct.ensures c.in_ok-is_bad.ensures in
    clear_more (λ (r : NamedRule). r.0) (IsBadInline g) g.rules place rule (slice_get_within g.rules place rule at) (sym (get_or_from_slice_get g.rules place rule rule at))
    (λ bad. let e : true ≡ false = sym (is.1 bad) ∙ c.if-branch.false in cc) c.loop-place.invariant

pub returns : goal.returns
returns c =
    let g = c.args.grammar.now in
    clear_all (λ (r : NamedRule). r.0) (IsBadInline g) g.rules c.loop-place.place (subst (λ (rs : List NamedRule). length rs ≤ c.loop-place.place) c.as_slice-rules.ensures c.loop-place-test.false) c.loop-place.invariant
