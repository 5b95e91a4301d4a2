use Rattle.std.proofs.Common.{◌∙◌, ap, Some, arith}
use Rattle.ts_numbering.specs.Keys.{rules_told}
use Rattle.ts_numbering.specs.Numberings.{lists_of, numbers_of}
use Rattle.ts_form.proofs.NameLemmas.{names_begin, names_more, names_all, at_place, told_long, trees_long, rule_token, token_within}
use Rattle.ts_form.proofs.names.names_by_token.Goals as goal

pub loop-at-init : goal.loop-at-init
loop-at-init c =
    let n = c.args.numbering.now in
    let count = c.in_ok-names.ensures.count in
    let len = c.len.ensures.len in
    let keys = trees_long n.survey.tokens.keys in
    names_begin (rules_told n.survey.named.entries) (lists_of n).tokens c.in_ok-names.names.items (omega (arith, count, len, keys)) c.in_ok-names.ensures.none

pub index_mut-requires : goal.index_mut-requires
index_mut-requires c =
    let n = c.args.numbering.now in
    let rules = rules_told n.survey.named.entries in
    let lt = c.loop-at-test.true in
    let long = told_long n.survey.named.entries in
    let r = at_place rules c.loop-at.at (omega (arith, lt, long)) in
    let is = c.rule_at-rule.ensures r.0 r.1 in
    let within = token_within (lists_of n).tokens (numbers_of n).token c.place_of.result c.rule_at-rule.result.tree.now c.requires.1.numbers.tokens
    (rule_token c.requires.0 n c.requires.1 c.loop-at.at (c.rule_at-rule.result.name.now, c.rule_at-rule.result.tree.now) (r.1 ∙ ap Some is)) c.place_of.ensures in
    let count = c.loop-at.invariant.count in
    omega (arith, within, count)

pub loop-at-preserved : goal.loop-at-preserved
loop-at-preserved c =
    let n = c.args.numbering.now in
    let rules = rules_told n.survey.named.entries in
    let lt = c.loop-at-test.true in
    let long = told_long n.survey.named.entries in
    let r = at_place rules c.loop-at.at (omega (arith, lt, long)) in
    let is = c.rule_at-rule.ensures r.0 r.1 in
    names_more rules (lists_of n).tokens (numbers_of n).token c.loop-at.names.items c.loop-at.at c.place_of.result c.rule_at-rule.result.name c.rule_at-rule.result.tree.now
    c.requires.1.numbers.tokens (r.1 ∙ ap Some is)
    (rule_token c.requires.0 n c.requires.1 c.loop-at.at (c.rule_at-rule.result.name.now, c.rule_at-rule.result.tree.now) (r.1 ∙ ap Some is)) c.place_of.ensures c.loop-at.invariant

pub returns : goal.returns
returns c =
    let n = c.args.numbering.now in
    let past = c.loop-at-test.false in
    let long = told_long n.survey.named.entries in
    names_all (rules_told n.survey.named.entries) (lists_of n).tokens c.loop-at.names.items c.loop-at.at (omega (arith, past, long)) c.loop-at.invariant
