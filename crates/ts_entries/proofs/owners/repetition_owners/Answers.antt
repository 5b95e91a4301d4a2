use Rattle.std.proofs.Common.{◌≡◌, ◌∙◌, sym, ap, subst, ◌-◌, ◌<◌, ◌+◌, ℕ, List, All, length, drop, arith}
use Rattle.std.specs.List.{Contains}
use Rattle.ts_core.specs.declared.symbol.Symbol.{Symbol}
use Rattle.ts_numbering.specs.Numberings.{lists_of, numbers_of}
use Rattle.ts_rules.specs.Sights.{NamedRule}
use Rattle.ts_entries.specs.Owners.{AreOwners, AreOwned, places_in}
use Rattle.ts_entries.proofs.OwnerLemmas.{places_within, owners_begin, owners_more, owners_all, rule_there, written, length_trees}
use Rattle.ts_entries.proofs.owners.repetition_owners.Goals as goal

pub loop-left-init : goal.loop-left-init
loop-left-init c =
    let x = lists_of c.args.numbering.now in
    let rules = c.as_slice-rules.result.now in
    let keys = length_trees c.args.numbering.now.survey.contents.keys in
    let len = c.in_ok-owners.ensures.len in
    let count = c.len.ensures.len in (
      omega arith,
      owners_begin c.args.grammar.now (numbers_of c.args.numbering.now) x c.requires.lists c.requires.numbers rules c.in_ok-owners.owners.items (length rules) (omega (arith, keys, len, count)) (omega arith),
    )

pub mark-requires : goal.mark-requires
mark-requires c =
    let g = c.args.grammar.now in
    let n = numbers_of c.args.numbering.now in
    let x = lists_of c.args.numbering.now in
    let m = length c.as_mut_slice.result.now in
    let rules = c.as_slice-rules.result.now in
    let rule = c.index-rules-left.result in
    let le = c.loop-left.invariant.0 in
    let lt : c.loop-left.left - 1 < length rules = omega (arith, le, c.loop-left-test.true) in
    let there : Contains g.rules rule = subst (λ (rs : List NamedRule). Contains rs rule) c.as_slice-rules.ensures (rule_there rules (c.loop-left.left - 1) rule lt c.index-rules-left.is) in
    let same : m ≡ length x.contents = ap length c.as_mut_slice.ensures.value ∙ c.loop-left.invariant.1.count in
    subst (λ (ks : List ℕ). All (λ (k : ℕ). k < m) ks) (sym (c.as_slice.ensures.value ∙ c.in_ok-places.ensures))
    (places_within g n x c.requires.lists c.requires.numbers rule m there same)

pub loop-left-preserved : goal.loop-left-preserved
loop-left-preserved c =
    let g = c.args.grammar.now in
    let n = numbers_of c.args.numbering.now in
    let x = lists_of c.args.numbering.now in
    let rules = c.as_slice-rules.result.now in
    let rule = c.index-rules-left.result in
    let i = c.loop-left.left - 1 in
    let old = c.loop-left.owners.items in
    let new = c.mark.new.owners in
    let le = c.loop-left.invariant.0 in
    let lt : i < length rules = omega (arith, le, c.loop-left-test.true) in
    let there : Contains g.rules rule = subst (λ (rs : List NamedRule). Contains rs rule) c.as_slice-rules.ensures (rule_there rules i rule lt c.index-rules-left.is) in
    let marks : AreOwned (places_in n x rule.1) c.chosen_symbol-owner.result old new
    = subst (λ (before : List Symbol). AreOwned (places_in n x rule.1) c.chosen_symbol-owner.result before new) c.as_mut_slice.ensures.value
    (subst (λ (ks : List ℕ). AreOwned ks c.chosen_symbol-owner.result c.as_mut_slice.result.now new) (c.as_slice.ensures.value ∙ c.in_ok-places.ensures) c.mark.ensures) in
    let next : i + 1 ≡ c.loop-left.left = omega (arith, c.loop-left-test.true) in
    let before : AreOwners g n x (drop (i + 1) rules) old = subst (λ (k : ℕ). AreOwners g n x (drop k rules) old) (sym next) c.loop-left.invariant.1 in
    let after : AreOwners g n x (drop i rules) new
    = owners_more g n x c.requires.lists c.requires.numbers rules old new i rule c.chosen_symbol-owner.result lt c.index-rules-left.is there c.chosen_symbol-owner.ensures marks before in
    let lengths : length new ≡ length old = marks.count in
    let len = c.as_mut_slice.ensures.len in
    let value : length c.as_mut_slice.result.now ≡ length old = ap length c.as_mut_slice.ensures.value in (
      omega (arith, le),
      subst (λ (ss : List Symbol). AreOwners g n x (drop i rules) ss) (sym (written c.loop-left.owners.len new old (omega (arith, lengths)) (omega (arith, lengths, len, value)))) after,
    )

pub returns : goal.returns
returns c =
    let g = c.args.grammar.now in
    let n = numbers_of c.args.numbering.now in
    let x = lists_of c.args.numbering.now in
    let rules = c.as_slice-rules.result.now in
    let none : c.loop-left.left ≡ 0 = omega (arith, c.loop-left-test.false) in
    owners_all g n x c.requires.lists c.requires.numbers c.loop-left.owners.items
    (subst (λ (rs : List NamedRule). AreOwners g n x (drop 0 rs) c.loop-left.owners.items) c.as_slice-rules.ensures
    (subst (λ (k : ℕ). AreOwners g n x (drop k rules) c.loop-left.owners.items) none c.loop-left.invariant.1))
